-- A handle with a null pointer owns only facts.
use types.Kit.{fpack}
use denote.{Triple.Entry.on_entry}
use Rattle.pfs_c.proofs.HandleSteps.{◌≡◌, List, [], ◌∷◌, Val, refl, None, proved, global, global-lowered, global-lowers, Prepared}
use Rattle.pfs_c.proofs.HandleSteps.{lowered, handle, ftrue, ‵, raw, ◌$◌, ◌∵◌, !, qed, use1, join, suffices, done, drop}
use Rattle.pfs_c.proofs.HandleSteps.{agg, enter, lit, and_then, no_more, returns, alloc_all, pass_all, free_all, look_at}
use Rattle.pfs_c.proofs.HandleSteps.{get, sets, yes, null_ptr, plain, nothing, Stays, stay_dropped, Goes-dropped}
use Rattle.pfs_c.proofs.HandleSteps.{ends_at, says, global-typed, handle-typed, handle-made}
use Rattle.pfs_c.specs.contracts.handle.Prepared.none as f
use Rattle.pfs_c.proofs.handle.Prepared.none.Statement.{statement}
use Rattle.pfs_c.proofs.handle.Prepared.none.Code as code

pub none_spec : {M : Type 1} → statement M
none_spec 𝓤 𝓛 𝓜 𝓡 wired =
    let c = f.clauses 𝓛 𝓜.mem 𝓡.returns in
    let stayed : Stays f.ended.signature.params f.ended.kept = (stay_dropped _ yes, tt) in
    proved 𝓛 f.ended stayed c 𝓜 𝓡 (Goes-dropped 𝓛 0 (plain (λ _. global)) yes (λ κs x w. refl), tt)
    f.Key.name code.function (code.unfolded 𝓤 𝓛.H 𝓜 𝓡 wired)
    (λ κs. ((λ a. global-lowered a ∷ []), tt)) (λ κs. (global-lowers.val_is, tt)) (λ κs qs bounds a _ are.
    let new : Prepared = record { at = null_ptr; alloc = a.0; shop = None } in
    let word : List Val = global-lowered a.0 ∷ [] in
    qed 𝓛 (raw (on_entry 𝓛 f.signature κs qs a (word, tt)) ∷ ‵ ftrue ∷ []) ∵ drop ! $ drop ! $
    enter ! _ _ _ _ _ $ alloc_all ! (λ l. pass_all ! refl (global-typed 𝓛 a.0) $
    sets ! (agg ! (and_then ! (lit ! tt) (and_then ! (get ! refl) (no_more !)))) refl (handle-typed 𝓛 new).0 $
    returns ! (look_at ! 0 refl) $ free_all ! refl $
    suffices ! _ (ends_at 𝓛 f.ended stayed c ((κs, qs, bounds, a, (word, tt)), tt) (lowered new) new (tt, tt) (tt, tt)) $ says ! refl $
    nothing ! $ fpack ! (null_ptr ≡ null_ptr) (λ _. ftrue) refl $
    use1 𝓛 (‵ (handle.own_val new (lowered new ∷ []))) (handle-made 𝓛 new) $
    nothing ! $ nothing ! $ join ! $ nothing ! $ done !))
