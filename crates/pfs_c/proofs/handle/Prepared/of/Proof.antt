-- The memory of a box goes to a handle.
use mir.{Syntax.method, Syntax.no_args, Val.vstruct}
use base.{Fml.fsep, Logic.comm∗, Logic.emp∗}
use types.Kit.{feq_l, rewrite, show}
use types.ByLocal.{lands_as}
use denote.{Exit.no, RawPtr.RawPtr, RawPtr.ptr_val, Steps.only, Struct.Tuple.Tuple, Triple.Call.calls_at}
use denote.{Triple.Carry.beside, Triple.Carry.spared, Triple.Clauses.closing, Triple.Spec.Meets, Triple.Spec.Spec}
use denote.{Triple.Table.run_framed, Triple.Table.widened}
use denote.Param.Glue as glue
use Rattle.std_alloc.specs.contracts.boxed.Box.into_raw_with_allocator as g
use Rattle.std_alloc.proofs.boxed.Box.into_raw_with_allocator.Met.{met as raw-met}
use Rattle.pfs_c.specs.contracts.pfs_c++kept++Kept+Destruct.drop as kept-drop
use Rattle.pfs_c.proofs.pfs_c++kept++Kept+Destruct.drop.Symbol.{as_method}
use Rattle.pfs_c.proofs.pfs_c++kept++Kept+Destruct.drop.Met.{met as drop-met}
use Rattle.pfs_c.proofs.HandleSteps.{◌≡◌, List, [], ◌∷◌, ◌++◌, refl, sym, ap, ◌∙◌, Some, proved, box_owns, Global}
use Rattle.pfs_c.proofs.HandleSteps.{global, ghosts, dict, global-lowers, passed, kept, handle, Prepared, lowered, Ura, Dict}
use Rattle.pfs_c.proofs.HandleSteps.{dnil, impl, tnil, Val, of_list, Fml, ftrue, full_share, emp, sep, via, id⊢, Model, fact}
use Rattle.pfs_c.proofs.HandleSteps.{Running, tables, Logic, sem, ‵, raw, ◌⊛◌, some, later, ◌$◌, ◌∵◌, !, qed, use1, use2}
use Rattle.pfs_c.proofs.HandleSteps.{await, pick, split, join, fsplit, fpick, suffices, keep, move, drop, done, agg, sub}
use Rattle.pfs_c.proofs.HandleSteps.{whole, enter, of_opd, and_then, no_more, returns, fld, stop, alloc_all, pass_all}
use Rattle.pfs_c.proofs.HandleSteps.{free_all, look_at, get, get_in, sets, yes, Is, shows, glues, Ptr, rawptr_Lawful, plain}
use Rattle.pfs_c.proofs.HandleSteps.{heard, nothing, peeks, Ended, Lasts, lasts, triple_of, Contract, framed, Stays}
use Rattle.pfs_c.proofs.HandleSteps.{stay_dropped, Goes-dropped, ends_at, says, A, A-laws, T, T-laws, boxed, boxed-laws}
use Rattle.pfs_c.proofs.HandleSteps.{drops-a, global-typed, handle-typed, handle-made, κs-static, tokens, at-static}
use Rattle.pfs_c.specs.contracts.handle.Prepared.of as f
use Rattle.pfs_c.proofs.handle.Prepared.of.Statement.{statement}
use Rattle.pfs_c.proofs.handle.Prepared.of.Code as code

abbrev drops-t : Dict
drops-t = impl ("pfs_c::pfs_c++kept++Kept+Destruct::drop" ∷ []) tnil dnil

abbrev given : Ended
given = g.ended T A ghosts dict drops-a drops-t

module _ {M : Type 1} (𝓤 : Ura M) (𝓛 : Logic 𝓤) (𝓜 : Model 𝓤 𝓛.H) (𝓡 : Running 𝓤 𝓛.H 𝓜) where
  abbrev G : Contract 𝓤
  G = triple_of 𝓛 given.signature (g.spec T A ghosts dict drops-a drops-t 𝓛 𝓜.mem 𝓡.returns)

  -- The drop of a kept instance asks nothing, and nothing is read of what it leaves.
  kept-glue : Meets 𝓛 kept-drop.signature (𝓡.run (𝓡.env (method drops-t 0 no_args)))
      (kept-drop.spec 𝓛 𝓜.mem 𝓡.returns) → glue.Met 𝓛 𝓜 𝓡 𝓡.env T drops-t
  kept-glue met =
      let run = 𝓡.run (𝓡.env (method drops-t 0 no_args)) in
      let framed-run = run_framed 𝓤 𝓛.H 𝓜 𝓡 (𝓡.env (method drops-t 0 no_args)) in
      let said : Spec 𝓤 kept-drop.signature = kept-drop.spec 𝓛 𝓜.mem 𝓡.returns in
      let spent : Spec 𝓤 kept-drop.signature = closing 𝓛 (record { signature = kept-drop.signature; kept = (no, tt) })
      (λ κs a. record { ghost = Unit {0}; requires = λ _. emp 𝓤; ensures = λ _ r e. emp 𝓤 }) in
      spared 𝓛 kept-drop.signature run framed-run 1 (T.lives, tt) spent
      (beside 𝓛 kept-drop.signature run framed-run said spent (λ κs a x. x) (λ κs a x. emp 𝓤)
      (λ κs a x. via 𝓤 (sep 𝓤 (emp 𝓤) (emp 𝓤)) (emp∗ 𝓤 (emp 𝓤)) (comm∗ 𝓤 (emp 𝓤) (emp 𝓤)))
      (λ κs a x r. qed 𝓛 (raw ((said κs a).ensures x r) ∷ raw (emp 𝓤) ∷ []) ∵ keep ! [] $
      show ! (λ (ws : Unit {0} × Unit {0}). sep 𝓤 (sem 𝓛 (fsep ftrue ftrue)) (emp 𝓤)) (tt, tt) $
      nothing ! $ nothing ! $ nothing ! $ join ! $ done !)
      met)

pub of_spec : {M : Type 1} → statement M
unfolding Rattle.pfs_c.proofs.Destruct++none.drop.Code.code
of_spec 𝓤 𝓛 𝓜 𝓡 wired =
    let γ = 𝓡.env in
    let c = f.clauses 𝓛 𝓜.mem 𝓡.returns in
    let stayed : Stays f.ended.signature.params f.ended.kept = (stay_dropped _ yes, tt) in
    let meets = raw-met 𝓤 𝓛 𝓜 𝓡 (code.calls-std_alloc::boxed::Box::into_raw_with_allocator γ wired) T A T-laws A-laws ghosts dict drops-a drops-t
    (passed γ (code.calls-std_heap::GlobalAllocator::allocate γ wired) (code.calls-std_heap::GlobalAllocator::deallocate γ wired) (code.calls-std_heap::GlobalAllocator::grow γ wired) (code.calls-std_heap::GlobalAllocator::shrink γ wired) _ 𝓤 𝓛 𝓜 𝓡)
    (glues "pfs_c::Destruct++none::drop" γ (code.calls-pfs_c::Destruct++none::drop γ wired) A A-laws _ 𝓤 𝓛 𝓜 𝓡)
    (kept-glue 𝓤 𝓛 𝓜 𝓡 (widened 𝓤 𝓛.H _ 𝓜 𝓡 γ _ _ (as_method γ (code.calls-pfs_c::pfs_c++kept++Kept+Destruct::drop γ wired) (method drops-t 0 no_args) refl)
    (drop-met 𝓤 𝓛 𝓜 𝓡 (code.calls-pfs_c::pfs_c++kept++Kept+Destruct::drop γ wired)))) in
    proved 𝓛 f.ended stayed c 𝓜 𝓡 (Goes-dropped 𝓛 0 (plain (λ _. boxed)) yes (λ κs x w. refl), tt)
    f.Key.name code.function (code.unfolded 𝓤 𝓛.H 𝓜 𝓡 wired)
    (λ κs. ((λ x. boxed-laws.val x ∷ []), tt)) (λ κs. (boxed-laws.tells, tt)) (λ κs qs bounds a _ are.
    let x = a.0 in
    let word : List Val = boxed-laws.val x ∷ [] in
    let memory : Ptr → Global → Fml = λ at alloc. box_owns (ghosts.dealloc_token alloc) kept at x.value in
    let z : (G 𝓤 𝓛 𝓜 𝓡).Ghost = ((κs-static, (full_share, (full_share, tt)), tt, (x, tt), (word, tt)), tt) in
    let typed = ((boxed-laws.lawful 𝓛).typed x _ are.0) in
    qed 𝓛 ((‵ ftrue ⊛ ‵ (boxed.own_val x word) ⊛ ‵ ftrue) ∷ ‵ ftrue ∷ []) ∵
    split ! $ drop ! $ use2 𝓛 (raw ((G 𝓤 𝓛 𝓜 𝓡).pre z))
    (at-static 𝓛 (sep 𝓤 (sem 𝓛 (boxed.own_val x word)) (sem 𝓛 ftrue)) (sem 𝓛 ftrue)) $
    enter ! _ _ _ _ _ $ alloc_all ! (λ l. pass_all ! refl typed $ sets ! (of_opd ! (get ! refl)) refl typed.0 $
    calls_at ! (framed 𝓤 𝓛.H 𝓜 (tables 𝓤 𝓛.H 𝓜 𝓡 γ)) (G 𝓤 𝓛 𝓜 𝓡) meets z (and_then ! (get ! refl) (no_more !)) (λ w.
    use1 𝓛 (later (some (λ (r : Ptr × Global). (‵ tokens ⊛ ‵ ((Tuple (RawPtr ∷ global ∷ [])).own_val r (w ∷ []))) ⊛
    some (λ (ws : Lasts given κs-static (x, tt)). ‵ (lasts given κs-static (x, tt) ws) ⊛ raw (fact 𝓤 (r.1 ≡ x.alloc)) ⊛ ‵ (memory r.0 x.alloc))))) (id⊢ 𝓤 _) $
    await ! tt $ pick ! (λ r. split ! $ split ! $ drop ! $ fpick ! (λ words. fsplit ! $
    feq_l ! (λ are-both. fsplit ! $ feq_l ! (λ is-at. fsplit ! $
    peeks ! global (Is global) (shows 𝓛 global) r.1 words.1.0 (λ is-alloc.
    let new : Prepared = record { at = r.0; alloc = r.1; shop = Some x.value } in
    let pointer-fits = ((rawptr_Lawful 𝓛).typed r.0 _ refl).0 in
    let word-is = ap only (are-both ∙ ap (λ us. vstruct (of_list (us ++ (words.1.0 ++ []))) ∷ []) is-at
    ∙ ap (λ us. vstruct (of_list (ptr_val r.0 ∷ (us ++ []))) ∷ []) (global-lowers.val_is r.1 words.1.0 is-alloc)) in
    move ! (2 ∷ []) $ pick ! (λ ws. split ! $ drop ! $ split ! $
    heard ! _ (λ same. rewrite ! 0 (λ alloc. ‵ (memory r.0 alloc)) (sym same) refl $
    lands_as ! word-is refl (handle-typed 𝓛 new).0 $
    sets ! (of_opd ! (get_in ! (fld ! refl (stop !)) (sub ! 0 refl (whole !)))) refl pointer-fits $
    sets ! (of_opd ! (get_in ! (fld ! refl (stop !)) (sub ! 1 refl (whole !)))) refl (global-typed 𝓛 r.1).0 $
    sets ! (of_opd ! (get ! refl)) refl pointer-fits $
    sets ! (agg ! (and_then ! (get ! refl) (and_then ! (get ! refl) (no_more !)))) refl (handle-typed 𝓛 new).0 $
    returns ! (look_at ! 0 refl) $ free_all ! refl $ keep ! (0 ∷ []) $
    suffices ! _ (ends_at 𝓛 f.ended stayed c ((κs, qs, bounds, a, (word, tt)), tt) (lowered new) new (tt, tt) (tt, tt)) $ says ! refl $
    use1 𝓛 (‵ (handle.own_val new (lowered new ∷ []))) (handle-made 𝓛 new) $
    nothing ! $ nothing ! $ join ! $ nothing ! $ done !))))))))))
