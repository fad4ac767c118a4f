-- The memory of a handle goes to a box, if the pointer is not null.
use mir.Raw.{raw as bare}
use mir.{Syntax.a_type, Syntax.dcons, Val.vptr}
use base.{Fml.feq, Logic.SProp, Logic.guard, Logic.guard_i, Logic.fst∗, Logic.never, Logic.snd∗}
use prog.Wp.{WpFn}
use contract.{Lifetimes.Lfts, Lifetimes.Shares, Lifetimes.AllOutlive, Monad.fact_use, Running.MachineTables}
use types.Kit.{given, prop, at_ret, feq_i, learn, regoal}
use types.Match.{live}
use types.Run.{bin, first, blocks, branches, skips, exec, returns_within}
use types.ByLocal.{lands_last, env}
use denote.{Memory.lone, Param.bounded, RawPtr.block_ptr, RawPtr.in_a_block, RawPtr.Testable, RawPtr.tests_null}
use denote.{Triple.Call.calls_at_last, Triple.Clauses.Clauses, Triple.Entry.on_entry, Triple.Statement.Triple}
use denote.{Triple.Walked.walk_of}
use Rattle.core.specs.Ptr.{points_to}
use Rattle.core.proofs.option.Made.{Some-of, none_of}
use Rattle.core.specs.contracts.option.Option as option
use Rattle.std_alloc.proofs.ResultValues.{and_tt}
use Rattle.std_alloc.specs.contracts.boxed.Box.from_raw as g
use Rattle.std_alloc.proofs.boxed.Box.from_raw.Met.{met as raw-met}
use Rattle.std_heap.proofs.GlobalToken.{dealloc_token-Testable}
use Rattle.pfs_c.proofs.HandleSteps.{◌≡◌, List, [], ◌∷◌, refl, sym, ap, lit<, Option, None, Some, proved, box_owns}
use Rattle.pfs_c.proofs.HandleSteps.{Global, global, ghosts, dict, global-lowered, passed, kept, handle, Prepared}
use Rattle.pfs_c.proofs.HandleSteps.{lowered, lowers, Ura, dnil, Val, of_list, Fml, ftrue, full_share, ent, sep, via}
use Rattle.pfs_c.proofs.HandleSteps.{id⊢, Model, fact, Running, tables, Logic, sem, ‵, raw, ◌⊛◌, some, later, ◌$◌, ◌∵◌}
use Rattle.pfs_c.proofs.HandleSteps.{ !, qed, use0, use1, use2, await, pick, split, join, fsplit, fpick, suffices, keep}
use Rattle.pfs_c.proofs.HandleSteps.{move, drop, done, agg, sub, whole, enter, of_opd, lit, and_then, no_more, returns}
use Rattle.pfs_c.proofs.HandleSteps.{fld, stop, alloc_all, pass_all, free_all, look_at, get, get_in, sets, yes, Is}
use Rattle.pfs_c.proofs.HandleSteps.{shows, glues, Ptr, null_ptr, rawptr_Lawful, plain, heard, nothing, owned, peeks}
use Rattle.pfs_c.proofs.HandleSteps.{Ended, Lasts, lasts, triple_of, Contract, framed, Stays, stay_dropped}
use Rattle.pfs_c.proofs.HandleSteps.{Goes-dropped, ends_at, says, A, A-laws, T, T-laws, boxed, boxed-laws, drops-a}
use Rattle.pfs_c.proofs.HandleSteps.{global-is, global-made, global-typed, handle-typed, κs-static, tokens, at-static}
use Rattle.pfs_c.specs.contracts.handle.Prepared.into_box as f
use Rattle.pfs_c.proofs.handle.Prepared.into_box.Statement.{statement}
use Rattle.pfs_c.proofs.handle.Prepared.into_box.Code as code

abbrev stayed : Stays f.ended.signature.params f.ended.kept
stayed = (stay_dropped _ yes, tt)

abbrev given-back : Ended
given-back = g.ended T A ghosts dict drops-a

abbrev owned-by : Global → Ptr → kept.Denot → Fml
owned-by alloc at x = box_owns (ghosts.dealloc_token alloc) kept at x

module _ {M : Type 1} (𝓤 : Ura M) (𝓛 : Logic 𝓤) (𝓜 : Model 𝓤 𝓛.H) (𝓡 : Running 𝓤 𝓛.H 𝓜) where
  abbrev 𝓣 : MachineTables 𝓤 𝓛.H 𝓜
  𝓣 = tables 𝓤 𝓛.H 𝓜 𝓡 𝓡.env

  abbrev c : Clauses 𝓤 f.ended
  c = f.clauses 𝓛 𝓜.mem 𝓡.returns

  abbrev G : Contract 𝓤
  G = triple_of 𝓛 (g.signature T A ghosts dict drops-a) (g.spec T A ghosts dict drops-a 𝓛 𝓜.mem 𝓡.returns)

  -- Who may free a block may compare its address with null.
  testable : (alloc : Global) (at : Ptr) (x : kept.Denot)
      → ent 𝓤 (sem 𝓛 (owned-by alloc at x)) (guard 𝓤 (Testable at) (sem 𝓛 (owned-by alloc at x)))
  testable alloc at x =
      let token = sem 𝓛 (ghosts.dealloc_token alloc (bare (lone kept.mir)) at) in
      fact_use 𝓤 (Testable at) (via 𝓤 token (snd∗ 𝓤 (sem 𝓛 (points_to kept at x)) token)
      (dealloc_token-Testable 𝓛 alloc (bare (lone kept.mir)) at)) (guard_i 𝓤 (Testable at) (sem 𝓛 (owned-by alloc at x)))

  module _ (κs : Lfts 0) (qs : Shares 0) (bounds : AllOutlive 0 f.signature.outlives κs)
      (meets : Triple 𝓤 (𝓣.C (g.Key.name (bounded (a_type ∷ a_type ∷ []) (T, (A, tt)) (dcons dict (dcons drops-a
      dnil))))) G) where
    abbrev y : Prepared → (walk_of 𝓛 f.ended stayed c).Ghost
    y h = ((κs, qs, bounds, (h, tt), (lowered h ∷ [], tt)), tt)

    abbrev post : Prepared → Val → SProp 𝓤
    post h = (walk_of 𝓛 f.ended stayed c).post (y h)

    abbrev Runs : Prepared → SProp 𝓤
    Runs h = WpFn 𝓤 𝓛.H 𝓣.C 𝓣.Λ code.function (lowered h ∷ []) (post h)

    abbrev Walk : Prepared → Type 1
    Walk h = ent 𝓤 (sep 𝓤 (on_entry 𝓛 f.signature κs qs (h, tt) (lowered h ∷ [], tt)) (sem 𝓛 ftrue)) (Runs h)

    walk : (at : Ptr) (alloc : Global) (shop : Option kept.Denot)
        → Walk (record { at = at; alloc = alloc; shop = shop })
    walk at alloc None =
        let h : Prepared = record { at = at; alloc = alloc; shop = None } in
        let none : Prepared = record { at = null_ptr; alloc = alloc; shop = None } in
        qed 𝓛 ((‵ ftrue ⊛ ‵ (handle.own_val h (lowered h ∷ [])) ⊛ ‵ ftrue) ∷ ‵ ftrue ∷ []) ∵
        split ! $ drop ! $ split ! $ fsplit ! $ move ! (1 ∷ []) $ fpick ! (λ is_null. drop ! $ drop ! $ drop ! $ drop ! $
        regoal ! (λ (p : Ptr). prop (Runs (record h { at = p }))) is_null refl $
        enter ! _ _ _ _ _ $ alloc_all ! (λ l. pass_all ! refl (handle-typed 𝓛 none) $
        sets ! (of_opd ! (get_in ! (fld ! refl (stop !)) (sub ! 0 refl (whole !)))) refl ((rawptr_Lawful 𝓛).typed null_ptr _ refl).0 $
        sets ! (of_opd ! (get_in ! (fld ! refl (stop !)) (sub ! 1 refl (whole !)))) refl (global-typed 𝓛 alloc).0 $
        sets ! (of_opd ! (get ! refl)) refl ((rawptr_Lawful 𝓛).typed null_ptr _ refl).0 $
        sets ! (bin ! (get ! refl) (lit ! tt) (tests_null null_ptr (lit< tt))) refl (tt, tt) $
        first ! $ branches ! (get ! refl)
        (λ _. sets ! (agg ! (and_then ! (lit ! tt) (no_more !))) refl (tt, (record { fits = lit< tt }, tt)) $
        returns_within ! (post none) refl (look_at ! 0 refl) $ free_all ! refl $
        use0 𝓛 (‵ ((option.the_row boxed).own_val None (live 0 (of_list []) ∷ []))) (none_of 𝓛 boxed) $
        suffices ! _ (ends_at 𝓛 f.ended stayed c (y none) (live 0 (of_list [])) None (tt, tt) (tt, tt)) $ says ! refl $
        nothing ! $ nothing ! $ join ! $ nothing ! $ done !)
        (λ holds. absurd holds)))
    walk at alloc (Some x) =
        let h : Prepared = record { at = at; alloc = alloc; shop = Some x } in
        qed 𝓛 ((‵ ftrue ⊛ ‵ (handle.own_val h (lowered h ∷ [])) ⊛ ‵ ftrue) ∷ ‵ ftrue ∷ []) ∵
        split ! $ drop ! $ split ! $ fsplit ! $ keep ! (1 ∷ []) $
        in_a_block ! at (λ p. owned-by alloc p x) (fst∗ 𝓤 (never 𝓤) (sem 𝓛 (ghosts.dealloc_token alloc (bare (lone kept.mir)) null_ptr))) (λ b o is_block.
        let there : Prepared = record h { at = block_ptr b o } in
        let word : List Val = vptr b o ∷ [] in
        let args : Global × (Ptr × Unit {0}) = (alloc, (block_ptr b o, tt)) in
        let z : G.Ghost = ((κs-static, (full_share, (full_share, tt)), tt, args, (global-lowered alloc ∷ [], (word, tt))), x) in
        regoal ! (λ (p : Ptr). prop (Runs (record h { at = p }))) is_block refl $
        use1 𝓛 (given (Testable (block_ptr b o)) (‵ (owned-by alloc (block_ptr b o) x))) (testable alloc (block_ptr b o) x) $ learn ! (λ may.
        enter ! _ _ _ _ _ $ alloc_all ! (λ l. pass_all ! refl (handle-typed 𝓛 there) $
        sets ! (of_opd ! (get_in ! (fld ! refl (stop !)) (sub ! 0 refl (whole !)))) refl (tt, tt) $
        sets ! (of_opd ! (get_in ! (fld ! refl (stop !)) (sub ! 1 refl (whole !)))) refl (global-typed 𝓛 alloc).0 $
        sets ! (of_opd ! (get ! refl)) refl (tt, tt) $
        sets ! (bin ! (get ! refl) (lit ! tt) (tests_null (block_ptr b o) may)) refl (tt, tt) $
        first ! $ branches ! (get ! refl)
        (λ holds. absurd holds)
        (λ _. skips ! $ exec ! 𝓣.C 𝓣.Λ (env code.Mir.locals l) code.Mir.t-6 (at_ret (env code.Mir.locals l) (post there)) $
        first ! $ blocks ! $ sets ! (of_opd ! (get ! refl)) refl (global-typed 𝓛 alloc).0 $
        sets ! (of_opd ! (get ! refl)) refl (tt, tt) $ sets ! (of_opd ! (get ! refl)) refl (tt, tt) $
        nothing ! $ feq_i ! (List Val) word word refl $ join ! $
        owned ! global (Is global) (global-made 𝓛) alloc (global-lowered alloc ∷ []) (global-is alloc) $ join ! $
        use2 𝓛 (raw (G.pre z)) (at-static 𝓛 (sep 𝓤 (sem 𝓛 (global.own_val alloc (global-lowered alloc ∷ [])))
        (sep 𝓤 (sem 𝓛 (feq (List Val) word word)) (sem 𝓛 ftrue))) (sem 𝓛 (owned-by alloc (block_ptr b o) x))) $
        calls_at_last ! (framed 𝓤 𝓛.H 𝓜 𝓣) G meets z (and_then ! (get ! refl) (and_then ! (get ! refl) (no_more !))) (λ w.
        use1 𝓛 (later (some (λ (r : boxed.Denot). (‵ tokens ⊛ ‵ (boxed.own_val r (w ∷ []))) ⊛
        some (λ (ws : Lasts given-back κs-static args). ‵ (lasts given-back κs-static args ws) ⊛ raw (fact 𝓤 (r.value ≡ x)) ⊛ raw (fact 𝓤 (r.alloc ≡ alloc)))))) (id⊢ 𝓤 _) $
        await ! tt $ pick ! (λ r. split ! $ split ! $ drop ! $ peeks ! boxed (Is boxed) (shows 𝓛 boxed) r (w ∷ []) (λ is.
        let fits = (boxed-laws.lawful 𝓛).typed r (w ∷ []) is in
        move ! (1 ∷ []) $ pick ! (λ ws. split ! $ drop ! $ split ! $ heard ! _ (λ is_value. drop ! $
        lands_last ! refl fits.0 $
        exec ! 𝓣.C 𝓣.Λ (env code.Mir.locals l) code.Mir.t-7 (at_ret (env code.Mir.locals l) (post there)) $
        sets ! (of_opd ! (get ! refl)) refl fits.0 $
        sets ! (agg ! (and_then ! (lit ! tt) (and_then ! (get ! refl) (no_more !)))) refl
        (and_tt _ fits.0.0, (record { fits = lit< tt }, (fits.0.1, tt))) $
        returns ! (look_at ! 0 refl) $ free_all ! refl $
        use1 𝓛 (‵ ((option.the_row boxed).own_val (Some r) (live 1 (of_list (w ∷ [])) ∷ []))) (Some-of 𝓛 boxed r w) $
        suffices ! _ (ends_at 𝓛 f.ended stayed c (y there) (live 1 (of_list (w ∷ []))) (Some r) (tt, tt) (tt, tt)) $ says ! (ap Some (sym is_value)) $
        nothing ! $ nothing ! $ join ! $ nothing ! $ done !)))))))))

pub into_box_spec : {M : Type 1} → statement M
unfolding Rattle.pfs_c.proofs.Destruct++none.drop.Code.code
into_box_spec 𝓤 𝓛 𝓜 𝓡 wired =
    let γ = 𝓡.env in
    let meets = raw-met 𝓤 𝓛 𝓜 𝓡 (code.calls-std_alloc::boxed::Box::from_raw γ wired) T A T-laws A-laws ghosts dict drops-a
    (passed γ (code.calls-std_heap::GlobalAllocator::allocate γ wired) (code.calls-std_heap::GlobalAllocator::deallocate γ wired) (code.calls-std_heap::GlobalAllocator::grow γ wired) (code.calls-std_heap::GlobalAllocator::shrink γ wired) _ 𝓤 𝓛 𝓜 𝓡)
    (glues "pfs_c::Destruct++none::drop" γ (code.calls-pfs_c::Destruct++none::drop γ wired) A A-laws _ 𝓤 𝓛 𝓜 𝓡) in
    proved 𝓛 f.ended stayed (c 𝓤 𝓛 𝓜 𝓡) 𝓜 𝓡 (Goes-dropped 𝓛 0 (plain (λ _. handle)) yes (λ κs x w. refl), tt)
    f.Key.name code.function (code.unfolded 𝓤 𝓛.H 𝓜 𝓡 wired)
    (λ κs. ((λ h. lowered h ∷ []), tt)) (λ κs. (lowers.val_is, tt)) (λ κs qs bounds a _ are.
    walk 𝓤 𝓛 𝓜 𝓡 κs qs bounds meets a.0.at a.0.alloc a.0.shop)
