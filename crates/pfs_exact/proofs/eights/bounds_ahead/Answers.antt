use Rattle.std.proofs.Common.{◌≡◌, ℕ, ◌+◌, ◌-◌, ◌*◌, ◌<◌, [], ◌∷◌, ◌++◌, get_or, inl, inr, ap, ◌∙◌, sym, subst, arith}
use Rattle.std.proofs.lemmas.Bool.{cases_lt}
use Rattle.pfs_exact.specs.Private.Nodes.{NoneShorter}
use Rattle.pfs_exact.proofs.eights.bounds_ahead.Goals as goal

pub loop-block-preserved : goal.loop-block-preserved
loop-block-preserved c =
    let shop = c.args.instance.now.shop in
    let at = c.loop-block in
    let block = at.block in
    let long = at.invariant.long in
    record {
      long = c.store.ensures.length ∙ long;
      done = λ front back are job less inside. elim (cases_lt job (8 * block)) [
        | inl earlier ↦ subst (NoneShorter shop (front ++ job ∷ []) back) (sym (c.store.ensures.below job earlier))
            (at.invariant.done front back are job earlier inside)
        | inr later ↦
            let lane : ℕ = job - 8 * block in
            let small : lane < 8 = omega arith in
            let same : 8 * block + lane ≡ job = omega arith in
            let number : get_or c.bound_ahead.result.values lane 0 ≡ get_or c.store.new.to job 0 =
            sym (c.store.ensures.here lane small) ∙ ap (λ k. get_or c.store.new.to k 0) same in
            subst (NoneShorter shop (front ++ job ∷ []) back) number
            (subst (λ job. NoneShorter shop (front ++ job ∷ []) back (get_or c.bound_ahead.result.values lane 0)) same
            (c.bound_ahead.ensures front back are lane small (omega arith)))
      ];
    }

pub returns-clause-bounds : goal.returns-clause-bounds
returns-clause-bounds c = λ front back are job less inside. c.loop-block.invariant.done front back are job (omega arith) inside
