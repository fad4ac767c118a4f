use Rattle.std.proofs.Common.{sym, subst, arith}
use Rattle.std.proofs.lemmas.List.Elements.{All-set, All-take}
use Rattle.pfs_beam.specs.Private.Nodes.{AreChildren, IsChild}
use Rattle.pfs_beam.proofs.picks.take_chosen.Goals as goal

pub loop-number-preserved : goal.loop-number-preserved
loop-number-preserved c =
    let invariant = c.loop-number.invariant in
    record {
      capacity = invariant.capacity;
      len = invariant.len;
      few = invariant.few;
      all = invariant.all;
      numbers = invariant.numbers;
      kept = λ nodes first end are.
          let before = invariant.kept nodes first end are in
          let child = c.index-in-loop-number.result.now in
          let from = c.index.result.now in
          let small = invariant.numbers c.loop-number.number from (omega (arith, c.loop-number-test.true)) in
          All-set (IsChild nodes first end) c.loop-number.children.items c.loop-number.number child
          (subst (IsChild nodes first end) (sym c.index-in-loop-number.ensures)
          (before from child (omega (arith, small, c.index.ensures, invariant.len)))) before;
    }

pub returns-clause-kept : goal.returns-clause-kept
returns-clause-kept c = λ nodes first end are.
    subst (AreChildren nodes first end) (sym c.truncate-2.ensures.items)
    (All-take (IsChild nodes first end) _ c.loop-number.children.items (c.loop-number.invariant.kept nodes first end are))
