use Rattle.std.proofs.Common.{suc, ◌≡◌, ◌-◌, map, get_or, length, subst, ap, ◌∙◌, refl, arith, inl, inr}
use Rattle.pfs_wave.specs.Private.Blocks.{IsColumn, IsStep, vectors_of}
use Rattle.pfs_wave.proofs.Steps.{down_next}
use Rattle.pfs_wave.proofs.StepTables.{read_as}
use Rattle.pfs_wave.proofs.TailCells.{step_tails_none, step_tails_more}
use Rattle.pfs_wave.proofs.tails.step_tails.Goals as goal

pub loop-passed-init : goal.loop-passed-init
loop-passed-init g c =
    let lanes = g.V.Band.lanes in
    let kept = g.V.Times.Stored.lanes in
    step_tails_none g.V.Band.Holds g.V.Band.itself lanes g.row.N (vectors_of (map kept c.args.times.now))
    (vectors_of (map lanes c.chosen-after.result.now)) (lanes c.args.first) (g.met.V.Band.eight c.args.first)
    c.args.now.now
    c.args.row.now (lanes c.down-tail.result) c.told-now c.requires.row
    (λ lane lt. ap (λ l. get_or l lane 0) c.down-tail.ensures ∙ down_next 8 _ lane (g.met.V.Band.eight c.args.first) lt)

pub loop-passed-preserved : goal.loop-passed-preserved
loop-passed-preserved g c =
    let lanes = g.V.Band.lanes in
    let kept = g.V.Times.Stored.lanes in
    let count = g.row.N in
    let after = c.chosen-after.result.now in
    let times = c.args.times.now in
    let first = c.args.first in
    let so_far = c.loop-passed.invariant in
    let inside = c.loop-passed-test.true in
    let k = count - 1 - c.loop-passed.passed in
    let after_long : length after ≡ count =
    elim c.chosen-after.ensures [ inl is ↦ ap length is ∙ c.told-now | inr is ↦ ap length is ∙ c.requires.after ] in
    let times_long = c.requires.times in
    let above = read_as lanes after k c.index-after-k.result (omega arith) c.index-after-k.is in
    let time = c.load.ensures ∙ read_as kept times k c.index-times-k.result (omega arith) c.index-times-k.is in
    step_tails_more g.V.Band.Holds g.V.Band.itself lanes count (vectors_of (map kept times))
    (vectors_of (map lanes after)) (lanes first)
    (g.met.V.Band.eight first) c.loop-passed.now c.loop-passed.row (lanes c.loop-passed.tail) c.loop-passed.passed k
    c.next_tail-tail.result (lanes c.down-tail.result) (lanes c.second_tail-second.result) so_far inside refl
    (λ lane lt. ap (λ l. get_or l lane 0) c.down-tail.ensures ∙ down_next 8 _ lane (g.met.V.Band.eight first) lt)
    c.second_tail-second.ensures c.next_tail-tail.ensures.second
    (λ other. rw (above, time) at (c.next_tail-tail.ensures.next other))

pub returns-clause-tails : goal.returns-clause-tails
returns-clause-tails g c time tail step are times_are after_are now_are first_is =
    let lanes = g.V.Band.lanes in
    let chosen_are : IsStep g.V.Band.Holds g.row.N (suc step) tail (vectors_of (map lanes c.chosen-after.result.now)) =
    elim c.chosen-after.ensures [ inl is ↦ rw is now_are | inr is ↦ rw is after_are ] in
    let outside = c.loop-passed-test.false in
    let some = c.requires.some in
    let cells = c.loop-passed.invariant.cells time tail step are times_are chosen_are first_is in
    let here : g.row.N - c.loop-passed.passed ≡ 0 = omega arith in (
      λ k lt. cells.done k lt (omega arith),
      λ k lt. cells.row_done k lt (omega arith),
      subst (λ j. IsColumn g.V.Band.Holds g.row.N step tail j (lanes c.loop-passed.tail)) here cells.last_is,
    )
