use Rattle.std.proofs.lemmas.Grind.{common_steps}
use Rattle.std.proofs.Common.{ℕ, suc, ◌≡◌, ◌+◌, ◌-◌, ◌*◌, ◌<◌, length, map, take, drop, get_or, ap, ◌∙◌, refl}
use Rattle.std.proofs.Common.{min, arith, inl, inr}
use Rattle.std.proofs.lemmas.Bool.{cases_lt}
use Rattle.std.proofs.lemmas.List.{length-drop, length-take-le}
use Rattle.std.proofs.lemmas.List.{get_or-map, get_or-replicate, length-map, length-replicate, length-set, map-set}
use Rattle.pfs_wave.specs.Private.Blocks.{vectors_of}
use Rattle.pfs_wave.proofs.PutParts.{put_before, put_inside}
use Rattle.pfs_wave.proofs.Steps.{zeros-get_or}
use Rattle.pfs_wave.proofs.StepTables.{part_read}
use Rattle.pfs_wave.proofs.TailCells.{changed}
use Rattle.pfs_wave.proofs.SumCells.{none_read, step_read, sums_filled_none, sums_filled_more}
use Rattle.pfs_wave.proofs.sums.fill_sums.Goals as goal

pub loop-step-init : goal.loop-step-init
loop-step-init g c =
    let lanes = g.V.Band.lanes in
    let zero = c.zeros-zero.result in
    record {
      heads_long = length-replicate g.row.N zero;
      sums_long = refl;
      cells = λ t rows are times_are tails_are job_is.
          sums_filled_none g.V.Band.Holds g.V.Band.itself g.row.N rows t are _ _ _ _ (λ lane k lt k_lt.
          let inside = length-replicate g.row.N zero in
          ap (λ v. get_or v lane 0) (get_or-map lanes _ k zero _ (omega arith)
          ∙ ap lanes (get_or-replicate g.row.N k zero zero k_lt) ∙ c.zeros-zero.ensures)
          ∙ zeros-get_or 8 lane lt);
    }

pub loop-step-preserved : goal.loop-step-preserved
loop-step-preserved g c =
    let lanes = g.V.Band.lanes in
    let kept = g.V.Times.Stored.lanes in
    let number = g.V.Band.number in
    let count = g.row.N in
    let Holds = g.V.Band.Holds in
    let steps = c.args.steps in
    let times = c.args.times.now in
    let tails = c.args.tails.now in
    let sums = c.loop-step.sums in
    let step = c.loop-step.step in
    let at = step * count in
    let n = at + count - at in
    let inside = c.loop-step-test.true in
    let so_far = c.loop-step.invariant in
    let long = so_far.sums_long in
    let all = c.requires.sums in
    let now = c.step_sums-carry.result in
    let times_read = vectors_of (map kept (take n (drop at times))) in
    let tails_read = vectors_of (map lanes (take n (drop at tails))) in
    let times_same = λ (k : ℕ) (lt : k < count). part_read kept count step at n times refl k (omega arith) in
    let tails_same = λ (k : ℕ) (lt : k < count). part_read lanes count step at n tails refl k (omega arith) in
    record {
      heads_long = c.step_sums-carry.ensures.length;
      sums_long = length-set sums step c.last.result ∙ long;
      cells = λ t rows are times_are tails_are job_is.
          let filled = so_far.cells t rows are times_are tails_are job_is in
          rw (map-set number sums step c.last.result)
          (sums_filled_more Holds g.V.Band.itself count rows t are (vectors_of (map lanes c.loop-step.heads))
          (vectors_of (map lanes c.step_sums-carry.new.heads)) (lanes c.loop-step.carry.0) (lanes c.loop-step.carry.1.0)
          (lanes now.inserted) (lanes now.sum) (map number sums) step (number c.last.result) filled
          (omega (arith, length-map sums number))
          (c.step_sums-carry.ensures.cells t rows step are
          (step_read Holds count steps times_read (map kept times) step inside times_same t.time times_are.cells_are)
          (none_read Holds count steps times_read (map kept times) step inside times_same t.time times_are)
          (step_read Holds count steps tails_read (map lanes tails) step inside tails_same t.tail tails_are)
          (λ lane k lt k_lt. ap (λ v. get_or v lane 0) (c.array_of-job.ensures.vectors k k_lt) ∙ job_is lane k lt k_lt)
          filled.summed)
          c.last.ensures);
    }

pub returns-clause-sums : goal.returns-clause-sums
returns-clause-sums g c t rows machines paid of job_of are times_are tails_are job_is place le lt =
    let Holds = g.V.Band.Holds in
    let number = g.V.Band.number in
    let steps = c.args.steps in
    let sums = c.loop-step.sums in
    let outside = c.loop-step-test.false in
    let long = c.loop-step.invariant.sums_long in
    let all_long = c.requires.sums in
    let written = c.copy_from_slice.new.self in
    let n = steps + 7 - (steps - 1) in
    let rest = drop (steps - 1) sums in
    let written_long : length written ≡ n =
    c.copy_from_slice.ensures.len ∙ length-take-le n rest (omega (arith, length-drop (steps - 1) sums)) in
    let filled = c.loop-step.invariant.cells t rows are times_are tails_are job_is in
    elim (cases_lt (place + 7) (steps - 1)) [
      | inl early ↦
          let all : 8 ≡ min 8 (steps - place) = omega arith in
          changed Holds (put_before number (steps - 1) n sums written (omega arith) written_long 0 (place + 7) early)
          (ap (λ lanes. t.sum place (lanes * g.row.N)) all) (filled.kept place le (omega arith))
      | inr last ↦
          let lane = steps - 1 - place in
          let all : suc lane ≡ min 8 (steps - place) = omega arith in
          let here : place + 7 - (steps - 1) ≡ 7 - lane = omega arith in
          changed Holds (put_inside number (steps - 1) n sums written (omega arith) written_long 0 (place + 7)
          (omega arith)
          (omega arith)
          ∙ ap (λ i. get_or (map number written) i 0) here
          ∙ ap (λ l. get_or (map number l) (7 - lane) 0) c.copy_from_slice.ensures.after
          ∙ c.reversed.ensures lane (omega arith))
          (ap (λ lanes. t.sum place (lanes * g.row.N)) all)
          (filled.summed.sum_is place lane (omega arith) le (omega arith))
    ]

pub array_of-job-requires : goal.array_of-job-requires
array_of-job-requires g c = grind (arith, common_steps)

pub step_sums-carry-requires : goal.step_sums-carry-requires
step_sums-carry-requires g c = grind (arith, common_steps)
