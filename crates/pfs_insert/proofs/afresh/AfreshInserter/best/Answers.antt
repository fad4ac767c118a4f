use Rattle.std.proofs.Common.{◌≡◌, ◌+◌, ◌*◌, ◌≤◌, length, ap, sym, ◌∙◌, arith}
use Rattle.std.specs.List.{insert}
use Rattle.std.proofs.lemmas.List.Edits.{length-insert}
use Rattle.pfs_order.specs.Sequence.{Sequence}
use Rattle.pfs_insert.specs.Insertion.{makespan_with}
use Rattle.pfs_insert.proofs.FirstLeast.{best_is}
use Rattle.std.proofs.Math.Nat.{mul-le-mul_right, mul_assoc}
use Rattle.pfs_insert.proofs.afresh.AfreshInserter.best.Goals as goal

pub returns-in-Err-clause-cells : goal.returns-in-Err-clause-cells
returns-in-Err-clause-cells g c =
    let machines = (g.B.Bench.shop c.args.bench.now).machines in
    let count = length c.args.seq.now.jobs + 1 in
    let less : c.loop-place.place + 1 ≤ count = omega arith in
    let fits = mul-le-mul_right (count * machines) less in
    let all = mul_assoc count count machines in
    let so_far = c.loop-place.invariant.counted in
    let after = c.in-Err.ensures.uncounted in
    record { counted = tt; fault_low = omega arith; fault_high = omega arith }

pub loop-place-preserved : goal.loop-place-preserved
loop-place-preserved g c =
    let shop = g.B.Bench.shop c.args.bench.now in
    let jobs = c.args.seq.now.jobs in
    let job = c.args.job in
    let place = c.loop-place.place in
    let invariant = c.loop-place.invariant in
    let same = invariant.same_shop in
    let inserted : c.insert_at.new.self ≡ record { size = c.args.seq.now.size; jobs = insert jobs place job } =
    rw c.copy_from.ensures at c.insert_at.ensures in
    let long = length-insert jobs place job (omega (arith, c.len-place-end.ensures.value)) in
    let counted = rw (same, inserted, long) at c.in-Ok.ensures.counted in
    let so_far = invariant.counted in
    record {
      same_shop = c.in-Ok.ensures.shop ∙ same;
      own_jobs = ap (λ (s : Sequence). s.size) inserted ∙ c.requires.fits.seq_jobs ∙ sym c.requires.fits.own_jobs;
      own_machines = invariant.own_machines;
      counted = omega arith;
      best = λ _. c.better-best.ensures (makespan_with shop jobs job) invariant.best
          (rw (same, inserted) at c.in-Ok.ensures.value);
    }

pub returns-clause-best : goal.returns-clause-best
returns-clause-best g c =
    let jobs = c.args.seq.now.jobs in
    let all : c.loop-place.place ≡ length jobs + 1 = omega (arith, c.len-place-end.ensures.value) in
    best_is (g.B.Bench.shop c.args.bench.now) jobs c.args.job (rw all at (c.loop-place.invariant.best (omega arith)))

pub returns-clause-cells : goal.returns-clause-cells
returns-clause-cells g c =
    let count = length c.args.seq.now.jobs + 1 in
    let all : c.loop-place.place ≡ count = omega (arith, c.len-place-end.ensures.value) in
    let cells = mul_assoc count count (g.B.Bench.shop c.args.bench.now).machines in
    record {
      counted = rw (all, ← cells) at c.loop-place.invariant.counted;
      fault_low = tt;
      fault_high = tt;
    }
