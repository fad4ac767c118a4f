use Rattle.std.proofs.lemmas.Grind.{common_steps}
use Rattle.std.proofs.Common.{◌≡◌, ◌+◌, ◌-◌, ◌*◌, length, map, take, drop, get_or, ap, ◌∙◌, sym, refl, arith}
use Rattle.std.proofs.lemmas.List.{with_items_is}
use Rattle.pfs_base.specs.FlowShop.{FlowShop}
use Rattle.pfs_wave.specs.Private.Blocks.{AreTimes, HasShop, vectors_in}
use Rattle.pfs_wave.specs.Private.HeldRows.{part_from}
use Rattle.pfs_wave.specs.Private.Padded.{padded_time}
use Rattle.pfs_wave.specs.Private.Payment.{IsInsertion, IsPaid}
use Rattle.pfs_wave.proofs.HeldLemmas.{holding_times, times_first}
use Rattle.pfs_wave.proofs.StepTables.{part_read}
use Rattle.pfs_wave.proofs.blocks.Blocks.best_in.Given as given
use Rattle.pfs_wave.proofs.blocks.Blocks.best_in.Goals as goal

pub invariant_of-self : goal.invariant_of-self
invariant_of-self g c =
    let inside = c.self.inside in
    let was = c.self.invariant in
    let count : vectors_in inside.width ≡ g.row.N = ap (λ b. b.count) c.self.view_is ∙ c.requires.count in
    let jobs = c.hold.ensures.jobs in
    let tails = c.best_place.new.tails in
    let sums = c.best_place.new.sums in
    let tails_same = c.best_place.ensures.tails ∙ ap length c.deref_mut.ensures.value in
    let sums_same = c.best_place.ensures.sums ∙ ap length c.deref_mut-2.ensures.value in
    record {
      some = was.some;
      eight = was.eight;
      few = omega (arith, jobs, was.few);
      rows = was.rows ∙ ap (λ n. n * vectors_in inside.width + vectors_in inside.width) (sym jobs);
      held = rw (count) (rw (c.deref.ensures.value) at c.hold.ensures.held);
      tails = ap length (with_items_is inside.tails tails (omega (arith, c.best_place.ensures.tails, c.deref_mut.ensures.len)))
          ∙ tails_same ∙ was.tails ∙ ap (λ n. (n + 9) * vectors_in inside.width) (sym jobs);
      sums = ap length (with_items_is inside.sums sums (omega (arith, c.best_place.ensures.sums, c.deref_mut-2.ensures.len)))
          ∙ sums_same ∙ was.sums ∙ ap (λ n. n + 15) (sym jobs);
    }

-- what the passes are given, of a shop that the blocks have
passed : (g : given.Over) (c : goal.After-slice_known-2-1 g) (shop : FlowShop) → HasShop shop c.args.self.now
    → IsPaid c.args.permits.tails c.args.permits.sums (length c.args.sequence.now) shop.machines
    → IsInsertion g.V.Band.Holds shop c.args.sequence.now c.args.job g.row.N c.self.inside.lanes
    (length c.args.sequence.now + c.self.inside.lanes) c.args.permits.tails c.args.permits.sums
    (map g.V.Times.Stored.lanes (part_from c.hold.new.self.start (length c.args.sequence.now + c.self.inside.lanes)
    g.row.N c.hold.new.self.times.items))
    (map g.V.Times.Stored.lanes (take (c.args.job * g.row.N + g.row.N - c.args.job * g.row.N)
    (drop (c.args.job * g.row.N) c.self.inside.rows.items)))
passed g c shop has paid =
    let lanes = g.V.Times.Stored.lanes in
    let inside = c.self.inside in
    let held = c.hold.new.self in
    let count = g.row.N in
    let jobs = c.args.sequence.now in
    let view = c.self.view_is in
    let same_jobs = c.hold.ensures.jobs in
    let jobs_are = ap (λ b. b.jobs) view in
    let rows_is = ap (λ b. b.rows) view in
    let has_rows = rw (← rows_is, c.requires.count) at has.rows in
    let holds = (rw (c.deref.ensures.value) at c.hold.ensures.held).holds in
    let steps = length jobs + inside.lanes in
    let n = c.args.job * count + count - c.args.job * count in
    let all = holds.steps in
    let eight = c.self.invariant.eight in
    let whole : AreTimes g.V.Band.Holds count steps (padded_time shop jobs)
    (map lanes (part_from held.start (held.jobs + 8) count held.times.items)) =
    rw c.hold.ensures.sequence at (holding_times holds g.V.Band.Holds g.V.Band.itself shop steps
    (same_jobs ∙ jobs_are ∙ has.jobs) has_rows (omega (arith, c.requires.few, same_jobs, jobs_are, all))) in
    record {
      some = has.some;
      few = rw (← ap (λ b. b.lanes) view, c.requires.count) at has.few;
      all = refl;
      paid = paid;
      times_are = times_first g.V.Band.Holds lanes count held.start steps (held.jobs + 8) (padded_time shop jobs)
          held.times.items (omega (arith, c.requires.few, same_jobs, jobs_are, all)) whole;
      job_is = λ lane k lt k_lt.
          ap (λ v. get_or v lane 0)
          (part_read lanes count c.args.job (c.args.job * count) n inside.rows.items refl k (omega arith))
          ∙ has_rows.jobs_are c.args.job (omega (arith, c.requires.job, has.jobs)) lane k lt k_lt;
    }

pub returns-clause-found : goal.returns-clause-found
returns-clause-found g c shop has paid =
    let found = rw (c.first_steps.ensures, c.deref-2.ensures.value) at c.best_place.ensures.found in
    found shop c.args.sequence.now c.args.job (passed g c shop has paid)

pub best_place-requires-clause-times : goal.best_place-requires-clause-times
best_place-requires-clause-times g c = grind (arith, common_steps)
