use Rattle.std.proofs.Common.{◌≡◌, ℕ, ◌+◌, ◌<◌, length, get_or, ap, sym, ◌∙◌, arith}
use Rattle.pfs_base.specs.FlowShop.{FlowShop, time_of}
use Rattle.pfs_base.specs.declared.limits.TheConstants.{LONGEST_TIME}
use Rattle.pfs_base.specs.Paths.{operation}
use Rattle.pfs_base.proofs.Published.Heads.{head, head_le, head_before_le, head_more, head_before_more, time_of-le}
use Rattle.pfs_audit.proofs.RowSteps.{written_more, written_rest}
use Rattle.pfs_audit.proofs.recurrence.makespan.Goals as goal

pub step-before-requires-clause-in_limit : goal.step-before-requires-clause-in_limit
step-before-requires-clause-in_limit g c =
    let shop = g.B.Bench.shop c.args.bench.now in
    let shop_within = g.met.B.Bench.within c.args.bench.now in
    let weigh = operation shop c.args.seq.now.jobs in
    let small = λ (row m : ℕ). time_of-le shop shop_within (get_or c.args.seq.now.jobs row 0) m in
    let place = c.loop-place.place in
    let machine = c.loop-machine.machine in
    let above = head_le weigh LONGEST_TIME small place machine in
    let before = head_before_le weigh LONGEST_TIME small place machine in
    let here = c.loop-machine.bench in
    let time = time_of-le (g.B.Bench.shop here) (g.met.B.Bench.within here) c.at-job.result machine in
    let number = g.B.Span.Length.number in
    let items = c.loop-machine.row.items in
    let read : number c.index.result.now ≡ number (get_or items machine c.index.result.now) =
    ap number c.index.ensures in
    let above_it = c.loop-machine.invariant.to_do machine c.index.result.now (omega arith) (omega arith) in
    let before_it = c.loop-machine.invariant.before_it in
    let few = shop_within.sizes in
    omega arith

pub loop-machine-preserved : goal.loop-machine-preserved
loop-machine-preserved g c =
    let number = g.B.Span.Length.number in
    let shop = g.B.Bench.shop c.args.bench.now in
    let weigh = operation shop c.args.seq.now.jobs in
    let place = c.loop-place.place in
    let machine = c.loop-machine.machine in
    let items = c.loop-machine.row.items in
    let invariant = c.loop-machine.invariant in
    let within : machine < length items = omega (arith, c.loop-machine.row.ok.0) in
    let read : number c.index.result.now ≡ number (get_or items machine c.index.result.now) =
    ap number c.index.ensures in
    let above_it = invariant.to_do machine c.index.result.now (omega arith) (omega arith) in
    let same_time = ap (λ (s : FlowShop). time_of s c.at-job.result machine) invariant.same_shop in
    let time = ap (λ job. time_of shop job machine) c.at-job.ensures.value in
    let written : number c.step-before.result ≡ head weigh (place + 1) machine =
    let more = head_more weigh place machine in
    let value = c.step-before.ensures.value in
    let before_it = invariant.before_it in
    omega arith
    in
    record {
      same_shop = c.step-before.ensures.shop ∙ invariant.same_shop;
      counted = omega (arith, c.step-before.ensures.counted, invariant.counted);
      width = invariant.width;
      done = written_more number items machine _ within (head weigh (place + 1)) invariant.done written;
      to_do = written_rest number items machine _ within (head weigh place) shop.machines invariant.to_do;
      before_it = written ∙ sym (head_before_more weigh place machine);
    }
