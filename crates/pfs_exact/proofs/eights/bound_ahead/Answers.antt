use Rattle.std.proofs.Common.{◌+◌, ◌*◌, ◌<◌, get_or, ◌∙◌, subst, sym, arith}
use Rattle.pfs_audit.specs.Bound.{IsLowerBound}
use Rattle.pfs_exact.specs.Private.Ahead.{IsSum}
use Rattle.pfs_exact.specs.Private.Nodes.{IsLeast, IsLeft, IsRest, IsStart}
use Rattle.pfs_exact.proofs.Cells.{read_lane}
use Rattle.pfs_exact.proofs.LaneBounds.{ahead_more, ahead_none}
use Rattle.pfs_exact.proofs.eights.bound_ahead.Goals as goal

pub loop-machine-init : goal.loop-machine-init
loop-machine-init c = λ front back are lane small inside.
    let shop = c.args.instance.now.shop in
    ahead_none shop front (8 * c.args.block + lane) back (get_or c.splat-before.result.values lane 0)
    (get_or c.splat-next.result.values lane 0) (get_or c.splat-most.result.values lane 0)
    (c.splat-before.ensures lane small) (c.splat-next.ensures lane small)
    (subst (IsLowerBound shop) (sym (c.splat-most.ensures lane small)) c.requires.low)

pub loop-machine-preserved : goal.loop-machine-preserved
loop-machine-preserved c = λ front back are lane small inside.
    let shop = c.args.instance.now.shop in
    let block = c.args.block in
    let job = 8 * block + lane in
    let at = c.loop-machine in
    let machine = at.machine in
    let few = c.machines-machine-end.ensures.value in
    let here : machine < shop.machines = omega arith in
    let time = read_lane c.args.times.now (64 * block + machine) lane c.index-times-block.result (omega arith)
    c.index-times-block.is ∙ c.requires.times block machine lane (omega arith) here small inside in
    let start = read_lane c.args.starts.now machine lane c.index-starts-machine.result (omega arith) c.index-starts-machine.is in
    let least = read_lane c.args.least.now machine lane c.index-least-machine.result (omega arith) c.index-least-machine.is in
    let sum = read_lane c.args.sums.now machine lane c.index-sums-machine.result (omega arith) c.index-sums-machine.is in
    let greater = c.max.ensures lane small in
    let end = c.plus-before.ensures lane small in
    let next = c.max-next.ensures lane small in
    let both = c.plus.ensures lane small in
    let number = c.minus.ensures lane small in
    let most = c.max-most.ensures lane small in
    let after = c.plus-next.ensures lane small in
    ahead_more shop front job back machine (get_or at.before.values lane 0) (get_or at.next.values lane 0)
    (get_or at.most.values lane 0) (get_or c.index-times-block.result.values lane 0)
    (get_or c.index-starts-machine.result.values lane 0) (get_or c.index-least-machine.result.values lane 0)
    (get_or c.index-sums-machine.result.values lane 0) (get_or c.plus-before.result.values lane 0)
    (get_or c.plus.result.values lane 0) (get_or c.plus-next.result.values lane 0)
    (get_or c.max-most.result.values lane 0) time
    (subst (IsStart shop front back machine) (sym start) (are.start machine lane here small))
    (subst (IsLeast shop front back machine) (sym least) (are.short machine lane here small))
    (subst (IsSum (IsLeft shop front back machine) (IsRest shop front back machine)) (sym sum)
    (are.sum machine lane here small))
    (omega arith) (omega arith) (omega arith) (omega arith) (at.invariant front back are lane small inside)

pub returns : goal.returns
returns c = λ front back are lane small inside. (c.loop-machine.invariant front back are lane small inside).bound
