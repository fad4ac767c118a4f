use Rattle.std.proofs.Common.{◌≡◌, ℕ, ◌+◌, ◌-◌, ◌*◌, ◌<◌, get_or, ap, ◌∙◌, subst, sym, arith}
use Rattle.pfs_audit.specs.Bound.{IsLowerBound}
use Rattle.pfs_exact.specs.Private.Ahead.{IsSum}
use Rattle.pfs_exact.specs.Private.Blocks.{cell}
use Rattle.pfs_exact.specs.Private.Nodes.{IsLeast, IsLeft, IsRest, IsStart}
use Rattle.pfs_exact.proofs.Cells.{read_lane}
use Rattle.pfs_exact.proofs.LaneBounds.{behind_more, behind_none}
use Rattle.pfs_exact.proofs.eights.bound_behind.Goals as goal

pub loop-turn-init : goal.loop-turn-init
loop-turn-init c = λ front back are lane small inside.
    let shop = c.args.instance.now.shop in
    behind_none shop front (8 * c.args.block + lane) back (cell c.args.rests.now (shop.machines - 1 - 0) lane)
    (get_or c.splat-after.result.values lane 0) (get_or c.splat-last.result.values lane 0)
    (get_or c.splat-most.result.values lane 0) (λ some. are.rest (shop.machines - 1 - 0) lane (omega arith) small)
    (c.splat-after.ensures lane small) (c.splat-last.ensures lane small)
    (subst (IsLowerBound shop) (sym (c.splat-most.ensures lane small)) c.requires.low)

pub loop-turn-preserved : goal.loop-turn-preserved
loop-turn-preserved c = λ front back are lane small inside.
    let shop = c.args.instance.now.shop in
    let block = c.args.block in
    let job = 8 * block + lane in
    let at = c.loop-turn in
    let turn = at.turn in
    let few = c.machines-machines.ensures.value in
    let machine : ℕ = shop.machines - 1 - turn in
    let within : turn < shop.machines = omega arith in
    let here : machine < shop.machines = omega arith in
    let there : c.machines-machines.result - 1 - turn ≡ machine = ap (λ m. m - 1 - turn) few in
    let time = read_lane c.args.times.now (64 * block + (c.machines-machines.result - 1 - turn)) lane
    c.index-times-block.result (omega arith) c.index-times-block.is
    ∙ ap (λ m. cell c.args.times.now (64 * block + m) lane) there
    ∙ c.requires.times block machine lane (omega arith) here small inside in
    let rest = read_lane c.args.rests.now (c.machines-machines.result - 1 - turn) lane c.index-rests-machine.result
    (omega arith) c.index-rests-machine.is ∙ ap (λ m. cell c.args.rests.now m lane) there in
    let least = read_lane c.args.least.now (c.machines-machines.result - 1 - turn) lane c.index-least-machine.result
    (omega arith) c.index-least-machine.is ∙ ap (λ m. cell c.args.least.now m lane) there in
    let sum = read_lane c.args.sums.now (c.machines-machines.result - 1 - turn) lane c.index-sums-machine.result
    (omega arith) c.index-sums-machine.is ∙ ap (λ m. cell c.args.sums.now m lane) there in
    let greater = c.max.ensures lane small in
    let end = c.plus-after.ensures lane small in
    let last = c.max-last.ensures lane small in
    let both = c.plus.ensures lane small in
    let number = c.minus.ensures lane small in
    let most = c.max-most.ensures lane small in
    let later = c.plus-last.ensures lane small in
    behind_more shop front job back turn (get_or at.after.values lane 0) (get_or at.last.values lane 0)
    (get_or at.most.values lane 0) (get_or c.index-times-block.result.values lane 0)
    (get_or c.index-rests-machine.result.values lane 0) (get_or c.index-least-machine.result.values lane 0)
    (get_or c.index-sums-machine.result.values lane 0) (get_or c.plus-after.result.values lane 0)
    (get_or c.plus.result.values lane 0) (get_or c.plus-last.result.values lane 0)
    (get_or c.max-most.result.values lane 0) within time
    (subst (IsRest shop front back machine) (sym rest) (are.rest machine lane here small))
    (subst (IsLeast shop front back machine) (sym least) (are.short machine lane here small))
    (subst (IsSum (IsLeft shop front back machine) (IsStart shop front back machine)) (sym sum)
    (are.sum machine lane here small))
    (omega arith) (omega arith) (omega arith) (omega arith) (at.invariant front back are lane small inside)

pub returns : goal.returns
returns c = λ front back are lane small inside. (c.loop-turn.invariant front back are lane small inside).bound
