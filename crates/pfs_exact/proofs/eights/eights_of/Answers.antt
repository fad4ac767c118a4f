use Rattle.std.proofs.Common.{◌-◌, get_or, arith}
use Rattle.pfs_exact.proofs.Gathered.{ahead_from, behind_from, bounds_from, child_from}
use Rattle.pfs_exact.proofs.eights.eights_of.Goals as goal

pub returns-clause-bounds : goal.returns-clause-bounds
returns-clause-bounds c =
    let shop = c.args.instance.now.shop in
    let ends = c.args.ends.now in
    let front = ends.front.jobs in
    let back = ends.back.jobs in
    let node = c.raise.new.node in
    let least = c.least_times_of.new.least in
    let machines = c.machines-machines.result in
    let few = c.machines-machines.ensures.value in
    let all = c.requires.table.all c.requires.blocks in
    let ahead = ahead_from shop front back node least machines few c.raise.ensures c.least_times_of.ensures
    c.spread-2.new.lanes c.spread-2.ensures.least c.spread.new.lanes c.spread_sums.new.lanes c.spread.ensures.least
    (c.spread_sums.ensures.least (λ m. get_or node.rests (machines - 1 - m) 0) c.spread_back.ensures.least) in
    let behind = behind_from shop front back node least machines few c.raise.ensures c.least_times_of.ensures
    c.spread-2.new.lanes c.spread-2.ensures.least c.spread_back.new.lanes c.spread_sums-2.new.lanes
    c.spread_back.ensures.least (c.spread_sums-2.ensures.least (λ m. get_or node.starts m 0) c.spread.ensures.least) in
    bounds_from shop ends c.is_forward-forward.result c.jobs-jobs.result c.mark_open.new.marks c.shut_others.new.shut
    c.pick.result.now c.widen.new.bounds c.jobs-jobs.ensures.value (omega (arith, c.requires.jobs, c.widen.ensures.length))
    c.mark_open.ensures c.shut_others.ensures.shut c.widen.ensures.shut c.widen.ensures.open
    (child_from shop ends c.is_forward-forward.result c.bounds_ahead.new.bounds c.bounds_behind.new.bounds
    c.pick.result.now c.pick.ensures.first c.pick.ensures.other
    (λ job small. c.bounds_ahead.ensures.bounds front back ahead job (omega arith) small)
    (λ job small. c.bounds_behind.ensures.bounds front back behind job (omega arith) small))
