use Rattle.std.proofs.Common.{◌+◌, ◌-◌, length, arith}
use Rattle.pfs_exact.proofs.SearchedChildren.{more_most}
use Rattle.pfs_exact.proofs.Searching.{on_ok}
use Rattle.pfs_exact.proofs.prove.search.Goals as goal

pub returns-clause-room : goal.returns-clause-room
returns-clause-room c =
    let jobs = c.args.instance.now.shop.jobs in
    let ends = length c.copy_from.new.self.jobs + length c.copy_from-2.new.self.jobs in
    let less = more_most (jobs - ends) jobs (omega arith) in
    on_ok c.branch-alloc.result (λ room. omega arith) c.branch-alloc.ensures.room
