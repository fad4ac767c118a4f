use Rattle.std.proofs.Common.{◌≡◌, ◌+◌, insert, sum_by}
use Rattle.pfs_base.specs.Heads.{head_of}
use Rattle.pfs_base.specs.Lists.{below}
use Rattle.pfs_base.proofs.Published.HeadRows.{head_of_before}
use Rattle.pfs_iterate.specs.Iterated.{count_to}
use Rattle.pfs_iterate.proofs.heads.delay_at.Given as goal

abbrev pub invariant-loop-machine : goal.invariant-loop-machine
invariant-loop-machine l =
    let shop = l.instance.shop in
    let jobs = l.jobs in
    let with_job = insert jobs l.place l.job in
    let count = count_to jobs l.place in
    record {
      end : l.end ≡ head_of_before shop with_job (l.place + 1) l.machine;
      next_end : l.next_end ≡ head_of_before shop with_job (count + 1) l.machine;
      now : l.now ≡ sum_by (head_of shop with_job (count + 1)) (below l.machine);
      before : l.before ≡ sum_by (head_of shop jobs count) (below l.machine);
    }
