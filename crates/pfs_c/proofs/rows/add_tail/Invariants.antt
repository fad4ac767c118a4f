use Rattle.std.proofs.Common.{◌≡◌, ◌+◌}
use Rattle.pfs_insert.specs.Exchange.{heaviest_back}
use Rattle.pfs_c.proofs.RowSteps.{AreFrom, tail_from}
use Rattle.pfs_c.proofs.rows.add_tail.Given as goal

abbrev pub invariant-loop-machine : goal.invariant-loop-machine
invariant-loop-machine l =
    let shop = l.instance.shop in
    let tail = heaviest_back shop l.sequence in
    record {
      tails : AreFrom (tail (l.place + 1)) (tail l.place) shop.machines l.machine l.tails;
      after : l.after ≡ tail_from shop l.sequence l.place l.machine;
    }
