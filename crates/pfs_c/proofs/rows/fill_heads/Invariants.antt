use Rattle.std.proofs.Common.{◌≡◌, ℕ, ◌+◌, ◌*◌, ◌<◌, get_or}
use Rattle.pfs_base.specs.Heads.{AreHeads}
use Rattle.pfs_insert.specs.Exchange.{heaviest_front}
use Rattle.pfs_c.proofs.rows.fill_heads.Given as goal

abbrev pub invariant-loop-place : goal.invariant-loop-place
invariant-loop-place l =
    let shop = l.instance.shop in
    record {
      heads : AreHeads shop l.sequence l.place l.heads;
      done : (row machine : ℕ) → row < l.place → machine < shop.machines
          → get_or l.table (row * shop.machines + machine) 0 ≡ heaviest_front shop l.sequence row machine;
    }
