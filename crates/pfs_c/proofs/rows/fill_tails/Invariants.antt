use Rattle.std.proofs.Common.{◌≡◌, ℕ, ◌+◌, ◌*◌, ◌<◌, ◌≤◌, get_or, length}
use Rattle.pfs_insert.specs.Exchange.{heaviest_back}
use Rattle.pfs_c.specs.Private.Rows.{AreTails}
use Rattle.pfs_c.proofs.rows.fill_tails.Given as goal

abbrev pub invariant-loop-place : goal.invariant-loop-place
invariant-loop-place l =
    let shop = l.instance.shop in
    record {
      tails : AreTails shop l.sequence l.place l.tails;
      done : (row machine : ℕ) → l.place ≤ row → row < length l.sequence → machine < shop.machines
          → get_or l.table (row * shop.machines + machine) 0 ≡ heaviest_back shop l.sequence row machine;
    }
