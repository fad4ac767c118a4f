use Rattle.std.proofs.Common.{◌≡◌, ℕ, ◌+◌, ◌*◌, ◌<◌, ◌++◌, [], ◌∷◌, length, get_or}
use Rattle.pfs_base.specs.Heads.{head_of}
use Rattle.pfs_base.proofs.Published.HeadRows.{head_of_before}
use Rattle.pfs_iterate.proofs.heads.add_row.Given as goal

abbrev pub invariant-loop-machine : goal.invariant-loop-machine
invariant-loop-machine l =
    let shop = l.instance.shop in
    let more = l.jobs ++ l.job ∷ [] in
    let next = length l.jobs * shop.machines + shop.machines in
    record {
      kept : (index : ℕ) → index < next → get_or l.rows index 0 ≡ get_or l.fn.rows index 0;
      done : (k : ℕ) → k < l.machine → get_or l.rows (next + k) 0 ≡ head_of shop more (length l.jobs + 1) k;
      long : length l.rows ≡ length l.fn.rows;
      end : l.end ≡ head_of_before shop more (length l.jobs + 1) l.machine;
    }
