-- An upper bound on a makespan.
use Rattle.std.proofs.Common.{◌≡◌, ℕ, ◌+◌, ◌-◌, ◌*◌, ◌≤◌, length, get_or, insert, inl, inr, arith}
use Rattle.std.specs.List.{All}
use Rattle.std.proofs.lemmas.Bool.{cases_lt}
use Rattle.std.proofs.lemmas.List.{get_or_past}
use Rattle.std.proofs.lemmas.List.Edits.{length-insert}
use Rattle.pfs_base.specs.FlowShop.{FlowShop, time_of}
use Rattle.pfs_base.specs.Paths.{operation}
use Rattle.pfs_base.proofs.Published.Heads.{head_le, makespan_is}
use Rattle.pfs_wave.specs.Wavefront.{LongestWithLaw}

time_le : (shop : FlowShop) (limit : ℕ) → All (λ time. time ≤ limit) shop.times → (job machine : ℕ)
    → time_of shop job machine ≤ limit
time_le shop limit short job machine =
    let at = job * shop.machines + machine in
    elim (cases_lt at (length shop.times)) [
      | inl inside ↦ short at 0 inside
      | inr past ↦ let none = get_or_past shop.times at 0 past in omega arith
    ]

pub longest_with_law : LongestWithLaw
longest_with_law shop jobs job place limit some within short =
    let order = insert jobs place job in
    let long : length order + (shop.machines - 1) ≡ length jobs + shop.machines =
    omega (arith, length-insert jobs place job within) in
    let bound = head_le (operation shop order) limit
    (λ row machine. time_le shop limit short (get_or order row 0) machine)
    (length order) (shop.machines - 1) in
    rw (makespan_is shop order) (rw long at bound)
