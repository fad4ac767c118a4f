-- Validation finds no fault exactly in what the functions are defined for: it is neither too lax nor too strict.
use Rattle.std.specs.Prelude.{◌≡◌, ◌↔◌, ℕ, List, ◌∷◌, None}
use Rattle.pfs_base.specs.FlowShop.{FlowShop, IsWithin}
use Rattle.pfs_base.specs.Limits.{limits}
use Rattle.pfs_order.specs.Sequence.{IsSequence}
use Rattle.pfs_c.specs.Validation.{shop_of, shop_fault, jobs_fault, insertion_fault}

-- of a flow shop
abbrev pub ShopLaw : Type 0
ShopLaw = (times : List ℕ) (jobs machines : ℕ)
    → (shop_fault times jobs machines ≡ None) ↔ IsWithin limits (shop_of times jobs machines)

-- of a list of jobs
abbrev pub JobsLaw : Type 0
JobsLaw = (size : ℕ) (jobs : List ℕ) → (jobs_fault size jobs ≡ None) ↔ IsSequence size jobs

-- of a sequence and a job to insert
abbrev pub InsertionLaw : Type 0
InsertionLaw = (shop : FlowShop) (sequence : List ℕ) (job : ℕ)
    → (insertion_fault shop sequence job ≡ None) ↔ IsSequence shop.jobs (job ∷ sequence)
