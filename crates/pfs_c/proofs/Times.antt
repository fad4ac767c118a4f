-- Lists of times that are validated.
use Rattle.std.proofs.Common.{◌≡◌, ℕ, ◌+◌, ◌<◌, ◌≤◌, List, length, take, max, get_or}
use Rattle.std.proofs.Common.{◌&&◌, nat_le, inl, inr, sym, arith}
use Rattle.std.specs.List.{list_all}
use Rattle.std.proofs.lemmas.Bool.{cases_Bool}
use Rattle.std.proofs.lemmas.Bool.Decides.{nat_tests}
use Rattle.std.proofs.lemmas.List.{take_all}
use Rattle.std.proofs.lemmas.List.Folds.{list_all_more}

-- the longest of the first times is within the limit exactly if each of them is
abbrev pub AreShortTo : ℕ → List ℕ → ℕ → ℕ → Type 0
AreShortTo limit times index longest =
    nat_le longest limit ≡ list_all (λ time. nat_le time limit) (take index times)

max_short : (a b limit : ℕ) → nat_le (max a b) limit ≡ (nat_le a limit && nat_le b limit)
max_short a b limit = elim (cases_Bool (nat_le a limit)) [
  | inl short ↦ elim (cases_Bool (nat_le b limit)) [
    | inl also ↦ rw (short, also) (grind (arith, nat_tests))
    | inr long ↦ rw (short, long) (grind (arith, nat_tests))
  ]
  | inr long ↦ rw long (grind (arith, nat_tests))
]

pub short_more : (limit : ℕ) (times : List ℕ) (index longest : ℕ) → index < length times
    → AreShortTo limit times index longest → AreShortTo limit times (index + 1) (max longest (get_or times index 0))
short_more limit times index longest within h = rw (
  max_short longest (get_or times index 0) limit,
  list_all_more (λ time. nat_le time limit) times index 0 within,
  h,
)

pub short_all : (limit : ℕ) (times : List ℕ) (index longest : ℕ) → length times ≤ index
    → AreShortTo limit times index longest → list_all (λ time. nat_le time limit) times ≡ nat_le longest limit
short_all limit times index longest all h = sym (rw (take_all index times all) at h)
