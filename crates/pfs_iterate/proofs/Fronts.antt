-- The front of a list after an edit behind it, and what is behind the front.
use Rattle.std.proofs.Common.{◌≡◌, ℕ, zero, suc, ◌+◌, ◌<◌, ◌≤◌, List, [], ◌∷◌, length, take, drop, insert, remove}
use Rattle.std.proofs.Common.{arith, refl}
use Rattle.std.proofs.Math.Nat.{zero-add, suc-add}

-- a job that is inserted behind the front leaves it as it is
pub take-insert : (held place job : ℕ) (jobs : List ℕ) → held ≤ place → place ≤ length jobs
    → take held (insert jobs place job) ≡ take held jobs
take-insert zero place job jobs behind within = refl
take-insert (suc held) zero job jobs behind within = absurd (omega arith)
take-insert (suc held) (suc place) job [] behind within = absurd (omega arith)
take-insert (suc held) (suc place) job (first ∷ jobs) behind within =
    rw (take-insert held place job jobs (omega arith) (omega arith))

-- and so does one that is removed
pub take-remove : (held place : ℕ) (jobs : List ℕ) → held ≤ place → take held (remove jobs place) ≡ take held jobs
take-remove zero place jobs behind = refl
take-remove (suc held) zero jobs behind = absurd (omega arith)
take-remove (suc held) (suc place) [] behind = refl
take-remove (suc held) (suc place) (first ∷ jobs) behind = rw (take-remove held place jobs (omega arith))

-- to remove a job behind the front is to remove it from what is behind the front
pub drop-remove : (held place : ℕ) (jobs : List ℕ) → held + place < length jobs
    → drop held (remove jobs (held + place)) ≡ remove (drop held jobs) place
drop-remove zero place jobs within = rw zero-add refl
drop-remove (suc held) place [] within = absurd (omega arith)
drop-remove (suc held) place (first ∷ jobs) within = rw suc-add (drop-remove held place jobs (omega arith))
