-- Sequences with some jobs left out.
use Rattle.std.specs.Prelude.{ℕ, ◌≤◌, List, [], ◌∷◌}
use Rattle.pfs_base.specs.FlowShop.{FlowShop}
use Rattle.pfs_base.specs.Paths.{makespan}

-- the list `part` is the list `whole` with some members left out, in the same order
pub data IsPart : List ℕ → List ℕ → Type 0 where
  empty : {whole : List ℕ} → IsPart [] whole
  same : {first : ℕ} {part whole : List ℕ} → IsPart part whole → IsPart (first ∷ part) (first ∷ whole)
  left_out : {first : ℕ} {part whole : List ℕ} → IsPart part whole → IsPart part (first ∷ whole)

-- a sequence with some jobs left out has at most the makespan of the whole sequence
abbrev pub PartLaw : Type 0
PartLaw =
    (shop : FlowShop) (part whole : List ℕ) → 1 ≤ shop.machines → IsPart part whole
    → makespan shop part ≤ makespan shop whole
