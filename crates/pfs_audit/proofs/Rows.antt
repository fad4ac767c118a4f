-- A table that is filled entry by entry, row by row.
use Rattle.std.proofs.Common.{◌≡◌, ℕ, ◌+◌, ◌-◌, ◌*◌, ◌<◌, ◌≤◌, List, [], ◌∷◌, ◌++◌, length, get_or, ◌∙◌, inl}
use Rattle.std.proofs.Common.{ap, inr, length-append, arith}
use Rattle.std.proofs.lemmas.Bool.{cases_eq}
use Rattle.std.proofs.lemmas.List.{get_or_default}
use Rattle.std.proofs.Math.ListN.{get_or-append}
use Rattle.std.proofs.Math.Seq.{get_or-append_seam}
use Rattle.std.proofs.lemmas.Nat.{row_fits}
use Rattle.pfs_audit.specs.Private.Rows.{AreRows}

-- the first `row` rows are complete, and the next has the values of the first `machine` machines
pub record AreEntered (value : ℕ → ℕ → ℕ) (machines row machine : ℕ) (items : List ℕ) : Type 0 where
  pub size : length items ≡ row * machines + machine
  pub earlier : (r i : ℕ) → r < row → i < machines → get_or items (r * machines + i) 0 ≡ value r i
  pub here : (i : ℕ) → i < machine → get_or items (row * machines + i) 0 ≡ value row i

module _ (value : ℕ → ℕ → ℕ) (machines : ℕ) where
  pub row_ended : (row : ℕ) (items : List ℕ) → AreEntered value machines row machines items
      → AreRows value machines (row + 1) items
  row_ended row items are = record {
    size = let size = are.size in omega arith;
    entries = λ r i small within. elim (cases_eq r row) [
      | inl last ↦ rw last (are.here i within)
      | inr other ↦ are.earlier r i (omega arith) within
    ];
  }

  pub entry_added : (row machine x : ℕ) (items : List ℕ) → AreEntered value machines row machine items
      → x ≡ value row machine → AreEntered value machines row (machine + 1) (items ++ x ∷ [])
  entry_added row machine x items are is =
      let size = are.size in
      record {
        size = omega (arith, length-append items (x ∷ []));
        earlier = λ r i small within.
            let fits = row_fits r machines row machines small (omega arith) in
            get_or-append items (x ∷ []) 0 (r * machines + i) (omega arith) ∙ are.earlier r i small within;
        here = λ i small. elim (cases_eq i machine) [
          | inl last ↦
              let at : row * machines + machine ≡ length items = omega arith in
              rw (last, at) (get_or-append_seam items x [] 0 ∙ is)
          | inr other ↦ get_or-append items (x ∷ []) 0 (row * machines + i) (omega arith) ∙ are.here i (omega arith)
        ];
      }

-- the entry above the next one
pub entry_above : (value : ℕ → ℕ → ℕ) (machines row machine x at : ℕ) (items : List ℕ)
    → AreEntered value machines row machine items → 1 ≤ row → machine < machines
    → at ≡ length items - machines → x ≡ get_or items at x → x ≡ value (row - 1) machine
entry_above value machines row machine x at items are some small is read =
    let size = are.size in
    let prior = row - 1 in
    let e : row ≡ prior + 1 = omega arith in
    let rows = ap (λ k. k * machines) e in
    let place : at ≡ prior * machines + machine = omega arith in
    let inside : at < length items = omega arith in
    read ∙ get_or_default items at x 0 inside ∙ rw place (are.earlier prior machine (omega arith) small)
