-- Numbers that a loop replaces one after the other.
use Rattle.std.proofs.Common.{◌≡◌, ◌≢◌, ℕ, ◌+◌, ◌<◌, ◌≤◌, List, length, get_or, set, arith, inl, inr, ◌∙◌, subst, sym}
use Rattle.std.proofs.Math.ListN.{length-set}
use Rattle.std.proofs.lemmas.Bool.{cases_eq}
use Rattle.std.proofs.lemmas.List.{get_or-set_same, get_or-set_other}

-- before `machine`, each number is as it is wanted, and from there on as it was
pub record Partly (Is : ℕ → ℕ → Type 0) (machines machine : ℕ) (were numbers : List ℕ) : Type 0 where
  pub every : machines ≤ length numbers
  pub done : (k : ℕ) → k < machine → Is k (get_or numbers k 0)
  pub to_do : (k : ℕ) → machine ≤ k → get_or numbers k 0 ≡ get_or were k 0

pub partly_none : (Is : ℕ → ℕ → Type 0) (machines : ℕ) (numbers : List ℕ) → machines ≤ length numbers
    → Partly Is machines 0 numbers numbers
partly_none Is machines numbers every = record {
  every = every;
  done = λ k small. absurd (omega arith);
  to_do = λ k above. omega arith;
}

pub partly_more : (Is : ℕ → ℕ → Type 0) (machines machine x : ℕ) (were numbers : List ℕ) → machine < machines
    → Partly Is machines machine were numbers → Is machine x
    → Partly Is machines (machine + 1) were (set numbers machine x)
partly_more Is machines machine x were numbers small have here =
    let within : machine < length numbers = omega (arith, have.every) in
    record {
      every = omega (arith, length-set numbers machine x);
      done = λ k below. elim (cases_eq k machine) [
        | inl is ↦ subst (λ j. Is j (get_or (set numbers machine x) j 0)) (sym is)
            (subst (Is machine) (sym (get_or-set_same numbers machine x 0 within)) here)
        | inr other ↦ subst (Is k) (sym (get_or-set_other numbers machine k x 0 other)) (have.done k (omega arith))
      ];
      to_do = λ k above.
          let other : k ≢ machine = omega arith in
          get_or-set_other numbers machine k x 0 other ∙ have.to_do k (omega arith);
    }
