-- The places of a text with one more byte, and the first fault.
use Rattle.pfs_layout.proofs.Words.{slice_get-push, ◌≡◌, ℕ, suc, ◌+◌, ◌<◌, List, [], ◌∷◌, ◌++◌, length, refl, arith}
use Rattle.pfs_layout.proofs.Words.{Option, Some, None, option_or, length_push, take_all, slice_get-append, Layout}
use Rattle.pfs_layout.proofs.Words.{LayoutFault, fault_of_place, rejection, byte_fault, RejectsInstance, zero, ◌≤◌, ◌↔◌}
use Rattle.pfs_layout.proofs.Words.{map, below, first_some, inl, inr, cases_option, map-append, ap, ◌∙◌}
use Rattle.std.proofs.lemmas.List.{take-append-le, take_at}
use Rattle.std.proofs.lemmas.Option.{slice_get_past}
use Rattle.pfs_base.proofs.Published.Lists.{map-range_with_len-same, first_some-append, range_with_len-push}
use Rattle.pfs_layout.specs.Laws.{ByteFaultLaw, RejectionLaw}
use Rattle.pfs_layout.specs.Rejection.{fault_at}

-- the first place at which a function has a value
module _ {A : Type 0} (f : ℕ → Option A) where
  -- with one place more
  first_push : (n : ℕ) → first_some (map f (below (suc n))) ≡ option_or (first_some (map f (below n))) (f n)
  first_push n =
      let e : 0 + n ≡ n = omega arith in
      ap (λ ns. first_some (map f ns)) (range_with_len-push 0 n)
      ∙ rw (map-append f (below n), first_some-append (map f (below n)), e) (grind arith)

  first_none : (n : ℕ) → first_some (map f (below n)) ≡ None → (q : ℕ) → q < n → f q ≡ None
  first_none zero e q h = absurd (omega arith)
  first_none (suc n) e q h = grind (arith, first_push n, first_none n)

-- a place within a text has the same fault in each longer text
fault_at-append : (layout : Layout) (k : ℕ) (text more : List ℕ) (place : ℕ) → place < length text
    → fault_at layout k (text ++ more) place ≡ fault_at layout k text place
fault_at-append layout k text more place h =
    rw (take-append-le place text more (omega arith), slice_get-append text more place h)

fault_at-end : (layout : Layout) (k : ℕ) (text : List ℕ)
    → fault_at layout k text (length text) ≡ fault_of_place layout k text None
fault_at-end layout k text =
    rw (take_all (length text) text (omega arith), slice_get_past text (length text) (omega arith))

-- the first fault at a byte of a text with one more byte
pub byte_fault-push : (layout : Layout) (k : ℕ) (text : List ℕ) (b : ℕ) → byte_fault layout k (text ++ b ∷ [])
    ≡ option_or (byte_fault layout k text) (fault_of_place layout k text (Some b))
unfolding byte_fault
byte_fault-push layout k text b =
    let f : ℕ → Option LayoutFault = fault_at layout k (text ++ b ∷ []) in
    let size : length (text ++ b ∷ []) ≡ suc (length text) = omega (arith, length_push text b) in
    let front = map-range_with_len-same f (fault_at layout k text) 0 (length text)
    (λ i low high. fault_at-append layout k text (b ∷ []) i (omega arith)) in
    rw (size, first_push f (length text), front, take_at text (b ∷ []) (length text) refl, slice_get-push text b)

-- the fault of an input is the first at a byte, and if there is none, that at the end
pub rejection_end : (layout : Layout) (k : ℕ) (input : List ℕ)
    → rejection layout input k ≡ option_or (byte_fault layout k input) (fault_of_place layout k input None)
unfolding rejection byte_fault
rejection_end layout k input =
    let size : length input + 1 ≡ suc (length input) = omega arith in
    rw (size, first_push (fault_at layout k input) (length input), fault_at-end layout k input)

-- ---- the first place that has a fault

module _ (layout : Layout) (input : List ℕ) (k : ℕ) where
  -- an input has at most one fault
  pub one_fault : (one other : LayoutFault) → RejectsInstance layout input k one → RejectsInstance layout input k other
      → one ≡ other
  one_fault one other r s = grind (arith, r.first, s.first)

  first_fault : (n : ℕ) (fault : LayoutFault) → n ≤ length input + 1
      → first_some (map (fault_at layout k input) (below n)) ≡ Some fault
      → (r : RejectsInstance layout input k fault) × (r.place < n)
  first_fault zero fault few e = cc
  first_fault (suc n) fault few e =
      elim (cases_option (first_some (map (fault_at layout k input) (below n)))) [
        | inr one ↦
            let found = first_fault n fault (omega arith) (grind (arith, first_push (fault_at layout k input) n)) in
            (found.0, omega (arith, found.1))
        | inl none ↦
            let here : fault_at layout k input n ≡ Some fault = grind (arith, first_push (fault_at layout k input) n) in
            let before = first_none (fault_at layout k input) n none in
            (record { place = n; within = omega arith; here = here; first = before }, omega arith)
      ]

  -- the first fault of the first n places is the fault of the input, at one of these places
  first_is : (n : ℕ) (fault : LayoutFault) → n ≤ length input + 1
      → first_some (map (fault_at layout k input) (below n)) ≡ Some fault
      ↔ ((r : RejectsInstance layout input k fault) × (r.place < n))
  first_is n fault few =
      (first_fault n fault few, λ r. grind (arith, first_none (fault_at layout k input) n, first_fault n, one_fault))

-- `rejection` computes the fault of the first place that has one
pub rejection_is : RejectionLaw
unfolding rejection
rejection_is layout input k fault =
    let is = first_is layout input k (length input + 1) fault (omega arith) in
    (λ e. (is.0 e).0, λ r. is.1 (r, omega (arith, r.within)))

-- the first fault at a byte is the fault of the input, at a place that is a byte
pub byte_fault_is : ByteFaultLaw
unfolding byte_fault
byte_fault_is layout text k fault = first_is layout text k (length text) fault (omega arith)
