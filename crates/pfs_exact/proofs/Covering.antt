-- How the searches of parts join.
use Rattle.std.proofs.Common.{◌≡◌, ℕ, ◌≤◌, ◌⊎◌, inl, inr, List, [], ◌∷◌, ◌++◌, length, arith, subst, sym, All}
use Rattle.std.proofs.lemmas.List.Elements.{All-head, All-tail}
use Rattle.pfs_order.specs.Sequence.{IsSequence}
use Rattle.pfs_base.specs.FlowShop.{FlowShop}
use Rattle.pfs_base.specs.Paths.{makespan}
use Rattle.pfs_exact.specs.declared.parts.Part.{Part}
use Rattle.pfs_exact.specs.Parts.{IsFull, IsIn, IsInSome, IsPart}
use Rattle.pfs_exact.specs.Parts.{NothingLeft, PartSearched, PartBounded, PartsBounded}
use Rattle.pfs_exact.proofs.GrownEnds.{from_none}

pub in_left : (order : List ℕ) (parts more : List Part) → IsInSome order parts → IsInSome order (parts ++ more)
in_left order [] more among = absurd among
in_left order (part ∷ parts) more (inl here) = inl here
in_left order (part ∷ parts) more (inr there) = inr (in_left order parts more there)

pub in_right : (order : List ℕ) (parts more : List Part) → IsInSome order more → IsInSome order (parts ++ more)
in_right order [] more among = among
in_right order (part ∷ parts) more among = inr (in_right order parts more among)

pub in_cases : (order : List ℕ) (parts more : List Part) → IsInSome order (parts ++ more)
    → IsInSome order parts ⊎ IsInSome order more
in_cases order [] more among = inr among
in_cases order (part ∷ parts) more (inl here) = inl (inl here)
in_cases order (part ∷ parts) more (inr there) = elim (in_cases order parts more there) [
  | inl before ↦ inl (inr before)
  | inr after ↦ inr after
]

-- what holds of the orders of a part holds of those that are in it
pub by_middle : (shop : FlowShop) (order : List ℕ) (part : Part) → IsSequence shop.jobs order → length order ≡ shop.jobs
    → (among : IsIn order part) → IsFull shop part.front.jobs among.0 part.back.jobs
by_middle shop order part sequence full (middle, is) = record {
  sequence = subst (IsSequence shop.jobs) is sequence;
  full = subst (λ (l : List ℕ). length l ≡ shop.jobs) is full;
}

pub nothing_left : NothingLeft
nothing_left shop number covers = from_none shop number (λ middle full. elim (covers middle full) [
  | inl small ↦ small
  | inr among ↦ absurd among
])

pub part_searched : PartSearched
part_searched shop front back number less part parts more covers searched small middle full =
    let order : List ℕ = front ++ (middle ++ back) in
    elim (covers middle full) [
      | inl long ↦ inl (omega arith)
      | inr (inl (between, is)) ↦ elim (searched between (by_middle shop order part full.sequence full.full (between, is))) [
        | inl long ↦ inl (subst (λ (l : List ℕ). less ≤ makespan shop l) (sym is) long)
        | inr among ↦ inr (in_left order more parts (subst (λ (l : List ℕ). IsInSome l more) (sym is) among))
      ]
      | inr (inr there) ↦ inr (in_right order more parts there)
    ]

pub in_bounded : (shop : FlowShop) (order : List ℕ) (number : ℕ) (part : Part) → IsSequence shop.jobs order
    → length order ≡ shop.jobs → IsPart shop part → number ≤ part.bound → IsIn order part → number ≤ makespan shop order
in_bounded shop order number part sequence full bounded small (between, is) =
    let long = bounded.low between (by_middle shop order part sequence full (between, is)) in
    subst (λ (l : List ℕ). number ≤ makespan shop l) (sym is) (omega arith)

pub part_bounded : PartBounded
part_bounded shop front back number part parts covers bounded small middle full =
    elim (covers middle full) [
      | inl long ↦ inl long
      | inr (inl here) ↦ inl (in_bounded shop (front ++ (middle ++ back)) number part full.sequence full.full bounded small here)
      | inr (inr there) ↦ inr there
    ]

pub in_all : (shop : FlowShop) (order : List ℕ) (number : ℕ) (parts : List Part) → IsSequence shop.jobs order
    → length order ≡ shop.jobs → All (IsPart shop) parts → All (λ part. number ≤ part.bound) parts → IsInSome order parts
    → number ≤ makespan shop order
in_all shop order number [] sequence full bounded small among = absurd among
in_all shop order number (part ∷ parts) sequence full bounded small (inl here) =
    in_bounded shop order number part sequence full (All-head (IsPart shop) part parts bounded)
    (All-head (λ (p : Part). number ≤ p.bound) part parts small) here
in_all shop order number (part ∷ parts) sequence full bounded small (inr there) =
    in_all shop order number parts sequence full (All-tail (IsPart shop) part parts bounded)
    (All-tail (λ (p : Part). number ≤ p.bound) part parts small) there

pub parts_bounded : PartsBounded
parts_bounded shop front back number less parts covers bounded small every middle full =
    elim (covers middle full) [
      | inl long ↦ omega arith
      | inr among ↦ in_all shop (front ++ (middle ++ back)) less parts full.sequence full.full bounded every among
    ]
