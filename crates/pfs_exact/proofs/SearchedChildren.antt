-- The children of a node that were searched: each once, so that there are few nodes.
use Rattle.std.proofs.Common.{◌≡◌, ℕ, zero, suc, ◌+◌, ◌-◌, ◌*◌, ◌<◌, ◌≤◌, List, [], ◌∷◌, ◌++◌, length, get_or, set}
use Rattle.std.proofs.Common.{arith, refl, ◌/◌, ◌⊎◌, inl, inr, ap, sym, subst, Contains}
use Rattle.std.proofs.Math.Nat.{mul-suc, suc-mul}
use Rattle.std.proofs.lemmas.Bool.{cases_eq}
use Rattle.std.proofs.lemmas.List.{get_or-set_same, get_or-set_other, length-append}
use Rattle.std.proofs.lemmas.Nat.{mul-le}
use Rattle.pfs_order.specs.Sequence.{IsSequence}
use Rattle.pfs_order.proofs.Published.Sequences.{IsSequence-cons, length-le-size}
use Rattle.pfs_exact.specs.MostNodes.{most_nodes}
use Rattle.pfs_exact.specs.Private.Nodes.{IsOpen, most_more}
use Rattle.pfs_exact.proofs.GrownEnds.{absent}

-- these are at neither end, and none of their numbers is below the goal; with many jobs between, each took at most as many
-- nodes as there can be with one job less, one of them left as many parts, and each after it one
pub record AreEntered (size many : ℕ) (placed bounds : List ℕ) (best start left given parts : ℕ) (entered : List ℕ) : Type 0 where
  pub sequence : IsSequence size (entered ++ placed)
  pub closed : (job : ℕ) → Contains entered job → best ≤ get_or bounds job 0
  pub few : start ≤ left + 1 + length entered * most_nodes (many - 1)
  pub room : parts ≤ given + length entered + most_more (many - 1)

pub none_entered : (size many : ℕ) (placed bounds : List ℕ) (best start left given : ℕ) → start ≤ left + 1
    → IsSequence size placed → AreEntered size many placed bounds best start left given given []
none_entered size many placed bounds best start left given few sequence = record {
  sequence = sequence;
  closed = λ job (at, within, found). absurd (omega arith);
  few = omega arith;
  room = omega arith;
}

among_more : (entered : List ℕ) (job other : ℕ) → (other ≡ job → ⊥) → Contains (job ∷ entered) other → Contains entered other
among_more entered job other differ (zero, within, found) = absurd (differ (sym found))
among_more entered job other differ (suc at, within, found) = (at, omega arith, found)

module _ (size many : ℕ) (front back bounds entered : List ℕ) (best start left given parts job : ℕ)
    (are : AreEntered size many (front ++ back) bounds best start left given parts entered) where
  -- a job with a number below the goal was not searched yet
  pub one_more : (better less number more : ℕ) → job < size → job < length bounds → IsOpen front back job
      → get_or bounds job 0 < best → better ≤ best → better ≤ number
      → left ≤ less + most_nodes (many - 1) → (more ≤ parts + 1) ⊎ (more ≤ given + 1 + most_more (many - 1))
      → AreEntered size many (front ++ back) (set bounds job number) better start less given more (job ∷ entered)
  one_more better less number more small within outside below no_longer enough few left_over =
      let new : Contains entered job → ⊥ = λ among. let above = are.closed job among in omega arith in
      record {
        sequence = IsSequence-cons size job (entered ++ (front ++ back)) small
            (absent entered (front ++ back) job (new, absent front back job outside)) are.sequence;
        closed = λ other among. elim (cases_eq other job) [
          | inl is ↦
              let same = get_or-set_same bounds job number 0 within in
              subst (λ j. better ≤ get_or (set bounds job number) j 0) (sym is) (omega arith)
          | inr differ ↦
              let before = are.closed other (among_more entered job other differ among) in
              let kept = get_or-set_other bounds job other number 0 differ in
              omega arith
        ];
        few = let before = are.few in let more = suc-mul (length entered) (most_nodes (many - 1)) in omega arith;
        room = let before = are.room in elim left_over [
          | inl one ↦ omega arith
          | inr first ↦ omega arith
        ];
      }

some_node : (jobs : ℕ) → 1 ≤ most_nodes jobs
some_node zero = omega arith
some_node (suc jobs) = omega arith

within_most : (many entered : ℕ) → entered ≤ many → 1 + entered * most_nodes (many - 1) ≤ most_nodes many
within_most zero entered few = let none : entered ≡ 0 = omega arith in rw none (omega arith)
within_most (suc many) entered few =
    let one : most_nodes (suc many - 1) ≡ most_nodes many = ap most_nodes (omega arith) in
    let less = mul-le entered (most_nodes (suc many - 1)) (suc many) (most_nodes many) few (omega arith) in
    omega arith

pub few_nodes : (size : ℕ) (front back bounds entered : List ℕ) (best start left given parts : ℕ)
    → AreEntered size (size - (length front + length back)) (front ++ back) bounds best start left given parts entered
    → start ≤ left + most_nodes (size - (length front + length back))
few_nodes size front back bounds entered best start left given parts are =
    let many = size - (length front + length back) in
    let all = length-le-size size (entered ++ (front ++ back)) are.sequence in
    let together = length-append entered (front ++ back) in
    let ends = length-append front back in
    let most = within_most many (length entered) (omega arith) in
    let few = are.few in
    omega arith

most_step : (many entered : ℕ) → entered ≤ many → entered + most_more (many - 1) ≤ 1 + most_more many
most_step zero entered few = let none : entered ≡ 0 = omega arith in rw none (omega arith)
most_step (suc many) entered few =
    let one : most_more (suc many - 1) ≡ most_more many = ap most_more (omega arith) in omega arith

pub few_parts : (size : ℕ) (front back bounds entered : List ℕ) (best start left given parts : ℕ)
    → AreEntered size (size - (length front + length back)) (front ++ back) bounds best start left given parts entered
    → parts ≤ given + 1 + most_more (size - (length front + length back))
few_parts size front back bounds entered best start left given parts are =
    let many = size - (length front + length back) in
    let all = length-le-size size (entered ++ (front ++ back)) are.sequence in
    let together = length-append entered (front ++ back) in
    let ends = length-append front back in
    let most = most_step many (length entered) (omega arith) in
    let room = are.room in
    omega arith

pub more_most : (few many : ℕ) → few ≤ many → most_more few ≤ most_more many
more_most few zero less = let none : few ≡ 0 = omega arith in rw none (omega arith)
more_most few (suc many) less = elim (cases_eq few (suc many)) [
  | inl same ↦ rw same (omega arith)
  | inr other ↦ let rest = more_most few many (omega arith) in omega arith
]

-- half of the pairs of jobs
pairs_of : (jobs : ℕ) → 2 * most_more jobs + jobs ≡ jobs * jobs
pairs_of zero = refl
pairs_of (suc jobs) =
    let before = pairs_of jobs in
    let one = suc-mul jobs (suc jobs) in
    let two = mul-suc jobs jobs in
    omega arith

pub few_pairs : (jobs : ℕ) → most_more jobs ≤ jobs * (jobs + 1) / 2
few_pairs jobs =
    let pairs = pairs_of jobs in
    let one = mul-suc jobs jobs in
    let same : jobs * (jobs + 1) ≡ jobs * suc jobs = ap (λ n. jobs * n) (omega arith) in
    omega arith
