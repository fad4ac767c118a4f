-- Rows of tails, and tables with rows of heads or of tails.
use Rattle.std.proofs.Common.{◌≡◌, ◌≢◌, ℕ, zero, suc, ◌+◌, ◌-◌, ◌*◌, ◌<◌, ◌≤◌, max, List, length, nat_lt}
use Rattle.std.proofs.Common.{get_or, set, take, replicate, refl, sym, ◌∙◌, inl, inr, ◌⊎◌, if◌then◌else◌, arith, rules}
use Rattle.std.proofs.Common.{length-set}
use Rattle.std.proofs.Math.Nat.{mul-le-mul_right}
use Rattle.std.proofs.lemmas.Bool.{cases_eq, cases_lt, lt-ltb, le-ltb}
use Rattle.std.proofs.lemmas.List.{get_or-set_same, get_or-set_other, get_or-replicate, get_or-take, length-replicate}
use Rattle.std.proofs.lemmas.List.{length-take-le, places}
use Rattle.pfs_base.specs.declared.bench.TheConstants.{SPAN_MAX}
use Rattle.pfs_base.specs.declared.limits.TheConstants.{LONGEST_TIME}
use Rattle.pfs_base.specs.FlowShop.{FlowShop, IsWithin}
use Rattle.pfs_base.specs.Heads.{AreOf}
use Rattle.pfs_base.specs.Limits.{limits}
use Rattle.pfs_base.specs.Paths.{operation}
use Rattle.pfs_base.proofs.Published.Heads.{time_of-le}
use Rattle.pfs_insert.specs.Exchange.{heaviest_back}
use Rattle.pfs_insert.proofs.Published.TableRows.{back_none, back_last, back_more}
use Rattle.pfs_c.specs.Private.Rows.{AreTails}
use borrow.Rule.Slice.PartMut.{put_mid}

-- ---- tails from those of the next job

module _ (shop : FlowShop) (jobs : List ℕ) where
  -- the tail on a machine, and 0 after the last one
  abbrev pub tail_from : ℕ → ℕ → ℕ
  tail_from row machine = if nat_lt machine shop.machines then heaviest_back shop jobs row machine else 0

  pub tail_from-in : (row machine : ℕ) → machine < shop.machines
      → tail_from row machine ≡ heaviest_back shop jobs row machine
  tail_from-in row machine lt = rw (lt-ltb machine shop.machines lt) refl

  pub tail_from-after : (row machine : ℕ) → shop.machines ≤ machine → tail_from row machine ≡ 0
  tail_from-after row machine all = rw (le-ltb machine shop.machines all) refl

  -- what a loop over the machines computes
  pub next_tail : (row machine below after time : ℕ) → row < length jobs → machine < shop.machines
      → below ≡ heaviest_back shop jobs (row + 1) machine → after ≡ tail_from row (machine + 1)
      → time ≡ operation shop jobs row machine → max below after + time ≡ heaviest_back shop jobs row machine
  next_tail row machine below after time inside lt below_is after_is time_is =
      let next : row + 1 ≡ suc row = omega arith in
      let beside : machine + 1 ≡ suc machine = omega arith in
      let under : below ≡ heaviest_back shop jobs (suc row) machine = rw next at below_is in
      let right : after ≡ tail_from row (suc machine) = rw beside at after_is in
      elim (cases_lt (suc machine) shop.machines) [
        | inl more ↦ omega (
          arith,
          back_more shop jobs row machine inside (omega arith),
          under,
          right ∙ tail_from-in row (suc machine) more,
          time_is,
        )
        | inr none ↦ omega (
          arith,
          back_last shop jobs row machine inside (omega arith),
          under,
          right ∙ tail_from-after row (suc machine) none,
          time_is,
        )
      ]

  -- after the last job all tails are 0
  pub tails_none : (count : ℕ) → shop.machines ≤ count → AreTails shop jobs (length jobs) (replicate count 0)
  tails_none count few = record {
    every = omega (arith, length-replicate {A = ℕ});
    values = λ machine lt. get_or-replicate count machine 0 0 (omega arith)
        ∙ sym (back_none shop jobs (length jobs) machine (omega arith));
  }

  -- ---- no tail is too long

  module _ (within : IsWithin limits shop) where
    tail_le : (rows ons row machine : ℕ) → row + rows ≡ length jobs → machine + suc ons ≡ shop.machines
        → heaviest_back shop jobs row machine ≤ (rows + ons) * LONGEST_TIME
    tail_le zero ons row machine rows_are ons_are = omega (arith, back_none shop jobs row machine (omega arith))
    tail_le (suc rows) zero row machine rows_are ons_are = omega (
      arith,
      back_last shop jobs row machine (omega arith) (omega arith),
      tail_le rows zero (suc row) machine (omega arith) ons_are,
      time_of-le shop within (get_or jobs row 0) machine,
    )
    tail_le (suc rows) (suc ons) row machine rows_are ons_are = omega (
      arith,
      back_more shop jobs row machine (omega arith) (omega arith),
      tail_le rows (suc ons) (suc row) machine (omega arith) ons_are,
      tail_le (suc rows) ons row (suc machine) rows_are (omega arith),
      time_of-le shop within (get_or jobs row 0) machine,
    )

    pub tail_short : (row machine tail : ℕ) → length jobs ≤ shop.jobs → row ≤ length jobs → machine < shop.machines
        → tail ≡ heaviest_back shop jobs row machine → tail ≤ SPAN_MAX
    tail_short row machine tail few inside lt is =
        let sizes = within.sizes in
        omega (
          arith,
          tail_le (length jobs - row) (shop.machines - 1 - machine) row machine (omega arith) (omega arith),
          is,
          few,
          sizes,
        )

    pub tail_from-short : (row machine tail : ℕ) → length jobs ≤ shop.jobs → row ≤ length jobs
        → tail ≡ tail_from row machine → tail ≤ SPAN_MAX
    tail_from-short row machine tail few inside is = elim (cases_lt machine shop.machines) [
      | inl more ↦ tail_short row machine tail few inside more (is ∙ tail_from-in row machine more)
      | inr none ↦ omega (arith, is ∙ tail_from-after row machine none)
    ]

-- ---- a row that a loop from the last machine on changes

-- the numbers are the new ones from a machine on, and the old ones before it
pub record AreFrom (old new : ℕ → ℕ) (machines machine : ℕ) (numbers : List ℕ) : Type 0 where
  pub every : machines ≤ length numbers
  pub done : (k : ℕ) → machine ≤ k → k < machines → get_or numbers k 0 ≡ new k
  pub to_do : (k : ℕ) → k < machine → get_or numbers k 0 ≡ old k

pub from_more : (old new : ℕ → ℕ) (machines next machine x : ℕ) (numbers : List ℕ) → next ≡ machine + 1
    → next ≤ machines → AreFrom old new machines next numbers → x ≡ new machine
    → AreFrom old new machines machine (set numbers machine x)
from_more old new machines next machine x numbers next_is all are here =
    let within : machine < length numbers = omega (arith, are.every) in
    record {
      every = omega (arith, length-set numbers machine x, are.every);
      done = λ k above inside. elim (cases_eq k machine) [
        | inl is ↦ rw is (get_or-set_same numbers machine x 0 within ∙ here)
        | inr other ↦ get_or-set_other numbers machine k x 0 other ∙ are.done k (omega arith) inside
      ];
      to_do = λ k below. get_or-set_other numbers machine k x 0 (omega arith) ∙ are.to_do k (omega arith);
    }

-- ---- a table of rows

-- an element of a list in which a part was written, in the part and outside
put_in : (a n i : ℕ) (xs ys : List ℕ) → length ys ≡ n → a + n ≤ length xs → i < n
    → get_or (put_mid a n xs ys) (a + i) 0 ≡ get_or ys i 0
put_in a n i xs ys long fits within = search (rules, places)

put_out : (a n i : ℕ) (xs ys : List ℕ) → length ys ≡ n → a + n ≤ length xs → (i < a) ⊎ (a + n ≤ i)
    → get_or (put_mid a n xs ys) i 0 ≡ get_or xs i 0
put_out a n i xs ys long fits (inl before) = search (rules, places)
put_out a n i xs ys long fits (inr after) = search (rules, places)

-- a row is copied to its place
pub row_put : (value : ℕ → ℕ → ℕ) (count machines place n : ℕ) (table row part : List ℕ) → place < count
    → length table ≡ count * machines → AreOf (value place) machines row → n ≡ machines → part ≡ take machines row
    → (r machine : ℕ) → machine < machines → (r ≢ place → get_or table (r * machines + machine) 0 ≡ value r machine)
    → get_or (put_mid (place * machines) n table part) (r * machines + machine) 0 ≡ value r machine
row_put value count machines place n table row part inside all are same_n same_part r machine in_row others =
    let fits : (place + 1) * machines ≤ count * machines = mul-le-mul_right machines (omega arith) in
    let long : length part ≡ n = rw (same_part, same_n) (length-take-le machines row are.every) in
    let room : place * machines + n ≤ length table = omega (arith, fits, all, same_n) in
    elim (cases_eq r place) [
      | inl same ↦ rw same
          (put_in (place * machines) n machine table part long room (omega (arith, same_n))
          ∙ rw same_part (get_or-take machines row machine 0 in_row) ∙ are.values machine in_row)
      | inr apart ↦
          let outside : (r * machines + machine < place * machines) ⊎ (place * machines + n ≤ r * machines + machine) =
          elim (cases_lt r place) [
            | inl before ↦
                let ends : (r + 1) * machines ≤ place * machines = mul-le-mul_right machines (omega arith) in
                inl (omega (arith, ends))
            | inr after ↦
                let starts : (place + 1) * machines ≤ r * machines =
                mul-le-mul_right machines (omega (arith, apart)) in inr (omega (arith, starts, same_n))
          ] in
          put_out (place * machines) n (r * machines + machine) table part long room outside ∙ others apart
    ]
