-- Rows of parts: the orders in a row are those in its part, and a row stays when others are written.
use Rattle.std.proofs.Common.{◌≡◌, ℕ, zero, suc, ◌+◌, ◌-◌, ◌*◌, ◌<◌, ◌≤◌, ◌++◌, inl, inr, List, [], ◌∷◌, length, take, drop}
use Rattle.std.proofs.Common.{append_assoc, get_or, All, ◌⊎◌, arith, rules, refl, sym, ap, ◌∙◌, subst}
use Rattle.std.proofs.Math.ListN.{drop_of_length-le}
use Rattle.std.proofs.lemmas.Bool.{cases_lt, ne_eqb}
use Rattle.std.proofs.lemmas.List.Elements.{All-from_get_or, All-get_or}
use Rattle.std.proofs.lemmas.List.{drop_more, drop-take, ext_get_or, get_or-drop, get_or-take, get_or_append_left}
use Rattle.std.proofs.lemmas.List.{length-append, length-take-le, places, take_more}
use Rattle.std.proofs.lemmas.Slice.{take-put_mid, take-put_mid_below}
use Rattle.std.proofs.Math.Nat.{mul-le-mul_right}
use Rattle.std.proofs.Math.Seq.{drop-append_seam, get_or-append_seam}
use borrow.Rule.Slice.PartMut.{put_mid}
use Rattle.pfs_base.specs.FlowShop.{FlowShop}
use Rattle.pfs_base.specs.Paths.{makespan}
use Rattle.pfs_batch.specs.SequenceLists.{sequence_at}
use Rattle.pfs_exact.specs.declared.parts.Part.{Part}
use Rattle.pfs_exact.specs.Parts.{IsIn, IsInSome, IsPart}
use Rattle.pfs_order.specs.Sequence.{IsSequence}
use Rattle.pfs_order.proofs.Published.Sequences.{IsSequence-rest, length-le-size}
use Rattle.pfs_c.proofs.Jobs.{joined}
use Rattle.pfs_c.specs.declared.parts.TheConstants.{PFS_OPEN}
use Rattle.pfs_c.specs.Parts.{IsInRow, IsInRows, after_open, jobs_of}
use Rattle.pfs_c.specs.Private.PartRows.{AreRows, IsRow}

-- ---- the first run of PFS_OPEN

module _ (row : List ℕ) (place : ℕ) where
  pub job_more : place < length row → (get_or row place 0 ≡ PFS_OPEN → ⊥)
      → take place row ++ jobs_of (drop place row) ≡ take (place + 1) row ++ jobs_of (drop (place + 1) row)
  job_more within other = rw (
    drop_more row place 0 within,
    take_more row place 0 within,
    ne_eqb (get_or row place 0) PFS_OPEN other,
    append_assoc (take place row) (get_or row place 0 ∷ []) (jobs_of (drop (place + 1) row)),
  ) refl

  pub run_first : (length row ≤ place) ⊎ (get_or row place 0 ≡ PFS_OPEN)
      → jobs_of (drop place row) ≡ after_open (drop place row)
  run_first (inl end) = rw (drop_of_length-le row end) refl
  run_first (inr open_place) = elim (cases_lt place (length row)) [
    | inl within ↦ rw (drop_more row place 0 within, open_place) refl
    | inr end ↦ rw (drop_of_length-le row end) refl
  ]

  pub run_more : place < length row → get_or row place 0 ≡ PFS_OPEN
      → after_open (drop place row) ≡ after_open (drop (place + 1) row)
  run_more within is = rw (drop_more row place 0 within, is) refl

  pub run_last : (length row ≤ place) ⊎ (get_or row place 0 ≡ PFS_OPEN → ⊥) → after_open (drop place row) ≡ drop place row
  run_last (inl end) = rw (drop_of_length-le row end) refl
  run_last (inr other) = elim (cases_lt place (length row)) [
    | inl within ↦ rw (drop_more row place 0 within, ne_eqb (get_or row place 0) PFS_OPEN other) refl
    | inr end ↦ rw (drop_of_length-le row end) refl
  ]

-- ---- the orders in a row

module _ (jobs : ℕ) (part : Part) (row order : List ℕ) (is : IsRow jobs part row) (long : length order ≡ jobs) where
  at_front : (middle : List ℕ) (place : ℕ) → place < length part.front.jobs
      → get_or (part.front.jobs ++ (middle ++ part.back.jobs)) place 0 ≡ get_or part.front.jobs place 0
  at_front middle place lt = search (rules, places)

  at_back : (middle : List ℕ) (place : ℕ)
      → get_or (part.front.jobs ++ (middle ++ part.back.jobs)) (length part.front.jobs + length middle + place) 0
      ≡ get_or part.back.jobs place 0
  at_back middle place = search (rules, places)

  pub in_row : IsIn order part → IsInRow order row
  in_row (middle, same) = λ place within.
      let size = ap (λ (l : List ℕ). length l) same in
      let one = length-append part.front.jobs (middle ++ part.back.jobs) in
      let two = length-append middle part.back.jobs in
      let here = ap (λ (l : List ℕ). get_or l place 0) same in
      elim (cases_lt place (length part.front.jobs)) [
        | inl first ↦ inl (is.front place first ∙ sym (here ∙ at_front middle place first))
        | inr after ↦ elim (cases_lt place (jobs - length part.back.jobs)) [
          | inl between ↦ inr (is.between place after between)
          | inr last ↦
              let k = place - (jobs - length part.back.jobs) in
              let at : jobs - length part.back.jobs + k ≡ place = omega arith in
              let from : length part.front.jobs + length middle + k ≡ place = omega arith in
              let right = subst (λ (p : ℕ). get_or row p 0 ≡ get_or part.back.jobs k 0) at (is.back k (omega arith)) in
              let left = subst (λ (p : ℕ). get_or (part.front.jobs ++ (middle ++ part.back.jobs)) p 0 ≡ get_or part.back.jobs k 0)
              from (at_back middle k) in
              inl (right ∙ sym (here ∙ left))
        ]
      ]

  -- a job of a part is not PFS_OPEN
  is_job : (jobs_in : List ℕ) (place : ℕ) → IsSequence jobs jobs_in → place < length jobs_in → jobs < PFS_OPEN
      → get_or jobs_in place 0 ≡ PFS_OPEN → ⊥
  is_job jobs_in place sequence lt small same =
      let below = All-get_or (λ job. job < jobs) jobs_in place 0 lt sequence.in_range in omega arith

  pub in_part : IsSequence jobs (part.front.jobs ++ part.back.jobs) → jobs < PFS_OPEN → IsInRow order row → IsIn order part
  in_part apart small among =
      let front = part.front.jobs in
      let back = part.back.jobs in
      let between = jobs - length back - length front in
      let middle : List ℕ = take between (drop (length front) order) in
      let few = is.few in
      let many : length middle ≡ between = search (rules, places) in
      let one = length-append front (middle ++ back) in
      let two = length-append middle back in
      let ends = length-append front back in (
        middle,
        ext_get_or 0 order (front ++ (middle ++ back)) (omega arith) (λ place within.
            elim (cases_lt place (length front)) [
              | inl first ↦
                  let here : get_or (front ++ back) place 0 ≡ get_or front place 0 = search (rules, places) in
                  elim (among place within) [
                    | inl same ↦ sym same ∙ is.front place first ∙ sym (at_front middle place first)
                    | inr none ↦ absurd (is_job (front ++ back) place apart (omega arith) small (here ∙ sym (is.front place first) ∙ none))
                  ]
              | inr after ↦ elim (cases_lt place (jobs - length back)) [
                | inl inside ↦
                    let k = place - length front in
                    let from : length front + k ≡ place = omega arith in
                    let at : get_or (front ++ (middle ++ back)) (length front + k) 0 ≡ get_or middle k 0 = search (rules, places) in
                    let there : get_or middle k 0 ≡ get_or order (length front + k) 0 = search (rules, places) in
                    subst (λ (p : ℕ). get_or order p 0 ≡ get_or (front ++ (middle ++ back)) p 0) from (sym (at ∙ there))
                | inr last ↦
                    let k = place - (jobs - length back) in
                    let at : jobs - length back + k ≡ place = omega arith in
                    let from : length front + length middle + k ≡ place = omega arith in
                    let right = subst (λ (p : ℕ). get_or row p 0 ≡ get_or back k 0) at (is.back k (omega arith)) in
                    let left = subst (λ (p : ℕ). get_or (front ++ (middle ++ back)) p 0 ≡ get_or back k 0) from (at_back middle k) in
                    let here : get_or (front ++ back) (length front + k) 0 ≡ get_or back k 0 = search (rules, places) in
                    elim (among place within) [
                      | inl same ↦ sym same ∙ right ∙ sym left
                      | inr none ↦ absurd (is_job (front ++ back) (length front + k) apart (omega arith) small
                          (here ∙ sym right ∙ none))
                    ]
              ]
            ]),
      )

-- none of the orders in a part is shorter than its bound
pub in_bounded : (shop : FlowShop) (part : Part) (order : List ℕ) → IsPart shop part → IsSequence shop.jobs order
    → length order ≡ shop.jobs → IsIn order part → part.bound ≤ makespan shop order
in_bounded shop part order is sequence full (middle, same) = subst (λ (l : List ℕ). part.bound ≤ makespan shop l) (sym same)
    (is.low middle (record {
      sequence = subst (IsSequence shop.jobs) same sequence;
      full = subst (λ (l : List ℕ). length l ≡ shop.jobs) same full;
    }))

-- ---- lists of parts

-- what stands for a part where there is none
no_part : Part
no_part = record { front = record { size = 0; jobs = [] }; back = record { size = 0; jobs = [] }; bound = 0 }

pub few_in : (shop : FlowShop) (parts : List Part) → All (IsPart shop) parts
    → All (λ (part : Part). length part.front.jobs + length part.back.jobs ≤ shop.jobs) parts
few_in shop parts all =
    All-from_get_or (λ (part : Part). length part.front.jobs + length part.back.jobs ≤ shop.jobs) parts no_part (λ i lt.
    let one = All-get_or (IsPart shop) parts i no_part lt all in
    let part = get_or parts i no_part in
    omega (
      arith,
      length-le-size shop.jobs (part.front.jobs ++ part.back.jobs) one.apart,
      length-append part.front.jobs part.back.jobs,
    ))

some_at : (order : List ℕ) (parts : List Part) (index : ℕ) → index < length parts
    → ((d : Part) → IsIn order (get_or parts index d)) → IsInSome order parts
some_at order [] index within is = absurd (omega arith)
some_at order (part ∷ parts) zero within is = inl (is part)
some_at order (part ∷ parts) (suc index) within is = inr (some_at order parts index (omega arith) is)

at_some : (order : List ℕ) (parts : List Part) → IsInSome order parts
    → (index : ℕ) × ((index < length parts) × ((d : Part) → IsIn order (get_or parts index d)))
at_some order [] among = absurd among
at_some order (part ∷ parts) (inl here) = (0, (omega arith, λ d. here))
at_some order (part ∷ parts) (inr there) =
    let (index, (within, is)) = at_some order parts there in (suc index, (omega arith, is))

module _ (shop : FlowShop) (parts : List Part) (rows order : List ℕ) (are : AreRows shop.jobs parts rows)
    (full : length order ≡ shop.jobs) where
  pub in_rows : IsInSome order parts → IsInRows order shop.jobs (length parts) rows
  in_rows among =
      let (index, (within, is)) = at_some order parts among in (
        index,
        (
          within,
          in_row shop.jobs (get_or parts index no_part) (sequence_at shop.jobs rows index) order (are index no_part within)
              full (is no_part),
        ),
      )

  pub in_parts : All (IsPart shop) parts → shop.jobs < PFS_OPEN → IsInRows order shop.jobs (length parts) rows
      → IsInSome order parts
  in_parts all small (index, (within, among)) = some_at order parts index within (λ d.
      in_part shop.jobs (get_or parts index d) (sequence_at shop.jobs rows index) order (are index d within) full
      (All-get_or (IsPart shop) parts index d within all).apart small among)

  pub bounds_hold : All (IsPart shop) parts → shop.jobs < PFS_OPEN → IsSequence shop.jobs order → (index number : ℕ)
      → index < length parts → ((d : Part) → number ≡ (get_or parts index d).bound)
      → IsInRow order (sequence_at shop.jobs rows index) → number ≤ makespan shop order
  bounds_hold all small sequence index number within same among =
      let one = All-get_or (IsPart shop) parts index no_part within all in
      let long = in_bounded shop (get_or parts index no_part) order one sequence full
      (in_part shop.jobs (get_or parts index no_part) (sequence_at shop.jobs rows index) order (are index no_part within)
      full one.apart small among) in
      let is = same no_part in
      omega arith

-- ---- rows that are read and written

pub back_is : (size : ℕ) (front back : List ℕ) → IsSequence size (front ++ back) → IsSequence size back
back_is size [] back is = is
back_is size (job ∷ front) back is = back_is size front back (IsSequence-rest size job (front ++ back) is)

pub front_is : (size : ℕ) (front back : List ℕ) → IsSequence size (front ++ back) → IsSequence size front
front_is size front back is = back_is size back front (joined size front back is)

pub row_is : (jobs first last : ℕ) (part : Part) (row : List ℕ) → length row ≡ jobs → first ≤ last → last ≤ length row
    → part.front.jobs ≡ take first row → part.back.jobs ≡ drop last row
    → ((place : ℕ) → first ≤ place → place < last → get_or row place 0 ≡ PFS_OPEN) → IsRow jobs part row
row_is jobs first last part row long ordered within front back run =
    let fronts : length part.front.jobs ≡ first = ap (λ (l : List ℕ). length l) front ∙ search (rules, places) in
    let backs : length part.back.jobs ≡ length row - last = ap (λ (l : List ℕ). length l) back ∙ search (rules, places) in
    record {
      long = long;
      few = omega arith;
      front = λ place lt.
          let at : get_or (take first row) place 0 ≡ get_or row place 0 = get_or-take first row place 0 (omega arith) in
          sym (ap (λ (l : List ℕ). get_or l place 0) front ∙ at);
      between = λ place above below. run place (omega arith) (omega arith);
      back = λ place lt.
          let from : last + place ≡ jobs - length part.back.jobs + place = omega arith in
          let at = get_or-drop last row place 0 in
          sym (ap (λ (l : List ℕ). get_or l place 0) back ∙ at ∙ ap (λ n. get_or row n 0) from);
    }

pub rows_more : (jobs : ℕ) (parts : List Part) (part : Part) (rows : List ℕ) → AreRows jobs parts rows
    → IsRow jobs part (sequence_at jobs rows (length parts)) → AreRows jobs (parts ++ part ∷ []) rows
rows_more jobs parts part rows are one = λ index d within.
    elim (cases_lt index (length parts)) [
      | inl before ↦ subst (λ (p : Part). IsRow jobs p (sequence_at jobs rows index))
          (sym (get_or_append_left parts (part ∷ []) d index before)) (are index d before)
      | inr last ↦
          let size = length-append parts (part ∷ []) in
          let here : length parts ≡ index = omega arith in
          subst (λ (i : ℕ). IsRow jobs (get_or (parts ++ part ∷ []) i d) (sequence_at jobs rows i)) here
          (subst (λ (p : Part). IsRow jobs p (sequence_at jobs rows (length parts)))
          (sym (get_or-append_seam parts part [] d)) one)
    ]

module _ (jobs index n : ℕ) (rows row : List ℕ) (same_n : n ≡ jobs) (long : length row ≡ n)
    (fits : index * jobs + n ≤ length rows) where
  pub row_here : sequence_at jobs (put_mid (index * jobs) n rows row) index ≡ row
  row_here =
      let size : length (take (index * jobs) rows) ≡ index * jobs = length-take-le (index * jobs) rows (omega arith) in
      sym (drop-take (index * jobs) jobs (put_mid (index * jobs) n rows row))
      ∙ ap (drop (index * jobs)) (take-put_mid (index * jobs) n rows row (index * jobs + jobs) (omega arith) (omega arith))
      ∙ subst (λ (m : ℕ). drop m (take (index * jobs) rows ++ row) ≡ row) size
      (drop-append_seam (take (index * jobs) rows) row)

  pub row_there : (k : ℕ) → k < index → sequence_at jobs (put_mid (index * jobs) n rows row) k ≡ sequence_at jobs rows k
  row_there k lt =
      let before : (k + 1) * jobs ≤ index * jobs = mul-le-mul_right jobs (omega arith) in
      sym (drop-take (k * jobs) jobs (put_mid (index * jobs) n rows row))
      ∙ ap (drop (k * jobs)) (take-put_mid_below (index * jobs) n rows row (k * jobs + jobs) (omega arith) (omega arith))
      ∙ drop-take (k * jobs) jobs rows
