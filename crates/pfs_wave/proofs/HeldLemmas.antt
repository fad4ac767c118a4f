-- Skewed times that are kept from one sequence to the next.
use Rattle.std.proofs.Common.{inl, inr, max, ◌≡◌, ℕ, ◌+◌, ◌-◌, ◌*◌, ◌<◌, ◌≤◌, List, [], length, take, drop}
use Rattle.std.proofs.Common.{get_or, replicate, map, ap, ◌∙◌, sym, refl, arith}
use Rattle.std.proofs.lemmas.Bool.{cases_lt, lt-ltb, le-ltb}
use Rattle.std.proofs.lemmas.List.{drop-map, get_or-drop, get_or-take, get_or-replicate, get_or_default, get_or_past}
use Rattle.std.proofs.lemmas.List.{length-take-le}
use Rattle.std.proofs.lemmas.List.{length-replicate, same_lists, take-map}
use Rattle.std.specs.List.{All}
use Rattle.pfs_base.specs.FlowShop.{FlowShop}
use Rattle.pfs_wave.specs.Private.Lanes.{Holding, Rows, zeros}
use Rattle.pfs_wave.specs.Private.Blocks.{AreTimes, Cells, HasRows, step_of}
use Rattle.pfs_wave.specs.Private.HeldRows.{HoldLanes, HoldOutside, IsHolding, IsKept, IsPadded, column}
use Rattle.pfs_wave.specs.Private.HeldRows.{part_from, rows_at}
use Rattle.pfs_wave.specs.Private.Padded.{padded_time}
use Rattle.pfs_wave.proofs.SkewedTimes.{vector_inside}
use Rattle.pfs_wave.proofs.TailCells.{changed}

module _ {count jobs : ℕ} {rows : List (List ℕ)} {len : ℕ} {order : List ℕ} {times : List (List ℕ)}
    (holding : IsHolding count jobs rows len order times) where
  -- the sequence has `len` jobs
  pub held_len : length (take len order) ≡ len
  held_len = length-take-le len order (omega (arith, holding.some, holding.steps))

  pub padded_take : IsPadded order (take len order) jobs
  padded_take row inside =
      elim (cases_lt row len) [
        | inl before ↦ get_or_default order row 0 jobs inside ∙ sym (get_or-take len order row jobs before)
        | inr after ↦
            let long = held_len in
            holding.rest row after inside ∙ sym (get_or_past (take len order) row jobs (omega (arith, long)))
      ]

  -- its times are those of the shop
  pub holding_times : (Holds : Holding) → ((n : ℕ) → Holds n n) → (shop : FlowShop) (steps : ℕ) → jobs ≡ shop.jobs
      → HasRows shop count rows → steps ≤ length order
      → AreTimes Holds count steps (padded_time shop (take len order)) times
  holding_times Holds itself shop steps jobs_is has few =
      let long = held_len in
      let some = holding.some in
      let all = holding.steps in
      record {
        cells_are = λ step lt k k_lt row lane lane_lt here.
            changed Holds (ap (λ s. get_or (step_of count times s k) lane 0) (sym here)
            ∙ (holding.lanes k k_lt).times_are row lane lane_lt (omega arith)
            ∙ elim (cases_lt row len) [
              | inl some_job ↦
                  let job = get_or order row 0 in
                  let job_lt = holding.jobs_in row some_job in
                  let taken : get_or (take len order) row 0 ≡ job = get_or-take len order row 0 some_job in
                  has.jobs_are job (omega arith) lane k lane_lt k_lt
                  ∙ rw (lt-ltb row (length (take len order)) (omega arith), taken) refl
              | inr none ↦
                  ap (λ j. get_or (step_of count rows j k) lane 0) (holding.rest row none (omega arith) ∙ jobs_is)
                  ∙ has.none lane k lane_lt k_lt ∙ rw (le-ltb row (length (take len order)) (omega arith)) refl
            ]) refl (itself _);
        none_before = λ step lt lane k lane_lt k_lt early.
            (holding.lanes k k_lt).none_before step lane early lane_lt (omega arith);
      }

-- the front of the written rows is the sequence
pub taken_is : (order seq : List ℕ) (none : ℕ) → IsPadded order seq none → length seq ≤ length order
    → take (length seq) order ≡ seq
taken_is order seq none padded enough =
    let long = length-take-le (length seq) order enough in
    same_lists (take (length seq) order) seq long
    (λ row d lt.
    let inside : row < length seq = omega (arith, long) in
    get_or-take (length seq) order row d inside ∙ get_or_default order row d 0 (omega arith)
    ∙ padded row (omega arith) ∙ get_or_default seq row none d inside)

-- all jobs and the padding are numbers of rows
pub padded_in : (seq others : List ℕ) (jobs : ℕ) → All (λ job. job < jobs) seq → IsPadded others seq jobs
    → All (λ row. row ≤ jobs) others
padded_in seq others jobs below padded row d lt =
    let here = get_or_default others row d 0 lt in
    elim (cases_lt row (length seq)) [
      | inl inside ↦
          let job = below row jobs inside in
          omega (arith, here, padded row lt, job)
      | inr after ↦
          let rest = get_or_past seq row jobs after in
          omega (arith, here, padded row lt, rest)
    ]

-- another sequence is written, and its times are skewed
pub holding_more : {count jobs : ℕ} {rows : List (List ℕ)} {len : ℕ} {order : List ℕ} {times : List (List ℕ)}
    (seq others : List ℕ) (new : List (List ℕ)) → IsHolding count jobs rows len order times
    → All (λ job. job < jobs) seq → length seq ≤ jobs → length others ≡ length order → IsPadded others seq jobs
    → length new ≡ length times
    → ((k : ℕ) → k < count → HoldLanes (rows_at count rows others k) (length others) (column count new k))
    → IsHolding count jobs rows (length seq) others new
holding_more {count} {jobs} {rows} {len} {order} {times} seq others new old below few steps padded all lanes = record {
  some = few;
  steps = omega (arith, old.steps, steps);
  jobs_in = λ row lt.
      let inside : row < length others = omega (arith, few, old.steps, steps) in
      let here = get_or_default seq row jobs 0 lt in
      omega (arith, padded row inside, here, below row 0 lt);
  rest = λ row after inside. padded row inside ∙ get_or_past seq row jobs after;
  all_times = all ∙ old.all_times ∙ ap (λ n. n * count) (sym steps);
  lanes = lanes;
}

-- the skewed times that are right for the new sequence already
module _ {count jobs len size front back steps k : ℕ} {rows table : List (List ℕ)} {order : List ℕ}
    (others seq : List ℕ) (holding : IsHolding count jobs rows len order table)
    (kept : IsKept (take len order) seq front back) (is : IsPadded others seq jobs) (long : length (take len order) ≡ len)
    (size_is : length seq ≡ size) (all : length others ≡ steps) (all_old : length order ≡ steps) (k_lt : k < count) where
  abbrev held : List ℕ
  held = take len order

  abbrev times : Rows
  times = column count table k

  abbrev to_skew : Rows
  to_skew = rows_at count rows others k

  -- a row of the new order has the times of a row of the order before, where both have the same job
  same_row : (row other lane : ℕ) → lane < 8 → other + lane < steps → get_or order other 0 ≡ get_or others row 0
      → get_or (times (other + lane)) lane 0 ≡ get_or (to_skew row) lane 0
  same_row row other lane lt inside same =
      (holding.lanes k k_lt).times_are other lane lt (omega arith)
      ∙ ap (λ job. get_or (step_of count rows job k) lane 0) same

  none_before : (step lane : ℕ) → step < lane → lane < 8 → step < steps → get_or (times step) lane 0 ≡ 0
  none_before step lane early lt inside = (holding.lanes k k_lt).none_before step lane early lt (omega arith)

  -- rows with the same job
  same_job : (row other : ℕ) → row < steps → other < steps → get_or held other jobs ≡ get_or seq row jobs
      → get_or order other 0 ≡ get_or others row 0
  same_job row other inside before same =
      padded_take holding other (omega arith) ∙ same ∙ sym (is row (omega arith))

  front_job : (row : ℕ) → row < front → row < steps → get_or order row 0 ≡ get_or others row 0
  front_job row lt inside =
      let in_held = kept.in_held in
      let in_seq = kept.in_seq in
      let some : row < length held = omega arith in
      let some_more : row < length seq = omega arith in
      same_job row row inside inside
      (get_or_default held row jobs 0 some ∙ kept.same_front row lt ∙ get_or_default seq row 0 jobs some_more)

  back_job : (row : ℕ) → len ≤ size → size ≤ row + back → size - len ≤ row → row < steps
      → get_or order (row - (size - len)) 0 ≡ get_or others row 0
  back_job row longer le enough inside =
      let by = length seq - length held in
      let by_is : size - len ≡ by = omega arith in
      ap (λ n. get_or order (row - n) 0) by_is ∙ same_job row (row - by) inside (omega arith)
      (elim (cases_lt row (length seq)) [
        | inl some ↦
            let some_held : row - by < length held = omega arith in
            get_or_default held (row - by) jobs 0 some_held ∙ kept.same_back row some (omega arith)
            ∙ get_or_default seq row 0 jobs some
        | inr after ↦
            let none_held : length held ≤ row - by = omega arith in
            get_or_past held (row - by) jobs none_held ∙ sym (get_or_past seq row jobs after)
      ])

  none_job : (row : ℕ) → len ≤ row → size ≤ row → row < steps → get_or order row 0 ≡ get_or others row 0
  none_job row past_held past_seq inside =
      same_job row row inside inside (get_or_past held row jobs (omega arith)
      ∙ sym (get_or_past seq row jobs (omega arith)))

  -- a sequence that keeps no row at its end
  pub outside_none : HoldOutside to_skew front (max len size) steps steps times
  outside_none =
      let in_held = kept.in_held in
      record {
        front = λ row lane before lt inside. same_row row row lane lt inside (front_job row before (omega arith));
        back = λ row lane after lt inside.
            same_row row row lane lt inside (none_job row (omega arith) (omega arith) (omega arith));
        later = λ row lane after lt inside. absurd (omega arith);
        none_before = none_before;
      }

  -- a sequence that is at most as long as the one before
  pub outside_kept : size ≤ len → HoldOutside to_skew front (len - back) steps steps times
  outside_kept no_more =
      let in_held = kept.in_held in
      record {
        front = λ row lane before lt inside. same_row row row lane lt inside (front_job row before (omega arith));
        back = λ row lane after lt inside.
            same_row row row lane lt inside
            (elim (cases_lt size len) [
              | inl shorter ↦
                  let no_back = kept.no_longer (omega arith) in
                  none_job row (omega arith) (omega arith) (omega arith)
              | inr equal ↦
                  let zero_by : row - (size - len) ≡ row = omega arith in
                  ap (λ n. get_or order n 0) (sym zero_by)
                  ∙ back_job row (omega arith) (omega arith) (omega arith) (omega arith)
            ]);
        later = λ row lane after lt inside. absurd (omega arith);
        none_before = none_before;
      }

  -- a sequence that grew
  module _ (to : ℕ) (new : Rows) (longer : len < size) (room : size + 8 ≤ to)
      (before : (step : ℕ) → step < front + 8 → new step ≡ times step)
      (moved : (step : ℕ) → size - back + 8 ≤ step → step < to → new step ≡ times (step - (size - len)))
      (after : (step : ℕ) → to ≤ step → step < steps → new step ≡ times step) where
    at_later_steps : (row lane : ℕ) → size - back + 8 ≤ row + lane → lane < 8 → row + lane < steps
        → get_or (new (row + lane)) lane 0 ≡ get_or (to_skew row) lane 0
    at_later_steps row lane late lt inside =
        let in_held = kept.in_held in
        let in_seq = kept.in_seq in
        let by = size - len in
        elim (cases_lt (row + lane) to) [
          | inl within ↦
              let at : row + lane - by ≡ (row - by) + lane = omega arith in
              ap (λ l. get_or l lane 0) (moved (row + lane) (omega arith) within)
              ∙ ap (λ n. get_or (times n) lane 0) at
              ∙ same_row row (row - by) lane lt (omega arith)
              (back_job row (omega arith) (omega arith) (omega arith) (omega arith))
          | inr beyond ↦
              ap (λ l. get_or l lane 0) (after (row + lane) beyond inside)
              ∙ same_row row row lane lt inside (none_job row (omega arith) (omega arith) (omega arith))
        ]

    pub outside_moved : HoldOutside to_skew front (size - back + 8) (size - back + 8) steps new
    outside_moved =
        let in_held = kept.in_held in
        let in_seq = kept.in_seq in
        record {
          front = λ row lane early lt inside.
              ap (λ l. get_or l lane 0) (before (row + lane) (omega arith))
              ∙ same_row row row lane lt inside (front_job row early (omega arith));
          back = λ row lane late lt inside. at_later_steps row lane (omega arith) lt inside;
          later = λ row lane late lt inside. at_later_steps row lane late lt inside;
          none_before = λ step lane early lt inside.
              ap (λ l. get_or l lane 0) (before step (omega arith)) ∙ none_before step lane early lt inside;
        }

  -- only the steps of the rows at the front are moved
  pub outside_front : (new : Rows) → ((step : ℕ) → step < front + 8 → new step ≡ times step)
      → HoldOutside to_skew front steps steps steps new
  outside_front new moved = record {
    front = λ row lane before lt inside.
        ap (λ l. get_or l lane 0) (moved (row + lane) (omega arith))
        ∙ same_row row row lane lt inside (front_job row before (omega arith));
    back = λ row lane after lt inside. absurd (omega arith);
    later = λ row lane after lt inside. absurd (omega arith);
    none_before = λ step lane early lt inside.
        ap (λ l. get_or l lane 0) (moved step (omega arith)) ∙ none_before step lane early lt inside;
  }

-- a step of a part of a table
pub part_step : {X : Type 0} (lanes : X → List ℕ) (count start steps : ℕ) (table : List X) (k step : ℕ) → k < count
    → step < steps → column count (map lanes (part_from start steps count table)) k step
    ≡ column count (map lanes table) k (start + step)
part_step lanes count start steps table k step k_lt lt =
    let n = (start + steps) * count - start * count in
    let inside : step * count + k < n = omega (arith, vector_inside count steps step k (steps * count) lt k_lt refl) in
    let here : start * count + (step * count + k) ≡ (start + step) * count + k = omega arith in
    ap (λ l. get_or l (step * count + k) []) (sym (take-map lanes n (drop (start * count) table))
    ∙ ap (take n) (sym (drop-map lanes (start * count) table)))
    ∙ get_or-take n (drop (start * count) (map lanes table)) (step * count + k) [] inside
    ∙ get_or-drop (start * count) (map lanes table) (step * count + k) []
    ∙ ap (λ i. get_or (map lanes table) i []) here

-- a sequence of no jobs
pub holding_none : (count jobs : ℕ) (shop : FlowShop) (rows : List (List ℕ)) (order : List ℕ) (times : List (List ℕ))
    → HasRows shop count rows → jobs ≡ shop.jobs → order ≡ replicate (jobs + 8) jobs
    → times ≡ replicate ((jobs + 8) * count) (zeros 8) → IsHolding count jobs rows 0 order times
holding_none count jobs shop rows order times has jobs_is order_is times_are =
    let order_long : length order ≡ jobs + 8 = ap length order_is ∙ length-replicate (jobs + 8) jobs in
    let job_is : (row d : ℕ) → row < jobs + 8 → get_or order row d ≡ jobs =
    λ row d lt. ap (λ l. get_or l row d) order_is ∙ get_or-replicate (jobs + 8) row jobs d lt in
    let zero : (step lane k : ℕ) → step < jobs + 8 → lane < 8 → k < count
    → get_or (step_of count times step k) lane 0 ≡ 0 =
    λ step lane k lt lane_lt k_lt.
    ap (λ t. get_or (get_or t (step * count + k) []) lane 0) times_are
    ∙ ap (λ l. get_or l lane 0) (get_or-replicate ((jobs + 8) * count) (step * count + k) (zeros 8) []
    (vector_inside count (jobs + 8) step k ((jobs + 8) * count) lt k_lt refl))
    ∙ get_or-replicate 8 lane 0 0 lane_lt in
    record {
      some = omega arith;
      steps = order_long;
      jobs_in = λ row none_before. absurd (omega arith);
      rest = λ row after inside. job_is row 0 (omega arith);
      all_times = ap length times_are ∙ length-replicate ((jobs + 8) * count) (zeros 8)
          ∙ ap (λ n. n * count) (sym order_long);
      lanes = λ k k_lt. record {
        times_are = λ row lane lt inside.
            zero (row + lane) lane k (omega arith) lt k_lt ∙ sym (has.none lane k lt k_lt)
            ∙ ap (λ j. get_or (step_of count rows j k) lane 0) (sym (job_is row 0 (omega arith) ∙ jobs_is));
        none_before = λ step lane early lt inside. zero step lane k (omega arith) lt k_lt;
      };
    }

-- the first steps of a part of a table of times
pub times_first : {X : Type 0} (Holds : Holding) (lanes : X → List ℕ) (count start steps all : ℕ) (time : Cells)
    (table : List X) → steps ≤ all → AreTimes Holds count steps time (map lanes (part_from start all count table))
    → AreTimes Holds count steps time (map lanes (part_from start steps count table))
times_first Holds lanes count start steps all time table enough are =
    let same : (step k : ℕ) → step < steps → k < count
    → step_of count (map lanes (part_from start steps count table)) step k
    ≡ step_of count (map lanes (part_from start all count table)) step k =
    λ step k lt k_lt.
    part_step lanes count start steps table k step k_lt lt
    ∙ sym (part_step lanes count start all table k step k_lt (omega arith)) in
    record {
      cells_are = λ step lt k k_lt row lane lane_lt here.
          changed Holds (ap (λ l. get_or l lane 0) (same step k lt k_lt)) refl
          (are.cells_are step lt k k_lt row lane lane_lt here);
      none_before = λ step lt lane k lane_lt k_lt early.
          ap (λ l. get_or l lane 0) (same step k lt k_lt) ∙ are.none_before step lt lane k lane_lt k_lt early;
    }
