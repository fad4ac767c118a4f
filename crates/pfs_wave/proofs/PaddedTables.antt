-- The recurrences of the tables, with machines of time 0 after the last machine.
use Rattle.std.proofs.Common.{ℕ, zero, suc, ◌≡◌, ◌+◌, ◌-◌, ◌<◌, ◌≤◌, List, max, length, insert, refl, ap, ◌∙◌, sym}
use Rattle.std.proofs.Common.{arith, inl, inr, map}
use Rattle.std.specs.List.{range_with_len}
use Rattle.std.proofs.Math.Nat.{zero-add}
use Rattle.std.proofs.lemmas.Bool.{cases_lt, lt-ltb, le-ltb}
use Rattle.pfs_base.specs.FlowShop.{FlowShop, time_of}
use Rattle.pfs_base.specs.Paths.{operation, greatest}
use Rattle.pfs_base.proofs.Published.Heaviest.{greatest_to, greatest_to_same}
use Rattle.pfs_base.proofs.Published.Heaviest.{greatest-map-range_with_len}
use Rattle.pfs_base.proofs.Published.Heads.{head, head_step, heaviest_is}
use Rattle.pfs_insert.specs.Exchange.{heaviest_front, heaviest_back}
use Rattle.pfs_insert.specs.Insertion.{makespan_with}
use Rattle.pfs_insert.proofs.Published.TableRows.{back_none, back_last, back_more, operation_at, exchange_law}
use Rattle.pfs_insert.proofs.Published.TableRows.{same_heads}
use Rattle.pfs_wave.specs.Private.Padded.{on_machine, padded_time, machine_at}

-- ---- the greatest of some values, from the last of them

pub greatest_to_more : (f : ℕ → ℕ) (n : ℕ) → greatest_to f (suc n) ≡ max (greatest_to f n) (f (suc n))
greatest_to_more f zero = refl
greatest_to_more f (suc n) = omega (arith, greatest_to_more (λ x. f (suc x)) n)

pub greatest_to_le : (f : ℕ → ℕ) (n : ℕ) → f n ≤ greatest_to f n
greatest_to_le f zero = omega arith
greatest_to_le f (suc n) = omega (arith, greatest_to_le (λ x. f (suc x)) n)

-- ---- times and values after the last machine

module _ (shop : FlowShop) (values : ℕ → ℕ) (lane : ℕ) where
  pub on_inside : lane < shop.machines → on_machine shop values lane ≡ values lane
  on_inside lt = rw (lt-ltb lane shop.machines lt) refl

  pub on_padding : shop.machines ≤ lane → on_machine shop values lane ≡ 0
  on_padding le = rw (le-ltb lane shop.machines le) refl

module _ (shop : FlowShop) (jobs : List ℕ) (row lane : ℕ) where
  pub time_inside : row < length jobs → lane < shop.machines → padded_time shop jobs row lane
      ≡ operation shop jobs row lane
  time_inside lt inside = rw (lt-ltb row (length jobs) lt) (on_inside shop (operation shop jobs row) lane inside)

  pub time_none : length jobs ≤ row → padded_time shop jobs row lane ≡ 0
  time_none le = rw (le-ltb row (length jobs) le) refl

  pub time_on_padding : shop.machines ≤ lane → padded_time shop jobs row lane ≡ 0
  time_on_padding le =
      elim (cases_lt row (length jobs)) [
        | inl lt ↦ rw (lt-ltb row (length jobs) lt) (on_padding shop (operation shop jobs row) lane le)
        | inr none ↦ time_none none
      ]

-- ---- tails

module _ (shop : FlowShop) (jobs : List ℕ) where
  abbrev pub padded_back : ℕ → ℕ → ℕ
  padded_back row lane = on_machine shop (heaviest_back shop jobs row) lane

  -- after the last row the tails are 0
  pub padded_none : (row lane : ℕ) → length jobs ≤ row → padded_back row lane ≡ 0
  padded_none row lane none =
      elim (cases_lt lane shop.machines) [
        | inl inside ↦ on_inside shop (heaviest_back shop jobs row) lane inside ∙ back_none shop jobs row lane none
        | inr padding ↦ on_padding shop (heaviest_back shop jobs row) lane padding
      ]

  -- each tail, from the tail of the next machine and the tail of the next row
  pub padded_back_step : (row lane : ℕ) →
      padded_back row lane ≡ max (padded_back row (suc lane)) (padded_back (suc row) lane) + padded_time shop jobs
      row lane
  padded_back_step row lane =
      let here = heaviest_back shop jobs row in
      let under = heaviest_back shop jobs (suc row) in
      elim (cases_lt lane shop.machines) [
        | inl inside ↦ elim (cases_lt row (length jobs)) [
          | inl some ↦ elim (cases_lt (suc lane) shop.machines) [
            | inl more ↦
                omega (
                  arith,
                  on_inside shop here lane inside,
                  on_inside shop here (suc lane) more,
                  on_inside shop under lane inside,
                  time_inside shop jobs row lane some inside,
                  back_more shop jobs row lane some (omega arith),
                )
            | inr at_end ↦
                omega (
                  arith,
                  on_inside shop here lane inside,
                  on_padding shop here (suc lane) at_end,
                  on_inside shop under lane inside,
                  time_inside shop jobs row lane some inside,
                  back_last shop jobs row lane some (omega arith),
                )
          ]
          | inr none ↦
              omega (
                arith,
                padded_none row lane none,
                padded_none row (suc lane) none,
                padded_none (suc row) lane (omega arith),
                time_none shop jobs row lane none,
              )
        ]
        | inr padding ↦
            omega (
              arith,
              on_padding shop here lane padding,
              on_padding shop here (suc lane) (omega arith),
              on_padding shop under lane padding,
              time_on_padding shop jobs row lane padding,
            )
      ]

-- ---- heads: the lanes after the last machine repeat its heads

module _ (shop : FlowShop) (some : 1 ≤ shop.machines) where
  pub machine_inside : (lane : ℕ) → lane < shop.machines → machine_at shop lane ≡ lane
  machine_inside lane lt = omega arith

  pub machine_on_padding : (lane : ℕ) → shop.machines ≤ suc lane → machine_at shop (suc lane) ≡ machine_at shop lane
  machine_on_padding lane le = omega arith

  module _ (jobs : List ℕ) where
    abbrev pub padded_head : ℕ → ℕ → ℕ
    padded_head place lane = head (operation shop jobs) place (machine_at shop lane)

    pub padded_head_first : (place : ℕ) → place < length jobs →
        padded_head (suc place) 0 ≡ padded_head place 0 + padded_time shop jobs place 0
    padded_head_first place lt =
        rw (machine_inside 0 (omega arith)) (omega (
          arith,
          head_step (operation shop jobs) place 0,
          time_inside shop jobs place 0 lt (omega arith),
        ))

    pub padded_head_step : (place lane : ℕ) → place < length jobs → padded_head (suc place) (suc lane)
        ≡ max (padded_head (suc place) lane) (padded_head place (suc lane)) + padded_time shop jobs place (suc lane)
    padded_head_step place lane lt =
        elim (cases_lt (suc lane) shop.machines) [
          | inl inside ↦
              rw (machine_inside (suc lane) inside, machine_inside lane (omega arith)) (omega (
                arith,
                head_step (operation shop jobs) place (suc lane),
                time_inside shop jobs place (suc lane) lt inside,
              ))
          | inr padding ↦
              rw (machine_on_padding lane padding) (omega (
                arith,
                head_step (operation shop jobs) place (machine_at shop lane),
                time_on_padding shop jobs place (suc lane) padding,
              ))
        ]

-- ---- the row of an inserted job, and its sums with the tails

module _ (shop : FlowShop) (some : 1 ≤ shop.machines) (jobs : List ℕ) (job place : ℕ)
    (within : place ≤ length jobs) where
  abbrev weigh_with : ℕ → ℕ → ℕ
  weigh_with = operation shop (insert jobs place job)

  abbrev pub padded_inserted : ℕ → ℕ
  padded_inserted lane = head weigh_with (suc place) (machine_at shop lane)

  abbrev pub padded_job : ℕ → ℕ
  padded_job lane = on_machine shop (time_of shop job) lane

  job_inside : (lane : ℕ) → lane < shop.machines → padded_job lane ≡ weigh_with place lane
  job_inside lane lt = on_inside shop (time_of shop job) lane lt ∙ sym (operation_at shop jobs job place within lane)

  pub padded_inserted_first : padded_inserted 0 ≡ padded_head shop some jobs place 0 + padded_job 0
  padded_inserted_first =
      rw (machine_inside shop some 0 (omega arith)) (omega (
        arith,
        head_step weigh_with place 0,
        same_heads shop jobs job place within place 0 (omega arith),
        job_inside 0 (omega arith),
      ))

  pub padded_inserted_step : (lane : ℕ) →
      padded_inserted (suc lane)
      ≡ max (padded_inserted lane) (padded_head shop some jobs place (suc lane)) + padded_job (suc lane)
  padded_inserted_step lane =
      elim (cases_lt (suc lane) shop.machines) [
        | inl inside ↦
            rw (machine_inside shop some (suc lane) inside, machine_inside shop some lane (omega arith)) (omega (
              arith,
              head_step weigh_with place (suc lane),
              same_heads shop jobs job place within place (suc lane) (omega arith),
              job_inside (suc lane) inside,
            ))
        | inr padding ↦
            rw (machine_on_padding shop some lane padding) (omega (
              arith,
              head_step weigh_with place (machine_at shop lane),
              same_heads shop jobs job place within place (machine_at shop lane) (omega arith),
              on_padding shop (time_of shop job) (suc lane) padding,
            ))
      ]

  -- the weight of the heaviest path that leaves the inserted row at a machine
  abbrev through : ℕ → ℕ
  through machine = head weigh_with (suc place) machine + heaviest_back shop jobs place machine

  abbrev pub padded_sum : ℕ → ℕ
  padded_sum lane = greatest_to through (machine_at shop lane)

  pub padded_sum_first : padded_sum 0 ≡ padded_inserted 0 + padded_back shop jobs place 0
  padded_sum_first =
      rw (machine_inside shop some 0 (omega arith)) (omega (
        arith,
        on_inside shop (heaviest_back shop jobs place) 0 (omega arith),
      ))

  pub padded_sum_step : (lane : ℕ) → padded_sum (suc lane)
      ≡ max (padded_sum lane) (padded_inserted (suc lane) + padded_back shop jobs place (suc lane))
  padded_sum_step lane =
      elim (cases_lt (suc lane) shop.machines) [
        | inl inside ↦
            rw (machine_inside shop some (suc lane) inside, machine_inside shop some lane (omega arith)) (omega (
              arith,
              greatest_to_more through lane,
              on_inside shop (heaviest_back shop jobs place) (suc lane) inside,
            ))
        | inr padding ↦
            rw (machine_on_padding shop some lane padding) (omega (
              arith,
              greatest_to_le through (machine_at shop lane),
              on_padding shop (heaviest_back shop jobs place) (suc lane) padding,
            ))
      ]

  pub padded_sum_last : (lane : ℕ) → shop.machines ≤ suc lane → padded_sum lane ≡ makespan_with shop jobs job place
  padded_sum_last lane all =
      let sum = λ (machine : ℕ). heaviest_front shop (insert jobs place job) place machine
      + heaviest_back shop jobs place machine in
      let end : machine_at shop lane ≡ shop.machines - 1 = omega arith in
      let machines : suc (shop.machines - 1) ≡ shop.machines = omega arith in
      ap (greatest_to through) end
      ∙ greatest_to_same through (λ x. sum (0 + x)) (shop.machines - 1)
      (λ x le. rw zero-add (ap (λ h. h + heaviest_back shop jobs place x) (sym (heaviest_is weigh_with place x))))
      ∙ sym (greatest-map-range_with_len sum 0 (shop.machines - 1))
      ∙ ap (λ n. greatest (map sum (range_with_len 0 n))) machines
      ∙ sym (exchange_law shop jobs job place some within)
