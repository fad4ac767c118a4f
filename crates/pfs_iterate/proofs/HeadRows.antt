-- Rows of heads, with one more row or with fewer.
use Rattle.std.proofs.Common.{◌≡◌, ℕ, suc, ◌+◌, ◌*◌, ◌<◌, ◌≤◌, max, List, [], ◌∷◌, ◌++◌, length, get_or, insert, take}
use Rattle.std.proofs.Common.{sym, ap, ◌∙◌, inl, inr, add-one, suc-mul, mul-le-mul_right, arith}
use Rattle.std.proofs.lemmas.Bool.{cases_lt}
use Rattle.std.proofs.lemmas.List.{length-append, length-take-le}
use Rattle.std.proofs.lemmas.List.Elements.{All-push, All-take}
use Rattle.pfs_base.specs.declared.bench.TheConstants.{SPAN_MAX}
use Rattle.pfs_base.specs.FlowShop.{FlowShop, IsWithin, time_of}
use Rattle.pfs_base.specs.Heads.{head_of}
use Rattle.pfs_base.specs.Limits.{limits}
use Rattle.pfs_base.proofs.Published.HeadRows.{head_of-append, head_of-take, head_of_before, heads_fit, next_head}
use Rattle.pfs_iterate.specs.Private.Memory.{AreRows}
use Rattle.pfs_iterate.proofs.Delays.{above, job_at}

-- an entry of a row is before those of the next row
pub row_index : (row last machine machines : ℕ) → row ≤ last → machine < machines
    → row * machines + machine < last * machines + machines
row_index row last machine machines le lt = let rows = mul-le-mul_right machines le in omega arith

module _ (shop : FlowShop) (jobs rows : List ℕ) (are : AreRows shop jobs rows) where
  pub rows_fewer : (count : ℕ) → count ≤ length jobs → AreRows shop (take count jobs) rows
  rows_fewer count le =
      let long = length-take-le count jobs le in
      record {
        few = omega (arith, are.few);
        small = All-take (λ job. job < shop.jobs) count jobs are.small;
        long = are.long;
        each = λ row machine within lt. are.each row machine (omega arith) lt
            ∙ sym (head_of-take shop jobs row machine count (omega arith));
      }

  pub rows_more : (new : List ℕ) (job : ℕ) → job < shop.jobs → length jobs < shop.jobs → length new ≡ length rows
      → ((index : ℕ) → index < length jobs * shop.machines + shop.machines → get_or new index 0 ≡ get_or rows index 0)
      → ((k : ℕ) → k < shop.machines → get_or new (length jobs * shop.machines + shop.machines + k) 0
      ≡ head_of shop (jobs ++ job ∷ []) (length jobs + 1) k)
      → AreRows shop (jobs ++ job ∷ []) new
  rows_more new job small few long kept done =
      let more = length-append jobs (job ∷ []) in
      record {
        few = omega arith;
        small = All-push (λ j. j < shop.jobs) jobs job are.small small;
        long = long ∙ are.long;
        each = λ row machine within lt. elim (cases_lt row (length jobs + 1)) [
          | inl before ↦
              kept (row * shop.machines + machine) (row_index row (length jobs) machine shop.machines (omega arith) lt)
              ∙ are.each row machine (omega arith) lt
              ∙ sym (head_of-append shop jobs row machine (job ∷ []) (omega arith))
          | inr last ↦
              let at : row ≡ suc (length jobs) = omega (arith, more, within) in
              rw (at, suc-mul (length jobs) shop.machines) (rw add-one at (done machine lt))
        ];
      }

  -- the entries of a row
  pub head_at : (place machine machines : ℕ) → machines ≡ shop.machines → place ≤ length jobs → machine < shop.machines
      → get_or rows (place * machines + machine) 0 ≡ head_of shop jobs place machine
  head_at place machine machines all within lt =
      ap (λ m. get_or rows (place * m + machine) 0) all ∙ are.each place machine within lt

-- a job at a place before which the rows have the heads
module _ (shop : FlowShop) (jobs rows : List ℕ) (are : AreRows shop jobs rows) (job place : ℕ) (within : place ≤ length jobs)
    (machine machines : ℕ) (all : machines ≡ shop.machines) (lt : machine < shop.machines) where
  abbrev with_job : List ℕ
  with_job = insert jobs place job

  abbrev entry : ℕ
  entry = get_or rows (place * machines + machine) 0

  entry_is : entry ≡ head_of shop with_job place machine
  entry_is = head_at shop jobs rows are place machine machines all within lt ∙ sym (above shop jobs job place within machine)

  pub job_head : (before time : ℕ) → before ≡ head_of_before shop with_job (place + 1) machine
      → time ≡ time_of shop job machine → max entry before + time ≡ head_of shop with_job (place + 1) machine
  job_head before time before_is time_is =
      next_head shop with_job place (place + 1) machine entry before time (omega arith) entry_is before_is
      (time_is ∙ sym (job_at shop jobs job place within machine))

  pub job_fits : IsWithin limits shop → (before : ℕ) → before ≡ head_of_before shop with_job (place + 1) machine
      → (entry ≤ SPAN_MAX) × (before ≤ SPAN_MAX)
  job_fits limited before before_is =
      heads_fit shop limited with_job place (place + 1) machine entry before (omega (arith, are.few)) (omega arith) lt
      entry_is before_is
