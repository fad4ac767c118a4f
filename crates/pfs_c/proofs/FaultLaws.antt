-- Arguments have no fault exactly if they are right.
use Rattle.std.proofs.Common.{◌≡◌, ◌↔◌, ℕ, ◌*◌, ◌≤◌, ◌&&◌, Bool, true, false, List, [], ◌∷◌, length, All, refl, None}
use Rattle.std.proofs.Common.{nat_le, arith}
use Rattle.std.specs.List.{list_all}
use Rattle.std.proofs.lemmas.Bool.{leb-true, le-leb, eqb-true, eq-eqb}
use Rattle.std.proofs.lemmas.Bool.Decides.{Decides-by_and, nat_tests}
use Rattle.pfs_base.specs.FlowShop.{AreSizes}
use Rattle.pfs_base.specs.Limits.{limits}
use Rattle.pfs_base.specs.declared.limits.TheConstants.{MOST_JOBS, MOST_MACHINES, LONGEST_TIME}
use Rattle.pfs_c.specs.Faults.{ShopLaw, InsertionLaw}
use Rattle.pfs_c.specs.Validation.{unless, length_fault, times_fault}
use Rattle.pfs_c.specs.declared.numbers.CallFault.{CallFault}
use Rattle.pfs_c.specs.declared.numbers.CallFault.TheVariants.{Size, Length, Time}
use Rattle.pfs_c.proofs.Jobs.{first_none, insertion_right}

unless_none : (test : Bool) (why : CallFault) → unless test why ≡ None → test ≡ true
unless_none true why h = refl
unless_none false why h = absurd (cc)

sizes_right : (jobs machines : ℕ) → ((nat_le 1 jobs && nat_le jobs MOST_JOBS)
    && (nat_le 1 machines && nat_le machines MOST_MACHINES)) ≡ true → AreSizes limits jobs machines
sizes_right jobs machines h = record {
  some_job = grind (arith, nat_tests);
  few_jobs = grind (arith, nat_tests);
  some_machine = grind (arith, nat_tests);
  few_machines = grind (arith, nat_tests);
}

right_sizes : (jobs machines : ℕ) → AreSizes limits jobs machines → ((nat_le 1 jobs && nat_le jobs MOST_JOBS)
    && (nat_le 1 machines && nat_le machines MOST_MACHINES)) ≡ true
right_sizes jobs machines h = grind (arith, nat_tests, h.some_job, h.few_jobs, h.some_machine, h.few_machines)

short : (times : List ℕ)
    → (list_all (λ time. nat_le time LONGEST_TIME) times ≡ true) ↔ All (λ time. time ≤ LONGEST_TIME) times
short = Decides-by_and (λ time. nat_le time LONGEST_TIME) (λ time. time ≤ LONGEST_TIME)
    (list_all (λ time. nat_le time LONGEST_TIME)) (λ time. (leb-true time LONGEST_TIME, le-leb time LONGEST_TIME))
    refl (λ _ _. refl)

pub shop_law : ShopLaw
shop_law times jobs machines = (
  λ none.
      let one = first_none _ (length_fault (length times) (jobs * machines) ∷ times_fault times ∷ []) none in
      let two = first_none _ (times_fault times ∷ []) one.1 in
      record {
        sizes = sizes_right jobs machines (unless_none _ Size one.0);
        every_time = eqb-true (length times) (jobs * machines) (unless_none _ Length two.0);
        short_times = (short times).0 (unless_none _ Time (first_none _ [] two.1).0);
      },
  λ within.
      rw (
        right_sizes jobs machines within.sizes,
        eq-eqb (length times) (jobs * machines) within.every_time,
        (short times).1 within.short_times,
      ) refl,
)

pub insertion_law : InsertionLaw
insertion_law shop sequence job = insertion_right shop.jobs job sequence
