-- Seeds of the generator, and times that are set one by one.
use Rattle.pfs_layout.proofs.Words.{◌≡◌, ◌≢◌, ℕ, zero, suc, ◌+◌, ◌*◌, ◌%◌, ◌<◌, ◌≤◌, length, add-one, arith, rows}
use Rattle.pfs_layout.proofs.Words.{length-set, same_from_place, FlowShop, time_of, with_time, Problem, LONGEST_TIME}
use Rattle.pfs_layout.proofs.Words.{seed_after, generated}
use Rattle.std.proofs.lemmas.List.{get_or-set_same, get_or-set_other}
use Rattle.pfs_base.specs.declared.notes.Notes.{Notes}
use Rattle.pfs_layout.specs.Generator.{prime, drawn_time}
use Rattle.pfs_layout.specs.Laws.{SeedsStay, GeneratedWithin}
use Rattle.pfs_layout.proofs.Tables.{length-table, same_table, all_table}

-- `draws` draws, and then `more` draws
pub seed_after-add : (more draws seed : ℕ) → seed_after (more + draws) seed ≡ seed_after more (seed_after draws seed)
unfolding seed_after
seed_after-add zero draws seed = grind arith
seed_after-add (suc more) draws seed =
    let next : suc more + draws ≡ suc (more + draws) = omega arith in rw (next, seed_after-add more draws seed)

-- the time that was set
pub with_time-same : (shop : FlowShop) (job machine time : ℕ) → length shop.times ≡ shop.jobs * shop.machines
    → job < shop.jobs → machine < shop.machines → time_of (with_time shop job machine time) job machine ≡ time
with_time-same shop job machine time all j m =
    grind (arith, rows, get_or-set_same shop.times (job * shop.machines + machine) time 0)

-- the other times
pub with_time-other : (shop : FlowShop) (job machine time other at : ℕ) → machine < shop.machines → at < shop.machines
    → (other ≡ job → at ≢ machine) → time_of (with_time shop job machine time) other at ≡ time_of shop other at
with_time-other shop job machine time other at m n differ =
    grind (arith, get_or-set_other {A = ℕ}, same_from_place other at job machine shop.machines n m)

-- the problem has this many jobs and machines, a time of each job on each machine, and these notes
pub record IsOf (jobs machines : ℕ) (notes : Notes) (now : Problem) : Type 0 where
  pub same_jobs : now.shop.jobs ≡ jobs
  pub same_machines : now.shop.machines ≡ machines
  pub every_time : length now.shop.times ≡ jobs * machines
  pub same_notes : now.notes ≡ notes

-- the times of `jobs` jobs on a machine are drawn, the last by this seed, and the times on other machines are as before
pub record DrawnSoFar (first : ℕ) (before : Problem) (machine jobs seed : ℕ) (now : Problem) : Type 0 where
  pub last : seed ≡ seed_after jobs first
  pub below : seed < prime
  pub same : IsOf before.shop.jobs before.shop.machines before.notes now
  pub drawn : (job : ℕ) → job < jobs → time_of now.shop job machine ≡ drawn_time (seed_after (job + 1) first)
  pub others : (job other : ℕ) → other < before.shop.machines → other ≢ machine
      → time_of now.shop job other ≡ time_of before.shop job other

pub drawn_more : (first : ℕ) (before : Problem) (machine jobs seed : ℕ) (now : Problem)
    → DrawnSoFar first before machine jobs seed now → jobs < before.shop.jobs → machine < before.shop.machines
    → DrawnSoFar first before machine (jobs + 1) (16807 * seed % prime)
    (record now { shop = with_time now.shop jobs machine (drawn_time (16807 * seed % prime)) })
unfolding seed_after
drawn_more first before machine jobs seed now h j m =
    let last : 16807 * seed % prime ≡ seed_after (jobs + 1) first = rw (add-one jobs, h.last) in
    let every = rw (← h.same.same_jobs, ← h.same.same_machines) at h.same.every_time in
    record {
      last = last;
      below = omega arith;
      same = grind (arith, h.same, length-set {A = ℕ});
      drawn = λ job k. grind (arith, last, every, h.same, h.drawn, with_time-same, with_time-other);
      others = λ job other n differ. grind (arith, h.same, h.others, with_time-other);
    }

-- the times on `done` machines are drawn, the last by this seed
pub record DrawnMachines (jobs machines first done seed : ℕ) (now : Problem) : Type 0 where
  pub last : seed ≡ seed_after (done * jobs) first
  pub below : seed < prime
  pub same : IsOf jobs machines (record { seed = first; upper = 0; lower = 0 }) now
  pub drawn : (job machine : ℕ) → job < jobs → machine < done
      → time_of now.shop job machine ≡ drawn_time (seed_after (machine * jobs + job + 1) first)

pub machine_more : (jobs machines first done seed next : ℕ) (now then : Problem)
    → DrawnMachines jobs machines first done seed now → done < machines
    → DrawnSoFar seed now done now.shop.jobs next then → DrawnMachines jobs machines first (done + 1) next then
machine_more jobs machines first done seed next now then h within more =
    grind (arith, drawn_after, drawn_after now.shop.jobs)
  where
    drawn_after : (more : ℕ) → seed_after more seed ≡ seed_after (more + done * jobs) first
    drawn_after more = grind (arith, h.last, seed_after-add more (done * jobs) first)

-- the time of a job on a machine
abbrev time : ℕ → ℕ → ℕ → ℕ → ℕ
time jobs first job machine = drawn_time (seed_after (machine * jobs + job + 1) first)

-- the times on all machines are drawn
pub drawn_all : (jobs machines first seed : ℕ) (now : Problem) → DrawnMachines jobs machines first machines seed now
    → now ≡ generated jobs machines first
unfolding generated
drawn_all jobs machines first seed now h =
    let times = same_table (time jobs first) jobs machines now.shop.times h.same.every_time
    (λ job machine j m. rw h.same.same_machines at (h.drawn job machine j m)) in
    rw (← times, ← h.same.same_jobs, ← h.same.same_machines, ← h.same.same_notes)

-- ---- laws

pub seeds_stay : SeedsStay
unfolding seed_after
seeds_stay zero seed is = is
seeds_stay (suc draws) seed is = let before = seeds_stay draws seed is in (omega arith, omega arith)

pub generated_within : GeneratedWithin
unfolding generated
generated_within jobs machines seed sizes is =
    let short = all_table (time jobs seed) jobs machines (λ drawn. drawn ≤ LONGEST_TIME) (λ job machine j m.
    let seed_is = seeds_stay (machine * jobs + job + 1) seed is in omega arith) in
    grind (arith, sizes, length-table (time jobs seed) jobs machines, short)
