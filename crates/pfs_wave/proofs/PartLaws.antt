-- Leaving jobs out of a sequence doesn't make its makespan longer, and a job after all others makes it longer by at
-- most the sum of its times.
use Rattle.std.proofs.Common.{◌≡◌, ℕ, zero, suc, ◌+◌, ◌-◌, ◌*◌, ◌≤◌, max, List, [], ◌∷◌, ◌++◌, length, take, drop}
use Rattle.std.proofs.Common.{get_or, sum, inl, inr, arith, refl, ap, sym, ◌∙◌, add-zero, add-one}
use Rattle.std.proofs.Common.{get_or-drop, take_all}
use Rattle.std.proofs.lemmas.Bool.{cases_lt}
use Rattle.std.proofs.lemmas.List.{append_assoc, get_or_past}
use Rattle.std.proofs.lemmas.List.Edits.{insert_end}
use Rattle.std.proofs.Math.Seq.{take-suc}
use Rattle.std.proofs.lemmas.List.Sums.{sum_by_more}
use Rattle.pfs_base.specs.FlowShop.{FlowShop, time_of, total_of}
use Rattle.pfs_base.specs.Paths.{operation, makespan}
use Rattle.pfs_base.proofs.Published.Heads.{head, head_step, makespan_is}
use Rattle.pfs_insert.specs.Insertion.{makespan_with}
use Rattle.pfs_wave.specs.Parts.{IsPart, empty, same, left_out, PartLaw}

-- when a job with these times ends on each machine, after jobs that end at `before`
abbrev pub ends : (ℕ → ℕ) → (ℕ → ℕ) → ℕ → ℕ
ends before times zero = before 0 + times 0
ends before times (suc machine) = max (before (suc machine)) (ends before times machine) + times (suc machine)

-- no machine ends earlier with one more job
ends_later : (before times : ℕ → ℕ) (machine : ℕ) → before machine ≤ ends before times machine
ends_later before times zero = omega arith
ends_later before times (suc machine) = omega arith

-- where the jobs before end no later, the job ends no later
ends_mono : (before others times : ℕ → ℕ) → ((machine : ℕ) → before machine ≤ others machine) → (machine : ℕ)
    → ends before times machine ≤ ends others times machine
ends_mono before others times le zero = let here = le 0 in omega arith
ends_mono before others times le (suc machine) =
    let here = le (suc machine) in
    let prev = ends_mono before others times le machine in
    omega arith

-- the job ends on each machine before it ends on the next
pub ends_in_order : (before times : ℕ → ℕ) (machine : ℕ) → ends before times machine ≤ ends before times (suc machine)
ends_in_order before times machine = omega arith

-- the ends by the heads of the row before are the heads of the row
ends_are_heads : (weigh : ℕ → ℕ → ℕ) (row machine : ℕ)
    → ends (head weigh row) (weigh row) machine ≡ head weigh (suc row) machine
ends_are_heads weigh row zero = let step = head_step weigh row 0 in omega arith
ends_are_heads weigh row (suc machine) =
    let step = head_step weigh row (suc machine) in
    let prev = ends_are_heads weigh row machine in
    omega arith

-- the same ends and times give the same ends
ends_same : (before others times more : ℕ → ℕ) → ((machine : ℕ) → before machine ≡ others machine)
    → ((machine : ℕ) → times machine ≡ more machine) → (machine : ℕ)
    → ends before times machine ≡ ends others more machine
ends_same before others times more is are zero = let a = is 0 in let b = are 0 in omega arith
ends_same before others times more is are (suc machine) =
    let a = is (suc machine) in
    let b = are (suc machine) in
    let prev = ends_same before others times more is are machine in
    omega arith

module _ (shop : FlowShop) where
  -- when the last of some jobs ends on each machine, after jobs that end at `before`
  abbrev pub last_ends : (ℕ → ℕ) → List ℕ → ℕ → ℕ
  last_ends before [] = before
  last_ends before (job ∷ jobs) = last_ends (ends before (time_of shop job)) jobs

  -- with the heads of a row before them, the jobs of the rows from there on end when their heads say
  after_are_heads : (weigh : ℕ → ℕ → ℕ) (row : ℕ) (before : ℕ → ℕ) (jobs : List ℕ)
      → ((machine : ℕ) → before machine ≡ head weigh row machine)
      → ((more machine : ℕ) → weigh (row + more) machine ≡ operation shop jobs more machine) → (machine : ℕ)
      → last_ends before jobs machine ≡ head weigh (row + length jobs) machine
  after_are_heads weigh row before [] is are machine =
      is machine ∙ ap (λ r. head weigh r machine) (sym (add-zero row))
  after_are_heads weigh row before (job ∷ jobs) is are machine =
      after_are_heads weigh (suc row) (ends before (time_of shop job)) jobs
      (λ machine.
      ends_same before (head weigh row) (time_of shop job) (weigh row) is
      (λ machine. sym (are 0 machine) ∙ ap (λ r. weigh r machine) (add-zero row)) machine
      ∙ ends_are_heads weigh row machine)
      (λ more machine.
      let next : suc row + more ≡ row + suc more = omega arith in
      ap (λ r. weigh r machine) next ∙ are (suc more) machine)
      machine
      ∙ (let end : suc row + length jobs ≡ row + suc (length jobs) = omega arith in ap (λ r. head weigh r machine) end)

  -- the makespan is when the last job ends on the last machine
  pub makespan_ends : (jobs : List ℕ) → makespan shop jobs ≡ last_ends (λ machine. 0) jobs (shop.machines - 1)
  makespan_ends jobs =
      let last = shop.machines - 1 in
      let all : 0 + length jobs ≡ length jobs = omega arith in
      makespan_is shop jobs
      ∙ sym (after_are_heads (operation shop jobs) 0 (λ machine. 0) jobs (λ machine. refl)
      (λ more machine.
      let here : 0 + more ≡ more = omega arith in ap (λ r. operation shop jobs r machine) here) last
      ∙ ap (λ r. head (operation shop jobs) r last) all)

  -- no machine ends earlier with more jobs
  after_later : (before others : ℕ → ℕ) → ((machine : ℕ) → before machine ≤ others machine) → (jobs : List ℕ)
      → (machine : ℕ) → before machine ≤ last_ends others jobs machine
  after_later before others le [] machine = le machine
  after_later before others le (job ∷ jobs) machine =
      after_later before (ends others (time_of shop job))
      (λ machine. let here = le machine in let later = ends_later others (time_of shop job) machine in omega arith)
      jobs machine

  -- no machine ends later where jobs are left out
  part_after : (before others : ℕ → ℕ) {part whole : List ℕ} → IsPart part whole
      → ((machine : ℕ) → before machine ≤ others machine)
      → (machine : ℕ) → last_ends before part machine ≤ last_ends others whole machine
  part_after before others (empty {whole = whole}) le machine = after_later before others le whole machine
  part_after before others (same {first = job} is) le machine =
      part_after (ends before (time_of shop job)) (ends others (time_of shop job)) is
      (ends_mono before others (time_of shop job) le) machine
  part_after before others (left_out {first = job} is) le machine =
      part_after before (ends others (time_of shop job)) is
      (λ machine. let here = le machine in let later = ends_later others (time_of shop job) machine in omega arith)
      machine

  -- the last job ends on each machine before it ends on the next
  after_in_order : (before : ℕ → ℕ) → ((machine : ℕ) → before machine ≤ before (suc machine)) → (jobs : List ℕ)
      → (machine : ℕ) → last_ends before jobs machine ≤ last_ends before jobs (suc machine)
  after_in_order before le [] machine = le machine
  after_in_order before le (job ∷ jobs) machine =
      after_in_order (ends before (time_of shop job)) (ends_in_order before (time_of shop job)) jobs machine

  -- the ends with a job after all others are those of the others and the job
  after_append : (before : ℕ → ℕ) (jobs : List ℕ) (job machine : ℕ)
      → last_ends before (jobs ++ job ∷ []) machine ≡ ends (last_ends before jobs) (time_of shop job) machine
  after_append before [] job machine = refl
  after_append before (other ∷ jobs) job machine = after_append (ends before (time_of shop other)) jobs job machine

-- a number that grows is at most a later one
pub in_order : (values : ℕ → ℕ) → ((at : ℕ) → values at ≤ values (suc at)) → (at more : ℕ)
    → values at ≤ values (more + at)
in_order values le at zero = let e : 0 + at ≡ at = omega arith in let h = ap values e in omega arith
in_order values le at (suc more) =
    let e : suc more + at ≡ suc (more + at) = omega arith in
    let h = ap values e in
    let prev = in_order values le at more in
    let step = le (more + at) in
    omega arith

-- the sum with one more number, which is 0 after the last one
pub sum_next : (numbers : List ℕ) (count : ℕ)
    → sum (take (suc count) numbers) ≡ sum (take count numbers) + get_or numbers count 0
sum_next numbers count =
    elim (cases_lt count (length numbers)) [
      | inl inside ↦ let longer = rw add-one at (sum_by_more (λ x. x) numbers count 0 inside) in omega arith
      | inr past ↦
          let none = get_or_past numbers count 0 past in
          let all = ap sum (take_all count numbers past) in
          let whole = ap sum (take_all (suc count) numbers (omega arith)) in
          omega arith
    ]

-- after jobs that end at `most` or before, a job ends on each machine after at most the sum of its times so far
ends_within : (before times : ℕ → ℕ) (numbers : List ℕ) (most last : ℕ)
    → ((machine : ℕ) → machine ≤ last → before machine ≤ most)
    → ((machine : ℕ) → times machine ≡ get_or numbers machine 0) → (machine : ℕ) → machine ≤ last
    → ends before times machine ≤ most + sum (take (suc machine) numbers)
ends_within before times numbers most last within are zero le =
    let here = within 0 le in
    let time = are 0 in
    let total = sum_next numbers 0 in
    omega arith
ends_within before times numbers most last within are (suc machine) le =
    let here = within (suc machine) le in
    let time = are (suc machine) in
    let total = sum_next numbers (suc machine) in
    let prev = ends_within before times numbers most last within are machine (omega arith) in
    omega arith

pub part_law : PartLaw
part_law shop part whole some is =
    rw (makespan_ends shop part, makespan_ends shop whole)
    (part_after shop (λ machine. 0) (λ machine. 0) is (λ machine. omega arith) (shop.machines - 1))

-- with a job after all others, the makespan is at most that of the others and the sum of the job's times
pub appended_law : (shop : FlowShop) (jobs : List ℕ) (job : ℕ) → 1 ≤ shop.machines
    → makespan_with shop jobs job (length jobs) ≤ makespan shop jobs + total_of shop job
appended_law shop jobs job some =
    let last = shop.machines - 1 in
    let none : ℕ → ℕ = λ machine. 0 in
    let before = last_ends shop none jobs in
    let ordered = after_in_order shop none (λ machine. omega arith) jobs in
    let within : (machine : ℕ) → machine ≤ last → before machine ≤ before last =
    λ machine le.
    let e : (last - machine) + machine ≡ last = omega arith in
    let h = ap before e in
    let later = in_order before ordered machine (last - machine) in
    omega arith in
    let bound = ends_within before (time_of shop job) (drop (job * shop.machines) shop.times) (before last) last within
    (λ machine. sym (get_or-drop (job * shop.machines) shop.times machine 0)) last (omega arith) in
    let all : suc last ≡ shop.machines = omega arith in
    let total = ap (λ count. sum (take count (drop (job * shop.machines) shop.times))) all in
    let with_is = ap (makespan shop) (insert_end jobs job) ∙ makespan_ends shop (jobs ++ job ∷ [])
    ∙ after_append shop none jobs job last in
    let jobs_is = makespan_ends shop jobs in
    omega arith

-- when a job that is alone ends
abbrev pub alone_ends : (ℕ → ℕ) → ℕ → ℕ
alone_ends = ends (λ machine. 0)

-- between two machines a job ends later by at least as much as alone
ends_apart : (before times : ℕ → ℕ) (machine more : ℕ)
    → ends before times machine + alone_ends times (more + machine)
    ≤ ends before times (more + machine) + alone_ends times machine
ends_apart before times machine zero =
    let e : 0 + machine ≡ machine = omega arith in
    let one = ap (ends before times) e in
    let other = ap (alone_ends times) e in
    omega arith
ends_apart before times machine (suc more) =
    let e : suc more + machine ≡ suc (more + machine) = omega arith in
    let one = ap (ends before times) e in
    let other = ap (alone_ends times) e in
    let prev = ends_apart before times machine more in
    omega arith

ends_apart_to : (before times : ℕ → ℕ) (last machine : ℕ) → machine ≤ last
    → ends before times machine + alone_ends times last ≤ ends before times last + alone_ends times machine
ends_apart_to before times last machine le =
    let e : (last - machine) + machine ≡ last = omega arith in
    let one = ap (ends before times) e in
    let other = ap (alone_ends times) e in
    let apart = ends_apart before times machine (last - machine) in
    omega arith

-- the job after it ends later than it by at most as much as where both are alone
ends_after : (before times others : ℕ → ℕ) (last machine : ℕ) → machine ≤ last
    → ends (ends before times) others machine + alone_ends times last
    ≤ ends before times last + ends (alone_ends times) others machine
ends_after before times others last zero le =
    let apart = ends_apart_to before times last zero le in
    omega arith
ends_after before times others last (suc machine) le =
    let apart = ends_apart_to before times last (suc machine) le in
    let prev = ends_after before times others last machine (omega arith) in
    omega arith

-- with a job after all others, the makespan grows by at most as much as with the job after the last of them alone
after_last_law : (shop : FlowShop) (jobs : List ℕ) (last job : ℕ) → 1 ≤ shop.machines
    → makespan shop (jobs ++ last ∷ job ∷ []) + makespan shop (last ∷ [])
    ≤ makespan shop (jobs ++ last ∷ []) + makespan shop (last ∷ job ∷ [])
after_last_law shop jobs last job some =
    let end = shop.machines - 1 in
    let none : ℕ → ℕ = λ machine. 0 in
    let before = last_ends shop none jobs in
    let times = time_of shop last in
    let others = time_of shop job in
    let ends_is : (machine : ℕ) → last_ends shop none (jobs ++ last ∷ []) machine ≡ ends before times machine =
    after_append shop none jobs last in
    let with_is = makespan_ends shop (jobs ++ last ∷ job ∷ [])
    ∙ ap (λ l. last_ends shop none l end) (sym (append_assoc jobs (last ∷ []) (job ∷ [])))
    ∙ after_append shop none (jobs ++ last ∷ []) job end
    ∙ ends_same (last_ends shop none (jobs ++ last ∷ [])) (ends before times) others others ends_is (λ machine. refl) end in
    let jobs_is = makespan_ends shop (jobs ++ last ∷ []) ∙ ends_is end in
    let last_is = makespan_ends shop (last ∷ []) in
    let both_is = makespan_ends shop (last ∷ job ∷ []) in
    let bound = ends_after before times others end end (omega arith) in
    omega arith

-- the same, where the last job is that at a place
pub after_last_of : (shop : FlowShop) (jobs : List ℕ) (job : ℕ) → 1 ≤ shop.machines → 1 ≤ length jobs
    → makespan_with shop jobs job (length jobs) + makespan shop (get_or jobs (length jobs - 1) 0 ∷ [])
    ≤ makespan shop jobs + makespan shop (get_or jobs (length jobs - 1) 0 ∷ job ∷ [])
after_last_of shop jobs job some any =
    let at = length jobs - 1 in
    let last = get_or jobs at 0 in
    let front = take at jobs in
    let split : jobs ≡ front ++ last ∷ [] =
    sym (take_all (suc at) jobs (omega arith)) ∙ take-suc jobs at 0 (omega arith) in
    let with_is = ap (makespan shop) (insert_end jobs job ∙ ap (λ l. l ++ job ∷ []) split
    ∙ append_assoc front (last ∷ []) (job ∷ [])) in
    let jobs_is = ap (makespan shop) split in
    let law = after_last_law shop front last job some in
    omega arith

-- when a job ends alone, and when another one ends after it, on the machines before one
pub record AreAlone (times others : ℕ → ℕ) (machine alone both : ℕ) : Type 0 where
  pub none : machine ≡ 0 → (alone ≡ 0) × (both ≡ 0)
  pub ends_are : (at : ℕ) → suc at ≡ machine → (alone ≡ alone_ends times at) × (both ≡ ends (alone_ends times) others at)

pub alone_more : (times others : ℕ → ℕ) (machine alone both : ℕ) → AreAlone times others machine alone both
    → AreAlone times others (machine + 1) (alone + times machine) (max (alone + times machine) both + others machine)
alone_more times others zero alone both are =
    let alone_is = (are.none refl).0 in
    let both_is = (are.none refl).1 in
    record {
      none = λ is. absurd (omega arith);
      ends_are = λ at is. let here : at ≡ 0 = omega arith in rw here (omega arith, omega arith);
    }
alone_more times others (suc machine) alone both are =
    let alone_is = (are.ends_are machine refl).0 in
    let both_is = (are.ends_are machine refl).1 in
    record {
      none = λ is. absurd (omega arith);
      ends_are = λ at is. let here : at ≡ suc machine = omega arith in rw here (omega arith, omega arith);
    }

pub alone_makespans : (shop : FlowShop) (last job machine alone both : ℕ) → 1 ≤ shop.machines → machine ≡ shop.machines
    → AreAlone (time_of shop last) (time_of shop job) machine alone both
    → (alone ≡ makespan shop (last ∷ [])) × (both ≡ makespan shop (last ∷ job ∷ []))
alone_makespans shop last job machine alone both some all are =
    let end = shop.machines - 1 in
    let here = are.ends_are end (omega arith) in
    (here.0 ∙ sym (makespan_ends shop (last ∷ [])), here.1 ∙ sym (makespan_ends shop (last ∷ job ∷ [])))
