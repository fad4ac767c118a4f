-- Orders that begin and end with some jobs, by one more job at an end.
use Rattle.std.proofs.Common.{◌≡◌, ℕ, zero, suc, Bool, true, false, ◌+◌, ◌-◌, ◌<◌, ◌≤◌, List, [], ◌∷◌, ◌++◌, length}
use Rattle.std.proofs.Common.{◌≢◌, set, inl, inr, add-one, get_or, refl, sym, ap, ◌∙◌, subst, arith, Contains, insert, remove, take, drop, drop-cons}
use Rattle.std.proofs.Math.Seq.{get_or-append_seam, take-suc}
use Rattle.std.proofs.lemmas.Bool.{cases_eq, true≢false}
use Rattle.std.proofs.lemmas.List.{get_or-set_same, get_or-set_other}
use Rattle.std.proofs.lemmas.List.{append_assoc, append-nil, length-append, take-append-drop}
use Rattle.std.proofs.lemmas.List.Elements.{Contains-append_cases, Contains-append_left, Contains-append_right}
use Rattle.pfs_base.specs.FlowShop.{FlowShop}
use Rattle.pfs_base.specs.Paths.{makespan}
use Rattle.pfs_base.proofs.Published.Lists.{by_push}
use Rattle.pfs_order.specs.Sequence.{Sequence, IsSequence}
use Rattle.pfs_order.proofs.Published.Sequences.{IsSequence-head, IsSequence-rest, IsSequence-insert}
use Rattle.pfs_order.proofs.Published.Sequences.{length-le-size}
use Rattle.pfs_audit.specs.Bound.{IsLowerBound}
use Rattle.pfs_exact.specs.declared.ends.Ends.{Ends}
use Rattle.pfs_exact.specs.Private.Nodes.{AreCleared, AreEnds, Every, IsFull, IsOpen, IsSome, NoneShorter, put_of, taken_of}

-- ---- jobs between

-- the job after the first jobs is not among them
pub next_absent : (size job : ℕ) (front more : List ℕ) → IsSequence size (front ++ job ∷ more)
    → Contains front job → ⊥
next_absent size job [] more sequence (at, within, found) = absurd (omega arith)
next_absent size job (first ∷ front) more sequence (zero, within, found) =
    IsSequence-head size first (front ++ job ∷ more) sequence
    (subst (λ j. Contains (front ++ job ∷ more) j) (sym found)
    (Contains-append_right front (job ∷ more) job (0, omega arith, refl)))
next_absent size job (first ∷ front) more sequence (suc at, within, found) =
    next_absent size job front more (IsSequence-rest size first (front ++ job ∷ more) sequence) (at, omega arith, found)

pub next_small : (size job : ℕ) (front more : List ℕ) → IsSequence size (front ++ job ∷ more) → job < size
next_small size job front more sequence =
    let len = length-append front (job ∷ more) in
    rw (get_or-append_seam front job more 0) at (sequence.in_range (length front) 0 (omega arith))

drop_front : (size : ℕ) (front rest : List ℕ) → IsSequence size (front ++ rest) → IsSequence size rest
drop_front size [] rest sequence = sequence
drop_front size (first ∷ front) rest sequence =
    drop_front size front rest (IsSequence-rest size first (front ++ rest) sequence)

module _ (shop : FlowShop) (front : List ℕ) (job : ℕ) (middle back : List ℕ) where
  -- the first of the jobs between, as the last of the first jobs
  pub front_as : (front ++ job ∷ []) ++ (middle ++ back) ≡ front ++ job ∷ (middle ++ back)
  front_as = append_assoc front (job ∷ []) (middle ++ back)

  pub from_front : IsFull shop (front ++ job ∷ []) middle back → IsFull shop front (job ∷ middle) back
  from_front full = record {
    sequence = subst (IsSequence shop.jobs) front_as full.sequence;
    full = sym (ap length front_as) ∙ full.full;
  }

  pub to_front : IsFull shop front (job ∷ middle) back → IsFull shop (front ++ job ∷ []) middle back
  to_front full = record {
    sequence = subst (IsSequence shop.jobs) (sym front_as) full.sequence;
    full = ap length front_as ∙ full.full;
  }

  -- the last of the jobs between, as the first of the last jobs
  pub back_as : front ++ (middle ++ job ∷ back) ≡ front ++ ((middle ++ job ∷ []) ++ back)
  back_as = ap (λ l. front ++ l) (sym (append_assoc middle (job ∷ []) back))

  pub from_back : IsFull shop front middle (job ∷ back) → IsFull shop front (middle ++ job ∷ []) back
  from_back full = record {
    sequence = subst (IsSequence shop.jobs) back_as full.sequence;
    full = sym (ap length back_as) ∙ full.full;
  }

  pub to_back : IsFull shop front (middle ++ job ∷ []) back → IsFull shop front middle (job ∷ back)
  to_back full = record {
    sequence = subst (IsSequence shop.jobs) (sym back_as) full.sequence;
    full = ap length back_as ∙ full.full;
  }

  -- the job is one, and at neither end
  pub first_small : IsFull shop front (job ∷ middle) back → job < shop.jobs
  first_small full = next_small shop.jobs job front (middle ++ back) full.sequence

  pub first_open : IsFull shop front (job ∷ middle) back → IsOpen front back job
  first_open full =
      let rest = drop_front shop.jobs front (job ∷ (middle ++ back)) full.sequence in (
        next_absent shop.jobs job front (middle ++ back) full.sequence,
        λ among. IsSequence-head shop.jobs job (middle ++ back) rest (Contains-append_right middle back job among),
      )

  apart : IsFull shop front (middle ++ job ∷ []) back → IsSequence shop.jobs ((front ++ middle) ++ job ∷ back)
  apart full =
      let parts : (front ++ middle) ++ job ∷ back ≡ front ++ ((middle ++ job ∷ []) ++ back) =
      append_assoc front middle (job ∷ back) ∙ back_as in
      subst (IsSequence shop.jobs) (sym parts) full.sequence

  pub last_small : IsFull shop front (middle ++ job ∷ []) back → job < shop.jobs
  last_small full = next_small shop.jobs job (front ++ middle) back (apart full)

  pub last_open : IsFull shop front (middle ++ job ∷ []) back → IsOpen front back job
  last_open full =
      let rest = drop_front shop.jobs (front ++ middle) (job ∷ back) (apart full) in (
        λ among. next_absent shop.jobs job (front ++ middle) back (apart full)
            (Contains-append_left front middle job among),
        IsSequence-head shop.jobs job back rest,
      )

-- ---- any property of whole orders, by one more job at an end

pub front_every : (shop : FlowShop) (P : List ℕ → Type 0) (front back : List ℕ) → length front + length back < shop.jobs
    → ((job : ℕ) → job < shop.jobs → IsOpen front back job → Every shop P (front ++ job ∷ []) back) → Every shop P front back
front_every shop P front back short kids [] full =
    let len = length-append front back in let all = full.full in absurd (omega arith)
front_every shop P front back short kids (job ∷ more) full =
    subst P (front_as shop front job more back)
    (kids job (first_small shop front job more back full) (first_open shop front job more back full) more
    (to_front shop front job more back full))

abbrev IsOfEvery : FlowShop → (List ℕ → Type 0) → List ℕ → List ℕ → List ℕ → Type 0
IsOfEvery shop P front back middle = IsFull shop front middle back → P (front ++ (middle ++ back))

pub back_every : (shop : FlowShop) (P : List ℕ → Type 0) (front back : List ℕ) → length front + length back < shop.jobs
    → ((job : ℕ) → job < shop.jobs → IsOpen front back job → Every shop P front (job ∷ back)) → Every shop P front back
back_every shop P front back short kids =
    by_push (IsOfEvery shop P front back)
    (λ full. let len = length-append front back in let all = full.full in absurd (omega arith))
    (λ more job before full.
    subst P (back_as shop front job more back)
    (kids job (last_small shop front job more back full) (last_open shop front job more back full) more
    (to_back shop front job more back full)))

pub every_children : (shop : FlowShop) (P : List ℕ → Type 0) (ends : Ends) (forward : Bool)
    → length ends.front.jobs + length ends.back.jobs < shop.jobs
    → ((job : ℕ) → job < shop.jobs → IsOpen ends.front.jobs ends.back.jobs job
    → Every shop P (put_of forward ends job).front.jobs (put_of forward ends job).back.jobs)
    → Every shop P ends.front.jobs ends.back.jobs
every_children shop P ends true short kids = front_every shop P ends.front.jobs ends.back.jobs short kids
every_children shop P ends false short kids = back_every shop P ends.front.jobs ends.back.jobs short kids

-- ends that have all jobs have one order
pub by_itself : (shop : FlowShop) (front back : List ℕ) (number : ℕ) → shop.jobs ≤ length front + length back
    → number ≤ makespan shop (front ++ back) → NoneShorter shop front back number
by_itself shop front back number all small [] full = small
by_itself shop front back number all small (job ∷ more) full =
    let two = length-append front (job ∷ (more ++ back)) in
    let three = length-append more back in
    let whole = full.full in
    absurd (omega arith)

pub none_shorter-le : (shop : FlowShop) (front back : List ℕ) (number less : ℕ) → less ≤ number
    → NoneShorter shop front back number → NoneShorter shop front back less
none_shorter-le shop front back number less small none middle full = let here = none middle full in omega arith

pub from_none : (shop : FlowShop) (number : ℕ) → NoneShorter shop [] [] number → IsLowerBound shop number
from_none shop number none order sequence full =
    let e : order ++ [] ≡ order = append-nil order in
    rw e at (none order (record { sequence = rw e sequence; full = rw e full }))

pub to_none : (shop : FlowShop) (front back : List ℕ) (number : ℕ) → IsLowerBound shop number
    → NoneShorter shop front back number
to_none shop front back number low middle full = low (front ++ (middle ++ back)) full.sequence full.full

-- ---- ends

removed : (jobs : List ℕ) (job : ℕ) → remove (jobs ++ job ∷ []) (length jobs) ≡ jobs
removed [] job = refl
removed (first ∷ jobs) job = ap (λ rest. first ∷ rest) (removed jobs job)

same_sequence : (one other : Sequence) → one.size ≡ other.size → one.jobs ≡ other.jobs → one ≡ other
same_sequence one other size jobs =
    let sized : ℕ → Sequence = λ n. record one { size = n } in
    let filled : List ℕ → Sequence = λ l. record other { jobs = l } in
    ap sized size ∙ ap filled jobs

same_ends : (one other : Ends) → one.front ≡ other.front → one.back ≡ other.back → one ≡ other
same_ends one other front back =
    let ahead : Sequence → Ends = λ s. record one { front = s } in
    let behind : Sequence → Ends = λ s. record other { back = s } in
    ap ahead front ∙ ap behind back

pub taken_again : (forward : Bool) (ends : Ends) (job : ℕ) → taken_of forward (put_of forward ends job) ≡ ends
taken_again true ends job =
    let jobs = ends.front.jobs in
    let len = length-append jobs (job ∷ []) in
    let at : length (jobs ++ job ∷ []) - 1 ≡ length jobs = omega arith in
    same_ends (taken_of true (put_of true ends job)) ends
    (same_sequence (taken_of true (put_of true ends job)).front ends.front refl
    (ap (remove (jobs ++ job ∷ [])) at ∙ removed jobs job)) refl
taken_again false ends job = refl

pub put_some : (forward : Bool) (ends : Ends) (job : ℕ) → IsSome forward (put_of forward ends job)
put_some true ends job = let len = length-append ends.front.jobs (job ∷ []) in omega arith
put_some false ends job = omega arith

pub put_length : (forward : Bool) (ends : Ends) (job : ℕ)
    → length (put_of forward ends job).front.jobs + length (put_of forward ends job).back.jobs
    ≡ length ends.front.jobs + length ends.back.jobs + 1
put_length true ends job = let len = length-append ends.front.jobs (job ∷ []) in omega arith
put_length false ends job = omega arith

-- ---- one more job between two lists

between : (front back : List ℕ) (job : ℕ) → insert (front ++ back) (length front) job ≡ front ++ job ∷ back
between [] back job = refl
between (first ∷ front) back job = ap (λ l. first ∷ l) (between front back job)

pub absent : (front back : List ℕ) (job : ℕ) → IsOpen front back job → Contains (front ++ back) job → ⊥
absent [] back job outside among = outside.1 among
absent (first ∷ front) back job outside (zero, within, found) = outside.0 (zero, omega arith, found)
absent (first ∷ front) back job outside (suc at, within, found) =
    absent front back job (λ (k, small, is). outside.0 (suc k, omega arith, is), outside.1) (at, omega arith, found)

put_sequence : (size job : ℕ) (front back : List ℕ) → job < size → IsOpen front back job → IsSequence size (front ++ back)
    → IsSequence size (front ++ job ∷ back)
put_sequence size job front back small outside sequence =
    subst (IsSequence size) (between front back job)
    (IsSequence-insert size (length front) job (front ++ back) small (absent front back job outside) sequence)

pub put_ends : (forward : Bool) (size : ℕ) (ends : Ends) (job : ℕ) → job < size
    → IsOpen ends.front.jobs ends.back.jobs job → AreEnds size ends → AreEnds size (put_of forward ends job)
put_ends true size ends job small outside are = record {
  front = are.front;
  back = are.back;
  sequence = subst (IsSequence size) (sym (append_assoc ends.front.jobs (job ∷ []) ends.back.jobs))
      (put_sequence size job ends.front.jobs ends.back.jobs small outside are.sequence);
}
put_ends false size ends job small outside are = record {
  front = are.front;
  back = are.back;
  sequence = put_sequence size job ends.front.jobs ends.back.jobs small outside are.sequence;
}

-- a later one of the last jobs is not among those before it
pub later_absent : (size : ℕ) (front back : List ℕ) (place : ℕ) → place < length back → IsSequence size (front ++ back)
    → Contains (front ++ take place back) (get_or back place 0) → ⊥
later_absent size front back place inside sequence =
    let rest : drop place back ≡ get_or back place 0 ∷ drop (suc place) back = drop-cons back place 0 inside in
    let e : front ++ back ≡ (front ++ take place back) ++ get_or back place 0 ∷ drop (suc place) back =
    ap (λ l. front ++ l) (sym (take-append-drop place back)) ∙ sym (append_assoc front (take place back) (drop place back))
    ∙ ap (λ l. (front ++ take place back) ++ l) rest in
    next_absent size (get_or back place 0) (front ++ take place back) (drop (suc place) back)
    (subst (IsSequence size) e sequence)

pub ends_all : (size : ℕ) (front back : List ℕ) → IsSequence size (front ++ back) → size ≤ length front + length back
    → length (front ++ back) ≡ size
ends_all size front back sequence all =
    let long = length-append front back in let few = length-le-size size (front ++ back) sequence in omega arith

-- ---- marks

pub cleared_none : (marks : List Bool) → AreCleared [] marks marks
cleared_none marks = record {
  kept = λ job outside. refl;
  cleared = λ job (at, within, found). absurd (omega arith);
  fewer = λ job is. is;
}

pub cleared_more : (jobs : List ℕ) (place x : ℕ) (before marks : List Bool) → place < length jobs → x ≡ get_or jobs place 0
    → x < length marks → AreCleared (take place jobs) before marks
    → AreCleared (take (place + 1) jobs) before (set marks x false)
cleared_more jobs place x before marks inside at_place within are =
    let more : take (place + 1) jobs ≡ take place jobs ++ x ∷ [] =
    ap (λ n. take n jobs) (add-one place) ∙ take-suc jobs place 0 inside ∙ ap (λ j. take place jobs ++ j ∷ []) (sym at_place) in
    let here = get_or-set_same marks x false false within in
    record {
      kept = λ job outside.
          let alone = subst (λ l. Contains l job → ⊥) more outside in
          let other : job ≢ x = λ is. alone (Contains-append_right (take place jobs) (x ∷ []) job (0, omega arith, sym is)) in
          get_or-set_other marks x job false false other
          ∙ are.kept job (λ among. alone (Contains-append_left (take place jobs) (x ∷ []) job among));
      cleared = λ job among. elim (cases_eq job x) [
        | inl is ↦ subst (λ j. get_or (set marks x false) j false ≡ false) (sym is) here
        | inr other ↦ get_or-set_other marks x job false false other
            ∙ are.cleared job (elim (Contains-append_cases (take place jobs) (x ∷ []) job
            (subst (λ l. Contains l job) more among)) [
              | inl earlier ↦ earlier
              | inr (at, small, found) ↦ let first : at ≡ 0 = omega arith in absurd (other (sym (rw first at found)))
            ])
      ];
      fewer = λ job is. elim (cases_eq job x) [
        | inl same ↦ absurd (true≢false (sym is ∙ ap (λ j. get_or (set marks x false) j false) same ∙ here))
        | inr other ↦ are.fewer job (sym (get_or-set_other marks x job false false other) ∙ is)
      ];
    }
