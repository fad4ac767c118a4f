-- The steps of the code are those of reading the bytes from a place on.
use Rattle.std.proofs.Common.{◌≡◌, ◌≢◌, ℕ, suc, ◌^◌, ◌+◌, ◌-◌, ◌<◌, ◌≤◌, List, [], ◌∷◌, ◌++◌, length, take, drop}
use Rattle.std.proofs.Common.{get_or, refl, ap}
use Rattle.std.proofs.Common.{arith, inl, inr, Option, Some}
use Rattle.std.specs.Prelude.{Result, Ok, Err}
use Rattle.std.proofs.lemmas.Bool.{cases_lt, eq-eqb, ne_eqb}
use Rattle.std.proofs.lemmas.Bool.Decides.{nat_tests}
use Rattle.std.proofs.lemmas.List.{append_assoc, append-nil, take_all, take_more_set, length-drop, drop_all, drop_more}
use Rattle.pfs_order.specs.declared.fault.OrderFault.{OrderFault}
use Rattle.pfs_order.specs.Private.Reading.{then_read, Stops, byte_at, word_at, ended, longer, or_else}
use Rattle.pfs_order.specs.Private.Reading.{numeral_on, numeral_at}
use Rattle.pfs_order.specs.Private.Reading.{job_end, jobs_at, yields, first_line_at, makespan_at, lines_at}
use Rattle.pfs_order.specs.Private.Reading.{text_at}
use Rattle.pfs_order.specs.Private.Reading.{read_text}
use Rattle.pfs_order.specs.declared.fault.OrderFault.TheVariants.{Syntax}
use Rattle.pfs_order.specs.Sequence.{StatedOrder}
use Rattle.pfs_order.specs.OrderFile.{HasText}
use Rattle.pfs_order.proofs.Grammar.{text_of_read}

-- ---- words and numerals

pub ruleset number_tests = (nat_tests)

pub word_step : (word text : List ℕ) (i next : ℕ) → i < length word → next < length text
    → get_or text next 0 ≡ get_or word i 0
    → word_at (drop i word) (drop next text) ≡ word_at (drop (i + 1) word) (drop (next + 1) text)
unfolding word_at byte_at
word_step word text i next h l same =
    rw (drop_more word i 0 h, drop_more text next 0 l, eq-eqb (get_or text next 0) (get_or word i 0) same) refl

pub word_stops : (word text : List ℕ) (i next : ℕ) → i < length word → next ≤ length text
    → (next < length text → get_or text next 0 ≢ get_or word i 0)
    → word_at (drop i word) (drop next text) ≡ Err (drop next text)
unfolding word_at byte_at
word_stops word text i next h l other = elim (cases_lt next (length text)) [
  | inl here ↦
      rw (drop_more word i 0 h, drop_more text next 0 here, ne_eqb (get_or text next 0) (get_or word i 0) (other here))
      refl
  | inr end ↦ rw (drop_more word i 0 h, drop_all next text (omega arith)) refl
]

pub numeral_step : (least most end : ℕ) (number : Option ℕ) (text : List ℕ) (next : ℕ) → next < length text
    → numeral_on least most end number (drop next text) ≡ or_else (ended number (get_or text next 0) end)
    (λ n. Ok (n, drop (next + 1) text)) (or_else (longer least most number (get_or text next 0))
    (λ n. numeral_on least most end (Some n) (drop (next + 1) text)) (Err (drop next text)))
unfolding numeral_on
numeral_step least most end number text next h = rw (drop_more text next 0 h) refl

pub ruleset word_steps = (word_step, word_stops, drop_all)

pub ruleset numeral_steps = (numeral_step, drop_all)

-- ---- the jobs

-- what is read, with numbers before it
abbrev pub with_front : List ℕ → Result (List ℕ × List ℕ) (List ℕ) → Result (List ℕ × List ℕ) (List ℕ)
with_front front (Ok (numbers, rest)) = Ok (front ++ numbers, rest)
with_front front (Err rest) = Err rest

pub jobs_done : (count place : ℕ) (numbers bytes : List ℕ) → length numbers ≡ count → count ≤ place
    → with_front (take place numbers) (jobs_at (count - place) bytes) ≡ Ok (numbers, bytes)
unfolding jobs_at
jobs_done count place numbers bytes size h =
    let none : count - place ≡ 0 = omega arith in rw (take_all place numbers (omega arith), none, append-nil) refl

module _ (count place : ℕ) (front text bytes : List ℕ) (h : place < count) where
  abbrev end_here : ℕ
  end_here = job_end (count - place - 1)

  pub job_read : (job : ℕ) (rest : List ℕ) → numeral_at 0 (10 ^ 9 - 1) end_here bytes ≡ Ok (job, rest)
      → with_front front (jobs_at (count - place) bytes)
      ≡ with_front (front ++ job ∷ []) (jobs_at (count - (place + 1)) rest)
  unfolding jobs_at
  job_read job rest e =
      let more : count - place ≡ suc (count - place - 1) = omega arith in
      let left : count - (place + 1) ≡ count - place - 1 = omega arith in
      rw (more, left, e) (of (jobs_at (count - place - 1) rest))
    where
      of : (others : Result (List ℕ × List ℕ) (List ℕ))
          → with_front front (then_read (λ jobs. yields (job ∷ jobs)) others) ≡ with_front (front ++ job ∷ []) others
      of (Ok (jobs, after)) = rw append_assoc
      of (Err after) = refl

  pub job_stops : (fault : OrderFault) → Stops text fault (numeral_at 0 (10 ^ 9 - 1) end_here bytes)
      → Stops text fault (with_front front (jobs_at (count - place) bytes))
  unfolding jobs_at
  job_stops fault s =
      let more : count - place ≡ suc (count - place - 1) = omega arith in
      record { offset = s.offset; syntax = s.syntax; stops = rw (more, s.stops) refl; within = s.within }

pub ruleset job_steps = (job_read, job_stops, jobs_done, take_more_set)

-- ---- the whole

pub lines_follow : (text one two three jobs : List ℕ) (count makespan : ℕ) (machines : Option ℕ)
    → first_line_at text ≡ Ok ((count, machines), one) → jobs_at count one ≡ Ok (jobs, two)
    → makespan_at two ≡ Ok (makespan, three) → lines_at text ≡ Ok ((jobs, machines, makespan), three)
unfolding lines_at
lines_follow text one two three jobs count makespan machines e f g = rw (e, f, g) refl

module _ (text : List ℕ) (end : ℕ) (stated : List ℕ × Option ℕ × ℕ)
    (h : lines_at text ≡ Ok (stated, drop end text)) where
  pub more_follows : end < length text → read_text text ≡ Err (Syntax end)
  unfolding read_text
  more_follows lt =
      let size : length text - length (drop end text) ≡ end = omega (arith, length-drop end text) in
      rw (h, drop_more text end 0 lt) (rw (drop_more text end 0 lt) at (ap (λ n. fault_at n) size))
    where
      fault_at : ℕ → Result StatedOrder OrderFault
      fault_at n = Err (Syntax n)

  pub none_follows : length text ≤ end → (HasText text stated.0 stated.1 stated.2) × (text_at text ≡ Ok (stated, []))
  none_follows le =
      let none = drop_all end text le in
      let whole : lines_at text ≡ Ok (stated, []) = rw none at h in
      (text_of_read text stated whole, rw whole refl)
