-- What is read of an order file is what its grammar says, line by line.
use Rattle.std.proofs.Common.{◌≡◌, ℕ, zero, suc, ◌-◌, ◌<◌, ◌≤◌, ◌^◌, inl, inr, Option, Some, None, List, []}
use Rattle.std.proofs.Common.{◌∷◌, ◌++◌, length, refl, sym, ap, ◌∙◌, arith, codes, lit≤, lit<}
use Rattle.std.specs.Prelude.{Ok, Err}
use Rattle.std.specs.Fmt.{decimal}
use Rattle.std.specs.List.{All}
use Rattle.std.proofs.lemmas.Bool.{cases_eq, ne_eqb}
use Rattle.std.proofs.lemmas.List.{append_assoc, append-nil}
use Rattle.std.proofs.lemmas.List.Elements.{All-nil, All-cons, All-head, All-tail}
use Rattle.pfs_base.specs.declared.limits.TheConstants.{MOST_JOBS, MOST_MACHINES}
use Rattle.pfs_base.specs.Text.{spaced, with_line_end, named_number}
use Rattle.pfs_order.specs.OrderText.{first_line, order_text}
use Rattle.pfs_order.specs.OrderFile.{HasText, IsText, IsSyntaxFault}
use Rattle.pfs_order.specs.Private.Reading.{IsHead, word_at, byte_at, version_end, version_at, counts_at, first_line_at}
use Rattle.pfs_order.specs.Private.Reading.{job_end, jobs_at, makespan_at, lines_at, text_at}
use Rattle.pfs_order.specs.declared.reading.Version.{Version}
use Rattle.pfs_order.specs.declared.reading.Version.TheVariants.{One, Two}
use Rattle.pfs_order.proofs.Faults.{fault_where_front_ends}
use Rattle.pfs_order.proofs.NumeralScan.{number_reads, number_ends}
use Rattle.pfs_order.proofs.Scanning.{Spelling, ScanVerdict, found, stuck, Finds, Scans, then_reads, then_joined}
use Rattle.pfs_order.proofs.Scanning.{map_reads, none_reads, word_reads, same_read, spells_read, with_tail-same}

-- a job numeral of at most nine digits
abbrev pub IsShort : ℕ → Type 0
IsShort job = job < 10 ^ 9

-- ---- the first line

abbrev version_ending : Version → List ℕ
version_ending One = codes " "
version_ending Two = codes "2 "

abbrev IsEnding : Spelling Version
IsEnding version text = text ≡ version_ending version

version_end_reads : Scans IsEnding version_end
unfolding version_end word_at byte_at
version_end_reads = record { some = (One, (codes " ", one)); verdict = verdict }
  where
    one : Finds IsEnding version_end One (codes " ")
    one = record { spelled = refl; read = λ other. refl }

    two : Finds IsEnding version_end Two (codes "2 ")
    two = record { spelled = refl; read = λ other. refl }

    after_two : (text : List ℕ) → ScanVerdict IsEnding version_end (50 ∷ text)
    after_two [] = stuck Two (codes "2") (codes " ") [] refl two (λ other. refl)
    after_two (b ∷ text) = elim (cases_eq b 32) [
      | inl space ↦ rw space (found Two (codes "2 ") text refl two)
      | inr other ↦ stuck Two (codes "2") (codes " ") (b ∷ text) refl two (λ more. rw (ne_eqb b 32 other) refl)
    ]

    verdict : (text : List ℕ) → ScanVerdict IsEnding version_end text
    verdict [] = stuck One [] (codes " ") [] refl one (λ other. refl)
    verdict (b ∷ text) = elim (cases_eq b 32) [
      | inl space ↦ rw space (found One (codes " ") text refl one)
      | inr other ↦ elim (cases_eq b 50) [
        | inl digit ↦ rw digit (after_two text)
        | inr apart ↦
            stuck One [] (codes " ") (b ∷ text) refl one (λ more. rw (ne_eqb b 32 other, ne_eqb b 50 apart) refl)
      ]
    ]

abbrev opening : Version → List ℕ
opening version = codes "order" ++ version_ending version

version_reads : Scans (λ version text. text ≡ opening version) version_at
unfolding version_at
version_reads = then_reads (word_reads (codes "order")) (λ _. version_end_reads) (λ _ version s t w e. rw (w, e) refl)

-- the numbers that a first line states, and its text
abbrev pub IsFirstLine : Spelling (ℕ × Option ℕ)
IsFirstLine head text = IsHead head.0 head.1 × (text ≡ first_line head.0 head.1)

counts_read : (version : Version) → Scans (λ head text. IsFirstLine head (opening version ++ text)) (counts_at version)
counts_read One = map_reads (λ n. (n, None)) (number_reads 1 MOST_JOBS 10 (lit≤ tt) (lit≤ tt) (lit< tt) (lit< tt))
    (λ n text (within, e). (record { some = within.0; few = within.1; stated = tt }, rw e refl))
counts_read Two = then_joined (number_reads 1 MOST_JOBS 32 (lit≤ tt) (lit≤ tt) (lit< tt) (lit< tt)) (λ n.
    map_reads (λ m. (n, Some m)) (number_reads 1 MOST_MACHINES 10 (lit≤ tt) (lit≤ tt) (lit< tt) (lit< tt))
    (λ m text (stated, e) s (within, f).
    (record { some = within.0; few = within.1; stated = stated }, rw (e, f) (simp append_assoc))))

first_line_reads : Scans IsFirstLine first_line_at
unfolding first_line_at
first_line_reads = then_reads version_reads counts_read (λ version head s t o (h, e). (h, rw o e))

-- a first line is read, with any bytes after it
first_line_found : (n : ℕ) (machines : Option ℕ) → IsHead n machines → (other : List ℕ)
    → first_line_at (first_line n machines ++ other) ≡ Ok ((n, machines), other)
unfolding first_line_at version_at version_end word_at byte_at
first_line_found n None h other =
    let jobs = number_ends 1 MOST_JOBS 10 (lit≤ tt) (lit≤ tt) (lit< tt) (lit< tt) n (h.some, h.few) other in
    rw (append_assoc (decimal n) (10 ∷ []) other, jobs) refl
first_line_found n (Some m) h other =
    let machines = number_ends 1 MOST_MACHINES 10 (lit≤ tt) (lit≤ tt) (lit< tt) (lit< tt) m h.stated other in
    let jobs = number_ends 1 MOST_JOBS 32 (lit≤ tt) (lit≤ tt) (lit< tt) (lit< tt) n (h.some, h.few) in
    let joined = append_assoc (decimal n) (32 ∷ decimal m) in
    rw (joined, append_assoc (decimal n) _ other, append_assoc _ (10 ∷ []) other, jobs _, machines) refl

-- ---- the jobs

-- each job with the byte after it
abbrev row : List ℕ → List ℕ
row [] = []
row (job ∷ jobs) = decimal job ++ job_end (length jobs) ∷ row jobs

row_is : (jobs : List ℕ) → 1 ≤ length jobs → with_line_end (spaced jobs) ≡ row jobs
row_is [] h = absurd (omega arith)
row_is (job ∷ []) h = refl
row_is (job ∷ next ∷ jobs) h = let rest = row_is (next ∷ jobs) (omega arith) in rw (append_assoc, rest)

no_digit : (more : ℕ) → job_end more < 48
no_digit zero = lit< tt
no_digit (suc more) = lit< tt

row_reads : (count : ℕ)
    → Scans (λ jobs text. (length jobs ≡ count) × All IsShort jobs × (text ≡ row jobs)) (jobs_at count)
unfolding jobs_at
row_reads zero = none_reads [] (refl, All-nil IsShort, refl)
row_reads (suc more) =
    then_joined (number_reads 0 (10 ^ 9 - 1) (job_end more) (lit≤ tt) (lit≤ tt) (lit< tt) (no_digit more)) (λ job.
    map_reads (λ others. job ∷ others) (row_reads more) (λ others line (size, short, l) s (within, e).
    (ap suc size, All-cons IsShort job others (omega (arith, within.1)) short, rw (e, l, append_assoc, size) refl)))

row_found : (jobs other : List ℕ) → All IsShort jobs → jobs_at (length jobs) (row jobs ++ other) ≡ Ok (jobs, other)
unfolding jobs_at
row_found [] other h = refl
row_found (job ∷ jobs) other h =
    let small = All-head IsShort job jobs h in
    let first = number_ends 0 (10 ^ 9 - 1) _ (lit≤ tt) (lit≤ tt) (lit< tt) (no_digit (length jobs)) job in
    let line = row_found jobs other (All-tail IsShort job jobs h) in
    rw (append_assoc, first (omega arith, omega arith) (row jobs ++ other), line) refl

-- ---- the last line

makespan_reads :
    Scans (λ makespan text. (makespan < 10 ^ 18) × (text ≡ named_number (codes "makespan") makespan)) makespan_at
unfolding makespan_at
makespan_reads = then_reads (word_reads (codes "makespan "))
    (λ _. number_reads 0 (10 ^ 18 - 1) 10 (lit≤ tt) (lit≤ tt) (lit< tt) (lit< tt))
    (λ _ makespan s t w (within, e). (omega (arith, within.1), rw (w, e) refl))

makespan_found : (makespan : ℕ) → makespan < 10 ^ 18 → (other : List ℕ)
    → makespan_at (named_number (codes "makespan") makespan ++ other) ≡ Ok (makespan, other)
unfolding makespan_at word_at byte_at
makespan_found makespan small other =
    let number = number_ends 0 (10 ^ 18 - 1) 10 (lit≤ tt) (lit≤ tt) (lit< tt) (lit< tt) makespan in
    rw (append_assoc (decimal makespan) (10 ∷ []) other, number (omega arith, omega arith) other) refl

-- ---- the whole

pub text_parts : (jobs : List ℕ) (machines : Option ℕ) (makespan : ℕ) → order_text jobs machines makespan
    ≡ first_line (length jobs) machines ++ (with_line_end (spaced jobs) ++ named_number (codes "makespan") makespan)
unfolding order_text
text_parts jobs machines makespan = append_assoc (first_line (length jobs) machines) (with_line_end (spaced jobs))
    (named_number (codes "makespan") makespan)

lines_read : Scans (λ stated text. HasText text stated.0 stated.1 stated.2) lines_at
unfolding lines_at
lines_read = then_joined first_line_reads (λ head. then_joined (row_reads head.0) (λ jobs.
    map_reads (λ makespan. (jobs, head.1, makespan)) makespan_reads
    (λ makespan last (small, m) line (size, short, l) first (h, f).
    let some = h.some in
    let few = h.few in
    let is_row = row_is jobs (omega arith) in
    record {
      some_job = omega arith;
      few_jobs = omega arith;
      short_jobs = short;
      stated_machines = h.stated;
      short_makespan = small;
      spelled = rw (f, l, m, text_parts, size, is_row) refl;
    })))

-- ---- a text is of the grammar, or has a syntax fault

text_read : {text jobs : List ℕ} {machines : Option ℕ} {makespan : ℕ} → HasText text jobs machines makespan
    → (other : List ℕ) → lines_at (text ++ other) ≡ Ok ((jobs, machines, makespan), other)
unfolding lines_at
text_read {text} {jobs} {machines} {makespan} h other =
    let head : IsHead (length jobs) machines =
    record { some = h.some_job; few = h.few_jobs; stated = h.stated_machines } in
    let first = first_line_found (length jobs) machines head in
    let is_row = row_is jobs h.some_job in
    let last = makespan_found makespan h.short_makespan other in
    rw (
      h.spelled,
      text_parts,
      is_row,
      append_assoc (first_line (length jobs) machines) _ other,
      append_assoc (row jobs) _ other,
      first,
      row_found jobs _ h.short_jobs,
      last,
    ) refl

text_alone : {text jobs : List ℕ} {machines : Option ℕ} {makespan : ℕ} → HasText text jobs machines makespan
    → lines_at text ≡ Ok ((jobs, machines, makespan), [])
text_alone h = rw append-nil at (text_read h [])

-- a text is that of one list of jobs, one number of machines or none, and one makespan
pub one_text : {text jobs others : List ℕ} {machines stated : Option ℕ} {makespan other : ℕ}
    → HasText text jobs machines makespan → HasText text others stated other
    → (jobs ≡ others) × (machines ≡ stated) × (makespan ≡ other)
one_text {text} h k =
    let same = same_read _ _ lines_at text (text_alone h) (text_alone k) in
    (ap (λ r. r.0.0) same, ap (λ r. r.0.1) same, ap (λ r. r.0.2) same)

pub text_of_read : (text : List ℕ) (stated : List ℕ × Option ℕ × ℕ) → lines_at text ≡ Ok (stated, [])
    → HasText text stated.0 stated.1 stated.2
text_of_read text stated = spells_read lines_read text stated

-- nothing follows the last line
pub text_ends : (text more : List ℕ) (b : ℕ) → IsText text → ¬ IsText (text ++ b ∷ more)
text_ends text more b (jobs, (machines, (makespan, h))) (others, (stated, (other, k))) =
    let same = same_read _ _ lines_at (text ++ b ∷ more) (text_read h (b ∷ more)) (text_alone k) in
    let none : b ∷ more ≡ [] = ap (λ r. r.1) same in absurd (cc)

pub more_fault : (text more : List ℕ) (b : ℕ) → IsText text → IsSyntaxFault (text ++ b ∷ more) (length text)
more_fault text more b h =
    fault_where_front_ends IsText text (b ∷ more) ([], rw append-nil h) (λ other. text_ends text other b h)

-- what is read of a whole text; or its fault, if it can't be read to its end
pub data TextRead (text : List ℕ) : Type 0 where
  read_whole : (jobs : List ℕ) (machines : Option ℕ) (makespan : ℕ) → HasText text jobs machines makespan
      → text_at text ≡ Ok ((jobs, machines, makespan), []) → TextRead text
  read_to : (front rest : List ℕ) → text ≡ front ++ rest → IsSyntaxFault text (length front)
      → text_at text ≡ Err rest → TextRead text

pub text_is_read : (text : List ℕ) → TextRead text
text_is_read text = elim (lines_read.verdict text) [
  | found stated front [] whole l ↦
      let e : text ≡ front = rw append-nil at whole in
      let read : lines_at front ≡ Ok (stated, []) = rw append-nil at (l.read []) in
      rw e (read_whole stated.0 stated.1 stated.2 l.spelled (rw read refl))
  | found stated front (b ∷ more) whole l ↦
      let text : IsText front = (stated.0, (stated.1, (stated.2, l.spelled))) in
      rw whole (read_to front (b ∷ more) refl (more_fault front more b text) (rw (l.read (b ∷ more)) refl))
  | stuck stated front more after whole l stops ↦
      let (other, same) = with_tail-same after in
      let fault = fault_where_front_ends IsText front after (more, (stated.0, (stated.1, (stated.2, l.spelled))))
      (λ tail (jobs, (machines, (makespan, k))). let e = sym (text_alone k) ∙ stops tail in absurd (cc)) in
      rw whole (read_to front after refl fault (rw (rw same at (stops other)) refl))
]
