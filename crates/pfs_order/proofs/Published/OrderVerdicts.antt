-- One input, one verdict.
use Rattle.std.proofs.Common.{◌≡◌, ℕ, ◌+◌, ◌-◌, ◌*◌, ◌<◌, ◌≤◌, ◌^◌, ◌⊎◌, inl, inr, List, [], ◌∷◌, ◌++◌}
use Rattle.std.proofs.Common.{length, take, drop, map, get_or, refl, sym, ◌∙◌, ap, arith, lit≤, lit<, Option}
use Rattle.std.proofs.Common.{Some, None}
use Rattle.std.specs.Fmt.{decimal}
use Rattle.std.specs.List.{All}
use Rattle.std.proofs.lemmas.Bool.{cases_order, cases_lt, lt-ltb, le-ltb}
use Rattle.std.proofs.lemmas.Fmt.{length-decimal-le_wide}
use Rattle.std.proofs.lemmas.List.{append-nil, length-append, length-take-le, take-append-drop, drop_more}
use Rattle.std.proofs.lemmas.List.Elements.{All-head, All-tail, All-map, All-weaker}
use Rattle.pfs_base.specs.Limits.{limits}
use Rattle.pfs_base.specs.declared.limits.TheConstants.{MOST_JOBS, LONGEST_ORDER_FILE}
use Rattle.pfs_order.specs.declared.fault.OrderFault.{OrderFault}
use Rattle.pfs_order.specs.declared.fault.OrderFault.TheVariants.{Syntax, JobRange, Repeated, TooLong}
use Rattle.pfs_base.specs.Text.{spaced}
use Rattle.pfs_order.specs.OrderText.{file_text, first_line}
use Rattle.pfs_order.specs.Sequence.{StatedOrder, IsSequence, IsSize, AreMachines}
use Rattle.pfs_order.specs.OrderFile.{IsText, IsSyntaxFault, IsJob, IsRepeated, AreRightBefore, IsJobFault}
use Rattle.std.specs.Prelude.{Result, Ok, Err, nat_lt, if◌then◌else◌}
use Rattle.pfs_order.specs.Sequence.{Sequence}
use Rattle.pfs_order.specs.Private.Reading.{read_text, on_ok, take_jobs, none_of}
use Rattle.pfs_order.specs.OrderFile.{HasText, HasJobFault, RejectsOrder, IsOrderFile}
use Rattle.pfs_order.proofs.Faults.{fault_where_front_ends}
use Rattle.pfs_order.proofs.Grammar.{IsShort, text_parts, one_text, text_ends, TextRead, read_whole, read_to}
use Rattle.pfs_order.proofs.Grammar.{text_is_read}
use Rattle.pfs_order.proofs.JobOrders.{numbered, length-numbered, number_in_range, number_is_new, ValidatesJobs}
use Rattle.pfs_order.proofs.JobOrders.{jobs_validated}

-- ---- the length of a text

length-decimal : (n : ℕ) → n < 10 ^ 18 → length (decimal n) ≤ 18
length-decimal n h = length-decimal-le_wide 18 n (lit< tt) h (omega arith)

length-spaced : (jobs : List ℕ) → All IsShort jobs → length (spaced jobs) ≤ 10 * length jobs
length-spaced [] h = lit≤ tt
length-spaced (job ∷ []) h = grind (arith, length-decimal-le_wide 9 job (lit< tt), All-head IsShort job [] h)
length-spaced (job ∷ next ∷ jobs) h =
    let rest = length-spaced (next ∷ jobs) (All-tail IsShort job (next ∷ jobs) h) in
    let short = All-head IsShort job (next ∷ jobs) h in
    grind (arith, length-append, length-decimal-le_wide 9 job (lit< tt))

length-first_line : (count : ℕ) (machines : Option ℕ) → count ≤ MOST_JOBS → AreMachines machines
    → length (first_line count machines) ≤ 60
length-first_line count None few stated = grind (arith, length-decimal count, length-append)
length-first_line count (Some m) few stated =
    let most = stated.1 in grind (arith, length-decimal count, length-decimal m, length-append)

pub text_fits : (text : List ℕ) → IsText text → length text ≤ LONGEST_ORDER_FILE
text_fits text (jobs, (machines, (makespan, h))) =
    let few = h.few_jobs in
    let first = length-first_line (length jobs) machines few h.stated_machines in
    let line = length-spaced jobs h.short_jobs in
    let last = length-decimal makespan h.short_makespan in
    rw (h.spelled, text_parts) (grind (arith, length-append))

-- ---- cut texts

pub cut_fault : (text : List ℕ) (cut : ℕ) → IsText text → cut < length text → IsSyntaxFault (take cut text) cut
cut_fault text cut h lt =
    let front : List ℕ = take cut text in
    let rest : List ℕ = drop (cut + 1) text in
    let byte : ℕ = get_or text cut 0 in
    let whole : IsText (front ++ byte ∷ rest) = rw (← drop_more text cut 0 lt, take-append-drop) h in
    let size : length front ≡ cut = length-take-le cut text (omega arith) in
    rw (append-nil front, size) at (fault_where_front_ends IsText front [] (byte ∷ rest, whole)
    (λ _ short. text_ends front rest byte (rw append-nil at short) whole))

-- ---- faults of jobs

-- the first wrong job
fault_place : (jobs : List ℕ) (fault : OrderFault) → IsJobFault jobs fault
    → (i : ℕ) × (AreRightBefore jobs i × ((¬ IsJob jobs i) ⊎ IsRepeated jobs i))
fault_place jobs (JobRange p) (i, (is, before, out)) = (i, (before, inl out))
fault_place jobs (Repeated p) (i, (is, before, within, twice)) = (i, (before, inr twice))
fault_place jobs fault f = absurd f

one_fault_place : (jobs : List ℕ) (i j : ℕ) → AreRightBefore jobs i → AreRightBefore jobs j
    → (¬ IsJob jobs i) ⊎ IsRepeated jobs i → (¬ IsJob jobs j) ⊎ IsRepeated jobs j → i ≡ j
one_fault_place jobs i j h k wrong bad = elim (cases_order i j) [
  | inl same ↦ same
  | inr (inl below) ↦ absurd (never i j k below wrong)
  | inr (inr above) ↦ absurd (never j i h above bad)
]
  where
    never : (a b : ℕ) → AreRightBefore jobs b → a < b → (¬ IsJob jobs a) ⊎ IsRepeated jobs a → ⊥
    never a b right lt (inl out) = out (right.in_range a lt)
    never a b right lt (inr twice) = right.distinct a lt twice

one_job_fault : (jobs : List ℕ) (one other : OrderFault) → IsJobFault jobs one → IsJobFault jobs other → one ≡ other
one_job_fault jobs (JobRange p) (JobRange q) (i, (e, h, w)) (j, (f, k, v)) =
    let same = one_fault_place jobs i j h k (inl w) (inl v) in let places : p ≡ q = omega arith in ap JobRange places
one_job_fault jobs (Repeated p) (Repeated q) (i, (e, h, w, x)) (j, (f, k, v, u)) =
    let same = one_fault_place jobs i j h k (inr x) (inr u) in let places : p ≡ q = omega arith in ap Repeated places
one_job_fault jobs (JobRange p) (Repeated q) (i, (e, h, w)) (j, (f, k, v, u)) =
    absurd (w (rw (one_fault_place jobs i j h k (inl w) (inr u)) v))
one_job_fault jobs (Repeated p) (JobRange q) (i, (e, h, w, x)) (j, (f, k, v)) =
    absurd (v (rw (one_fault_place jobs i j h k (inr x) (inl v)) at w))
one_job_fault jobs (JobRange p) other f g = absurd g
one_job_fault jobs (Repeated p) other f g = absurd g
one_job_fault jobs one other f g = absurd f

-- ---- rejected inputs

one_fault_of_jobs : (input : List ℕ) (one other : OrderFault) → HasJobFault input one → HasJobFault input other
    → one ≡ other
one_fault_of_jobs input one other (jobs, (machines, (makespan, (h, f)))) (others, (stated, (number, (k, g)))) =
    one_job_fault jobs one other f (rw (one_text h k).0 g)

-- a text of the grammar is rejected only for its jobs
rejected_jobs : (input : List ℕ) (fault : OrderFault) → IsText input → RejectsOrder input fault
    → HasJobFault input fault
rejected_jobs input (Syntax p) text h = absurd (h.1.no_text text)
rejected_jobs input (JobRange p) text h = h
rejected_jobs input (Repeated p) text h = h
rejected_jobs input TooLong text h = let fits = text_fits input text in absurd (omega arith)
rejected_jobs input fault text h = absurd h

-- another input is rejected for its length, or else where it can't be completed
rejected_bytes : (input : List ℕ) (p : ℕ) (fault : OrderFault) → IsSyntaxFault input p → RejectsOrder input fault
    → fault ≡ (if nat_lt LONGEST_ORDER_FILE (length input) then TooLong else Syntax p)
rejected_bytes input p (Syntax q) f (few, g) =
    let same : q ≡ p = omega (arith, f.longest q g.within g.completed, g.longest p f.within f.completed) in
    rw (le-ltb LONGEST_ORDER_FILE (length input) few, same) refl
rejected_bytes input p TooLong f h = rw (lt-ltb LONGEST_ORDER_FILE (length input) h) refl
rejected_bytes input p (JobRange q) f (_, (_, (_, (h, _)))) = absurd (f.no_text (_, (_, (_, h))))
rejected_bytes input p (Repeated q) f (_, (_, (_, (h, _)))) = absurd (f.no_text (_, (_, (_, h))))
rejected_bytes input p fault f h = absurd h

pub text_or_fault : (text : List ℕ) → IsText text ⊎ ((offset : ℕ) × IsSyntaxFault text offset)
text_or_fault text = elim (text_is_read text) [
  | read_whole jobs machines makespan h e ↦ inl (jobs, (machines, (makespan, h)))
  | read_to front rest whole f e ↦ inr (length front, f)
]

pub one_rejection : (input : List ℕ) (one other : OrderFault) → RejectsOrder input one → RejectsOrder input other
    → one ≡ other
one_rejection input one other h k = elim (text_or_fault input) [
  | inl text ↦ one_fault_of_jobs input one other (rejected_jobs input one text h) (rejected_jobs input other text k)
  | inr (p, f) ↦ rejected_bytes input p one f h ∙ sym (rejected_bytes input p other f k)
]

-- ---- orders

pub not_both : (input : List ℕ) (file : StatedOrder) (fault : OrderFault) → IsOrderFile input file
    → ¬ RejectsOrder input fault
not_both input file fault h rejected =
    let text : IsText input = (numbered file.order, (file.machines, (file.makespan, h.has_text))) in
    let (jobs, (machines, (makespan, (k, f)))) = rejected_jobs input fault text rejected in
    let (i, (before, wrong)) = fault_place (numbered file.order) fault (rw (one_text k h.has_text).0 at f) in
    let size = length-numbered file.order in
    let lt : i < length file.order = omega (arith, before.within) in
    let right = rw append-nil at (number_in_range (length file.order) file.order [] h.is_order i lt) in
    let new = rw append-nil at (number_is_new (length file.order) file.order [] h.is_order i lt) in
    elim wrong [ inl out ↦ out (rw size right) | inr twice ↦ new twice ]

unnumbered : (order : List ℕ) → map (λ job. job - 1) (numbered order) ≡ order
unnumbered [] = refl
unnumbered (job ∷ order) = let first : job + 1 - 1 ≡ job = omega arith in let rest = unnumbered order in cc

abbrev stated_order : List ℕ → Option ℕ → ℕ → StatedOrder
stated_order order machines makespan = record { order = order; machines = machines; makespan = makespan }

pub one_file : (input : List ℕ) (one other : StatedOrder) → IsOrderFile input one → IsOrderFile input other
    → one ≡ other
one_file input one other h k =
    let (numbers, machines, makespan) = one_text h.has_text k.has_text in
    let order : one.order ≡ other.order = rw (numbers, unnumbered) at (sym (unnumbered one.order)) in
    let same : stated_order one.order one.machines one.makespan
    ≡ stated_order other.order other.machines other.makespan = rw (order, machines, makespan) refl in same

pub written_file : (order : List ℕ) (machines : Option ℕ) (makespan : ℕ) → IsSize limits (length order)
    → IsSequence (length order) order → AreMachines machines → makespan < 10 ^ 18
    → IsOrderFile (file_text order machines makespan)
    (record { order = order; machines = machines; makespan = makespan })
written_file order machines makespan size h stated small =
    let some = size.some in
    let few = size.few in
    let same = length-numbered order in
    let short : (job : ℕ) → job < length order → IsShort (job + 1) = λ job lt. omega arith in
    record {
      is_order = h;
      has_text = record {
        some_job = omega arith;
        few_jobs = omega arith;
        short_jobs = All-map IsShort (λ job. job + 1) order (All-weaker _ _ short order h.in_range);
        stated_machines = stated;
        short_makespan = small;
        spelled = refl;
      };
    }

-- ---- what is read of a text is the verdict on it

abbrev pub OrderVerdict : List ℕ → Result StatedOrder OrderFault → Type 0
OrderVerdict text (Ok file) = IsOrderFile text file
OrderVerdict text (Err fault) = RejectsOrder text fault

job_rejected : (text jobs : List ℕ) (machines : Option ℕ) (makespan : ℕ) (fault : OrderFault)
    → HasText text jobs machines makespan → IsJobFault jobs fault → RejectsOrder text fault
job_rejected text jobs machines makespan (JobRange p) h f = (jobs, (machines, (makespan, (h, f))))
job_rejected text jobs machines makespan (Repeated p) h f = (jobs, (machines, (makespan, (h, f))))
job_rejected text jobs machines makespan fault h f = absurd f

pub text_verdict : (text : List ℕ) → length text ≤ LONGEST_ORDER_FILE → OrderVerdict text (read_text text)
unfolding read_text
text_verdict text few = of (text_is_read text)
  where
    of_jobs : (jobs : List ℕ) (machines : Option ℕ) (makespan : ℕ) → HasText text jobs machines makespan
        → (read : Result Sequence OrderFault) → ValidatesJobs jobs read
        → OrderVerdict text (on_ok (λ seq. Ok (stated_order seq.jobs machines makespan)) read)
    of_jobs jobs machines makespan h (Err fault) j = job_rejected text jobs machines makespan fault h j
    of_jobs jobs machines makespan h (Ok seq) (sequence, numbers) =
        let size : length jobs ≡ length seq.jobs = ap length numbers ∙ length-numbered seq.jobs in
        record { is_order = rw size at sequence; has_text = rw numbers at h }

    of : TextRead text → OrderVerdict text (read_text text)
    of (read_whole jobs machines makespan h e) =
        rw e (of_jobs jobs machines makespan h (take_jobs jobs (none_of (length jobs))) (jobs_validated jobs))
    of (read_to front rest whole f e) =
        let offset : length text - length rest ≡ length front =
        omega (arith, ap length whole, length-append front rest) in
        rw (e, offset) (few, f)

-- each input is an order file or is rejected
pub some_verdict : (input : List ℕ)
    → ((file : StatedOrder) × IsOrderFile input file) ⊎ ((fault : OrderFault) × RejectsOrder input fault)
some_verdict input = elim (cases_lt LONGEST_ORDER_FILE (length input)) [
  | inl long ↦ inr (TooLong, long)
  | inr few ↦ of (read_text input) (text_verdict input few)
]
  where
    of : (read : Result StatedOrder OrderFault) → OrderVerdict input read
        → ((file : StatedOrder) × IsOrderFile input file) ⊎ ((fault : OrderFault) × RejectsOrder input fault)
    of (Ok file) h = inl (file, h)
    of (Err fault) h = inr (fault, h)
