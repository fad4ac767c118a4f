-- What an order file states, computed from its bytes from left to right.
use Rattle.std.specs.Prelude.{◌≡◌, ℕ, zero, suc, ◌+◌, ◌-◌, ◌*◌, ◌≤◌, ◌^◌, List, [], ◌∷◌, ◌++◌, length, drop}
use Rattle.std.specs.Prelude.{slice_index}
use Rattle.std.specs.Prelude.{codes, Option, Some, None, Result, Ok, Err, nat_lt, nat_le, nat_eq, ◌==◌, ◌&&◌, ◌||◌}
use Rattle.std.specs.Prelude.{if◌then◌else◌, ◌⊎◌, ◌<◌}
use Rattle.std.specs.Io.KnownBytes.{Consumes}
use Rattle.std.specs.List.{list_any}
use Rattle.pfs_base.specs.declared.limits.TheConstants.{MOST_JOBS, MOST_MACHINES}
use Rattle.pfs_order.specs.declared.fault.OrderFault.{OrderFault}
use Rattle.pfs_order.specs.declared.fault.OrderFault.TheVariants.{Syntax, JobRange, Repeated, Memory}
use Rattle.pfs_order.specs.declared.reading.Version.{Version}
use Rattle.pfs_order.specs.declared.reading.Version.TheVariants.{One, Two}
use Rattle.pfs_order.specs.Sequence.{Sequence, StatedOrder, AreMachines}
use Rattle.pfs_order.specs.OrderFile.{IsText}

-- what is read at the start of a text, and the rest of the text; or the text from the first byte that doesn't fit
abbrev pub Scan : Type 0 → Type 0
Scan A = List ℕ → Result (A × List ℕ) (List ℕ)

abbrev pub then_read : {A B : Type 0} → (A → Scan B) → Result (A × List ℕ) (List ℕ) → Result (B × List ℕ) (List ℕ)
then_read next (Ok (read, rest)) = next read rest
then_read next (Err rest) = Err rest

abbrev pub and_then : {A B : Type 0} → Scan A → (A → Scan B) → Scan B
and_then scan next text = then_read next (scan text)

infixl 10 ◌>>=◌
abbrev pub ◌>>=◌ : {A B : Type 0} → Scan A → (A → Scan B) → Scan B
scan >>= next = and_then scan next

abbrev pub yields : {A : Type 0} → A → Scan A
yields read text = Ok (read, text)

unfoldable pub byte_at : ℕ → Scan (Unit {0})
byte_at c [] = Err []
byte_at c (b ∷ text) = if b == c then Ok (tt, text) else Err (b ∷ text)

unfoldable pub word_at : List ℕ → Scan (Unit {0})
word_at [] = yields tt
word_at (c ∷ word) = byte_at c >>= λ _. word_at word

-- the number with one more digit; no digit follows 0
abbrev pub with_value : Option ℕ → ℕ → Option ℕ
with_value None digit = Some digit
with_value (Some zero) digit = None
with_value (Some (suc n)) digit = Some (suc n * 10 + digit)

unfoldable pub with_digit : Option ℕ → ℕ → Option ℕ
with_digit number byte = if nat_le 48 byte && nat_le byte 57 then with_value number (byte - 48) else None

-- the same, within a range
abbrev pub if_within : ℕ → ℕ → Option ℕ → Option ℕ
if_within least most None = None
if_within least most (Some n) = if nat_le least n && nat_le n most then Some n else None

unfoldable pub longer : ℕ → ℕ → Option ℕ → ℕ → Option ℕ
longer least most number byte = if_within least most (with_digit number byte)

-- the number, if this byte ends it
abbrev pub ended : Option ℕ → ℕ → ℕ → Option ℕ
ended number byte end = if byte == end then number else None

abbrev pub or_else : {A : Type 0} → Option ℕ → (ℕ → A) → A → A
or_else None some none = none
or_else (Some n) some none = some n

-- the number of a numeral of which `number` has been read, up to the byte that ends it
unfoldable pub numeral_on : ℕ → ℕ → ℕ → Option ℕ → Scan ℕ
numeral_on least most end number [] = Err []
numeral_on least most end number (byte ∷ text) = or_else (ended number byte end) (λ n. Ok (n, text))
    (or_else (longer least most number byte) (λ n. numeral_on least most end (Some n) text) (Err (byte ∷ text)))

abbrev pub numeral_at : ℕ → ℕ → ℕ → Scan ℕ
numeral_at least most end = numeral_on least most end None

-- ---- the lines

-- version 1 has a space after its name, and version 2 a digit 2 and a space
unfoldable pub version_end : Scan Version
version_end text =
    if slice_index text 0 == 32 then Ok (One, drop 1 text) else (word_at (codes "2 ") >>= λ _. yields Two) text

unfoldable pub version_at : Scan Version
version_at = word_at (codes "order") >>= λ _. version_end

abbrev pub counts_at : Version → Scan (ℕ × Option ℕ)
counts_at One = numeral_at 1 MOST_JOBS 10 >>= λ jobs. yields (jobs, None)
counts_at Two =
    numeral_at 1 MOST_JOBS 32 >>= λ jobs. numeral_at 1 MOST_MACHINES 10 >>= λ machines. yields (jobs, Some machines)

unfoldable pub first_line_at : Scan (ℕ × Option ℕ)
first_line_at = version_at >>= counts_at

-- the byte after a job, by how many jobs follow it
abbrev pub job_end : ℕ → ℕ
job_end zero = 10
job_end (suc more) = 32

unfoldable pub jobs_at : ℕ → Scan (List ℕ)
jobs_at zero = yields []
jobs_at (suc more) =
    numeral_at 0 (10 ^ 9 - 1) (job_end more) >>= λ job. jobs_at more >>= λ others. yields (job ∷ others)

unfoldable pub makespan_at : Scan ℕ
makespan_at = word_at (codes "makespan ") >>= λ _. numeral_at 0 (10 ^ 18 - 1) 10

unfoldable pub lines_at : Scan (List ℕ × Option ℕ × ℕ)
lines_at = first_line_at >>= λ head. jobs_at head.0 >>= λ jobs. makespan_at >>= λ makespan.
    yields (jobs, head.1, makespan)

abbrev pub end_at : Scan (Unit {0})
end_at [] = Ok (tt, [])
end_at (b ∷ text) = Err (b ∷ text)

abbrev pub text_at : Scan (List ℕ × Option ℕ × ℕ)
text_at = lines_at >>= λ lines. end_at >>= λ _. yields lines

-- ---- the jobs, whose numbers count from 1

unfoldable pub take_job : Sequence → ℕ → Result Sequence OrderFault
take_job seq number =
    if nat_lt number 1 || nat_lt seq.size number then Err (JobRange (length seq.jobs + 1))
    else if list_any (nat_eq (number - 1)) seq.jobs then Err (Repeated (length seq.jobs + 1))
    else Ok (record seq { jobs = seq.jobs ++ (number - 1) ∷ [] })

abbrev pub on_ok : {A B : Type 0} → (A → Result B OrderFault) → Result A OrderFault → Result B OrderFault
on_ok next (Ok a) = next a
on_ok next (Err fault) = Err fault

unfoldable pub take_jobs : List ℕ → Sequence → Result Sequence OrderFault
take_jobs [] seq = Ok seq
take_jobs (number ∷ numbers) seq = on_ok (take_jobs numbers) (take_job seq number)

abbrev pub none_of : ℕ → Sequence
none_of size = record { size = size; jobs = [] }

-- ---- the verdict

abbrev pub validated : List ℕ → Result ((List ℕ × Option ℕ × ℕ) × List ℕ) (List ℕ) → Result StatedOrder OrderFault
validated text (Err rest) = Err (Syntax (length text - length rest))
validated text (Ok ((jobs, machines, makespan), rest)) =
    on_ok (λ seq. Ok (record { order = seq.jobs; machines = machines; makespan = makespan }))
    (take_jobs jobs (none_of (length jobs)))

-- what a text states, or why it is rejected
unfoldable pub read_text : List ℕ → Result StatedOrder OrderFault
read_text text = validated text (text_at text)

-- ---- what functions return

-- the fault has the offset of the first byte that doesn't fit
pub record Stops {A : Type 0} (text : List ℕ) (fault : OrderFault) (read : Result (A × List ℕ) (List ℕ)) : Type 0 where
  pub offset : ℕ
  pub syntax : fault ≡ Syntax offset
  pub stops : read ≡ Err (drop offset text)
  pub within : offset ≤ length text

-- what a function returned, viewed as a value and the offset where the text continues, is what is read
abbrev pub Gives : {X A : Type 0} → List ℕ → (X → A × ℕ) → Result X OrderFault → Result (A × List ℕ) (List ℕ) → Type 0
Gives text view (Ok x) read = (read ≡ Ok ((view x).0, drop (view x).1 text)) × ((view x).1 ≤ length text)
Gives text view (Err fault) read = Stops text fault read

-- an order, or the fault of the first wrong job, unless memory allocation fails
abbrev pub Orders : List ℕ → Result (List ℕ) OrderFault → Type 0
Orders jobs (Ok order) = take_jobs jobs (none_of (length jobs)) ≡ Ok (record { size = length jobs; jobs = order })
Orders jobs (Err fault) = (fault ≡ Memory) ⊎ (take_jobs jobs (none_of (length jobs)) ≡ Err fault)

-- the verdict on a text, unless memory allocation fails, which is tried only for a text of the grammar
abbrev pub ValidatesText : List ℕ → Result StatedOrder OrderFault → Type 0
ValidatesText text (Ok file) = read_text text ≡ Ok file
ValidatesText text (Err fault) = ((fault ≡ Memory) × IsText text) ⊎ (read_text text ≡ Err fault)

-- the numbers of jobs and machines that a first line may state
pub record IsHead (count : ℕ) (machines : Option ℕ) : Type 0 where
  pub some : 1 ≤ count
  pub few : count ≤ MOST_JOBS
  pub stated : AreMachines machines

-- fewer than `room` bytes were read
abbrev pub FillsBelow : ℕ → Option (List ℕ) → Option (List ℕ) → Type 0
FillsBelow room old new = (front : List ℕ) × ((length front < room) × Consumes old new front)
