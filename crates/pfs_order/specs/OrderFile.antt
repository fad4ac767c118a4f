-- Which inputs are order files, and how the others are rejected. In a file, job numbers and places count from 1.
use Rattle.std.specs.Prelude.{◌≡◌, ◌≢◌, ⊤, ℕ, ◌+◌, ◌<◌, ◌≤◌, ◌^◌, List, [], ◌++◌, length, map, take, slice_index, ◌⊎◌}
use Rattle.std.specs.Prelude.{Option, Some, Result, Err}
use Rattle.std.specs.List.{All, Contains}
use Rattle.pfs_base.specs.declared.limits.TheConstants.{MOST_JOBS, LONGEST_ORDER_FILE}
use Rattle.pfs_order.specs.declared.fault.OrderFault.{OrderFault}
use Rattle.pfs_order.specs.declared.fault.OrderFault.TheVariants.{Syntax, JobRange, Repeated, TooLong, Read, Memory}
use Rattle.pfs_order.specs.OrderText.{order_text}
use Rattle.pfs_order.specs.Sequence.{IsSequence, StatedOrder, AreMachines}

-- the text is that of these job numerals, of at most nine digits each, these machines or none, and this
-- makespan; the values of the jobs may be wrong
pub record HasText (text jobs : List ℕ) (machines : Option ℕ) (makespan : ℕ) : Type 0 where
  pub some_job : 1 ≤ length jobs
  pub few_jobs : length jobs ≤ MOST_JOBS
  pub short_jobs : All (λ job. job < 10 ^ 9) jobs
  pub stated_machines : AreMachines machines
  pub short_makespan : makespan < 10 ^ 18
  pub spelled : text ≡ order_text jobs machines makespan

-- a text of the grammar, in one of the versions
abbrev pub IsText : List ℕ → Type 0
IsText text = (jobs : List ℕ) × ((machines : Option ℕ) × ((makespan : ℕ) × HasText text jobs machines makespan))

-- some text of a grammar begins with this prefix
abbrev pub CanBeCompleted : (List ℕ → Type 0) → List ℕ → Type 0
CanBeCompleted grammar front = (rest : List ℕ) × grammar (front ++ rest)

-- the input is not a text of a grammar, and its longest prefix that can be completed has this length
pub record IsFaultOf (grammar : List ℕ → Type 0) (input : List ℕ) (offset : ℕ) : Type 0 where
  pub no_text : ¬ grammar input
  pub within : offset ≤ length input
  pub completed : CanBeCompleted grammar (take offset input)
  pub longest : (n : ℕ) → n ≤ length input → CanBeCompleted grammar (take n input) → n ≤ offset

-- the same for the grammar of order files
abbrev pub IsSyntaxFault : List ℕ → ℕ → Type 0
IsSyntaxFault input offset = IsFaultOf IsText input offset

-- the number of the job at an index is at least 1 and at most the number of jobs
abbrev pub IsJob : List ℕ → ℕ → Type 0
IsJob jobs i = (1 ≤ slice_index jobs i) × (slice_index jobs i ≤ length jobs)

-- the job at an index is also before it
abbrev pub IsRepeated : List ℕ → ℕ → Type 0
IsRepeated jobs i = Contains (take i jobs) (slice_index jobs i)

-- the index is that of a job, and no job before it is wrong
pub record AreRightBefore (jobs : List ℕ) (i : ℕ) : Type 0 where
  pub within : i < length jobs
  pub in_range : (k : ℕ) → k < i → IsJob jobs k
  pub distinct : (k : ℕ) → k < i → ¬ IsRepeated jobs k

-- the fault of the first wrong job; out of range is reported before repeated
abbrev pub IsJobFault : List ℕ → OrderFault → Type 0
IsJobFault jobs (JobRange place) = (i : ℕ) × ((place ≡ i + 1) × AreRightBefore jobs i × ¬ IsJob jobs i)
IsJobFault jobs (Repeated place) = (i : ℕ) × ((place ≡ i + 1) × AreRightBefore jobs i × IsJob jobs i
    × IsRepeated jobs i)
IsJobFault jobs _ = ⊥

-- the input is a text of the grammar whose jobs have this fault
abbrev pub HasJobFault : List ℕ → OrderFault → Type 0
HasJobFault input fault = (jobs : List ℕ) × ((machines : Option ℕ) × ((makespan : ℕ)
    × (HasText input jobs machines makespan × IsJobFault jobs fault)))

-- how the whole input is rejected; a failed read and failed memory allocation say nothing of it
abbrev pub RejectsOrder : List ℕ → OrderFault → Type 0
RejectsOrder input TooLong = LONGEST_ORDER_FILE < length input
RejectsOrder input (Syntax offset) = (length input ≤ LONGEST_ORDER_FILE) × IsSyntaxFault input offset
RejectsOrder input (JobRange place) = HasJobFault input (JobRange place)
RejectsOrder input (Repeated place) = HasJobFault input (Repeated place)
RejectsOrder input Read = ⊥
RejectsOrder input Memory = ⊥

-- the whole input is the text of an order of all jobs, which count from 0 in `order` and from 1 in the input,
-- of a number of machines or none, and of a makespan
pub record IsOrderFile (input : List ℕ) (file : StatedOrder) : Type 0 where
  pub is_order : IsSequence (length file.order) file.order
  pub has_text : HasText input (map (λ job. job + 1) file.order) file.machines file.makespan

-- how an input is rejected, unless a failed read or failed memory allocation is reported, which say nothing of it
abbrev pub RejectsUnlessFailed : List ℕ → OrderFault → Type 0
RejectsUnlessFailed input Read = ⊤
RejectsUnlessFailed input Memory = ⊤
RejectsUnlessFailed input fault = RejectsOrder input fault

-- this is the result, unless a failed read or failed memory allocation is reported
abbrev pub IsUnlessFailed : Result StatedOrder OrderFault → Result StatedOrder OrderFault → Type 0
IsUnlessFailed result returned = (result ≡ returned) ⊎ ((result ≡ Err Read) ⊎ (result ≡ Err Memory))

-- how far the bytes of an input were read, with this fault if any: to their end, or to the one byte after the
-- longest order file, or, if a read failed, to any byte before that one; failed memory allocation is reported
-- only for a text of the grammar
pub record ReadsOrderAsFar (bytes : List ℕ) (left : Option (List ℕ)) (fault : Option OrderFault) : Type 0 where
  pub front : List ℕ
  pub rest : List ℕ
  pub whole : bytes ≡ front ++ rest
  pub leaves : left ≡ Some rest
  pub few : length front ≤ LONGEST_ORDER_FILE + 1
  pub failed : fault ≡ Some Read → length front ≤ LONGEST_ORDER_FILE
  pub too_long : fault ≡ Some TooLong → length front ≡ LONGEST_ORDER_FILE + 1
  pub ended : fault ≢ Some Read → fault ≢ Some TooLong → rest ≡ []
  pub memory : fault ≡ Some Memory → IsText bytes
