-- The whole program: what its arguments ask for, its result, what its output contains, and why it stopped.
use Rattle.std.specs.Prelude.{⊤, ◌≡◌, ℕ, ◌-◌, ◌≤◌, ◌^◌, min, false, List, [], ◌∷◌, length, take, Option, None}
use Rattle.std.specs.Prelude.{Some}
use Rattle.std.specs.Prelude.{Result, Ok, Err, ◌⊎◌}
use Rattle.pfs_base.specs.declared.device.WriteFault.{WriteFault}
use Rattle.pfs_layout.specs.declared.layout.Layout.TheVariants.{Taillard}
use Rattle.pfs_words.specs.declared.job.Job.{Job}
use Rattle.pfs_words.specs.declared.job.Job.TheVariants.{Value}
use Rattle.pfs_words.specs.Jobs.{AsksFor, AsksForNothing}
use Rattle.pfs_desk.specs.declared.fault.DeskFault.TheVariants as faults
use Rattle.pfs_desk.specs.declared.fault.Outcome.{Outcome}
use Rattle.pfs_desk.specs.declared.stop.Stop.{Stop}
use Rattle.pfs_desk.specs.declared.stop.Stop.TheVariants.{Usage, Fault}
use Rattle.pfs_desk.specs.Program.{JobResult, prints, stops, Delivers, RunsJob}
use Rattle.pfs_desk.specs.ProgramText.{Reports, exit_status_of}
use Rattle.pfs_desk.specs.Uses.{FilesUse, IsUnread, SinkUse, SourceUse}

-- the arguments ask for this job; without arguments it is `value` of block 1 of standard input, in Taillard's layout
abbrev pub WordsAskFor : List (List ℕ) → Job → Type 0
WordsAskFor [] job = job ≡ Value Taillard 1 None
WordsAskFor (word ∷ others) job = AsksFor word others job

-- the program stops without a job: the arguments are invalid, or a memory allocation failed before a job was known
abbrev pub RejectsWords : List (List ℕ) → JobResult → Type 0
RejectsWords [] (stops Usage) = ⊥
RejectsWords (word ∷ others) (stops Usage) = AsksForNothing word others
RejectsWords words (stops (Fault faults.Memory)) = ⊤
RejectsWords words others = ⊥

-- the program stops without a job: it opens no file and reads nothing
pub record RunsNothing (words : List (List ℕ)) (disk : FilesUse) (input : SourceUse) (returned : JobResult)
    : Type 0 where
  pub rejected : RejectsWords words returned
  pub none_opened : disk.new_log ≡ disk.old_log
  pub unread : IsUnread input

-- the arguments ask for a job, which is run
pub record RunsFor (words : List (List ℕ)) (disk : FilesUse) (input : SourceUse) (returned : JobResult)
    : Type 0 where
  pub job : Job
  pub asks : WordsAskFor words job
  pub runs : RunsJob job disk input returned

-- what the program does for its arguments, and its result: one of the two above
abbrev pub ComesTo : List (List ℕ) → FilesUse → SourceUse → JobResult → Type 0
ComesTo words disk input returned = RunsNothing words disk input returned ⊎ RunsFor words disk input returned

-- the output is a prefix of a text, and the reported number is the prefix's length, or 2^64 - 1 if that is less
pub record IsFront (text : List ℕ) (out : Option (List ℕ)) (reported : ℕ) : Type 0 where
  pub count : ℕ
  pub within : count ≤ length text
  pub is_prefix : out ≡ Some (take count text)
  pub reported_is : reported ≡ min count (2 ^ 64 - 1)

-- a failed write is reported, and if the output was empty before (`fresh`), then it is a prefix of the text now
pub record WritesPrefix (text : List ℕ) (fresh : Type 0) (out : Option (List ℕ)) (ended : Result Outcome Stop)
    : Type 0 where
  pub fault : WriteFault
  pub reported : ended ≡ Err (Fault (faults.Write fault))
  pub front : fresh → IsFront text out fault.written

-- the output is all of the result's text, or a prefix of it if a write failed, or empty if the result has no text;
-- `fresh` says that the output was empty before
abbrev pub WritesText : Type 0 → SinkUse → JobResult → Result Outcome Stop → Type 0
WritesText fresh output (prints outcome text) ended =
    ((ended ≡ Ok outcome) × (fresh → output.new ≡ Some text)) ⊎ WritesPrefix text fresh output.new ended
WritesText fresh output (stops stop) ended =
    (ended ≡ Err stop) × (output.failed ≡ false) × (fresh → output.new ≡ Some [])

-- what the program does until it reports how it ended
abbrev pub Runs : List (List ℕ) → FilesUse → SourceUse → Type 0 → SinkUse → Result Outcome Stop → Type 0
Runs words disk input fresh output ended = Delivers (ComesTo words disk input) (WritesText fresh) output ended

-- all that the program does with files, its input, its output and its error output, up to its exit status; a failed
-- write to the error output does not change the status
pub record Ends (words : List (List ℕ)) (disk : FilesUse) (input : SourceUse) (fresh : Type 0)
    (output errors : SinkUse) (status : ℕ) : Type 0 where
  pub ended : Result Outcome Stop
  pub runs : Runs words disk input fresh output ended
  pub reported : Reports ended errors
  pub status_is : status ≡ exit_status_of ended
