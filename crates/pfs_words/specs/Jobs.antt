-- What a command line asks for. `word` is its first argument, which names a command; `words` are the others.
use Rattle.std.specs.Prelude.{◌≡◌, ◌≤◌, ◌↔◌, IsTrue, IfSome, ℕ, Bool, false, List, [], Option, Some, None, codes}
use Rattle.std.specs.Prelude.{option_map}
use Rattle.std.specs.Option.{option_map_or}
use Rattle.std.specs.Str.Parse.{digits_value, without_leading_plus}
use Rattle.clap.specs.Words.{App, Row, Text, fault_of, first_of, matches_of, takes}
use Rattle.pfs_base.specs.declared.limits.TheConstants.{MOST_BLOCKS, MOST_JOBS, MOST_MACHINES, MOST_PASSES}
use Rattle.pfs_base.specs.declared.limits.TheConstants.{MOST_ROUNDS}
use Rattle.pfs_layout.specs.declared.layout.Layout.{Layout}
use Rattle.pfs_words.specs.declared.solve_options.SolveOptions.{SolveOptions}
use Rattle.pfs_words.specs.declared.job.Job.{Job}
use Rattle.pfs_words.specs.declared.job.Job.TheVariants as job
use Rattle.pfs_words.specs.Commands.{AreLayoutNames, Names, form_of, layout_name}

-- the value of a decimal numeral, which may begin with a plus sign
abbrev pub number_said : Text → ℕ
number_said text = digits_value 10 (without_leading_plus text)

-- `rows` are the values that clap's definition gives to each argument, defaults included: the first value of `id` names
-- this layout
abbrev pub SaysLayout : List Row → Text → Layout → Type 0
SaysLayout rows id layout = first_of id rows ≡ Some (layout_name layout)

-- the first value of `id` is a numeral of this number
abbrev pub SaysNumber : List Row → Text → ℕ → Type 0
SaysNumber rows id number = option_map number_said (first_of id rows) ≡ Some number

-- the first value of `id` is a numeral of this number; `None` if `id` has no value
abbrev pub SaysMaybeNumber : List Row → Text → Option ℕ → Type 0
SaysMaybeNumber rows id number = option_map number_said (first_of id rows) ≡ number

-- `flag` is true exactly if the first value of `id` is `true`, which is the value of a flag that was used
abbrev pub SaysFlag : List Row → Text → Bool → Type 0
SaysFlag rows id flag = IsTrue flag ↔ (first_of id rows ≡ Some (codes "true"))

-- the first value of `id` is this text
abbrev pub SaysText : List Row → Text → Text → Type 0
SaysText rows id text = first_of id rows ≡ Some text

-- `rows` state the block of a file that a job reads: its layout is the value of `id`
pub record SaysBlock (rows : List Row) (id : Text) (layout : Layout) (block : ℕ) (file : Text) : Type 0 where
  pub layout_said : SaysLayout rows id layout
  pub block_said : SaysNumber rows (codes "block") block
  pub file_said : SaysText rows (codes "file") file

-- `rows` state these options of a search
pub record SaysOptions (rows : List Row) (options : SolveOptions) : Type 0 where
  pub rounds_said : SaysNumber rows (codes "rounds") options.rounds
  pub take_said : SaysMaybeNumber rows (codes "take") options.take
  pub seed_said : SaysNumber rows (codes "seed") options.seed
  pub passes_said : SaysNumber rows (codes "passes") options.passes
  pub cells_said : SaysFlag rows (codes "cells") options.cells

-- `rows` state the block and the order file of a command with both
abbrev pub SaysAudit : List Row → Layout → ℕ → Text → Text → Type 0
SaysAudit rows layout block file order_file =
    SaysBlock rows (codes "layout") layout block file × SaysText rows (codes "order") order_file

-- `rows` state the job's values. `value` needs a file here: only the command line without arguments gives `Job.Value`
-- without one
abbrev pub SaysJob : List Row → Job → Type 0
SaysJob rows (job.Value layout block None) = ⊥
SaysJob rows (job.Value layout block (Some file)) = SaysBlock rows (codes "layout") layout block file
SaysJob rows (job.Solve layout block options file) =
    SaysBlock rows (codes "layout") layout block file × SaysOptions rows options
SaysJob rows (job.Check layout block file order_file) = SaysAudit rows layout block file order_file
SaysJob rows (job.Table layout block file order_file) = SaysAudit rows layout block file order_file
SaysJob rows (job.Convert source target block file) =
    SaysBlock rows (codes "from") source block file × SaysLayout rows (codes "to") target
SaysJob rows (job.Generate jobs machines seed) = SaysNumber rows (codes "jobs") jobs
    × SaysNumber rows (codes "machines") machines × SaysNumber rows (codes "seed") seed

-- the name of the command that does a job
abbrev pub command_of : Job → Text
command_of (job.Value layout block file) = codes "value"
command_of (job.Solve layout block options file) = codes "solve"
command_of (job.Check layout block file order_file) = codes "check"
command_of (job.Table layout block file order_file) = codes "table"
command_of (job.Convert source target block file) = codes "convert"
command_of (job.Generate jobs machines seed) = codes "generate"

-- a number from 1 to `most`
abbrev pub IsFrom1To : ℕ → ℕ → Type 0
IsFrom1To most number = (1 ≤ number) × (number ≤ most)

-- rounds, passes and the destruction size, if it is stated, are within the limits
abbrev pub AreOptions : SolveOptions → Type 0
AreOptions options = (options.rounds ≤ MOST_ROUNDS) × IfSome options.take (IsFrom1To MOST_JOBS)
    × (options.passes ≤ MOST_PASSES)

-- the job's numbers are within the limits; only the seed of `Generate` may be outside the generator's range
abbrev pub IsWithinLimits : Job → Type 0
IsWithinLimits (job.Value layout block file) = IsFrom1To MOST_BLOCKS block
IsWithinLimits (job.Solve layout block options file) = IsFrom1To MOST_BLOCKS block × AreOptions options
IsWithinLimits (job.Check layout block file order_file) = IsFrom1To MOST_BLOCKS block
IsWithinLimits (job.Table layout block file order_file) = IsFrom1To MOST_BLOCKS block
IsWithinLimits (job.Convert source target block file) = IsFrom1To MOST_BLOCKS block
IsWithinLimits (job.Generate jobs machines seed) = IsFrom1To MOST_JOBS jobs × IsFrom1To MOST_MACHINES machines

-- `word` names a command, and its form takes the arguments `words`
abbrev pub takes_line : Names → Text → List Text → Bool
takes_line names word words = option_map_or (λ form. takes form words) (form_of names word) false

-- `word` names a command, and clap's definition finds no fault in the arguments `words` of its form
abbrev pub IsFaultlessLine : Names → Text → List Text → Type 0
IsFaultlessLine names word words = (form : App) × (form_of names word ≡ Some form) × (fault_of form words ≡ [])

-- the command line, `word` followed by `words`, asks for this job: `word` names the job's command, and `words` are
-- without fault and state its values
unfoldable pub AsksFor : Text → List Text → Job → Type 0
AsksFor word words job = (names : Names) × AreLayoutNames names × (word ≡ command_of job)
    × ((line : IsFaultlessLine names word words) × SaysJob (matches_of line.0 words) job)

-- the command line asks for no job: either `word` names no command, or the form of its command doesn't take `words` and
-- clap's definition finds a fault in them
unfoldable pub AsksForNothing : Text → List Text → Type 0
AsksForNothing word words = (names : Names) × AreLayoutNames names × (takes_line names word words ≡ false)
    × ¬ (IsFaultlessLine names word words)
