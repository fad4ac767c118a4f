-- What is known of clap's parse of a command's arguments. Only contracts of private functions cite these definitions.
use Rattle.std.specs.Prelude.{◌≡◌, true, List, [], Some, Result, Err, IfOk}
use Rattle.clap.specs.Words.{Text, app_of, fault_of, first_of, found_of, is_simple_and_free, rows_of}
use Rattle.clap.specs.Built.{IsParsedFrom}
use Rattle.clap.specs.Simple.{HasMatchesOf}
use Rattle.clap.specs.Values.{IsUnsignedIn}
use Rattle.clap.specs.declared.builder.command.Command.{Command}
use Rattle.clap.specs.declared.parser.matches.ArgMatches.{ArgMatches}
use Rattle.pfs_layout.specs.declared.layout.Layout.{Layout}
use Rattle.pfs_words.specs.Jobs.{AsksFor, AsksForNothing, IsWithinLimits, SaysLayout, SaysText}
use Rattle.pfs_words.specs.declared.job.Job.{Job}
use Rattle.pfs_words.specs.declared.usage.UsageFault.{UsageFault}
use Rattle.pfs_words.specs.declared.usage.UsageFault.TheVariants.{Usage}

-- clap parsed the arguments `words` by `command`, with the result `matches`
pub record IsParseOf (command : Command) (words : List Text) (matches : ArgMatches) : Type 0 where
  pub facts : IsParsedFrom command matches
  pub rows : HasMatchesOf (app_of command) words matches
  pub faultless : is_simple_and_free (app_of command) ≡ true → fault_of (app_of command) words ≡ []

-- the first value of `id` is some text
abbrev pub HasTextAt : ArgMatches → Text → Type 0
HasTextAt matches id = (text : Text) × SaysText (rows_of (found_of matches)) id text

-- the first value of `id` names a layout
abbrev pub HasLayout : ArgMatches → Text → Type 0
HasLayout matches id = (layout : Layout) × SaysLayout (rows_of (found_of matches)) id layout

-- the first value of `id` is a numeral of a 64-bit number
abbrev pub HasNumber : ArgMatches → Text → Type 0
HasNumber matches id = (text : Text) × (first_of id (rows_of (found_of matches)) ≡ Some text)
    × IsUnsignedIn 0 18446744073709551615 text

-- if `id` has a value, the first is a numeral of a 64-bit number
abbrev pub MayHaveNumber : ArgMatches → Text → Type 0
MayHaveNumber matches id = (text : Text) → first_of id (rows_of (found_of matches)) ≡ Some text
    → IsUnsignedIn 0 18446744073709551615 text

-- what the function that plans a command returns for its name and the arguments after it: a job that they ask for, or
-- `Usage` only if they ask for none
pub record Plans (word : Text) (words : List Text) (result : Result Job UsageFault) : Type 0 where
  pub job : IfOk result (AsksFor word words)
  pub within : IfOk result IsWithinLimits
  pub usage : result ≡ Err Usage → AsksForNothing word words
