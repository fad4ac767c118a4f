use Rattle.std.proofs.Common.{arith, ◌≡◌, Bool, true, false, Result, Err}
use Rattle.std.specs.Prelude.{◌≢◌, IsErrAnd}
use Rattle.clap.specs.Words.{kind_of}
use Rattle.clap.specs.declared.error.Error.{Error}
use Rattle.clap.specs.declared.error.kind.ErrorKind.TheVariants.{OutOfMemory}
use Rattle.clap.specs.declared.parser.matches.ArgMatches.{ArgMatches}
use Rattle.pfs_words.specs.declared.usage.UsageFault.{UsageFault}
use Rattle.pfs_words.specs.declared.usage.UsageFault.TheVariants.{Memory, Usage}
use Rattle.pfs_words.proofs.planning.values.matches_for.Goals as goal

-- if the form takes the arguments, an error is not a usage fault
not_taken : (e : Error) (r : Result ArgMatches UsageFault) (taken : Bool)
    → IsErrAnd r (λ f. (kind_of e ≡ OutOfMemory → f ≡ Memory) × (kind_of e ≢ OutOfMemory → f ≡ Usage))
    → (taken ≡ true → kind_of e ≡ OutOfMemory) → r ≡ Err Usage → taken ≡ false
not_taken e r taken gives passes is = grind arith

pub returns-in_err-try_get_matches_from-clause-usage : goal.returns-in_err-try_get_matches_from-clause-usage
returns-in_err-try_get_matches_from-clause-usage c =
    not_taken c.in_err-try_get_matches_from.field-0.0 c.from_residual.result _ c.from_residual.ensures.1
    c.in_err-try_get_matches_from.ensures.passes
