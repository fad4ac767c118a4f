use Rattle.std.proofs.Common.{codes, refl}
use Rattle.clap.proofs.OnLiterals.{clap_on_literals}
use Rattle.pfs_words.proofs.JobLemmas.{rejected, rejected_by_form, some_names}
use Rattle.pfs_words.proofs.examples.lines_rejected.Goals as goal

pub returns : goal.returns
unfolding clap_on_literals
returns c = record {
  no_command = rejected some_names _ _ refl refl (λ (form, named, found). cc);
  no_layout = rejected_by_form some_names (codes "value") _ refl refl refl (λ none. cc);
  unknown_layout = rejected_by_form some_names (codes "value") _ refl refl refl (λ none. cc);
  block_1001 = rejected_by_form some_names (codes "value") _ refl refl refl (λ none. cc);
  help = rejected_by_form some_names (codes "value") _ refl refl refl (λ none. cc);
  jobs_5001 = rejected_by_form some_names (codes "generate") _ refl refl refl (λ none. cc);
}
