use Rattle.std.proofs.Common.{refl, codes, rules}
use Rattle.clap.proofs.OnLiterals.{clap_on_literals}
use Rattle.pfs_words.proofs.JobLemmas.{job_for, some_names}
use Rattle.pfs_words.proofs.examples.jobs_asked_for.Goals as goal

pub returns : goal.returns
unfolding clap_on_literals
returns c = record {
  value = job_for some_names (codes "value") _ refl _ refl (_, refl, refl) (search rules);
  check = job_for some_names (codes "check") _ refl _ refl (_, refl, refl) (search rules);
  table = job_for some_names (codes "table") _ refl _ refl (_, refl, refl) (search rules);
  convert = job_for some_names (codes "convert") _ refl _ refl (_, refl, refl) (search rules);
  generate = job_for some_names (codes "generate") _ refl _ refl (_, refl, refl) (search rules);
}
