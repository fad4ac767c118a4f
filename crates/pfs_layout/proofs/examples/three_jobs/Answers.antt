use Rattle.pfs_layout.proofs.Words.{refl, arith, Taillard}
use Rattle.pfs_layout.specs.Examples.{three_jobs_file, three_jobs_problem}
use Rattle.pfs_layout.proofs.Computing.{computing}
use Rattle.pfs_layout.proofs.Published.LawLemmas.{accepted_law}
use Rattle.pfs_layout.proofs.examples.three_jobs.Goals as goal

pub returns : goal.returns
unfolding computing
returns c = record {
  length = refl;
  by_machine = refl;
  by_job = refl;
  file = (accepted_law Taillard three_jobs_file 1 three_jobs_problem (omega arith)).0 refl;
  accepted = refl;
}
