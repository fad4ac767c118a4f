use Rattle.pfs_layout.proofs.Words.{refl, ◌∙◌, Taillard, OrLib}
use Rattle.pfs_layout.proofs.Computing.{computing}
use Rattle.pfs_layout.proofs.Files.EndLemmas.{front_faults}
use Rattle.pfs_layout.specs.Examples.{three_jobs_file, two_blocks_file}
use Rattle.pfs_layout.proofs.examples.cuts.Goals as goal

pub returns : goal.returns
unfolding computing
returns c = record {
  three_jobs = front_faults Taillard 1 three_jobs_file 122 refl ∙ refl;
  two_blocks = front_faults OrLib 2 two_blocks_file 81 refl ∙ refl;
}
