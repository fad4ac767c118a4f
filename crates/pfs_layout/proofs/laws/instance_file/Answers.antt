use Rattle.pfs_layout.proofs.Files.FileLemmas.{file_completes, completes_file}
use Rattle.pfs_layout.proofs.laws.instance_file.Goals as goal

pub returns : goal.returns
returns c layout input k problem = (file_completes layout input k problem, completes_file layout input k problem)
