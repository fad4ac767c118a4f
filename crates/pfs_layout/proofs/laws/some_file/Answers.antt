use Rattle.pfs_layout.proofs.Files.FileLemmas.{file_completes, completes_file}
use Rattle.pfs_layout.proofs.Published.LawLemmas.{seeks_completes}
use Rattle.pfs_layout.proofs.laws.some_file.Goals as goal

pub returns : goal.returns
returns c layout input k some = (
  λ file. (file_completes layout input k file.0 file.1).seeks,
  λ s. let held = seeks_completes layout input k some s in (held.0, completes_file layout input k held.0 held.1),
)
