-- An allocation fails only where the reader allocates.
use Rattle.std.proofs.Common.{◌≡◌, ap, subst, List, ℕ}
use Rattle.std.specs.Result.{result_err}
use Rattle.pfs_c.specs.Texts.{NeedsMemory}
use Rattle.pfs_c.proofs.MemoryLemmas.{needs_memory}
use Rattle.pfs_c.proofs.texts.reading.read_file.Goals as goal

pub returns-clause-memory : goal.returns-clause-memory
returns-clause-memory c is =
    let same : c.new-source.result.rest.now ≡ c.args.bytes.now = cc in
    let P : List ℕ → Type 0 = λ bytes. NeedsMemory bytes c.args.layout c.args.block in
    subst P same (needs_memory c.args.layout c.args.block c.new-source.result.rest.now _ _
    c.read_block.ensures.as_far (ap result_err is))
