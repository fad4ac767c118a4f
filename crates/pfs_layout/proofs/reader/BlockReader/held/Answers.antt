-- A reader stores no more times than the wanted block has.
use Rattle.pfs_layout.proofs.Words.{fields}
use Rattle.pfs_layout.proofs.Reading.HeldLemmas.{few_in}
use Rattle.pfs_layout.proofs.reader.BlockReader.held.Goals as goal

pub returns-clause-few : goal.returns-clause-few
returns-clause-few c text =
    rw (← c.self.view_is) (few_in c.self.inside.blocks.phase (fields c.self.inside.last c.self.inside.blocks) text)
