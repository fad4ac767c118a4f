-- A new reader has read no bytes.
use Rattle.pfs_layout.proofs.Words.{[]}
use Rattle.pfs_layout.proofs.Reading.ReaderSteps.{new_has_read}
use Rattle.pfs_layout.proofs.reader.BlockReader.new.Goals as goal

pub returns-clause-has_read : goal.returns-clause-has_read
returns-clause-has_read c =
    new_has_read _ _ c.new.ensures (rw c.new-2.ensures.wanted c.requires.some) c.new-2.ensures.none

pub invariant_of-result : goal.invariant_of-result
invariant_of-result c = record { has_read = λ other. ([], returns-clause-has_read c); none = λ h. cc }
