-- A reader that needs more bytes can end the last number.
use Rattle.pfs_layout.proofs.Words.{sym, ◌∙◌}
use Rattle.pfs_layout.proofs.Reading.ReaderSteps.{reader_ready}
use Rattle.pfs_layout.proofs.blocks.Blocks.validate_end.Goals as goal

pub end_last_number-requires : goal.end_last_number-requires
end_last_number-requires c = reader_ready c.requires (sym c.is_live.ensures ∙ c.if-is_live.true)
