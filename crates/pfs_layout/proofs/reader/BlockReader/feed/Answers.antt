-- A reader whose allocation failed has read no text, and after a piece no more times are stored than the wanted
-- block has.
use Rattle.pfs_layout.proofs.Words.{fields}
use Rattle.pfs_layout.proofs.Reading.PieceLemmas.{memory_nowhere}
use Rattle.pfs_layout.proofs.Reading.HeldLemmas.{feed_few}
use Rattle.pfs_layout.proofs.reader.BlockReader.feed.Goals as goal

pub returns-clause-nowhere : goal.returns-clause-nowhere
returns-clause-nowhere c e text s =
    memory_nowhere (fields c.feed.new.last c.feed.new.self) text (rw e at c.feed.ensures.stays) s

pub returns-clause-few : goal.returns-clause-few
returns-clause-few c text =
    rw (← c.self.view_is) (λ s. feed_few _ text c.args.piece.now _ _ (c.feed.ensures.meets text s)
    (λ e. c.feed.ensures.reader.none (rw e at c.feed.ensures.stays)))
