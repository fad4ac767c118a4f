-- What was used of the piece, or of its prefix within the limit, is what `feed` promises.
use Rattle.pfs_layout.proofs.Words.{◌-◌, ◌++◌, sym, ◌∙◌, arith, length-take, LONGEST_INPUT, fields}
use Rattle.pfs_layout.proofs.Reading.ReaderSteps.{live_follows}
use Rattle.pfs_layout.proofs.Reading.ByteSteps.{live-memory}
use Rattle.pfs_layout.proofs.Reading.PieceLemmas.{feed_of, reader_of, idle_meets, front_meets, long_meets}
use Rattle.pfs_layout.proofs.blocks.Blocks.feed.Goals as goal

pub returns-then-not-is_live-clause-meets : goal.returns-then-not-is_live-clause-meets
returns-then-not-is_live-clause-meets c text s =
    let dead = sym c.is_live.ensures ∙ c.if-not-is_live.true in
    rw c.progress.ensures (feed_of (idle_meets _ text _ s) (omega arith) (λ live. cc))

pub returns-then-piece-room-clause-reader : goal.returns-then-piece-room-clause-reader
returns-then-piece-room-clause-reader c =
    let live = live-memory c.args.self.now.phase (sym c.is_live.ensures ∙ c.if-not-is_live.false) in
    let some = c.requires.has_read live in
    reader_of (c.take.ensures.meets some.0 some.1)

pub returns-then-piece-room-clause-meets : goal.returns-then-piece-room-clause-meets
returns-then-piece-room-clause-meets c text s =
    rw c.progress-then-piece-room.ensures
    (feed_of (c.take.ensures.meets text s) (omega (arith, c.take.ensures.within))
    (λ live. omega (arith, c.take.ensures.whole live)))

pub returns-then-is_live-clause-meets : goal.returns-then-is_live-clause-meets
returns-then-is_live-clause-meets c text s =
    let old = fields c.args.last.now c.args.self.now in
    let follows = live_follows old text (sym c.is_live.ensures ∙ c.if-not-is_live.false) s in
    let live = sym c.is_live-2.ensures ∙ c.if-is_live.true in
    let all = c.take-2.ensures.whole live in
    let size = length-take (LONGEST_INPUT - old.digits.offset) c.args.piece.now in
    rw c.reject.ensures
    (feed_of (long_meets c.args.piece.now _ (c.take-2.ensures.meets text s) (omega arith) (omega arith)
    (omega arith) live) (omega arith) (λ z. cc))

pub returns-then-is_live-clause-reader : goal.returns-then-is_live-clause-reader
returns-then-is_live-clause-reader c =
    let live = live-memory c.args.self.now.phase (sym c.is_live.ensures ∙ c.if-not-is_live.false) in
    let some = c.requires.has_read live in
    let meets = returns-then-is_live-clause-meets c some.0 some.1 in
    record {
      has_read = λ h. (some.0 ++ c.args.piece.now, meets.rejected (λ z. cc));
      none = λ h. let other = rw c.reject.ensures at h in cc;
    }

pub returns-clause-reader : goal.returns-clause-reader
returns-clause-reader c =
    let live = live-memory c.args.self.now.phase (sym c.is_live.ensures ∙ c.if-not-is_live.false) in
    let some = c.requires.has_read live in
    reader_of (c.take-2.ensures.meets some.0 some.1)

pub returns-clause-meets : goal.returns-clause-meets
returns-clause-meets c text s =
    let size = length-take (LONGEST_INPUT - c.args.last.now.digits.offset) c.args.piece.now in
    let dead = sym c.is_live-2.ensures ∙ c.if-is_live.false in
    rw c.progress-2.ensures
    (feed_of (front_meets c.args.piece.now _ (c.take-2.ensures.meets text s) (omega arith) (omega arith)) (omega arith)
    (λ live. cc))
