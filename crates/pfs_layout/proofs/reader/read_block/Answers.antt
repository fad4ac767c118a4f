-- Each piece moves the reader forward. A fault of a piece is one of the whole input, and the wanted block is that
-- of the whole input.
use Rattle.pfs_layout.proofs.Words.{refl, rules, ℕ, ◌∙◌, arith, length-take, Read, SeedRange}
use Rattle.pfs_layout.proofs.Reading.SourceLemmas.{finish_named, feed_named, never_failed, reading_more, reading_fault}
use Rattle.pfs_layout.proofs.Reading.SourceLemmas.{reading_done, reads_failed, reads_ended, reads_fault}
use Rattle.pfs_layout.proofs.Reading.ReaderSteps.{live_follows}
use Rattle.pfs_base.proofs.Published.Ends.{reads_on}
use Rattle.pfs_layout.proofs.reader.read_block.Goals as goal

pub pieces-init : goal.pieces-init
pieces-init g c = record { working = c.requires.working; no_end = refl; reading = grind (arith, c.new-taker.ensures) }

pub pieces-preserved : goal.pieces-preserved
pieces-preserved g c =
    let t = c.pieces.invariant.reading in
    record {
      working = c.in-Some.ensures.failed ∙ c.pieces.invariant.working;
      no_end = c.in-Some.ensures.ended ∙ reads_on _ c.in-Some.n _ c.if-n-eq0.false ∙ c.pieces.invariant.no_end;
      reading =
          reading_more t _ _ c.in-Some.ensures.bytes.1 (c.in-Ok.ensures.meets t.front t.has_read) c.if-progress.false;
    }

-- a reader that needs more bytes has read no more than the limit, and more bytes than before
pub pieces-smaller : goal.pieces-smaller
pieces-smaller g c =
    let t = (pieces-preserved g c).reading in
    let follows = live_follows c.feed.new.self t.front t.live t.has_read in
    omega (arith, c.in-Ok.ensures.moved, c.in-Ok.ensures.whole c.if-progress.false, length-take {A = ℕ})

-- ---- the results

pub returns-in_default-clause-as_far : goal.returns-in_default-clause-as_far
returns-in_default-clause-as_far g c = reads_failed c.pieces.invariant.reading _ c.in_default.ensures.bytes

-- the input has ended
pub returns-then-n-eq0 : goal.returns-then-n-eq0
returns-then-n-eq0 g c =
    let t = c.pieces.invariant.reading in
    let ends = c.finish.ensures.meets t.front t.has_read in
    record {
      file = search rules;
      rejected = search rules;
      read = never_failed (c.in-Some.ensures.failed ∙ c.pieces.invariant.working) (finish_named ends Read refl);
      before_end = λ e. absurd (finish_named ends Read refl e);
      no_seed = finish_named ends SeedRange refl;
      as_far = reads_ended t _ _ c.in-Some.ensures.bytes.1 (omega (arith, length-take {A = ℕ})) ends;
    }

-- a byte of the piece has a fault, or the allocation failed
pub returns-in-Err : goal.returns-in-Err
returns-in-Err g c =
    let t = c.pieces.invariant.reading in
    let bytes = c.in-Some.ensures.bytes in
    let meets = c.in-Err.ensures.meets t.front t.has_read in
    record {
      file = tt;
      rejected = λ read memory. reading_fault t _ _ bytes.1 meets memory;
      read =
          never_failed (c.in-Some.ensures.failed ∙ c.pieces.invariant.working)
          (λ e. feed_named meets Read (λ z. cc) refl (cc));
      before_end = λ e. absurd (feed_named meets Read (λ z. cc) refl (cc));
      no_seed = λ e. feed_named meets SeedRange (λ z. cc) refl (cc);
      as_far = reads_fault t _ _ bytes.1 (omega (arith, length-take {A = ℕ})) meets;
    }

-- the wanted block has ended in the piece
pub returns-then-progress : goal.returns-then-progress
returns-then-progress g c =
    let t = c.pieces.invariant.reading in
    let bytes = c.in-Some.ensures.bytes in
    let meets = c.in-Ok.ensures.meets t.front t.has_read in
    let ends = c.finish-then-progress.ensures.meets _ meets.ok.1 in
    let done = reading_done t _ _ bytes.1 meets c.if-progress.true ends in
    record {
      file = rw done.1 done.2;
      rejected = rw done.1 tt;
      read = never_failed (c.in-Some.ensures.failed ∙ c.pieces.invariant.working) (finish_named ends Read refl);
      before_end = λ e. absurd (finish_named ends Read refl e);
      no_seed = finish_named ends SeedRange refl;
      as_far = reads_ended t _ _ bytes.1 (omega (arith, length-take {A = ℕ})) ends;
    }
