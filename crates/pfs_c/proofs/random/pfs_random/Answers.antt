use Rattle.std.proofs.Common.{arith}
use Rattle.pfs_c.proofs.RandomWords.{drawn_first, drawn_more, drawn_last}
use Rattle.pfs_c.proofs.random.pfs_random.Goals as goal

pub loop-place-init : goal.loop-place-init
loop-place-init c =
    drawn_first c.args.seed c.args.first c.args.words.now _ _ c.seed_from_u64-rng.ensures c.advance.ensures

pub loop-place-preserved : goal.loop-place-preserved
loop-place-preserved c =
    let at = c.loop-place in
    drawn_more _ at.words at.place _ at.rng _ at.invariant (omega (arith, c.loop-place-test.true, at.auto.words))
    c.next_word.ensures

pub returns-clause-done : goal.returns-clause-done
returns-clause-done c =
    let at = c.loop-place in
    drawn_last _ at.words at.place at.rng at.invariant (omega (arith, c.loop-place-test.false, at.auto.words))
