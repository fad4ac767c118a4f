use Rattle.std.proofs.Common.{◌<◌, ◌+◌, length, arith, refl, sym, true≢false}
use Rattle.pfs_wave.proofs.PartOf.{front_part, part_len, after_front_slices, slice_len}
use Rattle.pfs_wave.proofs.mixed.is_part.Goals as goal

pub returns-then-same-part : goal.returns-then-same-part
returns-then-same-part c =
    let inv = c.loop-part.invariant in
    let all = c.if-same-part.true in
    let is = front_part c.loop-part.part.now c.loop-part.whole.now c.loop-part-test.true
    (λ row lt. c.common_prefix-same.ensures.same row (omega arith)) in
    (λ _. inv.same.0 is, λ _. refl)

pub loop-part-preserved : goal.loop-part-preserved
loop-part-preserved c =
    let inv = c.loop-part.invariant in
    let part = c.loop-part.part.now in
    let whole = c.loop-part.whole.now in
    let same = c.common_prefix-same.result in
    let given = c.common_prefix-same.ensures in
    let fits = c.loop-part-test.true in
    let some : same < length part = omega (arith, given.in_a, c.if-same-part.false) in
    let more : same < length whole = omega arith in
    let is = after_front_slices part whole same some more given.same (given.most some more) in
    let few = slice_len part same in
    let less = slice_len whole (same + 1) in
    record {
      fewer = omega (arith, inv.fewer);
      less = omega (arith, inv.less);
      same = (λ i. inv.same.0 (is.0 i), λ i. is.1 (inv.same.1 i));
    }

pub returns : goal.returns
returns c =
    let inv = c.loop-part.invariant in
    let longer = c.loop-part-test.false in
    (λ no. absurd (true≢false (sym no)), λ is. absurd (let few = part_len (inv.same.1 is) in omega arith))
