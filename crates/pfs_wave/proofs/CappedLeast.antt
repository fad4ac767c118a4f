-- The first place of the least capped value.
use Rattle.std.proofs.Common.{arith}
use Rattle.pfs_wave.specs.Wavefront.{CappedLeastLaw}

pub capped_least_law : CappedLeastLaw
capped_least_law cap values others count place same is small =
    let inside = is.within in
    let here = same place inside in (
      record {
        within = is.within;
        least = λ other lt. omega (arith, is.least other lt, same other lt, here);
        first = λ other before. omega (arith, is.first other before, same other (omega arith));
      },
      omega arith,
    )
