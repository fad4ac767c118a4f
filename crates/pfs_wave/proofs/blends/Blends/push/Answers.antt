use Rattle.std.proofs.Common.{◌≡◌}
use Rattle.pfs_wave.specs.Private.Blending.{pushed, each_back}
use Rattle.pfs_wave.proofs.EightLanes.{eight_lanes}
use Rattle.pfs_wave.proofs.blends.Blends.push.Goals as goal

pub returns-clause-next : goal.returns-clause-next
returns-clause-next g c past are =
    let lanes = g.T.Stored.lanes in
    let later = pushed (lanes c.args.now) past in
    let pair : lanes c.odd_from-pair.result ≡ each_back later 0 1 0 1 0 1 0 1 =
    rw are.before at c.odd_from-pair.ensures in
    record {
      before = eight_lanes (lanes c.args.now) (g.met.T.Stored.eight c.args.now);
      pair_one = pair;
      pair_two = are.pair_one;
      four_one = rw (pair, are.pair_two) at c.pairs_from-four.ensures;
      four_two = are.four_one;
      four_three = are.four_two;
      four_four = are.four_three;
    }
