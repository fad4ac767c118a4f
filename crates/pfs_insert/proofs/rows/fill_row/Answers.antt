use Rattle.std.proofs.Common.{◌∙◌, arith}
use Rattle.pfs_base.proofs.Published.Heads.{time_of-le}
use Rattle.pfs_insert.specs.Private.Rows.{times_in_turn}
use Rattle.pfs_insert.proofs.RowSteps.{fill}
use Rattle.pfs_insert.proofs.rows.fill_row.Goals as goal

pub loop-turn-preserved : goal.loop-turn-preserved
loop-turn-preserved g c =
    let same = c.loop-turn.invariant.same_shop in
    let wide = c.machines-machines.ensures in
    let machine = rw wide at c.index_in_turn-machine.ensures in
    record {
      same_shop = c.step-before.ensures.shop ∙ same;
      counted = omega (arith, c.step-before.ensures.counted, c.loop-turn.invariant.counted);
      filled = fill {times = times_in_turn (g.B.Bench.shop c.args.bench.now) c.args.job c.args.back}
          c.loop-turn.invariant.filled (omega (arith, c.loop-turn-test.true))
          (c.loop-turn.auto.row ∙ c.requires.width) machine c.index-given-machine.is
          (rw (same, machine) at c.step-before.ensures.value)
          (time_of-le _ (g.met.B.Bench.within c.args.bench.now) c.args.job _) c.requires.short;
    }
