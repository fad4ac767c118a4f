use Rattle.std.proofs.Common.{arith}
use Rattle.pfs_exact.proofs.table.Table.new.Goals as goal

pub returns : goal.returns
returns c =
    let machines = c.machines-machines.ensures.value in
    record {
      all = c.blocks_of-blocks.ensures.all;
      few = c.blocks_of-blocks.ensures.few;
      long = let long = c.in_ok-times_of.ensures.length in omega arith;
      times = λ block machine lane less small.
          c.in_ok-times_of.ensures.times (c.blocks_of-blocks.ensures.short (omega arith)) block machine lane less small;
      starts = omega (arith, machines, c.in_ok-vec.ensures.len);
      rests = omega (arith, machines, c.in_ok-vec-2.ensures.len);
      least = omega (arith, machines, c.in_ok-vec-3.ensures.len);
      ahead = omega (arith, machines, c.in_ok-vec-4.ensures.len);
      behind = omega (arith, machines, c.in_ok-vec-5.ensures.len);
      shut = omega (arith, machines, c.in_ok-vec-6.ensures.len);
      bounds = omega (arith, machines, c.in_ok-vec-7.ensures.len);
      others = omega (arith, machines, c.in_ok-vec-8.ensures.len);
    }
