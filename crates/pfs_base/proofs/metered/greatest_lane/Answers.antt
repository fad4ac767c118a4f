use Rattle.std.proofs.Common.{arith}
use Rattle.pfs_base.proofs.Lanes.{lanes_read}
use Rattle.pfs_base.proofs.metered.greatest_lane.Goals as goal

pub greater-requires-clause-a : goal.greater-requires-clause-a
greater-requires-clause-a c = let all = lanes_read c.args.lanes c.requires.four c.requires.in_limit in omega arith

pub greater-requires-clause-b : goal.greater-requires-clause-b
greater-requires-clause-b c = let all = lanes_read c.args.lanes c.requires.four c.requires.in_limit in omega arith

pub greater-requires-2-clause-a : goal.greater-requires-2-clause-a
greater-requires-2-clause-a c = let all = lanes_read c.args.lanes c.requires.four c.requires.in_limit in omega arith

pub greater-requires-2-clause-b : goal.greater-requires-2-clause-b
greater-requires-2-clause-b c = let all = lanes_read c.args.lanes c.requires.four c.requires.in_limit in omega arith

pub greater-requires-3-clause-a : goal.greater-requires-3-clause-a
greater-requires-3-clause-a c = let all = lanes_read c.args.lanes c.requires.four c.requires.in_limit in omega arith

pub greater-requires-3-clause-b : goal.greater-requires-3-clause-b
greater-requires-3-clause-b c = let all = lanes_read c.args.lanes c.requires.four c.requires.in_limit in omega arith

pub returns : goal.returns
returns c = let all = lanes_read c.args.lanes c.requires.four c.requires.in_limit in omega arith
