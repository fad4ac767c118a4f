use Rattle.std.proofs.Common.{◌-◌, [], length, take, drop}
use Rattle.pfs_exact.specs.Private.Nodes.{IsNode}
use Rattle.pfs_exact.proofs.prove.node_of.Given as goal

abbrev pub invariant-loop-place : goal.invariant-loop-place
invariant-loop-place l = IsNode l.instance.shop (take l.place l.front.jobs) [] l.node

abbrev pub invariant-loop-turn : goal.invariant-loop-turn
invariant-loop-turn l = IsNode l.instance.shop l.front.jobs (drop (length l.back.jobs - l.turn) l.back.jobs) l.node
