use Rattle.pfs_exact.specs.Private.Nodes.{IsNode}
use Rattle.pfs_exact.proofs.node.raise.Given as goal

abbrev pub invariant-loop-machine : goal.invariant-loop-machine
invariant-loop-machine l = IsNode l.instance.shop l.ends.front.jobs l.ends.back.jobs l.node
