use Rattle.std.proofs.Common.{◌≡◌, take}
use Rattle.pfs_iterate.specs.Private.Memory.{AreHeads}
use Rattle.pfs_iterate.proofs.heads.Heads.follow.Given as goal

abbrev pub invariant-loop-place : goal.invariant-loop-place
invariant-loop-place l = record {
  heads : AreHeads l.instance.shop l.self;
  jobs : l.self.jobs.items ≡ take l.place l.sequence;
}
