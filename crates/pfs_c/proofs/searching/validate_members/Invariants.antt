use Rattle.std.proofs.Common.{All, Contains, take}
use Rattle.pfs_c.proofs.searching.validate_members.Given as goal

abbrev pub invariant-loop-job : goal.invariant-loop-job
invariant-loop-job l = All (λ job. Contains l.sequence job) (take l.job-index l.list)
