use Rattle.pfs_layout.proofs.GeneratorLemmas.{DrawnSoFar}
use Rattle.pfs_layout.proofs.generator.draw_times.Given as goal

abbrev pub invariant-loop-job : goal.invariant-loop-job
invariant-loop-job l = DrawnSoFar l.fn.seed l.fn.instance l.fn.machine l.job l.drawn l.instance
