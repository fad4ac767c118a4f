use Rattle.pfs_layout.proofs.GeneratorLemmas.{DrawnMachines}
use Rattle.pfs_layout.proofs.generator.generate.Given as goal

abbrev pub invariant-loop-machine : goal.invariant-loop-machine
invariant-loop-machine l = DrawnMachines l.fn.jobs l.fn.machines l.fn.seed l.machine l.drawn l.instance
