use Rattle.pfs_layout.proofs.Words.{ℕ, ◌≡◌, arith, length-replicate, seed_after}
use Rattle.pfs_layout.proofs.GeneratorLemmas.{DrawnSoFar, machine_more, drawn_all}
use Rattle.pfs_layout.proofs.generator.generate.Goals as goal

pub loop-machine-init : goal.loop-machine-init
unfolding seed_after
loop-machine-init c =
    rw c.in-Ok.ensures.made (grind (arith, c.if-seed-ge-MODULUS.false, length-replicate {A = ℕ}))

pub loop-machine-preserved : goal.loop-machine-preserved
loop-machine-preserved c =
    let so_far = c.loop-machine.invariant in
    let row = c.draw_times-drawn.ensures in
    let before = c.loop-machine.instance.shop in
    let on_machine : DrawnSoFar c.loop-machine.drawn c.loop-machine.instance c.loop-machine.machine before.jobs
    c.draw_times-drawn.result c.draw_times-drawn.new.instance = grind (arith, row, so_far.same) in
    machine_more c.args.jobs c.args.machines c.args.seed c.loop-machine.machine c.loop-machine.drawn _ _ _ so_far
    c.loop-machine-test.true on_machine

pub returns-clause-drawn : goal.returns-clause-drawn
returns-clause-drawn c =
    let all : c.loop-machine.machine ≡ c.args.machines =
    omega (arith, c.loop-machine-test.false, c.loop-machine.auto.machine-end) in
    drawn_all c.args.jobs c.args.machines c.args.seed _ c.loop-machine.instance (rw all at c.loop-machine.invariant)
