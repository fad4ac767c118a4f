use Rattle.pfs_layout.proofs.Words.{arith, seed_after}
use Rattle.pfs_layout.proofs.GeneratorLemmas.{drawn_more}
use Rattle.pfs_layout.proofs.generator.draw_times.Goals as goal

pub loop-job-init : goal.loop-job-init
unfolding seed_after
loop-job-init c = grind (arith, c.requires.seed, c.jobs-job-end.ensures.within.every_time)

pub loop-job-preserved : goal.loop-job-preserved
loop-job-preserved c =
    let so_far = c.loop-job.invariant in
    let next = drawn_more c.args.seed c.args.instance.now c.args.machine c.loop-job.job c.loop-job.drawn
    c.loop-job.instance so_far (omega (arith, c.loop-job-test.true, c.jobs-job-end.ensures.value)) c.requires.machine in
    rw (c.set.ensures, c.time_from.ensures.value, c.next_seed-drawn.ensures.product) next
