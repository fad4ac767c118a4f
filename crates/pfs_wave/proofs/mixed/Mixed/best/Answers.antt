use Rattle.std.proofs.Common.{length, refl, arith}
use Rattle.std.proofs.lemmas.Bool.Decides.{nat_tests}
use Rattle.pfs_base.specs.FlowShop.{FlowShop}
use Rattle.pfs_order.proofs.Published.Sequences.{length-le-size, length-lt-size}
use Rattle.pfs_wave.specs.Private.Mixed.{IsMixed}
use Rattle.pfs_wave.proofs.BestFound.{found}
use Rattle.pfs_wave.proofs.MixedLemmas.{mixed_after}
use Rattle.pfs_wave.proofs.ServedPaths.{served_below}
use Rattle.pfs_wave.proofs.mixed.Mixed.best.Goals as goal
use Rattle.pfs_wave.proofs.mixed.Mixed.best.Goals.{then-is_empty+then-fits, else-is_empty}

pub best-best-requires-clause-few : goal.best-best-requires-clause-few
best-best-requires-clause-few c =
    omega (
      arith,
      length-le-size c.args.bench.now.jobs c.args.jobs.now c.requires.sequence,
      c.requires.own.narrow.jobs,
    )

pub best-best-requires-else-is_empty-clause-few : goal.best-best-requires-else-is_empty-clause-few
best-best-requires-else-is_empty-clause-few c =
    omega (
      arith,
      length-le-size c.args.bench.now.jobs c.args.jobs.now c.requires.sequence,
      c.requires.own.wide.has.jobs,
    )

pub keep-requires-clause-place : goal.keep-requires-clause-place
keep-requires-clause-place c =
    let bench = c.args.bench.now in
    let shop : FlowShop = record { jobs = bench.jobs; machines = bench.machines; times = bench.times.now } in
    let jobs = c.args.jobs.now in
    let own = c.requires.own in
    let less = length-lt-size shop.jobs c.args.job jobs c.requires.job c.requires.absent c.requires.sequence in
    elim c.if-is_empty.branch [
      | then-is_empty+then-fits w ↦
          let is = w.best-best.ensures.found in
          rw w.best-is ((found shop jobs c.args.job 65535 (is shop own.narrow c.requires.paid).best refl
          (length jobs) (omega arith) (omega (arith, w.if-fits.ensures refl))).within)
      | else-is_empty w ↦
          let is = w.best-best-else-is_empty.ensures.found in
          rw w.best-is (served_below shop 4294967295 own.wide.has.some own.wide.short jobs c.args.job
          less c.requires.room (is shop own.wide.has c.requires.paid)).0.within
    ]

pub returns-clause-best : goal.returns-clause-best
returns-clause-best c =
    let bench = c.args.bench.now in
    let shop : FlowShop = record { jobs = bench.jobs; machines = bench.machines; times = bench.times.now } in
    let jobs = c.args.jobs.now in
    let own = c.requires.own in
    let less = length-lt-size shop.jobs c.args.job jobs c.requires.job c.requires.absent c.requires.sequence in
    elim c.if-is_empty.branch [
      | then-is_empty+then-fits w ↦
          let is = w.best-best.ensures.found in
          rw w.best-is (found shop jobs c.args.job 65535 (is shop own.narrow c.requires.paid).best refl
          (length jobs) (omega arith) (omega (arith, w.if-fits.ensures refl)))
      | else-is_empty w ↦
          let is = w.best-best-else-is_empty.ensures.found in
          rw w.best-is (served_below shop 4294967295 own.wide.has.some own.wide.short jobs c.args.job
          less c.requires.room (is shop own.wide.has c.requires.paid)).0
    ]

pub returns-clause-spans : goal.returns-clause-spans
returns-clause-spans c place lt =
    let bench = c.args.bench.now in
    let shop : FlowShop = record { jobs = bench.jobs; machines = bench.machines; times = bench.times.now } in
    let jobs = c.args.jobs.now in
    let own = c.requires.own in
    let less = length-lt-size shop.jobs c.args.job jobs c.requires.job c.requires.absent c.requires.sequence in
    elim c.if-is_empty.branch [
      | then-is_empty+then-fits w ↦
          let test = w.if-is_empty.true in
          let is = c.is_empty.ensures in
          absurd (grind (arith, nat_tests))
      | else-is_empty w ↦
          let is = w.best-best-else-is_empty.ensures.found in
          rw w.spans-is ((served_below shop 4294967295 own.wide.has.some own.wide.short jobs c.args.job
          less c.requires.room (is shop own.wide.has c.requires.paid)).1 place lt)
    ]

pub returns-clause-still : goal.returns-clause-still
returns-clause-still c =
    let bench = c.args.bench.now in
    let shop : FlowShop = record { jobs = bench.jobs; machines = bench.machines; times = bench.times.now } in
    let best = returns-clause-best c in
    let own : IsMixed shop c.if-is_empty.self =
    elim c.if-is_empty.branch [
      | then-is_empty+then-fits w ↦ rw (w.self-is, w.best-best.ensures.same) c.requires.own
      | else-is_empty w ↦ rw (w.self-is, w.best-best-else-is_empty.ensures.same) c.requires.own
    ] in
    rw (c.keep.ensures, c.number.ensures) (mixed_after shop c.if-is_empty.self own c.args.jobs.now c.args.job
    c.if-is_empty.best.place c.if-is_empty.best.span best)
