use Rattle.std.proofs.Common.{arith}
use Rattle.pfs_base.specs.FlowShop.{FlowShop}
use Rattle.pfs_order.proofs.Published.Sequences.{length-le-size, length-lt-size}
use Rattle.pfs_wave.specs.declared.tables.Wave.TheVariants as wave
use Rattle.pfs_wave.proofs.ServedPaths.{has_lanes, served_below, served_capped}
use Rattle.pfs_wave.proofs.tables.LaneTables.find.Goals as goal

pub best-requires-in-Mixed-clause-own : goal.best-requires-in-Mixed-clause-own
best-requires-in-Mixed-clause-own c = (c.requires.own.mixed c.in-Mixed.mixed c.in-Mixed.is).2

pub returns-in-Mixed-clause-still : goal.returns-in-Mixed-clause-still
returns-in-Mixed-clause-still c =
    let is = c.requires.own.mixed c.in-Mixed.mixed c.in-Mixed.is in
    has_lanes (record { jobs = c.args.bench.now.jobs; machines = c.args.bench.now.machines; times = c.args.bench.now.times.now }) (wave.Mixed c.best-in-Mixed.new.self)
    (is.0, is.1, c.best-in-Mixed.ensures.still)

pub best-requires-clause-few : goal.best-requires-clause-few
best-requires-clause-few c =
    let is = c.requires.own.short c.in-Short.blocks c.in-Short.is in
    omega (
      arith,
      length-le-size c.args.bench.now.jobs c.args.jobs.now c.requires.sequence,
      is.has.jobs,
    )

pub returns-in-Short-clause-best : goal.returns-in-Short-clause-best
returns-in-Short-clause-best c =
    let bench = c.args.bench.now in
    let shop : FlowShop = record { jobs = bench.jobs; machines = bench.machines; times = bench.times.now } in
    let is = c.requires.own.short c.in-Short.blocks c.in-Short.is in
    let less = length-lt-size shop.jobs c.args.job c.args.jobs.now c.requires.job c.requires.absent
    c.requires.sequence in
    let found = c.best.ensures.found in
    (served_capped shop 65535 is.has.some is.short c.args.jobs.now c.args.job less
    c.requires.room (found shop is.has c.requires.paid)).0

pub returns-in-Short-clause-spans : goal.returns-in-Short-clause-spans
returns-in-Short-clause-spans c =
    let bench = c.args.bench.now in
    let shop : FlowShop = record { jobs = bench.jobs; machines = bench.machines; times = bench.times.now } in
    let is = c.requires.own.short c.in-Short.blocks c.in-Short.is in
    let less = length-lt-size shop.jobs c.args.job c.args.jobs.now c.requires.job c.requires.absent
    c.requires.sequence in
    let found = c.best.ensures.found in
    (served_capped shop 65535 is.has.some is.short c.args.jobs.now c.args.job less
    c.requires.room (found shop is.has c.requires.paid)).1

pub returns-in-Short-clause-still : goal.returns-in-Short-clause-still
returns-in-Short-clause-still c =
    let is = c.requires.own.short c.in-Short.blocks c.in-Short.is in
    has_lanes (record { jobs = c.args.bench.now.jobs; machines = c.args.bench.now.machines; times = c.args.bench.now.times.now }) (wave.Short c.best.new.self) (rw c.best.ensures.same is)

pub best-requires-in-Long-clause-few : goal.best-requires-in-Long-clause-few
best-requires-in-Long-clause-few c =
    let is = (c.requires.own.long c.in-Long.blocks c.in-Long.is).1 in
    omega (
      arith,
      length-le-size c.args.bench.now.jobs c.args.jobs.now c.requires.sequence,
      is.has.jobs,
    )

pub returns-in-Long-clause-best : goal.returns-in-Long-clause-best
returns-in-Long-clause-best c =
    let bench = c.args.bench.now in
    let shop : FlowShop = record { jobs = bench.jobs; machines = bench.machines; times = bench.times.now } in
    let is = (c.requires.own.long c.in-Long.blocks c.in-Long.is).1 in
    let less = length-lt-size shop.jobs c.args.job c.args.jobs.now c.requires.job c.requires.absent
    c.requires.sequence in
    let found = c.best-in-Long.ensures.found in
    (served_below shop 4294967295 is.has.some is.short c.args.jobs.now c.args.job less
    c.requires.room (found shop is.has c.requires.paid)).0

pub returns-in-Long-clause-spans : goal.returns-in-Long-clause-spans
returns-in-Long-clause-spans c =
    let bench = c.args.bench.now in
    let shop : FlowShop = record { jobs = bench.jobs; machines = bench.machines; times = bench.times.now } in
    let is = (c.requires.own.long c.in-Long.blocks c.in-Long.is).1 in
    let less = length-lt-size shop.jobs c.args.job c.args.jobs.now c.requires.job c.requires.absent
    c.requires.sequence in
    let found = c.best-in-Long.ensures.found in
    (served_below shop 4294967295 is.has.some is.short c.args.jobs.now c.args.job less
    c.requires.room (found shop is.has c.requires.paid)).1

pub returns-in-Long-clause-still : goal.returns-in-Long-clause-still
returns-in-Long-clause-still c =
    let is = c.requires.own.long c.in-Long.blocks c.in-Long.is in
    has_lanes (record { jobs = c.args.bench.now.jobs; machines = c.args.bench.now.machines; times = c.args.bench.now.times.now }) (wave.Long c.best-in-Long.new.self) (is.0, rw c.best-in-Long.ensures.same is.1)

pub best-requires-in-Wide-clause-few : goal.best-requires-in-Wide-clause-few
best-requires-in-Wide-clause-few c =
    let is = (c.requires.own.wide c.in-Wide.blocks c.in-Wide.is).1 in
    omega (
      arith,
      length-le-size c.args.bench.now.jobs c.args.jobs.now c.requires.sequence,
      is.has.jobs,
    )

pub returns-in-Wide-clause-best : goal.returns-in-Wide-clause-best
returns-in-Wide-clause-best c =
    let bench = c.args.bench.now in
    let shop : FlowShop = record { jobs = bench.jobs; machines = bench.machines; times = bench.times.now } in
    let is = (c.requires.own.wide c.in-Wide.blocks c.in-Wide.is).1 in
    let less = length-lt-size shop.jobs c.args.job c.args.jobs.now c.requires.job c.requires.absent
    c.requires.sequence in
    let found = c.best-in-Wide.ensures.found in
    (served_below shop 9223372036854775807 is.has.some is.short c.args.jobs.now c.args.job less
    c.requires.room (found shop is.has c.requires.paid)).0

pub returns-in-Wide-clause-spans : goal.returns-in-Wide-clause-spans
returns-in-Wide-clause-spans c =
    let bench = c.args.bench.now in
    let shop : FlowShop = record { jobs = bench.jobs; machines = bench.machines; times = bench.times.now } in
    let is = (c.requires.own.wide c.in-Wide.blocks c.in-Wide.is).1 in
    let less = length-lt-size shop.jobs c.args.job c.args.jobs.now c.requires.job c.requires.absent
    c.requires.sequence in
    let found = c.best-in-Wide.ensures.found in
    (served_below shop 9223372036854775807 is.has.some is.short c.args.jobs.now c.args.job less
    c.requires.room (found shop is.has c.requires.paid)).1

pub returns-in-Wide-clause-still : goal.returns-in-Wide-clause-still
returns-in-Wide-clause-still c =
    let is = c.requires.own.wide c.in-Wide.blocks c.in-Wide.is in
    has_lanes (record { jobs = c.args.bench.now.jobs; machines = c.args.bench.now.machines; times = c.args.bench.now.times.now }) (wave.Wide c.best-in-Wide.new.self) (is.0, rw c.best-in-Wide.ensures.same is.1)

pub best-requires-clause-jobs : goal.best-requires-clause-jobs
best-requires-clause-jobs c =
    let is = c.requires.own.short c.in-Short.blocks c.in-Short.is in
    λ k d lt. omega (arith, c.requires.sequence.in_range k d lt, is.has.jobs)

pub best-requires-clause-job : goal.best-requires-clause-job
best-requires-clause-job c =
    let is = c.requires.own.short c.in-Short.blocks c.in-Short.is in
    omega (arith, c.requires.job, is.has.jobs)

pub best-requires-in-Long-clause-jobs : goal.best-requires-in-Long-clause-jobs
best-requires-in-Long-clause-jobs c =
    let is = (c.requires.own.long c.in-Long.blocks c.in-Long.is).1 in
    λ k d lt. omega (arith, c.requires.sequence.in_range k d lt, is.has.jobs)

pub best-requires-in-Long-clause-job : goal.best-requires-in-Long-clause-job
best-requires-in-Long-clause-job c =
    let is = (c.requires.own.long c.in-Long.blocks c.in-Long.is).1 in
    omega (arith, c.requires.job, is.has.jobs)

pub best-requires-in-Wide-clause-jobs : goal.best-requires-in-Wide-clause-jobs
best-requires-in-Wide-clause-jobs c =
    let is = (c.requires.own.wide c.in-Wide.blocks c.in-Wide.is).1 in
    λ k d lt. omega (arith, c.requires.sequence.in_range k d lt, is.has.jobs)

pub best-requires-in-Wide-clause-job : goal.best-requires-in-Wide-clause-job
best-requires-in-Wide-clause-job c =
    let is = (c.requires.own.wide c.in-Wide.blocks c.in-Wide.is).1 in
    omega (arith, c.requires.job, is.has.jobs)
