use Rattle.std.proofs.Common.{◌+◌, ◌-◌, ◌≤◌, arith}
use Rattle.std.proofs.Math.Nat.{mul-le-mul_right}
use Rattle.pfs_base.specs.Paths.{greatest}
use Rattle.pfs_wave.proofs.ServedPaths.{Serves, greatest_all, has_lanes, served_times}
use Rattle.pfs_wave.proofs.tables.LaneTables.new.Goals as goal
use Rattle.pfs_wave.proofs.tables.LaneTables.new.Goals.{then-path-lt65535+in_ok-new}
use Rattle.pfs_wave.proofs.tables.LaneTables.new.Goals.{else-path-lt65535+then-longest-le65535+in_ok-new-2}
use Rattle.pfs_wave.proofs.tables.LaneTables.new.Goals.{else-path-lt65535+else-longest-le65535+then-path-lt4294967295+in_ok-new-3}
use Rattle.pfs_wave.proofs.tables.LaneTables.new.Goals.{else-path-lt65535+else-longest-le65535+else-path-lt4294967295+in_ok-new-4}

pub new-requires : goal.new-requires
new-requires c =
    let path = c.path_bound-path.ensures in
    let sizes = path.within.sizes in
    served_times c.args.instance.now.shop 65535 sizes.some_machine (omega (arith, path.value, c.if-path-lt65535.true))
    sizes.some_job

pub new-requires-then-longest-le65535-clause-times : goal.new-requires-then-longest-le65535-clause-times
new-requires-then-longest-le65535-clause-times c k d lt =
    omega (
      arith,
      greatest_all c.args.instance.now.shop.times k d lt,
      c.if-longest-le65535.true,
      c.longest_time-longest.ensures,
    )

pub new-requires-then-longest-le65535-clause-paths : goal.new-requires-then-longest-le65535-clause-paths
new-requires-then-longest-le65535-clause-paths c =
    let shop = c.args.instance.now.shop in
    let sizes = c.path_bound-path.ensures.within.sizes in
    let few : shop.jobs + shop.machines - 1 ≤ 5199 = omega (arith, sizes.few_jobs, sizes.few_machines) in
    omega (
      arith,
      mul-le-mul_right (greatest shop.times) few,
      c.if-longest-le65535.true,
      c.longest_time-longest.ensures,
    )

pub returns : goal.returns
returns c =
    let shop = c.args.instance.now.shop in
    let path = c.path_bound-path.ensures in
    let longest = c.longest_time-longest.ensures in
    let serves : Serves shop c.if-path-lt65535.wave =
    elim c.if-path-lt65535.branch [
      | then-path-lt65535+in_ok-new w ↦
          rw w.wave-is (record {
            has = w.in_ok-new.ensures;
            short = omega (arith, path.value, w.if-path-lt65535.true);
          })
      | else-path-lt65535+then-longest-le65535+in_ok-new-2 w ↦
          rw w.wave-is (
            omega (arith, path.value, w.if-path-lt65535.false),
            omega (arith, longest, w.if-longest-le65535.true),
            w.in_ok-new-2.ensures.made,
          )
      | else-path-lt65535+else-longest-le65535+then-path-lt4294967295+in_ok-new-3 w ↦
          rw w.wave-is (
            omega (arith, longest, w.if-longest-le65535.false),
            record {
              has = w.in_ok-new-3.ensures;
              short = omega (arith, path.value, w.if-path-lt4294967295.true);
            },
          )
      | else-path-lt65535+else-longest-le65535+else-path-lt4294967295+in_ok-new-4 w ↦
          rw w.wave-is (
            omega (arith, path.value, w.if-path-lt4294967295.false),
            record {
              has = w.in_ok-new-4.ensures;
              short = omega (arith, path.value, path.small);
            },
          )
    ] in
    has_lanes shop c.if-path-lt65535.wave serves
