use Rattle.std.proofs.Common.{◌≡◌, ◌+◌, ◌-◌, ◌*◌, map, take, drop, replicate, ap, ◌∙◌, sym, arith}
use Rattle.std.proofs.lemmas.List.{drop-map, drop-replicate, take-map, take-replicate}
use Rattle.pfs_wave.specs.Private.Blocks.{vectors_in}
use Rattle.pfs_wave.specs.Private.HeldRows.{part_from}
use Rattle.pfs_wave.specs.Private.Lanes.{zeros}
use Rattle.pfs_wave.proofs.HeldLemmas.{holding_none}
use Rattle.pfs_wave.proofs.blocks.Blocks.new.Goals as goal

pub invariant_of-result : goal.invariant_of-result
invariant_of-result g c =
    let lanes = g.V.Times.Stored.lanes in
    let jobs = c.jobs-jobs.result in
    let jobs_are = c.jobs-jobs.ensures in
    let count_is = c.vectors-count.ensures in
    let rows_long = c.in_ok-rows.ensures.long in
    let times_long = c.in_ok-times.ensures.count in
    let width = vectors_in c.for_machines-width.result in
    let items = c.in_ok-times.times.items in
    let all = (jobs + (jobs + 8)) * width in
    let n = all - jobs * width in
    let long : n ≡ (jobs + 8) * width = omega arith in
    let none : map lanes (part_from jobs (jobs + 8) width items) ≡ replicate ((jobs + 8) * width) (zeros 8) =
    sym (take-map lanes n (drop (jobs * width) items))
    ∙ ap (take n) (sym (drop-map lanes (jobs * width) items)
    ∙ ap (drop (jobs * width)) (rw count_is at c.in_ok-times.ensures.zeros)
    ∙ drop-replicate (jobs * width) all (zeros 8))
    ∙ take-replicate n n (zeros 8) (omega arith) ∙ ap (λ n. replicate n (zeros 8)) long in
    record {
      some = c.lanes_for.ensures.some;
      eight = c.lanes_for.ensures.eight;
      few = omega (arith, jobs_are.value, jobs_are.within.sizes.few_jobs);
      rows = rw count_is at rows_long ∙ ap (λ n. n * width + width) (sym jobs_are.value);
      held = record {
        start = omega arith;
        room = omega (arith, rw count_is at times_long);
        holds =
            holding_none width jobs c.args.instance.now.shop (map lanes c.in_ok-rows.rows.items) c.in_ok-order.order.items
            (map lanes (part_from jobs (jobs + 8) width items)) (rw count_is at c.in_ok-rows.ensures.rows) jobs_are.value
            (c.in_ok-order.ensures.items_if_clones_equal (λ y is. is)) none;
      };
      tails = rw count_is at (sym c.in_ok-tails.tails.ok.0 ∙ c.in_ok-tails.ensures.len);
      sums = omega (arith, c.in_ok-sums.ensures.len, c.in_ok-sums.sums.ok);
    }
