use Rattle.std.proofs.Common.{◌≡◌, ℕ, List, ◌<◌, ◌+◌, ◌-◌, ◌*◌, ◌∙◌, get_or, insert, ap, ap₂, sym, sum_by, arith}
use Rattle.pfs_base.specs.FlowShop.{FlowShop}
use Rattle.pfs_base.specs.Heads.{head_of}
use Rattle.pfs_base.specs.Lists.{below}
use Rattle.pfs_base.proofs.Published.HeadRows.{head_of_before_more}
use Rattle.pfs_iterate.specs.Iterated.{count_to}
use Rattle.pfs_iterate.proofs.Delays.{delay_law, ends_fit, next_end_is, sum_more, sum_short, sums_later}
use Rattle.pfs_iterate.proofs.HeadRows.{head_at, job_fits, job_head}
use Rattle.pfs_iterate.proofs.heads.delay_at.Goals as goal

pub end_after-end-requires : goal.end_after-end-requires
end_after-end-requires c =
    let at = c.loop-machine in
    let wide = c.machines-machines.ensures in
    job_fits c.args.instance.now.shop c.args.jobs.now c.args.rows.now c.requires.rows c.args.job
    c.args.place c.requires.place at.machine _ wide.value (rw wide.value at c.loop-machine-test.true) wide.within at.end
    at.invariant.end

pub end_after-next_end-requires : goal.end_after-next_end-requires
end_after-next_end-requires c =
    let shop = c.args.instance.now.shop in
    let jobs = c.args.jobs.now in
    let place = c.args.place in
    let at = c.loop-machine in
    let wide = c.machines-machines.ensures in
    let lt = rw wide.value at c.loop-machine-test.true in
    let end_is = c.end_after-end.ensures
    ∙ job_head shop jobs c.args.rows.now c.requires.rows c.args.job place c.requires.place at.machine _ wide.value lt at.end _
    at.invariant.end (c.times_of-times.ensures.each at.machine lt) in
    ends_fit shop jobs c.args.job place c.requires.place at.machine _ _ end_is at.invariant.next_end wide.within
    c.requires.rows.few lt

-- the heads that the loop adds up
module _ (c : goal.After-end_after-next_end) where
  abbrev shop : FlowShop
  shop = c.args.instance.now.shop

  abbrev jobs : List ℕ
  jobs = c.args.jobs.now

  abbrev place : ℕ
  place = c.args.place

  abbrev with_job : List ℕ
  with_job = insert jobs place c.args.job

  abbrev count : ℕ
  count = count_to jobs place

  abbrev machine : ℕ
  machine = c.loop-machine.machine

  lt : machine < shop.machines
  lt = rw c.machines-machines.ensures.value at c.loop-machine-test.true

  end_is : c.end_after-end.result ≡ head_of shop with_job (place + 1) machine
  end_is = c.end_after-end.ensures
      ∙ job_head shop jobs c.args.rows.now c.requires.rows c.args.job place c.requires.place machine _
      c.machines-machines.ensures.value lt c.loop-machine.end _ c.loop-machine.invariant.end
      (c.times_of-times.ensures.each machine lt)

  next_is : c.end_after-next_end.result ≡ head_of shop with_job (count + 1) machine
  next_is = c.end_after-next_end.ensures
      ∙ next_end_is shop jobs c.args.job place c.requires.place machine _ _ end_is c.loop-machine.invariant.next_end _
      (c.times_at-next_times.ensures.inside machine lt) (c.times_at-next_times.ensures.end machine lt)

  now_is : c.loop-machine.now + c.end_after-next_end.result ≡ sum_by (head_of shop with_job (count + 1)) (below (machine + 1))
  now_is = sum_more (head_of shop with_job (count + 1)) machine c.loop-machine.now _ c.loop-machine.invariant.now next_is

  count_is : c.min.result ≡ count
  count_is = omega (arith, c.min.ensures)

  before_is : c.loop-machine.before + get_or c.args.rows.now (c.min.result * c.machines-machines.result + machine) 0
      ≡ sum_by (head_of shop jobs count) (below (machine + 1))
  before_is = sum_more (head_of shop jobs count) machine c.loop-machine.before _ c.loop-machine.invariant.before
      (head_at shop jobs c.args.rows.now c.requires.rows c.min.result machine _ c.machines-machines.ensures.value
      (omega (arith, count_is)) lt ∙ ap (λ rows. head_of shop jobs rows machine) count_is)

pub overflow_add-now : goal.overflow_add-now
overflow_add-now c =
    let sizes = c.machines-machines.ensures.within.sizes in
    omega (
      arith,
      now_is c,
      lt c,
      sum_short (shop c) c.machines-machines.ensures.within (with_job c) (count c + 1)
          (omega (arith, c.requires.rows.few)) (machine c + 1) (omega (arith, lt c)),
    )

pub overflow_add-before : goal.overflow_add-before
overflow_add-before c =
    let sizes = c.machines-machines.ensures.within.sizes in
    omega (
      arith,
      before_is c,
      lt c,
      sum_short (shop c) c.machines-machines.ensures.within (jobs c) (count c)
          (omega (arith, c.requires.rows.few)) (machine c + 1) (omega (arith, lt c)),
    )

pub loop-machine-preserved : goal.loop-machine-preserved
loop-machine-preserved c = record {
  end = end_is c ∙ sym (head_of_before_more (shop c) (with_job c) (place c + 1) (machine c));
  next_end = next_is c ∙ sym (head_of_before_more (shop c) (with_job c) (count c + 1) (machine c));
  now = now_is c;
  before = before_is c;
}

pub overflow_sub-result : goal.overflow_sub-result
overflow_sub-result c =
    let shop = c.args.instance.now.shop in
    let jobs = c.args.jobs.now in
    let invariant = c.loop-machine.invariant in
    let count = count_to jobs c.args.place in
    omega (
      arith,
      invariant.now,
      invariant.before,
      sums_later (head_of shop jobs count) (head_of shop (insert jobs c.args.place c.args.job) (count + 1))
          c.loop-machine.machine (λ machine. delay_law shop jobs c.args.job c.args.place machine c.requires.place),
    )

pub returns : goal.returns
returns c =
    let at = c.loop-machine in
    let all : at.machine ≡ c.args.instance.now.shop.machines = omega (
      arith,
      c.machines-machines.ensures.value,
      c.loop-machine-test.false,
      at.auto.machine-end,
    ) in
    ap₂ (λ now before. now - before) (rw all at at.invariant.now) (rw all at at.invariant.before)
