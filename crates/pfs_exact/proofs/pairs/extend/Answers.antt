use Rattle.std.proofs.Common.{◌≡◌, ◌+◌, ◌-◌, ◌≤◌, get_or, inl, inr, arith}
use Rattle.std.proofs.lemmas.Bool.{cases_lt}
use Rattle.pfs_base.specs.FlowShop.{time_of}
use Rattle.pfs_audit.specs.Bound.{time_on}
use Rattle.pfs_audit.proofs.Published.Ranges.{sum_by-range-suc}
use Rattle.pfs_base.proofs.Published.Partly.{partly_none, partly_more}
use Rattle.pfs_exact.proofs.pairs.extend.Goals as goal

pub loop-job-init : goal.loop-job-init
loop-job-init c = partly_none _ _ _ (omega arith)

pub loop-job-preserved : goal.loop-job-preserved
loop-job-preserved c =
    let shop = c.args.instance.now.shop in
    let job = c.loop-job.job in
    let many = c.args.machine - c.args.first in
    let there : c.args.first + many ≡ c.args.machine = omega arith in
    let read = c.loop-job.invariant.to_do job (omega arith) in
    let was : get_or c.args.across.now job 0 ≤ time_on shop c.args.first many job = c.requires.across job in
    let more = rw there at (sum_by-range-suc (time_of shop job) c.args.first many) in
    partly_more _ shop.jobs job _ c.args.across.now c.loop-job.across (omega arith) c.loop-job.invariant (omega arith)

pub returns : goal.returns
returns c = λ job.
    let shop = c.args.instance.now.shop in
    let many = c.args.machine - c.args.first in
    elim (cases_lt job shop.jobs) [
      | inl inside ↦ c.loop-job.invariant.done job (omega arith)
      | inr past ↦
          let read = c.loop-job.invariant.to_do job (omega arith) in
          let was : get_or c.args.across.now job 0 ≤ time_on shop c.args.first many job = c.requires.across job in
          let more = sum_by-range-suc (time_of shop job) c.args.first many in
          omega arith
    ]
