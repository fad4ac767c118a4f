use Rattle.std.proofs.Common.{◌≡◌, ap, subst, arith, inl, inr}
use Rattle.std.proofs.lemmas.Bool.{cases_lt}
use Rattle.pfs_base.specs.FlowShop.{time_of}
use Rattle.pfs_exact.specs.Private.Nodes.{IsOpen}
use Rattle.pfs_exact.proofs.node.least_on.Goals as goal
use Rattle.pfs_exact.proofs.node.least_on.Goals.{then-marks-job, else-marks-job}

pub loop-job-preserved : goal.loop-job-preserved
loop-job-preserved c = λ ends are job small outside.
    let shop = c.args.instance.now.shop in
    let min = c.min-least.ensures in
    elim (cases_lt job c.loop-job.job) [
      | inl earlier ↦ let before = c.loop-job.invariant ends are job earlier outside in omega arith
      | inr later ↦
          let same : job ≡ c.loop-job.job = omega arith in
          let time = ap (λ j. time_of shop j c.args.machine) same in
          let taken = c.time.ensures.value in
          elim c.if-marks-job.branch [
            | then-marks-job w ↦ let is = w.min-is in omega arith
            | else-marks-job w ↦
                let marked = are.marked c.loop-job.job (omega arith)
                (subst (IsOpen ends.front.jobs ends.back.jobs) same outside) in
                let unmarked = w.if-marks-job.false in
                absurd cc
          ]
    ]
