use Rattle.std.proofs.Common.{◌≡◌, ◌++◌, inl, inr, List, ℕ, take, ap, ◌∙◌, arith}
use Rattle.std.proofs.lemmas.Bool.{cases_lt}
use Rattle.pfs_c.proofs.PartSteps.{job_more, run_first, run_last, run_more}
use Rattle.pfs_c.proofs.parts.open_run.Goals as goal
use Rattle.pfs_c.proofs.parts.open_run.Goals.{then-loop-first-test+else-row-first, else-loop-first-test}

pub loop-first-preserved : goal.loop-first-preserved
loop-first-preserved c = record {
  high = omega arith;
  jobs = c.loop-first.invariant.jobs ∙ job_more c.args.row.now c.loop-first.first c.loop-first-test.true c.if-row-first.true;
}

pub loop-last-init : goal.loop-last-init
loop-last-init c = record {
  low = omega arith;
  high = c.loop-first.invariant.high;
  run = λ place above below. absurd (omega arith);
  jobs = c.loop-first.invariant.jobs ∙ ap (λ (l : List ℕ). take c.loop-first.first c.args.row.now ++ l)
      (run_first c.args.row.now c.loop-first.first (elim c.loop-first-test.branch [
        | then-loop-first-test+else-row-first w ↦ inr w.if-row-first.false
        | else-loop-first-test w ↦ inl w.loop-first-test.false
      ]));
}

pub loop-last-preserved : goal.loop-last-preserved
loop-last-preserved c =
    let row = c.args.row.now in
    let last = c.loop-last.last in
    let invariant = c.loop-last.invariant in
    record {
      low = omega (arith, invariant.low);
      high = omega arith;
      run = λ place above below. elim (cases_lt place last) [
        | inl before ↦ invariant.run place above before
        | inr here ↦ let same : place ≡ last = omega arith in rw same c.if-row-last.true
      ];
      jobs = invariant.jobs ∙ ap (λ (l : List ℕ). take c.loop-first.first row ++ l)
          (run_more row last c.loop-last-test.true c.if-row-last.true);
    }

pub returns-else-row-last-clause-jobs : goal.returns-else-row-last-clause-jobs
returns-else-row-last-clause-jobs c = c.loop-last.invariant.jobs
    ∙ ap (λ (l : List ℕ). take c.loop-first.first c.args.row.now ++ l)
    (run_last c.args.row.now c.loop-last.last (inr c.if-row-last.false))

pub returns-after-loop-last-clause-jobs : goal.returns-after-loop-last-clause-jobs
returns-after-loop-last-clause-jobs c = c.loop-last.invariant.jobs
    ∙ ap (λ (l : List ℕ). take c.loop-first.first c.args.row.now ++ l)
    (run_last c.args.row.now c.loop-last.last (inl c.loop-last-test.false))
