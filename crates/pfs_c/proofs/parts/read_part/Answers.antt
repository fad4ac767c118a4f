use Rattle.std.proofs.Common.{take, drop, ap, ◌∙◌, subst, arith}
use Rattle.std.proofs.lemmas.List.{take_rest}
use Rattle.pfs_order.specs.Sequence.{IsSequence, Sequence}
use Rattle.pfs_c.proofs.PartSteps.{back_is, front_is, row_is}
use Rattle.pfs_c.proofs.parts.read_part.Goals as goal

pub from_jobs-requires-clause-sequence : goal.from_jobs-requires-clause-sequence
from_jobs-requires-clause-sequence c =
    let run = c.open_run-first in
    let row = c.args.row.now in
    rw (c.jobs-jobs.ensures.value) (front_is c.args.instance.now.shop.jobs (take run.result.0 row) (drop run.result.1 row)
    (subst (IsSequence c.args.instance.now.shop.jobs) run.ensures.jobs c.requires.sequence))

pub from_jobs-requires-2-clause-sequence : goal.from_jobs-requires-2-clause-sequence
from_jobs-requires-2-clause-sequence c =
    let run = c.open_run-first in
    let row = c.args.row.now in
    rw (c.jobs-jobs.ensures.value, take_rest row run.result.1) (back_is c.args.instance.now.shop.jobs
    (take run.result.0 row) (drop run.result.1 row)
    (subst (IsSequence c.args.instance.now.shop.jobs) run.ensures.jobs c.requires.sequence))

pub returns-clause-part : goal.returns-clause-part
returns-clause-part c =
    let run = c.open_run-first in
    let row = c.args.row.now in
    let size = c.jobs-jobs.ensures.value in
    let made = c.in-Ok.ensures.made in
    let more = c.in-Ok-from_jobs.ensures.made in
    record {
      front = ap (λ (s : Sequence). s.size) made ∙ size;
      back = ap (λ (s : Sequence). s.size) more ∙ size;
      apart = rw (ap (λ (s : Sequence). s.jobs) made, ap (λ (s : Sequence). s.jobs) more, take_rest row run.result.1)
          (subst (IsSequence c.args.instance.now.shop.jobs) run.ensures.jobs c.requires.sequence);
      low = λ middle full. omega arith;
    }

pub returns-clause-row : goal.returns-clause-row
returns-clause-row c =
    let run = c.open_run-first in
    let row = c.args.row.now in
    row_is c.args.instance.now.shop.jobs run.result.0 run.result.1 _ row c.requires.long run.ensures.within.0
    run.ensures.within.1 (ap (λ (s : Sequence). s.jobs) c.in-Ok.ensures.made)
    (ap (λ (s : Sequence). s.jobs) c.in-Ok-from_jobs.ensures.made ∙ take_rest row run.result.1) run.ensures.run
