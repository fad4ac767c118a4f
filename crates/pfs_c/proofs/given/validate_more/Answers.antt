use Rattle.std.proofs.Common.{◌++◌, take, get_or, Contains, refl, inl, inr, rules}
use Rattle.std.proofs.lemmas.List.{take_all}
use Rattle.std.proofs.lemmas.List.Elements.{Contains-append_cases, Contains-append_left, Contains-append_right}
use Rattle.pfs_c.specs.declared.numbers.CallFault.TheVariants.{Job, Repeated}
use Rattle.pfs_c.proofs.Jobs.{job_out, job_twice, jobs_right, more_right, more_wrong}
use Rattle.pfs_c.proofs.given.validate_more.Goals as goal
use Rattle.pfs_c.proofs.given.validate_more.Goals.{then-contains-via-then-contains}
use Rattle.pfs_c.proofs.given.validate_more.Goals.{then-contains-via-else-contains+then-contains-2}

pub returns-then-job-size-clause-validated : goal.returns-then-job-size-clause-validated
returns-then-job-size-clause-validated c =
    let at = c.loop-place in
    let wrong = more_wrong c.args.size c.args.sequence.now c.args.more.now at.place c.loop-place-test.true at.invariant
    Job (job_out c.args.size _ _ c.if-job-size.true) in
    rw wrong refl

pub returns-then-contains-clause-validated : goal.returns-then-contains-clause-validated
returns-then-contains-clause-validated c =
    let at = c.loop-place in
    let sequence = c.args.sequence.now in
    let before = take at.place c.args.more.now in
    let job = get_or c.args.more.now at.place 0 in
    let among : Contains (sequence ++ before) job = elim c.then-contains.branch [
      | then-contains-via-then-contains w ↦ Contains-append_left sequence before job (search rules)
      | then-contains-via-else-contains+then-contains-2 w ↦ Contains-append_right sequence before job (search rules)
    ] in
    let wrong = more_wrong c.args.size sequence c.args.more.now at.place c.loop-place-test.true at.invariant Repeated
    (job_twice c.args.size _ _ c.if-job-size.false among) in
    rw wrong refl

pub loop-place-preserved : goal.loop-place-preserved
loop-place-preserved c =
    let at = c.loop-place in
    let sequence = c.args.sequence.now in
    let before = take at.place c.args.more.now in
    let job = get_or c.args.more.now at.place 0 in
    let first : Contains sequence job → ⊥ = search rules in
    let later : Contains before job → ⊥ = search rules in
    more_right c.args.size sequence c.args.more.now at.place c.loop-place-test.true at.invariant c.if-job-size.false
    (λ among. elim (Contains-append_cases sequence before job among) [
      | inl early ↦ first early
      | inr late ↦ later late
    ])

pub returns-clause-validated : goal.returns-clause-validated
returns-clause-validated c =
    let together = rw (take_all c.loop-place.place c.args.more.now c.loop-place-test.false) at c.loop-place.invariant in
    let right = (jobs_right c.args.size (c.args.sequence.now ++ c.args.more.now)).1 together in
    rw right refl
