use Rattle.std.proofs.Common.{◌≡◌, ℕ, ◌<◌, ◌++◌, ◌∷◌, [], List, None, Contains, refl}
use Rattle.pfs_base.specs.Lists.{first_some}
use Rattle.pfs_c.specs.Validation.{job_fault, jobs_fault}
use Rattle.std.proofs.lemmas.Result.{IfOk-weaker}
use Rattle.pfs_order.specs.Sequence.{IsSequence}
use Rattle.pfs_order.proofs.Published.Sequences.{IsSequence-cons, IsSequence-head, IsSequence-first}
use Rattle.pfs_c.proofs.Jobs.{insertion_right, jobs_more, joined}
use Rattle.pfs_c.proofs.given.validate_insertion.Goals as goal

-- a list of jobs and a job to insert that are valid
no_fault : (size job : ℕ) (jobs : List ℕ) → IsSequence size jobs × (job < size) × (Contains jobs job → ⊥)
    → first_some (jobs_fault size jobs ∷ job_fault size jobs job ∷ []) ≡ None
no_fault size job jobs is = (insertion_right size job jobs).1 (IsSequence-cons size job jobs is.1 is.2 is.0)

pub returns-then-is_insertion-clause-validated : goal.returns-then-is_insertion-clause-validated
returns-then-is_insertion-clause-validated c =
    let right = no_fault c.args.size c.args.job c.args.sequence.now (c.is_insertion.ensures c.if-is_insertion.true) in
    rw right refl

pub returns-then-is_insertion-2-clause-validated : goal.returns-then-is_insertion-2-clause-validated
returns-then-is_insertion-2-clause-validated c =
    let is = c.is_insertion-then-size-le-FEW_JOBS.ensures c.if-is_insertion-2.true in
    let right = no_fault c.args.size c.args.job c.args.sequence.now is in
    rw right refl

pub returns-clause-validated : goal.returns-clause-validated
returns-clause-validated c =
    rw (← jobs_more c.args.size c.args.sequence.now c.args.job) c.validate_more.ensures.validated

pub returns-clause-in_range : goal.returns-clause-in_range
returns-clause-in_range c =
    let size = c.args.size in
    let job = c.args.job in
    let jobs = c.args.sequence.now in
    IfOk-weaker c.validate_more.result (λ _. IsSequence size (jobs ++ job ∷ [])) (λ _. job < size)
    (λ _ all. IsSequence-first size job jobs (joined size jobs (job ∷ []) all)) c.validate_more.ensures.together

pub returns-clause-absent : goal.returns-clause-absent
returns-clause-absent c =
    let size = c.args.size in
    let job = c.args.job in
    let jobs = c.args.sequence.now in
    IfOk-weaker c.validate_more.result (λ _. IsSequence size (jobs ++ job ∷ [])) (λ _. Contains jobs job → ⊥)
    (λ _ all. IsSequence-head size job jobs (joined size jobs (job ∷ []) all)) c.validate_more.ensures.together
