-- A fold over the jobs in turn.
use Rattle.std.proofs.Common.{◌≡◌, ℕ, ◌+◌, fold}
use Rattle.std.proofs.lemmas.List.Sums.{fold_push}
use Rattle.pfs_order.specs.Sequence.{all_jobs}
use Rattle.pfs_order.proofs.Published.Sequences.{all_jobs_more}

-- one more job
pub fold_more : {B : Type 0} (f : B → ℕ → B) (start : B) (job : ℕ)
    → fold f start (all_jobs (job + 1)) ≡ f (fold f start (all_jobs job)) job
fold_more f start job = rw all_jobs_more (fold_push f start (all_jobs job) job)
