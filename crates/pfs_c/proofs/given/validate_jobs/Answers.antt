use Rattle.std.proofs.Common.{refl}
use Rattle.pfs_order.proofs.Published.Sequences.{IsSequence-nil}
use Rattle.pfs_c.proofs.Jobs.{jobs_right, valid_is}
use Rattle.pfs_c.proofs.given.validate_jobs.Goals as goal

pub returns-then-is_short_sequence-clause-validated : goal.returns-then-is_short_sequence-clause-validated
returns-then-is_short_sequence-clause-validated c =
    let right = (jobs_right c.args.size c.args.jobs.now).1 (c.is_short_sequence.ensures.0 c.if-is_short_sequence.true) in
    rw right refl

pub returns-then-is_sequence-clause-validated : goal.returns-then-is_sequence-clause-validated
returns-then-is_sequence-clause-validated c =
    let right = (jobs_right c.args.size c.args.jobs.now).1 (c.is_sequence.ensures.sequence.0 c.if-is_sequence.true) in
    rw right refl

pub returns-then-is_long_sequence-clause-validated : goal.returns-then-is_long_sequence-clause-validated
returns-then-is_long_sequence-clause-validated c =
    let right = (jobs_right c.args.size c.args.jobs.now).1 (c.is_long_sequence.ensures.0 c.if-is_long_sequence.true) in
    rw right refl

pub validate_more-requires : goal.validate_more-requires
validate_more-requires c = IsSequence-nil c.args.size

pub returns-clause-sequence : goal.returns-clause-sequence
returns-clause-sequence c =
    let right = jobs_right c.args.size c.args.jobs.now in
    let is = valid_is c.validate_more.result _ c.validate_more.ensures.validated in
    (λ ok. right.0 (is.0 ok), λ sequence. is.1 (right.1 sequence))
