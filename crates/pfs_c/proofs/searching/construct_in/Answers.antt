use Rattle.std.proofs.Common.{length, drop, refl, ◌∙◌}
use Rattle.std.proofs.lemmas.List.{take_at}
use Rattle.pfs_order.proofs.Published.Sequences.{IsSequence-nil}
use Rattle.pfs_c.proofs.Jobs.{joined}
use Rattle.pfs_c.proofs.searching.construct_in.Goals as goal

pub build-requires-clause-together : goal.build-requires-clause-together
build-requires-clause-together c =
    let sequence = c.args.sequence.now in
    rw (
      c.copy_from_slice.ensures.after,
      take_at sequence (drop (length sequence) c.args.order.now) (length sequence) refl,
    )
    (joined c.args.kept.now.jobs sequence c.args.more.now
    (rw c.jobs-jobs.ensures.value at c.in_ok-validate_more.ensures.together))

pub build-requires-clause-list : goal.build-requires-clause-list
build-requires-clause-list c = IsSequence-nil c.args.kept.now.jobs

pub returns-clause-done : goal.returns-clause-done
returns-clause-done c =
    let sequence = c.args.sequence.now in
    let built = rw (
      c.copy_from_slice.ensures.after,
      take_at sequence (drop (length sequence) c.args.order.now) (length sequence) refl,
    ) at c.build.ensures.built in
    record {
      found = built.found ∙ (c.first.ensures c.args.kept.now sequence c.args.more.now 0).1;
      long = built.long;
      distinct = built.distinct;
      spanned = built.spanned;
    }
