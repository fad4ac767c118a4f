use Rattle.std.proofs.Common.{◌<◌, length}
use Rattle.std.proofs.lemmas.List.Sorted.{All-permutation}
use Rattle.pfs_beam.proofs.picks.list_marks.Goals as goal

pub returns-clause-numbers : goal.returns-clause-numbers
returns-clause-numbers c =
    All-permutation (λ entry. entry.1 < length c.args.children.now) c.loop-number.picks.marks.items
    c.sort_unstable.new.self.items c.sort_unstable.ensures.permutation c.loop-number.invariant.numbers
