use Rattle.std.proofs.Common.{◌≡◌, ap}
use Rattle.pfs_order.specs.Sequence.{Sequence}
use Rattle.pfs_iterate.proofs.iterated.Iterated.choose.Goals as goal

pub returns-clause-chosen : goal.returns-clause-chosen
returns-clause-chosen c =
    let begun : c.set.new.self.jobs ≡ c.args.sequence.now = ap (λ (s : Sequence). s.jobs) c.set.ensures in
    let found = c.put.ensures.place in
    record {
      place_is = rw (begun, c.by_ties.ensures) at found.place_is;
      within = rw begun at found.within;
      span_is = rw begun at found.spanned;
    }
