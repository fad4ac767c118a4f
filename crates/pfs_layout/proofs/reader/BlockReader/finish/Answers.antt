-- `finish` returns what the definitions say of the input, and an accepted instance is stored.
use Rattle.pfs_layout.proofs.Words.{◌≡◌, sym, ◌∙◌, line_ended, inl, inr}
use Rattle.pfs_layout.proofs.Reading.OutcomeLemmas.{finish_reports}
use Rattle.pfs_layout.proofs.Reading.ByteSteps.{rejected_memory}
use Rattle.pfs_layout.proofs.reader.BlockReader.finish.Goals as goal

pub returns-in-Some-clause-meets : goal.returns-in-Some-clause-meets
returns-in-Some-clause-meets c text =
    rw (← c.self.view_is) (λ s. (finish_reports _ text s).0 _ (sym c.validate_end.ensures.fault ∙ c.in-Some.is))

-- if the input may end here, the wanted block is complete
pub unreachable-requires : goal.unreachable-requires
unfolding line_ended
unreachable-requires c =
    let known = sym c.validate_end.ensures.fault ∙ c.in-None.is in
    elim (rejected_memory c.self.inside.blocks.phase) [
      | inl e ↦ let rejected = rw e at known in cc
      | inr other ↦ let at = c.self.invariant.has_read other in cc (((finish_reports _ at.0 at.1).1 known).1)
    ]

pub returns-in-Some-instance-clause-meets : goal.returns-in-Some-instance-clause-meets
returns-in-Some-instance-clause-meets c text =
    rw (← c.self.view_is) (λ s.
    let known = (finish_reports _ text s).1 (sym c.validate_end.ensures.fault ∙ c.in-None.is) in
    let same : c.in-Some-instance.instance ≡ known.0 = cc in
    rw same known.2)
