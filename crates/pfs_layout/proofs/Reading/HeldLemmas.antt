-- No more times are stored than the wanted block has.
use Rattle.pfs_layout.proofs.Words.{◌≡◌, ℕ, ◌≤◌, List, ◌++◌, take, drop, arith, Option, Some, None, inl, inr, Result}
use Rattle.pfs_layout.proofs.Words.{Ok, Err, All, nat_tests, append_assoc, append-nil, by_push, Layout, LayoutFault}
use Rattle.pfs_layout.proofs.Words.{Memory, Phase, Progress, ended_lines, Block, stand_after, stand, byte_fault, Fields}
use Rattle.pfs_layout.proofs.Words.{block_read, time_count, HoldsFew, HasReadIn, FeedMeets}
use Rattle.std.proofs.lemmas.List.Elements.{All-push, All-get_or}
use Rattle.std.proofs.lemmas.Option.{slice_get_cases}
use Rattle.pfs_layout.specs.declared.blocks.Phase.TheVariants as phases
use Rattle.pfs_layout.specs.Reader.{most_times}
use Rattle.pfs_layout.proofs.Files.GoodLemmas.{stand-push, sound}
use Rattle.pfs_layout.proofs.Files.DueLemmas.{no_more_than_due}
use Rattle.pfs_layout.proofs.Reading.ByteSteps.{rejected_memory}
use Rattle.pfs_layout.proofs.Reading.PieceLemmas.{whole_text}

-- ---- blocks with no more times than their size says

abbrev IsFew : Layout → Option Block → Type 0
IsFew layout o = time_count layout o ≤ most_times o

-- no complete block has more times than its size says
all_few : (layout : Layout) (lines : List (List ℕ)) → All (λ b. IsFew layout (Some b)) (stand layout lines).complete
unfolding stand stand_after
all_few layout = by_push (λ lines. All (λ b. IsFew layout (Some b)) (stand layout lines).complete)
    (λ k d none. absurd (omega arith)) (λ lines line all. rw (stand-push layout lines line)
    (grind (arith, nat_tests, All-push {X = Block} (λ b. IsFew layout (Some b)))))

-- nor has the wanted block, if no byte has a fault
few_times : (layout : Layout) (k : ℕ) (text : List ℕ) → byte_fault layout k text ≡ None
    → IsFew layout (block_read layout k text)
unfolding block_read
few_times layout k text right =
    let all = all_few layout (ended_lines text) in
    let good = sound layout k text right in
    grind (arith, nat_tests, no_more_than_due, slice_get_cases, All-get_or {X = Block} (λ b. IsFew layout (Some b)))

-- ---- readers

pub few_in : (phase : Phase) (r : Fields) (text : List ℕ) → HasReadIn phase r text
    → HoldsFew r.layout r.wanted text r.held
unfolding block_read
few_in (phases.Rejected fault) r text s = grind (arith, s, few_times r.layout r.wanted s.front s.sound)
few_in phase r text s = grind (arith, append-nil text, few_times r.layout r.wanted text s.sound, s.blocks.held)

-- after a piece
pub feed_few : (old : Fields) (text piece : List ℕ) (outcome : Result Progress LayoutFault) (new : Fields)
    → FeedMeets old text piece outcome new → (outcome ≡ Err Memory → new.held ≡ 0)
    → HoldsFew old.layout old.wanted (text ++ piece) new.held
feed_few old text piece (Ok progress) new m none =
    let left : List ℕ = drop progress.used piece in
    let h = rw (m.layout, m.wanted) at (few_in new.phase new (text ++ take progress.used piece) m.ok.1) in
    let whole : text ++ piece ≡ h.front ++ (h.rest ++ left) =
    cc (whole_text text piece progress.used, h.whole, append_assoc h.front h.rest left) in
    search
feed_few old text piece (Err fault) new m none = elim (rejected_memory (phases.Rejected fault)) [
  | inl memory ↦ grind arith
  | inr other ↦ rw (m.layout, m.wanted) at (few_in new.phase new (text ++ piece) (m.rejected (λ e. other (rw e))))
]
