-- A reader that reads the pieces of a source.
use Rattle.pfs_layout.proofs.Words.{RejectsInstance, IsInstanceFile, EndsWantedSize, append_assoc, cases_option, length}
use Rattle.pfs_layout.proofs.Words.{slice_index, LayoutFault, FinishMeets, result_err, byte_fault, HasReadIn, FeedMeets}
use Rattle.pfs_layout.proofs.Words.{take_all, Progress, Problem, is_live, Follows, HasRead, Option, Result, limits, ◌≡◌}
use Rattle.pfs_layout.proofs.Words.{Layout, Memory, Fields, false, subst, arith, true, List, ◌++◌, take, drop, refl, []}
use Rattle.pfs_layout.proofs.Words.{Some, Bool, Read, ◌≢◌, ◌<◌, ◌≤◌, inl, inr, Err, ◌↔◌, ap, Ok, ℕ}
use Rattle.std.specs.Prelude.{IfSome}
use Rattle.std.specs.Io.KnownBytes.{Keeps, Consumes}
use Rattle.pfs_layout.specs.declared.blocks.Phase.TheVariants as phases
use Rattle.pfs_layout.specs.declared.reader.TheConstants.{PIECE}
use Rattle.pfs_layout.specs.Reader.{IsUndecided, ReadsAsFar}
use Rattle.pfs_layout.proofs.Files.EndLemmas.{fault_stays, free_after}
use Rattle.pfs_layout.proofs.Reading.PieceLemmas.{whole_text, rejected_fault, done_enough, live_wants}
use Rattle.pfs_layout.proofs.Reading.ReaderSteps.{live_follows}
use Rattle.pfs_layout.proofs.Files.FileLemmas.{completes_file}
use Rattle.pfs_layout.proofs.Files.VerdictLemmas.{enough_holds}
use Rattle.std.proofs.lemmas.Bool.{both_ways}
use Rattle.pfs_layout.proofs.Files.InputFaults.{is_input_fault, rejected_input}

-- ---- which faults `read_block` can return

-- the end of an input has no fault but those of inputs
pub finish_named : {r : Fields} {text : List ℕ} {outcome : Result Problem LayoutFault} → FinishMeets r text outcome
    → (fault : LayoutFault) → is_input_fault fault ≡ false → outcome ≢ Err fault
finish_named {r} {text} meets fault other e =
    both_ways _ other (rejected_input r.layout text r.wanted fault ((meets.rejected fault).0 e))

-- a piece has no other fault either, unless the allocation failed
pub feed_named : {r new : Fields} {text piece : List ℕ} {found : LayoutFault} → FeedMeets r text piece (Err found) new
    → (fault : LayoutFault) → fault ≢ Memory → is_input_fault fault ≡ false → found ≢ fault
feed_named {r} {text} {piece} meets fault no_memory other e =
    let here = (meets.exact (λ z. no_memory (cc)) fault).0 (ap Err e) in
    both_ways _ other (rejected_input r.layout _ r.wanted fault (fault_stays r.layout _ [] r.wanted fault here))

-- if P is false and the device has not failed, then P holds exactly if the device has failed
pub never_failed : {P : Type 0} {failed : Bool} → failed ≡ false → ¬ P → P ↔ (failed ≡ true)
never_failed working never = grind arith

-- ---- pieces

-- A reader of the block is given the pieces that its source returns. It has read a prefix of what the source had
-- left at first, if that is known.
pub record Reading (layout : Layout) (k : ℕ) (first left : Option (List ℕ)) (r : Fields) : Type 0 where
  pub layout_is : r.layout ≡ layout
  pub wanted_is : r.wanted ≡ k
  pub live : is_live r.phase ≡ true
  pub front : List ℕ
  pub has_read : HasRead r front
  pub known : (text : List ℕ) → first ≡ Some text → (rest : List ℕ) × (left ≡ Some rest) × (text ≡ front ++ rest)

module _ {layout : Layout} {k : ℕ} {first left : Option (List ℕ)} {r : Fields} (t : Reading layout k first left r)
    (next : Option (List ℕ)) (piece : List ℕ) (c : Consumes left next piece) where
  -- what is left of the bytes, if they are known
  whole : (text : List ℕ) → first ≡ Some text
      → (more : List ℕ) × (next ≡ Some more) × (text ≡ (t.front ++ piece) ++ more)
  whole text e = let rest = t.known text e in grind (arith, append_assoc {A = ℕ})

  reported_after : (P : List ℕ → Type 0) → ((more : List ℕ) → next ≡ Some more → P ((t.front ++ piece) ++ more))
      → IfSome first P
  reported_after P all = elim (cases_option first) [
    | inl none ↦ rw none tt
    | inr some ↦ let more = whole some.0 some.1 in rw (some.1, more.2) (all more.0 more.1)
  ]

  -- after one more piece
  pub reading_more : {new : Fields} {progress : Progress} → FeedMeets r t.front piece (Ok progress) new
      → progress.done ≡ false → Reading layout k first next new
  reading_more {new} {progress} m still =
      let all = take_all progress.used piece (omega (arith, m.whole still)) in
      let has_read : HasRead new (t.front ++ piece) = rw all at m.ok.1 in
      let no_fault : (fault : LayoutFault) → byte_fault new.layout new.wanted (t.front ++ piece) ≢ Some fault =
      λ fault e. cc ((m.exact (λ z. cc) fault).1 (rw (m.layout, m.wanted) at e)) in
      let live : is_live new.phase ≡ true = grind (arith, m.done, no_fault, rejected_fault new (t.front ++ piece)) in
      grind (arith, m, t, has_read, live, whole)

  -- the piece has a fault
  pub reading_fault : {new : Fields} {fault : LayoutFault} → FeedMeets r t.front piece (Err fault) new → fault ≢ Memory
      → IfSome first (λ bytes. RejectsInstance layout bytes k fault)
  reading_fault {fault} m other = reported_after _ (λ more e.
      let here = (m.exact (λ z. other (cc)) fault).0 refl in
      rw (t.layout_is, t.wanted_is) at (fault_stays r.layout (t.front ++ piece) more r.wanted fault here))

  -- the wanted block has ended in the piece
  pub reading_done : {new : Fields} {progress : Progress} {outcome : Result Problem LayoutFault}
      → FeedMeets r t.front piece (Ok progress) new → progress.done ≡ true
      → FinishMeets new (t.front ++ take progress.used piece) outcome → (problem : Problem) × (outcome ≡ Ok problem)
      × IfSome first (λ bytes. IsInstanceFile limits layout bytes k problem)
  reading_done {new} {progress} m ended meets =
      let front : List ℕ = t.front ++ take progress.used piece in
      let phase : new.phase ≡ phases.Done = m.done.0 ended in
      let follows : Follows new front = subst (λ p. HasReadIn p new front) phase m.ok.1 in
      let enough = done_enough new front follows phase in
      let held = enough_holds new.layout new.wanted follows.some front follows.sound enough in
      let here = completes_file new.layout front new.wanted held.0 held.1.0 in (
        held.0,
        (meets.file held.0).1 here,
        reported_after _ (λ more e.
            let file = (free_after new.layout front (drop progress.used piece ++ more) new.wanted held.0 follows.some
            follows.sound enough).0 here in
            rw (whole_text t.front piece progress.used, append_assoc front (drop progress.used piece) more)
            (simp (m.layout, t.layout_is, m.wanted, t.wanted_is) at file)),
      )

  -- ---- how far the input is read

  -- after a read that returned this piece, or none
  reads_piece : (fault : Option LayoutFault) → length piece ≤ PIECE → (fault ≡ Some Read → piece ≡ [])
      → (fault ≡ Some Memory
      → (n : ℕ) × (n < length piece) × EndsWantedSize layout k (t.front ++ take n piece) (slice_index piece n))
      → IfSome first (λ bytes. ReadsAsFar layout k bytes next fault)
  reads_piece fault size failed memory = reported_after _ (λ more e.
      let f = live_follows r t.front t.live t.has_read in
      let wanted : IsUndecided layout k t.front = grind (arith, f.sound, live_wants r t.front f t.live, t) in
      search)

  -- the input ends after the piece, or the wanted block has ended in it
  pub reads_ended : {new : Fields} {text : List ℕ} {outcome : Result Problem LayoutFault} → length piece ≤ PIECE
      → FinishMeets new text outcome → IfSome first (λ bytes. ReadsAsFar layout k bytes next (result_err outcome))
  reads_ended {outcome = outcome} size meets =
      reads_piece (result_err outcome) size (λ e. absurd (finish_named meets Read refl (grind arith)))
      (λ e. absurd (finish_named meets Memory refl (grind arith)))

  -- the piece has a fault, or the allocation failed in it
  pub reads_fault : {new : Fields} {fault : LayoutFault} → length piece ≤ PIECE
      → FeedMeets r t.front piece (Err fault) new → IfSome first (λ bytes. ReadsAsFar layout k bytes next (Some fault))
  reads_fault {fault} size m =
      reads_piece (Some fault) size (λ e. absurd (feed_named m Read (λ z. cc) refl (cc)))
      (λ e. rw (t.layout_is, t.wanted_is) at (m.memory (cc)))

-- the read failed
pub reads_failed : {layout : Layout} {k : ℕ} {first left : Option (List ℕ)} {r : Fields}
    → Reading layout k first left r → (next : Option (List ℕ)) → Keeps left next
    → IfSome first (λ bytes. ReadsAsFar layout k bytes next (Some Read))
reads_failed {left} t next kept =
    reads_piece t next [] (grind arith) (Some Read) (omega arith) (λ e. refl) (λ e. absurd (cc))
