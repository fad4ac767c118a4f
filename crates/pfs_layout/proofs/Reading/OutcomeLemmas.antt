-- What `finish` promises: the end of the input is checked as a line end would be, and then for what is missing.
use Rattle.pfs_layout.proofs.Words.{◌≡◌, ℕ, ◌-◌, ◌≤◌, true, List, [], refl, ◌∙◌, arith, Option, Some, None, inl, inr}
use Rattle.pfs_layout.proofs.Words.{Result, Ok, Err, option_or, result_err, nat_tests, lt-ltb, append-nil, Problem}
use Rattle.pfs_layout.proofs.Words.{LayoutFault, Phase, Blocks, lines, ends_early, fault_of_place, rejection, accepted}
use Rattle.pfs_layout.proofs.Words.{line_ended, has_numbers_alone, at_end, is_live, Fields, Follows, HasReadIn, HasRead}
use Rattle.pfs_layout.proofs.Words.{FinishMeets, cases_option}
use Rattle.std.specs.Result.{result_ok}
use Rattle.pfs_layout.specs.declared.blocks.Phase.TheVariants as phases
use Rattle.pfs_layout.specs.Private.Step.{end_fault}
use Rattle.pfs_layout.proofs.Files.FileLemmas.{made}
use Rattle.pfs_layout.proofs.Files.GoodLemmas.{stand_of, sound, fault_within_limit, enough_right}
use Rattle.pfs_layout.proofs.Files.VerdictLemmas.{end_faults, stand_lines, block_stays, unrejected_holds}
use Rattle.pfs_layout.proofs.Files.VerdictLemmas.{holds_accepted}
use Rattle.pfs_layout.proofs.Published.LawLemmas.{accepted_law}
use Rattle.pfs_layout.proofs.Published.PlaceLemmas.{rejection_is, rejection_end}
use Rattle.pfs_layout.proofs.Reading.ReaderSteps.{carries}
use Rattle.pfs_layout.proofs.Reading.ByteSteps.{end_byte}
use Rattle.pfs_layout.proofs.Reading.PieceLemmas.{rejected_fault, done_enough, live_wants}

-- ---- the end of the input

-- the blocks after the end, as after a line end
abbrev pub after_end : Fields → Blocks
after_end r = line_ended (at_end r.last r.blocks) (has_numbers_alone r.kinds)

-- the reader's fault is that of the input, and if there is none, its instance is that of the input
record EndOutcome (r : Fields) (text : List ℕ) : Type 0 where
  pub some : 1 ≤ r.wanted
  pub fault : rejection r.layout text r.wanted ≡ end_fault (after_end r)
  pub instance : end_fault (after_end r) ≡ None
      → (at_end r.last r.blocks).instance ≡ accepted r.layout text r.wanted

-- a reader that needs more bytes: the last number and the last line end as they do before a line end, and the
-- blocks after it say what is missing then
live_end : (r : Fields) (text : List ℕ) → Follows r text → is_live r.phase ≡ true → EndOutcome r text
unfolding fault_of_place ends_early line_ended accepted
live_end r text f live =
    let few = live_wants r text f live in
    let good = (sound r.layout r.wanted text f.sound few).1 in
    let found : Option LayoutFault = fault_within_limit r.layout (stand_of r.layout text).now text 10 in
    let outcome = end_byte r.blocks r.last text 10 _ _ refl live f.five_values f.line f.last_line f.blocks good in
    let faults : rejection r.layout text r.wanted ≡ option_or found (ends_early r.layout r.wanted text None) =
    rw (rejection_end r.layout r.wanted text, f.sound, lt-ltb _ _ few) (end_faults r.layout r.wanted _ text good) in
    elim (cases_option found) [
      | inr one ↦ let rejects = rw one.1 at outcome in grind (arith, f.some, faults, one.1, rejects.phase)
      | inl none ↦
          let keeps = carries r.blocks r.last 10 live in
          let m = made r.layout (lines text) in
          let follows = rw (none, ← stand_lines r.layout text good) at outcome in
          grind (arith, nat_tests, f.some, faults, keeps, follows.complete, follows.instance, m.fits)
    ]

-- a reader in this phase
end_outcome : (p : Phase) (r : Fields) (text : List ℕ) → r.phase ≡ p → HasReadIn p r text → EndOutcome r text
unfolding line_ended accepted
-- the wanted block is complete before the last line
end_outcome phases.Done r text e f =
    let enough = done_enough r text f e in
    let none = enough_right r.layout r.wanted text None enough in
    let stays = rw append-nil at (block_stays r.layout text [] (r.wanted - 1) (omega (arith, f.some))) in
    grind (arith, nat_tests, rejection_end r.layout r.wanted text, f, none, stays)
end_outcome (phases.Rejected fault) r text e f =
    grind (arith, enough_right, f.here, rejection_end r.layout r.wanted text, rejected_fault r text fault f)
end_outcome phase r text e f = live_end r text f (rw e)

-- ---- the verdict

-- `finish` returns the accepted problem, or the fault
meets : {r : Fields} {text : List ℕ} {outcome : Result Problem LayoutFault} → 1 ≤ r.wanted
    → accepted r.layout text r.wanted ≡ result_ok outcome → rejection r.layout text r.wanted ≡ result_err outcome
    → FinishMeets r text outcome
meets {r} {text} some ok err = record {
  file = λ other. let accepts = accepted_law r.layout text r.wanted other some in grind arith;
  rejected = λ other. let rejects = rejection_is r.layout text r.wanted other in grind arith;
}

-- for a reader that has read this text, the end of the input is checked in this way
pub finish_reports : (r : Fields) (text : List ℕ) → HasRead r text
    → ((fault : LayoutFault) → end_fault (after_end r) ≡ Some fault → FinishMeets r text (Err fault))
    × (end_fault (after_end r) ≡ None
    → (problem : Problem) × ((at_end r.last r.blocks).instance ≡ Some problem) × FinishMeets r text (Ok problem))
unfolding accepted
finish_reports r text s =
    let o = end_outcome r.phase r text refl s in (
      λ fault e. meets o.some (rw (o.fault ∙ e)) (o.fault ∙ e),
      λ e.
          let held = unrejected_holds r.layout r.wanted o.some text (o.fault ∙ e) in
          let is = holds_accepted r.layout r.wanted text held.0 held.1 in
          (held.0, o.instance e ∙ is, meets o.some is (o.fault ∙ e)),
    )

-- ---- two results for the same bytes

pub same_results : (one other : Fields) (text : List ℕ) (returned second : Result Problem LayoutFault)
    → one.layout ≡ other.layout → one.wanted ≡ other.wanted
    → FinishMeets one text returned → FinishMeets other text second → returned ≡ second
same_results one other text (Ok problem) second layouts blocks m n = grind (arith, m.file problem, n.file problem)
same_results one other text (Err fault) second layouts blocks m n = grind (arith, m.rejected fault, n.rejected fault)
