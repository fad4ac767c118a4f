-- From what is written into a buffer to what its writer has after the buffer was flushed.
use Rattle.std.proofs.Common.{◌≡◌, ℕ, ◌≤◌, Bool, false, List, [], ◌∷◌, ◌++◌, Option, None, Some, Result, Ok, Err}
use Rattle.std.proofs.Common.{length, map, take, sym, ap, ◌∙◌, refl, arith, take-take, inl, inr}
use Rattle.std.proofs.Common.{length-append, length-take}
use Rattle.std.proofs.Math.Seq.{take-append_seam, take-length}
use Rattle.std.specs.Io.KnownBytes.{Appends, Keeps}
use Rattle.pfs_base.specs.Buffer.{Buffering, IsNew, bytes_given}
use Rattle.pfs_base.proofs.Published.BufferLemmas.{Parts, new_given, given_parts, given_all}
use Rattle.pfs_layout.specs.declared.layout.Layout.TheVariants.{Taillard}
use Rattle.pfs_words.specs.declared.job.Job.{Job}
use Rattle.pfs_words.specs.declared.job.Job.TheVariants as job
use Rattle.pfs_words.specs.Jobs.{AsksFor, AsksForNothing}
use Rattle.pfs_words.specs.declared.usage.UsageFault.{UsageFault}
use Rattle.pfs_words.specs.declared.usage.UsageFault.TheVariants as usage_faults
use Rattle.pfs_desk.specs.declared.fault.Outcome.{Outcome}
use Rattle.pfs_desk.specs.declared.stop.Stop.{Stop}
use Rattle.pfs_desk.specs.Private.Ending.{EndsOutput, ReportsSent}
use Rattle.pfs_desk.specs.Uses.{IsUnread, SinkUse, SourceUse, files_use, sink_use}
use Rattle.pfs_desk.specs.Program.{JobResult, prints, stops, WritesResult, reports_write}
use Rattle.pfs_desk.specs.ProgramText.{usage_stop}
use Rattle.pfs_desk.specs.FileState.{FileEvent, FileState}
use Rattle.pfs_desk.specs.WholeProgram.{WritesPrefix, IsFront, RejectsWords, Runs, WritesText, WordsAskFor}

pub asks_for : {A : Type 0} (f : A → List ℕ) (words : List A) (asked : Job)
    → (words ≡ [] → asked ≡ job.Value Taillard 1 None)
    → ((word : List ℕ) (others : List (List ℕ)) → map f words ≡ word ∷ others → AsksFor word others asked)
    → WordsAskFor (map f words) asked
asks_for f [] asked none some = none refl
asks_for f (x ∷ xs) asked none some = some (f x) (map f xs) refl

appended : (b c : Option (List ℕ)) (text : List ℕ) → Appends (Some []) b text → Keeps b c → c ≡ Some text
appended b c text p q = grind arith

-- a prefix of a prefix of a text is a prefix of the text
front_of_parts : (out : Option (List ℕ)) (held : List ℕ) (sent k reported : ℕ) (text : List ℕ)
    → Parts out held sent (take k text) → reported ≡ sent → IsFront text out reported
front_of_parts out held sent k reported text parts same =
    let bytes = parts.bytes in
    let long = length-append bytes held in
    let whole = ap length parts.whole in
    let cut = length-take k text in
    let few : length bytes ≤ k = omega arith in
    record {
      count = length bytes;
      within = omega arith;
      is_prefix = parts.known ∙ ap Some (sym (take-append_seam bytes held) ∙ ap (take (length bytes)) parts.whole
          ∙ take-take (length bytes) k text few);
      reported_is = same ∙ parts.count;
    }

none_of_none : (bytes held : List ℕ) → bytes ++ held ≡ [] → bytes ≡ []
none_of_none [] held p = refl
none_of_none (x ∷ xs) held p = cc

-- a stop that reports no failed write is kept
stays : (stop : Stop) (held : List ℕ) (sent : ℕ) (ended : Result Outcome Stop) → reports_write (Err stop) ≡ false
    → EndsOutput (Err stop) held sent ended → ended ≡ Err stop
stays stop held sent ended unwritten q = grind arith

module _ {W : Type 0} (written : W → Option (List ℕ)) (old mid new : Buffering W)
    (kept : Keeps (bytes_given written mid) (bytes_given written new)) where
  given-text : (text : List ℕ) → Appends (bytes_given written old) (bytes_given written mid) text
      → IsNew written old → bytes_given written new ≡ Some text
  given-text text p fresh = appended _ _ text (rw (new_given written old fresh) at p) kept

  given-nothing : bytes_given written mid ≡ bytes_given written old → IsNew written old
      → written new.writer ≡ Some []
  given-nothing p fresh =
      let none : Appends (bytes_given written old) (bytes_given written mid) [] =
      rw (p, new_given written old fresh) refl in
      let parts = given_parts written new [] (given-text [] none fresh) in
      parts.known ∙ ap Some (none_of_none parts.bytes new.held parts.whole)

  front_reported : (text : List ℕ) (k : ℕ) (ended : Result Outcome Stop)
      → Appends (bytes_given written old) (bytes_given written mid) (take k text) → ReportsSent new.sent ended
      → WritesPrefix text (IsNew written old) (written new.writer) ended
  front_reported text k ended p q = record {
    fault = q.fault;
    reported = q.reported;
    front = λ fresh. front_of_parts _ new.held new.sent k _ text (given_parts written new _ (given-text _ p fresh))
        q.counted;
  }

  abbrev sent_on : Bool → SinkUse
  sent_on failed = sink_use (written old.writer) (written new.writer) failed

  pub writes_text : (failed failed' : Bool) (returned : JobResult) (reached ended : Result Outcome Stop)
      → failed ≡ reports_write reached → failed' ≡ reports_write ended
      → WritesResult (sink_use (bytes_given written old) (bytes_given written mid) failed) returned reached
      → EndsOutput reached new.held new.sent ended
      → WritesText (IsNew written old) (sent_on failed') returned ended
  writes_text failed failed' (prints outcome text) reached ended t t' (inl p) q =
      let ends : EndsOutput (Ok outcome) new.held new.sent ended = rw p.0 at q in
      elim ends [
        | inl r ↦ inl (r.0, λ fresh. given_all written new text (given-text text p.1 fresh) r.1)
        | inr r ↦ inr (front_reported text (length text) ended (rw (take-length text) p.1) r)
      ]
  writes_text failed failed' (prints outcome text) reached ended t t' (inr p) q =
      inr (front_reported text _ ended p.front.bytes (rw p.reported at q))
  writes_text failed failed' (stops stop) reached ended t t' p q =
      let unwritten : reports_write (Err stop) ≡ false = rw p.0 at (sym t ∙ p.1) in
      let same = stays stop new.held new.sent ended unwritten (rw p.0 at q) in
      (same, t' ∙ rw same unwritten, given-nothing p.2)

-- the arguments are invalid, or a memory allocation failed
rejects_words : {A : Type 0} (f : A → List ℕ) (words : List A) (fault : UsageFault) → (words ≡ [] → ⊥)
    → ((word : List ℕ) (others : List (List ℕ)) → map f words ≡ word ∷ others → fault ≡ usage_faults.Usage
    → AsksForNothing word others) → RejectsWords (map f words) (stops (usage_stop fault))
rejects_words f [] fault some usage = absurd (some refl)
rejects_words f (x ∷ xs) usage_faults.Usage some usage = usage (f x) (map f xs) refl refl
rejects_words f (x ∷ xs) usage_faults.Memory some usage = tt

usage_reports : (fault : UsageFault) → reports_write (Err (usage_stop fault)) ≡ false
usage_reports fault = grind arith

pub gives_rejection : {A : Type 0} (f : A → List ℕ) (words : List A) (state : List ℕ → FileState)
    (log : Option (List FileEvent)) (input : SourceUse) (fresh : Type 0) (output : SinkUse)
    (fault : UsageFault) (ended : Result Outcome Stop) → ended ≡ Err (usage_stop fault) → IsUnread input
    → output.failed ≡ false → (fresh → output.new ≡ Some []) → (words ≡ [] → ⊥)
    → ((word : List ℕ) (others : List (List ℕ)) → map f words ≡ word ∷ others → fault ≡ usage_faults.Usage
    → AsksForNothing word others) → Runs (map f words) (files_use state log log) input fresh output ended
gives_rejection f words state log input fresh output fault ended e unread working nothing some usage = record {
  returned = stops (usage_stop fault);
  is_result = inl (record { rejected = rejects_words f words fault some usage; none_opened = refl; unread = unread });
  is_written = (e, working, nothing);
  write_failed = rw e (working ∙ sym (usage_reports fault));
}
