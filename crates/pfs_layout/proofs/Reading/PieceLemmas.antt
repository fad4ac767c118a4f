-- What a reader promises for a piece.
use Rattle.pfs_layout.proofs.Words.{last_number_ended, take-append-drop, EndsWantedSize, LONGEST_INPUT, append_assoc, ℕ}
use Rattle.pfs_layout.proofs.Words.{number_ended, LONGEST_TIME, open_number, LayoutFault, after_byte, append-nil, arith}
use Rattle.pfs_layout.proofs.Words.{byte_fault, block_read, nat_tests, HasReadIn, FeedMeets, cases_eq, is_digit, length}
use Rattle.pfs_layout.proofs.Words.{take_all, rejected, IsReader, is_blank, Taillard, cases_lt, IsReady, Follows, subst}
use Rattle.pfs_layout.proofs.Words.{HasRead, TooLong, is_live, get_or, Memory, Blocks, Fields, fields, Option, Phase}
use Rattle.pfs_layout.proofs.Words.{OrLib, false, true, ◌&&◌, List, ◌++◌, take, refl, Line, drop, Some, None, ◌≡◌, ◌≢◌}
use Rattle.pfs_layout.proofs.Words.{◌+◌, ◌<◌, ◌≤◌, not, ◌∷◌, ◌∙◌, inl, inr, ◌-◌, sym, ◌%◌, [], ap, TakenTo, Number}
use Rattle.pfs_layout.specs.Private.Step.{TakeMeets, stored, Pushes, LacksMemory}
use Rattle.std.proofs.lemmas.List.{get_or-drop, length-drop, take_more, take-take, length-take-le, get_or-take}
use Rattle.pfs_layout.specs.declared.scan.Digits.{Digits}
use Rattle.std.proofs.Math.Seq.{take-add}
use Rattle.pfs_layout.proofs.Reading.ReaderSteps.{has_read_of, carries, live_follows, step_has_read, follows_ready}
use Rattle.pfs_layout.proofs.Reading.ReaderSteps.{wants_more, sought_now, begun_now}
use Rattle.pfs_layout.specs.declared.blocks.Phase.TheVariants as phases
use Rattle.pfs_layout.proofs.Files.GoodLemmas.{stand_of, long_fault, sound}
use Rattle.pfs_layout.proofs.Reading.ByteSteps.{live-memory, rejected_memory, live_few}
use Rattle.pfs_layout.specs.Reader.{IsRejected, progress_of}
use Rattle.pfs_layout.proofs.Published.PlaceLemmas.{byte_fault-push}
use Rattle.pfs_layout.proofs.Files.InputFaults.{of_place}
use Rattle.pfs_layout.proofs.Files.VerdictLemmas.{faultless_after}
use Rattle.pfs_layout.proofs.Files.EndLemmas.{byte_fault-more}

-- only a line's end begins a block
ends_line_at : (r new : Blocks) (last : Line) (b : ℕ) → LacksMemory r (after_byte r last b) new → b ≡ 10
unfolding number_ended
ends_line_at r new last b lacks = grind (arith, nat_tests, lacks.sought, lacks.begins)

-- ---- the end of the wanted block's size line

wanted_size : {r : Fields} {new : Blocks} {text : List ℕ} {after : Line} (b : ℕ) → Follows r text
    → is_live r.phase ≡ true → length text < LONGEST_INPUT → Pushes r.last b after
    → LacksMemory r.blocks (after_byte r.blocks r.last b) new → EndsWantedSize r.layout r.wanted text b
wanted_size {r = r} {new = new} {text = text} {after = after} b f live short pushes lacks =
    let next : Fields = fields after (after_byte r.blocks r.last b) in
    let follows = live_follows next (text ++ b ∷ []) (rw lacks.begins) (step_has_read b f live short pushes) in
    let begun = begun_now follows lacks.begins in
    let line = ends_line_at r.blocks new r.last b lacks in
    grind (arith, f.blocks.complete, lacks.wanted, sought_now f lacks.sought, begun, carries r.blocks r.last b live)

-- no time is stored before it ends
none_yet : {r next new : Blocks} {last : Line} {text : List ℕ} → Follows (fields last r) text
    → LacksMemory r next new → r.held ≡ 0
none_yet f lacks = grind (arith, f.blocks.complete, f.blocks.held, sought_now f lacks.sought, lacks.wanted)

-- ---- within a piece

module _ {old now : Fields} {piece : List ℕ} {i : ℕ} (t : TakenTo old now piece i) where
  -- the count of the bytes, by the offset
  pub taken_used : TakenTo old now piece (now.digits.offset - old.digits.offset)
  taken_used = let used : now.digits.offset - old.digits.offset ≡ i = omega (arith, t.offset) in rw used t

  -- it has read the bytes too
  pub taken_read : (text : List ℕ) × HasRead old text → (text : List ℕ) × HasRead now text
  taken_read some = (some.0 ++ take i piece, has_read_of (t.follows some.0 some.1))

  -- the bytes of a prefix of the rest
  taken_after : (text : List ℕ) (n : ℕ) → (text ++ take i piece) ++ take n (drop i piece) ≡ text ++ take (i + n) piece
  taken_after text n = append_assoc text (take i piece) _ ∙ ap (λ l. text ++ l) (sym (take-add i n piece))

  -- before each of them, more blocks are needed
  no_more_after : (text : List ℕ) (n m : ℕ) → HasRead old text → m < i + n
      → ((k : ℕ) → k < n → length (stand_of now.layout ((text ++ take i piece) ++ take k (drop i piece))).complete
      < now.wanted)
      → length (stand_of old.layout (text ++ take m piece)).complete < old.wanted
  no_more_after text n m s less later = elim (cases_lt m i) [
    | inl before ↦ t.no_more text s m before
    | inr on ↦
        let same : i + (m - i) ≡ m = omega arith in
        rw same at (rw (t.layout, t.wanted, taken_after text (m - i)) at (later (m - i) (omega arith)))
  ]

  -- the reader after them, if it needs more
  pub taken_more : {next : Fields} {n : ℕ} → TakenTo now next (drop i piece) n → TakenTo old next piece (i + n)
  taken_more {next = next} {n = n} u = record {
    live = u.live;
    layout = u.layout ∙ t.layout;
    wanted = u.wanted ∙ t.wanted;
    offset = omega (arith, t.offset, u.offset);
    follows = λ text s. subst (Follows next) (taken_after text n)
        (u.follows (text ++ take i piece) (has_read_of (t.follows text s)));
    no_more = λ text s m less. no_more_after text n m s less
        (u.no_more (text ++ take i piece) (has_read_of (t.follows text s)));
  }

  ends_after : (text : List ℕ) (n : ℕ)
      → EndsWantedSize now.layout now.wanted ((text ++ take i piece) ++ take n (drop i piece))
      (get_or (drop i piece) n 0)
      → EndsWantedSize old.layout old.wanted (text ++ take (i + n) piece) (get_or piece (i + n) 0)
  ends_after text n ends = rw (t.layout, t.wanted, taken_after text n, get_or-drop i piece n 0) at ends

  -- what all the bytes make of the reader
  pub taken_then : {next : Fields} {n : ℕ} → ((text : List ℕ) → HasRead now text
      → TakeMeets now text (drop i piece) n next) → (text : List ℕ) → HasRead old text
      → TakeMeets old text piece (i + n) next
  taken_then {n = n} then text s =
      let m = then (text ++ take i piece) (has_read_of (t.follows text s)) in
      record {
        layout = m.layout ∙ t.layout;
        wanted = m.wanted ∙ t.wanted;
        has_read = λ well. rw taken_after at (m.has_read well);
        memory = λ e.
            let w = m.memory e in
            (i + w.0, omega (arith, length-drop i piece, w.1), ends_after text w.0 w.2);
        none = m.none;
        no_more = λ k less. no_more_after text n k s less m.no_more;
      }

-- ---- a number that ends

pub open_value : (digits : Digits) (number : Number) → open_number digits ≡ Some number
    → number.value ≡ digits.value
open_value digits number is = grind (arith, nat_tests)

module _ (r : Blocks) (value first : ℕ) (phase : r.phase ≡ phases.Body) (more : r.body.validated < r.body.due) where
  -- a time of Taillard's layout has ended, and it isn't the last of its machine
  pub time_ended : r.layout ≡ Taillard → value ≤ LONGEST_TIME → r.body.job + 1 < r.body.jobs
      → record (stored r r.body value) {
        body = record r.body { validated = r.body.validated + 1; job = r.body.job + 1 };
      } ≡ number_ended r value first
  unfolding number_ended
  time_ended taillard short on = grind (arith, nat_tests)

  -- a machine's number of the OR-Library's layout has ended
  pub machine_ended : r.layout ≡ OrLib → r.body.validated % 2 ≡ 0 → value ≡ r.body.machine
      → record r { body = record r.body { validated = r.body.validated + 1 } } ≡ number_ended r value first
  unfolding number_ended
  machine_ended orlib even is = grind (arith, nat_tests)

  -- the time after it has ended, and it isn't the last of its job
  pub pair_ended : r.layout ≡ OrLib → r.body.validated % 2 ≢ 0 → value ≤ LONGEST_TIME
      → r.body.machine + 1 < r.body.machines
      → record (stored r r.body value) {
        body = record r.body { validated = r.body.validated + 1; machine = r.body.machine + 1 };
      } ≡ number_ended r value first
  unfolding number_ended
  pair_ended orlib odd short on = grind (arith, nat_tests)

module _ {old now : Fields} {piece : List ℕ} {i : ℕ} (t : TakenTo old now piece i) where
  -- a digit that doesn't mix the line changes no block
  pub digit_validated : (is_digit (get_or piece i 0) && not now.kinds.has_word) ≡ true
      → now.blocks ≡ after_byte now.blocks now.last (get_or piece i 0)
  digit_validated quiet = grind (arith, nat_tests)

  -- nor does a word byte or a blank after no number, on a line without a digit
  pub words_validated : is_digit (get_or piece i 0) ≡ false → get_or piece i 0 ≢ 10 → open_number now.digits ≡ None
      → now.kinds.has_digit ≡ false → now.blocks ≡ after_byte now.blocks now.last (get_or piece i 0)
  words_validated digit other empty none = grind (arith, nat_tests, empty)

  -- a blank ends the last number, if there is one
  pub blank_validated : {number : Option Number} → is_blank (get_or piece i 0) ≡ true → number ≡ open_number now.digits
      → last_number_ended now.blocks number ≡ after_byte now.blocks now.last (get_or piece i 0)
  blank_validated blank is = rw (blank, is)

  -- a blank ends this number
  pub number_validated : {number : Number} {next : Blocks} → is_blank (get_or piece i 0) ≡ true
      → open_number now.digits ≡ Some number → next ≡ number_ended now.blocks number.value number.first
      → next ≡ after_byte now.blocks now.last (get_or piece i 0)
  number_validated blank is ended = ended ∙ blank_validated blank (sym is)

module _ {old now : Fields} {piece : List ℕ} {i : ℕ} (t : TakenTo old now piece i) (within : i < length piece)
    (room : old.digits.offset + length piece ≤ LONGEST_INPUT) where
  no_more_then : (text : List ℕ) → HasRead old text → (n : ℕ) → n < i + 1
      → length (stand_of old.layout (text ++ take n piece)).complete < old.wanted
  no_more_then text s n less =
      let f = t.follows text s in
      grind (arith, cases_eq n i, t.no_more text s n, rw t.layout at f.blocks.complete, wants_more f t.live, t.wanted)

  short : (text : List ℕ) → HasRead old text → length (text ++ take i piece) < LONGEST_INPUT
  short text s = let f = t.follows text s in omega (arith, f.last_line.offset, t.offset)

  pub taken_ready : (text : List ℕ) × HasRead old text → IsReady now.blocks
  taken_ready some = follows_ready (t.follows some.0 some.1) t.live

  module _ {after : Line} {next : Blocks} (on : Pushes now.last (get_or piece i 0) after)
      (validates : next.phase ≢ phases.Rejected Memory → next ≡ after_byte now.blocks now.last (get_or piece i 0)) where
    -- unless the allocation failed, the blocks are those after the byte
    well_then : next.phase ≢ phases.Rejected Memory → (next.layout ≡ old.layout) × (next.wanted ≡ old.wanted)
        × ((text : List ℕ) → HasRead old text → HasRead (fields after next) (text ++ take (i + 1) piece))
    well_then well =
        let c = carries now.blocks now.last (get_or piece i 0) t.live in
        rw (validates well) (
          c.layout ∙ t.layout,
          c.wanted ∙ t.wanted,
          λ text s. rw (take_more piece i 0 within, ← append_assoc)
              (step_has_read (get_or piece i 0) (t.follows text s) t.live (short text s) on),
        )

    -- after the byte, if the reader needs more
    pub taken_on : is_live next.phase ≡ true → TakenTo old (fields after next) piece (i + 1)
    taken_on live =
        let then = well_then (live-memory next.phase live) in
        let follows = λ (text : List ℕ) (s : HasRead old text).
        live_follows (fields after next) _ live (then.2 text s) in
        let offset : after.digits.offset ≡ old.digits.offset + (i + 1) = omega (arith, t.offset, on.offset) in
        search no_more_then

    -- after the last byte
    pub taken_end : (next.phase ≡ phases.Rejected Memory
        → LacksMemory now.blocks (after_byte now.blocks now.last (get_or piece i 0)) next)
        → (text : List ℕ) → HasRead old text
        → TakeMeets old text piece (after.digits.offset - old.digits.offset) (fields after next)
    taken_end wants text s =
        let used : after.digits.offset - old.digits.offset ≡ i + 1 = omega (arith, t.offset, on.offset) in
        let no_more = no_more_then text s in
        rw used (elim (rejected_memory next.phase) [
          | inr well ↦ let then = well_then well in grind (arith, then, no_more)
          | inl rejected ↦
              let lacks = wants rejected in
              let f = t.follows text s in
              let size = wanted_size (get_or piece i 0) f t.live (short text s) on lacks in
              grind (arith, lacks.keeps, t, size, none_yet f lacks, no_more)
        ])

  -- a byte that changes no block
  pub taken_quiet : {after : Line} → Pushes now.last (get_or piece i 0) after
      → now.blocks ≡ after_byte now.blocks now.last (get_or piece i 0)
      → TakenTo old (fields after now.blocks) piece (i + 1)
  taken_quiet on same = taken_on on (λ well. same) t.live

-- ---- after a fault, and after the wanted block

-- a reader whose allocation failed has read no text, since no byte has this fault
pub memory_nowhere : (r : Fields) (text : List ℕ) → r.phase ≡ phases.Rejected Memory → HasRead r text → ⊥
memory_nowhere r text e s =
    let rejected : IsRejected r text Memory = subst (λ p. HasReadIn p r text) e s in
    absurd (cc (rw rejected.here at (of_place r.layout rejected.front (Some rejected.byte) r.wanted)))

-- the fault of a reader is that of the text
pub rejected_fault : (r : Fields) (text : List ℕ) (fault : LayoutFault) → IsRejected r text fault
    → byte_fault r.layout r.wanted text ≡ Some fault
rejected_fault r text fault f =
    rw (f.whole, ← append_assoc f.front (f.byte ∷ []) f.rest)
    (byte_fault-more r.layout r.wanted _ f.rest fault (rw (byte_fault-push, f.sound, f.here)))

-- when a reader is done, the wanted block is complete
pub done_enough : (r : Fields) (text : List ℕ) → Follows r text → r.phase ≡ phases.Done
    → r.wanted ≤ length (stand_of r.layout text).complete
done_enough r text f e = grind (arith, nat_tests, f.blocks.complete, f.blocks.now)

-- while it needs more bytes, it is not
pub live_wants : (r : Fields) (text : List ℕ) → Follows r text → is_live r.phase ≡ true
    → length (stand_of r.layout text).complete < r.wanted
live_wants r text f live = omega (arith, f.blocks.complete, live_few _ r.blocks _ _ f.blocks.now live)

-- ---- what `feed` promises

pub whole_text : (text piece : List ℕ) (used : ℕ) → text ++ piece ≡ (text ++ take used piece) ++ drop used piece
whole_text text piece used = rw (append_assoc, take-append-drop)

module _ {old new : Fields} {text piece : List ℕ} {used : ℕ} (m : TakeMeets old text piece used new) where
  -- the reader after a piece, or after a failed allocation
  pub reader_of : IsReader new
  reader_of = record { has_read = λ h. (text ++ take used piece, m.has_read h); none = m.none }

  pub feed_of : used ≤ length piece → (is_live new.phase ≡ true → used ≡ length piece)
      → FeedMeets old text piece (progress_of new.phase used) new
  feed_of within whole = by_phase new.phase refl
    where
      taken : List ℕ
      taken = text ++ take used piece

      by_phase : (p : Phase) → new.phase ≡ p → FeedMeets old text piece (progress_of p used) new
      by_phase phases.Done e =
          let follows : Follows new taken = subst (λ p. HasReadIn p new taken) e (m.has_read (λ z. cc)) in
          let right = faultless_after new.layout new.wanted taken (drop used piece) (done_enough new taken follows e)
          follows.sound in
          grind (arith, m, e, whole_text text piece used)
      by_phase (phases.Rejected fault) e =
          let stood : fault ≢ Memory → IsRejected new (text ++ piece) fault = λ other.
          let here = subst (λ p. HasReadIn p new taken) e (m.has_read (λ z. other (cc))) in
          rw (whole_text text piece used) (grind (arith, here, append_assoc {A = ℕ})) in
          grind (arith, m, stood, rejected_fault new (text ++ piece) fault)
      by_phase phase e =
          let live : is_live new.phase ≡ true = rw e in
          let follows = live_follows new taken live (m.has_read (live-memory new.phase live)) in
          let right = rw (take_all used piece (omega (arith, whole live)), m.layout, m.wanted) at follows.sound in
          grind (arith, m, e, whole live)

-- a reader that needs no more bytes uses none
pub idle_meets : (r : Fields) (text piece : List ℕ) → HasRead r text → TakeMeets r text piece 0 r
idle_meets r text piece s = grind (arith, memory_nowhere r text, append-nil {A = ℕ})

-- ---- a piece that exceeds the limit

-- what holds for the bytes used of a prefix holds for the piece
pub front_meets : {old new : Fields} {text : List ℕ} {used : ℕ} (piece : List ℕ) (room : ℕ)
    → TakeMeets old text (take room piece) used new → room ≤ length piece → used ≤ room
    → TakeMeets old text piece used new
front_meets piece room m within few = grind (arith, m, take-take, get_or-take, length-take-le)

-- if all of a prefix up to the limit was used, the byte after it has the fault `TooLong`
pub long_meets : {old mid : Fields} {text : List ℕ} {used : ℕ} (piece : List ℕ) (room : ℕ)
    → TakeMeets old text (take room piece) used mid → used ≡ room → mid.digits.offset ≡ LONGEST_INPUT
    → room < length piece → is_live mid.phase ≡ true
    → TakeMeets old text piece (room + 1) (fields mid.last (rejected mid.blocks TooLong))
unfolding block_read
long_meets {mid = mid} {text = text} piece room m all full within live =
    let front = front_meets piece room m (omega arith) (omega arith) in
    let taken : List ℕ = text ++ take room piece in
    let follows = live_follows mid taken live (rw all at (front.has_read (live-memory mid.phase live))) in
    let wants = live_wants mid taken follows live in
    let good = (sound mid.layout mid.wanted taken follows.sound wants).1 in
    let here = long_fault mid.layout mid.wanted taken (get_or piece room 0) wants good (omega arith) in
    let whole : text ++ take (room + 1) piece ≡ taken ++ get_or piece room 0 ∷ [] =
    rw (take_more piece room 0 within, append_assoc) in
    grind (arith, m, front.no_more, cases_eq, follows.sound, follows.blocks.held)
