-- What a reader has read, before the first byte and after one more byte.
use Rattle.pfs_layout.proofs.Words.{CEILING, ◌-◌, ◌≡◌, ℕ, ◌+◌, ◌≤◌, Bool, true, length, Option, Some, None, arith, ◌⊎◌}
use Rattle.pfs_layout.proofs.Words.{inl, inr, Blocks, is_live, ◌*◌, ◌<◌, not, ◌&&◌, ◌||◌, List, [], ◌∷◌, ◌++◌}
use Rattle.pfs_layout.proofs.Words.{if◌then◌else◌, ◌==◌, list_any, length_push, list_any-append, is_digit, is_line_end}
use Rattle.pfs_layout.proofs.Words.{is_word_byte, open_line, is_no_digit, last_digits, FollowsLine, Layout, Line}
use Rattle.pfs_layout.proofs.Words.{ended_parts, open_part, ended_numbers, stand, byte_fault, fields, HasRead, sym, ◌∙◌}
use Rattle.pfs_layout.proofs.Words.{subst, mul-le-mul, nat_tests, length-append, cases_Bool, LONGEST_INPUT, LayoutFault}
use Rattle.pfs_layout.proofs.Words.{is_blank, due_count, Block, seeking, inside, instance_of, standing, fault_of_place}
use Rattle.pfs_layout.proofs.Words.{min, no_numbers, open_number, IsReady, Fields, block_read, FollowsBlocks, Follows}
use Rattle.pfs_layout.proofs.Words.{IsReader, cases_option, after_byte, line_ended}
use Rattle.pfs_layout.specs.declared.blocks.Phase.TheVariants as phases
use Rattle.pfs_layout.specs.Private.Step.{Pushes, CanCount}
use Rattle.std.proofs.lemmas.Int.Digits.{digits_value_push}
use Rattle.std.proofs.lemmas.List.Sums.{sum_by_push, count_by-le-length}
use Rattle.pfs_layout.proofs.Files.LineLemmas.{open_part-push}
use Rattle.pfs_layout.proofs.Published.PlaceLemmas.{byte_fault-push}
use Rattle.pfs_layout.proofs.Files.GoodLemmas.{ended_none, fault_within_limit, place_fault, GoodNow, stand_of, sound}
use Rattle.pfs_layout.proofs.Files.GoodLemmas.{stand_of-on, stand_of-end, open_line-on, open_line-end}
use Rattle.pfs_layout.proofs.Files.DueLemmas.{size_within}
use Rattle.pfs_layout.proofs.Reading.NumberSteps.{IsRejection, Outcome, holds_none}
use Rattle.pfs_layout.proofs.Reading.ByteSteps.{live_few, valid_gap, byte_on, end_byte, live-memory, keeps_last}

-- ---- the last line with one byte more

pub line_push : {old new : Line} {b : ℕ} → new.digits.offset ≡ old.digits.offset + 1
    → new.digits.first ≡ (if is_digit b then old.digits.first else old.digits.offset + 1)
    → new.digits.value ≡ (if is_digit b then min CEILING (old.digits.value * 10 + (b - 48)) else 0)
    → new.kinds.has_digit ≡ (is_digit b || (not (b == 10) && old.kinds.has_digit))
    → new.kinds.has_word ≡ (not (b == 10) && (old.kinds.has_word || not (is_digit b || is_blank b)))
    → Pushes old b new
line_push {b = b} offset first value digit word = record {
  offset = offset;
  follows = λ text f.
      let count = length_push text b in
      let run = open_part-push is_no_digit text b in
      let line = open_part-push is_line_end text b in
      record {
        offset = omega (arith, offset, f.offset);
        first = grind (arith, first, run, length_push (last_digits text) b, f.first, f.offset);
        value = grind (arith, value, run, digits_value_push 10 (last_digits text) b, f.value);
        has_digit = grind (arith, digit, line, list_any-append {X = ℕ}, f.has_digit);
        has_word = grind (arith, word, line, list_any-append {X = ℕ}, f.has_word);
      };
}

-- ---- a reader that has read nothing

-- a new reader has read the empty text
pub new_has_read : (last : Line) (r : Blocks) → FollowsLine last [] → 1 ≤ r.wanted
    → r ≡ record r { complete = 0; line = 1; phase = phases.Seeking; size_line = no_numbers; instance = None; held = 0 }
    → HasRead (fields last r) []
unfolding byte_fault ended_parts open_part stand ended_numbers
new_has_read last r line some is = rw is (grind (arith, nat_tests, holds_none))

-- ---- what a byte leaves unchanged

pub record Carries (old new : Blocks) (ends : Bool) : Type 0 where
  pub layout : new.layout ≡ old.layout
  pub wanted : new.wanted ≡ old.wanted
  pub line : new.line ≡ old.line + (if ends then 1 else 0)
  pub few : new.size_line.count ≤ old.size_line.count + 1
  pub five : length new.size_line.values ≡ length old.size_line.values ⊎ (length new.size_line.values ≡ 5)

pub carries : (r : Blocks) (last : Line) (b : ℕ) → is_live r.phase ≡ true
    → Carries r (after_byte r last b) (is_line_end b)
unfolding line_ended
carries r last b live =
    let number = open_number last.digits in
    elim (cases_Bool (is_blank b || is_line_end b)) [
      | inl gap ↦ rw (valid_gap r last b gap) (grind (arith, keeps_last r number live))
      | inr other ↦ grind (arith, nat_tests)
    ]

-- ---- the blocks after a byte

-- the fault, or blocks that follow the text in this layout
abbrev OutcomeAfter : Blocks → Layout → List ℕ → Blocks → Option LayoutFault → Type 0
OutcomeAfter r layout text next fault = Outcome r (list_any is_word_byte (open_line text)) (stand_of layout text)
    (ended_numbers (open_line text)) next fault

-- one more byte, by its kind, of a reader that needs more
outcome : (r : Fields) (text : List ℕ) (b : ℕ) → Follows r text → is_live r.phase ≡ true
    → GoodNow r.layout (stand_of r.layout text).now (open_line text)
    → OutcomeAfter r.blocks r.layout (text ++ b ∷ []) (after_byte r.blocks r.last b)
    (fault_within_limit r.layout (stand_of r.layout text).now text b)
outcome r text b f live good = elim (cases_Bool (is_line_end b)) [
  | inr on ↦ rw (stand_of-on r.layout text b on, open_line-on text b on)
      (byte_on r.blocks r.last text b _ _ on live f.five_values f.last_line f.blocks good)
  | inl end ↦ rw (stand_of-end r.layout text b end, open_line-end text b end, ended_none)
      (end_byte r.blocks r.last text b _ _ end live f.five_values f.line f.last_line f.blocks good)
]

-- ---- what a reader has read

-- a reader that has met no fault has read the text
pub has_read_of : {r : Fields} {text : List ℕ} → Follows r text → HasRead r text
has_read_of f = grind (arith, f.blocks.now)

-- a reader that needs more bytes has met no fault
pub live_follows : (r : Fields) (text : List ℕ) → is_live r.phase ≡ true → HasRead r text → Follows r text
live_follows r text live s = grind arith

-- it needs more blocks
pub wants_more : {r : Fields} {text : List ℕ} → Follows r text → is_live r.phase ≡ true → r.complete < r.wanted
wants_more f live = live_few _ _ _ _ f.blocks.now live

module _ {r : Fields} {text : List ℕ} (f : Follows r text) (last : Line) (next : Blocks) (b : ℕ) where
  rejected_has_read : (fault : LayoutFault) → fault_of_place r.layout r.wanted text (Some b) ≡ Some fault
      → IsRejection r.blocks fault next → HasRead (fields last next) (text ++ b ∷ [])
  unfolding block_read
  rejected_has_read fault here n = grind (arith, n, f.sound, f.blocks.held)

  follows_on : Pushes r.last b last → length text < LONGEST_INPUT
      → fault_of_place r.layout r.wanted text (Some b) ≡ None
      → Carries r.blocks next (is_line_end b) → OutcomeAfter r.blocks r.layout (text ++ b ∷ []) next None
      → Follows (fields last next) (text ++ b ∷ [])
  follows_on pushes short here c blocks =
      let count = length_push text b in
      record {
        some = rw c.wanted f.some;
        sound = rw (c.layout, c.wanted, byte_fault-push r.layout r.wanted text b, f.sound) here;
        short = omega arith;
        last_line = pushes.follows text f.last_line;
        line = grind (arith, c.line, f.line, sum_by_push (λ x. if is_line_end x then 1 else 0) text b);
        few_numbers = omega (arith, c.few, f.few_numbers);
        five_values = elim c.five [ inl same ↦ same ∙ f.five_values | inr five ↦ five ];
        blocks = subst (λ l. OutcomeAfter r.blocks l (text ++ b ∷ []) next None) (sym c.layout) blocks;
      }

-- one byte more
pub step_has_read : {r : Fields} {text : List ℕ} {after : Line} (b : ℕ) → Follows r text → is_live r.phase ≡ true
    → length text < LONGEST_INPUT → Pushes r.last b after
    → HasRead (fields after (after_byte r.blocks r.last b)) (text ++ b ∷ [])
step_has_read {r = r} {text = text} {after = after} b f live short pushes =
    let next : Blocks = after_byte r.blocks r.last b in
    let few : length (stand_of r.layout text).complete < r.wanted =
    omega (arith, f.blocks.complete, wants_more f live) in
    let place = place_fault r.layout r.wanted text b few short in
    let out = outcome r text b f live (sound r.layout r.wanted text f.sound few).1 in
    elim (cases_option (fault_within_limit r.layout (stand_of r.layout text).now text b)) [
      | inl none ↦
          let carried = carries r.blocks r.last b live in
          has_read_of (follows_on f after next b pushes short (place ∙ none) carried (rw none at out))
      | inr one ↦ rejected_has_read f after next b one.0 (place ∙ one.1) (rw one.1 at out)
    ]

-- ---- what a reader that needs more bytes may do next

-- the state that the ended lines lead to, by the phase
pub sought_now : {r : Fields} {text : List ℕ} → Follows r text → r.phase ≡ phases.Seeking
    → (stand_of r.layout text).now ≡ seeking
sought_now f sought = grind (arith, f.blocks.now)

pub begun_now : {r : Fields} {text : List ℕ} → Follows r text → r.phase ≡ phases.Body
    → (block : Block) × ((stand_of r.layout text).now ≡ inside block)
begun_now f body = grind (arith, f.blocks.now)

can_count : {r : Fields} {text : List ℕ} → Follows r text → r.phase ≡ phases.Body → CanCount r.blocks
unfolding instance_of
can_count {r = r} {text = text} f phase =
    let complete = (stand_of r.layout text).complete in
    let more = ended_numbers (open_line text) in
    let begun = begun_now f phase in
    let block = begun.0 in
    let follows : FollowsBlocks _ r.blocks (standing complete (inside block)) more = rw begun.1 at f.blocks in
    let body = follows.now.body in
    let count = length-append block.numbers more in
    let held : r.held ≤ r.body.validated = grind (arith, nat_tests, follows, body.validated) in
    let sizes = (size_within block.size follows.now.fits).sizes in
    let due : due_count r.layout block.size < LONGEST_INPUT =
    grind (arith, mul-le-mul sizes.few_jobs sizes.few_machines) in
    grind (arith, nat_tests, body, follows)

pub follows_ready : {r : Fields} {text : List ℕ} → Follows r text → is_live r.phase ≡ true → IsReady r.blocks
follows_ready {text = text} f live =
    grind (arith, f, can_count f, wants_more f live, count_by-le-length is_line_end text)

pub reader_ready : {r : Fields} → IsReader r → is_live r.phase ≡ true → IsReady r.blocks
reader_ready {r = r} some live =
    let has_read = some.has_read (live-memory r.phase live) in
    follows_ready (live_follows r has_read.0 live has_read.1) live
