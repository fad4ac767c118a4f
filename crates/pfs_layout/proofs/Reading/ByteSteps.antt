-- One more byte: the fault of its place, or what the fields mean after it.
use Rattle.pfs_layout.proofs.Words.{◌++◌, ◌∷◌, [], ◌≡◌, ℕ, ◌<◌, Bool, true, false, ◌||◌, List, length, refl, arith}
use Rattle.pfs_layout.proofs.Words.{Some, None, if◌then◌else◌, inl, inr, ◌≢◌, ◌+◌, ◌-◌, ◌≤◌, count_by, ◌∙◌, Option}
use Rattle.pfs_layout.proofs.Words.{list_any, cases_Bool, lt-ltb, or_parts, eqb-false, ne_eqb, nat_tests}
use Rattle.pfs_layout.proofs.Words.{list_any-append, is_empty, Layout, Line, Blocks, is_digit, is_blank, is_line_end}
use Rattle.pfs_layout.proofs.Words.{is_word_byte, open_line, ended_numbers, last_digits, open_part, is_mixed, numbers}
use Rattle.pfs_layout.proofs.Words.{Block, Now, seeking, inside, lost, standing, stand_after, mixed_line, wrong_size}
use Rattle.pfs_layout.proofs.Words.{last_number_ended, line_ended, has_numbers_alone, open_number, after_byte, is_live}
use Rattle.pfs_layout.proofs.Words.{FollowsLine, FollowsNow, FollowsBlocks, digits_value, length_push, by_push, are_due}
use Rattle.pfs_layout.proofs.Words.{◌⊎◌, common_steps, Memory, Phase, number_ended, HoldsNumbers, cases_option, Number}
use Rattle.std.proofs.lemmas.Bool.{or_right}
use Rattle.pfs_layout.specs.declared.blocks.Phase.TheVariants as phases
use Rattle.pfs_layout.proofs.Files.GoodLemmas.{GoodNow, fault_within_limit, wrong_number_is, line_numbers}
use Rattle.pfs_layout.proofs.Files.GoodLemmas.{no_last, number_fault, due_line, gap_fault}
use Rattle.pfs_layout.proofs.Files.LineLemmas.{ended_numbers-push, open_part-push}
use Rattle.pfs_layout.proofs.Reading.NumberSteps.{Outcome, misfit_in, number_step}
use Rattle.pfs_layout.proofs.Reading.LineSteps.{sought_line, body_line}

-- ---- what the check of a number leaves unchanged

pub record Keeps (old new : Blocks) : Type 0 where
  pub layout : new.layout ≡ old.layout
  pub wanted : new.wanted ≡ old.wanted
  pub complete : new.complete ≡ old.complete
  pub line : new.line ≡ old.line
  pub sought : new.phase ≡ phases.Seeking → old.phase ≡ phases.Seeking
  pub held : new.phase ≡ phases.Seeking → new.held ≡ old.held
  pub few : new.size_line.count ≤ old.size_line.count + 1
  pub five : length new.size_line.values ≡ length old.size_line.values
  pub memory : new.phase ≢ phases.Rejected Memory

pub live-memory : (phase : Phase) → is_live phase ≡ true → phase ≢ phases.Rejected Memory
live-memory phase live e = grind arith

-- whether a reader's allocation failed
pub rejected_memory : (phase : Phase) → (phase ≡ phases.Rejected Memory) ⊎ (phase ≢ phases.Rejected Memory)
rejected_memory (phases.Rejected Memory) = inl refl
rejected_memory phase = inr (λ e. cc)

-- ---- a number

pub keeps_number : (r : Blocks) (value first : ℕ) → is_live r.phase ≡ true → Keeps r (number_ended r value first)
unfolding number_ended
keeps_number r value first live = grind (arith, common_steps)

pub keeps_last : (r : Blocks) (number : Option Number) → is_live r.phase ≡ true → Keeps r (last_number_ended r number)
keeps_last r number live = grind (arith, keeps_number)

-- ---- a reader that needs more bytes

pub live_few : (has_word : Bool) (r : Blocks) (now : Now) (more : List ℕ) → FollowsNow has_word r now more
    → is_live r.phase ≡ true → r.complete < r.wanted
live_few has_word r now more f live = grind (arith, nat_tests, f)

-- ---- the blocks after a byte

-- what the fields of the blocks mean for this text, whose ended lines lead to this state
abbrev pub FollowsText : Blocks → List ℕ → List Block → Now → Type 0
FollowsText r text complete now =
    FollowsBlocks (list_any is_word_byte (open_line text)) r (standing complete now) (ended_numbers (open_line text))

pub valid_gap : (r : Blocks) (last : Line) (b : ℕ) → (is_blank b || is_line_end b) ≡ true
    → after_byte r last b ≡ (let ended = last_number_ended r (open_number last.digits) in
    if is_line_end b then line_ended ended (has_numbers_alone last.kinds) else ended)
valid_gap r last b gap = grind (arith, nat_tests)

-- the outcome of a byte that doesn't end the line
abbrev pub FollowsOn : Blocks → Line → List ℕ → ℕ → List Block → Now → Type 0
FollowsOn r last text b complete now = Outcome r (list_any is_word_byte (open_line text ++ b ∷ []))
    (standing complete now) (ended_numbers (open_line text ++ b ∷ [])) (after_byte r last b)
    (fault_within_limit r.layout now text b)

-- ---- a byte that ends neither a number nor a line

-- while a block is sought, a byte that doesn't end the line has no fault
sought_fine : (layout : Layout) (text : List ℕ) (b : ℕ) → is_line_end b ≡ false
    → wrong_size layout text (Some b) ≡ None
unfolding wrong_size
sought_fine layout text b on = rw on

-- it has a fault if it mixes a line of a block
quiet_byte : (r : Blocks) (last : Line) (text : List ℕ) (b : ℕ) (complete : List Block) (now : Now) (less : Bool)
    (ns : List ℕ) → (is_blank b || is_line_end b) ≡ false → FollowsLine last text
    → FollowsText r text complete now → GoodNow r.layout now (open_line text)
    → less ≡ list_any is_word_byte (open_line text ++ b ∷ []) → ns ≡ ended_numbers (open_line text ++ b ∷ [])
    → Outcome r less (standing complete now) ns (after_byte r last b) (fault_within_limit r.layout now text b)
unfolding mixed_line
quiet_byte r last text b complete seeking less ns other line f good words numbers =
    let phase = f.now.phase in
    let pushed = ended_numbers-push (open_line text) b in
    let any = list_any-append is_word_byte (open_line text) (b ∷ []) in
    let sought = sought_fine r.layout text b (or_parts (is_blank b) _ other).1 in
    let same : after_byte r last b ≡ r = grind arith in
    let plain : less ≡ false → (is_digit b ≡ true) × (list_any is_word_byte (open_line text) ≡ false) = grind arith in
    let numbers : less ≡ false → HoldsNumbers r.size_line ns =
    λ e. let p = plain e in grind (arith, f.now.numbers) in
    rw (sought, same) (grind (arith, numbers))
quiet_byte r last text b complete (inside block) less ns other line f good words numbers =
    let fault = wrong_number_is r.layout block text b in
    let all = line_numbers text in
    let none = no_last text in
    grind (arith, nat_tests, ended_numbers-push, list_any-append {X = ℕ})
quiet_byte r last text b complete lost less ns other line f good words numbers = absurd f.now

last_short : (text : List ℕ) → length (last_digits text) ≤ length text
unfolding open_part
last_short = by_push (λ text. length (last_digits text) ≤ length text) (omega arith)
    (λ text b short. grind (arith, open_part-push, length_push))

-- ---- the end of a number

pub number_part : (has_word : Bool) (r : Blocks) (last : Line) (text : List ℕ) (complete : List Block) (now : Now)
    → is_live r.phase ≡ true → length r.size_line.values ≡ 5 → FollowsLine last text
    → FollowsBlocks has_word r (standing complete now) (ended_numbers (open_line text))
    → Outcome r has_word (standing complete now) (numbers (open_line text))
    (last_number_ended r (open_number last.digits)) (number_fault r.layout now text)
number_part has_word r last text complete now live five line f = elim (cases_Bool (is_empty (last_digits text))) [
  | inl none ↦
      let right : number_fault r.layout now text ≡ None = grind arith in
      rw (right, line_numbers text, none) (grind (arith, nat_tests, f, line))
  | inr some ↦
      let value = digits_value 10 (last_digits text) in
      let first = length text - length (last_digits text) in
      let fault : number_fault r.layout now text ≡ misfit_in r.layout now (ended_numbers (open_line text)) value first =
      grind arith in
      let full = eqb-false _ 0 some in
      let begun : last.digits.first ≢ last.digits.offset =
      λ z. omega (arith, line.first, line.offset, last_short text) in
      rw (fault, line_numbers text, some, ne_eqb _ _ begun, line.value, line.first)
      (number_step r complete now _ value first f live five)
]

-- any byte that doesn't end the line
pub byte_on : (r : Blocks) (last : Line) (text : List ℕ) (b : ℕ) (complete : List Block) (now : Now)
    → is_line_end b ≡ false → is_live r.phase ≡ true → length r.size_line.values ≡ 5
    → FollowsLine last text → FollowsText r text complete now → GoodNow r.layout now (open_line text)
    → FollowsOn r last text b complete now
byte_on r last text b complete now on live five line f good = elim (cases_Bool (is_blank b || is_line_end b)) [
  -- a blank ends the last number of its line
  | inl gap ↦
      let fault : fault_within_limit r.layout now text b ≡ number_fault r.layout now text =
      grind (arith, sought_fine, gap_fault) in
      let words : list_any is_word_byte (open_line text ++ b ∷ []) ≡ list_any is_word_byte (open_line text) =
      grind (arith, nat_tests, list_any-append {X = ℕ}) in
      let ended : ended_numbers (open_line text ++ b ∷ []) ≡ numbers (open_line text) =
      grind (arith, nat_tests, ended_numbers-push) in
      rw (words, ended, valid_gap r last b gap, on, fault) (number_part _ r last text complete now live five line f)
  | inr other ↦ quiet_byte r last text b complete now _ _ other line f good refl refl
]

-- ---- the end of a line

pub end_byte : (r : Blocks) (last : Line) (text : List ℕ) (b : ℕ) (complete : List Block) (now : Now)
    → is_line_end b ≡ true → is_live r.phase ≡ true
    → length r.size_line.values ≡ 5 → r.line ≡ 1 + count_by is_line_end text
    → FollowsLine last text → FollowsText r text complete now → GoodNow r.layout now (open_line text)
    → Outcome r false (stand_after r.layout (standing complete now) (open_line text)) [] (after_byte r last b)
    (fault_within_limit r.layout now text b)
unfolding wrong_size line_ended
end_byte r last text b complete seeking end live five lines line f good =
    let ended : Blocks = last_number_ended r (open_number last.digits) in
    let keeps = keeps_last r (open_number last.digits) live in
    let part = number_part _ r last text complete seeking live five line f in
    let before : r.complete < r.wanted = live_few _ r seeking _ f.now live in
    let few : ended.complete < ended.wanted = omega (arith, keeps.complete, keeps.wanted) in
    let sought : ended.phase ≡ phases.Seeking = rw (lt-ltb _ _ few) at part.now.phase in
    let outcome = sought_line ended complete (open_line text) (has_numbers_alone last.kinds) part sought few
    (rw (line.has_digit, line.has_word)) in
    let same = rw (keeps.layout, keeps.line ∙ lines) at outcome in
    rw (valid_gap r last b (or_right (is_blank b) _ end), end) (grind (arith, keeps, keeps.held sought, same))
end_byte r last text b complete (inside block) end live five lines line f good =
    let ended : Blocks = last_number_ended r (open_number last.digits) in
    let numbered = has_numbers_alone last.kinds in
    let keeps = keeps_last r (open_number last.digits) live in
    let gap = or_right (is_blank b) (is_line_end b) end in
    let unmixed : is_mixed (open_line text) ≡ false = grind arith in
    let part = number_part _ r last text complete (inside block) live five line f in
    rw (valid_gap r last b gap, end, gap_fault r.layout block text b gap)
    (elim (cases_option (number_fault r.layout (inside block) text)) [
      | inl none ↦
          let due : are_due r.layout block.size (block.numbers ++ numbers (open_line text)) ≡ true =
          due_line r.layout block text ∙ grind arith in
          let next = body_line ended complete block (open_line text) numbered (rw none at part) unmixed
          (rw (← keeps.layout) at due) in
          rw none (rw keeps.layout at next)
      | inr one ↦ let rejects = rw one.1 at part in rw one.1 (grind (arith, rejects))
    ])
end_byte r last text b complete lost end live five lines line f good = absurd f.now
