-- The end of a line: the fault that it has, or what the fields mean after it.
use Rattle.pfs_layout.proofs.Words.{◌≡◌, ℕ, ◌+◌, ◌<◌, min, Bool, true, false, List, [], ◌++◌, length, ap, arith, Option}
use Rattle.pfs_layout.proofs.Words.{Some, None, if◌then◌else◌, inl, inr, option_map, list_any, and_parts, cases_Bool}
use Rattle.pfs_layout.proofs.Words.{nat_tests, append-nil, length-append, length_push, slice_get-push, Layout, CEILING}
use Rattle.pfs_layout.proofs.Words.{SizeLine, Phase, Blocks, is_word_byte, Size, is_within_limits, is_mixed}
use Rattle.pfs_layout.proofs.Words.{is_number_line, numbers, stated_size, are_due, Block, seeking, inside, stand_after}
use Rattle.pfs_layout.proofs.Words.{standing, completed, instance_of, begun, with_line, size_fault, line_ended}
use Rattle.pfs_layout.proofs.Words.{block_of, HoldsNumbers, FollowsBlocks}
use Rattle.std.proofs.lemmas.Bool.{not-true}
use Rattle.pfs_layout.specs.declared.blocks.Phase.TheVariants as phases
use Rattle.pfs_layout.specs.Block.{after_size}
use Rattle.pfs_layout.specs.Private.Step.{stated_by, block_begun, size_validated, at_next_line, line_ended_in}
use Rattle.pfs_layout.proofs.Files.DueLemmas.{size_within}
use Rattle.pfs_layout.proofs.Reading.NumberSteps.{Outcome, holds_none}

-- ---- what a size line states

-- the numbers that are stored, each at most the ceiling
abbrev pub clipped : Size → Size
clipped size = record {
  jobs = min CEILING size.jobs;
  machines = min CEILING size.machines;
  notes = record {
    seed = min CEILING size.notes.seed;
    upper = min CEILING size.notes.upper;
    lower = min CEILING size.notes.lower;
  };
}

-- what is stored of a stated size, or that none is stated
abbrev pub Clips : Option Size → Option Size → Type 0
Clips kept stated = kept ≡ option_map clipped stated

pub clips : (layout : Layout) (line : SizeLine) (ns : List ℕ) → HoldsNumbers line ns
    → Clips (stated_by layout line) (stated_size layout ns)
unfolding stated_size stated_by
clips layout line ns h = grind (arith, h.values)

pub same_within : (size : Size) → is_within_limits (clipped size) ≡ is_within_limits size
same_within size = grind (arith, nat_tests)

-- a size within the limits is stored unchanged
clipped_is : (size : Size) → is_within_limits size ≡ true → clipped size ≡ size
clipped_is size within = let w = size_within size within in grind arith

-- ---- a block begins

begun_follows : (r : Blocks) (complete : List Block) (size : Size)
    → FollowsBlocks false r (standing complete seeking) [] → r.complete < r.wanted → is_within_limits size ≡ true
    → FollowsBlocks false (block_begun r size) (standing complete (inside (begun size))) []
unfolding instance_of
begun_follows r complete size f few within =
    grind (arith, nat_tests, f, size_within size within)

-- the size line of a sought block
size_step : (stated kept : Option Size) (r : Blocks) (complete : List Block) → Clips kept stated
    → FollowsBlocks false (at_next_line r) (standing complete seeking) [] → r.complete < r.wanted
    → Outcome r false (standing complete (after_size stated)) []
    (size_validated (at_next_line r) r.line kept) (size_fault stated r.line)
size_step None kept r complete same f few = rw same (search)
size_step (Some size) kept r complete same f few =
    let begun = begun_follows (at_next_line r) complete size f few in
    rw (same, same_within size) (grind (arith, clipped_is size))

-- what the end of a line does in this phase
ended_in : (r : Blocks) (numbered : Bool) (phase : Phase) → r.phase ≡ phase
    → line_ended r numbered ≡ line_ended_in phase r numbered
unfolding line_ended
ended_in r numbered phase e = ap (λ p. line_ended_in p r numbered) e

-- the end of a line while a block is sought
pub sought_line : (r : Blocks) (complete : List Block) (line : List ℕ) (numbered : Bool)
    → FollowsBlocks (list_any is_word_byte line) r (standing complete seeking) (numbers line)
    → r.phase ≡ phases.Seeking → r.complete < r.wanted
    → numbered ≡ is_number_line line
    → Outcome r false (stand_after r.layout (standing complete seeking) line) [] (line_ended r numbered)
    (if is_number_line line then size_fault (stated_size r.layout (numbers line)) r.line else None)
unfolding stand_after
sought_line r complete line numbered f phase few same =
    let next : FollowsBlocks false (at_next_line r) (standing complete seeking) [] = search (holds_none) in
    rw (ended_in r numbered phases.Seeking phase, same) (elim (cases_Bool (is_number_line line)) [
      | inl number_line ↦
          let plain = not-true _ (and_parts _ _ number_line).1 in
          let kept = clips r.layout r.size_line (numbers line) (f.now.numbers plain) in
          rw number_line (size_step (stated_size r.layout (numbers line)) _ r complete kept next few)
      | inr skipped ↦ rw skipped next
    ])

-- ---- a line of a body

-- the block that a line completes is read as it was before the line's end
completed_is : (wanted : ℕ) (complete : List Block) (block : Block) (line : List ℕ) → length complete < wanted
    → block_of wanted (completed complete (with_line block line)) []
    ≡ block_of wanted (standing complete (inside block)) (numbers line)
completed_is wanted complete block line few =
    grind (arith, nat_tests, length_push, slice_get-push complete (with_line block line))

pub body_line : {has_word : Bool} (r : Blocks) (complete : List Block) (block : Block) (line : List ℕ) (numbered : Bool)
    → FollowsBlocks has_word r (standing complete (inside block)) (numbers line)
    → is_mixed line ≡ false → are_due r.layout block.size (block.numbers ++ numbers line) ≡ true
    → FollowsBlocks false (line_ended r numbered) (stand_after r.layout (standing complete (inside block)) line) []
unfolding stand_after
body_line r complete block line numbered f unmixed due =
    let body = f.now.body in
    let whole : Block = with_line block line in
    let few : length complete < r.wanted = omega (arith, f.complete, f.now.few) in
    let count : length whole.numbers + 0 ≡ length block.numbers + length (numbers line) =
    omega (arith, length-append block.numbers (numbers line)) in
    let read = completed_is r.wanted complete block line few in
    rw (unmixed, due, ended_in r numbered phases.Body f.now.phase)
    (grind (arith, nat_tests, f, body, count, holds_none, length_push, append-nil {A = ℕ}))
