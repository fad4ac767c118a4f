-- Files, by the state that their lines lead to.
use Rattle.pfs_layout.proofs.Words.{nat_tests, ◌≡◌, ℕ, ◌+◌, ◌<◌, true, not, List, [], ◌∷◌, ◌++◌, length, flat_map, refl}
use Rattle.pfs_layout.proofs.Words.{sym, arith, append_assoc, append-nil, length-append, AllByRecursion, list_any, Size}
use Rattle.pfs_layout.proofs.Words.{list_all, list_all-append, fold-append, Layout, is_digit, limits, Problem, size_of}
use Rattle.pfs_layout.proofs.Words.{is_mixed, is_number_line, is_no_digit, numbers, are_due, due, due_count, Block, ap}
use Rattle.pfs_layout.proofs.Words.{seeking, inside, standing, completed, stand_after, IsSomeBlock, IsBlock, false, inl}
use Rattle.pfs_layout.proofs.Words.{Some, ◌==◌, inr, mul-le-mul, cases_Bool, eqb-false, flat_map-append, Now}
use Rattle.pfs_layout.proofs.Words.{by_push, is_within_limits, stated_size, lost, Stand, begun, with_line, after_line}
use Rattle.pfs_layout.proofs.Words.{stand, instance_of, lines, AreBlocks, IsInstanceFile, Completes, Seeks, length_push}
use Rattle.std.proofs.Common.{fold}
use Rattle.std.proofs.lemmas.Bool.{false≢true}
use Rattle.pfs_layout.proofs.Files.LineLemmas.{split_some, front_of_lines}
use Rattle.pfs_layout.proofs.Files.DueLemmas.{are_due_front, due_passes, length-due, due_block, size_within}
use Rattle.pfs_layout.proofs.Files.DueLemmas.{due_instance, instance_within, instance_due}
use Rattle.pfs_layout.proofs.Files.GoodLemmas.{stand-push}

-- ---- the state after a block

-- a line with a digit has a number
numbers_some : (line : List ℕ) → list_any is_digit line ≡ true → 0 < length (numbers line)
unfolding numbers
numbers_some [] any = absurd (false≢true any)
numbers_some (b ∷ line) any =
    let parts = split_some is_no_digit line in grind (arith, parts.is, numbers_some line)

-- the lines of a block
module _ (layout : Layout) (complete : List Block) where
  -- skipped lines change nothing
  skip_fold : (skipped : List (List ℕ)) → list_all (λ line. not (is_number_line line)) skipped ≡ true
      → fold (stand_after layout) (standing complete seeking) skipped ≡ standing complete seeking
  unfolding stand_after
  skip_fold [] e = refl
  skip_fold (line ∷ more) e = grind (arith, skip_fold more)

  -- the lines of a body complete a block
  body_fold : (size : Size) (ns : List ℕ) (front : List (List ℕ)) (last : List ℕ)
      → list_all (λ line. not (is_mixed line)) front ≡ true → is_number_line last ≡ true
      → (all : List ℕ) → all ≡ ns ++ (flat_map numbers front ++ numbers last)
      → are_due layout size all ≡ true → length all ≡ due_count layout size
      → fold (stand_after layout) (standing complete (inside (record { size = size; numbers = ns })))
      (front ++ last ∷ [])
      ≡ completed complete (record { size = size; numbers = all })
  unfolding stand_after
  body_fold size ns [] last unmixed numbered all is due count = grind arith
  body_fold size ns (line ∷ more) last unmixed numbered all is due count =
      let here : List ℕ = ns ++ numbers line in
      let left : List ℕ = flat_map numbers more ++ numbers last in
      let regroup : all ≡ here ++ left = rw is (simp append_assoc) in
      grind (arith, numbers_some, are_due_front, length-append {A = ℕ}, body_fold size here more last)

  -- a block is completed by its lines
  pub block_fold : (problem : Problem) (block : List (List ℕ)) → IsBlock limits layout problem block
      → fold (stand_after layout) (standing complete seeking) block ≡ completed complete (due_block layout problem)
  unfolding stand_after
  block_fold problem block b =
      let within : is_within_limits (size_of problem) ≡ true = grind (arith, nat_tests, b.within) in
      let body = body_fold (size_of problem) [] b.front b.last b.front_unmixed b.last_numbers
      (due layout problem.shop) (sym b.holds) (due_passes layout problem b.within.within.short_times)
      (length-due layout problem) in
      rw (b.parts, append_assoc, fold-append, skip_fold b.skipped b.no_numbers)
      (grind (arith, b.number_line, b.states))

-- blocks lead to this count of complete ones, the last of which is the problem's
pub record LeadsTo (layout : Layout) (complete : List Block) (problem : Problem) (count : ℕ) (text : List (List ℕ))
    : Type 0 where
  pub before : List Block
  pub as_many : length before + 1 ≡ count
  pub end : fold (stand_after layout) (standing complete seeking) text
      ≡ completed (complete ++ before) (due_block layout problem)

pub blocks_lead : (layout : Layout) (complete : List Block) (problem : Problem) (earlier : List (List (List ℕ)))
    (own : List (List ℕ)) → AllByRecursion (IsSomeBlock limits layout) earlier → IsBlock limits layout problem own
    → LeadsTo layout complete problem (length earlier + 1) (flat_map (λ block. block) earlier ++ own)
blocks_lead layout complete problem [] own each b =
    record { before = []; as_many = refl; end = rw (append-nil complete) (block_fold layout complete problem own b) }
blocks_lead layout complete problem (block ∷ earlier) own each b =
    let first : Block = due_block layout each.0.0 in
    let more = blocks_lead layout (complete ++ first ∷ []) problem earlier own each.1 b in
    record {
      before = first ∷ more.before;
      as_many = omega (arith, more.as_many);
      end =
          rw (append_assoc, fold-append, block_fold layout complete each.0.0 block each.0.1, more.end)
          (simp append_assoc);
    }

-- ---- which lines lead to complete blocks

-- a line without a digit has no number
pub no_numbers : (line : List ℕ) → list_any is_digit line ≡ false → numbers line ≡ []
unfolding numbers
no_numbers [] none = refl
no_numbers (b ∷ line) none = grind (arith, no_numbers line)

-- ---- lines that are made of blocks

-- skipped lines, a size line, and lines that have the block's numbers so far
pub record Opens (layout : Layout) (block : Block) (skipped : List (List ℕ)) (size_line : List ℕ)
    (front tail : List (List ℕ)) : Type 0 where
  pub parts : tail ≡ skipped ++ size_line ∷ front
  pub no_numbers : list_all (λ line. not (is_number_line line)) skipped ≡ true
  pub number_line : is_number_line size_line ≡ true
  pub states : stated_size layout (numbers size_line) ≡ Some block.size
  pub within : is_within_limits block.size ≡ true
  pub unmixed : list_all (λ line. not (is_mixed line)) front ≡ true
  pub holds : flat_map numbers front ≡ block.numbers

-- these lines begin the block and don't complete it
pub record IsBegun (layout : Layout) (block : Block) (tail : List (List ℕ)) : Type 0 where
  pub skipped : List (List ℕ)
  pub size_line : List ℕ
  pub front : List (List ℕ)
  pub opens : Opens layout block skipped size_line front tail
  pub short : length block.numbers ≡ due_count layout block.size → ⊥

-- what the lines after the last complete block are, in this state
abbrev pub FitsNow : Layout → Now → List (List ℕ) → Type 0
FitsNow layout seeking tail = list_all (λ line. not (is_number_line line)) tail ≡ true
FitsNow layout (inside block) tail = IsBegun layout block tail
FitsNow layout lost tail = Unit {0}

-- these lines are those of the complete blocks, one after the other
abbrev pub AreBlockLines : Layout → List Block → List (List ℕ) → Type 0
AreBlockLines layout [] text = text ≡ []
AreBlockLines layout (block ∷ more) text = (own : List (List ℕ)) × (rest : List (List ℕ)) × (text ≡ own ++ rest)
    × IsBlock limits layout (instance_of layout block) own × AreBlockLines layout more rest

AreOf-push : (layout : Layout) (complete : List Block) (text own : List (List ℕ)) (block : Block)
    → AreBlockLines layout complete text → IsBlock limits layout (instance_of layout block) own
    → AreBlockLines layout (complete ++ block ∷ []) (text ++ own)
AreOf-push layout [] text own block are is = (own, [], rw are (sym (append-nil own)), is, refl)
AreOf-push layout (first ∷ more) text own block are is =
    let others = AreOf-push layout more are.1 own block are.4 is in
    (are.0, are.1 ++ own, rw are.2 (append_assoc are.0 are.1 own), are.3, others)

-- these lines are those of the complete blocks, and after them lines that fit the state
pub record IsMade (layout : Layout) (text : List (List ℕ)) (reached : Stand) : Type 0 where
  pub front : List (List ℕ)
  pub tail : List (List ℕ)
  pub parts : text ≡ front ++ tail
  pub each : AreBlockLines layout reached.complete front
  pub fits : FitsNow layout reached.now tail

module _ (layout : Layout) (text : List (List ℕ)) (complete : List Block) (line : List ℕ) where
  -- with one more line after the complete blocks
  grown : {now : Now} (next : Now) (m : IsMade layout text (standing complete now))
      → FitsNow layout next (m.tail ++ line ∷ []) → IsMade layout (text ++ line ∷ []) (standing complete next)
  grown next m fits =
      let parts : text ++ line ∷ [] ≡ m.front ++ (m.tail ++ line ∷ []) =
      rw m.parts (append_assoc m.front m.tail (line ∷ [])) in
      search

  -- with a size line
  began : (m : IsMade layout text (standing complete seeking)) (size : Size)
      → stated_size layout (numbers line) ≡ Some size → is_number_line line ≡ true → is_within_limits size ≡ true
      → IsMade layout (text ++ line ∷ []) (standing complete (inside (begun size)))
  began m size states numbered within =
      let sizes = (size_within size within).sizes in
      grown (inside (begun size)) m (record {
        skipped = m.tail;
        size_line = line;
        front = [];
        opens = grind (arith, m.fits);
        short = λ none. grind (arith, mul-le-mul sizes.some_job sizes.some_machine);
      })

  finished : (block : Block) → IsMade layout text (standing complete (inside block)) → is_mixed line ≡ false
      → are_due layout block.size (with_line block line).numbers ≡ true
      → length (with_line block line).numbers ≡ due_count layout block.size
      → IsMade layout (text ++ line ∷ []) (completed complete (with_line block line))
  unfolding instance_of
  finished block m unmixed right whole =
      let own : List (List ℕ) = m.tail ++ line ∷ [] in
      let all_due = due_instance layout (with_line block line) right whole in
      record {
        front = m.front ++ own;
        tail = [];
        parts = rw m.parts (simp (append_assoc, append-nil));
        each = AreOf-push layout complete m.front own (with_line block line) m.each (record {
          skipped = m.fits.skipped;
          size_line = m.fits.size_line;
          front = m.fits.front;
          last = line;
          parts = ap (λ ls. ls ++ line ∷ []) m.fits.opens.parts;
          no_numbers = m.fits.opens.no_numbers;
          number_line = m.fits.opens.number_line;
          states = m.fits.opens.states;
          front_unmixed = m.fits.opens.unmixed;
          last_numbers = elim (cases_Bool (list_any is_digit line)) [
            | inl any ↦ grind (arith, any)
            | inr none ↦ absurd (m.fits.short (rw (no_numbers line none, append-nil) at whole))
          ];
          holds = grind (arith, all_due, m.fits.opens);
          within = instance_within layout (with_line block line) right whole m.fits.opens.within;
        });
        fits = refl;
      }

  unfinished : (block : Block) (m : IsMade layout text (standing complete (inside block))) → is_mixed line ≡ false
      → (length (with_line block line).numbers == due_count layout block.size) ≡ false
      → IsMade layout (text ++ line ∷ []) (standing complete (inside (with_line block line)))
  unfinished block m unmixed short =
      let more_lines = append_assoc m.fits.skipped (m.fits.size_line ∷ m.fits.front) (line ∷ []) in
      let more_numbers = flat_map-append numbers m.fits.front (line ∷ []) in
      grown (inside (with_line block line)) m (record {
        skipped = m.fits.skipped;
        size_line = m.fits.size_line;
        front = m.fits.front ++ line ∷ [];
        opens = grind (arith, m.fits.opens, list_all-append {X = List ℕ}, append-nil {A = ℕ});
        short = eqb-false (length (with_line block line).numbers) (due_count layout block.size) short;
      })

  by_now : (now : Now) → IsMade layout text (standing complete now)
      → IsMade layout (text ++ line ∷ []) (after_line layout complete now line)
  by_now seeking m = elim (cases_Bool (is_number_line line)) [
    | inl numbered ↦ grind (arith, grown lost m tt, began m)
    | inr plain ↦ rw plain (grown seeking m (rw (list_all-append, m.fits, plain)))
  ]
  by_now (inside block) m = grind (arith, grown lost m tt, finished block m, unfinished block m)
  by_now lost m = grown lost m tt

-- any lines are those of the complete blocks, and after them lines that fit the state
pub made : (layout : Layout) (text : List (List ℕ)) → IsMade layout text (stand layout text)
unfolding stand stand_after
made layout = by_push (λ text. IsMade layout text (stand layout text))
    (record { front = []; tail = []; parts = refl; each = refl; fits = refl })
    (λ text line m. rw (stand-push layout text line)
    (by_now layout text (stand layout text).complete line (stand layout text).now m))

-- ---- files

pub file_completes : (layout : Layout) (input : List ℕ) (k : ℕ) (problem : Problem)
    → IsInstanceFile limits layout input k problem → Completes layout input k problem
unfolding stand stand_after
file_completes layout input k problem f =
    let blocks = f.blocks in
    let lead = blocks_lead layout [] problem blocks.earlier blocks.own blocks.each blocks.is_own in
    let own : Block = due_block layout problem in
    let ends_at : stand layout (lines f.text) ≡ completed lead.before own = rw blocks.parts lead.end in
    let count = length_push lead.before own in
    let seeks : Seeks layout input k =
    record { front = f.front; complete = rw ends_at (omega (arith, lead.as_many, blocks.count)); now = rw ends_at } in
    let is = sym (instance_due layout problem blocks.is_own.within.within.every_time) in
    record { seeks = seeks; earlier = lead.before; own = own; parts = rw ends_at; is = is }

-- ---- and conversely

are_blocks : (layout : Layout) (text : List (List ℕ)) (earlier : List Block) (own : Block)
    → AreBlockLines layout (earlier ++ own ∷ []) text
    → AreBlocks limits layout (length earlier + 1) (instance_of layout own) text
are_blocks layout text [] own are = grind (arith, are.3, append-nil {A = List ℕ})
are_blocks layout text (block ∷ earlier) own are =
    let more = are_blocks layout are.1 earlier own are.4 in
    record {
      earlier = are.0 ∷ more.earlier;
      own = more.own;
      parts = cc (are.2, more.parts, append_assoc are.0 (flat_map (λ block. block) more.earlier) more.own);
      count = omega (arith, more.count);
      each = ((instance_of layout block, are.3), more.each);
      is_own = more.is_own;
    }

pub completes_file : (layout : Layout) (input : List ℕ) (k : ℕ) (problem : Problem)
    → Completes layout input k problem → IsInstanceFile limits layout input k problem
completes_file layout input k problem c =
    let m : IsMade layout (lines c.text) (completed c.earlier c.own) = rw (c.parts, c.now) at
    (made layout (lines c.text)) in
    let f = front_of_lines c.text m.front m.tail m.parts in
    let count : k ≡ length c.earlier + 1 = omega (arith, c.complete, ap length c.parts, length_push c.earlier c.own) in
    record {
      front = record {
        text = f.front;
        rest = f.rest ++ c.rest;
        whole = rw (← append_assoc f.front f.rest c.rest, ← f.whole) c.whole;
        ended = grind (arith, f.ended, c.ended, f.whole, append-nil f.front);
        short = omega (arith, c.short, ap length f.whole, length-append f.front f.rest);
      };
      blocks = rw (f.are, c.is, count) (are_blocks layout m.front c.earlier c.own m.each);
    }
