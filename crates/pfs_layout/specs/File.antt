-- What an instance file is: blocks, each of skipped lines, a size line and a body.
use Rattle.std.specs.Prelude.{◌≡◌, ℕ, ◌+◌, ◌≤◌, not, List, [], ◌∷◌, ◌++◌, length, flat_map, Some, ◌⊎◌, IsTrue}
use Rattle.std.specs.List.{list_all, AllByRecursion}
use Rattle.pfs_base.specs.FlowShop.{IsWithin}
use Rattle.pfs_base.specs.Limits.{Limits}
use Rattle.pfs_base.specs.Problem.{Problem}
use Rattle.pfs_layout.specs.Lines.{lines, open_line, is_mixed, is_number_line, numbers}
use Rattle.pfs_layout.specs.Block.{Layout, size_of, due, stated_size}

-- the sizes, times and notes of a problem are within the limits
pub record IsInstance (limits : Limits) (problem : Problem) : Type 0 where
  pub within : IsWithin limits problem.shop
  pub seed : problem.notes.seed ≤ limits.note
  pub upper : problem.notes.upper ≤ limits.note
  pub lower : problem.notes.lower ≤ limits.note

-- these lines are a block of the problem: skipped lines, a size line and a body
pub record IsBlock (limits : Limits) (layout : Layout) (problem : Problem) (block : List (List ℕ)) : Type 0 where
  pub skipped : List (List ℕ)
  pub size_line : List ℕ
  pub front : List (List ℕ)
  pub last : List ℕ
  pub parts : block ≡ skipped ++ size_line ∷ front ++ last ∷ []
  pub no_numbers : IsTrue (list_all (λ line. not (is_number_line line)) skipped)
  -- the size line is a number line with the layout's count of numbers, which are the problem's sizes and notes;
  -- in the OR-Library's layout the notes are 0
  pub number_line : IsTrue (is_number_line size_line)
  pub states : stated_size layout (numbers size_line) ≡ Some (size_of problem)
  -- no line of the body is mixed, the last is a number line, and their numbers are, in order, those that are due
  pub front_unmixed : IsTrue (list_all (λ line. not (is_mixed line)) front)
  pub last_numbers : IsTrue (is_number_line last)
  pub holds : flat_map numbers front ++ numbers last ≡ due layout problem.shop
  pub within : IsInstance limits problem

abbrev pub IsSomeBlock : Limits → Layout → List (List ℕ) → Type 0
IsSomeBlock limits layout block = (problem : Problem) × IsBlock limits layout problem block

-- these lines are k blocks, one after the other, the last of which is the problem's
pub record AreBlocks (limits : Limits) (layout : Layout) (k : ℕ) (problem : Problem) (text : List (List ℕ))
    : Type 0 where
  pub earlier : List (List (List ℕ))
  pub own : List (List ℕ)
  pub parts : text ≡ flat_map (λ block. block) earlier ++ own
  pub count : length earlier + 1 ≡ k
  pub each : AllByRecursion (IsSomeBlock limits layout) earlier
  pub is_own : IsBlock limits layout problem own

-- a prefix of the input, of a length within the limit, whose last line ends with byte 10 or with the input
pub record Front (limits : Limits) (input : List ℕ) : Type 0 where
  pub text : List ℕ
  pub rest : List ℕ
  pub whole : input ≡ text ++ rest
  pub ended : (open_line text ≡ []) ⊎ (rest ≡ [])
  pub short : length text ≤ limits.input

-- a prefix of the input is k blocks, the last of which is the problem's
pub record IsInstanceFile (limits : Limits) (layout : Layout) (input : List ℕ) (k : ℕ) (problem : Problem)
    : Type 0 where
  pub front : Front limits input
  pub open front use *
  pub blocks : AreBlocks limits layout k problem (lines text)
