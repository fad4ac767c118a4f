-- The blocks of an instance file: what a size line states, the numbers that are due in a body, and the state
-- that lines lead to.
use Rattle.std.specs.Prelude.{ℕ, ◌*◌, ◌/◌, ◌%◌, Bool, false, ◌&&◌, ◌==◌, nat_lt, nat_le, List, [], ◌∷◌, map, flat_map}
use Rattle.std.specs.Prelude.{Option, Some, None, if◌then◌else◌, ◌+◌, ◌++◌, length, fold, slice_index, codes}
use Rattle.std.specs.Bool.{then_some}
use Rattle.std.specs.List.{list_all, enumerate_from}
use Rattle.pfs_base.specs.declared.limits.TheConstants.{MOST_JOBS, MOST_MACHINES, LONGEST_TIME, GREATEST_NOTE}
use Rattle.pfs_base.specs.FlowShop.{FlowShop, time_of}
use Rattle.pfs_base.specs.Lists.{below}
use Rattle.pfs_base.specs.Problem.{Problem}
pub use Rattle.pfs_layout.specs.declared.layout.Layout.{Layout}
use Rattle.pfs_layout.specs.declared.layout.Layout.TheVariants.{Taillard, OrLib}
use Rattle.pfs_layout.specs.declared.body.Due.{Due}
pub use Rattle.pfs_layout.specs.declared.size_line.Size.{Size}
use Rattle.pfs_layout.specs.Lines.{is_mixed, is_number_line, numbers}

-- what a layout says of the lines before a body
pub record Preamble : Type 0 where
  -- how many numbers a size line has
  pub size_numbers : ℕ
  -- what is written before the size line, and after it
  pub before : List ℕ
  pub after : List ℕ

abbrev pub preamble_of : Layout → Preamble
preamble_of Taillard = record {
  size_numbers = 5;
  before = codes "number of jobs, number of machines, initial seed, upper bound and lower bound :\n";
  after = codes "processing times :\n";
}
preamble_of OrLib = record { size_numbers = 2; before = codes "flow shop instance\n"; after = [] }

-- the size with these numbers, in the order of Taillard's size lines; numbers that are missing are 0
abbrev pub size_from : List ℕ → Size
size_from numbers = record {
  jobs = slice_index numbers 0;
  machines = slice_index numbers 1;
  notes = record { seed = slice_index numbers 2; upper = slice_index numbers 3; lower = slice_index numbers 4 };
}

-- all numbers of a size, in this order
abbrev pub numbers_of : Size → List ℕ
numbers_of size = size.jobs ∷ size.machines ∷ size.notes.seed ∷ size.notes.upper ∷ size.notes.lower ∷ []

-- what the size line of a problem's block states
abbrev pub size_of : Problem → Size
size_of problem = record { jobs = problem.shop.jobs; machines = problem.shop.machines; notes = problem.notes }

-- the problem of this size, with a time for each job and machine, both counted from 0
abbrev pub problem_of : Size → (ℕ → ℕ → ℕ) → Problem
problem_of size time = record {
  shop = record {
    jobs = size.jobs;
    machines = size.machines;
    times = flat_map (λ job. map (λ machine. time job machine) (below size.machines)) (below size.jobs);
  };
  notes = size.notes;
}

-- whether each number of the size is within its limits
abbrev pub is_within_limits : Size → Bool
is_within_limits size = nat_le 1 size.jobs && nat_le size.jobs MOST_JOBS
    && nat_le 1 size.machines && nat_le size.machines MOST_MACHINES && nat_le size.notes.seed GREATEST_NOTE
    && nat_le size.notes.upper GREATEST_NOTE && nat_le size.notes.lower GREATEST_NOTE

-- a row of a body: the times of all jobs on a machine, or a job's pairs of machine and time
unfoldable pub due_row : Layout → FlowShop → ℕ → List ℕ
due_row Taillard shop machine = map (λ job. time_of shop job machine) (below shop.jobs)
due_row OrLib shop job = flat_map (λ machine. machine ∷ time_of shop job machine ∷ []) (below shop.machines)

-- how many rows a body has
abbrev pub row_count : Layout → FlowShop → ℕ
row_count Taillard shop = shop.machines
row_count OrLib shop = shop.jobs

-- the numbers that the body of a flow shop's block must contain, in order
unfoldable pub due : Layout → FlowShop → List ℕ
unfolding due_row
due layout shop = flat_map (due_row layout shop) (below (row_count layout shop))

-- the size that the numbers of a size line state, if their count is that of the layout; in the OR-Library's
-- layout the notes are 0
unfoldable pub stated_size : Layout → List ℕ → Option Size
stated_size layout numbers = then_some (length numbers == (preamble_of layout).size_numbers) (size_from numbers)

-- how many numbers of a body are needed for this many times: one each, or a pair each
abbrev pub numbers_for : Layout → ℕ → ℕ
numbers_for Taillard times = times
numbers_for OrLib times = 2 * times

-- how many of the first `numbers` numbers of a body are times: all of them, or the second of each pair
abbrev pub times_in : Layout → ℕ → ℕ
times_in Taillard numbers = numbers
times_in OrLib numbers = numbers / 2

-- how many numbers the body of a block of this size has
abbrev pub due_count : Layout → Size → ℕ
due_count layout size = numbers_for layout (size.jobs * size.machines)

-- what is due at a place, counted from 0, of a body of `count` numbers, if the next time is on this machine
abbrev pub due_by : Layout → ℕ → ℕ → ℕ → Due
due_by Taillard count machine place = if nat_lt place count then Due.Time else Due.Nothing
due_by OrLib count machine place = if nat_lt place count
    then (if place % 2 == 0 then Due.Machine machine else Due.Time) else Due.Nothing

-- what is due at a place of the body, counted from 0
unfoldable pub due_at : Layout → Size → ℕ → Due
due_at layout size place = due_by layout (due_count layout size) (place / 2 % size.machines) place

-- whether a number is what is due: any time up to the limit, or this machine's number; at `Nothing` no number is
abbrev pub is_due : Due → ℕ → Bool
is_due Due.Time number = nat_le number LONGEST_TIME
is_due (Due.Machine machine) number = number == machine
is_due Due.Nothing number = false

-- whether each of these first numbers of a body is what is due at its place; by the law `DueFronts`, exactly if
-- they begin the numbers that are due for some problem of the size
unfoldable pub are_due : Layout → Size → List ℕ → Bool
unfolding due_at
are_due layout size numbers =
    list_all (λ placed. is_due (due_at layout size placed.0) placed.1) (enumerate_from 0 numbers)

-- ---- the state after some lines of an instance file

-- a block: its size, and the numbers of its body so far
pub record Block : Type 0 where
  pub size : Size
  pub numbers : List ℕ

-- the next block is sought, or this block has begun, or a line didn't fit, which no later line can change
pub data Now : Type 0 where
  seeking : Now
  inside : Block → Now
  lost : Now

-- the state after some lines: the blocks that are complete, and what comes next
pub record Stand : Type 0 where
  pub complete : List Block
  pub now : Now

-- these blocks are complete, and this is the state after them
abbrev pub standing : List Block → Now → Stand
standing complete now = record { complete = complete; now = now }

-- one block more is complete, and the next is sought
abbrev pub completed : List Block → Block → Stand
completed complete block = standing (complete ++ block ∷ []) seeking

-- a block before its first number
abbrev pub begun : Size → Block
begun size = record { size = size; numbers = [] }

-- a block with the numbers of one more line
abbrev pub with_line : Block → List ℕ → Block
with_line block line = record { size = block.size; numbers = block.numbers ++ numbers line }

-- the state after a size line: a block begins, unless no size is stated or it is outside the limits
abbrev pub after_size : Option Size → Now
after_size None = lost
after_size (Some size) = if is_within_limits size then inside (begun size) else lost

-- the state after a line of a body: its block's numbers are all that are due, or only the first of them, or don't fit
abbrev pub after_numbers : Layout → List Block → Block → Stand
after_numbers layout complete block = if are_due layout block.size block.numbers
    then (if length block.numbers == due_count layout block.size
    then completed complete block else standing complete (inside block))
    else standing complete lost

-- the state after one more line: before a block a line that isn't a number line changes nothing, and a number
-- line is a size line; a line of a body adds its numbers, unless it is mixed
abbrev pub after_line : Layout → List Block → Now → List ℕ → Stand
after_line layout complete seeking line = standing complete
    (if is_number_line line then after_size (stated_size layout (numbers line)) else seeking)
after_line layout complete (inside block) line =
    if is_mixed line then standing complete lost else after_numbers layout complete (with_line block line)
after_line layout complete lost line = standing complete lost

unfoldable pub stand_after : Layout → Stand → List ℕ → Stand
stand_after layout before line = after_line layout before.complete before.now line

-- the state after these lines, from the start of a file
unfoldable pub stand : Layout → List (List ℕ) → Stand
stand layout text = fold (stand_after layout) (standing [] seeking) text

-- the place of a job's time on a machine among the numbers of a body, all three counted from 0
abbrev pub place_of_time : Layout → Size → ℕ → ℕ → ℕ
place_of_time Taillard size job machine = machine * size.jobs + job
place_of_time OrLib size job machine = 2 * (job * size.machines + machine) + 1

-- the problem of a complete block
unfoldable pub instance_of : Layout → Block → Problem
instance_of layout block =
    problem_of block.size (λ job machine. slice_index block.numbers (place_of_time layout block.size job machine))
