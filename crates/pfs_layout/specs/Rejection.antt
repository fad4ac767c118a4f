-- Which fault an instance file has, and where. At a place the first fault of the list `faults` counts.
use Rattle.std.specs.Prelude.{◌≡◌, ℕ, ◌+◌, ◌-◌, ◌<◌, ◌≤◌, Bool, ◌&&◌, ◌||◌, not, ◌==◌, nat_lt, List, [], ◌∷◌, ◌++◌}
use Rattle.std.specs.Prelude.{length, take, map, count_by, Option, Some, None, is_some, is_none, option_map}
use Rattle.std.specs.Prelude.{if◌then◌else◌, slice_get}
use Rattle.std.specs.Bool.{then_some}
use Rattle.std.specs.Str.Parse.{digits_value}
use Rattle.pfs_base.specs.declared.limits.TheConstants.{LONGEST_INPUT}
use Rattle.pfs_base.specs.Lists.{below, is_empty, first_some}
use Rattle.pfs_base.specs.Problem.{Problem}
pub use Rattle.pfs_layout.specs.declared.fault.LayoutFault.{LayoutFault}
use Rattle.pfs_layout.specs.declared.body.Due.{Due}
use Rattle.pfs_layout.specs.Lines.{is_blank, is_line_end, lines, ended_lines, open_line, is_mixed, is_number_line}
use Rattle.pfs_layout.specs.Lines.{numbers, ended_numbers, last_digits}
use Rattle.pfs_layout.specs.Block.{Layout, Size, is_within_limits, stated_size, is_due}
use Rattle.pfs_layout.specs.Block.{times_in, due_at, Block, Now, seeking, inside, lost, stand, instance_of}

-- A place is given by the bytes before it and the byte at it, or `None` at the end of the input.

-- a line ends at this place: by byte 10, or by the end of the input after a line that isn't empty
abbrev pub ends_line : List ℕ → Option ℕ → Bool
ends_line before None = not (is_empty (open_line before))
ends_line before (Some byte) = is_line_end byte

-- a number ends at this place: by a blank, a line end or the end of the input, after a digit
abbrev pub ends_number : List ℕ → Option ℕ → Bool
ends_number before None = not (is_empty (last_digits before))
ends_number before (Some byte) = not (is_empty (last_digits before)) && (is_blank byte || is_line_end byte)

-- the input is as long as its limit, and a byte follows
abbrev pub too_long : List ℕ → Option ℕ → Option LayoutFault
too_long before next = then_some (length before == LONGEST_INPUT && is_some next) LayoutFault.TooLong

-- the byte is the first by which its line has both a digit and a word byte
unfoldable pub mixed_line : List ℕ → Option ℕ → Option LayoutFault
mixed_line before None = None
mixed_line before (Some byte) =
    let line = open_line before in
    then_some (not (is_mixed line) && is_mixed (line ++ byte ∷ [])) (LayoutFault.MixedLine (length before))

-- the fault of a number that isn't what is due, at the offset of the number's first digit
abbrev pub fault_of_due : Due → ℕ → LayoutFault
fault_of_due Due.Time offset = LayoutFault.TimeRange offset
fault_of_due (Due.Machine machine) offset = LayoutFault.MachineNumber offset
fault_of_due Due.Nothing offset = LayoutFault.ExtraNumber offset

-- this fault, if the number isn't what is due
abbrev pub misfit : Due → ℕ → ℕ → Option LayoutFault
misfit due number offset = then_some (not (is_due due number)) (fault_of_due due offset)

-- a number ends here that isn't what is due after the block's numbers and the earlier ones of its line
unfoldable pub wrong_number : Layout → Block → List ℕ → Option ℕ → Option LayoutFault
wrong_number layout block before next =
    let place = length block.numbers + length (ended_numbers (open_line before)) in
    let offset = length before - length (last_digits before) in
    if ends_number before next
    then misfit (due_at layout block.size place) (digits_value 10 (last_digits before)) offset
    else None

-- the fault of a size line, counted from 1: a wrong count of numbers, if it states no size, or a number outside
-- its limits
abbrev pub size_fault : Option Size → ℕ → Option LayoutFault
size_fault None line = Some (LayoutFault.SizeCount line)
size_fault (Some size) line = then_some (not (is_within_limits size)) (LayoutFault.SizeRange line)

-- a number line ends here that has such a fault as a size line
unfoldable pub wrong_size : Layout → List ℕ → Option ℕ → Option LayoutFault
wrong_size layout before next = if ends_line before next && is_number_line (open_line before)
    then size_fault (stated_size layout (numbers (open_line before))) (1 + count_by is_line_end before)
    else None

-- at the end of the input: a block is begun, or fewer than k blocks are complete
abbrev pub missing : Layout → ℕ → ℕ → Now → Option LayoutFault
missing layout k complete seeking = then_some (nat_lt complete k) (LayoutFault.NoBlock complete)
missing layout k complete (inside block) = Some (LayoutFault.Truncated (times_in layout (length block.numbers)))
missing layout k complete lost = None

-- the fault of an input that ends here, by the state after all its lines
unfoldable pub ends_early : Layout → ℕ → List ℕ → Option ℕ → Option LayoutFault
ends_early layout k before None =
    let end = stand layout (lines before) in missing layout k (length end.complete) end.now
ends_early layout k before (Some byte) = None

-- the faults that such a place can have, each where it has it, the first in order of precedence first
abbrev pub faults : Layout → ℕ → Now → List ℕ → Option ℕ → List (Option LayoutFault)
faults layout k seeking before next =
    too_long before next ∷ wrong_size layout before next ∷ ends_early layout k before next ∷ []
faults layout k (inside block) before next =
    too_long before next ∷ mixed_line before next ∷ wrong_number layout block before next
    ∷ ends_early layout k before next ∷ []
faults layout k lost before next = []

-- the fault of a place, if the lines that ended before it leave fewer than k blocks complete; else it has none
unfoldable pub fault_of_place : Layout → ℕ → List ℕ → Option ℕ → Option LayoutFault
fault_of_place layout k before next =
    let reached = stand layout (ended_lines before) in
    if nat_lt (length reached.complete) k then first_some (faults layout k reached.now before next) else None

-- the fault of a place of the input, counted from 0: a byte, or the end
abbrev pub fault_at : Layout → ℕ → List ℕ → ℕ → Option LayoutFault
fault_at layout k input place = fault_of_place layout k (take place input) (slice_get input place)

-- the input is rejected with this fault, that of the first place that has one
pub record RejectsInstance (layout : Layout) (input : List ℕ) (k : ℕ) (fault : LayoutFault) : Type 0 where
  pub place : ℕ
  pub within : place ≤ length input
  pub here : fault_at layout k input place ≡ Some fault
  pub first : (earlier : ℕ) → earlier < place → fault_at layout k input earlier ≡ None

-- the fault with which the input is rejected, if there is one, computed
unfoldable pub rejection : Layout → List ℕ → ℕ → Option LayoutFault
rejection layout input k = first_some (map (fault_at layout k input) (below (length input + 1)))

-- the problem of the k-th block of an input that isn't rejected, computed
unfoldable pub accepted : Layout → List ℕ → ℕ → Option Problem
unfolding rejection
accepted layout input k = if is_none (rejection layout input k)
    then option_map (instance_of layout) (slice_get (stand layout (lines input)).complete (k - 1)) else None

-- the first fault at a byte of a text, if there is one; the end of the text isn't a byte
unfoldable pub byte_fault : Layout → ℕ → List ℕ → Option LayoutFault
byte_fault layout k text = first_some (map (fault_at layout k text) (below (length text)))
