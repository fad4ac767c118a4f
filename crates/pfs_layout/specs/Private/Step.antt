-- How one more byte changes a reader's fields. What the fields mean for the bytes read so far is in `Reader`.
use Rattle.std.specs.Prelude.{◌≡◌, ◌≢◌, ℕ, ◌+◌, ◌*◌, ◌<◌, ◌≤◌, Bool, true, false, not, ◌&&◌}
use Rattle.std.specs.Prelude.{◌==◌, nat_lt, replicate, slice_index, slice_set, Option, Some, None, is_some, option_map}
use Rattle.std.specs.Prelude.{IfSome, if◌then◌else◌, List, [], ◌∷◌, ◌++◌, length, take}
use Rattle.std.specs.Bool.{then_some}
use Rattle.pfs_base.specs.declared.limits.TheConstants.{LONGEST_INPUT, LONGEST_TIME}
use Rattle.pfs_base.specs.FlowShop.{with_time}
use Rattle.pfs_base.specs.Problem.{Problem}
use Rattle.pfs_layout.specs.declared.scan.Digits.{Digits}
use Rattle.pfs_layout.specs.declared.scan.Kinds.{Kinds}
use Rattle.pfs_layout.specs.declared.scan.Line.{Line}
use Rattle.pfs_layout.specs.declared.scan.Number.{Number}
use Rattle.pfs_layout.specs.declared.size_line.SizeLine.{SizeLine}
use Rattle.pfs_layout.specs.declared.body.Body.{Body}
use Rattle.pfs_layout.specs.declared.body.Due.{Due}
use Rattle.pfs_layout.specs.declared.blocks.Phase.{Phase}
use Rattle.pfs_layout.specs.declared.blocks.Blocks.{Blocks}
use Rattle.pfs_layout.specs.Lines.{is_digit, is_blank, is_line_end, ended_lines}
use Rattle.pfs_layout.specs.Block.{Layout, Size, preamble_of, is_within_limits, problem_of, size_from, numbers_for}
use Rattle.pfs_layout.specs.Block.{times_in, is_due, due_by, stand}
use Rattle.pfs_layout.specs.Rejection.{LayoutFault, fault_of_due}
use Rattle.pfs_layout.specs.Reader.{EndsWantedSize, Fields, Follows, FollowsLine, HasRead, is_live}

-- ---- the line that is being read

-- `new` is the line `old` with this byte added: where `old` follows a text, `new` follows the text with the byte
pub record Pushes (old : Line) (b : ℕ) (new : Line) : Type 0 where
  pub offset : new.digits.offset ≡ old.digits.offset + 1
  pub follows : (text : List ℕ) → FollowsLine old text → FollowsLine new (text ++ b ∷ [])

-- the line is a number line so far
abbrev pub has_numbers_alone : Kinds → Bool
has_numbers_alone k = k.has_digit && not k.has_word

-- the unfinished number, if there is one
abbrev pub open_number : Digits → Option Number
open_number d = if d.first == d.offset then None else Some (record { value = d.value; first = d.first })

-- ---- a line that may be a size line

-- the line with one more number, which is kept if it is one of the first five
abbrev pub with_number : SizeLine → ℕ → SizeLine
with_number line value = record {
  count = line.count + 1;
  values = if nat_lt line.count 5 then slice_set line.values line.count value else line.values;
}

-- a line of which no number was read
abbrev pub no_numbers : SizeLine
no_numbers = record { count = 0; values = replicate 5 0 }

-- the size that the numbers state, if their count is that of the layout
unfoldable pub stated_by : Layout → SizeLine → Option Size
stated_by layout line = then_some (line.count == (preamble_of layout).size_numbers) (size_from line.values)

-- ---- the body of a block

-- the body of a block with this many jobs and machines, before its first number
abbrev pub body_of : Layout → ℕ → ℕ → Body
body_of layout jobs machines = record {
  jobs = jobs;
  machines = machines;
  due = numbers_for layout (jobs * machines);
  validated = 0;
  job = 0;
  machine = 0;
}

-- what is due next
abbrev pub due_next : Layout → Body → Due
due_next layout body = due_by layout body.due body.machine body.validated

-- the body after a machine's number
abbrev pub after_machine : Body → Body
after_machine body = record body { validated = body.validated + 1 }

-- the number after `at` among the first `count` numbers from 0, or 0 after the last
abbrev pub next_of : ℕ → ℕ → ℕ
next_of at count = if at + 1 == count then 0 else at + 1

-- the body after a time, with the job and machine of the next one
abbrev pub after_time : Layout → Body → Body
after_time Layout.Taillard body = record body {
  validated = body.validated + 1;
  job = next_of body.job body.jobs;
  machine = if body.job + 1 == body.jobs then next_of body.machine body.machines else body.machine;
}
after_time Layout.OrLib body = record body {
  validated = body.validated + 1;
  job = if body.machine + 1 == body.machines then next_of body.job body.jobs else body.job;
  machine = next_of body.machine body.machines;
}

-- ---- the blocks

-- the input is rejected with this fault
abbrev pub rejected : Blocks → LayoutFault → Blocks
rejected r fault = record r { phase = Phase.Rejected fault }

-- the problem with this time of the body's job on the body's machine
abbrev pub with_problem_time : Body → ℕ → Problem → Problem
with_problem_time body time problem = record problem { shop = with_time problem.shop body.job body.machine time }

-- after the next time of this body was stored in the instance, if there is one
abbrev pub stored : Blocks → Body → ℕ → Blocks
stored r body time = record r {
  instance = option_map (with_problem_time body time) r.instance;
  held = if is_some r.instance then r.held + 1 else r.held;
}

-- after a number that is what is due
abbrev pub counted : Blocks → Due → ℕ → Blocks
counted r Due.Time value = record (stored r r.body value) { body = after_time r.layout r.body }
counted r other value = record r { body = after_machine r.body }

-- after a number of a body: it is counted if it is what is due, and else the input is rejected
abbrev pub body_validated : Blocks → ℕ → ℕ → Blocks
body_validated r value first = let due = due_next r.layout r.body in
    if is_due due value then counted r due value else rejected r (fault_of_due due first)

-- after a number, in this phase
abbrev pub number_ended_in : Phase → Blocks → ℕ → ℕ → Blocks
number_ended_in Phase.Seeking r value first = record r { size_line = with_number r.size_line value }
number_ended_in Phase.Body r value first = body_validated r value first
number_ended_in other r value first = r

-- after a number
unfoldable pub number_ended : Blocks → ℕ → ℕ → Blocks
number_ended r value first = number_ended_in r.phase r value first

-- a block of this size begins; if it is the wanted one, its instance has times of 0
abbrev pub block_begun : Blocks → Size → Blocks
block_begun r size = record r {
  instance = if r.complete + 1 == r.wanted then Some (problem_of size (λ job machine. 0)) else None;
  body = body_of r.layout size.jobs size.machines;
  phase = Phase.Body;
}

-- after a size line: the input is rejected with its fault, or the block begins
abbrev pub size_validated : Blocks → ℕ → Option Size → Blocks
size_validated r line None = rejected r (LayoutFault.SizeCount line)
size_validated r line (Some size) =
    if is_within_limits size then block_begun r size else rejected r (LayoutFault.SizeRange line)

-- the next line, of which no number was read
abbrev pub at_next_line : Blocks → Blocks
at_next_line r = record r { line = r.line + 1; size_line = no_numbers }

-- after the end of a line, in this phase
abbrev pub line_ended_in : Phase → Blocks → Bool → Blocks
line_ended_in Phase.Seeking r is_number_line = if is_number_line
    then size_validated (at_next_line r) r.line (stated_by r.layout r.size_line)
    else at_next_line r
line_ended_in Phase.Body r is_number_line = if nat_lt r.body.validated r.body.due then at_next_line r
    else record (at_next_line r) {
      complete = r.complete + 1;
      phase = if r.complete + 1 == r.wanted then Phase.Done else Phase.Seeking;
    }
line_ended_in other r is_number_line = at_next_line r

-- after byte 10
unfoldable pub line_ended : Blocks → Bool → Blocks
line_ended r is_number_line = line_ended_in r.phase r is_number_line

-- after the unfinished number, if there is one
abbrev pub last_number_ended : Blocks → Option Number → Blocks
last_number_ended r None = r
last_number_ended r (Some number) = number_ended r number.value number.first

-- the input is rejected if a line of a block is mixed by the byte at this offset
abbrev pub mixed_met : Phase → Blocks → ℕ → Blocks
mixed_met Phase.Body r offset = rejected r (LayoutFault.MixedLine offset)
mixed_met other r offset = r

-- after this byte, where `last` is the line before it
abbrev pub after_byte : Blocks → Line → ℕ → Blocks
after_byte r last b =
    let ended = last_number_ended r (open_number last.digits) in
    if is_blank b then ended
    else (if is_line_end b then line_ended ended (has_numbers_alone last.kinds)
    else (if (if is_digit b then last.kinds.has_word else last.kinds.has_digit)
    then mixed_met r.phase r last.digits.offset else r))

-- the fault of an input that ends after a line end, if the wanted block isn't complete
abbrev pub end_fault_in : Phase → Blocks → Option LayoutFault
end_fault_in Phase.Seeking r = Some (LayoutFault.NoBlock r.complete)
end_fault_in Phase.Body r = Some (LayoutFault.Truncated (times_in r.layout r.body.validated))
end_fault_in (Phase.Rejected fault) r = Some fault
end_fault_in other r = None

abbrev pub end_fault : Blocks → Option LayoutFault
end_fault r = end_fault_in r.phase r

-- after the last number of an input whose last line is `last`
abbrev pub at_end : Line → Blocks → Blocks
at_end last r = if is_live r.phase then last_number_ended r (open_number last.digits) else r

-- the memory for the wanted block could not be allocated where its size line ends
pub record LacksMemory (old next new : Blocks) : Type 0 where
  pub sought : old.phase ≡ Phase.Seeking
  pub wanted : old.complete + 1 ≡ old.wanted
  pub begins : next.phase ≡ Phase.Body
  pub keeps : new ≡ record new { layout = old.layout; wanted = old.wanted; held = old.held }

-- what the check of a number of a body requires
pub record CanCount (r : Blocks) : Type 0 where
  pub few : r.body.validated ≤ r.body.due
  pub job : r.body.job < r.body.jobs
  pub machine : r.body.machine < r.body.machines
  pub held : r.held < LONGEST_INPUT
  pub instance : IfSome r.instance
      (λ problem. (problem.shop.jobs ≡ r.body.jobs) × (problem.shop.machines ≡ r.body.machines))

-- what the check of a byte, or of the end of the input, requires
pub record IsReady (r : Blocks) : Type 0 where
  pub live : is_live r.phase ≡ true
  pub can : r.phase ≡ Phase.Body → CanCount r
  pub count : r.size_line.count ≤ LONGEST_INPUT
  pub complete : r.complete < r.wanted
  pub line : r.line ≤ LONGEST_INPUT + 1

-- ---- a piece

-- a block has begun; the line has no word byte, and its unfinished number is within the limit of a time
pub record ReadsNumbers (r : Fields) : Type 0 where
  pub phase : r.phase ≡ Phase.Body
  pub plain : r.kinds.has_word ≡ false
  pub short : r.digits.value ≤ LONGEST_TIME

-- a reader after the first bytes of a piece, which needs more of them
pub record TakenTo (old now : Fields) (piece : List ℕ) (i : ℕ) : Type 0 where
  pub live : is_live now.phase ≡ true
  pub layout : now.layout ≡ old.layout
  pub wanted : now.wanted ≡ old.wanted
  pub offset : now.digits.offset ≡ old.digits.offset + i
  pub follows : (text : List ℕ) → HasRead old text → Follows now (text ++ take i piece)
  pub no_more : (text : List ℕ) → HasRead old text → (n : ℕ) → n < i
      → length (stand old.layout (ended_lines (text ++ take n piece))).complete < old.wanted

-- what `used` bytes of a piece make of a reader that has read this text
pub record TakeMeets (old : Fields) (text piece : List ℕ) (used : ℕ) (new : Fields) : Type 0 where
  pub layout : new.layout ≡ old.layout
  pub wanted : new.wanted ≡ old.wanted
  pub has_read : new.phase ≢ Phase.Rejected LayoutFault.Memory → HasRead new (text ++ take used piece)
  pub memory : new.phase ≡ Phase.Rejected LayoutFault.Memory
      → (n : ℕ) × (n < length piece) × EndsWantedSize old.layout old.wanted (text ++ take n piece) (slice_index piece n)
  pub none : new.phase ≡ Phase.Rejected LayoutFault.Memory → new.held ≡ 0
  pub no_more : (n : ℕ) → n < used
      → length (stand old.layout (ended_lines (text ++ take n piece))).complete < old.wanted
