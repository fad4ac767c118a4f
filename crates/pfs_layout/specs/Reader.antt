-- What the fields of a reader mean for the bytes that it has read.
use Rattle.std.specs.Prelude.{◌≡◌, ◌≢◌, ◌↔◌, ℕ, ◌+◌, ◌-◌, ◌*◌, ◌<◌, ◌≤◌, min, Bool, true, false, nat_lt, List, []}
use Rattle.std.specs.Prelude.{◌∷◌, ◌++◌, length, take, count_by, slice_index, Option, Some, None, option_map, Result}
use Rattle.std.specs.Prelude.{Ok, Err, IfOk, IfErr, IsTrue, IsFalse, if◌then◌else◌, ◌==◌, slice_get}
use Rattle.std.specs.List.{list_any}
use Rattle.std.specs.Str.Parse.{digits_value}
use Rattle.pfs_base.specs.declared.limits.TheConstants.{LONGEST_INPUT}
use Rattle.pfs_base.specs.Limits.{limits}
use Rattle.pfs_base.specs.Problem.{Problem}
use Rattle.pfs_layout.specs.declared.scan.Line.{Line}
use Rattle.pfs_layout.specs.declared.scan.TheConstants.{CEILING}
use Rattle.pfs_layout.specs.declared.size_line.SizeLine.{SizeLine}
use Rattle.pfs_layout.specs.declared.body.Body.{Body}
use Rattle.pfs_layout.specs.declared.blocks.Phase.{Phase}
use Rattle.pfs_layout.specs.declared.blocks.Blocks.{Blocks}
use Rattle.pfs_layout.specs.declared.blocks.Progress.{Progress}
use Rattle.pfs_layout.specs.declared.reader.TheConstants.{PIECE}
use Rattle.pfs_layout.specs.Lines.{is_digit, is_word_byte, is_line_end, ended_lines, open_line, ended_numbers}
use Rattle.pfs_layout.specs.Lines.{last_digits}
use Rattle.pfs_layout.specs.Block.{Layout, Size, Block, Now, seeking, inside, lost, Stand, stand, instance_of}
use Rattle.pfs_layout.specs.Block.{is_within_limits, due_count, times_in, place_of_time}
use Rattle.pfs_layout.specs.File.{IsInstanceFile}
use Rattle.pfs_layout.specs.Rejection.{LayoutFault, RejectsInstance, fault_of_place, byte_fault}

-- the reader needs more bytes
abbrev pub is_live : Phase → Bool
is_live Phase.Done = false
is_live (Phase.Rejected fault) = false
is_live other = true

-- what a reader keeps: the line that is being read, and the blocks
pub record Fields : Type 0 where
  pub last : Line
  pub open last use *
  pub blocks : Blocks
  pub open blocks use *

abbrev pub fields : Line → Blocks → Fields
fields last blocks = record { last = last; blocks = blocks }

-- ---- the wanted block, as far as it was read

-- the block that has begun, with these ended numbers of the last line too
abbrev pub block_begun_by : Now → List ℕ → Option Block
block_begun_by seeking more = None
block_begun_by (inside block) more = Some (record { size = block.size; numbers = block.numbers ++ more })
block_begun_by lost more = None

-- block k, after lines that lead to this state and these ended numbers of the last line
abbrev pub block_of : ℕ → Stand → List ℕ → Option Block
block_of k stood more = if nat_lt (length stood.complete) k
    then (if length stood.complete + 1 == k then block_begun_by stood.now more else None)
    else slice_get stood.complete (k - 1)

-- block k of a text, as far as it has begun
unfoldable pub block_read : Layout → ℕ → List ℕ → Option Block
block_read layout k text = block_of k (stand layout (ended_lines text)) (ended_numbers (open_line text))

-- how many times such a block has so far
abbrev pub time_count : Layout → Option Block → ℕ
time_count layout None = 0
time_count layout (Some block) = times_in layout (length block.numbers)

-- ---- the fields of a reader that has met no fault

-- the unfinished number, and the kinds of bytes on the last line
pub record FollowsLine (last : Line) (text : List ℕ) : Type 0 where
  pub offset : last.digits.offset ≡ length text
  pub first : last.digits.first ≡ length text - length (last_digits text)
  pub value : last.digits.value ≡ min CEILING (digits_value 10 (last_digits text))
  pub has_digit : last.kinds.has_digit ≡ list_any is_digit (open_line text)
  pub has_word : last.kinds.has_word ≡ list_any is_word_byte (open_line text)

-- the count of these numbers, and the first five of them, each at most the ceiling; if there are fewer, the other
-- values are 0
pub record HoldsNumbers (line : SizeLine) (numbers : List ℕ) : Type 0 where
  pub count : line.count ≡ length numbers
  pub values : (i : ℕ) → i < 5 → slice_index line.values i ≡ min CEILING (slice_index numbers i)

-- the body of a block of this size, of which `count` numbers were read, and the job and machine of the next time
pub record FollowsBody (layout : Layout) (size : Size) (count : ℕ) (body : Body) : Type 0 where
  pub jobs : body.jobs ≡ size.jobs
  pub machines : body.machines ≡ size.machines
  pub due : body.due ≡ due_count layout size
  pub validated : body.validated ≡ count
  pub few : body.validated ≤ body.due
  pub job : body.job < body.jobs
  pub machine : body.machine < body.machines
  pub place : body.validated < body.due
      → times_in layout body.validated ≡ times_in layout (place_of_time layout size body.job body.machine)

-- no block has begun, and the last line has these ended numbers: the next block is sought, unless the wanted
-- one is complete; the numbers are recorded, unless the line has a word byte
pub record IsSeeking (has_word : Bool) (r : Blocks) (more : List ℕ) : Type 0 where
  pub phase : r.phase ≡ (if nat_lt r.complete r.wanted then Phase.Seeking else Phase.Done)
  pub numbers : has_word ≡ false → HoldsNumbers r.size_line more

-- this block has begun, and the last line adds these ended numbers to it
pub record IsInside (r : Blocks) (block : Block) (more : List ℕ) : Type 0 where
  pub phase : r.phase ≡ Phase.Body
  pub few : r.complete < r.wanted
  pub fits : is_within_limits block.size ≡ true
  pub body : FollowsBody r.layout block.size (length block.numbers + length more) r.body

-- the one of these two that fits the state after the ended lines; at `lost`, a reader has met a fault
abbrev pub FollowsNow : Bool → Blocks → Now → List ℕ → Type 0
FollowsNow has_word r seeking more = IsSeeking has_word r more
FollowsNow has_word r (inside block) more = IsInside r block more
FollowsNow has_word r lost more = ⊥

-- the fields of the blocks, after ended lines that lead to this state and these ended numbers of the last line,
-- which has a word byte or not
pub record FollowsBlocks (has_word : Bool) (r : Blocks) (stood : Stand) (more : List ℕ) : Type 0 where
  pub complete : r.complete ≡ length stood.complete
  pub now : FollowsNow has_word r stood.now more
  pub instance : r.instance ≡ option_map (instance_of r.layout) (block_of r.wanted stood more)
  pub held : r.held ≡ time_count r.layout (block_of r.wanted stood more)

-- the reader has read this text, of which no byte has a fault: each field has the value that its name says
pub record Follows (r : Fields) (text : List ℕ) : Type 0 where
  pub some : 1 ≤ r.wanted
  pub sound : byte_fault r.layout r.wanted text ≡ None
  pub short : length text ≤ LONGEST_INPUT
  pub last_line : FollowsLine r.last text
  pub line : r.line ≡ 1 + count_by is_line_end text
  pub few_numbers : r.size_line.count ≤ length text
  pub five_values : length r.size_line.values ≡ 5
  pub blocks : FollowsBlocks (list_any is_word_byte (open_line text)) r.blocks (stand r.layout (ended_lines text))
      (ended_numbers (open_line text))

-- ---- what a reader has read

-- a byte of the text has this fault, and none before it has one; the times that had ended before it are stored
pub record IsRejected (r : Fields) (text : List ℕ) (fault : LayoutFault) : Type 0 where
  pub front : List ℕ
  pub byte : ℕ
  pub rest : List ℕ
  pub whole : text ≡ front ++ byte ∷ rest
  pub sound : byte_fault r.layout r.wanted front ≡ None
  pub here : fault_of_place r.layout r.wanted front (Some byte) ≡ Some fault
  pub held : r.held ≡ time_count r.layout (block_read r.layout r.wanted front)

-- the same, by the reader's phase
abbrev pub HasReadIn : Phase → Fields → List ℕ → Type 0
HasReadIn (Phase.Rejected fault) r text = IsRejected r text fault
HasReadIn other r text = Follows r text

-- the reader has read this text, with or without a fault
abbrev pub HasRead : Fields → List ℕ → Type 0
HasRead r text = HasReadIn r.phase r text

-- every reader has read some text, or its allocation failed and it has stored no time
pub record IsReader (r : Fields) : Type 0 where
  pub has_read : r.phase ≢ Phase.Rejected LayoutFault.Memory → (text : List ℕ) × HasRead r text
  pub none : r.phase ≡ Phase.Rejected LayoutFault.Memory → r.held ≡ 0

-- ---- how many times are stored

-- how many times a block has in all, once its size line has ended
abbrev pub most_times : Option Block → ℕ
most_times None = 0
most_times (Some block) = block.size.jobs * block.size.machines

-- some prefix of the text bounds how many times are stored: by jobs times machines of the wanted block's size
-- line, or by 0 if the prefix doesn't have its size
pub record HoldsFew (layout : Layout) (k : ℕ) (text : List ℕ) (held : ℕ) : Type 0 where
  pub front : List ℕ
  pub rest : List ℕ
  pub whole : text ≡ front ++ rest
  pub few : held ≤ most_times (block_read layout k front)

-- ---- what the calls promise

-- the byte, within the limit of the input, ends the size line of the wanted block
pub record EndsWantedSize (layout : Layout) (k : ℕ) (text : List ℕ) (byte : ℕ) : Type 0 where
  pub short : length text < LONGEST_INPUT
  pub line_end : byte ≡ 10
  pub last : length (stand layout (ended_lines text)).complete + 1 ≡ k
  pub sought : (stand layout (ended_lines text)).now ≡ seeking
  pub begun : (block : Block) × ((stand layout (ended_lines (text ++ byte ∷ []))).now ≡ inside block)

-- what a call returns that used this many bytes and leaves a reader in this phase
abbrev pub progress_of : Phase → ℕ → Result Progress LayoutFault
progress_of Phase.Done used = Ok (record { used = used; done = true })
progress_of (Phase.Rejected fault) used = Err fault
progress_of other used = Ok (record { used = used; done = false })

-- what `feed` promises of a reader that has read this text
pub record FeedMeets (old : Fields) (text piece : List ℕ) (outcome : Result Progress LayoutFault) (new : Fields)
    : Type 0 where
  pub ok : IfOk outcome
      (λ progress. (progress.used ≤ length piece) × HasRead new (text ++ take progress.used piece))
  pub layout : new.layout ≡ old.layout
  pub wanted : new.wanted ≡ old.wanted
  -- the whole piece was used, or the wanted block has ended with the last byte that was used
  pub whole : IfOk outcome (λ progress. IsFalse progress.done → progress.used ≡ length piece)
  pub done : IfOk outcome (λ progress. IsTrue progress.done ↔ (new.phase ≡ Phase.Done))
  pub no_more : IfOk outcome (λ progress. (n : ℕ) → n < progress.used
      → length (stand old.layout (ended_lines (text ++ take n piece))).complete < old.wanted)
  pub rejected : IfErr outcome (λ fault. fault ≢ LayoutFault.Memory → HasRead new (text ++ piece))
  pub exact : outcome ≢ Err LayoutFault.Memory → (fault : LayoutFault)
      → (outcome ≡ Err fault) ↔ (byte_fault old.layout old.wanted (text ++ piece) ≡ Some fault)
  pub memory : outcome ≡ Err LayoutFault.Memory
      → (n : ℕ) × (n < length piece) × EndsWantedSize old.layout old.wanted (text ++ take n piece) (slice_index piece n)

-- what `finish` promises of a reader that has read this text
pub record FinishMeets (old : Fields) (text : List ℕ) (outcome : Result Problem LayoutFault) : Type 0 where
  pub file : (problem : Problem) → (outcome ≡ Ok problem) ↔ IsInstanceFile limits old.layout text old.wanted problem
  pub rejected : (fault : LayoutFault) → (outcome ≡ Err fault) ↔ RejectsInstance old.layout text old.wanted fault

-- ---- how far an input is read

-- no byte of the text has a fault, and fewer than k blocks are complete: more of the input is needed
pub record IsUndecided (layout : Layout) (k : ℕ) (text : List ℕ) : Type 0 where
  pub sound : byte_fault layout k text ≡ None
  pub incomplete : length (stand layout (ended_lines text)).complete < k

-- of an input of these bytes a prefix was read that was undecided, and after it a last piece of at most `PIECE`
-- bytes; `left` is the rest, and `fault` the fault that is reported, if any
pub record ReadsAsFar (layout : Layout) (k : ℕ) (bytes : List ℕ) (left : Option (List ℕ)) (fault : Option LayoutFault)
    : Type 0 where
  pub front : List ℕ
  pub last : List ℕ
  pub rest : List ℕ
  pub whole : bytes ≡ front ++ last ++ rest
  pub left_is : left ≡ Some rest
  pub wanted : IsUndecided layout k front
  pub piece : length last ≤ PIECE
  -- a failed read gives no piece
  pub failed : fault ≡ Some LayoutFault.Read → last ≡ []
  -- an allocation fails only where the wanted block's size line ends, which is in the last piece
  pub memory : fault ≡ Some LayoutFault.Memory
      → (n : ℕ) × (n < length last) × EndsWantedSize layout k (front ++ take n last) (slice_index last n)
