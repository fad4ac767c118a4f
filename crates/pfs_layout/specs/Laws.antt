-- Laws about instance files.
use Rattle.std.specs.Prelude.{◌≡◌, ◌↔◌, ℕ, ◌*◌, ◌<◌, ◌≤◌, List, [], ◌∷◌, ◌++◌, length, Some, None, ◌⊎◌, IsTrue}
use Rattle.std.specs.List.{All}
use Rattle.pfs_base.specs.FlowShop.{AreSizes}
use Rattle.pfs_base.specs.Limits.{Limits, limits}
use Rattle.pfs_base.specs.Problem.{Problem}
use Rattle.pfs_layout.specs.Lines.{lines, ended_lines}
use Rattle.pfs_layout.specs.Block.{Layout, Size, size_of, due, are_due, Block, seeking, stand, instance_of}
use Rattle.pfs_layout.specs.File.{IsInstance, Front, IsInstanceFile}
use Rattle.pfs_layout.specs.CanonicalText.{canonical_text, as_written}
use Rattle.pfs_layout.specs.Generator.{IsSeed, seed_after, generated}
use Rattle.pfs_layout.specs.Rejection.{LayoutFault, RejectsInstance, rejection, accepted, byte_fault}

-- the lines of a prefix of the input lead to k complete blocks, and the next block is sought
pub record Seeks (layout : Layout) (input : List ℕ) (k : ℕ) : Type 0 where
  pub front : Front limits input
  pub open front use *
  pub complete : length (stand layout (lines text)).complete ≡ k
  pub now : (stand layout (lines text)).now ≡ seeking

-- the lines of a prefix of the input lead to k complete blocks, the last of which is the problem's, and the
-- next block is sought
pub record Completes (layout : Layout) (input : List ℕ) (k : ℕ) (problem : Problem) : Type 0 where
  pub seeks : Seeks layout input k
  pub open seeks use *
  pub earlier : List Block
  pub own : Block
  pub parts : (stand layout (lines text)).complete ≡ earlier ++ own ∷ []
  pub is : problem ≡ instance_of layout own

-- an input has a problem's file exactly if a prefix of it leads there
abbrev pub InstanceFile : Type 0
InstanceFile = (layout : Layout) (input : List ℕ) (k : ℕ) (problem : Problem)
    → IsInstanceFile limits layout input k problem ↔ Completes layout input k problem

-- an input has a file of some problem exactly if a prefix of it leads to k complete blocks
abbrev pub SomeFile : Type 0
SomeFile = (layout : Layout) (input : List ℕ) (k : ℕ) → 1 ≤ k
    → ((problem : Problem) × IsInstanceFile limits layout input k problem) ↔ Seeks layout input k

-- something has the property, and nothing else has it
pub record ExactlyOne {A : Type 0} (P : A → Type 0) : Type 0 where
  pub one : A
  pub has : P one
  pub no_other : (other : A) → P other → other ≡ one

-- an input has the file of exactly one problem and no fault, or it has exactly one fault and no problem's file
abbrev pub OneVerdict : Type 0
OneVerdict = (layout : Layout) (input : List ℕ) (k : ℕ) → 1 ≤ k
    → (ExactlyOne (IsInstanceFile limits layout input k)
    × ((fault : LayoutFault) → ¬ RejectsInstance layout input k fault))
    ⊎ (ExactlyOne (RejectsInstance layout input k)
    × ((problem : Problem) → ¬ IsInstanceFile limits layout input k problem))

-- `accepted` computes which problem's file an input has
abbrev pub AcceptedLaw : Type 0
AcceptedLaw = (layout : Layout) (input : List ℕ) (k : ℕ) (problem : Problem) → 1 ≤ k
    → accepted layout input k ≡ Some problem ↔ IsInstanceFile limits layout input k problem

-- `rejection` computes which fault an input has
abbrev pub RejectionLaw : Type 0
RejectionLaw = (layout : Layout) (input : List ℕ) (k : ℕ) (fault : LayoutFault)
    → rejection layout input k ≡ Some fault ↔ RejectsInstance layout input k fault

-- a fault at a byte of a text is the fault of every input that begins with the text
abbrev pub FaultStays : Type 0
FaultStays = (layout : Layout) (text more : List ℕ) (k : ℕ) (fault : LayoutFault)
    → byte_fault layout k text ≡ Some fault → RejectsInstance layout (text ++ more) k fault

-- a fault is the first at a byte exactly if it is the fault of the text, and its place is a byte
abbrev pub ByteFaultLaw : Type 0
ByteFaultLaw = (layout : Layout) (text : List ℕ) (k : ℕ) (fault : LayoutFault)
    → byte_fault layout k text ≡ Some fault
    ↔ ((rejected : RejectsInstance layout text k fault) × (rejected.place < length text))

-- if no byte of a text has a fault, and its ended lines complete k blocks, any bytes may follow it: the problem
-- stays the same
abbrev pub FreeAfter : Type 0
FreeAfter = (layout : Layout) (text more : List ℕ) (k : ℕ) (problem : Problem) → 1 ≤ k
    → byte_fault layout k text ≡ None → k ≤ length (stand layout (ended_lines text)).complete
    → IsInstanceFile limits layout text k problem ↔ IsInstanceFile limits layout (text ++ more) k problem

-- no limit of `wide` is lower than that of `narrow`
pub record IsWider (narrow wide : Limits) : Type 0 where
  pub jobs : narrow.jobs ≤ wide.jobs
  pub machines : narrow.machines ≤ wide.machines
  pub time : narrow.time ≤ wide.time
  pub note : narrow.note ≤ wide.note
  pub input : narrow.input ≤ wide.input

-- a file under some limits is a file of the same problem under wider ones
abbrev pub WiderLimits : Type 0
WiderLimits = (narrow wide : Limits) (layout : Layout) (input : List ℕ) (k : ℕ) (problem : Problem)
    → IsWider narrow wide → IsInstanceFile narrow layout input k problem → IsInstanceFile wide layout input k problem

-- the limits of earlier versions, which had fewer jobs and shorter times
abbrev pub earlier_limits : Limits
earlier_limits = record { jobs = 2000; machines = 200; time = 1000000; note = 4294967295; input = 67108864 }

-- a file under the earlier limits is a file of the same problem
abbrev pub EarlierFiles : Type 0
EarlierFiles = (layout : Layout) (input : List ℕ) (k : ℕ) (problem : Problem)
    → IsInstanceFile earlier_limits layout input k problem → IsInstanceFile limits layout input k problem

-- the numbers that are due for a problem give the problem back
abbrev pub DueAndBack : Type 0
DueAndBack = (layout : Layout) (problem : Problem)
    → length problem.shop.times ≡ problem.shop.jobs * problem.shop.machines
    → instance_of layout (record { size = size_of problem; numbers = due layout problem.shop }) ≡ problem

-- these numbers begin what is due for some problem of this size, with times within the limit
pub record BeginDue (layout : Layout) (size : Size) (numbers : List ℕ) : Type 0 where
  pub problem : Problem
  pub rest : List ℕ
  pub of_size : size_of problem ≡ size
  pub every_time : length problem.shop.times ≡ size.jobs * size.machines
  pub short_times : All (λ time. time ≤ limits.time) problem.shop.times
  pub begin : due layout problem.shop ≡ numbers ++ rest

-- numbers pass, place by place, exactly if they begin what is due for some problem
abbrev pub DueFronts : Type 0
DueFronts = (layout : Layout) (size : Size) (numbers : List ℕ)
    → IsTrue (are_due layout size numbers) ↔ BeginDue layout size numbers

-- the text that is written of a problem is an instance file of it, without the notes in the OR-Library's layout
abbrev pub CanonicalLaw : Type 0
CanonicalLaw = (layout : Layout) (problem : Problem) → IsInstance limits problem
    → IsInstanceFile limits layout (canonical_text layout problem) 1 (as_written layout problem)

-- no text that is written of a problem is longer than the limit of an instance file
abbrev pub CanonicalTextsFit : Type 0
CanonicalTextsFit = (layout : Layout) (problem : Problem) → IsInstance limits problem
    → length (canonical_text layout problem) ≤ limits.input

-- every seed that is drawn from a seed is a seed
abbrev pub SeedsStay : Type 0
SeedsStay = (draws seed : ℕ) → IsSeed seed → IsSeed (seed_after draws seed)

-- a generated instance is within the limits
abbrev pub GeneratedWithin : Type 0
GeneratedWithin = (jobs machines seed : ℕ) → AreSizes limits jobs machines → IsSeed seed
    → IsInstance limits (generated jobs machines seed)
