-- Laws of order files and of how other inputs are rejected.
use Rattle.std.specs.Prelude.{◌≡◌, ℕ, ◌<◌, ◌≤◌, ◌^◌, ◌↔◌, List, ◌∷◌, ◌++◌, length, take, ◌⊎◌, Option, None}
use Rattle.pfs_base.specs.Limits.{limits}
use Rattle.pfs_base.specs.declared.limits.TheConstants.{LONGEST_ORDER_FILE}
use Rattle.pfs_order.specs.declared.fault.OrderFault.{OrderFault}
use Rattle.pfs_order.specs.OrderText.{file_text}
use Rattle.pfs_order.specs.OrderFile.{IsText, IsOrderFile, IsSyntaxFault, RejectsOrder}
use Rattle.pfs_order.specs.Sequence.{StatedOrder, IsSequence, IsSize, AreMachines}
use Rattle.pfs_order.specs.VersionOne.{IsVersionOne}

-- the text that is written for an order, a number of machines or none, and a makespan is their order file
abbrev pub WrittenIsRead : Type 0
WrittenIsRead = (order : List ℕ) (machines : Option ℕ) (makespan : ℕ) → IsSize limits (length order)
    → IsSequence (length order) order → AreMachines machines → makespan < 10 ^ 18
    → IsOrderFile (file_text order machines makespan)
    (record { order = order; machines = machines; makespan = makespan })

-- no other text is their order file
abbrev pub OnlyWritten : Type 0
OnlyWritten = (input : List ℕ) (file : StatedOrder) → IsOrderFile input file
    → input ≡ file_text file.order file.machines file.makespan

-- an input states at most one order, one makespan, and one number of machines or none
abbrev pub OneOrderFile : Type 0
OneOrderFile = (input : List ℕ) (one other : StatedOrder) → IsOrderFile input one → IsOrderFile input other
    → one ≡ other

-- an input is rejected in at most one way
abbrev pub OneRejection : Type 0
OneRejection = (input : List ℕ) (one other : OrderFault)
    → RejectsOrder input one → RejectsOrder input other → one ≡ other

-- no order file is rejected
abbrev pub NoneIsBoth : Type 0
NoneIsBoth = (input : List ℕ) (file : StatedOrder) (fault : OrderFault) → IsOrderFile input file
    → ¬ RejectsOrder input fault

-- every text of the grammar is within the limit of bytes
abbrev pub TextsFit : Type 0
TextsFit = (text : List ℕ) → IsText text → length text ≤ LONGEST_ORDER_FILE

-- a text of the grammar that is cut is rejected where it ends
abbrev pub CutText : Type 0
CutText = (text : List ℕ) (cut : ℕ) → IsText text → cut < length text → IsSyntaxFault (take cut text) cut

-- a text of the grammar with more bytes after it is rejected where the text ends
abbrev pub LongerText : Type 0
LongerText = (text : List ℕ) (byte : ℕ) (more : List ℕ) → IsText text
    → IsSyntaxFault (text ++ byte ∷ more) (length text)

-- each input is a text of the grammar or has a syntax fault
abbrev pub TextOrFault : Type 0
TextOrFault = (input : List ℕ) → IsText input ⊎ ((offset : ℕ) × IsSyntaxFault input offset)

-- each input is an order file or is rejected; by the laws above, in one way
abbrev pub SomeVerdict : Type 0
SomeVerdict = (input : List ℕ) → ((file : StatedOrder) × IsOrderFile input file)
    ⊎ ((fault : OrderFault) × RejectsOrder input fault)

-- the order files of version 1 are those that state no machines, with the same order and makespan
abbrev pub VersionOneIsRead : Type 0
VersionOneIsRead = (input order : List ℕ) (makespan : ℕ)
    → IsVersionOne input order makespan
    ↔ IsOrderFile input (record { order = order; machines = None; makespan = makespan })
