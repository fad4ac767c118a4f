-- The log of files in memory, and what is at a path.
use Rattle.std.specs.Prelude.{ℕ, List, Some, if◌then◌else◌}
use Rattle.std.specs.Str.{bytes_eq}
use Rattle.pfs_desk.specs.FileState.{FileEvent, FileState, bytes, nothing, opened, not_opened, closed}
use Rattle.pfs_tests.specs.declared.events.Event.{Event}
use Rattle.pfs_tests.specs.declared.events.Event.TheVariants as events

-- an event as contracts of `Files` see it
abbrev pub event_of : Event → FileEvent
event_of (events.Opened path) = opened path.items
event_of (events.NotOpened path fault) = not_opened path.items fault
event_of (events.Closed left failed ended) = closed (Some left.now) failed ended

-- what is at a path, given the paths and the bytes of two files; if both have this path, then the first
abbrev pub at_path : List ℕ → List ℕ → List ℕ → List ℕ → List ℕ → FileState
at_path one one_bytes other other_bytes path =
    if bytes_eq path one then bytes one_bytes else (if bytes_eq path other then bytes other_bytes else nothing)
