-- What a call did with a source, with an output, and with files.
use Rattle.std.specs.Prelude.{◌≡◌, ℕ, Bool, false, List, Option}
use Rattle.pfs_desk.specs.FileState.{FileEvent, FileState, Logs}

-- what a call did with a source: the bytes that were left to read before and after the call, if they are known; whether
-- a read failed; and whether a read had reported the end of the bytes before the call, and by the end of it
pub record SourceUse : Type 0 where
  pub given : Option (List ℕ)
  pub left : Option (List ℕ)
  pub failed : Bool
  pub was_ended : Bool
  pub ended : Bool

abbrev pub source_use : Option (List ℕ) → Option (List ℕ) → Bool → Bool → Bool → SourceUse
source_use given left failed was_ended ended =
    record { given = given; left = left; failed = failed; was_ended = was_ended; ended = ended }

-- nothing was read: all bytes are left, no read failed, and none reported the end
pub record IsUnread (source : SourceUse) : Type 0 where
  pub kept : source.left ≡ source.given
  pub working : source.failed ≡ false
  pub no_end : source.ended ≡ source.was_ended

-- what a call did with an output: the bytes that were written before and after the call, if they are known, and
-- whether a write failed
pub record SinkUse : Type 0 where
  pub old : Option (List ℕ)
  pub new : Option (List ℕ)
  pub failed : Bool

abbrev pub sink_use : Option (List ℕ) → Option (List ℕ) → Bool → SinkUse
sink_use old new failed = record { old = old; new = new; failed = failed }

-- what a call did with files: what was at each path, and the log before and after the call
pub record FilesUse : Type 0 where
  pub state : List ℕ → FileState
  pub old_log : Option (List FileEvent)
  pub new_log : Option (List FileEvent)

abbrev pub files_use : (List ℕ → FileState) → Option (List FileEvent) → Option (List FileEvent) → FilesUse
files_use state old_log new_log = record { state = state; old_log = old_log; new_log = new_log }

-- the call did this with files, in this order
abbrev pub Did : FilesUse → List FileEvent → Type 0
Did disk events = Logs disk.old_log disk.new_log events
