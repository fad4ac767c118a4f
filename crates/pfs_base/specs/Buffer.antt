-- What a buffer in front of a writer has sent, and what it still contains.
use Rattle.std.specs.Prelude.{◌≡◌, ℕ, ◌-◌, ◌^◌, ◌==◌, min, Bool, true, false, List, [], length, Option, None, Some}
use Rattle.std.specs.Prelude.{if◌then◌else◌, Result, Ok, Err}
use Rattle.std.specs.Io.KnownBytes.{append_known}
use Rattle.pfs_base.specs.declared.device.WriteFault.{WriteFault}

-- the writer that a buffer writes to, the bytes in the buffer, and how many bytes were sent to the writer
pub record Buffering (W : Type 0) : Type 0 where
  pub writer : W
  pub held : List ℕ
  pub sent : ℕ

-- the number of these bytes, or 2^64 - 1 if there are more
abbrev pub count_of : List ℕ → ℕ
count_of bytes = min (length bytes) (2 ^ 64 - 1)

-- the bytes that were written to a writer, if they are known and `sent` is their number
abbrev pub bytes_counted : Option (List ℕ) → ℕ → Option (List ℕ)
bytes_counted None sent = None
bytes_counted (Some bytes) sent = if sent == count_of bytes then Some bytes else None

-- what a buffer was given: the bytes sent to its writer, if their number is right, and then the bytes in the buffer
abbrev pub bytes_given : {W : Type 0} → (W → Option (List ℕ)) → Buffering W → Option (List ℕ)
bytes_given written buffer = append_known (bytes_counted (written buffer.writer) buffer.sent) buffer.held

-- nothing was written yet to a writer whose bytes are known, and its buffer is new
pub record IsNew {W : Type 0} (written : W → Option (List ℕ)) (buffer : Buffering W) : Type 0 where
  pub empty : written buffer.writer ≡ Some []
  pub holds_none : buffer.held ≡ []
  pub none_sent : buffer.sent ≡ 0

-- the buffer is empty and its writer has not failed, or the writer has failed and the fault has the number of
-- bytes that were sent in all
abbrev pub Flushes : {W : Type 0} → (W → Bool) → Buffering W → Result (Unit {0}) WriteFault → Type 0
Flushes has_failed buffer (Ok value) = (has_failed buffer.writer ≡ false) × (buffer.held ≡ [])
Flushes has_failed buffer (Err fault) = (has_failed buffer.writer ≡ true) × (fault.written ≡ buffer.sent)
