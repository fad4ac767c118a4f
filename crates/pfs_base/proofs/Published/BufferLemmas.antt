-- What a buffer has sent of the text that it was given.
use Rattle.std.proofs.Common.{◌≡◌, ℕ, ◌==◌, List, [], ◌++◌, Option, None, Some}
use Rattle.std.proofs.Common.{sym, ap, ◌∙◌, append-nil, refl, inl, inr}
use Rattle.std.proofs.lemmas.Bool.{cases_Bool, eqb-true}
use Rattle.std.proofs.lemmas.Option.{same_Some, none-some}
use Rattle.std.specs.Io.KnownBytes.{append_known}
use Rattle.pfs_base.specs.Buffer.{Buffering, IsNew, bytes_counted, bytes_given, count_of}

-- a new buffer was given nothing
pub new_given : {W : Type 0} (written : W → Option (List ℕ)) (buffer : Buffering W) → IsNew written buffer
    → bytes_given written buffer ≡ Some []
new_given written buffer new = rw (new.empty, new.none_sent, new.holds_none) refl

-- a text is the bytes that were sent, which are counted, followed by those in the buffer
pub record Parts (out : Option (List ℕ)) (held : List ℕ) (sent : ℕ) (text : List ℕ) : Type 0 where
  pub bytes : List ℕ
  pub known : out ≡ Some bytes
  pub whole : bytes ++ held ≡ text
  pub count : sent ≡ count_of bytes

parts_of : (out : Option (List ℕ)) (held : List ℕ) (sent : ℕ) (text : List ℕ)
    → append_known (bytes_counted out sent) held ≡ Some text → Parts out held sent text
parts_of None held sent text p = absurd (none-some text p)
parts_of (Some bytes) held sent text p = elim (cases_Bool (sent == count_of bytes)) [
  | inl same ↦ record {
    bytes = bytes;
    known = refl;
    whole = same_Some (bytes ++ held) text (rw same at p);
    count = eqb-true sent (count_of bytes) same;
  }
  | inr other ↦ absurd (none-some text (rw other at p))
]

pub given_parts : {W : Type 0} (written : W → Option (List ℕ)) (buffer : Buffering W) (text : List ℕ)
    → bytes_given written buffer ≡ Some text → Parts (written buffer.writer) buffer.held buffer.sent text
given_parts written buffer text p = parts_of (written buffer.writer) buffer.held buffer.sent text p

-- if the buffer is empty, all of the text was sent
pub given_all : {W : Type 0} (written : W → Option (List ℕ)) (buffer : Buffering W) (text : List ℕ)
    → bytes_given written buffer ≡ Some text → buffer.held ≡ [] → written buffer.writer ≡ Some text
given_all written buffer text p none =
    let parts = given_parts written buffer text p in
    parts.known ∙ ap Some (sym (append-nil parts.bytes) ∙ ap (λ rest. parts.bytes ++ rest) (sym none) ∙ parts.whole)
