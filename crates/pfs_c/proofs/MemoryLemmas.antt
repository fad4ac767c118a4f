-- Where the reader allocates memory for the times of a block.
use Rattle.std.proofs.Common.{◌≡◌, ℕ, ◌+◌, ◌<◌, List, ◌++◌, length, take, get_or, append_assoc, arith, ◌∙◌, ap}
use Rattle.std.proofs.Common.{Option, Some}
use Rattle.std.proofs.lemmas.List.{length-append, take-append-le, get_or_append_left, get_or-append-add}
use Rattle.std.proofs.Math.Seq.{take-append-add}
use Rattle.pfs_layout.specs.declared.fault.LayoutFault.{LayoutFault}
use Rattle.pfs_layout.specs.declared.fault.LayoutFault.TheVariants.{Memory}
use Rattle.pfs_layout.specs.declared.layout.Layout.{Layout}
use Rattle.pfs_layout.specs.Reader.{ReadsAsFar, EndsWantedSize}
use Rattle.pfs_c.specs.Texts.{NeedsMemory}

-- the bytes up to a place of the middle part
take-middle : (front middle rest : List ℕ) (n : ℕ) → n < length middle
    → take (length front + n) (front ++ middle ++ rest) ≡ front ++ take n middle
take-middle front middle rest n below = rw append_assoc
    (take-append-add front (middle ++ rest) n ∙ ap (λ xs. front ++ xs) (take-append-le n middle rest (omega arith)))

at-middle : (front middle rest : List ℕ) (n : ℕ) → n < length middle
    → get_or (front ++ middle ++ rest) (length front + n) 0 ≡ get_or middle n 0
at-middle front middle rest n below = rw append_assoc
    (get_or-append-add front (middle ++ rest) n 0 ∙ get_or_append_left middle rest 0 n below)

needs_at : (layout : Layout) (block : ℕ) (front middle rest : List ℕ) (n : ℕ) → n < length middle
    → EndsWantedSize layout block (front ++ take n middle) (get_or middle n 0)
    → NeedsMemory (front ++ middle ++ rest) layout block
needs_at layout block front middle rest n below ends = record {
  place = length front + n;
  within = omega (arith, length-append {A = ℕ});
  ends = rw (take-middle front middle rest n below, at-middle front middle rest n below) ends;
}

pub needs_memory : (layout : Layout) (block : ℕ) (bytes : List ℕ) (left : Option (List ℕ))
    (fault : Option LayoutFault)
    → ReadsAsFar layout block bytes left fault → fault ≡ Some Memory → NeedsMemory bytes layout block
needs_memory layout block bytes left fault far is =
    let at = far.memory is in
    rw far.whole (needs_at layout block far.front far.last far.rest at.0 at.1 at.2)
