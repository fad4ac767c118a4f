use Rattle.std.proofs.Common.{◌≡◌, ◌≤◌, ◌∙◌, ◌-◌, ◌++◌, length, take, drop, sym, ap, arith}
use Rattle.std.proofs.Common.{length-take, take-append-drop}
use Rattle.std.proofs.KnownBytes.{append_known-moved}
use Rattle.pfs_base.proofs.Buffers.{bytes_counted-more, held-rest}
use Rattle.pfs_base.proofs.buffered.Buffered.flush.Goals as goal

pub returns-in-Err-clause-kept : goal.returns-in-Err-clause-kept
returns-in-Err-clause-kept g c =
    let bytes = c.self.inside.bytes in
    let count = c.self.inside.count in
    let held = take count bytes in
    let n = c.in-Err.fault.written in
    let front = c.in-Err.ensures in
    let least : n - 0 ≡ n = omega arith in
    let long = length-take count bytes in
    let few : n ≤ count = omega (arith, front.within) in
    let within : count ≤ length bytes = omega arith in
    let out : n ≡ length (take (n - 0) held) = omega (arith, length-take (n - 0) held, front.within) in
    let rest = ap (take (count - n)) c.copy_within.ensures.after ∙ held-rest bytes n count few within in
    let joined = sym (take-append-drop n held) ∙ ap (λ k. take k held ++ drop n held) (sym least)
    ∙ ap (λ l. take (n - 0) held ++ l) (sym rest) in
    rw (← c.self.view_is) (append_known-moved _ _ _ _ _ (bytes_counted-more _ _ _ _ n _ front.bytes out
    c.saturating_add-self-inside-in-Err.ensures) joined)
