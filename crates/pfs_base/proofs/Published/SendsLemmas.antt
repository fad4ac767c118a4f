-- A text that is written part by part.
use Rattle.std.proofs.Common.{◌≡◌, ℕ, ◌+◌, ◌-◌, Bool, List, ◌++◌, Option, Result, Ok, Err, length, take, sym, ◌∙◌, ap}
use Rattle.std.proofs.Common.{subst, arith, length-append}
use Rattle.std.proofs.lemmas.List.{take-append-le}
use Rattle.std.proofs.Math.Seq.{take-append-add}
use Rattle.std.proofs.KnownBytes.{Appends-trans}
use Rattle.std.specs.Io.KnownBytes.{Appends}
use Rattle.pfs_base.specs.declared.device.WriteFault.{WriteFault}
use Rattle.pfs_base.specs.Sends.{Sends, SendsAll, SendsFront}

-- one part was sent, and then the next
pub then_all : {a b c : Option (List ℕ)} {working_b failed : Bool} {sent middle total : ℕ} {done part : List ℕ}
    → SendsAll a b working_b sent done middle → SendsAll b c failed middle part total
    → SendsAll a c failed sent (done ++ part) total
then_all {a} {b} {c} {working_b} {failed} {sent} {middle} {total} {done} {part} p q =
    let first = p.counted in
    let second = q.counted in
    record {
      working = q.working;
      counted = omega (arith, length-append done part);
      bytes = Appends-trans a b c done part p.bytes q.bytes;
    }

-- one part was sent, and then a prefix of the next
pub then_front : {a b c : Option (List ℕ)} {working_b failed : Bool} {sent middle reached : ℕ} {done part : List ℕ}
    → SendsAll a b working_b sent done middle → SendsFront b c failed middle part reached
    → SendsFront a c failed sent (done ++ part) reached
then_front {a} {b} {c} {working_b} {failed} {sent} {middle} {reached} {done} {part} p q =
    let first = p.counted in
    let low = q.from in
    let high = q.within in
    let more : ℕ = reached - middle in
    let reach : length done + more ≡ reached - sent = omega arith in
    let front : take (reached - sent) (done ++ part) ≡ done ++ take more part =
    sym (ap (λ n. take n (done ++ part)) reach) ∙ take-append-add done part more in
    record {
      stopped = q.stopped;
      from = omega arith;
      within = omega (arith, length-append done part);
      bytes = subst (Appends a c) (sym front) (Appends-trans a b c done (take more part) p.bytes q.bytes);
    }

-- a prefix of a text was sent, which is also a prefix of a longer text
pub front_of : {a b : Option (List ℕ)} {failed : Bool} {sent reached : ℕ} {text : List ℕ} (rest : List ℕ)
    → SendsFront a b failed sent text reached → SendsFront a b failed sent (text ++ rest) reached
front_of {a} {b} {failed} {sent} {reached} {text} rest p =
    let low = p.from in
    let high = p.within in
    record {
      stopped = p.stopped;
      from = omega arith;
      within = omega (arith, length-append text rest);
      bytes = subst (Appends a b) (sym (take-append-le (reached - sent) text rest (omega arith))) p.bytes;
    }

-- one part was sent, and then all of the next or a prefix of it
pub then_sends : {a b : Option (List ℕ)} {working_b : Bool} {sent middle : ℕ} {done : List ℕ}
    (c : Option (List ℕ)) (failed : Bool) (part : List ℕ) (result : Result ℕ WriteFault)
    → SendsAll a b working_b sent done middle → Sends b c failed middle part result
    → Sends a c failed sent (done ++ part) result
then_sends c failed part (Ok total) p q = then_all p q
then_sends c failed part (Err fault) p q = then_front p q
