-- A text that is sent part by part: each part fits, and what was sent after it.
use Rattle.std.proofs.Common.{◌≡◌, ℕ, ◌+◌, ◌-◌, ◌<◌, ◌≤◌, ◌^◌, Bool, List, ◌++◌, Option, Result, length, take, ap}
use Rattle.std.proofs.Common.{subst, arith, length-append}
use Rattle.std.specs.Io.KnownBytes.{Appends}
use Rattle.pfs_base.specs.declared.device.WriteFault.{WriteFault}
use Rattle.pfs_base.specs.Sends.{Sends, SendsAll, SendsFront}
use Rattle.pfs_base.proofs.Published.SendsLemmas.{then_all, then_front, then_sends, front_of}

-- a text that continues with this part after what was sent
pub record GoesOn (text done part next : List ℕ) : Type 0 where
  pub rest : List ℕ
  pub adds : next ≡ done ++ part
  pub whole : text ≡ next ++ rest

pub goes_on-fits : (a b : Option (List ℕ)) (failed : Bool) (sent reached : ℕ) (text done part next : List ℕ)
    → GoesOn text done part next → SendsAll a b failed sent done reached
    → sent + length text < 2 ^ 64 → reached + length part < 2 ^ 64
goes_on-fits a b failed sent reached text done part next on p fits =
    omega (arith, p.counted, ap length on.whole, ap length on.adds, length-append next on.rest, length-append done part)

pub goes_on-more : (a b c : Option (List ℕ)) (worked failed : Bool) (sent middle total : ℕ)
    (text done part next : List ℕ)
    → GoesOn text done part next
    → SendsAll a b worked sent done middle → SendsAll b c failed middle part total → SendsAll a c failed sent next total
goes_on-more a b c worked failed sent middle total text done part next on p q = rw on.adds (then_all p q)

pub goes_on-stopped : (a b c : Option (List ℕ)) (worked failed : Bool) (sent middle reached : ℕ)
    (text done part next : List ℕ)
    → GoesOn text done part next
    → SendsAll a b worked sent done middle → SendsFront b c failed middle part reached
    → SendsFront a c failed sent text reached
goes_on-stopped a b c worked failed sent middle reached text done part next on p q =
    rw (on.whole, on.adds) (front_of on.rest (then_front p q))

-- the last part of a text
pub last_sends : (a b c : Option (List ℕ)) (worked failed : Bool) (sent middle : ℕ)
    (text done part : List ℕ) (result : Result ℕ WriteFault)
    → text ≡ done ++ part
    → SendsAll a b worked sent done middle → Sends b c failed middle part result → Sends a c failed sent text result
last_sends a b c worked failed sent middle text done part result whole p q =
    rw whole (then_sends c failed part result p q)

pub last_fits : (a b : Option (List ℕ)) (worked : Bool) (sent middle : ℕ) (text done part : List ℕ)
    → text ≡ done ++ part → SendsAll a b worked sent done middle
    → sent + length text < 2 ^ 64 → middle + length part < 2 ^ 64
last_fits a b worked sent middle text done part whole p fits =
    omega (arith, p.counted, ap length whole, length-append done part)

-- a prefix of a text of which nothing was sent before
pub front_of_whole : (a b : Option (List ℕ)) (failed : Bool) (reached : ℕ) (text : List ℕ)
    → SendsFront a b failed 0 text reached → (reached ≤ length text) × Appends a b (take reached text)
front_of_whole a b failed reached text front =
    let same : reached - 0 ≡ reached = omega arith in
    (omega (arith, front.within), subst (λ n. Appends a b (take n text)) same front.bytes)
