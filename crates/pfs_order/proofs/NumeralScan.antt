-- What is read of a numeral, digit by digit, is the number that it spells.
use Rattle.std.proofs.Common.{◌≡◌, ℕ, zero, suc, ◌+◌, ◌*◌, ◌/◌, ◌%◌, ◌<◌, ◌≤◌, ◌^◌, inl, inr, Option, Some, None}
use Rattle.std.proofs.Common.{List, [], ◌∷◌, ◌++◌, ◌⊎◌, refl, ◌∙◌, arith}
use Rattle.std.specs.Prelude.{IfSome, Ok, Err}
use Rattle.std.specs.Fmt.{decimal}
use Rattle.std.proofs.lemmas.Bool.{eq-eqb, ne_eqb}
use Rattle.std.proofs.lemmas.Bool.Decides.{nat_tests}
use Rattle.std.proofs.lemmas.Fmt.{decimal_digit, decimal_step_wide, decimal_by_steps_wide}
use Rattle.std.proofs.lemmas.List.{append_assoc}
use Rattle.pfs_order.specs.Private.Reading.{with_digit, longer, ended, numeral_on, numeral_at}
use Rattle.pfs_order.proofs.Scanning.{Spelling, ScanVerdict, found, stuck, Scans, Finds, with_tail}

-- the digits of a number, if there is one
abbrev numeral_of : Option ℕ → List ℕ
numeral_of None = []
numeral_of (Some n) = decimal n

-- the spellings of the numbers from least to most, with a byte that ends them
abbrev pub IsNumeral : ℕ → ℕ → ℕ → Spelling ℕ
IsNumeral least most end n text = ((least ≤ n) × (n ≤ most)) × (text ≡ decimal n ++ end ∷ [])

cases_Option : (o : Option ℕ) → (o ≡ None) ⊎ ((n : ℕ) × (o ≡ Some n))
cases_Option None = inl refl
cases_Option (Some n) = inr (n, refl)

module _ (least most end : ℕ) (low : least ≤ 1) (some : least ≤ most) (high : most < 10 ^ 18)
    (no_digit : end < 48) where
  abbrev IsInRange : ℕ → Type 0
  IsInRange n = (least ≤ n) × (n ≤ most)

  -- a number that a byte continues is spelled with that byte
  goes_on : (number : Option ℕ) (b m : ℕ) → IfSome number IsInRange → longer least most number b ≡ Some m
      → IsInRange m × (decimal m ≡ numeral_of number ++ b ∷ [])
  unfolding longer with_digit
  goes_on None b m h e =
      let (within, byte, small) : IsInRange m × (48 + m ≡ b) × (m < 10) = grind (arith, nat_tests) in
      (within, rw byte at (decimal_digit m small))
  goes_on (Some zero) b m h e = absurd (grind (arith, nat_tests))
  goes_on (Some (suc n)) b m h e =
      let (within, front, last) : IsInRange m × (m / 10 ≡ suc n) × (48 + m % 10 ≡ b) = grind (arith, nat_tests) in
      (within, rw (front, last) at (decimal_step_wide m (omega (arith, front)) (omega (arith, within.1))))

  -- such a number is also read with that byte
  more_read : (number : Option ℕ) (b m : ℕ) (text : List ℕ) → 48 ≤ b → longer least most number b ≡ Some m
      → numeral_on least most end number (b ∷ text) ≡ numeral_on least most end (Some m) text
  unfolding numeral_on
  more_read number b m text digit e = rw (ne_eqb b end (omega arith), e) refl

  -- a digit continues a number
  first_digit : (n : ℕ) → n < 10 → IsInRange n → longer least most None (48 + n) ≡ Some n
  unfolding longer with_digit
  first_digit n small within = grind (arith, nat_tests)

  last_digit : (n digit : ℕ) → 1 ≤ n → digit < 10 → IsInRange (n * 10 + digit)
      → longer least most (Some n) (48 + digit) ≡ Some (n * 10 + digit)
  unfolding longer with_digit
  last_digit zero digit some small within = absurd (omega arith)
  last_digit (suc n) digit some small within = grind (arith, nat_tests)

  -- the digits of a number are read
  digits_read : (n : ℕ) → IsInRange n → (other : List ℕ)
      → numeral_at least most end (decimal n ++ other) ≡ numeral_on least most end (Some n) other
  digits_read n within = decimal_by_steps_wide (λ m ds. IsInRange m → (other : List ℕ)
      → numeral_at least most end (ds ++ other) ≡ numeral_on least most end (Some m) other)
      (λ m small h other. more_read None (48 + m) m other (omega arith) (first_digit m small h))
      (λ m ds ten front h other.
      let parts : m / 10 * 10 + m % 10 ≡ m = omega arith in
      let digit = rw parts at (last_digit (m / 10) (m % 10) (omega arith) (omega arith) (rw parts h)) in
      rw append_assoc (front (omega arith, omega arith) ((48 + m % 10) ∷ other))
      ∙ more_read (Some (m / 10)) (48 + m % 10) m other (omega arith) digit)
      n (omega arith) within

  -- a number is read with the byte that ends it
  pub number_ends : (n : ℕ) → IsInRange n → (other : List ℕ)
      → numeral_at least most end (decimal n ++ end ∷ other) ≡ Ok (n, other)
  unfolding numeral_on
  number_ends n within other = digits_read n within (end ∷ other) ∙ rw (eq-eqb end end refl) refl

  number_found : (n : ℕ) → IsInRange n
      → Finds (IsNumeral least most end) (numeral_at least most end) n (decimal n ++ end ∷ [])
  number_found n within =
      record { spelled = (within, refl); read = λ other. rw append_assoc (number_ends n within other) }

  -- no byte continues a prefix of a numeral
  stuck_at : (number : Option ℕ) (after : List ℕ) → IfSome number IsInRange
      → ((other : List ℕ) → numeral_on least most end number (with_tail after other) ≡ Err (with_tail after other))
      → ScanVerdict (IsNumeral least most end) (numeral_at least most end) (numeral_of number ++ after)
  stuck_at None after h stops =
      stuck least [] (decimal least ++ end ∷ []) after refl (number_found least (omega arith, some)) stops
  stuck_at (Some n) after h stops = stuck n (decimal n) (end ∷ []) after refl (number_found n h)
      (λ other. digits_read n h (with_tail after other) ∙ stops other)

  -- what is read after a prefix of a numeral
  verdict_from : (after : List ℕ) (number : Option ℕ) → IfSome number IsInRange
      → ScanVerdict (IsNumeral least most end) (numeral_at least most end) (numeral_of number ++ after)
  unfolding numeral_on
  verdict_from [] number h = stuck_at number [] h (λ other. refl)
  verdict_from (b ∷ after) number h = elim (cases_Option (ended number b end)) [
    | inr (n, done) ↦
        let (is, same) : (number ≡ Some n) × (b ≡ end) = grind (arith, nat_tests) in
        rw (is, same) (found n (decimal n ++ end ∷ []) after (rw append_assoc refl) (number_found n (rw is at h)))
    | inl none ↦ elim (cases_Option (longer least most number b)) [
      | inl stops ↦ stuck_at number (b ∷ after) h (λ other. rw (none, stops) refl)
      | inr (m, more) ↦
          let (within, spelled) = goes_on number b m h more in
          rw (spelled, append_assoc) at (verdict_from after (Some m) within)
    ]
  ]

  pub number_reads : Scans (IsNumeral least most end) (numeral_at least most end)
  number_reads = record {
    some = (least, (decimal least ++ end ∷ [], number_found least (omega arith, some)));
    verdict = λ text. verdict_from text None tt;
  }
