-- The least key of the places so far.
use Rattle.std.proofs.Common.{inl, inr, ◌≡◌, ℕ, ◌+◌, ◌*◌, ◌/◌, ◌%◌, ◌<◌, ◌≤◌, min, subst, refl, arith}
use Rattle.std.proofs.lemmas.Bool.{cases_lt}
use Rattle.pfs_wave.specs.Private.Least.{IsLeastSoFar}

module _ (value : ℕ → ℕ) (count place best : ℕ) (so_far : IsLeastSoFar value count place best) where
  pub lower : value count < best → IsLeastSoFar value (count + 1) count (value count)
  lower less =
      let known = so_far.value_is in
      record {
        first = record {
          within = omega arith;
          least = λ other lt.
              elim (cases_lt other count) [
                | inl earlier ↦ omega (arith, so_far.first.least other earlier)
                | inr later ↦ let e : other ≡ count = omega arith in rw e (omega arith)
              ];
          first = λ other earlier. omega (arith, so_far.first.least other earlier);
        };
        value_is = refl;
      }

  pub kept : best ≤ value count → IsLeastSoFar value (count + 1) place best
  kept le =
      let known = so_far.value_is in
      let within = so_far.first.within in
      record {
        first = record {
          within = omega arith;
          least = λ other lt.
              elim (cases_lt other count) [
                | inl earlier ↦ so_far.first.least other earlier
                | inr later ↦ let e : other ≡ count = omega arith in rw e (omega arith)
              ];
          first = so_far.first.first;
        };
        value_is = known;
      }

-- the least key gives the first place of the least value, and that value
pub record IsLeastKey (value : ℕ → ℕ) (count key : ℕ) : Type 0 where
  pub is : IsLeastSoFar value count (key % 65536) (key / 65536)

pub first_key : (value : ℕ → ℕ) (key : ℕ) → key ≡ value 0 * 65536 + 0 → IsLeastKey value 1 key
first_key value key is =
    let place : key % 65536 ≡ 0 = omega arith in
    let least : key / 65536 ≡ value 0 = omega arith in
    record {
      is = rw (place, least) (record {
        first = record {
          within = omega arith;
          least = λ other lt. let e : other ≡ 0 = omega arith in rw e (omega arith);
          first = λ other lt. absurd (omega (arith, lt));
        };
        value_is = refl;
      });
    }

pub next_key : (value : ℕ → ℕ) (count before key least : ℕ) → IsLeastKey value count before → count < 65536
    → key ≡ value count * 65536 + count → least ≡ min before key → IsLeastKey value (count + 1) least
next_key value count before key least so_far few key_is least_is =
    let within = so_far.is.first.within in
    elim (cases_lt key before) [
      | inl less ↦
          let e : least ≡ key = omega arith in
          let at : key % 65536 ≡ count = omega arith in
          let here : key / 65536 ≡ value count = omega arith in
          let below : value count < before / 65536 = omega arith in
          record { is = rw (e, at, here) (lower value count (before % 65536) (before / 65536) so_far.is below) }
      | inr not ↦
          let e : least ≡ before = omega arith in
          let above : before / 65536 ≤ value count = omega arith in
          record { is = rw e (kept value count (before % 65536) (before / 65536) so_far.is above) }
    ]

pub all_keys : (value : ℕ → ℕ) {count all key : ℕ} → IsLeastKey value count key → count ≡ all
    → IsLeastSoFar value all (key % 65536) (key / 65536)
all_keys value {count} {all} {key} least e =
    let here = least.is in subst (λ n. IsLeastSoFar value n (key % 65536) (key / 65536)) e here
