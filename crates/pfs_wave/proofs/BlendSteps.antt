-- The blends of one vector of a sequence, a row at a time.
use Rattle.std.proofs.Common.{inl, inr, ◌≡◌, suc, ℕ, ◌+◌, ◌-◌, ◌≤◌, List, ◌∙◌, sym, refl, arith, add-one}
use Rattle.std.proofs.lemmas.Bool.{cases_lt}
use Rattle.pfs_wave.specs.Private.Lanes.{Rows}
use Rattle.pfs_wave.specs.Private.Blending.{Past, AreBlends, pushed, past_at, each_back}
use Rattle.pfs_wave.proofs.PastRows.{past_is, past_none}
use Rattle.pfs_wave.specs.declared.blends.Blends.{Blends}

-- the blends take one more row
pub next_is : {B : Type 0} (lanes : B → List ℕ) (band : Rows) (row to : ℕ) {now : List ℕ} (next : Blends B)
    → to ≡ row + 1 → now ≡ band row
    → AreBlends lanes (pushed now (past_at band row)) next → AreBlends lanes (past_at band to) next
next_is lanes band row to next to_is e is = rw (to_is, add-one, ← e) is

-- ---- blends that begin seven rows before a row

-- the blends depend on the last seven rows only
same_back : (p q : Past) → ((back lane : ℕ) → back ≤ 6 → p back lane ≡ q back lane) → (a b c d e f g h : ℕ)
    → a ≤ 6 → b ≤ 6 → c ≤ 6 → d ≤ 6 → e ≤ 6 → f ≤ 6 → g ≤ 6 → h ≤ 6
    → each_back p a b c d e f g h ≡ each_back q a b c d e f g h
same_back p q same a b c d e f g h la lb lc ld le lf lg lh =
    rw (same a 0 la, same b 1 lb, same c 2 lc, same d 3 ld, same e 4 le, same f 5 lf, same g 6 lg, same h 7 lh) refl

same_blends : {B : Type 0} (lanes : B → List ℕ) (p q : Past) (blends : Blends B)
    → ((back lane : ℕ) → back ≤ 6 → p back lane ≡ q back lane)
    → AreBlends lanes p blends → AreBlends lanes q blends
same_blends lanes p q blends same are =
    let moved = λ (a b c d e f g h : ℕ) (la : a ≤ 6) (lb : b ≤ 6) (lc : c ≤ 6) (ld : d ≤ 6) (le : e ≤ 6) (lf : f ≤ 6)
    (lg : g ≤ 6) (lh : h ≤ 6). same_back p q same a b c d e f g h la lb lc ld le lf lg lh in
    let z : 0 ≤ 6 = omega arith in
    let one : 1 ≤ 6 = omega arith in
    let two : 2 ≤ 6 = omega arith in
    let three : 3 ≤ 6 = omega arith in
    let four : 4 ≤ 6 = omega arith in
    let five : 5 ≤ 6 = omega arith in
    let six : 6 ≤ 6 = omega arith in
    record {
      before = are.before ∙ moved 0 0 0 0 0 0 0 0 z z z z z z z z;
      pair_one = are.pair_one ∙ moved 0 1 0 1 0 1 0 1 z one z one z one z one;
      pair_two = are.pair_two ∙ moved 1 2 1 2 1 2 1 2 one two one two one two one two;
      four_one = are.four_one ∙ moved 0 1 2 3 0 1 2 3 z one two three z one two three;
      four_two = are.four_two ∙ moved 1 2 3 4 1 2 3 4 one two three four one two three four;
      four_three = are.four_three ∙ moved 2 3 4 5 2 3 4 5 two three four five two three four five;
      four_four = are.four_four ∙ moved 3 4 5 6 3 4 5 6 three four five six three four five six;
    }

abbrev pub later_rows : Rows → ℕ → Rows
later_rows band start row = band (start + row)

pub warm : {B : Type 0} (lanes : B → List ℕ) (band : Rows) (row start count : ℕ) (blends : Blends B)
    → start ≡ row - 7 → start + count ≡ row
    → AreBlends lanes (past_at (later_rows band start) count) blends → AreBlends lanes (past_at band row) blends
warm lanes band row start count blends start_is all are =
    same_blends lanes (past_at (later_rows band start) count) (past_at band row) blends
    (λ back lane few.
    elim (cases_lt back count) [
      | inl inside ↦
          past_is (later_rows band start) back count (count - suc back) lane (omega arith)
          ∙ sym (past_is band back row (start + (count - suc back)) lane (omega arith))
      | inr before ↦
          past_none (later_rows band start) back count lane before
          ∙ sym (past_none band back row lane (omega arith))
    ])
    are
