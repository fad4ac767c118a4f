-- Rows of lanes, skewed by three blends.
use Rattle.std.specs.Prelude.{ℕ, zero, suc, ◌≡◌, List, [], ◌∷◌}
use Rattle.std.specs.List.{slice_index_or}
use Rattle.pfs_wave.specs.Private.Lanes.{Rows}
use Rattle.pfs_wave.specs.declared.blends.Blends.{Blends}

-- the values of the rows so far, by the number of rows back from the last row and by lane
abbrev pub Past : Type 0
Past = ℕ → ℕ → ℕ

-- the values with one more row
abbrev pub pushed : List ℕ → Past → Past
pushed row past zero lane = slice_index_or row lane 0
pushed row past (suc back) lane = past back lane

-- the values after a number of rows of a band; before the first row they are 0
abbrev pub past_at : Rows → ℕ → Past
past_at rows zero = λ back lane. 0
past_at rows (suc step) = pushed (rows step) (past_at rows step)

-- eight lanes, each from its given number of rows back
abbrev pub each_back : Past → ℕ → ℕ → ℕ → ℕ → ℕ → ℕ → ℕ → ℕ → List ℕ
each_back past a b c d e f g h =
    past a 0 ∷ past b 1 ∷ past c 2 ∷ past d 3 ∷ past e 4 ∷ past f 5 ∷ past g 6 ∷ past h 7 ∷ []

-- eight lanes, lane l from l rows back
abbrev pub diagonal : Past → List ℕ
diagonal past = each_back past 0 1 2 3 4 5 6 7

-- what the blends keep of the last rows: the last row, the last two results of the first blend, and the last four of
-- the second
pub record AreBlends {B : Type 0} (lanes : B → List ℕ) (past : Past) (blends : Blends B) : Type 0 where
  pub before : lanes blends.before ≡ each_back past 0 0 0 0 0 0 0 0
  pub pair_one : lanes blends.pair_one ≡ each_back past 0 1 0 1 0 1 0 1
  pub pair_two : lanes blends.pair_two ≡ each_back past 1 2 1 2 1 2 1 2
  pub four_one : lanes blends.four_one ≡ each_back past 0 1 2 3 0 1 2 3
  pub four_two : lanes blends.four_two ≡ each_back past 1 2 3 4 1 2 3 4
  pub four_three : lanes blends.four_three ≡ each_back past 2 3 4 5 2 3 4 5
  pub four_four : lanes blends.four_four ≡ each_back past 3 4 5 6 3 4 5 6
