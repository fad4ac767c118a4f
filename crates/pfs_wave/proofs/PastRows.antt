-- The rows pushed so far, and their diagonals.
use Rattle.std.proofs.Common.{◌≡◌, ℕ, zero, suc, ◌+◌, ◌<◌, ◌≤◌, get_or, ap, refl, arith}
use Rattle.pfs_wave.specs.Private.Lanes.{Rows}
use Rattle.pfs_wave.specs.Private.Blending.{Past, past_at, diagonal}

pub diagonal_lane : (past : Past) (lane : ℕ) → lane < 8 → get_or (diagonal past) lane 0 ≡ past lane lane
diagonal_lane past zero lt = refl
diagonal_lane past (suc zero) lt = refl
diagonal_lane past (suc (suc zero)) lt = refl
diagonal_lane past (suc (suc (suc zero))) lt = refl
diagonal_lane past (suc (suc (suc (suc zero)))) lt = refl
diagonal_lane past (suc (suc (suc (suc (suc zero))))) lt = refl
diagonal_lane past (suc (suc (suc (suc (suc (suc zero)))))) lt = refl
diagonal_lane past (suc (suc (suc (suc (suc (suc (suc zero))))))) lt = refl
diagonal_lane past (suc (suc (suc (suc (suc (suc (suc (suc lane)))))))) lt = absurd (omega arith)

-- a lane of the row that is `back` rows before the last, and 0 before the first row
pub past_is : (band : Rows) (back rows row lane : ℕ) → rows ≡ row + back + 1 → past_at band rows back lane
    ≡ get_or (band row) lane 0
past_is band back zero row lane is = absurd (omega arith)
past_is band zero (suc rows) row lane is = ap (λ r. get_or (band r) lane 0) (omega arith)
past_is band (suc back) (suc rows) row lane is = past_is band back rows row lane (omega arith)

pub past_none : (band : Rows) (back rows lane : ℕ) → rows ≤ back → past_at band rows back lane ≡ 0
past_none band back zero lane le = refl
past_none band zero (suc rows) lane le = absurd (omega arith)
past_none band (suc back) (suc rows) lane le = past_none band back rows lane (omega arith)
