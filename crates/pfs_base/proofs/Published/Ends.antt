-- When a source has reported the end of its bytes.
use Rattle.std.proofs.Common.{◌≡◌, ◌≢◌, ℕ, zero, suc, Bool, Some, refl}
use Rattle.pfs_base.specs.Device.{ends_after}

-- a read of at least one byte does not report the end
pub reads_on : (ended : Bool) (n room : ℕ) → n ≢ 0 → ends_after ended (Some n) room ≡ ended
reads_on ended zero room some = absurd (some refl)
reads_on ended (suc n) room some = refl
