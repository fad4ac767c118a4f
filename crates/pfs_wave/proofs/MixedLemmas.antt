-- Tables of both sizes of lanes, and the insertions that are known to fit in narrow ones.
use Rattle.std.proofs.Common.{ℕ, ◌+◌, ◌<◌, ◌≤◌, Bool, true, false, length, nat_eq, nat_le}
use Rattle.std.proofs.Common.{if◌then◌else◌, arith, List}
use Rattle.pfs_base.specs.FlowShop.{FlowShop}
use Rattle.pfs_base.specs.Paths.{makespan}
use Rattle.pfs_insert.specs.Inserter.{IsBestPlace}
use Rattle.pfs_wave.specs.Parts.{IsPart}
use Rattle.pfs_wave.specs.Private.Mixed.{IsKnown, IsMixed, after_best, known_with}
use Rattle.pfs_wave.specs.declared.mixed.Known.{Known}
use Rattle.pfs_wave.specs.declared.mixed.Mixed.{Mixed}
use Rattle.pfs_wave.proofs.PartLaws.{part_law}

either : {T : Type 0} (P : T → Type 0) (first : Bool) (one other : T) → P one → P other
    → P (if first then one else other)
either P true one other is_one is_other = is_one
either P false one other is_one is_other = is_other

-- tables of a shop are so after an insertion at the best place
pub mixed_after : (shop : FlowShop) (mixed : Mixed) → IsMixed shop mixed
    → (jobs : List ℕ) (job place span : ℕ) → IsBestPlace shop jobs job place span
    → IsMixed shop (after_best mixed jobs job place span)
mixed_after shop mixed are jobs job place span best =
    let more = known_with mixed.kept jobs job place span in
    let is_known : IsKnown shop more = record { size = are.kept.size; span = omega (arith, best.span_is) } in
    let no_longer = nat_le span mixed.kept.span in
    record {
      narrow = are.narrow;
      wide = are.wide;
      last = record { size = are.last.size; span = is_known.span };
      kept =
          either (IsKnown shop) (nat_eq (length jobs + 1) mixed.last.seq.size)
          (if no_longer then more else mixed.kept) mixed.kept
          (either (IsKnown shop) no_longer more mixed.kept is_known are.kept) are.kept;
    }

-- a part of a known sequence has at most its makespan
pub known_room : (shop : FlowShop) (known : Known) (jobs : List ℕ) (time : ℕ) → 1 ≤ shop.machines
    → IsKnown shop known → (known.span + time < 65535) × IsPart jobs known.seq.jobs
    → makespan shop jobs + time < 65535
known_room shop known jobs time some is room =
    omega (arith, part_law shop jobs known.seq.jobs some room.1, is.span, room.0)
