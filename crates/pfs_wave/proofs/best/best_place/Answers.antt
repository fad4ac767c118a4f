use Rattle.std.proofs.Common.{ℕ, ◌≡◌, ◌+◌, ◌-◌, ◌*◌, ◌≤◌, List, ◌++◌, length, map, take, drop, get_or, ap, ◌∙◌}
use Rattle.std.proofs.Common.{min, refl, arith}
use Rattle.std.proofs.Math.Nat.{mul-le-mul_right}
use Rattle.std.proofs.Math.ListN.{get_or-append}
use Rattle.std.proofs.lemmas.List.{length-append, length-drop, length-map, length-take-le, map-append}
use Rattle.pfs_base.specs.FlowShop.{FlowShop, time_of}
use Rattle.pfs_insert.specs.Insertion.{makespan_with}
use Rattle.pfs_wave.specs.Private.Padded.{on_machine, padded_time}
use Rattle.pfs_wave.specs.Private.Payment.{AreTimesOf, IsInsertion, IsNoneFrom}
use Rattle.pfs_wave.proofs.BestFound.{number_of_part}
use Rattle.pfs_wave.proofs.PaddedTables.{on_padding, padded_back, time_none, time_on_padding}
use Rattle.pfs_wave.proofs.TailCells.{changed}
use Rattle.pfs_wave.proofs.TrueCells.{no_tail, true_cells, true_tables, true_tails, whole_sum}
use Rattle.pfs_wave.proofs.best.best_place.Given as given
use Rattle.pfs_wave.proofs.best.best_place.Goals as goal
use Rattle.pfs_wave.proofs.best.best_place.Goals.{After-with}

-- the sum of each place
sums_are : (g : given.Over) (c : After-with g) (shop : FlowShop) (jobs : List ℕ) (inserted : ℕ)
    → IsInsertion g.V.Band.Holds shop jobs inserted g.row.N c.args.lanes c.args.steps c.args.permits.tails
    c.args.permits.sums
    (map g.V.Times.Stored.lanes c.args.times.now) (map g.V.Times.Stored.lanes c.args.job.now)
    → (place : ℕ) → place ≤ length jobs
    → g.V.Band.Holds (get_or (map g.V.Band.number c.fill_sums-paid.new.sums) (7 + place) 0)
    (makespan_with shop jobs inserted place)
sums_are g c shop jobs inserted is place le =
    let some = is.some in
    let few = is.few in
    let all = is.all in
    let Holds = g.V.Band.Holds in
    let number = g.V.Band.number in
    let count = g.row.N in
    let lanes = c.args.lanes in
    let steps = c.args.steps in
    let any = c.requires.some in
    let eight = c.requires.eight in
    let enough : lanes * count ≤ 8 * count = mul-le-mul_right count eight in
    let few_machines : shop.machines ≤ 8 * count = omega arith in
    let of : AreTimesOf (length jobs) shop.machines (padded_time shop jobs) = record {
      machines_are = λ row at past. time_on_padding shop jobs row at past;
      rows_are = λ machine at past. time_none shop jobs at machine past;
    } in
    let job_of : IsNoneFrom shop.machines (on_machine shop (time_of shop inserted)) =
    λ at past. on_padding shop (time_of shop inserted) at past in
    let backs =
    c.fill_tails.ensures.tails (length jobs) shop.machines (padded_time shop jobs) (padded_back shop jobs)
    is.paid.tails_are of
    (true_tails shop jobs count few_machines)
    (λ row lane k lt k_lt here. no_tail shop jobs count lanes steps row lane k few all here) is.times_are.cells_are in
    let at : 7 + place ≡ place + 7 = omega arith in
    let filled = min 8 (steps - place) in
    let more : lanes * count ≤ filled * count = mul-le-mul_right count (omega arith) in
    changed Holds (ap (λ i. get_or (map number c.fill_sums-paid.new.sums) i 0) at)
    (whole_sum shop jobs some inserted place (filled * count) (omega arith) (omega arith) (omega arith))
    (c.fill_sums-paid.ensures.sums (true_cells shop jobs some inserted) (length jobs) shop.machines is.paid.sums_are
    of job_of
    (true_tables shop jobs some inserted) is.times_are backs is.job_is place (omega arith) (omega arith))

-- the same in the whole list
all_sums_are : (g : given.Over) (c : After-with g) (shop : FlowShop) (jobs : List ℕ) (inserted : ℕ)
    → IsInsertion g.V.Band.Holds shop jobs inserted g.row.N c.args.lanes c.args.steps c.args.permits.tails
    c.args.permits.sums
    (map g.V.Times.Stored.lanes c.args.times.now) (map g.V.Times.Stored.lanes c.args.job.now)
    → (place : ℕ) → place ≤ length jobs
    → g.V.Band.Holds (get_or (map g.V.Band.number
    (c.fill_sums-paid.new.sums ++ drop (c.args.steps + 7) c.args.sums.now))
    (7 + place) 0) (makespan_with shop jobs inserted place)
all_sums_are g c shop jobs inserted is place le =
    let all = is.all in
    let number = g.V.Band.number in
    let summed = c.fill_sums-paid.new.sums in
    let rest = drop (c.args.steps + 7) c.args.sums.now in
    let lanes = c.requires.some_lanes in
    let long : length summed ≡ c.args.steps + 7 =
    c.fill_sums-paid.ensures.length ∙ length-take-le (c.args.steps + 7) c.args.sums.now c.requires.sums in
    changed g.V.Band.Holds (ap (λ l. get_or l (7 + place) 0) (map-append number summed rest)
    ∙ get_or-append (map number summed) (map number rest) 0 (7 + place)
    (omega (arith, length-map summed number, long, all, le))) refl (sums_are g c shop jobs inserted is place le)

pub returns-clause-found : goal.returns-clause-found
returns-clause-found g c shop jobs inserted is =
    let all = is.all in
    let number = g.V.Band.number in
    let steps = c.args.steps in
    let summed = c.fill_sums-paid.new.sums in
    let rest = drop (steps + 7) c.args.sums.now in
    let part = drop 7 (summed ++ rest) in
    let n = steps + 8 - c.args.lanes - 7 in
    let some_lanes = c.requires.some_lanes in
    let long : length summed ≡ steps + 7 =
    c.fill_sums-paid.ensures.length ∙ length-take-le (steps + 7) c.args.sums.now c.requires.sums in
    let count_is : length (take n part) ≡ length jobs + 1 =
    length-take-le n part (omega (arith, length-drop 7 (summed ++ rest), length-append summed rest, long))
    ∙ omega arith in
    let room = c.requires.room in
    rw c.with.ensures (record {
      best = record {
        number = λ place. get_or (map number (take n part)) place 0;
        numbers_hold = λ place lt. changed g.V.Band.Holds
            (number_of_part number (summed ++ rest) 7 n place (omega arith)) refl
            (all_sums_are g c shop jobs inserted is place (omega arith));
        least_is = rw count_is at c.first_least-found.ensures;
      };
      sums_hold = λ place lt. changed g.V.Band.Holds (c.write_spans.ensures place lt
          ∙ number_of_part number (summed ++ rest) 7 n place (omega arith)) refl
          (all_sums_are g c shop jobs inserted is place (omega (arith, lt, room, some_lanes, all)));
    })
