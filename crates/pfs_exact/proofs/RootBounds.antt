-- Starts and rests of all orders, by the least times of a job before and after a machine.
use Rattle.std.proofs.Common.{◌≡◌, ℕ, suc, ◌+◌, ◌-◌, ◌<◌, ◌≤◌, [], ◌++◌, length, get_or, ap, sym, ◌∙◌, subst, arith}
use Rattle.std.proofs.lemmas.List.{append-nil}
use Rattle.pfs_base.specs.FlowShop.{FlowShop, time_of}
use Rattle.pfs_base.specs.Heads.{head_of}
use Rattle.pfs_base.specs.Paths.{makespan, operation}
use Rattle.pfs_base.proofs.Published.HeadRows.{head_of-is, span_is}
use Rattle.pfs_order.specs.Sequence.{IsSequence}
use Rattle.pfs_audit.specs.Bound.{least_on, time_on}
use Rattle.pfs_audit.proofs.Published.LeastTimes.{head_along, least-range-le}
use Rattle.pfs_audit.proofs.Published.Ranges.{sum_by-below-suc}
use Rattle.pfs_exact.specs.Private.Nodes.{IsRest, IsStart}
use Rattle.pfs_exact.proofs.Heads.{first}
use Rattle.pfs_exact.proofs.TwoMachines.{row}
use Rattle.pfs_exact.proofs.GrownEnds.{first_small}

pub before_start : (shop : FlowShop) (machine time : ℕ) → time ≡ least_on shop 0 machine → IsStart shop [] [] machine time
before_start shop machine time is job more full =
    let rest = more ++ [] in
    let least = least-range-le (time_on shop 0 machine) shop.jobs job (first_small shop [] job more [] full) in
    let own = first shop [] job rest 0 in
    let along = row shop [] job rest 0 0 machine (omega (arith, own)) in
    let sum = sum_by-below-suc (time_of shop job) machine in
    let there : 0 + machine ≡ machine = omega arith in
    let end = rw there at along in
    omega (arith, least, sum, end, is)

pub after_rest : (shop : FlowShop) (machine time : ℕ) → 1 ≤ shop.jobs → machine < shop.machines
    → time ≡ least_on shop (machine + 1) (shop.machines - (machine + 1)) → IsRest shop [] [] machine time
after_rest shop machine time some small is middle full =
    let nil : middle ++ [] ≡ middle = append-nil middle in
    let sequence = subst (IsSequence shop.jobs) nil full.sequence in
    let all : length middle ≡ shop.jobs = sym (ap length nil) ∙ full.full in
    let at : ℕ = length middle - 1 in
    let long : length middle ≡ suc at = omega (arith, all, some) in
    let rows : length {A = ℕ} [] + length middle ≡ suc at = omega (arith, long) in
    let many = shop.machines - (machine + 1) in
    let inside : get_or middle at 0 < shop.jobs = sequence.in_range at 0 (omega (arith, long)) in
    let least = least-range-le (time_on shop (machine + 1) many) shop.jobs (get_or middle at 0) inside in
    let last : machine + many ≡ shop.machines - 1 = omega (arith, small) in
    let along = rw last at (head_along (operation shop middle) at machine many) in
    let here = head_of-is shop middle (suc at) machine in
    let there = head_of-is shop middle (suc at) (shop.machines - 1) in
    let span = span_is shop middle ∙ ap (λ r. head_of shop middle r (shop.machines - 1)) long in
    let one = ap (λ l. head_of shop l (length {A = ℕ} [] + length middle) machine) nil in
    let two = ap (λ r. head_of shop middle r machine) rows in
    let three = ap (makespan shop) nil in
    omega (arith, least, along, here, there, span, one, two, three, is)
