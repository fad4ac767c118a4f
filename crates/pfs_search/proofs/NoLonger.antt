-- Rounds don't increase the makespan of an order.
use Rattle.std.proofs.Common.{ℕ, zero, suc, ◌≤◌, List, take as front, drop, arith}
use Rattle.std.proofs.Math.Dec.{leb}
use Rattle.std.proofs.lemmas.Bool.{cond_both, leb-true}
use Rattle.pfs_base.specs.FlowShop.{FlowShop}
use Rattle.pfs_base.specs.Paths.{makespan}
use Rattle.pfs_search.specs.Greedy.{kept_of, after_passes, after_round, rebuilt, NoLongerLaw}

kept_no_longer : (shop : FlowShop) (old new : List ℕ) → makespan shop (kept_of shop old new) ≤ makespan shop old
kept_no_longer shop old new =
    cond_both (leb (makespan shop new) (makespan shop old)) new old (λ jobs. makespan shop jobs ≤ makespan shop old)
    (λ test. leb-true (makespan shop new) (makespan shop old) test) (λ _. omega arith)

pub no_longer_law : NoLongerLaw
no_longer_law shop passes zero take jobs words = omega arith
no_longer_law shop passes (suc rounds) take jobs words =
    let once = kept_no_longer shop jobs (after_passes shop passes (rebuilt shop jobs (front take words))) in
    let once_more = after_round shop passes jobs (front take words) in
    let rest = no_longer_law shop passes rounds take once_more (drop take words) in
    omega arith
