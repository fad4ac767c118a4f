-- One more pass, and one more round.
use Rattle.std.proofs.Common.{◌≡◌, ℕ, suc, ◌+◌, ◌-◌, ◌<◌, ◌≤◌, List, fold, ap, ◌∙◌, refl, arith}
use Rattle.std.proofs.lemmas.Bool.{lt-ltb, le-ltb}
use Rattle.pfs_base.specs.FlowShop.{FlowShop}
use Rattle.pfs_base.specs.Paths.{makespan}
use Rattle.pfs_iterate.specs.declared.options.Options.{Options}
use Rattle.pfs_iterate.specs.Iterated.{State, after_round, after_rounds, settled, moved, words_of_round}

module _ (shop : FlowShop) (options : Options) (list jobs : List ℕ) (passes made : ℕ) (left : made < passes) where
  abbrev pub after_pass : List ℕ
  after_pass = fold (moved shop options) jobs list

  more : passes - made ≡ suc (passes - (made + 1))
  more = omega arith

  pub settled_goes_on : makespan shop after_pass < makespan shop jobs
      → settled shop options list (passes - made) jobs ≡ settled shop options list (passes - (made + 1)) after_pass
  settled_goes_on shorter =
      ap (λ n. settled shop options list n jobs) more ∙ rw (lt-ltb (makespan shop after_pass) (makespan shop jobs) shorter) refl

  pub improved_stops : makespan shop jobs ≤ makespan shop after_pass → settled shop options list (passes - made) jobs ≡ after_pass
  improved_stops longer =
      ap (λ n. settled shop options list n jobs) more ∙ rw (le-ltb (makespan shop after_pass) (makespan shop jobs) longer) refl

pub rounds_more : (shop : FlowShop) (options : Options) (accept stay : List ℕ) (first count done : ℕ) (state : State)
    → done < count → after_rounds shop options accept stay (first + done) (count - done) state
    ≡ after_rounds shop options accept stay (first + (done + 1)) (count - (done + 1))
    (after_round shop options accept stay state (words_of_round shop options (first + done)))
rounds_more shop options accept stay first count done state left =
    let more : count - done ≡ suc (count - (done + 1)) = omega arith in
    let next : first + (done + 1) ≡ first + done + 1 = omega arith in
    rw (more, next) refl
