-- What steps keep, one after another.
use Rattle.std.proofs.Common.{◌∙◌, refl, ℕ, List, sym, arith}
use Rattle.pfs_base.specs.FlowShop.{FlowShop}
use Rattle.pfs_iterate.specs.Private.Keeping.{IsLater}
use Rattle.pfs_iterate.specs.Private.Memory.{IsWorkAfter, IsWorkFor}
use Rattle.pfs_iterate.specs.declared.iterated.Iterated.{Iterated}
use Rattle.pfs_iterate.specs.declared.work.Work.{Work}

pub work_same : (shop : FlowShop) (work : Work) → IsWorkFor shop work → IsWorkAfter shop work work
work_same shop work is = record { still = is; kept = refl; cells = refl }

pub work_then : (shop : FlowShop) (one two three : Work) → IsWorkAfter shop one two → IsWorkAfter shop two three
    → IsWorkAfter shop one three
work_then shop one two three first then = record {
  still = then.still;
  kept = then.kept ∙ first.kept;
  cells = then.cells ∙ first.cells;
}

pub later_then : (held : ℕ) (stay : List ℕ) (one two three : Iterated) → IsLater held stay one two
    → IsLater held stay two three → IsLater held stay one three
later_then held stay one two three first then = record {
  no_longer = omega (arith, then.no_longer, first.no_longer);
  current_front = then.current_front ∙ first.current_front;
  best_front = then.best_front ∙ first.current_front;
  current_staying = then.current_staying ∙ first.current_staying;
  best_staying = λ same. then.best_staying (first.best_staying same ∙ sym first.current_staying) ∙ first.current_staying;
  kept = then.kept ∙ first.kept;
  cells = then.cells ∙ first.cells;
}
