-- The numbers of the children, one by one.
use Rattle.std.proofs.Common.{◌≢◌, ℕ, Bool, true, false, ◌<◌, ◌≤◌, length, List, get_or, set, inl, inr, sym}
use Rattle.std.proofs.Common.{subst, arith, ap, ◌∙◌}
use Rattle.std.proofs.Math.ListN.{length-set}
use Rattle.std.proofs.lemmas.Bool.{cases_eq}
use Rattle.std.proofs.lemmas.List.{get_or-set_same, get_or-set_other}
use Rattle.pfs_base.specs.FlowShop.{FlowShop}
use Rattle.pfs_exact.specs.declared.children.TheConstants.{CLOSED}
use Rattle.pfs_exact.specs.declared.children.Room.{Room}
use Rattle.pfs_exact.specs.declared.ends.Ends.{Ends}
use Rattle.pfs_exact.specs.Private.Nodes.{AreBounds, AreLeast, AreOpen, IsChild, IsOpen}

-- the room has the marks and the least times, and the numbers of the first jobs at each end
pub record AreFound (shop : FlowShop) (ends : Ends) (job : ℕ) (room : Room) : Type 0 where
  pub marks : AreOpen shop.jobs ends room.marks
  pub least : AreLeast shop ends.front.jobs ends.back.jobs room.least
  pub ahead : AreBounds shop ends true job room.bounds
  pub behind : AreBounds shop ends false job room.others

pub bounds_none : (shop : FlowShop) (ends : Ends) (forward : Bool) (bounds : List ℕ) → shop.jobs ≤ length bounds
    → AreBounds shop ends forward 0 bounds
bounds_none shop ends forward bounds every = record {
  every = every;
  low = λ job small. absurd (omega arith);
  closed = λ job small. absurd (omega arith);
}

pub bounds_set : (shop : FlowShop) (ends : Ends) (forward : Bool) (many next job number : ℕ) (bounds : List ℕ)
    → job < shop.jobs → ((k : ℕ) → k < next → k ≢ job → k < many)
    → (IsOpen ends.front.jobs ends.back.jobs job → IsChild shop ends forward job number)
    → (number < CLOSED → IsOpen ends.front.jobs ends.back.jobs job) → AreBounds shop ends forward many bounds
    → AreBounds shop ends forward next (set bounds job number)
bounds_set shop ends forward many next job number bounds inside fewer child outside are =
    let within : job < length bounds = omega (arith, are.every) in
    record {
      every = omega (arith, are.every, length-set bounds job number);
      low = λ k small open_too. elim (cases_eq k job) [
        | inl is ↦ subst (λ j. IsChild shop ends forward j (get_or (set bounds job number) j 0)) (sym is)
            (subst (IsChild shop ends forward job) (sym (get_or-set_same bounds job number 0 within))
            (child (subst (IsOpen ends.front.jobs ends.back.jobs) is open_too)))
        | inr other ↦ subst (IsChild shop ends forward k) (sym (get_or-set_other bounds job k number 0 other))
            (are.low k (fewer k small other) open_too)
      ];
      closed = λ k small less. elim (cases_eq k job) [
        | inl is ↦
            let here = ap (λ j. get_or (set bounds job number) j 0) is ∙ get_or-set_same bounds job number 0 within in
            subst (IsOpen ends.front.jobs ends.back.jobs) (sym is) (outside (omega arith))
        | inr other ↦
            let same = get_or-set_other bounds job k number 0 other in
            are.closed k (fewer k small other) (omega arith)
      ];
    }
