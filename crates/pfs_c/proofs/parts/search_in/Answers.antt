use Rattle.std.proofs.Common.{◌≡◌, ℕ, ◌+◌, ◌<◌, ◌≤◌, inl, inr, List, length, get_or, ap, sym, ◌∙◌, subst, arith, rules, All}
use Rattle.std.proofs.lemmas.List.{nil_from_length}
use Rattle.pfs_exact.specs.declared.parts.Part.{Part}
use Rattle.pfs_exact.specs.Parts.{IsInSome, IsPart}
use Rattle.pfs_c.specs.declared.parts.TheConstants.{PFS_OPEN}
use Rattle.pfs_c.specs.Parts.{IsInRows}
use Rattle.pfs_c.specs.Private.PartRows.{AreRows}
use Rattle.pfs_c.proofs.PartSteps.{bounds_hold, few_in, in_parts, in_rows}
use Rattle.pfs_c.proofs.parts.search_in.Goals as goal

pub write_parts-requires-clause-few : goal.write_parts-requires-clause-few
write_parts-requires-clause-few c =
    let shop = c.args.instance.now.shop in
    subst (λ (jobs : ℕ). All (λ (part : Part). length part.front.jobs + length part.back.jobs ≤ jobs) c.deref-2.result.now)
    (sym c.jobs-jobs.ensures.value)
    (few_in shop c.deref-2.result.now (subst (All (IsPart shop)) (sym c.deref-2.ensures.value) c.in-Ok.ensures.parts))

pub returns-clause-done : goal.returns-clause-done
returns-clause-done c =
    let shop = c.args.instance.now.shop in
    let given = c.in_ok-given.given.items in
    let rows = c.args.parts.now in
    let checked = c.in_ok-validate_parts.ensures in
    let read = c.in_ok-given.ensures in
    let found = c.in-Ok.ensures in
    let left = c.in-Ok.searched.parts.items in
    let after = c.write_parts.new.rows in
    let small : shop.jobs < PFS_OPEN = omega (arith, checked.jobs) in
    let count : c.len.result ≡ length left = search rules in
    let wrote : AreRows shop.jobs left after =
    subst (λ (l : List Part). AreRows shop.jobs l after) c.deref-2.ensures.value
    (subst (λ (n : ℕ). AreRows n c.deref-2.result.now after) c.jobs-jobs.ensures.value c.write_parts.ensures.rows) in
    let among : (order : List ℕ) → length order ≡ shop.jobs → IsInRows order shop.jobs c.args.proof.now.count rows
    → IsInSome order c.deref.result.now =
    λ order long there. subst (IsInSome order) (sym c.deref.ensures.value)
    (in_parts shop given rows order read.rows long read.parts small
    (subst (λ (n : ℕ). IsInRows order shop.jobs n rows) (sym read.count) there)) in
    let bounds : (index : ℕ) (d : Part) → index < length left
    → get_or c.write_parts.new.bounds index 0 ≡ (get_or left index d).bound =
    subst (λ (l : List Part). (index : ℕ) (d : Part) → index < length l
    → get_or c.write_parts.new.bounds index 0 ≡ (get_or l index d).bound) c.deref-2.ensures.value
    c.write_parts.ensures.bounds in
    record {
      sequence = search rules;
      full = search rules;
      exact = search rules;
      no_longer = search rules;
      untouched = search rules;
      covered = λ order is long there. elim (found.covered order is long (among order long there)) [
        | inl high ↦ inl high
        | inr open_yet ↦ inr (subst (λ (n : ℕ). IsInRows order shop.jobs n after) (sym count)
            (in_rows shop left after order wrote long open_yet))
      ];
      low = λ order is long there. elim (found.low order is long (among order long there)) [
        | inl high ↦ high
        | inr none ↦ absurd none
      ];
      raised = found.raised;
      each = λ index within order is long there. bounds_hold shop left after order wrote long found.parts small is index _
          (omega arith) (λ d. bounds index d (omega arith)) there;
      ended = λ some. count ∙ ap (λ (l : List Part). length l) (found.ended some);
      closed = λ none. found.closed (nil_from_length left (sym count ∙ none));
      budget = found.budget;
      limit = search rules;
      nodes = search rules;
    }
