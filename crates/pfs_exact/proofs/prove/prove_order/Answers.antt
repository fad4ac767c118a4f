use Rattle.std.proofs.Common.{inl, inr, [], arith, sym, ◌∙◌, subst, All}
use Rattle.std.proofs.lemmas.List.{append-nil}
use Rattle.std.proofs.lemmas.List.Elements.{All-nil, All-cons}
use Rattle.pfs_order.proofs.Published.Sequences.{IsSequence-nil}
use Rattle.pfs_exact.specs.declared.parts.Part.{Part}
use Rattle.pfs_exact.specs.Parts.{IsInSome, IsPart}
use Rattle.pfs_exact.proofs.prove.prove_order.Goals as goal

pub prove_parts-requires-clause-parts : goal.prove_parts-requires-clause-parts
prove_parts-requires-clause-parts c =
    let shop = c.args.instance.now.shop in
    let part : Part = record {
      front = record { size = c.jobs.result; jobs = [] };
      back = record { size = c.jobs.result; jobs = [] };
      bound = 0;
    } in
    let is : IsPart shop part = record {
      front = c.jobs.ensures.value;
      back = c.jobs.ensures.value;
      apart = IsSequence-nil shop.jobs;
      low = λ middle full. omega arith;
    } in
    subst (All (IsPart shop)) (sym (c.deref.ensures.value ∙ c.in_ok-parts.ensures))
    (All-cons (IsPart shop) part [] is (All-nil (IsPart shop)))

pub returns-clause-low : goal.returns-clause-low
returns-clause-low c = λ order sequence full.
    let all = c.deref.ensures.value ∙ c.in_ok-parts.ensures in
    let among : IsInSome order c.deref.result.now =
    subst (IsInSome order) (sym all) (inl (order, sym (append-nil order))) in
    elim (c.in_ok-searched.ensures.low order sequence full among) [
      | inl long ↦ long
      | inr none ↦ absurd none
    ]
