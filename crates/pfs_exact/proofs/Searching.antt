-- The steps of a search.
use Rattle.std.proofs.Common.{◌≡◌, ℕ, zero, suc, Bool, ◌+◌, ◌-◌, ◌<◌, ◌≤◌, inl, inr, List, [], ◌∷◌, ◌++◌, length, get_or, set}
use Rattle.std.proofs.Common.{arith, ap, refl, sym, ◌∙◌, subst, Result, Ok, Err}
use Rattle.std.specs.Prelude.{OnOk}
use Rattle.std.proofs.Math.ListN.{length-set}
use Rattle.std.proofs.lemmas.Bool.{cases_eq, cases_lt}
use Rattle.std.proofs.lemmas.List.{get_or-set_same, get_or-set_other}
use Rattle.pfs_base.specs.FlowShop.{FlowShop}
use Rattle.pfs_exact.specs.declared.branch.Work.{Work}
use Rattle.pfs_exact.specs.declared.ends.Ends.{Ends}
use Rattle.pfs_exact.specs.declared.parts.Part.{Part}
use Rattle.pfs_exact.specs.Parts.{IsInSome}
use Rattle.pfs_exact.proofs.Covering.{in_left, in_right}
use Rattle.pfs_exact.specs.Private.Nodes.{AreBounds, AreChildren, Continues, Every, IsChild, IsDone, IsOpen, goal_of, put_of}

-- ---- a search goes on

pub continues_on : (shop : FlowShop) (one two three : Work) → Continues shop one two → Continues shop two three
    → Continues shop one three
continues_on shop one two three first second = record {
  limit = second.limit ∙ first.limit;
  no_longer = let a = first.no_longer in let b = second.no_longer in omega arith;
  fewer = let a = first.fewer in let b = second.fewer in omega arith;
  kept = λ order done. second.kept order (first.kept order done);
  parts = λ some. second.parts some ∙ first.parts (let b = second.fewer in omega arith);
}

pub goal_less : (shop : FlowShop) (before after : Work) → Continues shop before after → goal_of after ≤ goal_of before
goal_less shop before after goes = let same = goes.limit in let less = goes.no_longer in omega arith

-- the ends do not matter
pub continues_at : (shop : FlowShop) (before after : Work) (one other : Ends)
    → Continues shop (record before { ends = one }) (record after { ends = other }) → Continues shop before after
continues_at shop before after one other goes = record {
  limit = goes.limit;
  no_longer = goes.no_longer;
  fewer = goes.fewer;
  kept = goes.kept;
  parts = goes.parts;
}

-- ---- what is left

pub on_ok : {X E P Q : Type 0} (result : Result X E) → (P → Q) → OnOk result P → OnOk result Q
on_ok (Ok x) then is = then is
on_ok (Err e) then is = is

module _ (shop : FlowShop) (before after : Work) (part : Part)
    (more : after.parts.items ≡ before.parts.items ++ part ∷ []) where
  pub left_continues : after.limit ≡ before.limit → after.makespan ≡ before.makespan → after.left ≡ before.left
      → before.left ≡ 0 → Continues shop before after
  left_continues limit same left none = record {
    limit = limit;
    no_longer = omega arith;
    fewer = omega arith;
    kept = λ order done. elim done [
      | inl long ↦ inl (omega arith)
      | inr among ↦ inr (subst (IsInSome order) (sym more) (in_left order before.parts.items (part ∷ []) among))
    ];
    parts = λ some. absurd (omega arith);
  }

  pub left_done : Every shop (IsDone shop after) part.front.jobs part.back.jobs
  left_done middle full =
      let order : List ℕ = part.front.jobs ++ (middle ++ part.back.jobs) in
      inr (subst (IsInSome order) (sym more) (in_right order before.parts.items (part ∷ []) (inl (middle, refl))))

-- ---- the children

pub children_first : (shop : FlowShop) (ends : Ends) (forward : Bool) (bounds : List ℕ) (work : Work)
    → AreBounds shop ends forward shop.jobs bounds → AreChildren shop ends forward bounds work
children_first shop ends forward bounds work are = record {
  every = are.every;
  low = λ job small outside below. are.low job small outside;
  done = λ job small outside above middle full. inl (let low = are.low job small outside middle full in omega arith);
  closed = are.closed;
}

pub children_more : (shop : FlowShop) (ends : Ends) (forward : Bool) (bounds : List ℕ) (before after : Work) (job number : ℕ)
    → job < shop.jobs → IsOpen ends.front.jobs ends.back.jobs job → Continues shop before after → goal_of after ≤ number
    → Every shop (IsDone shop after) (put_of forward ends job).front.jobs (put_of forward ends job).back.jobs
    → AreChildren shop ends forward bounds before → AreChildren shop ends forward (set bounds job number) after
children_more shop ends forward bounds before after job number inside outside goes enough done are =
    let within : job < length bounds = omega (arith, are.every) in
    let here = get_or-set_same bounds job number 0 within in
    let less = goal_less shop before after goes in
    record {
      every = omega (arith, are.every, length-set bounds job number);
      low = λ k small open_too below. elim (cases_eq k job) [
        | inl is ↦
            let at = ap (λ j. get_or (set bounds job number) j 0) is ∙ here in
            absurd (omega arith)
        | inr other ↦
            let same = get_or-set_other bounds job k number 0 other in
            subst (IsChild shop ends forward k) (sym same) (are.low k small open_too (omega arith))
      ];
      done = λ k small open_too above. elim (cases_eq k job) [
        | inl is ↦ subst
            (λ j. Every shop (IsDone shop after) (put_of forward ends j).front.jobs (put_of forward ends j).back.jobs)
            (sym is) done
        | inr other ↦
            let same = get_or-set_other bounds job k number 0 other in
            elim (cases_lt (get_or bounds k 0) (goal_of before)) [
              | inl below ↦ λ middle full. inl (let low = are.low k small open_too below middle full in omega arith)
              | inr high ↦ λ middle full. goes.kept ((put_of forward ends k).front.jobs ++ (middle ++ (put_of forward ends k).back.jobs))
                  (are.done k small open_too high middle full)
            ]
      ];
      closed = λ k small below. elim (cases_eq k job) [
        | inl is ↦ subst (IsOpen ends.front.jobs ends.back.jobs) (sym is) outside
        | inr other ↦
            let same = get_or-set_other bounds job k number 0 other in
            are.closed k small (omega arith)
      ];
    }

-- ---- the end of the loop

-- how far the numbers of the first jobs are below a goal
abbrev pub below : List ℕ → ℕ → ℕ → ℕ
below bounds goal zero = 0
below bounds goal (suc many) = (goal - get_or bounds many 0) + below bounds goal many

below-le : (bounds others : List ℕ) (goal less many : ℕ)
    → ((k : ℕ) → less - get_or others k 0 ≤ goal - get_or bounds k 0) → below others less many ≤ below bounds goal many
below-le bounds others goal less zero fewer = omega arith
below-le bounds others goal less (suc many) fewer =
    let rest = below-le bounds others goal less many fewer in let here = fewer many in omega arith

below-lt : (bounds others : List ℕ) (goal less job many : ℕ)
    → ((k : ℕ) → less - get_or others k 0 ≤ goal - get_or bounds k 0) → job < many
    → less - get_or others job 0 < goal - get_or bounds job 0 → below others less many < below bounds goal many
below-lt bounds others goal less job zero fewer small strict = absurd (omega arith)
below-lt bounds others goal less job (suc many) fewer small strict = elim (cases_eq job many) [
  | inl is ↦
      let at = subst (λ k. less - get_or others k 0 < goal - get_or bounds k 0) is strict in
      let rest = below-le bounds others goal less many fewer in
      omega arith
  | inr other ↦
      let rest = below-lt bounds others goal less job many fewer (omega arith) strict in
      let here = fewer many in
      omega arith
]

-- a number below the goal has become one that is not
pub below_less : (bounds : List ℕ) (goal less job number many : ℕ) → less ≤ goal → less ≤ number → job < many
    → job < length bounds → get_or bounds job 0 < goal → below (set bounds job number) less many < below bounds goal many
below_less bounds goal less job number many no_longer enough small within strict =
    let here = get_or-set_same bounds job number 0 within in
    below-lt bounds (set bounds job number) goal less job many
    (λ k. elim (cases_eq k job) [
      | inl is ↦ let at = ap (λ j. get_or (set bounds job number) j 0) is ∙ here in omega arith
      | inr other ↦ let same = get_or-set_other bounds job k number 0 other in omega arith
    ]) small (omega arith)
