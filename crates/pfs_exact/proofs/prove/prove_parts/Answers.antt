use Rattle.std.proofs.Common.{◌≡◌, ℕ, ◌+◌, ◌-◌, ◌≤◌, inl, inr, List, [], ◌∷◌, ◌++◌, length, take, arith, sym, ap, ◌∙◌, subst, add-one, rules}
use Rattle.std.proofs.Math.Seq.{take-suc}
use Rattle.std.proofs.lemmas.Bool.{cases_eq}
use Rattle.std.proofs.lemmas.List.{take_all}
use Rattle.std.proofs.lemmas.List.Sums.{sum_by_more, sum_by-take-le}
use Rattle.pfs_base.specs.Paths.{makespan}
use Rattle.pfs_exact.specs.MostNodes.{most_nodes}
use Rattle.pfs_exact.specs.declared.branch.Work.{Work}
use Rattle.pfs_exact.specs.declared.parts.Part.{Part}
use Rattle.pfs_exact.specs.Parts.{IsInSome}
use Rattle.pfs_exact.specs.Private.Nodes.{IsDone, IsWork}
use Rattle.pfs_exact.proofs.Covering.{by_middle, in_all, in_cases}
use Rattle.pfs_exact.proofs.SearchedChildren.{few_pairs}
use Rattle.pfs_exact.proofs.Searching.{continues_on}
use Rattle.pfs_exact.proofs.prove.prove_parts.Goals as goal
use Rattle.pfs_exact.proofs.prove.prove_parts.Goals.{then-work-min+in_ok-rooms+else-loop-part-test, else-work-min}

pub loop-part-preserved : goal.loop-part-preserved
loop-part-preserved c =
    let shop = c.args.instance.now.shop in
    let parts = c.args.parts.now in
    let place = c.loop-part.part-index in
    let part = c.part-item.result in
    let invariant = c.loop-part.invariant in
    let searched = c.in_ok-search.ensures in
    let after = c.search.new.work in
    let fewer = invariant.continues.fewer in
    let more : take (place + 1) parts ≡ take place parts ++ part ∷ [] =
    ap (λ n. take n parts) (add-one place) ∙ take-suc parts place part (omega arith)
    ∙ ap (λ (p : Part). take place parts ++ p ∷ []) (sym c.part-item.is) in
    let most : Part → ℕ = λ (p : Part). most_nodes (shop.jobs - (length p.front.jobs + length p.back.jobs)) in
    let sum = sum_by_more most parts place part (omega arith) in
    let at = ap most c.part-item.is in
    let few = searched.few in
    let before = invariant.few in
    record {
      work = searched.work;
      continues = continues_on shop c.in-Ok.work c.loop-part.work after invariant.continues searched.continues;
      floor = searched.floor ∙ invariant.floor;
      rooms = invariant.rooms;
      untouched = λ none. searched.untouched (omega arith) ∙ invariant.untouched none;
      few = omega arith;
      room = let room = invariant.room in elim (cases_eq c.loop-part.work.left 0) [
        | inl none ↦ let one = searched.one none in omega arith
        | inr some ↦
            let same = ap (λ (l : List Part). length l) (invariant.continues.parts (omega arith)) in
            let first = ap (λ (l : List Part). length l) c.in-Ok.ensures.parts in
            let more = searched.room in
            omega arith
      ];
      covered = λ order sequence full among.
          elim (in_cases order (take place parts) (part ∷ []) (subst (IsInSome order) more among)) [
            | inl early ↦ searched.continues.kept order (invariant.covered order sequence full early)
            | inr (inl (middle, is)) ↦ subst (IsDone shop after) (sym is)
                (searched.done middle (by_middle shop order part sequence full (middle, is)))
            | inr (inr none) ↦ absurd none
          ];
    }

pub returns-clause-covered : goal.returns-clause-covered
returns-clause-covered c = λ order sequence full among.
    let shop = c.args.instance.now.shop in
    let parts = c.args.parts.now in
    elim c.if-work-min.branch [
      | then-work-min+in_ok-rooms+else-loop-part-test w ↦
          let invariant = w.loop-part.invariant in
          let limit : c.if-work-min.work.limit ≡ c.args.limit =
          ap (λ (x : Work). x.limit) w.work-is ∙ invariant.continues.limit ∙ c.in-Ok.ensures.limit in
          let all : take w.loop-part.part-index parts ≡ parts = take_all w.loop-part.part-index parts (omega arith) in
          elim (subst (λ (x : Work). IsDone shop x order) (sym w.work-is)
          (invariant.covered order sequence full (subst (IsInSome order) (sym all) among))) [
            | inl long ↦ inl (omega arith)
            | inr there ↦ inr there
          ]
      | else-work-min w ↦
          let low = c.in-Ok.ensures.work.floor order sequence full in
          let same = ap (λ (x : Work). x.makespan) w.work-is in
          let above = w.if-work-min.false in
          inl (omega arith)
    ]

pub returns-clause-low : goal.returns-clause-low
returns-clause-low c = λ order sequence full among.
    let shop = c.args.instance.now.shop in
    let work = c.if-work-min.work in
    let is : IsWork shop work =
    elim c.if-work-min.branch [
      | then-work-min+in_ok-rooms+else-loop-part-test w ↦ subst (IsWork shop) (sym w.work-is) w.loop-part.invariant.work
      | else-work-min w ↦ subst (IsWork shop) (sym w.work-is) c.in-Ok.ensures.work
    ] in
    let floor = is.floor order sequence full in
    let least : c.least_bound-least.result ≤ makespan shop order =
    elim (returns-clause-covered c order sequence full among) [
      | inl long ↦ let small = c.least_bound-least.ensures.number in omega arith
      | inr there ↦ in_all shop order c.least_bound-least.result work.parts.items sequence full is.parts
          (search (rules, c.least_bound-least.ensures.parts)) there
    ] in
    inl (omega arith)

pub returns-clause-few : goal.returns-clause-few
returns-clause-few c = elim c.if-work-min.branch [
  | then-work-min+in_ok-rooms+else-loop-part-test w ↦
      let shop = c.args.instance.now.shop in
      let parts = c.args.parts.now in
      let most : Part → ℕ = λ (p : Part). most_nodes (shop.jobs - (length p.front.jobs + length p.back.jobs)) in
      let few = w.loop-part.invariant.few in
      let within = sum_by-take-le most parts w.loop-part.part-index in
      let same = ap (λ (x : Work). x.left) w.work-is in
      let first = c.in-Ok.ensures.nodes in
      omega arith
  | else-work-min w ↦
      let same = ap (λ (x : Work). x.left) w.work-is in
      let first = c.in-Ok.ensures.nodes in
      omega arith
]

pub returns-clause-room : goal.returns-clause-room
returns-clause-room c = elim c.if-work-min.branch [
  | then-work-min+in_ok-rooms+else-loop-part-test w ↦
      let room = w.loop-part.invariant.room in
      let pairs = few_pairs c.args.instance.now.shop.jobs in
      let same = ap (λ (x : Work). length x.parts.items) w.work-is in
      omega arith
  | else-work-min w ↦
      let same = ap (λ (x : Work). length x.parts.items) w.work-is in
      let first = ap (λ (l : List Part). length l) c.in-Ok.ensures.parts in
      omega arith
]
