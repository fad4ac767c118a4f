use Rattle.std.proofs.Common.{◌≡◌, ℕ, suc, ◌+◌, ◌-◌, [], ◌∷◌, ◌++◌, length, get_or, ap, sym, ◌∙◌, subst, arith, add-one, take, drop, drop-cons}
use Rattle.std.proofs.Math.Seq.{take-suc}
use Rattle.pfs_exact.specs.declared.ends.Ends.{Ends}
use Rattle.pfs_exact.specs.Private.Nodes.{IsNode}
use Rattle.pfs_exact.proofs.prove.node_of.Goals as goal

pub loop-place-preserved : goal.loop-place-preserved
loop-place-preserved c =
    let shop = c.args.instance.now.shop in
    let front = c.args.front.now.jobs in
    let place = c.loop-place.place in
    let job = c.at.result in
    let ends : Ends = record {
      front = record { size = shop.jobs; jobs = take place front };
      back = record { size = shop.jobs; jobs = [] };
    } in
    let more : take (place + 1) front ≡ take place front ++ job ∷ [] =
    ap (λ n. take n front) (add-one place) ∙ take-suc front place 0 (omega arith)
    ∙ ap (λ j. take place front ++ j ∷ []) (sym c.at.ensures.value) in
    subst (λ l. IsNode shop l [] c.child.new.next) (sym more) (c.child.ensures ends c.loop-place.invariant)

pub loop-turn-preserved : goal.loop-turn-preserved
loop-turn-preserved c =
    let shop = c.args.instance.now.shop in
    let front = c.args.front.now.jobs in
    let back = c.args.back.now.jobs in
    let turn = c.loop-turn.turn in
    let place : ℕ = length back - (turn + 1) in
    let here : c.len-many.result - 1 - turn ≡ place = omega arith in
    let next : length back - turn ≡ suc place = omega arith in
    let job = c.at-in-loop-turn.result in
    let is : job ≡ get_or back place 0 = c.at-in-loop-turn.ensures.value ∙ ap (λ p. get_or back p 0) here in
    let ends : Ends = record {
      front = record { size = shop.jobs; jobs = front };
      back = record { size = shop.jobs; jobs = drop (length back - turn) back };
    } in
    let more : drop place back ≡ job ∷ drop (length back - turn) back =
    drop-cons back place 0 (omega arith) ∙ ap (λ j. j ∷ drop (suc place) back) (sym is)
    ∙ ap (λ n. job ∷ drop n back) (sym next) in
    subst (λ l. IsNode shop front l c.child-in-loop-turn.new.next) (sym more)
    (c.child-in-loop-turn.ensures ends c.loop-turn.invariant)
