use Rattle.std.proofs.Common.{◌≡◌, ℕ, ◌+◌, ◌-◌, ◌<◌, inl, inr, List, [], ◌∷◌, ◌++◌, length, get_or, refl, ap, sym, ◌∙◌, subst, arith, All}
use Rattle.std.proofs.lemmas.Bool.{cases_eq}
use Rattle.std.proofs.lemmas.List.{length-append}
use Rattle.std.proofs.lemmas.List.Elements.{All-push}
use Rattle.pfs_exact.specs.declared.branch.Work.{Work}
use Rattle.pfs_exact.specs.declared.ends.Ends.{Ends}
use Rattle.pfs_exact.specs.declared.parts.Part.{Part}
use Rattle.pfs_exact.specs.MostNodes.{most_nodes}
use Rattle.pfs_exact.specs.Parts.{IsPart}
use Rattle.pfs_exact.specs.Private.Nodes.{AreEnds, Continues, Every, IsChild, IsDone, IsNode, IsOpen, IsSome, NoneShorter, goal_of, most_more, put_of, taken_of}
use Rattle.pfs_exact.proofs.SearchedChildren.{few_nodes, few_parts, none_entered, one_more}
use Rattle.pfs_exact.proofs.Searching.{below_less, children_first, children_more, continues_at, continues_on, goal_less, left_continues, left_done, on_ok}
use Rattle.pfs_exact.proofs.GrownEnds.{every_children, put_ends, put_length, put_some, taken_again}
use Rattle.pfs_exact.proofs.branch.+branch.Goals as goal

pub returns-then-work-eq0-clause-work : goal.returns-then-work-eq0-clause-work
returns-then-work-eq0-clause-work t c =
    let shop = c.args.instance.now.shop in
    let work = c.args.work.now in
    let is = c.requires.work in
    let part : Part = record { front = work.ends.front; back = work.ends.back; bound = c.args.bound } in
    let one : IsPart shop part = record {
      front = is.ends.front;
      back = is.ends.back;
      apart = is.ends.sequence;
      low = c.requires.bound;
    } in
    on_ok c.leave.result
    (λ more. record {
      ends = is.ends;
      size = is.size;
      room = is.room;
      full = is.full;
      exact = is.exact;
      floor = is.floor;
      table = is.table;
      parts = subst (All (IsPart shop)) (sym more) (All-push (IsPart shop) work.parts.items part is.parts one);
    }) c.leave.ensures

pub returns-then-work-eq0-clause-continues : goal.returns-then-work-eq0-clause-continues
returns-then-work-eq0-clause-continues t c =
    let work = c.args.work.now in
    let part : Part = record { front = work.ends.front; back = work.ends.back; bound = c.args.bound } in
    let after : Work = record work { parts = c.leave.new.parts } in
    on_ok c.leave.result (λ more. left_continues c.args.instance.now.shop work after part more refl refl refl (omega arith))
    c.leave.ensures

pub returns-then-work-eq0-clause-done : goal.returns-then-work-eq0-clause-done
returns-then-work-eq0-clause-done t c =
    let work = c.args.work.now in
    let part : Part = record { front = work.ends.front; back = work.ends.back; bound = c.args.bound } in
    let after : Work = record work { parts = c.leave.new.parts } in
    on_ok c.leave.result (λ more. left_done c.args.instance.now.shop work after part more) c.leave.ensures

pub each-init : goal.each-init
each-init t c =
    let shop = c.args.instance.now.shop in
    let work = c.args.work.now in
    let is = c.requires.work in
    let first : Work = record work { table = c.children_of-forward.new.table; left = work.left - 1 } in
    record {
      work = record {
        ends = is.ends;
        size = is.size;
        room = is.room;
        full = is.full;
        exact = is.exact;
        floor = is.floor;
        table = c.children_of-forward.ensures.table;
        parts = is.parts;
      };
      ends = refl;
      continues = record {
        limit = refl;
        no_longer = omega arith;
        fewer = omega arith;
        kept = λ order done. done;
        parts = λ some. refl;
      };
      floor = refl;
      left = omega arith;
      children = children_first shop work.ends c.children_of-forward.result c.children_of-forward.new.room.bounds first
          c.children_of-forward.ensures.bounds;
      entered = (
        [],
        none_entered shop.jobs (shop.jobs - (length work.ends.front.jobs + length work.ends.back.jobs))
            (work.ends.front.jobs ++ work.ends.back.jobs) c.children_of-forward.new.room.bounds (goal_of first) work.left
            first.left (length work.parts.items) (omega arith) is.ends.sequence,
      );
    }

pub returns-then-number-goal-clause-few : goal.returns-then-number-goal-clause-few
returns-then-number-goal-clause-few t c =
    let ends = c.args.work.now.ends in
    let (entered, are) = c.each.invariant.entered in
    few_nodes c.args.instance.now.shop.jobs ends.front.jobs ends.back.jobs c.each.room.bounds entered
    (goal_of c.each.work) c.args.work.now.left c.each.work.left (length c.args.work.now.parts.items)
    (length c.each.work.parts.items) are

pub returns-then-number-goal-clause-room : goal.returns-then-number-goal-clause-room
returns-then-number-goal-clause-room t c =
    let ends = c.args.work.now.ends in
    let (entered, are) = c.each.invariant.entered in
    few_parts c.args.instance.now.shop.jobs ends.front.jobs ends.back.jobs c.each.room.bounds entered
    (goal_of c.each.work) c.args.work.now.left c.each.work.left (length c.args.work.now.parts.items)
    (length c.each.work.parts.items) are

pub returns-then-number-goal-clause-done : goal.returns-then-number-goal-clause-done
returns-then-number-goal-clause-done t c =
    let shop = c.args.instance.now.shop in
    every_children shop (IsDone shop c.each.work) c.args.work.now.ends c.children_of-forward.result (omega arith)
    (λ job small outside.
    let least = c.least_of-job.ensures.least job (omega arith) in
    c.each.invariant.children.done job small outside (omega arith))

pub put-requires-clause-absent : goal.put-requires-clause-absent
put-requires-clause-absent t c =
    let invariant = c.each.invariant in
    let job = c.least_of-job.result in
    subst (λ (e : Ends). IsOpen e.front.jobs e.back.jobs job) (sym invariant.ends)
    (invariant.children.closed job (omega arith) (omega arith))

pub branch-alloc-requires : goal.branch-alloc-requires
branch-alloc-requires t c =
    let shop = c.args.instance.now.shop in
    let job = c.least_of-job.result in
    let forward = c.children_of-forward.result in
    let invariant = c.each.invariant in
    let here = c.each.work.ends in
    let put = sym c.put.ensures in
    let inside : job < shop.jobs = omega arith in
    let alone = invariant.children.closed job inside (omega arith) in
    let outside = subst (λ (e : Ends). IsOpen e.front.jobs e.back.jobs job) (sym invariant.ends) alone in
    let counts : Ends → ℕ = λ e. length e.front.jobs + length e.back.jobs in
    let more = ap counts c.put.ensures in
    let one = put_length forward here job in
    let same = ap counts invariant.ends in
    let short = c.if-len-jobs.false in (
      omega (arith, c.decreases),
      (
        c.requires.jobs,
        (
          c.requires.machines,
          (
            record {
              ends = subst (AreEnds shop.jobs) put (put_ends forward shop.jobs here job inside outside invariant.work.ends);
              size = invariant.work.size;
              room = invariant.work.room;
              full = invariant.work.full;
              exact = invariant.work.exact;
              floor = invariant.work.floor;
              table = invariant.work.table;
              parts = invariant.work.parts;
            },
            (
              subst (λ (e : Ends). NoneShorter shop e.front.jobs e.back.jobs (get_or c.each.room.bounds job 0)) put
                  (subst (λ (e : Ends). IsChild shop e forward job (get_or c.each.room.bounds job 0)) (sym invariant.ends)
                  (invariant.children.low job inside alone (omega arith))),
              (
                omega arith,
                subst (λ (e : Ends). IsNode shop e.front.jobs e.back.jobs c.child.new.next) put
                    (c.child.ensures here
                    (subst (λ (e : Ends). IsNode shop e.front.jobs e.back.jobs c.children_of-forward.new.node)
                    (sym invariant.ends) c.children_of-forward.ensures.node)),
              ),
            ),
          ),
        ),
      ),
    )

pub take-requires : goal.take-requires
take-requires t c =
    let forward = c.children_of-forward.result in
    subst (IsSome forward) (sym (c.in_ok-branch.ensures.ends ∙ c.put.ensures))
    (put_some forward c.each.work.ends c.least_of-job.result)

pub each-smaller : goal.each-smaller
each-smaller t c =
    let shop = c.args.instance.now.shop in
    let job = c.least_of-job.result in
    let less = c.in_ok-branch.ensures.continues.no_longer in
    let same = c.in_ok-branch.ensures.continues.limit in
    let number = c.branch-alloc.new.work.makespan in
    let better = goal_of c.branch-alloc.new.work in
    below_less c.each.room.bounds (goal_of c.each.work) better job number shop.jobs (omega arith) (omega arith)
    (omega arith) (omega (arith, c.each.invariant.children.every)) (omega arith)

pub each-preserved : goal.each-preserved
each-preserved t c =
    let shop = c.args.instance.now.shop in
    let ends = c.args.work.now.ends in
    let job = c.least_of-job.result in
    let forward = c.children_of-forward.result in
    let invariant = c.each.invariant in
    let searched = c.in_ok-branch.ensures in
    let inside : job < shop.jobs = omega arith in
    let outside = invariant.children.closed job inside (omega arith) in
    let back_again : c.take.new.ends ≡ c.each.work.ends =
    c.take.ensures ∙ ap (taken_of forward) (searched.ends ∙ c.put.ensures) ∙ taken_again forward c.each.work.ends job in
    let after : Work = record c.branch-alloc.new.work { ends = c.take.new.ends } in
    let goes : Continues shop c.each.work after =
    continues_at shop c.each.work after c.put.new.ends c.branch-alloc.new.work.ends searched.continues in
    let better = goal_less shop c.each.work after goes in
    let is = c.put.ensures ∙ ap (λ (e : Ends). put_of forward e job) invariant.ends in
    record {
      work = record {
        ends = subst (AreEnds shop.jobs) (sym back_again) invariant.work.ends;
        size = searched.work.size;
        room = searched.work.room;
        full = searched.work.full;
        exact = searched.work.exact;
        floor = searched.work.floor;
        table = searched.work.table;
        parts = searched.work.parts;
      };
      ends = back_again ∙ invariant.ends;
      continues = continues_on shop c.args.work.now c.each.work after invariant.continues goes;
      floor = searched.floor ∙ invariant.floor;
      left = let fewer = searched.continues.fewer in let less = invariant.left in omega arith;
      children = children_more shop ends forward c.each.room.bounds c.each.work after job after.makespan inside outside goes
          (omega arith) (subst (λ (e : Ends). Every shop (IsDone shop after) e.front.jobs e.back.jobs) is searched.done)
          invariant.children;
      entered =
          let (entered, are) = invariant.entered in
          let many = shop.jobs - (length ends.front.jobs + length ends.back.jobs) in
          let nodes : Ends → ℕ = λ e. most_nodes (shop.jobs - (length e.front.jobs + length e.back.jobs)) in
          let put = ap nodes is in
          let one = put_length forward ends job in
          let less : nodes (put_of forward ends job) ≡ most_nodes (many - 1) = ap most_nodes (omega arith) in
          let few = searched.few in
          let pairs : Ends → ℕ = λ e. most_more (shop.jobs - (length e.front.jobs + length e.back.jobs)) in
          let put_pairs = ap pairs is in
          let less_pairs : pairs (put_of forward ends job) ≡ most_more (many - 1) = ap most_more (omega arith) in
          let room = searched.room in (
            job ∷ entered,
            one_more shop.jobs many ends.front.jobs ends.back.jobs c.each.room.bounds entered (goal_of c.each.work)
                c.args.work.now.left c.each.work.left (length c.args.work.now.parts.items)
                (length c.each.work.parts.items) job are (goal_of after) after.left after.makespan
                (length after.parts.items) inside (omega (arith, invariant.children.every)) outside (omega arith) better
                (omega arith) (omega arith) (elim (cases_eq c.each.work.left 0) [
                  | inl none ↦ inl
                      (omega (arith, ap (λ (l : List Part). length l) (searched.unsearched none), length-append {A = Part}))
                  | inr some ↦ inr
                      (omega (arith, ap (λ (l : List Part). length l) (invariant.continues.parts (omega arith))))
                ]),
          );
    }
