use Rattle.std.proofs.Common.{◌≡◌, ℕ, List, ◌<◌, ◌+◌, ◌*◌, ◌++◌, [], ◌∷◌, ◌∙◌, length, get_or, suc, sym, ap, inl, inr, suc-mul, add-one, arith}
use Rattle.std.proofs.lemmas.Bool.{cases_eq}
use Rattle.std.proofs.lemmas.List.{get_or-set_same, get_or-set_other}
use Rattle.std.proofs.Math.ListN.{length-set}
use Rattle.std.proofs.Math.Seq.{get_or-append_seam}
use Rattle.pfs_base.specs.FlowShop.{FlowShop, time_of}
use Rattle.pfs_base.specs.Heads.{head_of}
use Rattle.pfs_base.proofs.Published.HeadRows.{head_of-append, head_of_before_more, heads_fit, next_head}
use Rattle.pfs_iterate.specs.Private.Memory.{AreRows}
use Rattle.pfs_iterate.proofs.HeadRows.{row_index, rows_more}
use Rattle.pfs_iterate.proofs.heads.add_row.Goals as goal

-- the head above, in the row that the loop doesn't change
above_is : (shop : FlowShop) (jobs first rows : List ℕ) (job machine machines : ℕ) → AreRows shop jobs first
    → ((index : ℕ) → index < length jobs * shop.machines + shop.machines → get_or rows index 0 ≡ get_or first index 0)
    → machines ≡ shop.machines → machine < shop.machines
    → get_or rows (length jobs * machines + machine) 0 ≡ head_of shop (jobs ++ job ∷ []) (length jobs) machine
above_is shop jobs first rows job machine machines are kept all lt =
    rw all (kept (length jobs * shop.machines + machine)
    (row_index (length jobs) (length jobs) machine shop.machines (omega arith) lt)
    ∙ are.each (length jobs) machine (omega arith) lt
    ∙ sym (head_of-append shop jobs (length jobs) machine (job ∷ []) (omega arith)))

pub end_after-end-requires : goal.end_after-end-requires
end_after-end-requires c =
    let shop = c.args.instance.now.shop in
    let jobs = c.args.jobs.now in
    let at = c.loop-machine in
    let wide = c.machines-machines.ensures in
    let lt = rw wide.value at c.loop-machine-test.true in
    heads_fit shop wide.within (jobs ++ c.args.job ∷ []) (length jobs) (length jobs + 1) at.machine _ at.end
    (omega (arith, c.requires.few)) (omega arith) lt
    (above_is shop jobs c.args.rows.now at.rows c.args.job at.machine _ c.requires.rows at.invariant.kept wide.value lt)
    at.invariant.end

-- the head that a step of the loop computes
head_is : (c : goal.After-end_after-end) → c.end_after-end.result ≡ head_of c.args.instance.now.shop
    (c.args.jobs.now ++ c.args.job ∷ []) (length c.args.jobs.now + 1) c.loop-machine.machine
head_is c =
    let shop = c.args.instance.now.shop in
    let jobs = c.args.jobs.now in
    let at = c.loop-machine in
    let wide = c.machines-machines.ensures.value in
    let lt = rw wide at c.loop-machine-test.true in
    c.end_after-end.ensures
    ∙ next_head shop (jobs ++ c.args.job ∷ []) (length jobs) (length jobs + 1) at.machine _ at.end _ (omega arith)
    (above_is shop jobs c.args.rows.now at.rows c.args.job at.machine _ c.requires.rows at.invariant.kept wide lt)
    at.invariant.end
    (c.times_of-times.ensures.each at.machine lt
    ∙ ap (λ j. time_of shop j at.machine) (sym (get_or-append_seam jobs c.args.job [] 0)))

pub loop-machine-preserved : goal.loop-machine-preserved
loop-machine-preserved c =
    let shop = c.args.instance.now.shop in
    let jobs = c.args.jobs.now in
    let rows = c.loop-machine.rows in
    let machine = c.loop-machine.machine in
    let invariant = c.loop-machine.invariant in
    let machines = c.machines-machines.ensures.value in
    let lt : machine < shop.machines = omega (arith, machines, c.loop-machine-test.true) in
    let next = length jobs * shop.machines + shop.machines in
    let at = next + machine in
    let new = c.end_after-end.result in
    let below = row_index (suc (length jobs)) shop.jobs machine shop.machines c.requires.few lt in
    let inside : at < length rows = omega (
      arith,
      below,
      suc-mul (length jobs) shop.machines,
      suc-mul shop.jobs shop.machines,
      invariant.long,
      c.requires.rows.long,
      add-one shop.jobs,
    ) in
    rw machines (record {
      kept = λ index before. get_or-set_other rows at index new 0 (λ same. absurd (omega arith)) ∙ invariant.kept index before;
      done = λ k before. elim (cases_eq k machine) [
        | inl here ↦ rw here (get_or-set_same rows at new 0 inside ∙ head_is c)
        | inr other ↦ get_or-set_other rows at (next + k) new 0 (λ same. other (omega arith))
            ∙ invariant.done k (omega (arith, other))
      ];
      long = length-set rows at new ∙ invariant.long;
      end = head_is c ∙ sym (head_of_before_more shop (jobs ++ c.args.job ∷ []) (length jobs + 1) machine);
    })

pub returns : goal.returns
returns c =
    let invariant = c.loop-machine.invariant in
    rows_more c.args.instance.now.shop c.args.jobs.now c.args.rows.now c.requires.rows c.loop-machine.rows c.args.job
    c.requires.job c.requires.few invariant.long invariant.kept
    (λ k lt. invariant.done k (omega (arith, c.machines-machines.ensures.value, c.loop-machine-test.false)))
