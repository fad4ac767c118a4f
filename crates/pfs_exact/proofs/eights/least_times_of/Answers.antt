use Rattle.std.proofs.Common.{◌≡◌, ℕ, ◌∷◌, ◌<◌, ◌≤◌, replicate, get_or, sym, subst, arith}
use Rattle.std.proofs.lemmas.List.{get_or-replicate, length-append, length-replicate}
use Rattle.pfs_base.specs.FlowShop.{time_of}
use Rattle.pfs_exact.specs.declared.prove.TheConstants.{MOST_PROVED_MACHINES}
use Rattle.pfs_exact.specs.Private.Nodes.{IsOpen}
use Rattle.pfs_base.proofs.Published.Partly.{partly_none, partly_more}
use Rattle.pfs_exact.proofs.eights.least_times_of.Goals as goal

pub loop-machine-init : goal.loop-machine-init
loop-machine-init c = partly_none _ _ _ (omega (arith, c.requires.machines, length-replicate {A = ℕ} MOST_PROVED_MACHINES 0))

pub loop-machine-preserved : goal.loop-machine-preserved
loop-machine-preserved c =
    let shop = c.args.instance.now.shop in
    let ends = c.args.ends.now in
    partly_more (λ machine time. (job : ℕ) → job < shop.jobs → IsOpen ends.front.jobs ends.back.jobs job
    → time ≤ time_of shop job machine) shop.machines c.loop-machine.machine c.from.result (replicate MOST_PROVED_MACHINES 0)
    c.loop-machine.least (omega arith) c.loop-machine.invariant
    (λ job small outside.
    let same = c.from.ensures in
    let less = c.least_on.ensures job small (c.requires.shut job small outside) in
    omega arith)

pub returns-after-loop-machine : goal.returns-after-loop-machine
returns-after-loop-machine c = λ machine small.
    let front = c.args.ends.now.front.jobs in
    let back = c.args.ends.now.back.jobs in
    record {
      one = λ job full. let long = length-append front (job ∷ back) in let all = full.full in absurd (omega arith);
      every = c.loop-machine.invariant.done machine (omega arith);
    }

pub returns-else-len-jobs : goal.returns-else-len-jobs
returns-else-len-jobs c = λ machine small.
    let none : get_or (replicate MOST_PROVED_MACHINES 0) machine 0 ≡ 0 =
    get_or-replicate MOST_PROVED_MACHINES machine 0 0 (omega arith) in
    record {
      one = λ job full. none;
      every = λ job within outside. subst (λ t. t ≤ time_of c.args.instance.now.shop job machine) (sym none) (omega arith);
    }
