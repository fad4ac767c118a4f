use Rattle.std.proofs.Common.{◌≡◌, ℕ, suc, ◌-◌, get_or, ap, subst, arith}
use Rattle.pfs_exact.specs.Private.Nodes.{IsLeast, IsRest, IsStart}
use Rattle.pfs_exact.proofs.Arrays.{each_set}
use Rattle.pfs_exact.proofs.MachineBounds.{start_on, rest_on}
use Rattle.pfs_exact.proofs.node.raise.Goals as goal

pub loop-machine-preserved : goal.loop-machine-preserved
loop-machine-preserved c =
    let shop = c.args.instance.now.shop in
    let front = c.args.ends.now.front.jobs in
    let back = c.args.ends.now.back.jobs in
    let machine = c.loop-machine.machine in
    let node = c.loop-machine.node in
    let invariant = c.loop-machine.invariant in
    let one = c.plus.ensures in
    let two = c.plus-in-loop-machine.ensures in
    let first = c.loop-machine.auto.machine in
    let before : suc (machine - 1) ≡ machine = omega arith in
    let start = subst (λ m. IsStart shop front back m c.plus.result) before
    (start_on shop front back (machine - 1) (get_or node.starts (machine - 1) 0) (get_or c.args.least.now (machine - 1) 0)
    c.plus.result (omega arith) (c.requires.least (machine - 1) (omega arith)).every
    (invariant.starts (machine - 1) (omega arith))) in
    let this : ℕ = shop.machines - 1 - machine in
    let after : shop.machines - 1 - (machine - 1) ≡ suc this = omega arith in
    let other : shop.machines - machine ≡ suc this = omega arith in
    let read = ap (λ m. get_or c.args.least.now (m - machine) 0) c.machines-machines.ensures.value in
    let rest = rest_on shop front back this (get_or node.rests (machine - 1) 0)
    (get_or c.args.least.now (shop.machines - machine) 0) c.plus-in-loop-machine.result (omega arith) c.requires.some
    (subst (λ m. IsLeast shop front back m (get_or c.args.least.now (shop.machines - machine) 0)) other
    (c.requires.least (shop.machines - machine) (omega arith)))
    (subst (λ m. IsRest shop front back m (get_or node.rests (machine - 1) 0)) after
    (invariant.rests (machine - 1) (omega arith))) in
    record {
      starts = each_set (IsStart shop front back) shop.machines machine c.max.result node.starts
          (λ job more full.
          let a = start job more full in
          let b = invariant.starts machine (omega arith) job more full in
          let is = c.max.ensures in
          omega arith) invariant.starts;
      rests = each_set (λ turn. IsRest shop front back (shop.machines - 1 - turn)) shop.machines machine
          c.max-in-loop-machine.result node.rests
          (λ middle full.
          let a = rest middle full in
          let b = invariant.rests machine (omega arith) middle full in
          let is = c.max-in-loop-machine.ensures in
          omega arith) invariant.rests;
      left = invariant.left;
    }
