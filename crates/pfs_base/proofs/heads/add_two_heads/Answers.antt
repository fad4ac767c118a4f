use Rattle.std.proofs.Common.{◌≡◌, ◌+◌, ◌∙◌, sym, refl, arith}
use Rattle.pfs_base.specs.Heads.{head_of}
use Rattle.pfs_base.proofs.Published.HeadRows.{head_of_before_more, heads_fit, next_head}
use Rattle.pfs_base.proofs.Published.Partly.{partly_more, partly_none}
use Rattle.pfs_base.proofs.heads.add_two_heads.Goals as goal

pub loop-machine-init : goal.loop-machine-init
loop-machine-init c = record {
  heads = partly_none _ _ _ c.requires.heads.every;
  before = refl;
  before_after = refl;
}

pub end_after-before-requires : goal.end_after-before-requires
end_after-before-requires c =
    let at = c.loop-machine in
    let wide = c.machines-machines.ensures in
    let lt = rw wide.value at c.loop-machine-test.true in
    heads_fit c.args.instance.now.shop wide.within c.args.sequence.now c.args.place (c.args.place + 1) at.machine _ at.before
    (omega (arith, c.requires.place, c.requires.few)) (omega arith) lt
    (at.invariant.heads.to_do at.machine (omega arith) ∙ c.requires.heads.values at.machine lt) at.invariant.before

pub end_after-before_after-requires : goal.end_after-before_after-requires
end_after-before_after-requires c =
    let at = c.loop-machine in
    let wide = c.machines-machines.ensures in
    let shop = c.args.instance.now.shop in
    let jobs = c.args.sequence.now in
    let place = c.args.place in
    let lt = rw wide.value at c.loop-machine-test.true in
    let first : c.end_after-before.result ≡ head_of shop jobs (place + 1) at.machine = c.end_after-before.ensures
    ∙ next_head shop jobs place (place + 1) at.machine _ at.before _ (omega arith)
    (at.invariant.heads.to_do at.machine (omega arith) ∙ c.requires.heads.values at.machine lt) at.invariant.before (c.times_of-times.ensures.each at.machine lt) in
    heads_fit shop wide.within jobs (place + 1) (place + 2) at.machine _ at.before_after
    (omega (arith, c.requires.place, c.requires.few)) (omega arith) lt first at.invariant.before_after

pub loop-machine-preserved : goal.loop-machine-preserved
loop-machine-preserved c =
    let at = c.loop-machine in
    let shop = c.args.instance.now.shop in
    let jobs = c.args.sequence.now in
    let place = c.args.place in
    let lt = rw c.machines-machines.ensures.value at c.loop-machine-test.true in
    let first : c.end_after-before.result ≡ head_of shop jobs (place + 1) at.machine = c.end_after-before.ensures
    ∙ next_head shop jobs place (place + 1) at.machine _ at.before _ (omega arith)
    (at.invariant.heads.to_do at.machine (omega arith) ∙ c.requires.heads.values at.machine lt) at.invariant.before (c.times_of-times.ensures.each at.machine lt) in
    let second : c.end_after-before_after.result ≡ head_of shop jobs (place + 2) at.machine = c.end_after-before_after.ensures
    ∙ next_head shop jobs (place + 1) (place + 2) at.machine _ at.before_after _ (omega arith) first
    at.invariant.before_after (c.times_of-times_after.ensures.each at.machine lt) in
    record {
      heads = partly_more (λ machine time. time ≡ head_of shop jobs (place + 2) machine) shop.machines at.machine _
          c.args.heads.now at.heads lt at.invariant.heads second;
      before = first ∙ sym (head_of_before_more shop jobs (place + 1) at.machine);
      before_after = second ∙ sym (head_of_before_more shop jobs (place + 2) at.machine);
    }

pub returns : goal.returns
returns c =
    let heads = c.loop-machine.invariant.heads in
    record {
      every = heads.every;
      values = λ machine lt. heads.done machine
          (omega (arith, lt, c.machines-machines.ensures.value, c.loop-machine-test.false));
    }
