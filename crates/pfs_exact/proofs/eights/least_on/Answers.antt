use Rattle.std.proofs.Common.{◌≡◌, ℕ, ◌+◌, ◌*◌, ◌/◌, ◌%◌, ◌<◌, get_or, inl, inr, ap, sym, subst, arith}
use Rattle.std.proofs.lemmas.Bool.{cases_eq}
use Rattle.pfs_base.specs.FlowShop.{time_of}
use Rattle.pfs_exact.proofs.Cells.{read_lane}
use Rattle.pfs_exact.proofs.eights.least_on.Goals as goal

pub loop-block-preserved : goal.loop-block-preserved
loop-block-preserved c = λ b lane less small inside unshut.
    let shop = c.args.instance.now.shop in
    let block = c.loop-block.block in
    let machine = c.args.machine in
    let here = c.loop-block-test.true in
    let lesser = c.min-least.ensures lane small in
    elim (cases_eq b block) [
      | inr other ↦ let before = c.loop-block.invariant b lane (omega arith) small inside unshut in omega arith
      | inl is ↦
          let same : 8 * b + lane ≡ 8 * block + lane = ap (λ x. 8 * x + lane) is in
          let open_here = ap (λ x. get_or c.args.shut.now x 0) same in
          let time_here = ap (λ x. time_of shop x machine) same in
          let closed = c.load-closed.ensures lane small in
          let greater = c.max.ensures lane small in
          let time = read_lane c.args.times.now (64 * block + machine) lane c.index-times-block.result (omega arith)
          c.index-times-block.is in
          let taken = c.requires.times block machine lane here c.requires.machine small (omega arith) in
          omega arith
    ]

pub returns : goal.returns
returns c = λ job inside unshut.
    let shop = c.args.instance.now.shop in
    let block : ℕ = job / 8 in
    let lane : ℕ = job % 8 in
    let same : 8 * block + lane ≡ job = omega arith in
    let small : lane < 8 = omega arith in
    let least = c.least.ensures lane small in
    let before = c.loop-block.invariant block lane (omega arith) small (omega arith)
    (subst (λ x. get_or c.args.shut.now x 0 ≡ 0) (sym same) unshut) in
    let time = ap (λ x. time_of shop x c.args.machine) same in
    omega arith
