use Rattle.std.proofs.Common.{◌≡◌, ◌+◌, ◌-◌, get_or, ap, ◌∙◌, arith}
use Rattle.pfs_base.specs.Paths.{operation}
use Rattle.pfs_base.proofs.Published.Heads.{head}
use Rattle.pfs_batch.specs.Private.Lanes.{capped}
use Rattle.pfs_batch.specs.Private.Ends.{sequence_from, time_at, values_of}
use Rattle.pfs_batch.proofs.Heads.{next_heads, span_is, time_is}
use Rattle.pfs_batch.proofs.RowSteps.{read_as}
use Rattle.pfs_batch.proofs.spans.spans_of.Goals as goal

pub loop-place-init : goal.loop-place-init
loop-place-init c = record {
  long = c.clear.ensures.length;
  heads = λ shop lane p q lt machine inside.
      c.clear.ensures.zeros machine lane (omega (arith, c.requires.ends, c.requires.blocks)) lt;
}

pub starts_of-starts-requires-clause-firsts : goal.starts_of-starts-requires-clause-firsts
starts_of-starts-requires-clause-firsts c lane lt = omega (arith, c.requires.firsts lane lt, c.loop-place-test.true)

pub step_row-requires-clause-fits : goal.step_row-requires-clause-fits
step_row-requires-clause-fits c lane lt =
    let fits = c.requires.jobs lane c.loop-place.place lt c.loop-place-test.true in
    omega (arith, fits, c.starts_of-starts.ensures lane lt, c.loop-place.invariant.long, c.requires.ends)

pub loop-place-preserved : goal.loop-place-preserved
loop-place-preserved c =
    let at = c.loop-place in
    let here = at.place in
    let machines = c.args.machines in
    let rows = c.args.rows.now in
    let sequences = c.args.sequences.now in
    let len = c.args.len in
    let long = at.invariant.long in
    let wide = c.requires.blocks in
    let ends_long = c.requires.ends in
    let starts = c.starts_of-starts.result in
    record {
      long = c.step_row.ensures.length ∙ long;
      heads = λ shop lane p q lt.
          let first = get_or c.args.firsts.now lane 0 in
          next_heads (operation shop (sequence_from sequences len first)) lane machines here (values_of at.ends)
          (time_at rows starts) (values_of c.step_row.new.ends) lt (at.invariant.heads shop lane p q lt)
          (λ machine inside. ap (λ s. get_or rows (s + machine) 0) (c.starts_of-starts.ensures lane lt)
          ∙ time_is shop rows sequences machines len first p here machine q c.loop-place-test.true)
          (λ machine l inside l_lt. c.step_row.ensures.ends machine l (omega arith) l_lt);
    }

pub returns-clause-spans : goal.returns-clause-spans
returns-clause-spans c shop lane p q lt =
    let at = c.loop-place in
    let machines = c.args.machines in
    let len = c.args.len in
    let sequences = c.args.sequences.now in
    let first = get_or c.args.firsts.now lane 0 in
    let some = c.requires.machines.0 in
    let long = at.invariant.long in
    let wide = c.requires.blocks in
    let ends_long = c.requires.ends in
    let outside = c.loop-place-test.false in
    let last : at.place ≡ len = omega (arith, at.auto.place-end) in
    let value = read_as at.ends (machines - 1) c.index-ends-machines.result (omega arith) c.index-ends-machines.is in
    ap (λ v. get_or v lane 0) value
    ∙ at.invariant.heads shop lane p q lt (machines - 1) (omega arith)
    ∙ ap (λ k. capped (head (operation shop (sequence_from sequences len first)) k (machines - 1))) last
    ∙ ap capped (span_is shop c.args.rows.now sequences machines len first p (c.requires.firsts lane lt))
