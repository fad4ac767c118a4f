use Rattle.std.proofs.Common.{arith, length, ap, sym, ◌∙◌}
use Rattle.pfs_base.specs.Paths.{makespan}
use Rattle.pfs_order.specs.Sequence.{Sequence}
use Rattle.pfs_order.proofs.Published.Sequences.{length-le-size}
use Rattle.pfs_exact.proofs.GrownEnds.{ends_all}
use Rattle.pfs_exact.proofs.branch.finish.Goals as goal

pub span_of-span-requires-clause-few : goal.span_of-span-requires-clause-few
span_of-span-requires-clause-few c = omega (
  arith,
  length-le-size _ _ c.as_slice.ensures.sequence,
  ap length c.as_slice.ensures.value,
  c.join.ensures.size,
  c.requires.work.room,
)

pub returns-then-span-work-clause-work : goal.returns-then-span-work-clause-work
returns-then-span-work-clause-work c =
    let shop = c.args.instance.now.shop in
    let ends = c.args.work.now.ends in
    let is = c.requires.work in
    let copied = c.copy_from.ensures in
    record {
      ends = is.ends;
      size = ap (λ (s : Sequence). s.size) copied ∙ c.join.ensures.size ∙ is.room;
      room = c.join.ensures.size ∙ is.room;
      full = ap (λ (s : Sequence). length s.jobs) copied ∙ ap length c.join.ensures.jobs
          ∙ ends_all shop.jobs ends.front.jobs ends.back.jobs is.ends.sequence c.requires.all;
      exact = c.span_of-span.ensures ∙ ap (makespan shop) c.as_slice.ensures.value ∙ sym (ap (λ (s : Sequence). makespan shop s.jobs) copied);
      floor = is.floor;
      table = is.table;
      parts = is.parts;
    }
