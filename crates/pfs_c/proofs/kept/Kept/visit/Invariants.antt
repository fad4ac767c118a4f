use Rattle.std.proofs.Common.{◌≡◌}
use Rattle.pfs_base.specs.Paths.{makespan}
use Rattle.pfs_search.specs.Greedy.{passes_over}
use Rattle.pfs_c.proofs.kept.Kept.visit.Given as goal

abbrev pub invariant-loop-pass : goal.invariant-loop-pass
invariant-loop-pass l = record {
  shop : l.self ≡ l.fn.self;
  order : l.order ≡ passes_over l.fn.self l.list l._pass l.fn.order;
  span : l.span ≡ makespan l.fn.self l.order;
}
