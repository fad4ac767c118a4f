use Rattle.std.proofs.Common.{◌≡◌, ◌+◌, ◌-◌}
use Rattle.pfs_iterate.specs.Iterated.{after_rounds}
use Rattle.pfs_iterate.specs.Private.Keeping.{IsLater, IsReady, orders_of}
use Rattle.pfs_iterate.specs.Private.Steps.{generator}
use Rattle.pfs_iterate.proofs.iterated.Iterated.play.Given as goal

abbrev pub invariant-loop-done : goal.invariant-loop-done
invariant-loop-done l =
    let shop = l.instance.shop in
    let options = l.options in
    record {
      done : after_rounds shop options l.accept l.stay (options.first + l._done) (options.count - l._done) (orders_of l.self)
          ≡ after_rounds shop options l.accept l.stay options.first options.count (orders_of l.fn.self);
      ready : IsReady shop options l.stay l.self;
      later : IsLater options.held l.stay l.fn.self l.self;
      rng : l.rng ≡ generator options.seed (options.first + l._done) l.each;
    }
