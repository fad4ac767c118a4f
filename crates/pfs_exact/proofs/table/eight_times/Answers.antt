use Rattle.std.proofs.Common.{◌≡◌, ◌+◌, ◌<◌, [], ◌∷◌, get_or, ap, sym, ◌∙◌, arith}
use Rattle.pfs_base.specs.FlowShop.{time_of}
use Rattle.pfs_exact.proofs.Eight.{each_of_eight}
use Rattle.pfs_exact.proofs.table.eight_times.Goals as goal

pub returns : goal.returns
returns c = λ few.
    let shop = c.args.instance.now.shop in
    let first = c.args.first in
    let machine = c.args.machine in
    let none : first + 0 ≡ first = omega arith in
    let values = c.short_time.result ∷ c.short_time-2.result ∷ c.short_time-3.result ∷ c.short_time-4.result
    ∷ c.short_time-5.result ∷ c.short_time-6.result ∷ c.short_time-7.result ∷ c.short_time-8.result ∷ [] in
    each_of_eight (λ lane. first + lane < shop.jobs → get_or values lane 0 ≡ time_of shop (first + lane) machine)
    (λ inside. c.short_time.ensures few (omega arith) ∙ ap (λ j. time_of shop j machine) (sym none))
    (c.short_time-2.ensures few) (c.short_time-3.ensures few) (c.short_time-4.ensures few) (c.short_time-5.ensures few)
    (c.short_time-6.ensures few) (c.short_time-7.ensures few) (c.short_time-8.ensures few)
