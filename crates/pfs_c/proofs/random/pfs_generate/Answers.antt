use Rattle.std.proofs.Common.{◌≡◌, ap, length, sym, ◌∙◌}
use Rattle.pfs_base.specs.Problem.{Problem}
use Rattle.pfs_layout.specs.Generator.{generated}
use Rattle.pfs_c.proofs.random.pfs_generate.Goals as goal

pub copy_from_slice-requires : goal.copy_from_slice-requires
unfolding generated
copy_from_slice-requires c =
    let jobs : c.in-Ok.instance.shop.jobs ≡ c.args.jobs = ap (λ (p : Problem). p.shop.jobs) c.in-Ok.ensures.drawn in
    let machines : c.in-Ok.instance.shop.machines ≡ c.args.machines =
    ap (λ (p : Problem). p.shop.machines) c.in-Ok.ensures.drawn in
    c.in-Ok.ensures.long
    ∙ sym (ap length c.times.ensures.value ∙ rw (jobs, machines) at c.times.ensures.within.every_time)
