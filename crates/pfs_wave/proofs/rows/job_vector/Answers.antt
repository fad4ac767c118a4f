use Rattle.std.proofs.Common.{ℕ, ◌≡◌, ◌+◌, ◌*◌, ◌≤◌, get_or, ap, ◌∙◌, subst, sym, arith}
use Rattle.pfs_base.specs.FlowShop.{time_of}
use Rattle.pfs_wave.specs.Private.Padded.{on_machine}
use Rattle.pfs_wave.proofs.RowCells.{lane_of_eight}
use Rattle.pfs_wave.proofs.SmallLanes.{eight_small, machine_small}
use Rattle.pfs_wave.proofs.rows.job_vector.Goals as goal

pub from_times-requires : goal.from_times-requires
from_times-requires g c =
    let cap = g.T.Stored.CAP in
    let shop = c.args.instance.now.shop in
    let small = λ (machine time : ℕ) (is : time ≡ on_machine shop (time_of shop c.args.job) machine).
    subst (λ t. t ≤ cap) (sym is) (machine_small shop c.args.job machine cap c.requires.short) in
    eight_small cap (small _ _ c.lane_time.ensures) (small _ _ c.lane_time-2.ensures) (small _ _ c.lane_time-3.ensures)
    (small _ _ c.lane_time-4.ensures) (small _ _ c.lane_time-5.ensures) (small _ _ c.lane_time-6.ensures)
    (small _ _ c.lane_time-7.ensures) (small _ _ c.lane_time-8.ensures)

pub returns : goal.returns
returns g c lane lt =
    let shop = c.args.instance.now.shop in
    let count = c.args.count in
    let k = c.args.k in
    let value = on_machine shop (time_of shop c.args.job) in
    let first : k ≡ 0 * count + k = omega arith in
    let second : count + k ≡ 1 * count + k = omega arith in
    ap (λ v. get_or v lane 0) c.from_times.ensures
    ∙ lane_of_eight (λ l. value (l * count + k)) (c.lane_time.ensures ∙ ap value first)
    (c.lane_time-2.ensures ∙ ap value second) c.lane_time-3.ensures c.lane_time-4.ensures c.lane_time-5.ensures
    c.lane_time-6.ensures c.lane_time-7.ensures c.lane_time-8.ensures lane lt
