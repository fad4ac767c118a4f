use Rattle.std.proofs.Common.{◌≡◌, ◌+◌, ◌-◌, ◌*◌, ◌<◌, min, get_or, ap, sym, ◌∙◌, arith}
use Rattle.std.proofs.Math.Nat.{mul-le-mul_right}
use Rattle.pfs_base.specs.FlowShop.{FlowShop}
use Rattle.pfs_base.specs.Paths.{makespan}
use Rattle.pfs_batch.specs.Private.Lanes.{capped}
use Rattle.pfs_batch.specs.Private.Ends.{sequence_from}
use Rattle.pfs_batch.proofs.Sequences.{job_below, place_within, taken_same}
use Rattle.pfs_batch.proofs.batch.Batch.spans.Goals as goal

pub spans_of-spans-requires-clause-firsts : goal.spans_of-spans-requires-clause-firsts
spans_of-spans-requires-clause-firsts c lane lt =
    let some = c.requires.count.0 in
    let index = c.args.first + min lane (c.args.count - 1) in
    let fits = place_within c.args.sequences.now c.args.len (c.args.first + c.args.count) index (omega arith) c.requires.room in
    omega (arith, fits, c.firsts_of-firsts.ensures lane lt)

pub spans_of-spans-requires-clause-jobs : goal.spans_of-spans-requires-clause-jobs
spans_of-spans-requires-clause-jobs c lane place lt place_lt =
    let some = c.requires.count.0 in
    let index = c.args.first + min lane (c.args.count - 1) in
    let within : index < c.args.first + c.args.count = omega arith in
    let jobs = ap (λ (s : FlowShop). s.jobs) c.self.view_is in
    let job = get_or c.args.sequences.now (index * c.args.len + place) 0 in
    let small = job_below c.args.sequences.now c.args.len (c.args.first + c.args.count) index within c.requires.room
    c.args.self.now.jobs place place_lt (c.requires.jobs index within) in
    let below : job < c.self.inside.jobs = omega (arith, small, jobs) in
    let first = c.firsts_of-firsts.ensures lane lt in
    let less = mul-le-mul_right c.self.inside.machines below in
    rw first (omega (arith, less, jobs, c.self.invariant.rows, c.deref.ensures.len))

pub returns-clause-spans : goal.returns-clause-spans
returns-clause-spans c lane lt =
    let shop = c.args.self.now in
    let few = c.requires.count.1 in
    let sequences = c.args.sequences.now in
    let first = c.firsts_of-firsts.ensures lane (omega arith) in
    let here : (c.args.first + min lane (c.args.count - 1)) * c.args.len ≡ (c.args.first + lane) * c.args.len =
    ap (λ i. (c.args.first + i) * c.args.len) (omega arith) in
    c.spans_of-spans.ensures.spans shop lane (sym (ap (λ (s : FlowShop). s.machines) c.self.view_is))
    (λ at. ap (λ (s : FlowShop). get_or s.times at 0) (sym c.self.view_is)
    ∙ taken_same c.self.inside.rows.items (c.self.inside.jobs * c.self.inside.machines) (omega (arith, c.self.invariant.rows))
    c.self.invariant.rest at ∙ ap (λ rows. get_or rows at 0) (sym c.deref.ensures.value)) (omega arith)
    ∙ ap (λ f. capped (makespan shop (sequence_from sequences c.args.len f))) (first ∙ here)
