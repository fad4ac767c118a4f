use Rattle.std.proofs.Common.{◌≡◌, ℕ, ◌+◌, List, [], get_or, length, ap, ◌∙◌}
use Rattle.pfs_batch.specs.Private.Lanes.{column}
use Rattle.pfs_batch.proofs.Eight.{each_of_eight, eight_at}
use Rattle.pfs_batch.proofs.transpose.eight_of.Goals as goal

pub returns-clause-times : goal.returns-clause-times
returns-clause-times c k lane k_lt lane_lt =
    let now = column c.load-a.result c.load-b.result c.load-c.result c.load-d.result c.load-e.result c.load-f.result
    c.load-g.result c.load-h.result in
    ap (λ (l : List (List ℕ)). get_or (get_or l k []) lane 0) c.transposed.ensures
    ∙ ap (λ (l : List ℕ). get_or l lane 0) (eight_at now [] k k_lt)
    ∙ each_of_eight (λ j. get_or (now k) j 0
    ≡ get_or c.args.rows.now (get_or c.args.starts.now j 0 + c.args.first + k) 0)
    (c.load-a.ensures.each k k_lt) (c.load-b.ensures.each k k_lt) (c.load-c.ensures.each k k_lt)
    (c.load-d.ensures.each k k_lt) (c.load-e.ensures.each k k_lt) (c.load-f.ensures.each k k_lt)
    (c.load-g.ensures.each k k_lt) (c.load-h.ensures.each k k_lt) lane lane_lt

pub returns-clause-lengths : goal.returns-clause-lengths
returns-clause-lengths c k k_lt =
    let now = column c.load-a.result c.load-b.result c.load-c.result c.load-d.result c.load-e.result c.load-f.result
    c.load-g.result c.load-h.result in
    ap (λ (l : List (List ℕ)). length (get_or l k [])) c.transposed.ensures
    ∙ ap (λ (l : List ℕ). length l) (eight_at now [] k k_lt)
