use Rattle.std.proofs.Common.{◌≡◌, ℕ, ◌++◌, ap, ◌∙◌, refl, true, take as front, drop, filter}
use Rattle.pfs_order.specs.Sequence.{all_jobs}
use Rattle.std.proofs.lemmas.List.Elements.{filter_passes, recursion_from_All}
use Rattle.pfs_search.specs.Greedy.{jobs_taken}
use Rattle.pfs_iterate.specs.Iterated.{settled, is_free, left_among, movable}
use Rattle.pfs_iterate.proofs.Staying.{staying-settled, staying-put_all}
use Rattle.pfs_iterate.proofs.rounds.find.Goals as goal

pub returns-clause-order : goal.returns-clause-order
returns-clause-order c =
    let shop = c.args.instance.now.shop in
    let options = c.args.options.now in
    let held = options.held in
    let take = options.take in
    let stay = c.args.stay.now in
    let order = c.args.order.now in
    let words = c.args.words.now in
    let kept : c.improve_left.new.work.seq.jobs
    ≡ settled shop options c.list_jobs.new.list.items options.partial c.take_jobs.new.seq.jobs =
    c.improve_left.ensures.jobs
    ∙ ap (λ list. settled shop options list options.partial c.take_jobs.new.seq.jobs) c.as_slice-visits.ensures.value in
    let listed : c.list_jobs.new.list.items ≡ filter (is_free stay) (jobs_taken (all_jobs shop.jobs) (drop take words)) =
    rw (c.split_at.ensures.back, c.jobs.ensures.value) at c.list_jobs.ensures.list in
    let left : c.take_jobs.new.seq.jobs ≡ front held order ++ left_among (is_free stay) (drop held order) (front take words) =
    rw c.split_at.ensures.front at c.take_jobs.ensures.left in
    let removed : c.take_jobs.new.taken.items ≡ jobs_taken (movable held stay order) (front take words) =
    rw c.split_at.ensures.front at c.take_jobs.ensures.taken in
    rw (
      c.improve.ensures.jobs,
      c.insert_all-rebuilt.ensures.jobs,
      kept,
      left,
      c.as_slice-visits.ensures.value,
      c.as_slice.ensures.value,
      removed,
      listed,
    )
    refl

pub returns-clause-staying : goal.returns-clause-staying
returns-clause-staying c =
    let shop = c.args.instance.now.shop in
    let options = c.args.options.now in
    let stay = c.args.stay.now in
    let IsFree : ℕ → Type 0 = λ (job : ℕ). is_free stay job ≡ true in
    let list = c.list_jobs.new.list.items in
    let taken = c.take_jobs.new.taken.items in
    let left = c.take_jobs.new.seq.jobs in
    let kept : c.improve_left.new.work.seq.jobs
    ≡ settled shop options c.list_jobs.new.list.items options.partial c.take_jobs.new.seq.jobs =
    c.improve_left.ensures.jobs
    ∙ ap (λ list. settled shop options list options.partial c.take_jobs.new.seq.jobs) c.as_slice-visits.ensures.value in
    let listed = recursion_from_All IsFree list (rw c.list_jobs.ensures.list (filter_passes (is_free stay) _)) in
    let removed = recursion_from_All IsFree taken c.take_jobs.ensures.free in
    rw (
      c.improve.ensures.jobs,
      c.insert_all-rebuilt.ensures.jobs,
      kept,
      c.as_slice-visits.ensures.value,
      c.as_slice.ensures.value,
    )
    (staying-settled stay shop options list options.passes _ listed
    ∙ staying-put_all stay shop options _ taken removed
    ∙ staying-settled stay shop options list options.partial left listed
    ∙ c.take_jobs.ensures.staying)
