use Rattle.std.proofs.Common.{◌≡◌, ◌<◌, ◌+◌, ◌++◌, ◌∙◌, true, length, get_or, remove, drop, rules, arith, ap, ap₂, sym}
use Rattle.std.proofs.Common.{append-nil}
use Rattle.std.proofs.lemmas.Grind.{common_steps}
use Rattle.std.proofs.lemmas.List.{at_drop_all, at_drop_more, take-append-drop}
use Rattle.std.proofs.lemmas.List.Edits.{length-remove}
use Rattle.std.proofs.lemmas.List.Elements.{All-push}
use Rattle.pfs_order.specs.Sequence.{Sequence}
use Rattle.pfs_search.specs.Greedy.{jobs_taken}
use Rattle.pfs_iterate.specs.Iterated.{is_free, left_among, movable}
use Rattle.pfs_search.proofs.Published.Taking.{taken_more}
use Rattle.pfs_iterate.proofs.Fronts.{take-remove}
use Rattle.pfs_iterate.proofs.Taking.{among, by_ranks, count_left, is_free_job, left_behind, place_within, ranks_left, staying_left, taken_behind}
use Rattle.pfs_iterate.proofs.destroy.take_jobs.Goals as goal

pub remove_at-job-requires : goal.remove_at-job-requires
remove_at-job-requires c =
    let held = c.args.held in
    let stay = c.args.stay.now in
    let jobs = c.loop-word.seq.jobs in
    let invariant = c.loop-word.invariant in
    let some : 0 < length (movable held stay jobs) =
    omega (arith, c.requires.few, invariant.count, invariant.free, c.loop-word-test.true) in
    let is = rw (invariant.ranks, invariant.count) at c.take_place-place.ensures.place
    ∙ sym (by_ranks held stay (get_or c.args.words.now c.loop-word.word-index 0) jobs some) in
    rw is (place_within held stay (get_or c.args.words.now c.loop-word.word-index 0) jobs some)

pub overflow_add-held : goal.overflow_add-held
overflow_add-held c =
    let held = c.args.held in
    let stay = c.args.stay.now in
    let jobs = c.loop-word.seq.jobs in
    let invariant = c.loop-word.invariant in
    let some : 0 < length (movable held stay jobs) =
    omega (arith, c.requires.few, invariant.count, invariant.free, c.loop-word-test.true) in
    let is = rw (invariant.ranks, invariant.count) at c.take_place-place.ensures.place
    ∙ sym (by_ranks held stay (get_or c.args.words.now c.loop-word.word-index 0) jobs some) in
    let within : held + c.take_place-place.result < length jobs =
    rw is (place_within held stay (get_or c.args.words.now c.loop-word.word-index 0) jobs some) in
    omega (arith, within, invariant.jobs, c.seq.ensures.accepted.few)

pub loop-word-preserved : goal.loop-word-preserved
loop-word-preserved c =
    let size = length c.args.order.now in
    let held = c.args.held in
    let stay = c.args.stay.now in
    let words = c.args.words.now in
    let i = c.loop-word.word-index in
    let word = get_or words i 0 in
    let done = c.loop-word.taken.items in
    let jobs = c.loop-word.seq.jobs in
    let invariant = c.loop-word.invariant in
    let some : 0 < length (movable held stay jobs) =
    omega (arith, c.requires.few, invariant.count, invariant.free, c.loop-word-test.true) in
    let place = held + among held stay word jobs some in
    let within : place < length jobs = place_within held stay word jobs some in
    let is = rw (invariant.ranks, invariant.count) at c.take_place-place.ensures.place
    ∙ sym (by_ranks held stay word jobs some) in
    let here : held + c.take_place-place.result ≡ place = ap (λ p. held + p) is in
    let left : c.remove_at-job.new.self.jobs ≡ remove jobs place =
    rw here at (ap (λ (s : Sequence). s.jobs) c.remove_at-job.ensures.rest) in
    let job = c.remove_at-job.result in
    let at : job ≡ get_or jobs place 0 = rw here at c.remove_at-job.ensures.job in
    let later = drop (i + 1) words in
    record {
      same_size = search rules;
      jobs = omega (arith, ap length left, length-remove jobs place within, invariant.jobs);
      count = rw left (omega (arith, count_left held stay word jobs some, invariant.count));
      free = omega (arith, some, invariant.count, invariant.free);
      taken = rw (c.push_reserved.ensures.items, left) (taken_behind held stay word jobs some done later job at
          ∙ sym (at_drop_more (λ ws. done ++ jobs_taken (movable held stay jobs) ws) words i 0 c.loop-word-test.true)
          ∙ invariant.taken);
      all_free = rw c.push_reserved.ensures.items (All-push (λ job. is_free stay job ≡ true) done job invariant.all_free
          (rw at (is_free_job held stay word jobs some)));
      left = rw left (left_behind held stay word jobs some later
          ∙ sym (at_drop_more (left_among (is_free stay) (drop held jobs)) words i 0 c.loop-word-test.true)
          ∙ invariant.left);
      front = rw left (take-remove held place jobs (omega arith) ∙ invariant.front);
      ranks = rw left (rw (invariant.ranks, invariant.count) at c.take_place-place.ensures.ranks
          ∙ sym (ranks_left held stay word jobs some));
      ranks_few = first_of (search rules, grind (arith, common_steps));
      staying = rw left (staying_left held stay word jobs some ∙ invariant.staying);
      together = rw (c.push_reserved.ensures.items, left) (taken_more size done jobs place job within at
          invariant.together);
      long = first_of (search rules, grind (arith, common_steps));
      capacity = first_of (search rules, grind (arith, common_steps));
    }

pub returns-clause-taken : goal.returns-clause-taken
returns-clause-taken c =
    let jobs = c.loop-word.seq.jobs in
    let done = c.loop-word.taken.items in
    rw append-nil at (sym (at_drop_all (λ ws. done ++ jobs_taken (movable c.args.held c.args.stay.now jobs) ws) c.args.words.now
    c.loop-word.word-index c.loop-word-test.false) ∙ c.loop-word.invariant.taken)

pub returns-clause-left : goal.returns-clause-left
returns-clause-left c =
    let jobs = c.loop-word.seq.jobs in
    let held = c.args.held in
    let behind = sym (at_drop_all (left_among (is_free c.args.stay.now) (drop held jobs)) c.args.words.now c.loop-word.word-index
    c.loop-word-test.false) ∙ c.loop-word.invariant.left in
    sym (take-append-drop held jobs) ∙ ap₂ (λ a b. a ++ b) c.loop-word.invariant.front behind
