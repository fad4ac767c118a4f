use Rattle.std.proofs.Common.{◌≡◌, ℕ, suc, ◌+◌, ◌-◌, ◌<◌, ◌≤◌, ◌++◌, ◌∷◌, [], List, length, get_or, drop, map, reverse, take, vec_len, ◌%◌, ap, sym, ◌∙◌, arith, rules}
use Rattle.std.specs.List.{All}
use Rattle.std.proofs.lemmas.Grind.{common_steps}
use Rattle.std.proofs.lemmas.List.{drop_more, length-append, length-drop, length-map}
use Rattle.pfs_order.specs.Sequence.{all_jobs}
use Rattle.pfs_search.specs.Greedy.{jobs_taken}
use Rattle.pfs_iterate.specs.Private.Steps.{renumbered}
use Rattle.pfs_iterate.proofs.Listing.{reverse_more, reversed_small, taken_first}
use Rattle.pfs_iterate.proofs.rounds.list_jobs.Goals as goal

pub renumber-requires : goal.renumber-requires
renumber-requires c =
    let size = c.args.size in
    let words = c.args.words.now in
    let left = length words - c.loop-done.done in
    let few : length (drop left words) ≤ size - left = omega (arith, length-drop left words, c.requires.few) in
    let same : c.as_mut_slice.result.now ≡ reverse (jobs_taken (all_jobs (size - left)) (drop left words)) =
    c.as_mut_slice.ensures.value ∙ c.loop-done.invariant.items in
    let all : All (λ job. job < size - left) c.as_mut_slice.result.now =
    rw same (reversed_small (size - left) (drop left words) few) in
    λ k d within. omega (arith, all k d within, c.loop-done-test.true, c.requires.few)

-- a slice of all items, written back
whole : (n : ℕ) (xs ys : List ℕ) → length xs ≡ n → length ys ≡ n → take n (xs ++ drop (length xs) ys) ≡ xs
whole n xs ys long same = grind (arith, common_steps)

pub loop-done-preserved : goal.loop-done-preserved
loop-done-preserved c =
    let size = c.args.size in
    let words = c.args.words.now in
    let done = c.loop-done.done in
    let before = c.loop-done.list.items in
    let place = length words - 1 - done in
    let left = length words - done in
    let rest = drop left words in
    let word = get_or words place 0 in
    let job = word % (size - place) in
    let same : c.as_mut_slice.result.now ≡ before = c.as_mut_slice.ensures.value in
    let moved : c.renumber.new.jobs ≡ map (renumbered job) before = c.renumber.ensures.jobs ∙ ap (map (renumbered job)) same in
    let many : length c.renumber.new.jobs ≡ length before = ap length moved ∙ length-map before (renumbered job) in
    let all : length before ≡ vec_len c.loop-done.list = sym (ap length same) ∙ c.as_mut_slice.ensures.len in
    let pushed : c.push_reserved.new.self.items ≡ map (renumbered job) before ++ job ∷ [] =
    c.push_reserved.ensures.items
    ∙ ap (λ list. list ++ job ∷ []) (whole (vec_len c.loop-done.list) c.renumber.new.jobs before (many ∙ all) all ∙ moved) in
    let few : length rest ≤ size - left = omega (arith, length-drop left words, c.requires.few) in
    let at : drop place words ≡ word ∷ rest =
    rw (drop_more words place 0 (omega arith)) (ap (λ n. word ∷ drop n words) (omega (arith, c.loop-done-test.true))) in
    let one : size - place ≡ suc (size - left) = omega (arith, c.loop-done-test.true, c.requires.few) in
    let last : length words - (done + 1) ≡ place = omega arith in
    let first : reverse (jobs_taken (all_jobs (size - place)) (drop place words)) ≡ map (renumbered job) before ++ job ∷ [] =
    rw (at, one, c.loop-done.invariant.items) (ap reverse (taken_first (size - left) word rest few)
    ∙ reverse_more (renumbered (word % suc (size - left))) (word % suc (size - left)) (jobs_taken (all_jobs (size - left)) rest)) in
    record {
      items = pushed ∙ rw last (sym first);
      long = ap length pushed ∙ omega (
        arith,
        length-append (map (renumbered job) before) (job ∷ []),
        length-map before (renumbered job),
        c.loop-done.invariant.long,
      );
      room = search rules;
    }
