use Rattle.std.proofs.Common.{◌≡◌, ℕ, ◌+◌, ◌-◌, ◌≤◌, length, ap, sym, ◌∙◌, refl, arith}
use Rattle.std.proofs.lemmas.List.{take-append-le, take-take, take_more_set}
use Rattle.rand_core.specs.Steps.{first_words}
use Rattle.rand_pcg.specs.Lcg.{Lcg, state_after}
use Rattle.rand_pcg.specs.Pcg.{pcg32}
use Rattle.pfs_search.proofs.Published.Words.{later, later-add}
use Rattle.pfs_iterate.proofs.Words.{later_more, words_more}
use Rattle.pfs_iterate.proofs.destroy.draw.Goals as goal

pub loop-place-init : goal.loop-place-init
unfolding first_words state_after
loop-place-init c = record {
  words = refl;
  rng = refl;
}

pub loop-place-preserved : goal.loop-place-preserved
loop-place-preserved c =
    let i = c.loop-place.place in
    let invariant = c.loop-place.invariant in
    let next = c.next_word.ensures ∙ ap pcg32 invariant.rng in
    record {
      words = rw (
        take_more_set c.loop-place.words i c.next_word.result (omega arith),
        words_more i c.args.rng.now,
        invariant.words,
        ap (λ (p : ℕ × Lcg). p.0) next,
      );
      rng = ap (λ (p : ℕ × Lcg). p.1) next ∙ sym (later_more i c.args.rng.now);
    }

pub returns-clause-words : goal.returns-clause-words
returns-clause-words c =
    let used = c.args.used in
    let all : c.loop-place.place ≡ used = omega (arith, c.loop-place-test.false, c.loop-place.auto.place-end) in
    let slice = c.as_mut_slice-words.ensures in
    let long : used ≤ length c.loop-place.words =
    omega (arith, c.requires.room, ap length slice.value, c.loop-place.auto.words) in
    take-take used c.args.list.now.len _ (omega (arith, c.requires.room, ap length slice.value, slice.len))
    ∙ take-append-le used c.loop-place.words _ long ∙ (rw all at c.loop-place.invariant.words)

pub returns-clause-rest : goal.returns-clause-rest
returns-clause-rest c =
    let rng = c.args.rng.now in
    let used = c.args.used in
    let end : c.loop-place.place ≡ used = omega (arith, c.loop-place-test.false, c.loop-place.auto.place-end) in
    let all : used + (c.args.each - used) ≡ c.args.each = omega (arith, c.requires.few) in
    c.advance.ensures ∙ ap (later (c.args.each - used)) (rw end at c.loop-place.invariant.rng)
    ∙ sym (later-add used (c.args.each - used) rng) ∙ ap (λ n. later n rng) all
