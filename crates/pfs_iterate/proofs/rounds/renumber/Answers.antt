use Rattle.std.proofs.Common.{◌≡◌, ℕ, ◌<◌, ◌≤◌, ◌+◌, ◌++◌, ◌∷◌, [], leb, length, get_or, drop, map, take, inl, inr, sym, ap, ◌∙◌, add-zero}
use Rattle.std.proofs.Common.{List, arith}
use Rattle.std.proofs.lemmas.Bool.{cases_lt, le-leb, lt-leb}
use Rattle.std.proofs.lemmas.List.{drop-drop, drop-set-lt, get_or-drop, length-set, map_more, take_more_set}
use mir.Val.{bool_byte}
use Rattle.pfs_iterate.specs.Private.Steps.{renumbered}
use Rattle.pfs_iterate.proofs.rounds.renumber.Goals as goal

one_more : (one job : ℕ) → job + bool_byte (leb one job) ≡ renumbered one job
one_more one job =
    elim (cases_lt job one) [
      | inl less ↦ rw (lt-leb one job less) (omega arith)
      | inr more ↦ rw (le-leb one job more) (omega arith)
    ]

at_most : (one job : ℕ) → bool_byte (leb one job) ≤ 1
at_most one job =
    elim (cases_lt job one) [
      | inl less ↦ rw (lt-leb one job less) (omega arith)
      | inr more ↦ rw (le-leb one job more) (omega arith)
    ]

-- a job of the list is the same as before until its turn
same_job : (now old : List ℕ) (i : ℕ) → drop i now ≡ drop i old → get_or now i 0 ≡ get_or old i 0
same_job now old i rest = rw add-zero at (sym (get_or-drop i now 0 0) ∙ ap (λ list. get_or list 0 0) rest ∙ get_or-drop i old 0 0)

pub overflow_add-jobs : goal.overflow_add-jobs
overflow_add-jobs c =
    let i = c.loop-index.index in
    let old = c.args.jobs.now in
    let now = c.loop-index.jobs in
    let few = c.requires i 0 c.loop-index-test.true in
    omega (
      arith,
      few,
      same_job now old i c.loop-index.invariant.rest,
      c.from.ensures,
      at_most c.args.one (get_or now i 0),
      c.ranges.count,
    )

pub loop-index-preserved : goal.loop-index-preserved
loop-index-preserved c =
    let i = c.loop-index.index in
    let old = c.args.jobs.now in
    let now = c.loop-index.jobs in
    let invariant = c.loop-index.invariant in
    let here : i < length now = omega arith in
    let small : i < length old = omega (arith, here, invariant.long) in
    let same = same_job now old i invariant.rest in
    let rest : drop (i + 1) now ≡ drop (i + 1) old =
    sym (drop-drop 1 i now) ∙ ap (drop 1) invariant.rest ∙ drop-drop 1 i old in
    let value = get_or now i 0 + c.from.result in
    let is : value ≡ renumbered c.args.one (get_or old i 0) =
    ap (λ n. get_or now i 0 + n) c.from.ensures ∙ one_more c.args.one (get_or now i 0) ∙ ap (renumbered c.args.one) same in
    record {
      done = rw (take_more_set now i value here, map_more (renumbered c.args.one) old i 0 small, invariant.done)
          (ap (λ job. map (renumbered c.args.one) (take i old) ++ job ∷ []) is);
      rest = drop-set-lt (i + 1) now i value (omega arith) ∙ rest;
      long = length-set now i value ∙ invariant.long;
    }
