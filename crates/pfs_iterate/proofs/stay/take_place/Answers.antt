use Rattle.std.proofs.Common.{◌≡◌, ◌<◌, ◌≤◌, ◌+◌, ◌-◌, ◌∷◌, [], length, get_or, drop, refl, sym, ap, ◌∙◌, add-zero, arith}
use Rattle.std.proofs.lemmas.Bool.{le-leb, lt-leb}
use Rattle.std.proofs.lemmas.List.{drop-drop, drop-set-lt, get_or-drop, length-set, take_more, take_more_set}
use Rattle.pfs_iterate.specs.Private.Steps.{before}
use Rattle.pfs_iterate.proofs.Ranks.{before_more, without_more}
use Rattle.pfs_iterate.proofs.stay.take_place.Goals as goal
use Rattle.pfs_iterate.proofs.stay.take_place.Goals.{then-ranks-index, else-ranks-index}

pub loop-index-preserved : goal.loop-index-preserved
loop-index-preserved c =
    let i = c.loop-index.index in
    let number = c.args.number in
    let old = c.args.ranks.now in
    let now = c.loop-index.ranks in
    let invariant = c.loop-index.invariant in
    let rank = get_or old i 0 in
    let here : i < length now = omega arith in
    let small : i < length old = omega (arith, here, invariant.long) in
    let same : get_or now i 0 ≡ rank = rw add-zero at (sym (get_or-drop i now 0 0)
    ∙ ap (λ list. get_or list 0 0) invariant.rest ∙ get_or-drop i old 0 0) in
    let rest : drop (i + 1) now ≡ drop (i + 1) old =
    sym (drop-drop 1 i now) ∙ ap (drop 1) invariant.rest ∙ drop-drop 1 i old in
    elim c.if-ranks-index.branch [
      | then-ranks-index w ↦
          let less : rank ≤ number = omega (arith, w.if-ranks-index.true, same) in
          let one : before number (rank ∷ []) ≡ 1 = rw (le-leb rank number less) refl in
          record {
            few = omega (arith, w.place-is, invariant.few);
            place = omega (arith, w.place-is, invariant.place, before_more number i old small, one);
            done = rw (
              w.ranks-is,
              take_more now i 0 here,
              without_more number i old small,
              invariant.done,
              same,
              le-leb rank number less,
            ) refl;
            rest = rw w.ranks-is rest;
            long = rw w.ranks-is invariant.long;
          }
      | else-ranks-index w ↦
          let more : number < rank = omega (arith, w.if-ranks-index.false, same) in
          let none : before number (rank ∷ []) ≡ 0 = rw (lt-leb rank number more) refl in
          record {
            few = omega (arith, w.place-is, invariant.few);
            place = omega (arith, w.place-is, invariant.place, before_more number i old small, none);
            done = rw (
              w.ranks-is,
              take_more_set now i (get_or now i 0 - 1) here,
              without_more number i old small,
              invariant.done,
              same,
              lt-leb rank number more,
            ) refl;
            rest = rw w.ranks-is (drop-set-lt (i + 1) now i (get_or now i 0 - 1) (omega arith) ∙ rest);
            long = ap length w.ranks-is ∙ length-set now i (get_or now i 0 - 1) ∙ invariant.long;
          }
    ]
