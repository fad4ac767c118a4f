-- Whether a list is another one with some members left out, found from the front.
use Rattle.std.proofs.Common.{◌≡◌, ◌≢◌, ℕ, zero, suc, ◌+◌, ◌-◌, ◌<◌, ◌≤◌, ◌↔◌, List, [], ◌∷◌, length, take, drop}
use Rattle.std.proofs.Common.{get_or, arith, refl, ap, sym, ◌∙◌, subst, subst₂, add-one}
use Rattle.std.proofs.Common.{take_all, length-take, length-drop}
use Rattle.pfs_wave.specs.Parts.{IsPart, empty, same, left_out}

-- without its first member, a part is still a part
pub part_rest : {first : ℕ} {part whole : List ℕ} → IsPart (first ∷ part) whole → IsPart part whole
part_rest (same is) = left_out is
part_rest (left_out is) = left_out (part_rest is)

-- a part is no longer than the whole
pub part_len : {part whole : List ℕ} → IsPart part whole → length part ≤ length whole
part_len empty = omega arith
part_len (same is) = let rest = part_len is in omega arith
part_len (left_out is) = let rest = part_len is in omega arith

-- a part that is as long as the whole is the whole
pub part_whole : {part whole : List ℕ} → IsPart part whole → length part ≡ length whole → part ≡ whole
part_whole {whole = []} empty as_long = refl
part_whole {whole = first ∷ whole} empty as_long = absurd (omega arith)
part_whole (same {first} is) as_long = ap (λ rest. first ∷ rest) (part_whole is (omega arith))
part_whole (left_out is) as_long = let shorter = part_len is in absurd (omega arith)

-- without both first members, the part is still a part of the whole
pub part_rests : {first other : ℕ} {part whole : List ℕ} → IsPart (first ∷ part) (other ∷ whole) → IsPart part whole
part_rests (same is) = is
part_rests (left_out is) = part_rest is

-- where the first members differ, that of the whole is left out
pub part_left_out : {first other : ℕ} {part whole : List ℕ} → first ≢ other → IsPart (first ∷ part) (other ∷ whole)
    → IsPart (first ∷ part) whole
part_left_out differ (same is) = absurd (differ refl)
part_left_out differ (left_out is) = is

-- the rows before a row are the same
abbrev pub AreSame : List ℕ → List ℕ → ℕ → Type 0
AreSame part whole count = (row : ℕ) → row < count → get_or part row 0 ≡ get_or whole row 0

-- a list that is at the front of another is a part of it
pub front_part : (part whole : List ℕ) → length part ≤ length whole → AreSame part whole (length part)
    → IsPart part whole
front_part [] whole le are = empty
front_part (x ∷ part) [] le are = absurd (omega arith)
front_part (x ∷ part) (y ∷ whole) le are =
    subst (λ first. IsPart (x ∷ part) (first ∷ whole)) (are 0 (omega arith))
    (same (front_part part whole (omega arith) (λ row lt. are (suc row) (omega arith))))

-- where `count` members are the same and the next ones differ, all these are left out, but for the part's next one
pub after_front : (part whole : List ℕ) (count : ℕ) → count < length part → count < length whole
    → AreSame part whole count → get_or part count 0 ≢ get_or whole count 0
    → IsPart (drop count part) (drop (suc count) whole) ↔ IsPart part whole
after_front [] whole count some more are differ = absurd (omega arith)
after_front (x ∷ part) [] count some more are differ = absurd (omega arith)
after_front (x ∷ part) (y ∷ whole) zero some more are differ = (λ is. left_out is, λ is. part_left_out differ is)
after_front (x ∷ part) (y ∷ whole) (suc count) some more are differ =
    let before : AreSame part whole count = λ row lt. are (suc row) (omega arith) in
    let rest = after_front part whole count (omega arith) (omega arith) before differ in
    let first : x ≡ y = are 0 (omega arith) in (
      λ is. subst (λ a. IsPart (x ∷ part) (a ∷ whole)) first (same (rest.0 is)),
      λ is. rest.1 (part_rests is),
    )

-- the same for the slices from these rows on
pub after_front_slices : (part whole : List ℕ) (count : ℕ) → count < length part → count < length whole
    → AreSame part whole count → get_or part count 0 ≢ get_or whole count 0
    → IsPart (take (length part - count) (drop count part))
    (take (length whole - (count + 1)) (drop (count + 1) whole)) ↔ IsPart part whole
after_front_slices part whole count some more are differ =
    let one = add-one count in
    let few = length-drop count part in
    let less = length-drop (count + 1) whole in
    let part_is = take_all (length part - count) (drop count part) (omega arith) in
    let whole_is = take_all (length whole - (count + 1)) (drop (count + 1) whole) (omega arith)
    ∙ ap (λ n. drop n whole) one in
    subst₂ (λ p w. IsPart p w ↔ IsPart part whole) (sym part_is) (sym whole_is)
    (after_front part whole count some more are differ)

-- a slice from a row on is no longer than the list
pub slice_len : (list : List ℕ) (count : ℕ) → length (take (length list - count) (drop count list)) ≤ length list
slice_len list count =
    let taken = length-take (length list - count) (drop count list) in
    let left = length-drop count list in
    omega arith
