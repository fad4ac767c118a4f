-- The numbers of a line, one by one.
use Rattle.std.proofs.Common.{◌≡◌, ◌≢◌, ℕ, zero, suc, ◌+◌, ◌<◌, List, [], ◌∷◌, ◌++◌, length, take, drop, decimal}
use Rattle.std.proofs.Common.{get_or, refl, sym, ◌∙◌, ap, arith, append_assoc, append-nil, take-append-drop}
use Rattle.std.specs.List.{flat_map}
use Rattle.std.proofs.lemmas.List.{take_more, length-take-le}
use Rattle.pfs_base.proofs.Published.SendsOn.{GoesOn}
use Rattle.pfs_base.specs.Text.{with_line_end, spaced, entry}

-- numbers that follow another one, each after a space
abbrev pub spaced_rest : List ℕ → List ℕ
spaced_rest ns = flat_map (λ n. 32 ∷ decimal n) ns

-- the numbers of two lists on one line, with a space before each of the second
pub spaced-append : (n : ℕ) (ns ms : List ℕ) → spaced ((n ∷ ns) ++ ms) ≡ spaced (n ∷ ns) ++ spaced_rest ms
spaced-append n [] [] = sym (append-nil (decimal n))
spaced-append n [] (m ∷ ms) = ap (λ l. decimal n ++ 32 ∷ l) (spaced-append m [] ms)
spaced-append n (m ∷ ns) ms =
    ap (λ l. decimal n ++ 32 ∷ l) (spaced-append m ns ms)
    ∙ sym (append_assoc (decimal n) (32 ∷ spaced (m ∷ ns)) (spaced_rest ms))

-- a line with one more number
pub spaced-push : (ns : List ℕ) (n : ℕ) → spaced (ns ++ n ∷ []) ≡ spaced ns ++ entry (length ns) n
spaced-push [] n = refl
spaced-push (m ∷ ns) n = spaced-append m ns (n ∷ []) ∙ ap (λ l. spaced (m ∷ ns) ++ 32 ∷ l) (append-nil (decimal n))

-- the numbers before a place, and the one at the place
pub spaced-more : (ns : List ℕ) (place : ℕ) → place < length ns
    → spaced (take (place + 1) ns) ≡ spaced (take place ns) ++ entry place (get_or ns place 0)
spaced-more ns place less =
    ap spaced (take_more ns place 0 less) ∙ spaced-push (take place ns) (get_or ns place 0)
    ∙ ap (λ k. spaced (take place ns) ++ entry k (get_or ns place 0)) (length-take-le place ns (omega arith))

-- a line of two lists begins with the numbers of the first
spaced_front : (ns ms : List ℕ) → 0 < length ns → (rest : List ℕ) × (spaced (ns ++ ms) ≡ spaced ns ++ rest)
spaced_front [] ms some = absurd (omega arith)
spaced_front (n ∷ ns) ms some = (spaced_rest ms, spaced-append n ns ms)

-- a line continues with the number at a place
pub line_on : (ns : List ℕ) (place : ℕ) → place < length ns
    → GoesOn (with_line_end (spaced ns)) (spaced (take place ns)) (entry place (get_or ns place 0))
    (spaced (take (place + 1) ns))
line_on ns place less =
    let begins =
    spaced_front (take (place + 1) ns) (drop (place + 1) ns)
    (omega (arith, length-take-le (place + 1) ns (omega arith))) in
    record {
      rest = begins.0 ++ 10 ∷ [];
      adds = spaced-more ns place less;
      whole =
          ap (λ l. with_line_end (spaced l)) (sym (take-append-drop (place + 1) ns)) ∙ ap with_line_end begins.1
          ∙ append_assoc (spaced (take (place + 1) ns)) begins.0 (10 ∷ []);
    }

pub entry_later : (place number : ℕ) → place ≢ 0 → entry place number ≡ 32 ∷ decimal number
entry_later zero number later = absurd (later refl)
entry_later (suc place) number later = refl
