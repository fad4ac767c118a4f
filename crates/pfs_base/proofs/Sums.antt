-- The greatest sum of two rows, by chunks of four lanes and a rest.
use Rattle.std.proofs.Common.{◌≡◌, ℕ, zero, suc, ◌+◌, ◌*◌, ◌<◌, ◌≤◌, max, List, [], ◌∷◌, length, get_or, refl, ap, sym}
use Rattle.std.proofs.Common.{◌∙◌, arith}
use Rattle.std.proofs.Math.Nat.{suc-add}
use Rattle.std.specs.Simd.Lanes.{zip2, chunk}
use Rattle.pfs_base.specs.Joins.{greatest_join}
use Rattle.pfs_base.proofs.Published.Heaviest.{greatest-cons}

-- the sum at a place
abbrev pub sum_at : List ℕ → List ℕ → ℕ → ℕ
sum_at a b place = get_or a place 0 + get_or b place 0

-- the greatest of the sums before a place
abbrev pub most_to : List ℕ → List ℕ → ℕ → ℕ
most_to a b zero = 0
most_to a b (suc place) = max (most_to a b place) (sum_at a b place)

-- the greatest of the sums in one lane of the first chunks
abbrev pub lane_most : List ℕ → List ℕ → ℕ → ℕ → ℕ
lane_most a b zero lane = 0
lane_most a b (suc chunk) lane = max (lane_most a b chunk lane) (sum_at a b (4 * chunk + lane))

max_pairs : (p q w x : ℕ) → max (max p w) (max q x) ≡ max (max p q) (max w x)
max_pairs p q w x = omega arith

pub max_last : (m w x : ℕ) → max (max m w) x ≡ max m (max w x)
max_last m w x = omega arith

max_four : (p q r s w x y z : ℕ)
    → max (max (max p w) (max q x)) (max (max r y) (max s z)) ≡ max (max (max (max (max (max p q) (max r s)) w) x) y) z
max_four p q r s w x y z =
    let rows : ℕ = max (max p q) (max r s) in
    rw (max_pairs p q w x, max_pairs r s y z, max_pairs (max p q) (max r s) (max w x) (max y z))
    (sym (rw (max_last rows w x, max_last (max rows (max w x)) y z) (max_last rows (max w x) (max y z))))

-- the greatest of the four lanes is the greatest of all sums in these chunks
pub lanes_most : (a b : List ℕ) (chunks : ℕ) → let lane = lane_most a b chunks in
    max (max (lane 0) (lane 1)) (max (lane 2) (lane 3)) ≡ most_to a b (4 * chunks)
lanes_most a b zero = refl
lanes_most a b (suc chunks) =
    let start : ℕ = 4 * chunks in
    let lane = lane_most a b chunks in
    let end : 4 * suc chunks ≡ suc (suc (suc (suc start))) = omega arith in
    let sums = max_four (lane 0) (lane 1) (lane 2) (lane 3)
    (sum_at a b (start + 0)) (sum_at a b (start + 1)) (sum_at a b (start + 2)) (sum_at a b (start + 3)) in
    let zeroth : sum_at a b (start + 0) ≡ sum_at a b start = ap (sum_at a b) (omega arith) in
    let first : sum_at a b (start + 1) ≡ sum_at a b (suc start) = ap (sum_at a b) (omega arith) in
    let second : sum_at a b (start + 2) ≡ sum_at a b (suc (suc start)) = ap (sum_at a b) (omega arith) in
    let third : sum_at a b (start + 3) ≡ sum_at a b (suc (suc (suc start))) = ap (sum_at a b) (omega arith) in
    let two : ℕ = max (max (most_to a b start) (sum_at a b (start + 0))) (sum_at a b (start + 1)) in
    let four : most_to a b (suc (suc (suc (suc start))))
    ≡ max (max two (sum_at a b (start + 2))) (sum_at a b (start + 3)) = cc in
    sums ∙ rw (lanes_most a b chunks) (sym four) ∙ ap (most_to a b) (sym end)

-- the greatest sums in the four lanes of the first chunks, and four durations from a place on
abbrev pub lanes_at : List ℕ → List ℕ → ℕ → List ℕ
lanes_at a b chunks = let lane = lane_most a b chunks in lane 0 ∷ lane 1 ∷ lane 2 ∷ lane 3 ∷ []

abbrev pub four_at : List ℕ → ℕ → List ℕ
four_at row at = get_or row (at + 0) 0 ∷ get_or row (at + 1) 0 ∷ get_or row (at + 2) 0 ∷ get_or row (at + 3) 0 ∷ []

-- two lists of four elements that are equal one by one
pub four_same : {X : Type 0} {a b c d e f g h : X} → a ≡ e → b ≡ f → c ≡ g → d ≡ h
    → a ∷ b ∷ c ∷ d ∷ [] ≡ e ∷ f ∷ g ∷ h ∷ []
four_same p q r s = cc

-- the four durations of a chunk
pub chunk_four : (row : List ℕ) (at p q r s : ℕ) → at + 4 ≤ length row
    → chunk at 4 row ≡ get_or row at p ∷ get_or row (at + 1) q ∷ get_or row (at + 2) r ∷ get_or row (at + 3) s ∷ []
chunk_four [] zero p q r s le = absurd (omega arith)
chunk_four (w ∷ []) zero p q r s le = absurd (omega arith)
chunk_four (w ∷ x ∷ []) zero p q r s le = absurd (omega arith)
chunk_four (w ∷ x ∷ y ∷ []) zero p q r s le = absurd (omega arith)
chunk_four (w ∷ x ∷ y ∷ z ∷ row) zero p q r s le = refl
chunk_four [] (suc at) p q r s le = absurd (omega arith)
chunk_four (x ∷ row) (suc at) p q r s le =
    rw (suc-add at 1, suc-add at 2, suc-add at 3) (chunk_four row at p q r s (omega arith))

pub chunk_is : (row : List ℕ) (at : ℕ) → at + 4 ≤ length row → chunk at 4 row ≡ four_at row at
chunk_is row at le =
    let none : at ≡ at + 0 = omega arith in
    chunk_four row at 0 0 0 0 le ∙ ap (λ place. get_or row place 0 ∷ get_or row (at + 1) 0 ∷ get_or row (at + 2) 0
    ∷ get_or row (at + 3) 0 ∷ []) none

-- the greatest of the first sums of two rows, after a first duration in each
most_after : (x y : ℕ) (a b : List ℕ) (place : ℕ)
    → most_to (x ∷ a) (y ∷ b) (suc place) ≡ max (x + y) (most_to a b place)
most_after x y a b zero = omega arith
most_after x y a b (suc place) = let rest = most_after x y a b place in omega arith

-- the greatest of all sums is `greatest_join`
pub most_is : (a b : List ℕ) → length a ≡ length b → most_to a b (length a) ≡ greatest_join (λ n. n) a b
most_is [] b same = refl
most_is (x ∷ a) [] same = absurd (omega arith)
most_is (x ∷ a) (y ∷ b) same =
    most_after x y a b (length a) ∙ ap (max (x + y)) (most_is a b (omega arith))
    ∙ sym (greatest-cons (x + y) (zip2 (λ m n. m + n) a b))

-- the sum of what is read at a place within both rows
pub sum_read : (a b : List ℕ) (place p q : ℕ) → length a ≡ length b → place < length a
    → get_or a place p + get_or b place q ≡ sum_at a b place
sum_read [] b place p q same lt = absurd (omega arith)
sum_read (x ∷ a) [] place p q same lt = absurd (omega arith)
sum_read (x ∷ a) (y ∷ b) zero p q same lt = refl
sum_read (x ∷ a) (y ∷ b) (suc place) p q same lt = sum_read a b place p q (omega arith) (omega arith)

-- a limit of the greatest sum is a limit of each sum
pub sum_small : (a b : List ℕ) (limit place : ℕ) → length a ≡ length b → greatest_join (λ n. n) a b ≤ limit
    → place < length a → sum_at a b place ≤ limit
sum_small [] b limit place same small lt = absurd (omega arith)
sum_small (x ∷ a) [] limit place same small lt = absurd (omega arith)
sum_small (x ∷ a) (y ∷ b) limit zero same small lt =
    let first = greatest-cons (x + y) (zip2 (λ m n. m + n) a b) in omega arith
sum_small (x ∷ a) (y ∷ b) limit (suc place) same small lt =
    let first = greatest-cons (x + y) (zip2 (λ m n. m + n) a b) in
    sum_small a b limit place (omega arith) (omega arith) (omega arith)

-- a limit of the first sums is a limit of the greatest of them
pub most_small : (a b : List ℕ) (limit place : ℕ) → ((k : ℕ) → k < place → sum_at a b k ≤ limit)
    → most_to a b place ≤ limit
most_small a b limit zero small = omega arith
most_small a b limit (suc place) small =
    let rest = most_small a b limit place (λ k lt. small k (omega arith)) in
    let here = small place (omega arith) in
    omega arith

pub lane_small : (a b : List ℕ) (limit chunks lane : ℕ)
    → ((k : ℕ) → k < chunks → sum_at a b (4 * k + lane) ≤ limit) → lane_most a b chunks lane ≤ limit
lane_small a b limit zero lane small = omega arith
lane_small a b limit (suc chunks) lane small =
    let rest = lane_small a b limit chunks lane (λ k lt. small k (omega arith)) in
    let here = small chunks (omega arith) in
    omega arith

-- no sum is greater than twice a limit of the durations
pub join_small : (a b : List ℕ) (half : ℕ) → length a ≡ length b
    → ((place : ℕ) → place < length a → get_or a place 0 ≤ half)
    → ((place : ℕ) → place < length b → get_or b place 0 ≤ half) → greatest_join (λ n. n) a b ≤ half + half
join_small [] b half same one two = omega arith
join_small (x ∷ a) [] half same one two = absurd (omega arith)
join_small (x ∷ a) (y ∷ b) half same one two =
    let first = greatest-cons (x + y) (zip2 (λ m n. m + n) a b) in
    let p = one 0 (omega arith) in
    let q = two 0 (omega arith) in
    let rest = join_small a b half (omega arith) (λ place lt. one (suc place) (omega arith))
    (λ place lt. two (suc place) (omega arith)) in
    omega arith
