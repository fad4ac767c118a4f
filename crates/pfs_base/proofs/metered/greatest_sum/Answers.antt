use Rattle.std.proofs.Common.{◌≡◌, ℕ, ◌+◌, ◌-◌, ◌*◌, ◌%◌, ◌<◌, ◌≤◌, max, List, length, map, refl, ap}
use Rattle.std.proofs.Common.{sym, add-one, ◌∙◌, arith, ℤ, to_z, of_z}
use Rattle.std.specs.Int.{w64}
use Rattle.pfs_base.specs.declared.bench.TheConstants.{SPAN_MAX}
use Rattle.std.specs.Simd.Lanes.{chunk}
use Rattle.std.proofs.lemmas.Int.{of_z-to_z}
use Rattle.pfs_base.specs.Paths.{greatest}
use Rattle.pfs_base.specs.Joins.{greatest_join}
use Rattle.pfs_base.proofs.Sums.{sum_at, most_to, lane_most, lanes_most, lanes_at, four_same, chunk_is, sum_read}
use Rattle.pfs_base.proofs.Sums.{most_is}
use Rattle.pfs_base.proofs.Sums.{sum_small, most_small, lane_small}
use Rattle.pfs_base.proofs.Lanes.{raised, raised_is, greatest_four}
use Rattle.pfs_base.proofs.metered.greatest_sum.Goals as goal

pub loop-chunk-init : goal.loop-chunk-init
loop-chunk-init c = record { lanes_are = refl }

raised_same : {l k : List ℕ} {p q x y : List ℤ} → l ≡ k → p ≡ q → x ≡ y → raised l p x ≡ raised k q y
raised_same e f g = cc

-- the lanes after one more chunk
one_more : (a b : List ℕ) (at : ℕ) → length a ≡ length b
    → ((place : ℕ) → place < length a → sum_at a b place ≤ SPAN_MAX) → 4 * at + 4 ≤ length a
    → raised (lanes_at a b at) (map (to_z w64) (chunk (4 * at) 4 a)) (map (to_z w64) (chunk (4 * at) 4 b))
    ≡ lanes_at a b (at + 1)
one_more a b at same small le =
    let one = ap (map (to_z w64)) (chunk_is a (4 * at) le) in
    let two = ap (map (to_z w64)) (chunk_is b (4 * at) (omega arith)) in
    let lane = λ (k : ℕ) (lt : k < 4). lane_small a b SPAN_MAX at k (λ c less. small (4 * c + k) (omega arith)) in
    raised_same {l = lanes_at a b at} refl one two
    ∙ raised_is _ _ _ _ _ _ _ _ _ _ _ _
    (lane 0 (omega arith)) (lane 1 (omega arith)) (lane 2 (omega arith)) (lane 3 (omega arith))
    (small (4 * at + 0) (omega arith)) (small (4 * at + 1) (omega arith))
    (small (4 * at + 2) (omega arith)) (small (4 * at + 3) (omega arith))
    ∙ ap (lanes_at a b) (sym (add-one at))

pub loop-chunk-preserved : goal.loop-chunk-preserved
loop-chunk-preserved c =
    let a = c.args.a.now in
    let b = c.args.b.now in
    let at = c.loop-chunk.chunk in
    let same = c.requires.equal in
    let inside = c.loop-chunk-test.true in
    record {
      lanes_are =
          raised_same c.loop-chunk.invariant.lanes_are c.lanes_of.ensures c.lanes_of-in-loop-chunk.ensures
          ∙ one_more a b at same (λ place lt. sum_small a b SPAN_MAX place same c.requires.in_limit lt) (omega arith);
    }

-- after the last chunk
module _ (a b : List ℕ) (same : length a ≡ length b) (small : greatest_join (λ n. n) a b ≤ SPAN_MAX) where
  each_small : (place : ℕ) → place < length a → sum_at a b place ≤ SPAN_MAX
  each_small place lt = sum_small a b SPAN_MAX place same small lt

  first_small : (place : ℕ) → place ≤ length a → most_to a b place ≤ SPAN_MAX
  first_small place le = most_small a b SPAN_MAX place (λ k lt. each_small k (omega arith))

  lanes_known : (whole : ℕ) (lanes : List ℕ) → 4 * whole ≤ length a → lanes ≡ lanes_at a b whole
      → greatest (map (of_z w64) (map (to_z w64) lanes)) ≡ most_to a b (4 * whole)
  lanes_known whole lanes within known =
      let lane = lane_most a b whole in
      let small =
      λ (k : ℕ) (lt : k < 4). lane_small a b SPAN_MAX whole k (λ c less. each_small (4 * c + k) (omega arith)) in
      let back = λ (k : ℕ) (lt : k < 4). of_z-to_z w64 (lane k) (let le = small k lt in omega arith) in
      ap (λ l. greatest (map (of_z w64) (map (to_z w64) l))) known
      ∙ ap greatest (four_same (back 0 (omega arith)) (back 1 (omega arith))
      (back 2 (omega arith)) (back 3 (omega arith)))
      ∙ greatest_four (lane 0) (lane 1) (lane 2) (lane 3) ∙ lanes_most a b whole

pub greatest_lane-most-requires-clause-in_limit : goal.greatest_lane-most-requires-clause-in_limit
greatest_lane-most-requires-clause-in_limit c =
    let a = c.args.a.now in
    let b = c.args.b.now in
    let whole = c.loop-chunk.chunk in
    let end = c.loop-chunk.auto.chunk-end in
    let known = lanes_known a b c.requires.equal c.requires.in_limit whole c.loop-chunk.lanes (omega arith)
    c.loop-chunk.invariant.lanes_are in
    let small = first_small a b c.requires.equal c.requires.in_limit (4 * whole) (omega arith) in
    omega arith

-- how many durations are in whole chunks
abbrev whole_of : List ℕ → ℕ
whole_of a = length a - length a % 4

pub loop-left-init : goal.loop-left-init
loop-left-init c =
    let a = c.args.a.now in
    let b = c.args.b.now in
    let whole = c.loop-chunk.chunk in
    let end = c.loop-chunk.auto.chunk-end in
    let done = c.loop-chunk-test.false in
    let all : 4 * whole ≡ whole_of a + 0 = omega arith in
    record {
      most_is = c.greatest_lane-most.ensures
          ∙ lanes_known a b c.requires.equal c.requires.in_limit whole c.loop-chunk.lanes (omega arith)
          c.loop-chunk.invariant.lanes_are
          ∙ ap (most_to a b) all;
    }

pub sum-requires : goal.sum-requires
sum-requires c =
    let a = c.args.a.now in
    let b = c.args.b.now in
    let place : ℕ = whole_of a + c.loop-left.left in
    let inside : place < length a = omega (arith, c.loop-left-test.true) in
    let small = each_small a b c.requires.equal c.requires.in_limit place inside in
    let read = sum_read a b place c.index-a-whole.result c.index-b-whole.result c.requires.equal inside in
    let one = c.index-a-whole.is in
    let two = c.index-b-whole.is in
    omega arith

pub greater-most-requires-clause-a : goal.greater-most-requires-clause-a
greater-most-requires-clause-a c =
    let a = c.args.a.now in
    let place : ℕ = whole_of a + c.loop-left.left in
    let inside : place < length a = omega (arith, c.loop-left-test.true) in
    let known = c.loop-left.invariant.most_is in
    let small = first_small a c.args.b.now c.requires.equal c.requires.in_limit place (omega arith) in
    omega arith

pub greater-most-requires-clause-b : goal.greater-most-requires-clause-b
greater-most-requires-clause-b c =
    let a = c.args.a.now in
    let b = c.args.b.now in
    let place : ℕ = whole_of a + c.loop-left.left in
    let inside : place < length a = omega (arith, c.loop-left-test.true) in
    let small = each_small a b c.requires.equal c.requires.in_limit place inside in
    let read = sum_read a b place c.index-a-whole.result c.index-b-whole.result c.requires.equal inside in
    let one = c.index-a-whole.is in
    let two = c.index-b-whole.is in
    let sum = c.sum.ensures in
    omega arith

pub loop-left-preserved : goal.loop-left-preserved
loop-left-preserved c =
    let a = c.args.a.now in
    let b = c.args.b.now in
    let place : ℕ = whole_of a + c.loop-left.left in
    let inside : place < length a = omega (arith, c.loop-left-test.true) in
    let read = sum_read a b place c.index-a-whole.result c.index-b-whole.result c.requires.equal inside in
    let one = c.index-a-whole.is in
    let two = c.index-b-whole.is in
    let next : place + 1 ≡ whole_of a + (c.loop-left.left + 1) = omega arith in
    let sum : c.sum.result ≡ sum_at a b place = omega (arith, c.sum.ensures) in
    record {
      most_is = c.greater-most.ensures ∙ ap (λ m. max m c.sum.result) c.loop-left.invariant.most_is
          ∙ ap (max (most_to a b place)) sum ∙ ap (most_to a b) (sym (add-one place) ∙ next);
    }

pub returns : goal.returns
returns c =
    let a = c.args.a.now in
    let b = c.args.b.now in
    let done = c.loop-left-test.false in
    let whole = c.loop-chunk.auto.chunk-end in
    let all : whole_of a + c.loop-left.left ≡ length a = omega (arith, c.loop-left.auto.left-end) in
    c.loop-left.invariant.most_is ∙ ap (most_to a b) all ∙ most_is a b c.requires.equal
