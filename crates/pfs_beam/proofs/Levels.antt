-- Levels of nodes, and the children between them.
use Rattle.std.proofs.Common.{◌≡◌, ℕ, Bool, true, false, ◌+◌, ◌-◌, ◌<◌, ◌≤◌, List, [], ◌∷◌, ◌++◌, length, take, drop, Contains, get_or, set, inl, inr, ap, sym, ◌∙◌, subst, arith, if◌then◌else◌}
use Rattle.std.proofs.lemmas.Bool.{cases_eq}
use Rattle.std.proofs.lemmas.List.{get_or-set_same, get_or-set_other}
use Rattle.std.proofs.lemmas.List.{drop_all, length-take, length-drop}
use Rattle.std.specs.List.{All}
use Rattle.pfs_base.specs.FlowShop.{FlowShop}
use Rattle.pfs_base.specs.Paths.{makespan}
use Rattle.pfs_beam.specs.Private.Nodes.{AreChildren, AreGrown, AreKnown, AreListedOrLow, AreWhole, Covers, IsBounded, IsGrown, IsListedOrLow, IsLow, IsLowWith, IsNode, moved_of}
use Rattle.pfs_beam.proofs.Lists.{back_kept, back_moved, front_kept, front_moved, open_place}
use Rattle.pfs_exact.specs.Private.Nodes.{IsOpen, NoneShorter}
use Rattle.pfs_exact.proofs.Published.Times.{back_every, from_none, front_every, none_shorter-le}
use Rattle.pfs_beam.specs.declared.children.Child.{Child}
use Rattle.pfs_beam.specs.declared.node.Node.{Node}

-- a list with the same children and more
pub listed-kept : (shop : FlowShop) (forward : Bool) (first end goal : ℕ) (node : Node) (number place : ℕ)
    (old new : List Child) → ((child : Child) → Contains old child → Contains new child)
    → IsListedOrLow shop forward first end goal node number place old
    → IsListedOrLow shop forward first end goal node number place new
listed-kept shop forward first end goal node number place old new kept h = elim h [
  | inl (child, among, is, at) ↦ inl (child, kept child among, is, at)
  | inr low ↦ inr low
]

-- one more node that is made
pub grown_more : (forward : Bool) (shop : FlowShop) (place at : ℕ) (nodes : List Node) (children : List Child)
    (next : List Node) (x : Node) → at < length next → AreGrown forward shop place at nodes children next
    → ((child : Child) (d : Node) → IsGrown forward shop place (get_or nodes (get_or children at child).node d)
    (get_or children at child).place x)
    → AreGrown forward shop place (at + 1) nodes children (set next at x)
grown_more forward shop place at nodes children next x within grown here number child d e small =
    elim (cases_eq number at) [
      | inl is ↦ subst (λ n. IsGrown forward shop place (get_or nodes (get_or children n child).node d)
          (get_or children n child).place (get_or (set next at x) n e)) (sym is)
          (subst (IsGrown forward shop place (get_or nodes (get_or children at child).node d) (get_or children at child).place)
          (sym (get_or-set_same next at x e within)) (here child d))
      | inr other ↦ subst (IsGrown forward shop place (get_or nodes (get_or children number child).node d)
          (get_or children number child).place) (sym (get_or-set_other next at number x e other))
          (grown number child d e (omega arith))
    ]

-- ---- a node and one that is made of it

module _ (shop : FlowShop) (first end at : ℕ) (node next : Node) (from : first ≤ at) (below : at < end)
    (few : end ≤ length node.seq.jobs) where
  x : ℕ
  x = get_or node.seq.jobs at 0

  pub low_with : (forward : Bool) (place low : ℕ) → place ≡ (if forward then first else end - 1)
      → IsGrown forward shop place node at next
      → IsLow shop (if forward then first + 1 else first) (if forward then end else end - 1) low next
      → IsLowWith forward shop (take first node.seq.jobs) (drop end node.seq.jobs) (get_or node.seq.jobs at 0) low
  low_with true place low is grown h =
      let moved : next.seq.jobs ≡ moved_of node.seq.jobs at first =
      grown.moved ∙ ap (moved_of node.seq.jobs at) is in
      let e1 = ap (take (first + 1)) moved ∙ front_moved first end at node.seq.jobs from below few in
      let e2 = ap (drop end) moved ∙ front_kept first end at node.seq.jobs from below few in
      subst (λ f. NoneShorter shop f (drop end node.seq.jobs) low) e1
      (subst (λ b. NoneShorter shop (take (first + 1) next.seq.jobs) b low) e2 h)
  low_with false place low is grown h =
      let moved : next.seq.jobs ≡ moved_of node.seq.jobs at (end - 1) =
      grown.moved ∙ ap (moved_of node.seq.jobs at) is in
      let e1 = ap (take first) moved ∙ back_kept first end at node.seq.jobs from below few in
      let e2 = ap (drop (end - 1)) moved ∙ back_moved end at node.seq.jobs below few in
      subst (λ f. NoneShorter shop f (get_or node.seq.jobs at 0 ∷ drop end node.seq.jobs) low) e1
      (subst (λ b. NoneShorter shop (take first next.seq.jobs) b low) e2 h)

  pub known_with : (forward : Bool) (place : ℕ) → place ≡ (if forward then first else end - 1)
      → IsGrown forward shop place node at next → IsBounded shop first end node
      → IsBounded shop (if forward then first + 1 else first) (if forward then end else end - 1) next
  known_with true place is grown h =
      let moved : next.seq.jobs ≡ moved_of node.seq.jobs at first =
      grown.moved ∙ ap (moved_of node.seq.jobs at) is in
      let e1 = ap (take (first + 1)) moved ∙ front_moved first end at node.seq.jobs from below few in
      let e2 = ap (drop end) moved ∙ front_kept first end at node.seq.jobs from below few in
      subst (λ f. AreKnown shop f (drop end next.seq.jobs) next) (sym e1)
      (subst (λ b. AreKnown shop (take first node.seq.jobs ++ get_or node.seq.jobs at 0 ∷ []) b next) (sym e2)
      (grown.known (take first node.seq.jobs) (drop end node.seq.jobs) h))
  known_with false place is grown h =
      let moved : next.seq.jobs ≡ moved_of node.seq.jobs at (end - 1) =
      grown.moved ∙ ap (moved_of node.seq.jobs at) is in
      let e1 = ap (take first) moved ∙ back_kept first end at node.seq.jobs from below few in
      let e2 = ap (drop (end - 1)) moved ∙ back_moved end at node.seq.jobs below few in
      subst (λ f. AreKnown shop f (drop (end - 1) next.seq.jobs) next) (sym e1)
      (subst (λ b. AreKnown shop (take first node.seq.jobs) b next) (sym e2)
      (grown.known (take first node.seq.jobs) (drop end node.seq.jobs) h))

low-le : (forward : Bool) (shop : FlowShop) (front back : List ℕ) (job number less : ℕ) → less ≤ number
    → IsLowWith forward shop front back job number → IsLowWith forward shop front back job less
low-le true shop front back job number less small h = none_shorter-le shop (front ++ job ∷ []) back number less small h
low-le false shop front back job number less small h = none_shorter-le shop front (job ∷ back) number less small h

-- if no child has a shorter order, the node has none
by_kids : (forward : Bool) (shop : FlowShop) (front back : List ℕ) (low : ℕ) → length front + length back < shop.jobs
    → ((job : ℕ) → job < shop.jobs → IsOpen front back job → IsLowWith forward shop front back job low)
    → NoneShorter shop front back low
by_kids true shop front back low short kids = front_every shop (λ order. low ≤ makespan shop order) front back short kids
by_kids false shop front back low short kids = back_every shop (λ order. low ≤ makespan shop order) front back short kids

-- ---- a level and the next one

pub whole_next : (forward : Bool) (shop : FlowShop) (goal first end place many : ℕ) (nodes next : List Node)
    (children : List Child) → first < end → end ≤ shop.jobs → place ≡ (if forward then first else end - 1)
    → many ≤ length nodes → All (IsNode shop) nodes → AreChildren many first end children
    → AreListedOrLow shop forward first end goal many nodes children
    → AreGrown forward shop place (length children) nodes children next → AreWhole shop goal first end many nodes
    → AreWhole shop goal (if forward then first + 1 else first) (if forward then end else end - 1) (length children) next
whole_next forward shop goal first end place many nodes next children some few is within every are listed grown whole =
    record {
      bounded = λ number e small.
          let zero_child : Child = record { key = 0; node = 0; job = 0; idle = 0; place = 0 } in
          let child : Child = get_or children number zero_child in
          let here = are number zero_child small in
          let node = get_or nodes child.node e in
          let shaped = every child.node e (omega (arith, here.node)) in
          known_with shop first end child.place node (get_or next number e) here.from here.below
          (omega (arith, shaped.full)) forward place is (grown number zero_child e e small)
          (whole.bounded child.node e here.node);
      covers = λ low le lows. whole.covers low le (λ number d small.
          let node = get_or nodes number d in
          let jobs = node.seq.jobs in
          let shaped = every number d (omega arith) in
          let full = shaped.full in
          by_kids forward shop (take first jobs) (drop end jobs) low (omega (arith, length-take first jobs, length-drop end jobs)) (λ job less outside.
          let (at, from, below, found) = open_place shop.jobs job first end jobs shaped.sequence full less (omega arith) outside in
          subst (λ j. IsLowWith forward shop (take first jobs) (drop end jobs) j low) found
          (elim (listed number at d small from below) [
            | inl (child, (k, inside, same), of, stands) ↦
                let made = grown k child d d inside in
                let one = subst (λ (c : Child). IsGrown forward shop place (get_or nodes c.node d) c.place (get_or next k d))
                same made in
                let two = subst (λ n. IsGrown forward shop place (get_or nodes n d) child.place (get_or next k d)) of one in
                let three = subst (λ p. IsGrown forward shop place node p (get_or next k d)) stands two in
                low_with shop first end at node (get_or next k d) from below (omega arith) forward place low is three
                (lows k d inside)
            | inr above ↦ low-le forward shop (take first jobs) (drop end jobs) (get_or jobs at 0) goal low le above
          ])));
    }

-- the node of all orders covers them
pub root_covers : (shop : FlowShop) (goal : ℕ) (nodes : List Node) → 1 ≤ length nodes → All (IsNode shop) nodes
    → Covers shop goal 0 shop.jobs 1 nodes
root_covers shop goal [] some every low le lows = absurd (omega arith)
root_covers shop goal (node ∷ nodes) some every low le lows =
    let full = (every 0 node (omega arith)).full in
    from_none shop low (subst (λ back. NoneShorter shop [] back low) (drop_all shop.jobs node.seq.jobs (omega arith))
    (lows 0 node (omega arith)))
