-- An input has a file exactly if none of its places has a fault.
use Rattle.pfs_layout.proofs.Words.{false_from_ne_true, slice_get-append, nil_from_length, slice_get-push, append_assoc}
use Rattle.pfs_layout.proofs.Words.{fault_of_place, LONGEST_INPUT, ended_numbers, wrong_number, cases_option, slice_get}
use Rattle.pfs_layout.proofs.Words.{all_but_last, all_and_last, length_push, is_line_end, ended_lines, ended_parts, ◌≡◌}
use Rattle.pfs_layout.proofs.Words.{stand_after, instance_of, cases_Bool, append-nil, first_some, after_line, option_or}
use Rattle.pfs_layout.proofs.Words.{ends_early, mixed_line, byte_fault, wrong_size, nat_tests, open_line, [], Completes}
use Rattle.pfs_layout.proofs.Words.{cases_lt, eqb-true, is_empty, standing, accepted, is_none, Problem, true, by_push}
use Rattle.pfs_layout.proofs.Words.{numbers, seeking, rejection, or_none, last_of, length, nat_le, false, Layout}
use Rattle.pfs_layout.proofs.Words.{inside, limits, arith, lines, Block, Stand, stand, Front, Seeks, List, ◌++◌, refl}
use Rattle.pfs_layout.proofs.Words.{Some, None, lost, ◌-◌, ◌<◌, ◌≤◌, ◌∷◌, sym, inl, inr, Now, ap, ℕ}
use Rattle.pfs_layout.specs.Rejection.{faults}
use Rattle.pfs_layout.proofs.Published.PlaceLemmas.{byte_fault-push, rejection_end}
use Rattle.pfs_layout.proofs.Files.GoodLemmas.{is_good, good_end, fault_within_limit, gap_fault, stand_of, stand-push}
use Rattle.pfs_layout.proofs.Files.GoodLemmas.{stand_of-end, stand_of-on, open_line-end, one_line, Extends}
use Rattle.pfs_layout.proofs.Files.GoodLemmas.{line_extends, extends, fewer_before, Few, enough_right, validated, sound}
use Rattle.pfs_layout.proofs.Files.GoodLemmas.{sound_more, faultless_front}
use Rattle.pfs_layout.proofs.Files.FileLemmas.{FitsNow, made}
use Rattle.pfs_layout.proofs.Files.LineLemmas.{lines-parts}

-- a text within the limit is a prefix of itself
abbrev pub all_of : (text : List ℕ) → length text ≤ LONGEST_INPUT → Front limits text
all_of text short = record { text = text; rest = []; whole = sym (append-nil text); ended = inr refl; short = short }

-- the lines of a text that ends with a line end
lines_ended : (text : List ℕ) → open_line text ≡ [] → lines text ≡ ended_lines text
lines_ended text e = rw (lines-parts text, e) (append-nil (ended_lines text))

nothing_on : (line : List ℕ) → is_empty line ≡ true → line ≡ []
nothing_on line e = nil_from_length line (eqb-true (length line) 0 e)

-- where all is good, an empty line changes nothing
empty_line : (layout : Layout) (complete : List Block) (now : Now) (tail : List (List ℕ)) → is_good layout now [] ≡ true
    → FitsNow layout now tail → after_line layout complete now [] ≡ standing complete now
unfolding numbers ended_numbers ended_parts
empty_line layout complete seeking tail good is = refl
empty_line layout complete (inside block) tail good is =
    grind (arith, nat_tests, is.short, append-nil {A = ℕ})
empty_line layout complete lost tail good is = absurd (cc)

-- all lines lead to the state after the ended lines and the open line
stand_filled : (layout : Layout) (text : List ℕ) → is_empty (open_line text) ≡ false
    → stand layout (lines text) ≡ stand_after layout (stand_of layout text) (open_line text)
stand_filled layout text filled = rw (lines-parts text, filled) (stand-push layout (ended_lines text) (open_line text))

pub stand_lines : (layout : Layout) (text : List ℕ) → is_good layout (stand_of layout text).now (open_line text) ≡ true
    → stand layout (lines text) ≡ stand_after layout (stand_of layout text) (open_line text)
unfolding stand_after
stand_lines layout text good =
    let before : Stand = stand_of layout text in
    let m = made layout (ended_lines text) in
    let nothing = nothing_on (open_line text) in
    let same = empty_line layout before.complete before.now m.tail in
    grind (arith, stand_filled layout text, lines_ended text, m.fits)

-- a block that was complete before the last line remains
pub block_stays : (layout : Layout) (text more : List ℕ) (i : ℕ) → i < length (stand_of layout text).complete
    → slice_get (stand layout (lines (text ++ more))).complete i ≡ slice_get (stand_of layout text).complete i
block_stays layout text more i within =
    let all : List ℕ = text ++ more in
    let ended = extends layout text more in
    let more = line_extends layout (stand_of layout text).complete (stand_of layout all) (open_line all) ended in
    let longer : Extends (stand_of layout text).complete (stand layout (lines all)).complete =
    grind (arith, ended, more, lines_ended all, nothing_on (open_line all), stand_filled layout all) in
    rw longer.1 (slice_get-append (stand_of layout text).complete longer.0 i within)

-- the fault of the end is that of a line end there, and if there is none, the fault of what is missing
pub end_faults : (layout : Layout) (k : ℕ) (now : Now) (text : List ℕ) → is_good layout now (open_line text) ≡ true
    → first_some (faults layout k now text None)
    ≡ option_or (fault_within_limit layout now text 10) (ends_early layout k text None)
unfolding mixed_line wrong_number wrong_size
end_faults layout k seeking text good = grind (arith, nothing_on (open_line text))
end_faults layout k (inside block) text good = rw (gap_fault layout block text 10 refl) (grind arith)
end_faults layout k lost text good = absurd (cc)

-- a list of blocks that isn't empty has a last one
last_block : (blocks : List Block) → 1 ≤ length blocks
    → (earlier : List Block) × (own : Block) × (blocks ≡ earlier ++ own ∷ [])
last_block [] some = absurd (omega arith)
last_block (block ∷ blocks) some =
    (all_but_last (block ∷ blocks), last_of block (block ∷ blocks), all_and_last block block blocks)

-- the last of the complete blocks is some problem's
pub seeks_completes : (layout : Layout) (input : List ℕ) (k : ℕ) → 1 ≤ k → (s : Seeks layout input k)
    → (problem : Problem) × (c : Completes layout input k problem) × (c.seeks ≡ s)
seeks_completes layout input k some s =
    let last = last_block (stand layout (lines s.text)).complete (omega (arith, s.complete)) in
    let c : Completes layout input k (instance_of layout last.1) =
    record { seeks = s; earlier = last.0; own = last.1; parts = last.2; is = refl } in
    (instance_of layout last.1, c, refl)

module _ (layout : Layout) (k : ℕ) where
  -- no byte of a text has a fault
  abbrev pub Faultless : List ℕ → Type 0
  Faultless text = byte_fault layout k text ≡ None

  -- and none has one after it, if k blocks are complete
  pub faultless_after : (text more : List ℕ) → k ≤ length (stand_of layout text).complete → Faultless text
      → Faultless (text ++ more)
  faultless_after text more enough right = by_push (λ more. Faultless (text ++ more)) (rw (append-nil text) right)
      (λ more b h.
      let longer = fewer_before layout text more in
      rw (← append_assoc text more (b ∷ []), byte_fault-push layout k (text ++ more) b, h)
      (enough_right layout k (text ++ more) (Some b) (omega arith))) more

  -- the end has no fault exactly if the last line leaves k blocks complete
  end_is : (text : List ℕ) → Faultless text → Few layout k text
      → is_none (fault_of_place layout k text None) ≡ nat_le k (length (stand layout (lines text)).complete)
  unfolding fault_of_place ends_early stand_after
  end_is text right few =
      let before : Stand = stand_of layout text in
      let good = (sound layout k text right few).1 in
      let faults = end_faults layout k before.now text good in
      let ended = good_end layout before.complete before.now text in
      grind (arith, nat_tests, one_line, stand_lines layout text good)

  -- ---- without a fault there is a file

  -- after the line that completes k blocks, the next block is sought
  sought : (text : List ℕ) (reached : Stand) → Few layout k text
      → reached ≡ stand_after layout (stand_of layout text) (open_line text) → k ≤ length reached.complete
      → (length reached.complete ≡ k) × (reached.now ≡ seeking)
  sought text reached few is enough = grind (arith, one_line, length_push {X = Block})

  -- the input has the problem's file, which ends with a line end
  abbrev pub EndedHolds : List ℕ → Problem → Type 0
  EndedHolds input problem = (c : Completes layout input k problem) × (open_line c.text ≡ [])

  -- so it has this file with any bytes after it
  pub holds_longer : (text more : List ℕ) (problem : Problem) → EndedHolds text problem
      → EndedHolds (text ++ more) problem
  holds_longer text more problem held =
      let c = held.0 in
      let whole : text ++ more ≡ c.text ++ (c.rest ++ more) = rw c.whole (append_assoc c.text c.rest more) in
      let front : Front limits (text ++ more) =
      record { text = c.text; rest = c.rest ++ more; whole = whole; ended = inl held.1; short = c.short } in
      let seeks : Seeks layout (text ++ more) k = record { front = front; complete = c.complete; now = c.now } in
      (record { seeks = seeks; earlier = c.earlier; own = c.own; parts = c.parts; is = c.is }, held.1)

  -- an input in which k blocks are complete before the last line has a problem
  pub enough_holds : 1 ≤ k → (input : List ℕ) → Faultless input → k ≤ length (stand_of layout input).complete
      → (problem : Problem) × EndedHolds input problem
  unfolding stand ended_parts
  enough_holds some = by_push (λ input. Faultless input → k ≤ length (stand_of layout input).complete
      → (problem : Problem) × EndedHolds input problem)
      (λ right enough. absurd (omega arith)) (λ input b earlier right enough.
      elim (cases_lt (length (stand_of layout input).complete) k) [
        | inr all ↦
            let held = earlier (faultless_front layout k input b right).0 all in
            (held.0, holds_longer input (b ∷ []) held.0 held.1)
        | inl few ↦ elim (cases_Bool (is_line_end b)) [
          | inr on ↦ let same = rw (stand_of-on layout input b on) at enough in absurd (omega arith)
          | inl ends ↦
              let all : List ℕ = input ++ b ∷ [] in
              let ended = open_line-end input b ends in
              let same = lines_ended all ended in
              let short = sound_more layout k input b right few in
              let is = sought input (stand_of layout all) few (stand_of-end layout input b ends) enough in
              let held = seeks_completes layout all k some
              (record { front = all_of all short; complete = rw same is.0; now = rw same is.1 }) in
              (held.0, (held.1, rw held.2 ended))
        ]
      ])

  pub unrejected_holds : 1 ≤ k → (input : List ℕ) → rejection layout input k ≡ None
      → (problem : Problem) × Completes layout input k problem
  unrejected_holds some input e =
      let rights = or_none (byte_fault layout k input) (fault_of_place layout k input None) (rw rejection_end at e) in
      elim (cases_lt (length (stand_of layout input).complete) k) [
        | inr enough ↦ let held = enough_holds some input rights.0 enough in (held.0, held.1.0)
        | inl few ↦
            let is = sound layout k input rights.0 few in
            let end = end_is input rights.0 few in
            let reached = sought input (stand layout (lines input)) few (stand_lines layout input is.1)
            (grind (arith, nat_tests)) in
            let held = seeks_completes layout input k some
            (record { front = all_of input is.0; complete = reached.0; now = reached.1 }) in
            (held.0, held.1)
      ]

  -- ---- a file has no fault

  pub holds_unrejected : (input : List ℕ) (problem : Problem) → Completes layout input k problem
      → rejection layout input k ≡ None
  unfolding stand_after
  holds_unrejected input problem c =
      let validates = validated layout k c.text c.short in
      elim (cases_lt (length (stand_of layout c.text).complete) k) [
        | inr enough ↦
            let right : Faultless c.text = grind (arith, nat_tests) in
            let longer = fewer_before layout c.text c.rest in
            rw (rejection_end layout k input, c.whole, faultless_after c.text c.rest enough right)
            (enough_right layout k (c.text ++ c.rest) None (omega arith))
        | inl few ↦
            let before : Stand = stand_of layout c.text in
            let filled : is_empty (open_line c.text) ≡ false = false_from_ne_true _ (λ empty.
            let same = rw (lines_ended c.text (nothing_on (open_line c.text) empty)) at c.complete in omega arith) in
            let reached = stand_filled layout c.text filled in
            let ended = good_end layout before.complete before.now c.text in
            let right : Faultless c.text = grind (arith, nat_tests, c.complete, c.now) in
            let none : c.rest ≡ [] = grind (arith, c.ended) in
            let same : input ≡ c.text = rw (none, append-nil) at c.whole in
            rw (rejection_end layout k input, same, right)
            (grind (arith, nat_tests, c.complete, c.now, end_is c.text right few))
      ]

  -- ---- the problem of a file is that of the k-th block

  kth_block : (input : List ℕ) (problem : Problem) (c : Completes layout input k problem)
      → slice_get (stand layout (lines input)).complete (k - 1) ≡ Some c.own
  kth_block input problem c =
      let at : k - 1 ≡ length c.earlier = omega (arith, c.complete, ap length c.parts, length_push c.earlier c.own) in
      let own = slice_get-push c.earlier c.own in
      elim c.ended [
        | inl ended ↦
            let parts = rw (lines_ended c.text ended) at c.parts in
            let within : k - 1 < length (stand_of layout c.text).complete =
            rw parts (omega (arith, length_push c.earlier c.own)) in
            rw (c.whole, block_stays layout c.text c.rest (k - 1) within, parts, at) own
        | inr none ↦ let same : input ≡ c.text = rw (none, append-nil) at c.whole in rw (same, c.parts, at) own
      ]

  pub holds_accepted : (input : List ℕ) (problem : Problem) → Completes layout input k problem
      → accepted layout input k ≡ Some problem
  unfolding accepted
  holds_accepted input problem c =
      rw (holds_unrejected input problem c, kth_block input problem c, c.is)

  -- an input has at most one problem
  pub one_held : (input : List ℕ) (one other : Problem) → Completes layout input k one → Completes layout input k other
      → one ≡ other
  one_held input one other c d = cc (holds_accepted input one c, holds_accepted input other d)

  pub accepted_holds : 1 ≤ k → (input : List ℕ) (problem : Problem) → accepted layout input k ≡ Some problem
      → Completes layout input k problem
  unfolding accepted
  accepted_holds some input problem e = elim (cases_option (rejection layout input k)) [
    | inr rejected ↦ absurd (cc (rw rejected.1 at e))
    | inl none ↦
        let holds = unrejected_holds some input none in
        let same : holds.0 ≡ problem = cc (e, holds_accepted input holds.0 holds.1) in
        rw same at holds.1
  ]
