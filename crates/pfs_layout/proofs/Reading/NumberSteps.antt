-- One more number: the fault that it has, or what the fields mean after it.
use Rattle.pfs_layout.proofs.Words.{◌≡◌, ◌≢◌, ℕ, ◌+◌, ◌*◌, ◌%◌, ◌<◌, List, [], ◌∷◌, ◌++◌, length, get_or, refl, sym}
use Rattle.pfs_layout.proofs.Words.{◌∙◌, arith, common_steps, length-replicate, length-set, same_from_place, mul-add-lt}
use Rattle.pfs_layout.proofs.Words.{rows, with_time, Layout, OrLib, Size, place_of_time, instance_of, min, Bool, true}
use Rattle.pfs_layout.proofs.Words.{ap, Option, Some, None, if◌then◌else◌, ◌==◌, inl, inr, cases_Bool, eqb-true, ne_eqb}
use Rattle.pfs_layout.proofs.Words.{nat_tests, length_push, append_assoc, length-append, mod-mul-add, CEILING, SizeLine}
use Rattle.pfs_layout.proofs.Words.{is_due, due_at, Stand, Block, Now, seeking, inside, lost, standing, body_validated}
use Rattle.pfs_layout.proofs.Words.{number_ended, HoldsNumbers, FollowsBody, is_live, FollowsBlocks, no_numbers}
use Rattle.pfs_layout.proofs.Words.{LayoutFault, Blocks, misfit, Due}
use Rattle.std.proofs.Math.ListN.{set}
use Rattle.std.proofs.Math.Nat.{mul_comm}
use Rattle.std.proofs.lemmas.List.{get_or_push, get_or-replicate}
use Rattle.pfs_layout.specs.Private.Step.{with_number, next_of, after_time, due_next, counted}
use Rattle.pfs_layout.proofs.Files.DueLemmas.{listed_time, size_within}
use Rattle.pfs_layout.proofs.Tables.{table, length-table, table_at, same_table}
use Rattle.std.specs.Prelude.{replicate}
use Rattle.pfs_layout.specs.declared.body.Body.{Body}
use Rattle.pfs_layout.specs.declared.blocks.Phase.TheVariants as phases

-- ---- the problem of a block with one number more

-- a table in which one entry has another value
table_with : (f g : ℕ → ℕ → ℕ) (jobs machines job machine v : ℕ) → job < jobs → machine < machines
    → g job machine ≡ v → ((r c : ℕ) → r < jobs → c < machines → (r ≡ job → c ≢ machine) → g r c ≡ f r c)
    → set (table f jobs machines) (job * machines + machine) v ≡ table g jobs machines
table_with f g jobs machines job machine v j m here others =
    let old : List ℕ = table f jobs machines in
    let place : ℕ = job * machines + machine in
    let size = length-table f jobs machines in
    let within : place < length old = rw (size, mul_comm jobs machines) (mul-add-lt job machines machine jobs j m) in
    same_table g jobs machines (set old place v) (length-set old place v ∙ size) (λ r c p q.
    let same = same_from_place r c job machine machines q m in
    grind (arith, common_steps, same, here, within, others r c p q, table_at f jobs machines r c 0 p q))

-- one more number changes no other number of a list
index_push_other : (ns : List ℕ) (v p : ℕ) → p ≢ length ns → get_or (ns ++ v ∷ []) p 0 ≡ get_or ns p 0
index_push_other ns v p other = grind (arith, common_steps)

module _ (layout : Layout) (size : Size) where
  -- one more time is at its place
  pub instance_of-time : (ns : List ℕ) (v job machine : ℕ) → job < size.jobs → machine < size.machines
      → place_of_time layout size job machine ≡ length ns
      → instance_of layout (record { size = size; numbers = ns ++ v ∷ [] })
      ≡ (let problem = instance_of layout (record { size = size; numbers = ns }) in
      record problem { shop = with_time problem.shop job machine v })
  unfolding instance_of
  instance_of-time ns v job machine j m at =
      let times = table_with (listed_time layout size ns) (listed_time layout size (ns ++ v ∷ []))
      size.jobs size.machines job machine v j m
      (get_or_push ns v 0 _ (sym at)) (λ r c p q other. index_push_other ns v _ (λ last.
      grind (arith, same_from_place r c job machine size.machines, same_from_place c r machine job size.jobs))) in
      cc

-- times that are all 0
pub idle_problem : (jobs machines : ℕ) → replicate (jobs * machines) 0 ≡ table (λ job machine. 0) jobs machines
idle_problem jobs machines =
    same_table (λ r c. 0) jobs machines _ (length-replicate (jobs * machines) 0)
    (λ r c p q. get_or-replicate (jobs * machines) _ 0 0 (grind (arith, rows)))

-- a machine's number changes no time
pub instance_of-machine : (size : Size) (ns : List ℕ) (v : ℕ) → length ns % 2 ≡ 0
    → instance_of OrLib (record { size = size; numbers = ns ++ v ∷ [] })
    ≡ instance_of OrLib (record { size = size; numbers = ns })
unfolding instance_of
instance_of-machine size ns v even =
    let before : ℕ → ℕ → ℕ = listed_time OrLib size ns in
    let times = same_table (listed_time OrLib size (ns ++ v ∷ [])) size.jobs size.machines
    (table before size.jobs size.machines) (length-table before size.jobs size.machines)
    (λ r c p q. table_at before size.jobs size.machines r c 0 p q
    ∙ sym (index_push_other ns v (place_of_time OrLib size r c) (λ last. omega arith))) in
    cc

-- ---- a line that may be a size line

pub holds_none : HoldsNumbers no_numbers []
holds_none = record { count = refl; values = λ i few. get_or-replicate 5 i 0 0 few }

pub holds_push : (line : SizeLine) (ns : List ℕ) (v : ℕ) → length line.values ≡ 5 → HoldsNumbers line ns
    → HoldsNumbers (with_number line (min CEILING v)) (ns ++ v ∷ [])
holds_push line ns v five h = grind (arith, common_steps, h.count, h.values)

-- ---- the next number of a body

next_place : (width row column rows : ℕ) → column < width → row < rows → row * width + column + 1 < rows * width
    → (if column + 1 == width then next_of row rows else row) * width + next_of column width ≡ row * width + column + 1
next_place width row column rows h k more = elim (cases_Bool (column + 1 == width)) [
  | inl last ↦
      let full : column + 1 ≡ width = eqb-true (column + 1) width last in
      let inner : row + 1 ≢ rows = λ e. let same = ap (λ n. n * width) e in omega arith in
      rw (last, ne_eqb (row + 1) rows inner) (omega arith)
  | inr on ↦ rw on (omega arith)
]

module _ {layout : Layout} {size : Size} {count : ℕ} {body : Body} (f : FollowsBody layout size count body) where
  -- what is due, by the fields of the body
  pub due_is : due_at layout size count ≡ due_next layout body
  unfolding due_at
  due_is = grind (arith, nat_tests, mod-mul-add body.job size.machines body.machine, f.place)

  pub after_time_follows : due_next layout body ≡ Due.Time
      → FollowsBody layout size (count + 1) (after_time layout body)
  after_time_follows due = grind (arith, nat_tests, next_place, f.place)

-- ---- outcomes

-- only the fault has changed
pub record IsRejection (old : Blocks) (fault : LayoutFault) (new : Blocks) : Type 0 where
  pub phase : new.phase ≡ phases.Rejected fault
  pub held : new.held ≡ old.held
  pub layout : new.layout ≡ old.layout
  pub wanted : new.wanted ≡ old.wanted

-- the fault, or what the fields mean after these ended numbers of the line, which has a word byte or not
abbrev pub Outcome : Blocks → Bool → Stand → List ℕ → Blocks → Option LayoutFault → Type 0
Outcome r has_word stood more next None = FollowsBlocks has_word next stood more
Outcome r has_word stood more next (Some fault) = IsRejection r fault next

-- the fault of a number after these
abbrev pub misfit_in : Layout → Now → List ℕ → ℕ → ℕ → Option LayoutFault
misfit_in layout seeking more v first = None
misfit_in layout (inside block) more v first =
    misfit (due_at layout block.size (length block.numbers + length more)) v first
misfit_in layout lost more v first = None

-- ---- a block has begun

module _ {has_word : Bool} (r : Blocks) (complete : List Block) (block : Block) (more : List ℕ) (v : ℕ)
    (f : FollowsBlocks has_word r (standing complete (inside block)) more) where
  abbrev so_far : List ℕ
  so_far = block.numbers ++ more

  follows : FollowsBody r.layout block.size (length so_far) r.body
  follows = rw (← length-append block.numbers more) at f.now.body

  -- a number that is what is due: it is below the ceiling
  due_counts : (due : Due) → due_next r.layout r.body ≡ due → is_due due v ≡ true
      → FollowsBlocks has_word (counted r due (min CEILING v)) (standing complete (inside block)) (more ++ v ∷ [])
  due_counts Due.Time e is =
      let same : min CEILING v ≡ v = grind (arith, nat_tests) in
      let number = instance_of-time r.layout block.size so_far v r.body.job r.body.machine in
      let body = after_time_follows follows e in
      let place = follows.place in
      rw same (grind (arith, nat_tests, f, number, length_push, length-append {A = ℕ}, append_assoc {A = ℕ}))
  due_counts (Due.Machine machine) e is =
      let place = follows.place in
      grind (arith, nat_tests, f, instance_of-machine, length_push, length-append {A = ℕ}, append_assoc {A = ℕ})
  due_counts Due.Nothing e is = grind arith

  begun_number : (first : ℕ)
      → Outcome r has_word (standing complete (inside block)) (more ++ v ∷ []) (number_ended r (min CEILING v) first)
      (misfit (due_at r.layout block.size (length block.numbers + length more)) v first)
  unfolding number_ended
  begun_number first =
      let within = size_within block.size f.now.fits in
      let due : Due = due_next r.layout r.body in
      let clip : is_due due (min CEILING v) ≡ is_due due v =
      grind (arith, nat_tests, follows.machine, follows.machines, within.sizes.few_machines) in
      let is : number_ended r (min CEILING v) first ≡ body_validated r (min CEILING v) first = rw f.now.phase in
      rw (is, due_is f.now.body, clip) (elim (cases_Bool (is_due due v)) [
        | inl is ↦ rw is (due_counts due refl is)
        | inr other ↦ rw other (search)
      ])

-- one more number, in any state
pub number_step : {has_word : Bool} (r : Blocks) (complete : List Block) (now : Now) (more : List ℕ) (v first : ℕ)
    → FollowsBlocks has_word r (standing complete now) more
    → is_live r.phase ≡ true → length r.size_line.values ≡ 5
    → Outcome r has_word (standing complete now) (more ++ v ∷ []) (number_ended r (min CEILING v) first)
    (misfit_in r.layout now more v first)
unfolding number_ended
number_step r complete seeking more v first f live five = grind (arith, f, holds_push r.size_line more v five)
number_step r complete (inside block) more v first f live five = begun_number r complete block more v f first
number_step r complete lost more v first f live five = absurd f.now
