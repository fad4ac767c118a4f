-- What more input and wider limits change.
use Rattle.pfs_layout.proofs.Words.{◌≡◌, ℕ, List, [], ◌∷◌, ◌++◌, Some, append_assoc, append-nil, by_push, Layout}
use Rattle.pfs_layout.proofs.Words.{LayoutFault, byte_fault, ◌≤◌, length, arith, lit≤, AllByRecursion, map, take, drop}
use Rattle.pfs_layout.proofs.Words.{take-append-drop, None, rejection, fault_of_place, below, limits}
use Rattle.pfs_layout.proofs.Words.{Problem, IsInstance, IsBlock, IsSomeBlock}
use Rattle.pfs_layout.specs.Laws.{FaultStays, FreeAfter, IsWider, WiderLimits, earlier_limits, EarlierFiles}
use Rattle.pfs_layout.proofs.Files.FileLemmas.{file_completes, completes_file}
use Rattle.pfs_layout.proofs.Files.VerdictLemmas.{enough_holds, holds_longer, one_held}
use Rattle.pfs_layout.proofs.Published.PlaceLemmas.{byte_fault-push, rejection_end, rejection_is}
use Rattle.pfs_base.specs.Limits.{Limits}
use Rattle.pfs_base.proofs.Published.Lists.{map-range_with_len-same}

-- a fault at a byte remains, for any bytes that follow
pub byte_fault-more : (layout : Layout) (k : ℕ) (text more : List ℕ) (fault : LayoutFault)
    → byte_fault layout k text ≡ Some fault → byte_fault layout k (text ++ more) ≡ Some fault
byte_fault-more layout k text more fault e =
    by_push (λ more. byte_fault layout k (text ++ more) ≡ Some fault) (rw (append-nil text) e)
    (λ more b h. rw (← append_assoc text more (b ∷ []), byte_fault-push layout k (text ++ more) b, h)) more

-- if no byte of a text has a fault, the fault of each prefix is that of its end
pub front_faults : (layout : Layout) (k : ℕ) (text : List ℕ) (n : ℕ) → byte_fault layout k text ≡ None
    → map (λ cut. rejection layout (take cut text) k) (below n)
    ≡ map (λ cut. fault_of_place layout k (take cut text) None) (below n)
front_faults layout k text n right = map-range_with_len-same _ _ 0 n (λ cut low high.
    let stays = byte_fault-more layout k (take cut text) (drop cut text) in
    rw rejection_end (grind (arith, take-append-drop cut text)))

pub fault_stays : FaultStays
fault_stays layout text more k fault e =
    (rejection_is layout (text ++ more) k fault).0
    (rw (rejection_end layout k (text ++ more), byte_fault-more layout k text more fault e))

-- ---- as laws

-- after k complete blocks, nothing that follows changes the problem
pub free_after : FreeAfter
free_after layout text more k problem some right enough =
    let held = enough_holds layout k some text right enough in
    let own = held.1.0 in
    let all = (holds_longer layout k text more held.0 held.1).0 in (
      λ file.
          let same = one_held layout k text held.0 problem own (file_completes layout text k problem file) in
          completes_file layout (text ++ more) k problem (rw same at all),
      λ file.
          let c = file_completes layout (text ++ more) k problem file in
          completes_file layout text k problem (rw (one_held layout k (text ++ more) held.0 problem all c) at own),
    )

-- ---- a file is a file under wider limits

module _ (narrow wide : Limits) (wider : IsWider narrow wide) where
  instance_wider : (problem : Problem) → IsInstance narrow problem → IsInstance wide problem
  instance_wider problem is = grind (arith, is.within, is.within.short_times, wider)

  -- the other parts of a block don't depend on the limits
  block_wider : (layout : Layout) (problem : Problem) (block : List (List ℕ)) → IsBlock narrow layout problem block
      → IsBlock wide layout problem block
  block_wider layout problem block b = let within = instance_wider problem b.within in search

  blocks_wider : (layout : Layout) (blocks : List (List (List ℕ))) → AllByRecursion (IsSomeBlock narrow layout) blocks
      → AllByRecursion (IsSomeBlock wide layout) blocks
  blocks_wider layout [] all = tt
  blocks_wider layout (block ∷ blocks) all =
      ((all.0.0, block_wider layout all.0.0 block all.0.1), blocks_wider layout blocks all.1)

pub wider_limits : WiderLimits
wider_limits narrow wide layout input k problem wider file =
    let each = blocks_wider narrow wide wider layout file.blocks.earlier file.blocks.each in
    let own = block_wider narrow wide wider layout problem file.blocks.own file.blocks.is_own in
    let short : length file.text ≤ wide.input = omega (arith, file.short, wider.input) in
    record { front = search; blocks = search }

pub earlier_files : EarlierFiles
earlier_files layout input k problem = wider_limits earlier_limits limits layout input k problem (record {
  jobs = lit≤ tt;
  machines = lit≤ tt;
  time = lit≤ tt;
  note = lit≤ tt;
  input = lit≤ tt;
})
