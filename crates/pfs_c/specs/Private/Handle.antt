-- What a handle owns: nothing if its pointer is null, else the box at its pointer.
use Rattle.std.specs.Prelude.{◌≡◌, Option, Some, None}
use base.Fml.{Fml, ftrue, fex}
use denote.RattleType.{RattleType}
use denote.RawPtr.{Ptr, null_ptr}
use Rattle.std.specs.declared.alloc.Global.{Global}
use Rattle.std.specs.contracts.impls.GlobalAllocator.TheImpl.{ghosts}
use Rattle.std_alloc.specs.Box.Ownership.{box_owns}

abbrev pub holds : (R : RattleType) → Global → Ptr → Option R.Denot → Fml
holds R alloc at None = fex (at ≡ null_ptr) (λ _. ftrue)
holds R alloc at (Some value) = box_owns (ghosts.dealloc_token alloc) R at value
