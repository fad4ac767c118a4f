-- The names that the walks of a handle cite, the machine values of a handle, of a box that is taken apart and of their
-- allocator, and what a call is passed at lifetimes that do not end.
pub use Rattle.std.proofs.Common.{◌≡◌, List, [], ◌∷◌, ◌++◌, refl, sym, ap, ◌∙◌, lit<, Option, None, Some}
pub use Rattle.std.proofs.raw_atomic.Walks.{proved}
pub use Rattle.std_alloc.specs.Box.Ownership.{box_owns}
pub use Rattle.std_heap.specs.declared.Global.{Global}
pub use Rattle.std_heap.specs.contracts.Global.{the_row as global}
pub use Rattle.std_heap.specs.contracts.GlobalAllocator.TheImpl.{ghosts, dict}
pub use Rattle.std_heap.proofs.Global.TheLaws.{lowered as global-lowered, lowers as global-lowers}
pub use Rattle.std_heap.proofs.Global.TheLaws.{the_row_laws as global-laws, the_told, the_field_plain}
pub use Rattle.std_heap.proofs.GlobalAllocator.TheImpl.Met.{passed}
pub use Rattle.pfs_c.specs.contracts.kept.Kept.{the_row as kept}
pub use Rattle.pfs_c.specs.contracts.handle.Prepared.{the_row as handle, the_type}
pub use Rattle.pfs_c.specs.declared.handle.Prepared.{Prepared}
pub use Rattle.pfs_c.proofs.handle.Prepared.TheLaws.{lowered, lowers, the_laws}
pub use seplogic.Ra.Ura.{Ura}
pub use mir.Syntax.{Dict, dnil, impl, tcons, tnil}
pub use mir.Val.{Val, of_list, vstruct, vunit}
pub use base.{Fml.Fml, Fml.ftrue, Fraction.full_share, Logic.emp, Logic.ent, Logic.sep, Logic.via, Logic.id⊢, Fml.flft}
pub use base.{Fml.fsep, Logic.SProp}
pub use prog.Model.{Model}
pub use contract.{Monad.fact, Running.Running, Running.tables, Lifetimes.Lfts, Monad.fact_i}
pub use contract.BorrowLft.{◌⊑◌, ⊑_static}
pub use types.Logic.{Logic, sem}
pub use types.Kit.{‵, raw, ◌⊛◌, some, later, ◌$◌, ◌∵◌, !, qed, use0, use1, use2, await, pick, split, join, fsplit}
pub use types.Kit.{fpick, suffices, keep, move, drop, done, fjoin}
pub use types.Part.{agg, sub, whole}
pub use types.Run.{enter, of_opd, lit, and_then, no_more, returns, fld, stop}
pub use types.ByLocal.{alloc_all, pass_all, free_all, look_at, get, get_in, sets}
pub use denote.{Exit.yes, Laws.Is, Laws.shows, Param.NoDrop.glues, RawPtr.Ptr, RawPtr.null_ptr, RawPtr.rawptr_Lawful}
pub use denote.{Signature.plain, Steps.heard, Steps.nothing, Steps.owned, Steps.peeks, Triple.Clauses.Ended}
pub use denote.{Triple.Clauses.Lasts, Triple.Clauses.lasts, Triple.Spec.triple_of, Triple.Statement.Contract}
pub use denote.{Triple.Table.framed, Triple.Walked.Stays, Triple.Walked.stay_dropped, Triple.Walked.Goes-dropped}
pub use denote.{Triple.Walked.ends_at, Triple.Walked.says, Exit.no, Param.arg, Param.layout, Param.Laws.Laws}
pub use denote.{Param.Laws.arg_laws, Laws.Makes, Laws.Typed, RattleType.RattleType, RawPtr.ptr_val, Shadow.makes_shadow}
pub use denote.{Struct.Laws.FLaws, Struct.Laws.RawPtr-plain, Struct.Laws.lawfuls, Struct.Owning.shape, Struct.Owning.to}
pub use denote.Struct.Struct.{Struct, Struct-Makes, Struct-Lawful}
pub use mir.Raw.{raw as bare}
use Rattle.std_alloc.specs.contracts.boxed.Box as box
use Rattle.std_alloc.proofs.boxed.Box.TheLaws as of-box
pub use Rattle.pfs_c.specs.Private.Handle.{holds}
use Rattle.pfs_c.proofs.kept.Kept.TheLaws as of-kept

-- A kept instance in a box.
abbrev pub boxed : RattleType
boxed = box.the_row kept global ghosts

abbrev pub boxed-laws : FLaws (box.the_field kept global ghosts)
boxed-laws = of-box.the_field_laws kept global ghosts of-kept.the_row_laws global-laws the_told

-- The types as the arguments of a call.
abbrev pub T : RattleType
T = arg (bare (layout kept)) no kept

abbrev pub A : RattleType
A = arg (bare (layout global)) no global

pub T-laws : Laws T
T-laws = arg_laws _ no kept of-kept.the_row_laws refl

pub A-laws : Laws A
A-laws = arg_laws _ no global global-laws refl

abbrev pub κs-static : Lfts 2
κs-static = ([], ([], tt))

abbrev pub tokens : Fml
tokens = fsep (flft [] full_share) (fsep (flft [] full_share) ftrue)

-- The global allocator is let go with no work.
abbrev pub drops-a : Dict
drops-a = impl ("pfs_c::Destruct++none::drop" ∷ []) (tcons (layout A) tnil) dnil

pub global-is : (alloc : Global) → Is global alloc (global-lowered alloc ∷ [])
global-is alloc = ((vstruct (of_list (vunit ∷ [])) ∷ [], tt), (refl, (((vunit ∷ [], tt), (refl, (refl, tt))), tt)))

fields-are : (h : Prepared) → Is (Struct (shape the_type)) (to the_type h) (lowered h ∷ [])
fields-are h = ((ptr_val h.at ∷ [], (global-lowered h.alloc ∷ [], tt)), (refl, (refl, (global-is h.alloc, tt))))

module _ {M : Type 1} {𝓤 : Ura M} (𝓛 : Logic 𝓤) where
  pub global-made : Makes 𝓛 global (Is global)
  global-made a vs p = makes_shadow 𝓛 (global.own_val a vs) (the_field_plain ((a.memory.seal, tt), tt) vs) p

  pub global-typed : (alloc : Global) → Typed global.mir (global-lowered alloc ∷ [])
  global-typed alloc = (global-laws.lawful 𝓛).typed alloc _ (global-is alloc)

  pub handle-typed : (h : Prepared) → Typed handle.mir (lowered h ∷ [])
  handle-typed h =
      (Struct-Lawful 𝓛 (shape the_type) (lawfuls 𝓛 the_type.parts the_laws)).typed (to the_type h) _ (fields-are h)

  -- The fields of a handle own no memory.
  pub handle-made : (h : Prepared)
      → ent 𝓤 (sem 𝓛 (holds kept h.alloc h.at h.shop)) (sem 𝓛 (handle.own_val h (lowered h ∷ [])))
  handle-made h =
      let R = Struct (shape the_type) in
      qed 𝓛 (‵ (holds kept h.alloc h.at h.shop) ∷ []) ∵
      owned ! R (Is R) (Struct-Makes 𝓛 (shape the_type) (RawPtr-plain, (the_field_plain, tt))) (to the_type h)
      (lowered h ∷ []) (fields-are h) $ fjoin ! $ done !

  -- The tokens of lifetimes that do not end come for nothing, and a type with no borrow outlives them.
  pub at-static : (O R : SProp 𝓤) → ent 𝓤 (sep 𝓤 O R) (sep 𝓤 (sep 𝓤 (sem 𝓛 tokens) O)
      (sep 𝓤 (fact 𝓤 ([] ⊑ T.lives)) (sep 𝓤 (fact 𝓤 ([] ⊑ A.lives)) R)))
  at-static O R =
      qed 𝓛 (raw O ∷ raw R ∷ []) ∵ nothing ! $ use0 𝓛 (‵ (flft [] full_share)) (𝓛.lfts.lft-nil full_share) $ join ! $
      use0 𝓛 (‵ (flft [] full_share)) (𝓛.lfts.lft-nil full_share) $ join ! $ join ! $ move ! (1 ∷ []) $
      use0 𝓛 (raw (fact 𝓤 ([] ⊑ A.lives))) (fact_i 𝓤 ([] ⊑ A.lives) (emp 𝓤) (⊑_static [])) $ join ! $
      use0 𝓛 (raw (fact 𝓤 ([] ⊑ T.lives))) (fact_i 𝓤 ([] ⊑ T.lives) (emp 𝓤) (⊑_static [])) $ join ! $
      move ! (1 ∷ []) $ done !
