-- The vocabulary of this crate's proofs: the names of std, of pfs_base and of the crate's own definitions that
-- several files of lemmas use, and two lemmas on options.
pub use Rattle.std.proofs.Common.{◌%◌, ◌&&◌, ◌*◌, ◌+◌, ◌++◌, ◌-◌, ◌/◌, ◌<◌, ◌==◌, Bool, List, None, Option, Some, []}
pub use Rattle.std.proofs.Common.{add-one, ap, arith, count_by, drop, false, flat_map, get_or, if◌then◌else◌}
pub use Rattle.std.proofs.Common.{inl, inr, length, lit≤, map, min, mul-le-mul, nat_le, not, refl, rules, subst, suc}
pub use Rattle.std.proofs.Common.{sym, take, true, zero, ◌||◌, ℕ, ◌↔◌, ◌∙◌, ◌∷◌, ◌≡◌, ◌≢◌, ◌≤◌, ◌⊎◌}
pub use Rattle.std.proofs.lemmas.Bool.{and_parts, cases_Bool, cases_eq, cases_lt, eq-eqb, eqb-false, eqb-true, le-ltb}
pub use Rattle.std.proofs.lemmas.Bool.{lt-ltb, ne_eqb, or_parts, false_from_ne_true}
pub use Rattle.std.proofs.lemmas.Bool.Decides.{nat_tests}
pub use Rattle.std.proofs.lemmas.Grind.{common_steps, elements, flat_map-append, rows, same_number_lists}
pub use Rattle.std.proofs.lemmas.List.{append-nil, append_assoc, length-append, length-replicate, length-set, take_all}
pub use Rattle.std.proofs.lemmas.List.{length-take, length_push, map-append, nil_from_length, take-append-drop}
pub use Rattle.std.proofs.lemmas.List.Elements.{All-from_get_or}
pub use Rattle.std.proofs.lemmas.List.Folds.{list_all-append, list_any-append}
pub use Rattle.std.proofs.lemmas.List.FromFn.{get_or-map-range_with_len, length-map-range_with_len}
pub use Rattle.std.proofs.lemmas.List.Sums.{fold-append}
pub use Rattle.std.proofs.lemmas.Nat.{mod-mul-add, mul-add-lt, same_from_place}
pub use Rattle.std.specs.List.{All, AllByRecursion, list_all, list_any, slice_get}
pub use Rattle.std.specs.Option.{is_none, option_or}
pub use Rattle.std.specs.Prelude.{Err, Ok, Result, option_map, slice_index}
pub use Rattle.std.specs.Result.{result_err}
pub use Rattle.std.specs.Str.Parse.{digits_value}
pub use Rattle.pfs_base.proofs.Published.Lists.{all_and_last, by_push, enumerate_from-append, slice_get-append}
pub use Rattle.pfs_base.proofs.Published.Lists.{slice_get-push}
pub use Rattle.pfs_base.proofs.Published.SendsLemmas.{front_of, then_front}
pub use Rattle.pfs_base.proofs.Published.SendsOn.{goes_on-fits, goes_on-more, goes_on-stopped}
pub use Rattle.pfs_base.proofs.Published.SpacedLemmas.{flat_map_from, flat_map_more}
pub use Rattle.pfs_base.specs.FlowShop.{FlowShop, time_of, with_time}
pub use Rattle.pfs_base.specs.Limits.{limits}
pub use Rattle.pfs_base.specs.Lists.{all_but_last, below, first_some, is_empty, last_of}
pub use Rattle.pfs_base.specs.Problem.{Problem}
pub use Rattle.pfs_base.specs.Sends.{SendsAll}
pub use Rattle.pfs_base.specs.Text.{spaced}
pub use Rattle.pfs_base.specs.declared.limits.TheConstants.{LONGEST_INPUT, LONGEST_TIME}
pub use Rattle.pfs_layout.specs.Block.{due_count, is_due, row_count, is_within_limits}
pub use Rattle.pfs_layout.specs.Block.{size_of, Block, Now, Stand, after_line, begun, completed, inside, lost}
pub use Rattle.pfs_layout.specs.Block.{place_of_time, seeking, standing, with_line, Layout, Size}
unfoldable pub use Rattle.pfs_layout.specs.Block.{are_due, due, due_at, due_row, stated_size, instance_of, stand}
unfoldable pub use Rattle.pfs_layout.specs.Block.{stand_after}
pub use Rattle.pfs_layout.specs.Lines.{is_blank, is_digit, is_line_end, is_word_byte, ended_lines, is_mixed}
pub use Rattle.pfs_layout.specs.Lines.{is_no_digit, is_number_line, last_digits, open_line}
pub use Rattle.pfs_layout.specs.CanonicalText.{row_line, row_lines}
unfoldable pub use Rattle.pfs_layout.specs.CanonicalText.{canonical_text}
pub use Rattle.pfs_layout.specs.File.{AreBlocks, Front, IsBlock, IsInstance, IsInstanceFile, IsSomeBlock}
unfoldable pub use Rattle.pfs_layout.specs.Generator.{generated, seed_after}
pub use Rattle.pfs_layout.specs.Laws.{Completes, Seeks}
unfoldable pub use Rattle.pfs_layout.specs.Lines.{ended_numbers, ended_parts, lines, numbers, open_part}
pub use Rattle.pfs_layout.specs.Private.Step.{IsReady, at_end, body_validated, has_numbers_alone, after_byte}
pub use Rattle.pfs_layout.specs.Private.Step.{last_number_ended, no_numbers, open_number, rejected, TakenTo}
unfoldable pub use Rattle.pfs_layout.specs.Private.Step.{line_ended, number_ended}
pub use Rattle.pfs_layout.specs.Reader.{EndsWantedSize, FeedMeets, Fields, FinishMeets, Follows, FollowsBlocks}
pub use Rattle.pfs_layout.specs.Reader.{FollowsBody, FollowsLine, FollowsNow, HoldsFew, HoldsNumbers, IsReader}
pub use Rattle.pfs_layout.specs.Reader.{HasRead, HasReadIn, block_of, fields, is_live, time_count}
unfoldable pub use Rattle.pfs_layout.specs.Reader.{block_read}
pub use Rattle.pfs_layout.specs.Rejection.{LayoutFault, RejectsInstance, misfit, size_fault}
unfoldable pub use Rattle.pfs_layout.specs.Rejection.{accepted, byte_fault, ends_early, fault_of_place, mixed_line}
unfoldable pub use Rattle.pfs_layout.specs.Rejection.{rejection, wrong_number, wrong_size}
pub use Rattle.pfs_layout.specs.declared.blocks.Blocks.{Blocks}
pub use Rattle.pfs_layout.specs.declared.body.Due.{Due}
pub use Rattle.pfs_layout.specs.declared.blocks.Phase.{Phase}
pub use Rattle.pfs_layout.specs.declared.blocks.Progress.{Progress}
pub use Rattle.pfs_layout.specs.declared.fault.LayoutFault.TheVariants.{Memory, Read, SeedRange, TooLong}
pub use Rattle.pfs_layout.specs.declared.layout.Layout.TheVariants.{OrLib, Taillard}
pub use Rattle.pfs_layout.specs.declared.scan.Line.{Line}
pub use Rattle.pfs_layout.specs.declared.scan.Number.{Number}
pub use Rattle.pfs_layout.specs.declared.scan.TheConstants.{CEILING}
pub use Rattle.pfs_layout.specs.declared.size_line.SizeLine.{SizeLine}

pub cases_option : {A : Type 0} (o : Option A) → (o ≡ None) ⊎ ((x : A) × (o ≡ Some x))
cases_option None = inl refl
cases_option (Some x) = inr (x, refl)

pub or_none : {A : Type 0} (o p : Option A) → option_or o p ≡ None → (o ≡ None) × (p ≡ None)
or_none o p e = grind arith
