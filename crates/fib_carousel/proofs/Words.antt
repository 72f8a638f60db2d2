-- The words of the proofs, passed on from the modules that define them.
pub use Rattle.fib_carousel.specs.Bytes.{AreFibs, ensemble_figs, figs_by, figs_of, page_bytes, page_figs, reserved_figs}
pub use Rattle.fib_carousel.specs.Bytes.{run_of, used_figs, with_entry_first}
pub use Rattle.fib_carousel.specs.Carried.{AreSendable, IsPageable, IsSendable, PagesKeepReserve}
pub use Rattle.fib_carousel.specs.Filling.{Begins, FitsBy, Grows, GrowsBy, Lengthens, TakesEntry}
pub use Rattle.fib_carousel.specs.Greedy.{extended, numbers_from, opened, packing, placed, start}
pub use Rattle.fib_carousel.specs.Items.{config_entries, item_entry}
pub use Rattle.fib_carousel.specs.Packing.{AreSmall, IsDivision, IsPacking, NeverFalls, cost, entries_in_fib}
pub use Rattle.fib_carousel.specs.Packing.{entries_where, figs_size, last_number, room, rounds_of, same_flag, same_head}
pub use Rattle.fib_carousel.specs.Packing.{size_of}
pub use Rattle.fib_carousel.specs.Pages.{fib_entries, fibs_of_page, first_fib, later_fibs, page_entries}
pub use Rattle.fib_carousel.specs.Pages.{page_set, pages_below, rounds}
pub use Rattle.fib_carousel.specs.Runs.{IsPlacedAfter, IsThenWithin, all_placed, closed, packet_shape, shape_cost}
pub use Rattle.fib_carousel.specs.Runs.{shape_of, state_at, step, steps, sub_shape}
pub use Rattle.fib_carousel.specs.Shapes.{AreAlike, IsRun, PutsRun, TakesRuns, marked_bytes, piece}
pub use Rattle.fib_carousel.specs.Walk.{HasPassed, IsAtFib, IsShapeAt, NextIsAfter}
pub use Rattle.fib_carousel.specs.declared.pack_state.EntryShape.{EntryShape}
pub use Rattle.fib_carousel.specs.declared.pack_state.PackState.{PackState}
pub use Rattle.fib_carousel.specs.declared.pack_state.Position.{Position}
pub use Rattle.fib_carousel.specs.declared.page_writer.OpenFig.{OpenFig}
pub use Rattle.fib_codec.proofs.Finished.{fib_is, length-filled, valid_is}
pub use Rattle.fib_codec.proofs.Lengths.{AllByRecursion-at, components_len, entry_length, flat_map-append}
pub use Rattle.fib_codec.proofs.Lengths.{AllByRecursion-append}
pub use Rattle.fib_codec.specs.Heard.{IsEnsembleHeardInRow, IsHeardInRow, IsInFib, fib_at, marked_of}
pub use Rattle.fib_codec.specs.Layouts.{empty_fib, frame_fibs, reserved_fibs, used_fibs}
pub use Rattle.fib_codec.specs.Ranges.{IsComponentEntry, IsEnsembleInformation}
pub use Rattle.fib_codec.specs.Spelling.{IsUnder, IsWritten, Written, checked, component_u16, components_bytes}
pub use Rattle.fib_codec.specs.Spelling.{entries_bytes, entry_bytes, entry_size, ext_of, fib_bytes, fig_bytes}
pub use Rattle.fib_codec.specs.Spelling.{figs_bytes, filled, head_byte, head_of, is_long_entry, occurrence_bytes}
pub use Rattle.fib_codec.specs.Spelling.{sid_size}
pub use Rattle.fib_codec.specs.declared.frame_layout.FrameLayout.{FrameLayout}
pub use Rattle.fib_codec.specs.declared.frame_layout.FrameLayout.TheVariants.{ReserveOne, ReserveTwo, Whole}
pub use Rattle.fib_codec.specs.declared.head.Head.{Head}
pub use Rattle.fib_codec.specs.declared.modes.Mode.TheVariants.{I, II, III, IV}
pub use Rattle.mux_config.specs.Configuration.{Configuration, IsAddressed, IsComponent, IsConfiguration, IsPlaced}
pub use Rattle.mux_config.specs.Configuration.{IsService, component_limit}
pub use Rattle.mux_types.proofs.Elements.{each_contains}
pub use Rattle.mux_types.proofs.Walking.{cut}
pub use Rattle.mux_types.specs.Entries.{EnsembleInformation}
pub use Rattle.mux_types.specs.Facts.{Marked, component_entries, component_entry, facts_of, marked, option_of}
pub use Rattle.mux_types.specs.Facts.{packet_entry, service_entries, service_entry, sub_entries, sub_entry}
pub use Rattle.mux_types.specs.declared.entry.Entry.{Entry}
pub use Rattle.mux_types.specs.declared.numbers.Sid.{Sid}
pub use Rattle.mux_types.specs.declared.numbers.Sid.TheVariants.{Long, Short}
pub use Rattle.mux_types.specs.declared.parts.Component.{Component}
pub use Rattle.mux_types.specs.declared.parts.Packet.{Packet}
pub use Rattle.mux_types.specs.declared.parts.Service.{Service}
pub use Rattle.mux_types.specs.declared.parts.Sub.{Sub}
pub use Rattle.std.proofs.Common.{[], ◌%◌, ◌&&◌, ◌*◌, ◌++◌, ◌+◌, ◌-◌, ◌/◌, ◌<◌, ◌==◌, ◌↔◌, ◌∙◌, ◌∷◌, ◌≡◌, ◌≤◌, ◌⊎◌}
pub use Rattle.std.proofs.Common.{Bool, Contains, IfSome, IsSome, List, None, Option, Some, ap, append-nil}
pub use Rattle.std.proofs.Common.{append_assoc, arith, drop, eq-eqb, false, flat_map, get_or, if◌then◌else◌, inl, inr}
pub use Rattle.std.proofs.Common.{is_some, le-ltb, length, lt-ltb, map, nat_le, nat_lt, option_map, refl, replicate}
pub use Rattle.std.proofs.Common.{slice_get, slice_index, slice_index_or, slice_set, subst, suc, sym, take, true, zero}
pub use Rattle.std.proofs.Common.{ℕ}
pub use Rattle.std.proofs.Math.Nat.{add-mod_right, div-mul-le_self, le-div_iff_mul-le, mod-eq-sub-div-mul, mod-lt}
pub use Rattle.std.proofs.Math.Nat.{mul-le-mul_left}
pub use Rattle.std.proofs.Math.Seq.{drop-append-add, get_or-append_right, get_or-append_seam, set-append_seam, take-add}
pub use Rattle.std.proofs.Math.Seq.{take-append-add}
pub use Rattle.std.proofs.lemmas.Bool.{cases_lt, eqb-true, le-leb, lt-leb, ne_eqb, and_parts}
pub use Rattle.std.proofs.lemmas.List.{drop-append-le, drop-drop, drop-map, drop_all, drop_at, ext_get_or}
pub use Rattle.std.proofs.lemmas.List.{get_or-drop, get_or-take, get_or_append_left, length-append, length-drop}
pub use Rattle.std.proofs.lemmas.List.{length-map, length-replicate, length-set, length-take-le, map-append}
pub use Rattle.std.proofs.lemmas.List.{take-append-le, take-map, take-replicate, take_at, take_more}
pub use Rattle.std.proofs.lemmas.List.Elements.{Contains-append_cases, Contains-append_left, Contains-append_right}
pub use Rattle.std.proofs.lemmas.Option.{get_or_from_slice_get, slice_get-get_or, slice_get-map, slice_get_read}
pub use Rattle.std.proofs.lemmas.Option.{slice_get_within}
pub use Rattle.std.specs.List.{AllByRecursion, range_with_len}
