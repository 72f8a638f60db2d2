-- The words of the proofs, passed on from the modules that define them.
pub use Rattle.fib_carousel.specs.Greedy.{extended, numbers_from, opened, packing, placed, start}
pub use Rattle.fib_carousel.specs.Packing.{last_number}
pub use Rattle.fib_carousel.specs.Pages.{EachInAPage, PageIsFibs, page_set, rounds}
pub use Rattle.fib_codec.specs.Layouts.{frame_fibs, layout_mode, used_fibs}
pub use Rattle.fib_codec.specs.Ranges.{IsWithin}
pub use Rattle.fib_codec.specs.declared.frame_layout.FrameLayout.{FrameLayout}
pub use Rattle.fib_codec.specs.declared.frame_layout.FrameLayout.TheVariants.{ReserveOne, ReserveTwo, Whole}
pub use Rattle.fib_codec.specs.declared.modes.Mode.TheVariants.{I, II, III, IV}
pub use Rattle.fib_reader.specs.Listening.{Listening, Pictured, all_entries, at_ensemble, untuned}
pub use Rattle.fib_reader.specs.Picture.{IsKept, IsSubOf, Shows}
pub use Rattle.fib_reader.specs.Raw.{Raw, raw_entry}
pub use Rattle.mux_config.proofs.Keeping.{absent_found, carrier_same, entry_holds, entry_key, length_with}
pub use Rattle.mux_config.proofs.Same.{component_itself, component_same, packet_same}
pub use Rattle.mux_config.specs.Edits.{absent_or, add_packet_fault, add_service_fault, add_sub_fault, at_rate, at_start}
pub use Rattle.mux_config.specs.Edits.{changed, component_fault, drop_component_fault, edit_fault, has_bad_address}
pub use Rattle.mux_config.specs.Edits.{has_bad_rate, is_past_end, packet_at, placing_fault, service_at, sub_at}
pub use Rattle.mux_config.specs.Edits.{with_component, without_carrier}
pub use Rattle.mux_config.specs.declared.edit.Edit.{Edit}
pub use Rattle.mux_config.specs.declared.edit.Edit.TheVariants.{AddComponent, AddPacket, AddService, AddSub}
pub use Rattle.mux_config.specs.declared.edit.Edit.TheVariants.{DropComponent, DropPacket, DropService, DropSub}
pub use Rattle.mux_config.specs.declared.edit.Edit.TheVariants.{MoveSub, RateSub}
pub use Rattle.mux_config.specs.declared.fault.EditFault.TheVariants.{IdAbsent, PastEnd}
pub use Rattle.mux_eep.specs.Sizes.{IsSize, Profile, SizesGrow, rate_step, size_or_fault, table_size, units_of_step}
pub use Rattle.mux_eep.specs.declared.sizes.EepSet.{EepSet}
pub use Rattle.mux_eep.specs.declared.sizes.EepSet.TheVariants.{A, B}
pub use Rattle.mux_types.proofs.Tables.{ascends_with, each_weaker}
pub use Rattle.mux_types.specs.Configuration.{AreDifferent, Configuration, IsAddressed, IsAscending, IsComponent}
pub use Rattle.mux_types.specs.Configuration.{IsConfiguration, IsPlaced, IsService, IsSid, carrier_of, component_limit}
pub use Rattle.mux_types.specs.Configuration.{nothing, packet_key, service_key, sid_key, size_of_sub, sub_key}
pub use Rattle.mux_types.specs.Entries.{EnsembleInformation}
pub use Rattle.mux_types.specs.Facts.{Marked, facts_of, marked, packet_entry, service_entry, sub_entry}
pub use Rattle.mux_types.specs.Sameness.{is_same_carrier, is_same_component, is_same_packet, is_same_set, names}
pub use Rattle.mux_types.specs.Tables.{changed_at, entry_at, with_entry, without_entry}
pub use Rattle.mux_types.specs.declared.entry.Entry.{Entry}
pub use Rattle.mux_types.specs.declared.numbers.Sid.{Sid}
pub use Rattle.mux_types.specs.declared.numbers.Sid.TheVariants.{Long, Short}
pub use Rattle.mux_types.specs.declared.parts.Component.{Component}
pub use Rattle.mux_types.specs.declared.parts.Packet.{Packet}
pub use Rattle.mux_types.specs.declared.parts.Service.{Service}
pub use Rattle.mux_types.specs.declared.parts.Sub.{Sub}
pub use Rattle.plan_code.specs.Program.{IsCarrier, IsEdit, IsPlan}
pub use Rattle.plan_code.specs.declared.plan.Plan.{Plan}
pub use Rattle.script_config.specs.Differences.{after_common, alterations, components_dropped, edits_between}
pub use Rattle.script_config.specs.Differences.{is_same_profile, packet_gone, packet_new, rate_altered, service_cut}
pub use Rattle.script_config.specs.Differences.{service_gone, service_grown, start_altered, sub_altered, sub_gone}
pub use Rattle.script_config.specs.Differences.{sub_new}
pub use Rattle.script_config.specs.Ensembles.{NamesAfter, named_by_entries, named_by_figs}
pub use Rattle.script_config.specs.Frames.{FitFrames, edits_in}
pub use Rattle.script_config.specs.HeardAgain.{PagesAreHeardAgain, page_frames, steady}
pub use Rattle.script_config.specs.Items.{made_by, unless_fault}
pub use Rattle.script_config.specs.Making.{components_added, edits_that_make, packet_edits, service_edits, sub_edits}
pub use Rattle.script_config.specs.Openings.{IsSoundOpening, IsOpeningReason}
pub use Rattle.script_config.specs.Plain.{acts_from, items_from}
pub use Rattle.script_config.specs.Plan.{committed, paced, pause_after, plan_acts}
pub use Rattle.script_config.specs.Sequences.{HaveNoFault, Transform, after}
pub use Rattle.script_config.specs.Unsaid.{AreSaid, IsFirstUnsaid, IsSaid}
pub use Rattle.script_front.specs.Alike.{added_by}
pub use Rattle.script_front.specs.Tree.{Adds, AllFit, AreNamedApart, IsAct, IsInBounds, IsItem, IsScript, Tree, counted}
pub use Rattle.script_front.specs.Tree.{counted_in}
pub use Rattle.script_front.specs.declared.tree.Act.{Act}
pub use Rattle.script_front.specs.declared.tree.Act.TheVariants.{CommitIn, Join, Wait}
pub use Rattle.script_front.specs.declared.tree.Item.{Item}
pub use Rattle.std.proofs.Common.{[], ◌%◌, ◌&&◌, ◌*◌, ◌++◌, ◌+◌, ◌-◌, ◌/◌, ◌<◌, ◌==◌, ◌||◌, ◌∙◌, ◌∷◌, ◌≡◌, ◌≢◌, ◌≤◌}
pub use Rattle.std.proofs.Common.{Bool, Err, List, None, Ok, Option, Result, Some, add-one, ap, append_assoc, arith}
pub use Rattle.std.proofs.Common.{cond, drop, drop-cons, eqb, false, get_or, if◌then◌else◌, inl, inr, leb, length}
pub use Rattle.std.proofs.Common.{length-append, length-take-le, ltb, map, nat_lt, not, refl, subst, suc, sym, take}
pub use Rattle.std.proofs.Common.{true, zero, ℕ}
pub use Rattle.std.proofs.Math.Nat.{div-mul-le_self, mod-eq_of_lt, mod-lt, mod_self, suc-mod}
pub use Rattle.std.proofs.lemmas.Bool.{cases_eq, cases_lt, eq-eqb, eqb-true, false≢true, le-ltb, lt-leb, lt-ltb, ne_eqb}
pub use Rattle.std.proofs.lemmas.List.{append-nil, drop_all, map-append, take_more}
pub use Rattle.std.specs.List.{All, AllByRecursion, filter, flat_map, list_any}
