-- The words of the proofs, passed on from the modules that define them.
pub use Rattle.mux_config.proofs.Keeping.{absent_found, add_sub_fits, add_sub_keeps, changed_here, drop_sub_keeps}
pub use Rattle.mux_config.proofs.Keeping.{edits_keep, entry_holds, entry_key, subs_keep}
pub use Rattle.mux_config.specs.Configuration.{Configuration, IsAscending, IsComponent, IsConfiguration, IsPlaced}
pub use Rattle.mux_config.specs.Configuration.{size_of_sub, sub_key}
pub use Rattle.mux_config.specs.Edits.{IsInRange, add_sub_fault, at_rate, at_start, changed, edit_fault}
pub use Rattle.mux_config.specs.Edits.{placing_fault, sub_added}
pub use Rattle.mux_config.specs.Sound.{IsCrowded, IsUnitOf}
pub use Rattle.mux_config.specs.Tables.{entry_at, with_entry, with_entry_changed, without_entry}
pub use Rattle.mux_config.specs.declared.edit.Edit.TheVariants.{AddComponent, AddPacket, AddService, AddSub}
pub use Rattle.mux_config.specs.declared.edit.Edit.TheVariants.{DropComponent, DropPacket, DropService, DropSub}
pub use Rattle.mux_config.specs.declared.edit.Edit.TheVariants.{MoveSub, RateSub}
pub use Rattle.mux_tables.specs.Members.{InPlace, members}
pub use Rattle.mux_tables.specs.Units.{Counts, CountsIn, CountsOut, has_unit, no_units, share, span_of, units_at, users}
pub use Rattle.mux_tables.specs.Units.{with_sub_channels}
pub use Rattle.mux_tables.specs.declared.span.Span.{Span}
pub use Rattle.mux_tables.specs.declared.unit_map.Block.{Block}
pub use Rattle.mux_types.proofs.Elements.{contains_cases, contains_first, contains_later, contains_none, each_contains}
pub use Rattle.mux_types.proofs.Tables.{ascends_changed, changed_absent, each_changed, without_absent}
pub use Rattle.mux_types.specs.declared.parts.Sub.{Sub}
pub use Rattle.std.proofs.Common.{[], ◌%◌, ◌*◌, ◌+◌, ◌-◌, ◌/◌, ◌<◌, ◌==◌, ◌^◌, ◌↔◌, ◌∙◌, ◌∷◌, ◌≡◌, ◌≢◌, ◌≤◌, ◌⊎◌, Bool}
pub use Rattle.std.proofs.Common.{Contains, IfSome, IsTrue, List, None, Option, Some, add-one, ap, arith, cond, false}
pub use Rattle.std.proofs.Common.{filter, get_or, inl, inr, length, ltb, map, not, refl, rules, set, slice_get, subst}
pub use Rattle.std.proofs.Common.{suc, sym, take, true, zero, ℕ}
pub use Rattle.std.proofs.lemmas.Bool.{cases_lt, eq-eqb, eqb-true, false≢true, le-ltb, lt-ltb, ne_eqb}
pub use Rattle.std.proofs.lemmas.Bool.Decides.{nat_tests}
pub use Rattle.std.proofs.lemmas.List.{length-map}
pub use Rattle.std.specs.List.{AllByRecursion, find, range_with_len}
