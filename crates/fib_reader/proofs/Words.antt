-- The words of the proofs, passed on from the modules that define them.
pub use Rattle.fib_codec.specs.Extensions.{number_of}
pub use Rattle.fib_codec.specs.Grammar.{AreEntries, AreFigs, Fig, IsBody, IsCounted, IsEntry, IsFib, IsFig, IsOther}
pub use Rattle.fib_codec.specs.Grammar.{Open, Other, ensemble_len, entry_len, fig_of, fig_spelled, is_long, is_next}
pub use Rattle.fib_codec.specs.Grammar.{is_open, packet_len, service_len, sub_len}
pub use Rattle.fib_codec.specs.Ranges.{IsComponentEntry, IsWithin}
pub use Rattle.fib_codec.specs.Spelling.{SpellingIdentifies, fib_bytes}
pub use Rattle.fib_codec.specs.declared.head.Head.{Head}
pub use Rattle.fib_reader.specs.Faults.{AreWhole, BeginsNone, IsBodyFault, IsEntryFault, IsFibFault, IsFigFault, IsGood}
pub use Rattle.fib_reader.specs.Faults.{IsNoEntryAt, IsNotOneAt, IsOverrun, LeadsToHeader}
pub use Rattle.fib_reader.specs.FirstFault.{body_fault, ensemble_fault, entries_fault, entry_at_fault, fig_fault}
pub use Rattle.fib_reader.specs.FirstFault.{figs_fault, or_else}
pub use Rattle.fib_reader.specs.Forecast.{HasGrown, HasGrownBy, IsKnownTo, LeavesRoom}
pub use Rattle.fib_reader.specs.Listening.{Listening, Pictured, all_entries, at_ensemble, has_room}
pub use Rattle.fib_reader.specs.Listening.{hear_entries, hear_entry, hear_fig, hear_figs, identifier_of, into, is_known}
pub use Rattle.fib_reader.specs.Listening.{is_made, kept, picture_of, pictured, untuned, where_heard}
pub use Rattle.fib_reader.specs.Picture.{AreInOrder, IsBefore, IsKept, IsPictured, IsSubOf, Shows}
pub use Rattle.fib_reader.specs.Raw.{IsRaw, Raw, ensemble_in, entries_in, head_in, raw_entry, raw_of}
pub use Rattle.fib_reader.specs.Remembering.{Agrees, KeepsCurrent, Remembers, basis_of}
pub use Rattle.fib_reader.specs.Walk.{AreRaw, IsWholeFig, entries_of, fig_of_bytes, figs_of_bytes, pieces_of, raws_of}
pub use Rattle.fib_reader.specs.declared.basis.Basis.{Basis}
pub use Rattle.fib_reader.specs.declared.basis.Basis.TheVariants.{All, Current, Pictures}
pub use Rattle.fib_reader.specs.declared.fault.FibFault.{FibFault}
pub use Rattle.fib_reader.specs.declared.fault.FibFault.TheVariants.{Crc, Entry, Overrun}
pub use Rattle.fib_reader.specs.declared.known_fibs.KnownFibs.{KnownFibs}
pub use Rattle.mux_config.proofs.Keeping.{absent_told, is_found_lent, length_with, present}
pub use Rattle.mux_config.specs.Configuration.{AreDifferent, Configuration, IsAddressed, IsAscending, IsComponent}
pub use Rattle.mux_config.specs.Configuration.{IsConfiguration, IsPlaced, IsService, IsSid, carrier_of, component_limit}
pub use Rattle.mux_config.specs.Configuration.{packet_key, service_key, sid_key, sub_key}
pub use Rattle.mux_config.specs.Sameness.{is_same_carrier, names}
pub use Rattle.mux_config.specs.Tables.{entry_at, has_entry, with_entry, with_entry_changed}
pub use Rattle.mux_types.proofs.Tables.{ascends_with, each_changed, each_weaker, each_with, found_here}
pub use Rattle.mux_types.specs.Entries.{EnsembleInformation}
pub use Rattle.mux_types.specs.Facts.{FactsIdentify, component_entries, component_entry, marked, option_of}
pub use Rattle.mux_types.specs.Facts.{packet_entry, service_entries, service_entry, sub_entries, sub_entry}
pub use Rattle.mux_types.specs.declared.parts.Component.{Component}
pub use Rattle.mux_types.specs.declared.parts.Component.TheVariants.{Packet, Sound, Stream}
pub use Rattle.std.proofs.Common.{[], ◌%◌, ◌*◌, ◌++◌, ◌+◌, ◌-◌, ◌/◌, ◌<◌, ◌==◌, ◌∙◌, ◌∷◌, ◌≡◌, ◌≢◌, ◌≤◌, ◌⊎◌, Bool, Bor}
pub use Rattle.std.proofs.Common.{IfSome, List, None, Ok, Option, Some, ap, append_assoc, arith, cond, drop, false}
pub use Rattle.std.proofs.Common.{flat_map, get_or, inl, inr, is_some, le-ltb, length, length-drop, lt-ltb, map, min}
pub use Rattle.std.proofs.Common.{nat_lt, refl, rules, slice_get, subst, suc, sym, take, true, zero, ℕ}
pub use Rattle.std.proofs.Math.Seq.{drop-append_seam, take-append_seam}
pub use Rattle.std.proofs.lemmas.Bool.{cases_Bool, cases_eq, cases_lt, cond_both, eq-eqb, eqb-false, eqb-true}
pub use Rattle.std.proofs.lemmas.Bool.{false≢true, ltb-false, ltb-true, ne_eqb, or_left, or_right}
pub use Rattle.std.proofs.lemmas.List.{append-nil, drop_min, get_or-map, get_or-replicate}
pub use Rattle.std.proofs.lemmas.List.{get_or_append_left, length-append, length-map, length-take-le}
pub use Rattle.std.proofs.lemmas.List.{map-append, take-append-drop, take-map, take_min, take_more}
pub use Rattle.std.proofs.lemmas.Option.{get_or_from_slice_get, slice_get-get_or, slice_get_within}
pub use Rattle.std.specs.List.{AllByRecursion, list_any}
pub use Rattle.std.specs.Option.{option_copied}
pub use Rattle.std.specs.Prelude.{◌&&◌, ◌||◌}
