-- The words of the proofs, passed on from the modules that define them.
pub use Rattle.mux_config.specs.Change.{ChangeIsUnique, bits_of, change_of, has_same_services, has_same_subs}
pub use Rattle.mux_config.specs.Edits.{EditsKeep, absent_or, add_component_fault, add_packet_fault, add_service_fault}
pub use Rattle.mux_config.specs.Edits.{add_sub_fault, at_rate, at_start, component_added, component_dropped}
pub use Rattle.mux_config.specs.Edits.{component_fault, drop_component_fault, edited, has_bad_address, has_bad_rate}
pub use Rattle.mux_config.specs.Edits.{is_past_end, move_sub_fault, packet_added, packet_dropped, placing_fault}
pub use Rattle.mux_config.specs.Edits.{rate_sub_fault, service_added, service_at, service_dropped, sub_added, sub_at}
pub use Rattle.mux_config.specs.Edits.{sub_dropped, sub_moved, sub_rated, with_component, without_carrier}
pub use Rattle.mux_config.specs.FieldReading.{◌>>=◌, Reads, byte_at, byte_within, component_at, flag_at, judged}
pub use Rattle.mux_config.specs.FieldReading.{number_at, place, protection_at, refuse, set_of, sid_at, sid_of_kind}
pub use Rattle.mux_config.specs.FieldReading.{u16_in_range}
pub use Rattle.mux_config.specs.FieldSpelling.{component_bytes, flag_byte, protection_bytes, set_byte, sid_field}
pub use Rattle.mux_config.specs.FieldSpelling.{u16_bytes}
pub use Rattle.mux_config.specs.Reading.{components_at, config_at, members_at, read_packet, read_service, read_sub}
pub use Rattle.mux_config.specs.Reading.{size_or_field}
pub use Rattle.mux_config.specs.RecordFaults.{CutsAreShort, FaultsAreFirst, FaultsStay, HasFault, ShortBeforePlaces}
pub use Rattle.mux_config.specs.Sound.{IsCrowded, IsSound, IsThere, IsUnitOf, first_fault, first_of_two, first_overlap}
pub use Rattle.mux_config.specs.Sound.{has_address_twice, has_orphan, has_same_address, is_crowded, is_empty_service}
pub use Rattle.mux_config.specs.Sound.{is_missing, other_fault, overlap_with, overlaps, sound_or_fault, sound_unless}
pub use Rattle.mux_config.specs.SoundFaults.{AreAddressed, AreApart, AreCarried, AreFilled, FaultIsUnique, IsFault}
pub use Rattle.mux_config.specs.SoundFaults.{IsFirstOverlap}
pub use Rattle.mux_config.specs.Spelling.{config_bytes, packet_record, service_record, sub_record}
pub use Rattle.mux_config.specs.declared.edit.Edit.TheVariants.{AddComponent, AddPacket, AddService, AddSub}
pub use Rattle.mux_config.specs.declared.edit.Edit.TheVariants.{DropComponent, DropPacket, DropService, DropSub}
pub use Rattle.mux_config.specs.declared.edit.Edit.TheVariants.{MoveSub, RateSub}
pub use Rattle.mux_config.specs.declared.fault.ConfigFault.{ConfigFault}
pub use Rattle.mux_config.specs.declared.fault.ConfigFault.TheVariants.{AddressUsed, EmptyService, Orphan, Overlap}
pub use Rattle.mux_config.specs.declared.fault.EditFault.TheVariants.{BadAddress, BadRate, IdAbsent, IdUsed, PastEnd}
pub use Rattle.mux_config.specs.declared.fault.EditFault.TheVariants.{TableFull, TooManyComponents}
pub use Rattle.mux_config.specs.declared.record.RecordFault.{RecordFault}
pub use Rattle.mux_config.specs.declared.record.RecordFault.TheVariants.{Field, Order, Short}
pub use Rattle.mux_eep.specs.Sizes.{IsSize, OneRate, Profile, rate_step, size_or_fault, table_size, units_of_step}
pub use Rattle.mux_eep.specs.declared.fault.EepFault.{EepFault}
pub use Rattle.mux_eep.specs.declared.fault.EepFault.TheVariants.{NotMultiple, PastMultiplex, ZeroRate}
pub use Rattle.mux_eep.specs.declared.sizes.EepSet.{EepSet}
pub use Rattle.mux_eep.specs.declared.sizes.EepSet.TheVariants.{A, B}
pub use Rattle.mux_types.proofs.Elements.{contains_cases, contains_first, contains_later, contains_none, each_contains}
pub use Rattle.mux_types.proofs.Tables.{ascends_changed, ascends_pushed, ascends_with, ascends_without, each_changed}
pub use Rattle.mux_types.proofs.Tables.{each_pushed, each_weaker, each_with, each_without}
pub use Rattle.mux_types.proofs.Walking.{any_end, any_found, any_more, cut, each_at, same_more, same_not}
pub use Rattle.mux_types.specs.Configuration.{AreDifferent, Configuration, IsAddressed, IsAscending, IsComponent}
pub use Rattle.mux_types.specs.Configuration.{IsConfiguration, IsPlaced, IsService, IsSid, carrier_of, component_limit}
pub use Rattle.mux_types.specs.Configuration.{nothing, packet_key, service_key, sid_key, size_of_sub, sub_key}
pub use Rattle.mux_types.specs.Facts.{FactSetsIdentify, FactsIdentify, HaveSameMembers, Marked, component_entries}
pub use Rattle.mux_types.specs.Facts.{component_entry, marked, option_of, packet_entry, service_entries, service_entry}
pub use Rattle.mux_types.specs.Facts.{sub_entries, sub_entry}
pub use Rattle.mux_types.specs.Sameness.{is_same_carrier, is_same_component, is_same_flag, is_same_list, is_same_packet}
pub use Rattle.mux_types.specs.Sameness.{is_same_service, is_same_set, is_same_sid, is_same_sub, names}
pub use Rattle.mux_types.specs.Tables.{changed_at, entry_at, has_entry, with_entry, with_entry_changed, without_entry}
pub use Rattle.mux_types.specs.declared.entry.Entry.{Entry}
pub use Rattle.mux_types.specs.declared.numbers.Sid.{Sid}
pub use Rattle.mux_types.specs.declared.parts.Carrier.{Carrier}
pub use Rattle.mux_types.specs.declared.parts.Component.{Component}
pub use Rattle.mux_types.specs.declared.parts.Component.TheVariants.{Sound, Stream}
pub use Rattle.mux_types.specs.declared.parts.Packet.{Packet}
pub use Rattle.mux_types.specs.declared.parts.Service.{Service}
pub use Rattle.mux_types.specs.declared.parts.Sub.{Sub}
pub use Rattle.std.proofs.Common.{[], ◌%◌, ◌*◌, ◌++◌, ◌+◌, ◌-◌, ◌/◌, ◌<◌, ◌==◌, ◌||◌, ◌↔◌, ◌∙◌, ◌∷◌, ◌≡◌, ◌≢◌}
pub use Rattle.std.proofs.Common.{◌≤◌, ◌⊎◌, Bool, Contains, Err, IfErr, IfOk, List, None, Ok, Option, Result, Some, ap}
pub use Rattle.std.proofs.Common.{append_assoc, arith, cond, drop, eqb, false, get_or, inl, inr, is_some, leb, length}
pub use Rattle.std.proofs.Common.{length-append, ltb, map, not, option_copied, refl, replicate, rules, slice_get}
pub use Rattle.std.proofs.Common.{slice_index_or, slice_set, subst, suc, sym, take, true, zero, ℕ}
pub use Rattle.std.proofs.Math.Nat.{le-mul_of_pos_right, mul-div_cancel_left}
pub use Rattle.std.proofs.lemmas.Bool.{cases_eq, cases_lt, eq-eqb, eqb-false, eqb-true, false≢true, le-ltb, leb-false}
pub use Rattle.std.proofs.lemmas.Bool.{lt-ltb, ltb-false, ltb-true, ne_eqb}
pub use Rattle.std.proofs.lemmas.List.{append-nil, drop-append-le, drop_all, drop_at, flat_map_more, get_or-drop}
pub use Rattle.std.proofs.lemmas.List.{get_or-replicate, get_or-set_other, get_or-take, get_or_past, length-drop}
pub use Rattle.std.proofs.lemmas.List.{length-map, length-set, length-take, length-take-le, length_push}
pub use Rattle.std.proofs.lemmas.List.{take-append-drop, take-append-le, take_at}
pub use Rattle.std.proofs.lemmas.Result.{err_from_is_err_and}
pub use Rattle.std.specs.Int.{Width, byte_len, from_be_bytes, to_be_bytes, w16, w32}
pub use Rattle.std.specs.List.{AllByRecursion, filter, flat_map, list_any, range_with_len, remove}
