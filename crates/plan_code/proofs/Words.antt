-- The words of the proofs, passed on from the modules that define them.
pub use Rattle.fib_codec.specs.Modes.{fib_count}
pub use Rattle.fib_codec.specs.declared.frame_layout.FrameLayout.TheVariants.{ReserveOne, ReserveTwo, Whole}
pub use Rattle.fib_codec.specs.declared.modes.Mode.TheVariants.{I, II, III, IV}
pub use Rattle.mux_config.proofs.FieldLaws.{Front, IsBytes, bind_ok, byte_front, byte_within_again, byte_within_front}
pub use Rattle.mux_config.proofs.FieldLaws.{component_again, component_front, done, flag_again, flag_front, front_then}
pub use Rattle.mux_config.proofs.FieldLaws.{guard_ok, long_again, long_front, ok_is, protection_again, protection_front}
pub use Rattle.mux_config.proofs.FieldLaws.{sid_again, sid_front, word_again, word_front}
pub use Rattle.mux_config.proofs.PlacedFields.{Placed, placed_bind, placed_byte, placed_byte_within, placed_component}
pub use Rattle.mux_config.proofs.PlacedFields.{placed_flag, placed_judged, placed_number, placed_protection, placed_sid}
pub use Rattle.mux_config.proofs.SteadyFields.{Goes, goes_bind, goes_byte, goes_byte_within, goes_component, goes_fault}
pub use Rattle.mux_config.proofs.SteadyFields.{goes_flag, goes_judged, goes_number, goes_protection, goes_sid}
pub use Rattle.mux_config.proofs.SteadyFields.{place_same}
pub use Rattle.mux_config.specs.Configuration.{Configuration, IsAscending, IsComponent, IsConfiguration, IsSid}
pub use Rattle.mux_config.specs.FieldReading.{Reads, byte_at, byte_within, judged, number_at, place}
pub use Rattle.mux_config.specs.Reading.{config_at, members_at}
pub use Rattle.mux_config.specs.Spelling.{config_bytes}
pub use Rattle.mux_config.specs.declared.edit.Edit.TheVariants.{AddComponent, AddPacket, AddService, AddSub}
pub use Rattle.mux_config.specs.declared.edit.Edit.TheVariants.{DropComponent, DropPacket, DropService, DropSub}
pub use Rattle.mux_config.specs.declared.edit.Edit.TheVariants.{MoveSub, RateSub}
pub use Rattle.mux_config.specs.declared.record.RecordFault.{RecordFault}
pub use Rattle.mux_config.specs.declared.record.RecordFault.TheVariants.{Order, Short}
pub use Rattle.plan_code.specs.Faults.{AreBytes, BytesLackNoMemory, HasCodeFault, HasFaultWithoutCode, HasOneFault}
pub use Rattle.plan_code.specs.Faults.{IsNoFile}
pub use Rattle.plan_code.specs.FileFaults.{CutsAreTruncated, FileFaultsAreFirst, FileFaultsStay, TruncatedBeforePlaces}
pub use Rattle.plan_code.specs.Flags.{ContactsChangeAlone, CountersChangeAlone, Includes, contact_ids, is_closed, is_in}
pub use Rattle.plan_code.specs.Formats.{◌▸◌, Format, Kind, any_byte, any_u16, byte_from, byte_of, component, flag}
pub use Rattle.plan_code.specs.Formats.{follows, kind, mapped, nothing, number_from, protection, sid, tagged_at}
pub use Rattle.plan_code.specs.Formats.{u16_from}
pub use Rattle.plan_code.specs.Machine.{AlwaysSettles, IsAllowed, IsLeastFrom, IsWindow, LoopsAsSet, LoopsRun, State}
pub use Rattle.plan_code.specs.Machine.{SwapsInTime, WindowsAreHalfOpen, advance, counter_of, effect, frames_until}
pub use Rattle.plan_code.specs.Machine.{is_in_window, looped, settle, suspend}
pub use Rattle.plan_code.specs.Opcodes.{OpcodesAgree, opcode_byte, opcode_of, opcodes}
pub use Rattle.plan_code.specs.Parts.{bounds, carrier_bytes, carrier_kind, contacts, counter, day_frame}
pub use Rattle.plan_code.specs.Parts.{day_frame_number, day_frame_or_none, delay, frames_number, frames_or_none}
pub use Rattle.plan_code.specs.Parts.{instr_bytes, instr_kind, label_bytes, label_from, line, no_bound, no_day_frame}
pub use Rattle.plan_code.specs.Parts.{opcode, some_number, some_or_none, swap_bytes, swap_kind, times}
pub use Rattle.plan_code.specs.Program.{AreBounds, IsCarrier, IsDayFrame, IsFrames, IsInstr, IsLabel, IsLine}
pub use Rattle.plan_code.specs.Program.{IsNewPacket, IsNewSub, IsPlan, IsProgram, Program, label_key}
pub use Rattle.plan_code.specs.Reading.{◌>>=◌, Fails, Gives, Header, Parses, code_of, config_in, count_at, fault_from}
pub use Rattle.plan_code.specs.Reading.{header_at, in_file, items_at, labels_in, layout_in, line_in, magic_at, mode_of}
pub use Rattle.plan_code.specs.Reading.{read_from, refuse_code, reserving}
pub use Rattle.plan_code.specs.Spelling.{code_bytes, header_bytes, layout_bytes, line_bytes, magic, mode_bytes}
pub use Rattle.plan_code.specs.Spelling.{plan_after, plan_bytes}
pub use Rattle.plan_code.specs.declared.fault.CodeFault.{CodeFault}
pub use Rattle.plan_code.specs.declared.fault.CodeFault.TheVariants.{Field, Limit, Magic, Memory, Trailing, Truncated}
pub use Rattle.plan_code.specs.declared.fault.CodeFault.TheVariants.{Version}
pub use Rattle.plan_code.specs.declared.flags.Contacts.{Contacts}
pub use Rattle.plan_code.specs.declared.hold.Hold.TheVariants.{Running, WaitsSwap}
pub use Rattle.plan_code.specs.declared.instr.Instr.{Instr}
pub use Rattle.plan_code.specs.declared.instr.Instr.TheVariants.{CommitAt, CommitIn, End, Join, Jump, Loop, Set, Settle}
pub use Rattle.plan_code.specs.declared.instr.Instr.TheVariants.{Test, TestTime, Until, Wait, WaitAny, WaitContact}
pub use Rattle.plan_code.specs.declared.label.Label.{Label}
pub use Rattle.plan_code.specs.declared.opcode.Opcode.{Opcode}
pub use Rattle.plan_code.specs.declared.plan.Plan.{Plan}
pub use Rattle.std.proofs.Common.{[], ◌%◌, ◌&&◌, ◌++◌, ◌+◌, ◌-◌, ◌<◌, ◌^◌, ◌||◌, ◌↔◌, ◌∙◌, ◌∷◌, ◌≡◌, ◌≢◌, ◌≤◌, ◌⊎◌}
pub use Rattle.std.proofs.Common.{Bool, Err, IfOk, IsSome, List, None, Ok, Option, Result, Some, ap, append_assoc}
pub use Rattle.std.proofs.Common.{arith, cond, drop, eqb, false, get_or, inl, inr, length, ltb, min, not, refl, subst}
pub use Rattle.std.proofs.Common.{suc, sym, take, true, zero, ℕ}
pub use Rattle.std.proofs.lemmas.Bool.{cases_eq, cases_lt, eq-eqb, eqb-false, eqb-true, false≢true, le-ltb, lt-ltb}
pub use Rattle.std.proofs.lemmas.Bool.{ltb-false, ltb-true, ne_eqb}
pub use Rattle.std.proofs.lemmas.List.{append-nil, drop_all, drop_more, get_or-set_same, get_or_default, length-append}
pub use Rattle.std.proofs.lemmas.List.{length-set, length-take-le, nil_from_length, take-append-drop}
pub use Rattle.std.proofs.lemmas.Nat.Bits.{bit_at-lt, bit_at-pow_other, bit_at-pow_same, bit_at-zero, bit_at_above}
pub use Rattle.std.proofs.lemmas.Nat.Bits.{bit_at_and, bit_at_not, bit_at_or, same_from_bits}
pub use Rattle.std.proofs.lemmas.Result.{err_from_is_err_and}
pub use Rattle.std.specs.Int.{Width, bit_at, bit_not, to_be_bytes, w16, w32, w8}
pub use Rattle.std.specs.Int.RustNames.{bit_and, bit_or}
pub use Rattle.std.specs.List.{AllByRecursion, flat_map, list_any, range_with_len}
pub use Rattle.std.specs.Prelude.{IfSome, find, ok_or}
