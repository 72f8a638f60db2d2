-- The words of the proofs, passed on from the modules that define them.
pub use Rattle.byteorder.specs.Endian.{big_bytes}
pub use Rattle.fib_codec.specs.Crc.{AreBits, IsChecked, bits_of_bytes, check_bits, crc_value, divided, dividend}
pub use Rattle.fib_codec.specs.Crc.{generator, low_bits, number_of_bits, plus, without_leading}
pub use Rattle.fib_codec.specs.Grammar.{AreEntries, AreFigs, Fig, IsBody, IsCounted, IsEntry, IsFib, IsFig, IsOpen}
pub use Rattle.fib_codec.specs.Grammar.{IsOther, IsOurs, IsValid, OneList, Open, Other, ensemble_len, entry_len, fig_of}
pub use Rattle.fib_codec.specs.Grammar.{fig_spelled, is_long, is_next, is_open, packet_len, service_len, sub_len}
pub use Rattle.fib_codec.specs.Heard.{HeardIsWritten, IsInFib, IsInFig, IsSaid, marked_by, marked_of}
pub use Rattle.fib_codec.specs.Modes.{IsInFrame, StepsDivide, with_fib}
pub use Rattle.fib_codec.specs.Ranges.{IsComponentEntry, IsEnsembleInformation, IsPacketEntry, IsServiceEntry}
pub use Rattle.fib_codec.specs.Ranges.{IsShortEntry, IsSubEntry, IsWithin}
pub use Rattle.fib_codec.specs.Register.{after, after_all, is_next_table, is_table, later, next}
pub use Rattle.fib_codec.specs.Spelling.{IsFormed, IsUnder, IsWritten, Written, bit_of, ca_org_bytes, checked}
pub use Rattle.fib_codec.specs.Spelling.{component_u16, components_bytes, ensemble_bytes, entries_bytes, entry_bytes}
pub use Rattle.fib_codec.specs.Spelling.{entry_size, ext_of, fig_bytes, figs_bytes, filled, head_byte, is_long_entry}
pub use Rattle.fib_codec.specs.Spelling.{is_long_sid, occurrence_bytes, packet_bytes, service_bytes, short_bytes}
pub use Rattle.fib_codec.specs.Spelling.{sid_bytes, sid_size, sub_bytes}
pub use Rattle.fib_codec.specs.declared.head.Head.{Head}
pub use Rattle.fib_codec.specs.declared.modes.Mode.TheVariants.{I, II, III, IV}
pub use Rattle.mux_types.specs.Configuration.{IsSid}
pub use Rattle.mux_types.specs.Entries.{EnsembleInformation}
pub use Rattle.mux_types.specs.declared.entry.ComponentEntry.{ComponentEntry}
pub use Rattle.mux_types.specs.declared.entry.ComponentEntry.TheVariants.{Packet, Sound, Stream}
pub use Rattle.mux_types.specs.declared.entry.Entry.{Entry}
pub use Rattle.mux_types.specs.declared.entry.PacketEntry.{PacketEntry}
pub use Rattle.mux_types.specs.declared.entry.ServiceEntry.{ServiceEntry}
pub use Rattle.mux_types.specs.declared.entry.ShortEntry.{ShortEntry}
pub use Rattle.mux_types.specs.declared.entry.SubEntry.{SubEntry}
pub use Rattle.mux_types.specs.declared.numbers.Sid.{Sid}
pub use Rattle.mux_types.specs.declared.numbers.Sid.TheVariants.{Long, Short}
pub use Rattle.std.proofs.Common.{[], ◌%◌, ◌*◌, ◌++◌, ◌+◌, ◌-◌, ◌/◌, ◌<◌, ◌^◌, ◌↔◌, ◌∙◌, ◌∷◌, ◌≡◌, ◌≢◌, ◌≤◌, ◌⊎◌, Bool}
pub use Rattle.std.proofs.Common.{List, None, Option, Some, ap, append-nil, append_assoc, ap₂, arith, cond, drop}
pub use Rattle.std.proofs.Common.{drop-cons, drop_at, eq-eqb, eqb, eqb-true, false, get_or, inl, inr, is_some, le-ltb}
pub use Rattle.std.proofs.Common.{length, length-append, length-drop, length-take, length-take-le, lt-ltb, ltb, map}
pub use Rattle.std.proofs.Common.{ne_eqb, pow-suc, refl, replicate, rules, slice_set, subst, subst₂, suc, sym, take}
pub use Rattle.std.proofs.Common.{take-append-drop, take_at, true, true≢false, zero, ℕ}
pub use Rattle.std.proofs.Math.Seq.{drop-append_seam, take-append-add, take-append_seam}
pub use Rattle.std.proofs.lemmas.Bool.{and_from, and_left, and_parts, and_right, cases_Bool, cases_eq, cases_lt}
pub use Rattle.std.proofs.lemmas.Bool.{cond-false, cond-true, cond_both, eqb-false, ltb-false, ltb-true}
pub use Rattle.std.proofs.lemmas.List.{drop-append-le, drop-drop, drop-replicate, drop-set, drop-set-lt, drop_all}
pub use Rattle.std.proofs.lemmas.List.{get_or_append_left, length-map, length-replicate, length-set, take-append-le}
pub use Rattle.std.proofs.lemmas.List.{take-replicate, take_more}
pub use Rattle.std.proofs.lemmas.Nat.{mod-pow-add, shr-shr, xor_comm, xor_of_16}
pub use Rattle.std.proofs.lemmas.Nat.Bits.{bit_at-lt, bit_at-suc, bit_at_cat_high, bit_at_cat_low, bit_at_lowest}
pub use Rattle.std.proofs.lemmas.Nat.Bits.{bit_at_ones, bit_at_xor, same_from_bits_below, shr_and_one}
pub use Rattle.std.specs.Int.{bit_at}
pub use Rattle.std.specs.List.{AllByRecursion}
pub use Rattle.std.specs.Prelude.{Contains, IfSome, IsSome, bit_and, bit_xor, flat_map}
