-- The words of the proofs, passed on from the modules that define them.
pub use Rattle.cli_streams.specs.Frame.{frame_of, most_bytes, sent}
pub use Rattle.cli_streams.specs.Held.{IsWritten, finished, writer_of}
pub use Rattle.cli_streams.specs.Merged.{FillsFib, IsTaken, Merges, ReadsFrame, TakesAs, TakesFrames, TakesNext}
pub use Rattle.cli_streams.specs.Merged.{after_frame_filled, fib_from, frame_filled, summary_of}
pub use Rattle.cli_streams.specs.Merging.{MergedAreCheckedAlike, MergedAreFilled, MergesByCalls, after_filling}
pub use Rattle.cli_streams.specs.Merging.{after_merging, after_taking, bytes_of, calls_of, fibs_in_frames, filled_frame}
pub use Rattle.cli_streams.specs.Merging.{merged_frames, next_of}
pub use Rattle.cli_streams.specs.Stream.{HearsStream, HearsTheStream, damaged_more, ended, fibs_of_stream, heard_more}
pub use Rattle.cli_streams.specs.Stream.{unheard}
pub use Rattle.cli_streams.specs.Success.{AreTwo, ChecksFile, ListensTo, MergesFiles, PrintsFrame, ShowsFrame}
pub use Rattle.cli_streams.specs.Success.{check_status, known_at, listen_status}
pub use Rattle.cli_streams.specs.declared.listen.Heard.{Heard}
pub use Rattle.cli_streams.specs.declared.listen.StreamFault.{StreamFault}
pub use Rattle.cli_streams.specs.declared.listen.StreamFault.TheVariants.{Full, NotWhole}
pub use Rattle.cli_streams.specs.declared.merge.MergeFault.{MergeFault}
pub use Rattle.cli_streams.specs.declared.merge.MergeSummary.{MergeSummary}
pub use Rattle.console.specs.declared.exit.Status.{Status}
pub use Rattle.console.specs.declared.exit.Status.TheVariants.{Done, Faulty, Misused, Refused}
pub use Rattle.fib_codec.proofs.Lengths.{AllByRecursion-append}
pub use Rattle.fib_reader.specs.Listening.{Hears, Listening, hear_figs}
pub use Rattle.fig_merge.specs.Filling.{after_fill, carried_by, merged}
pub use Rattle.fig_merge.specs.Steps.{Fill, Step, Take, after_steps}
pub use Rattle.fig_merge.specs.Taking.{IsMerging, Merging, after_take, nothing_taken}
pub use Rattle.std.proofs.Common.{[], ◌%◌, ◌*◌, ◌++◌, ◌+◌, ◌-◌, ◌/◌, ◌<◌, ◌∙◌, ◌∷◌, ◌≡◌, ◌≢◌, ◌≤◌, ◌⊎◌, Bool, Err}
pub use Rattle.std.proofs.Common.{IfSome, List, None, Ok, Option, Result, Some, add-one, ap, append-nil, append_assoc}
pub use Rattle.std.proofs.Common.{ap₂, arith, codes, cond, drop, drop-cons, false, flat_map, get_or, inl, inr, length}
pub use Rattle.std.proofs.Common.{length-append, length-take, length-take-le, lt-ltb, map, refl, slice_range, subst}
pub use Rattle.std.proofs.Common.{suc, sym, take, take-append-drop, true, zero, ℕ}
pub use Rattle.std.proofs.KnownBytes.{Appends-kept, Appends-trans, Consumes-nil, Consumes-trans, Keeps-refl}
pub use Rattle.std.proofs.KnownBytes.{Keeps-trans}
pub use Rattle.std.proofs.lemmas.List.{drop-append-le, drop-drop, drop-take, length-drop, map-append, take-append-le}
pub use Rattle.std.proofs.lemmas.List.Folds.{concat-append}
pub use Rattle.std.specs.Io.KnownBytes.{Appends, Consumes, IsAtEnd, Keeps, ReadConsumes, append_known, prepend_known}
pub use Rattle.std.specs.List.{AllByRecursion, concat}
pub use Rattle.std.specs.Simd.{first_chunks}
pub use Rattle.stream_check.specs.Frames.{Fib, Reading}
pub use Rattle.stream_monitor.specs.Buffered.{Buffered, left_of}
