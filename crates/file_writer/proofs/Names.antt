-- The names that several proofs of this crate use, each from where it stands.
pub use Rattle.area_disk.specs.Plan.{after_call, is_failure, Schedule}
unfoldable pub use Rattle.area_disk.specs.Plan.{next_fate}
pub use Rattle.area_disk.specs.declared.plan.Fate.{Fate}
pub use Rattle.area_disk.specs.declared.plan.Fate.TheVariants.{Fails, Runs, Stops}
pub use Rattle.cdr_file.specs.CdrFile.{cdr_header_length, cdr_octets, cdr_of, facts_of, facts_of_one, facts_with, file_header, file_octets, FiledRecord, FileSettings, header_length, header_of, last_moment, read_file, run_octets}
unfoldable pub use Rattle.cdr_file.specs.CdrFile.{node_address}
pub use Rattle.cdr_file.specs.Profile.{extension_octets, in_profile, IsFiledKind}
pub use Rattle.cdr_file.specs.declared.closure.ClosureReason.{ClosureReason}
pub use Rattle.cdr_file.specs.declared.filed_kind.FiledKind.{FiledKind}
pub use Rattle.cdr_file.specs.declared.run.RunFacts.{RunFacts}
pub use Rattle.cdr_shelf.specs.FileLaws.{greatest_in-append, in_stream-append}
pub use Rattle.cdr_shelf.specs.Files.{greatest_in, in_stream, IsFresh, number_in, sealed_as, SealedFile, Unsealed, UnsealedFile}
pub use Rattle.cdr_shelf.specs.Steps.{begun, CallAsPlanned, is_done, is_memory, LeavesAfter, left_unsealed, seal_step, SealLeaves, StepsAt, synced, TakesWrite, written}
pub use Rattle.cdr_shelf.specs.declared.file_name.FileName.{FileName}
pub use Rattle.cdr_shelf.specs.declared.shelf.Shelf.{Ghosts}
pub use Rattle.cdr_shelf.specs.declared.shelf.ShelfStop.{ShelfStop}
pub use Rattle.file_rotate.specs.Cutting.{Cutting, file_of, file_with, item_cuts, item_file, kind_change, limit_reached, mark_cuts, mark_file, mark_reason, record_file, with_record}
pub use Rattle.file_rotate.specs.Division.{cdr_length, closed_first, ClosedRun, Cuts, cuts_at, divided_from, Division, division_of, goes_on, joined, run_after, run_length, still, with_cuts}
unfoldable pub use Rattle.file_rotate.specs.Division.{ends_after, ends_before, run_limit_reached}
pub use Rattle.file_rotate.specs.Items.{AreLimits, Filed, Record, record_in, records_of, same_extension, same_kind}
pub use Rattle.file_rotate.specs.declared.cut.Cut.{Cut}
pub use Rattle.file_rotate.specs.declared.limits.Limits.{Limits}
pub use Rattle.file_rotate.specs.declared.open_file.OpenFile.{OpenFile}
pub use Rattle.file_writer.specs.AllStreams.{AllAt, AreLeft, EachBelow, EachSafe, GoesShut, GoesTo, HasMarked, HasTakenSome, IsFit, mark_told, part_of, StreamAt, up_to, with_item}
pub use Rattle.file_writer.specs.Asking.{HasAsked}
pub use Rattle.file_writer.specs.Calls.{appending, beginning, Call, calls_at, calls_from, calls_of, closed_by, closing, Seals, seals, stream_calls, unless_sealed, Writes}
unfoldable pub use Rattle.file_writer.specs.Calls.{calls_below}
pub use Rattle.file_writer.specs.Files.{AreOfStreams, files_from, later_division, later_files, record_of, run_records, sealed_file, stream_files}
pub use Rattle.file_writer.specs.Following.{BodyWhere, Follows, HasTaken, IsBehind, IsLeft, IsSafe, IsUp, mark_item, Pairs, Stays, Takes}
pub use Rattle.file_writer.specs.Laws.{DivisionGoesOn}
pub use Rattle.file_writer.specs.Leaving.{AreAmong, AreOpenFiles, AreShut, begun_after, begun_of, count_open, IsOpenFile, IsOpenFileOf, LeavesUnsealed}
pub use Rattle.file_writer.specs.Making.{AllRan, calls_after, Comes, done_at, Ending, ending_at, ending_of, Failed, HasSealed, Makes, Went}
pub use Rattle.file_writer.specs.Places.{FilePlace, HasPlace, in_run, nth_place, place_after, place_in, place_of_item, record_at, records_to, run_with, runs_of}
pub use Rattle.file_writer.specs.Streams.{closed_of, record_if, Settings, stream_count, stream_division, stream_item, stream_items, stream_record}
pub use Rattle.file_writer.specs.Writer.{Holds, IsAt, sealed_in, settings_in, shelf_of}
pub use Rattle.file_writer.specs.Writing.{appended, appending_of, beginning_of, body_behind, body_of, closed_file, closed_progress, ClosesOpen, closing_of, filed_of, growing_of, grown, grown_facts, GrownWhere, HasLength, is_sealed, IsBegun, IsGrown, IsOpenAt, name_in, open_count, ReadyWhere, settings_of, StillOpen, weight_of}
pub use Rattle.file_writer.specs.declared.fault.ShelfFault.{ShelfFault}
pub use Rattle.file_writer.specs.declared.progress.Progress.{Progress}
pub use Rattle.file_writer.specs.declared.stream.Stream.{Stream}
pub use Rattle.gw_base.specs.declared.item.Item.{Item}
pub use Rattle.gw_base.specs.declared.kind.CdrKind.{CdrKind}
pub use Rattle.gw_base.specs.declared.tag.Tag.{Tag}
pub use Rattle.route_filter.specs.Rules.{stream_of}
pub use Rattle.route_filter.specs.declared.rule.Rule.{Rule}
pub use Rattle.std.proofs.Math.Seq.{drop-nil, take-add, take-append-add, take-append_seam, take-length}
pub use Rattle.std.proofs.lemmas.Bool.{and_parts, cases_Bool, cases_eq, cases_lt, cases_order, eq-eqb, eqb-true, le-leb, le-ltb, leb-false, leb-true, lt-leb, lt-ltb, ltb-false, ne_eqb}
pub use Rattle.std.proofs.lemmas.Bool.Decides.{leb_tells, nat_tests}
pub use Rattle.std.proofs.lemmas.Grind.{flat_map-append}
pub use Rattle.std.proofs.lemmas.List.{append-nil, drop-append-le, drop_all, get_or-map, get_or-set_other, get_or-set_same, get_or_default, map-append, take-append-drop, take-append-le, take_all, take_min, take_more}
pub use Rattle.std.proofs.lemmas.List.Elements.{All-append, All-cons, All-drop, All-head, All-nil, All-tail}
pub use Rattle.std.proofs.lemmas.Option.{get_or_from_slice_get, none-some, same_Some, slice_get_within}
pub use Rattle.std.specs.Result.{IsErr, IsErrAnd}
