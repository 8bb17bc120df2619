-- The names that several proofs of this crate use, each from where it stands.
pub use Rattle.cdr_file.specs.declared.fault.FileKind.{FileKind}
pub use Rattle.cdr_shelf.specs.Files.{file_of, greatest_in, in_stream, SealedFile}
pub use Rattle.cdr_shelf.specs.contracts.quiet.QuietShelfShelf.TheImpl.{ghosts as shelf_tells}
pub use Rattle.cgf_jobs.specs.Command.{command_named, command_of, counted, extent_of, has_input, last_seed, most_read, seeded_named, seeded_of}
pub use Rattle.cgf_jobs.specs.FeedReport.{after_line, begun, end_lines, Fed, fed_from, fed_of, FeedState, is_earlier, lines_size, printed_for, reply_line, with_print}
pub use Rattle.cgf_jobs.specs.Gateway.{after_close, after_datagram, answered, GatewayValue, new_gateway, recording}
pub use Rattle.cgf_jobs.specs.Kinds.{is_of_run, of_file, of_line, of_world}
pub use Rattle.cgf_jobs.specs.NetworkReport.{EndsByReport, HandsBack, lines_ok, lines_run, network_end, RanNetwork, replay_end, replay_report, seeded_lines}
pub use Rattle.cgf_jobs.specs.NetworkSteps.{HasDrilled, HasRun, IsAt, IsReplayed, lines_unless, PlayedOf, refusal_at_line}
pub use Rattle.cgf_jobs.specs.Run.{end_of, HasRead, HasReported, is_reported, IsRead, may_have_written, run_end, script_end, script_report, shown_end, status_number, TakesUpTo, WritesFront}
pub use Rattle.cgf_jobs.specs.Steps.{ended_by, IsFed, IsRefusal, IsReport, outcome_line, refusal_at, setup_seen, state_of, TakesPiece}
pub use Rattle.cgf_jobs.specs.Words.{found_in, is_option, words_app}
pub use Rattle.cgf_jobs.specs.declared.command.Command.{Command}
pub use Rattle.cgf_jobs.specs.declared.command.Command.TheVariants.{Drill, Feed, Replay as OfReplay, Sample, Show}
pub use Rattle.cgf_jobs.specs.declared.command.Seeded.{Seeded}
pub use Rattle.cgf_jobs.specs.declared.report.Refusal.{Refusal}
pub use Rattle.cgf_jobs.specs.declared.report.Report.{Report}
pub use Rattle.cgf_jobs.specs.declared.status.Status.{Status}
pub use Rattle.clap.specs.Words.{all_of, first_of, first_value, matched_of, raw_values, rows_of, Text}
pub use Rattle.file_writer.specs.Files.{files_below, files_from, stream_files}
pub use Rattle.file_writer.specs.Parts.{HasAdvanced, part_of}
pub use Rattle.file_writer.specs.Streams.{closed_of, Settings, stream_count, stream_division}
pub use Rattle.file_writer.specs.Writer.{Holds, is_broken, sealed_in, settings_in, shelf_of, taken_of}
pub use Rattle.gateway_answer.specs.Answer.{Decided, decided, Says, Silent}
pub use Rattle.gateway_answer.specs.Answered.{act_decided, answer_to, entry_by, no_caller, room_for, with_act}
pub use Rattle.gateway_answer.specs.Filed.{filed}
pub use Rattle.gateway_answer.specs.Items.{is_part, IsWritable, items_of}
pub use Rattle.gateway_answer.specs.Value.{after_commit, BookValue, committed, Fortune, history_of, opened, recorded, recorded_if, standing_for}
pub use Rattle.gateway_book.specs.Book.{fortune_of, open_time_of, size_of, Stays, value_of}
pub use Rattle.gateway_book.specs.Calls.{counts_of, outcome_at, taken, gateway_counts_with}
pub use Rattle.gw_base.specs.Written.{AppendsFront}
pub use Rattle.gw_base.specs.declared.history.HistoryEntry.{HistoryEntry}
pub use Rattle.gw_base.specs.declared.item.Item.{Item}
pub use Rattle.hex.specs.Hex.{encode_upper}
unfoldable pub use Rattle.hex.specs.Hex.{encode_with}
pub use Rattle.once_core.specs.declared.event.WorldKind.{WorldKind}
pub use Rattle.replay_gateway.specs.GatewayReport.{counts_line, counts_text, file_line, file_lines, file_name}
pub use Rattle.replay_gateway.specs.Setup.{files_in, Setup, setup_of}
pub use Rattle.replay_world.specs.Lines.{line_after, line_notices, refusal_of_line, settled}
pub use Rattle.replay_world.specs.Report.{line_text, lines_after, printed_by, printed_unless, Refusal as WorldRefusal, refusal_of_lines, refused_from, refused_or, replayed, report_of, report_of_lines}
pub use Rattle.replay_world.specs.Settled.{AreRead, AreWritten, HasPlayedOut, HaveMachines, StandInFiles}
pub use Rattle.replay_world.specs.Value.{replay_of, ReplayValue}
pub use Rattle.replay_world.specs.declared.replay.Played.{Played}
pub use Rattle.std.proofs.lemmas.List.{at_drop_all, drop_more, length-set, take_all, take_at, take_min, take_more_set}
pub use Rattle.std.proofs.lemmas.Option.{get_or_from_slice_get, same_Some, slice_get_within}
pub use Rattle.std.specs.Io.KnownBytes.{Appends, Consumes, IsAtEnd, Keeps}
pub use Rattle.std.specs.List.{AllByRecursion, flat_map, fold, list_any}
pub use Rattle.std.specs.Option.{option_and_then, option_map}
pub use Rattle.world_script.specs.Printing.{printed, ReadsBack}
pub use Rattle.world_script.specs.Script.{contented, formed, is_end_line, keyed, onward, progress_of, reading_of, Refusal as LineRefusal, script_after, script_in, script_of, worded}
pub use Rattle.world_script.specs.declared.fault.InputKind.{InputKind as LineKind}
pub use Rattle.world_script.specs.declared.line.Line.{Line}
