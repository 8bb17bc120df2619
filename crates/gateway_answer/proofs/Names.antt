-- The names that several proofs of this crate use, each from where it stands.
pub use Rattle.entry_codec.specs.Room.{capacity_of, costs_of}
pub use Rattle.entry_codec.specs.Spelling.{body, cost_of}
pub use Rattle.gateway_answer.specs.Answer.{answer_within, asked_by, Decided, decided, listed, may_record, node_of, sent, tabled}
pub use Rattle.gateway_answer.specs.Answered.{answer, entry_by, no_caller, room_for}
pub use Rattle.gateway_answer.specs.Asked.{changes, held_ones, recorded_as, sending, sending_again}
pub use Rattle.gateway_answer.specs.Filed.{along, filed, filed_by, filed_by_act, filed_record, filed_under, held_packet, packet_of_hold, present_key, records_from, records_if, released_by, released_records}
pub use Rattle.gateway_answer.specs.Fit.{are_distinct}
pub use Rattle.gateway_answer.specs.Items.{is_part, items_by, items_by_act, items_of, part_of}
pub use Rattle.gateway_answer.specs.Numbers.{AreWithin}
pub use Rattle.gateway_answer.specs.Preparing.{prepared_of, PreparedValue, Request}
pub use Rattle.gateway_answer.specs.Steps.{holds_one, packet_after, promised_by, with_held, with_number}
pub use Rattle.gateway_answer.specs.WireMarks.{AreClear, AreMarked}
pub use Rattle.gateway_answer.specs.declared.filing.FiledRecord.{FiledRecord}
pub use Rattle.gtpp_message.specs.Packet.{packet_octets, packet_of, PacketForm, records_at}
pub use Rattle.gw_base.specs.HeldKeys.{held_by, held_keys, holds, promised_octets}
pub use Rattle.gw_base.specs.HeldLaws.{held_keys-append}
pub use Rattle.gw_base.specs.History.{begins_epoch, epoch_of, given_state, is_close_due, last_naming, moment_after, names, present_entries, state_by, state_of}
pub use Rattle.gw_base.specs.ListLaws.{after_last-push, fold_is, IsSameness, once-push}
pub use Rattle.gw_base.specs.Lists.{once}
pub use Rattle.gw_base.specs.Nearest.{nearest}
pub use Rattle.gw_base.specs.Observed.{Observed, observed}
pub use Rattle.gw_base.specs.View.{stays_held}
pub use Rattle.gw_base.specs.declared.address.Addr.{Addr}
pub use Rattle.gw_base.specs.declared.address.NodeId.{NodeId}
pub use Rattle.gw_base.specs.declared.held.HeldKey.{HeldKey}
pub use Rattle.gw_base.specs.declared.history.HistoryAct.{HistoryAct}
pub use Rattle.gw_base.specs.declared.history.HistoryEntry.{HistoryEntry}
pub use Rattle.gw_base.specs.declared.history.PacketKey.{PacketKey}
pub use Rattle.std.proofs.lemmas.Bool.{and_parts, and_right, cases_Bool, cond_both, eqb-true, false_from_ne_true, false≢true, or_cases}
pub use Rattle.std.proofs.lemmas.List.{append-nil, at_drop_more, drop_more, length-map, take_more}
pub use Rattle.std.proofs.lemmas.List.Sums.{sum_by-append, sum_by-cons, sum_by-le-sum_by}
pub use Rattle.std.specs.List.{list_all, list_any}
pub use Rattle.std.specs.Option.{option_map_or}
pub use Rattle.std.specs.Prelude.{IfOk, slice_index_or, sum_by}
pub use Rattle.transfer_cmd.specs.Lists.{is_held, verdict_cause, verdict_of}
