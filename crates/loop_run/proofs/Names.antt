-- The names that several proofs of this crate use, each from where it stands.
pub use Rattle.gate_journal.specs.Format.{Starts}
unfoldable pub use Rattle.gate_journal.specs.Format.{header, spelled}
pub use Rattle.gateway_answer.specs.Value.{after_commit, BookValue, Fortune, history_of, opened, standing_for}
pub use Rattle.gateway_book.specs.Book.{fortune_of, header_of, reopening_of, size_of, Stays, value_of}
pub use Rattle.gateway_book.specs.Calls.{gateway_counts_of}
pub use Rattle.gateway_book.specs.declared.outcome.GatewayCounts.{GatewayCounts}
pub use Rattle.gw_base.specs.Faults.{Rose}
pub use Rattle.gw_base.specs.Owes.{Begins}
pub use Rattle.gw_base.specs.declared.address.Addr.{Addr}
pub use Rattle.gw_base.specs.declared.history.HistoryEntry.{HistoryEntry}
pub use Rattle.gw_base.specs.declared.packet.PacketId.{PacketId}
pub use Rattle.loop_audit.specs.Standing.{KeepsAll}
pub use Rattle.loop_run.specs.Addresses.{first_gateway_ip, first_node_ip, gateway_at, gateways_of, IsLoop, node_at, node_setup, port_number}
pub use Rattle.loop_run.specs.Collecting.{CanLeave, first_at, GivesOnly, GrewAt, HasCollected, Leaves, LeavesGateway, LeavesNode, second_at, StillAt, stop_of_node}
pub use Rattle.loop_run.specs.Ending.{CountsAs, EndsAs, HasTakenAll, is_done, open_numbers, open_packets, packets_open, turns_of, verdict}
pub use Rattle.loop_run.specs.Finishing.{AreAlike, Finishes, open_at, open_of, shown, UpTo}
pub use Rattle.loop_run.specs.Looped.{area_length, CarriedAt, IsLoopBook, IsLooped, IsLoopNode, node_made}
pub use Rattle.loop_run.specs.Making.{AreKnown, FailsToMake, GrowsOn, HasMadeGateway, HasMadeNode, HasMadeSeats, MakesOn, MakesSeats}
pub use Rattle.loop_run.specs.Seats.{AllRan, AllSit, begun, HasCommitted, HasRunAt, HasServedAt, IsBegun, IsCommitted, IsGatewayAt, LoopBook, LoopGateway, RanAt, SitsAt, work_of}
pub use Rattle.loop_run.specs.declared.collecting.Collected.{Collected}
pub use Rattle.loop_run.specs.declared.looped.Looped.{Looped}
pub use Rattle.loop_run.specs.declared.seat.Seat.{Seat}
pub use Rattle.loop_run.specs.declared.setup.LoopSetup.{LoopSetup}
pub use Rattle.net_link.specs.Datagrams.{added, Datagram, IsEmpty, IsNewAt, joined, LinkState}
pub use Rattle.net_link.specs.Making.{GrowsBy, Keeps, LinksState, RoseBy, TakesBack}
pub use Rattle.node_core.specs.Counting.{counts_of, phase_among, phase_of, phase_of_copies}
pub use Rattle.node_core.specs.Value.{node_of, NodeValue}
pub use Rattle.node_core.specs.declared.port.Port.{Port}
pub use Rattle.node_core.specs.declared.port.Port.TheVariants.{First, Second}
pub use Rattle.node_run.specs.Outcomes.{Carried, EndsSo, HasRun, turns_of as turns_of_links}
pub use Rattle.node_run.specs.Running.{all_done, counted_at, node_after, Turn, turns_at}
pub use Rattle.node_run.specs.declared.linked.LinkedNode.{LinkedNode}
pub use Rattle.node_run.specs.declared.linked.NodeEnd.{NodeEnd}
pub use Rattle.session_run.specs.Desks.{HearsNothing}
pub use Rattle.session_run.specs.Running.{AreFiveOf, heard_by, sent_by}
pub use Rattle.session_run.specs.declared.stop.Stop.{Stop}
pub use Rattle.std.proofs.lemmas.List.{append-nil, length-map, map-append, nil_from_length, take_all, take_more}
pub use Rattle.std.proofs.lemmas.List.Elements.{All-cons, All-head, All-nil, All-tail, All-weaker}
pub use Rattle.std.proofs.lemmas.List.FromFn.{length-map-range_with_len, length-range_with_len, map-range_with_len_more}
pub use Rattle.std.proofs.lemmas.Option.{none-some, same_Some, slice_get_within}
pub use Rattle.std.specs.List.{range_with_len}
pub use Rattle.std.specs.Option.{option_or}
pub use Rattle.std.specs.Prelude.{All, filter, IfSome, slice_get, slice_index, slice_index_or, slice_set}
pub use Rattle.std.specs.Vec.Iter.{into_iter_items, into_iter_len}
