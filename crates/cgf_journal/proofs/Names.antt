-- The names that several proofs of this crate use, each from where it stands.
pub use Rattle.area_disk.specs.AreaLaws.{AreaLaws}
pub use Rattle.area_disk.specs.MomentLaws.{begin, both, follow, widen}
pub use Rattle.area_disk.specs.Plan.{is_failure, is_stop, Prospect, Schedule}
unfoldable pub use Rattle.area_disk.specs.Plan.{next_fate}
pub use Rattle.area_disk.specs.declared.area.Area.{Ghosts}
pub use Rattle.area_disk.specs.declared.plan.Fate.{Fate}
pub use Rattle.area_disk.specs.declared.plan.Outcome3.{Outcome3}
pub use Rattle.cgf_journal.specs.BatchLaws.{by_batches, each_spelled, in_batches, StandsByBatches}
pub use Rattle.cgf_journal.specs.Fit.{AllFit, AreFit, IsUnfitTo, StandsFit}
pub use Rattle.cgf_journal.specs.Format.{AreBatches, cheapest_entry, entries_in, IsForeignBy, IsForeignTo, IsSpoiledBy, StandsFor}
pub use Rattle.cgf_journal.specs.Held.{held_behind, IsOnceEach, passing}
pub use Rattle.cgf_journal.specs.Judged.{IsJudged, IsJudgedEntry, IsJudgedUpTo, IsUnfitIn}
pub use Rattle.cgf_journal.specs.Kept.{AreNoted, ArePaid, AreReady, HasNoRoom, held_in, held_in_order, held_of, KeepsFirm}
pub use Rattle.cgf_journal.specs.Keys.{AreAscending, AreUpTo, changed_key, counted_keys, counts, is_named, IsAbsent, IsFirstOf, IsFound, key_of, rank, rank_of, settled_key}
pub use Rattle.cgf_journal.specs.Merged.{joined_key, merged, moved_key, moved_keys}
pub use Rattle.cgf_journal.specs.Opening.{AreListed, AreListedBefore, AreTakenIn, BreaksAt, IsTakenUpTo}
pub use Rattle.cgf_journal.specs.Reserved.{AreEnough, cheapest_hold, Placed}
pub use Rattle.cgf_journal.specs.Sorted.{count_held, firm_keys, GrowsBy, IsChanged, keys_of, live_keys}
pub use Rattle.cgf_journal.specs.Sound.{EndsBy, is_founded, IsSound, places_behind, places_from}
pub use Rattle.cgf_journal.specs.Tally.{free_beside, has_room_behind, held_after, held_with, key_in_order, keys_in_order, no_tally, promised_by, Tallies, tally_behind, tally_behind_all, tally_of, TallyValue}
pub use Rattle.cgf_journal.specs.Trail.{area_of, entries, header_of, is_closed, IsAtRest, IsFirmPlaceOf, IsPlaceOf, IsSettled, left_by_stop, length_of, LiesAt, StandsForOr, stop_stands, tally, torn_stands, waiting_octets}
unfoldable pub use Rattle.cgf_journal.specs.Trail.{firm_entries, free_of, has_room_of, waiting}
pub use Rattle.cgf_journal.specs.declared.key.KeptKey.{KeptKey}
pub use Rattle.cgf_journal.specs.declared.sorted.SortedKeys.{SortedKeys}
pub use Rattle.cgf_journal.specs.declared.trail.Trail.{Trail}
pub use Rattle.entry_codec.specs.Content.{AreEntries, entries_of, IsContent, spelled}
pub use Rattle.entry_codec.specs.LawTypes.{EntriesAreReadBack, EntriesDivide}
pub use Rattle.entry_codec.specs.Laws.{costs_of-append, costs_of-spelled, entries_of-nil, length_of_spelling, more_entries, no_entries, one_entry}
pub use Rattle.entry_codec.specs.Room.{capacity_of, costs_of, has_room}
pub use Rattle.entry_codec.specs.Spelling.{cost_of, entry_length, HasSpelling, spelling}
pub use Rattle.gate_journal.specs.Agreeing.{batch_before, compare, equal, front_before, longer, one_difference, part_before, place_of, same_not_differs, same_not_starts, shorter, stands_before}
pub use Rattle.gate_journal.specs.Format.{end_of, gate_at, header_length, IsBroken, IsForeign, IsWhole, longest_batch, Stands, Starts, taken}
unfoldable pub use Rattle.gate_journal.specs.Format.{header, spelled as batches_spelled}
pub use Rattle.gate_journal.specs.Journal.{end, front_of, KeepsOr}
unfoldable pub use Rattle.gate_journal.specs.Journal.{batches}
pub use Rattle.gate_journal.specs.Moments.{Kept, Leaves, Told}
pub use Rattle.gate_journal.specs.Opening.{after_look, is_device, is_device_fault, IsMaking, OpenCounts, OpenLeaves}
pub use Rattle.gate_journal.specs.Planned.{after_append, after_put, append_fails, batch_stands, course_after, course_by, course_of, Ending, ending_by, ending_of, is_ended, outcome_left, ReadOn, ReadsRun, SyncPlanned, with_reads}
pub use Rattle.gate_journal.specs.Spelling.{first-header, length-header, length-spelled, taken-append}
pub use Rattle.gate_journal.specs.declared.faults.OpenFault.{OpenFault}
pub use Rattle.gate_journal.specs.declared.faults.OpenFault.TheVariants.{Device, NoMemory, NotOurs}
pub use Rattle.gate_journal.specs.declared.journal.Front.{Front}
pub use Rattle.gate_journal.specs.declared.journal.Front.TheVariants.{Draft, Founded, Founding}
pub use Rattle.gate_journal.specs.declared.journal.Journal.{Journal}
pub use Rattle.gw_base.specs.Entry.{act_view, entry_view}
pub use Rattle.gw_base.specs.HeldKeys.{held_by, held_keys, promised_octets}
pub use Rattle.gw_base.specs.History.{due_after, is_close_due}
pub use Rattle.gw_base.specs.View.{HistoryView, stays_held}
pub use Rattle.gw_base.specs.declared.address.NodeId.{NodeId}
pub use Rattle.gw_base.specs.declared.entry.Act.{Act}
pub use Rattle.gw_base.specs.declared.held.HeldKey.{HeldKey}
pub use Rattle.gw_base.specs.declared.history.HistoryAct.{HistoryAct}
pub use Rattle.gw_base.specs.declared.history.HistoryAct.TheVariants.{Hold, Path, Release, Seal, Start}
pub use Rattle.gw_base.specs.declared.history.HistoryEntry.{HistoryEntry}
pub use Rattle.gw_base.specs.declared.place.Place.{Place}
pub use Rattle.std.proofs.lemmas.Bool.{and_parts, and_right, both_ways, cases_Bool, cases_eq, cases_lt, cases_order, cond_both, eq-eqb, eqb-false, eqb-true, false_from_ne_true, le-leb, le-ltb, leb-true, lt-leb, lt-ltb, ltb-false, ltb-true, ne_eqb, not-false, true_from_ne_false, true≢false}
pub use Rattle.std.proofs.lemmas.Grind.{flat_map-append}
pub use Rattle.std.proofs.lemmas.List.{append-nil, drop-append-le, drop_all, drop_at, get_or-map, get_or-set_other, get_or-set_same, get_or_default, length-append, length-drop, length-map, length-set, length-take, length-take-le, nil_from_length, take-append-drop, take-append-le, take_all, take_at, take_more}
pub use Rattle.std.proofs.lemmas.List.Elements.{All-append, All-cons, All-drop, All-filter, All-head, All-map, All-nil, All-push, All-set, All-tail, All-take, All-weaker}
pub use Rattle.std.proofs.lemmas.List.Kept.{AllPairs-cons, AllPairs-filter}
pub use Rattle.std.proofs.lemmas.List.Sorted.{IsPartitionedBy-ltb, IsPartitionPoint-from_clause}
pub use Rattle.std.proofs.lemmas.List.Sums.{count_by-le-length, length-filter}
pub use Rattle.std.proofs.lemmas.Option.{get_or_from_slice_get, slice_get_within, some_pair_parts}
pub use Rattle.std.specs.Prelude.{All, Err, IfErr, IfOk, if◌then◌else◌, is_err, IsTrue, Ok, OnErr, OnOk, Option, Result, slice_get, slice_index_or, slice_set, Some, vec_capacity, ⊤, ◌||◌}
