-- The names that several proofs of this crate use, each from where it stands.
pub use Rattle.area_disk.specs.AreaLaws.{AreaLaws}
pub use Rattle.area_disk.specs.CourseLaws.{read_on, read_on_trans, read_runs, runs_on}
pub use Rattle.area_disk.specs.Disk.{counted, Only, overwritten, Torn, Within}
pub use Rattle.area_disk.specs.MomentLaws.{begin, follow, join, kept_leaves, kept_read, kept_refl, kept_trans, step, torn_write, widen}
pub use Rattle.area_disk.specs.declared.area.Area.{Ghosts}
pub use Rattle.area_disk.specs.declared.plan.Outcome3.{Outcome3}
pub use Rattle.area_disk.specs.declared.plan.Outcome3.TheVariants.{New, Old, Rot}
pub use Rattle.byteorder.specs.Endian.{big_bytes, big_number}
pub use Rattle.gate_journal.specs.Adding.{added, IsAdding}
pub use Rattle.gate_journal.specs.Agreeing.{batch_before, compare, equal, front_before, listed_before, longer, one_difference, place_of, same_not_differs, same_not_starts, shorter, small_before, stands_before}
pub use Rattle.gate_journal.specs.Format.{closed_gate, Differs, end_of, gate_at, IsBroken, IsForeign, IsSmall, IsUnfinished, IsWhole, length_at, longest_batch, open_gate, Stands, Starts}
unfoldable pub use Rattle.gate_journal.specs.Format.{frame, header, spelled}
pub use Rattle.gate_journal.specs.Fronts.{at_front, drop_around, front_but_first, front_of_front, later_but_first, take_around}
pub use Rattle.gate_journal.specs.Journal.{area_of, closed_by, front_of, header_of, is_closed, IsSettled, KeepsOr, Rests}
unfoldable pub use Rattle.gate_journal.specs.Journal.{batches, stop_stands, torn, torn_stands}
pub use Rattle.gate_journal.specs.Moments.{Calls, Kept, Leaves, RoseUpTo, Told}
pub use Rattle.gate_journal.specs.Opening.{header_for, is_device, IsDrafted, IsLaid, IsOpened, OnArea, OpenLeaves, RoseByDevice}
pub use Rattle.gate_journal.specs.Places.{before_end, behind_some, gate_before, gate_is_open, length_is, next_gate, part_is, small_among, whole_there}
pub use Rattle.gate_journal.specs.Planned.{after_append, after_put, after_sync, after_write, append_fails, AppendPlanned, batch_stands, Course, course_after, course_by, course_of, Ending, ending_by, ending_of, fate_of_sync, is_ended, is_new, left_by, outcome_left, PutPlanned, ReadOn, ReadsRun, SyncPlanned, with_reads}
pub use Rattle.gate_journal.specs.Spelling.{batches_below-is, batches_in-spelled, first-header, frame-is, length-frame, length-header, length-spelled, spelled-append, spelled-nil, spelled-one}
pub use Rattle.gate_journal.specs.State.{Content, front_after, gate_after, IsListed, IsReady, IsSound, Keeps}
unfoldable pub use Rattle.gate_journal.specs.State.{batches_below}
pub use Rattle.gate_journal.specs.Verdicts.{AreBelow, content_at, Fits, IsBehind, IsScanned, IsVerdict, LiesIn}
pub use Rattle.gate_journal.specs.declared.faults.OpenFault.{OpenFault}
pub use Rattle.gate_journal.specs.declared.journal.Front.{Front}
pub use Rattle.gate_journal.specs.declared.journal.Front.TheVariants.{Draft, Founded, Founding}
pub use Rattle.gate_journal.specs.declared.journal.Journal.{Journal}
pub use Rattle.gate_journal.specs.declared.reading.Behind.TheVariants.{Cut, Shut, Whole}
pub use Rattle.gate_journal.specs.declared.reading.Verdict.{Verdict}
pub use Rattle.gate_journal.specs.declared.reading.Verdict.TheVariants.{Other, Same, Starts as Begins}
pub use Rattle.std.proofs.Math.Seq.{take-add}
pub use Rattle.std.proofs.lemmas.Bool.{cases_eq, false_from_ne_true}
pub use Rattle.std.proofs.lemmas.Bool.Decides.{eqb_tells, leb_tells}
pub use Rattle.std.proofs.lemmas.List.{append-nil, drop-append-le, drop-drop, drop-take, drop_all, drop_at, drop_more, get_or-drop, get_or-take, get_or_at, get_or_default, length-append, length-drop, length-take, length-take-le, take-take, take_all, take_at}
pub use Rattle.std.proofs.lemmas.List.Elements.{All-nil, All-push}
pub use Rattle.std.specs.Prelude.{All, IfErr, IfOk, IfSome, if◌then◌else◌, is_err, is_some, IsTrue, nat_lt, None, Option, Some, unwrap_or, ◌&&◌, ◌==◌}
