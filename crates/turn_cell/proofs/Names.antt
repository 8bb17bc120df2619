-- The names that several proofs of this crate use, each from where it stands.
pub use Rattle.atomic_table.proofs.Lists.{at_last, at_longer, at_set, set_again, set_else, set_here}
pub use Rattle.atomic_table.specs.Table.{Allows, Final, gives, Joins, keeps, opening, rest, Seen, Splits, State, Step, step, stepped, takes}
pub use Rattle.gw_base.specs.Facts.{AreSound, Facts, joined, WhereTold}
pub use Rattle.gw_base.specs.Owes.{Adds, AreAligned, AreBy, base, Begins, front, Owes}
pub use Rattle.gw_base.specs.declared.history.HistoryEntry.{HistoryEntry}
pub use Rattle.std.proofs.lemmas.List.{append-nil, length-take-le, take-append-drop, take-append-le, take_all, take_more}
pub use Rattle.std.proofs.lemmas.List.Elements.{All-append, All-cons, All-head, All-nil, All-push, All-tail, All-weaker}
pub use Rattle.std.specs.List.{All}
pub use Rattle.std.specs.Prelude.{slice_index_or, vec_capacity, vec_len}
pub use Rattle.turn_cell.specs.Cell.{AreIn, AreNew, AreResting, begun, IsPassIn, knowledge, known_at, known_by, made_by}
pub use Rattle.turn_cell.specs.Knowing.{after_turn, facts_of, first_of, Follows, IsLegal, kept, newcomer, newcomers, newcomers_from, Saw, standing}
pub use Rattle.turn_cell.specs.Passes.{Ended, FoundInPlace, IsOwnSession, Took, TookEach, TookFor, TookMore}
pub use Rattle.turn_cell.specs.Placed.{added_by, by_session, HasNumber, IsPlaced, IsSublist, Owns, placed, Stands}
pub use Rattle.turn_cell.specs.Rule.{Course, Fits, HasIt, HasTicket, HasValue, IsAtStage, IsAway, IsHome, IsKept, IsSomewhere, passes_in, Rule, Runs, seat}
pub use Rattle.turn_cell.specs.Steps.{behind_first, both, called, Did, drew, first_alone, left, looked, Seated, settled, without_first}
pub use Rattle.turn_cell.specs.Taking.{HasCome, HasTaken, IsSettled}
pub use Rattle.turn_cell.specs.declared.cell.Pass.{Pass}
pub use Rattle.turn_cell.specs.declared.knowing.KeptTurn.{KeptTurn}
pub use Rattle.turn_cell.specs.declared.knowing.Knowledge.{Knowledge}
pub use Rattle.turn_cell.specs.declared.knowing.SeatView.{SeatView}
pub use Rattle.turn_cell.specs.declared.knowing.Stage.TheVariants.{Holding, Resting, Waiting}
pub use Rattle.turn_cell.specs.declared.knowing.Standing.{Standing}
pub use lib.ListN.{get_elem?}
pub use mathlib.Core.Logic.{dite}
pub use mathlib.Core.Option.{none, some, some-injective, some-ne-none}
pub use native.Mathlib.Decide.{ℕ_discrete}
pub use prog.Atomic.{either}
