-- The marks that close files: whether one is due, and whether it is made.
use Rattle.std.specs.Prelude.{ℕ, Bool, true, false, if◌then◌else◌, List}
use Rattle.gw_base.specs.History.{is_close_due}
use Rattle.gw_base.specs.TickDue.{is_tick_due}
use Rattle.gw_base.specs.declared.history.HistoryAct.{HistoryAct}
use Rattle.gw_base.specs.declared.history.HistoryAct.TheVariants.{Tick, Close}
use Rattle.gw_base.specs.declared.history.HistoryEntry.{HistoryEntry}
use Rattle.gateway_answer.specs.Answered.{room_for}

-- a mark closes files
abbrev pub is_mark : HistoryAct → Bool
is_mark Tick = true
is_mark Close = true
is_mark _ = false

-- what is made of a mark: it isn't due, there is no room for it, or it is recorded
pub data Mark : Type 0 where
  NotDue : Mark
  NoRoom : Mark
  Makes : (act : HistoryAct) → Mark

abbrev pub made_if : Bool → HistoryAct → Mark
made_if has_room act = if has_room then Makes act else NoRoom

-- A Tick is made where it is due and there is room for it.
abbrev pub tick_mark : ℕ → ℕ → List HistoryEntry → ℕ → Mark
tick_mark open_time now h size = if is_tick_due open_time now h then made_if (room_for h size Tick) Tick else NotDue

-- A Close is made where it is due: there is always room for it then.
abbrev pub close_mark : List HistoryEntry → Mark
close_mark h = if is_close_due h then Makes Close else NotDue
