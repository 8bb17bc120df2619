-- When files are to be closed because they have been open for long.
use Rattle.std.specs.Prelude.{ℕ, ◌+◌, nat_le, Bool, true, false, ◌&&◌, List, Option, Some, None, filter}
use Rattle.std.specs.List.{after_last, last_or}
use Rattle.std.specs.Option.{option_map, option_map_or}
use Rattle.gw_base.specs.declared.history.HistoryAct.{HistoryAct}
use Rattle.gw_base.specs.declared.history.HistoryAct.TheVariants.{Tick, Close}
use Rattle.gw_base.specs.declared.history.HistoryEntry.{HistoryEntry}
use Rattle.gw_base.specs.History.{closes, is_close_due, moment_after}

abbrev pub ticks : HistoryAct → Bool
ticks Tick = true
ticks _ = false

-- the moment of the last Tick after the last Close, where there is one
abbrev pub last_tick : List HistoryEntry → Option ℕ
last_tick h = option_map (λ e. e.moment) (last_or None (filter (λ e. ticks e.act) (after_last (λ e. closes e.act) h)))

-- the moment of the last Tick after the last Close after one more entry
abbrev pub tick_after : Option ℕ → HistoryAct → ℕ → Option ℕ
tick_after last Tick moment = Some moment
tick_after last Close moment = None
tick_after last _ moment = last

-- whether a moment lies at least the open time back
abbrev pub is_long_ago : ℕ → ℕ → ℕ → Bool
is_long_ago open_time now moment = nat_le (moment + open_time) now

-- a Tick is due where a Close is due, and where no Tick stands after the last Close, or the last one lies at least the
-- open time before the moment that the new Tick would bear
abbrev pub is_tick_due : ℕ → ℕ → List HistoryEntry → Bool
is_tick_due open_time now h =
    is_close_due h && option_map_or (λ moment. is_long_ago open_time (moment_after h now) moment) (last_tick h) true
