-- What an entry that borrows its packet or its numbers says, as plain data.
use Rattle.gw_base.specs.declared.entry.Act.{Act}
use Rattle.gw_base.specs.declared.entry.Act.TheVariants as lent
use Rattle.gw_base.specs.declared.entry.Entry.{Entry}
use Rattle.gw_base.specs.declared.history.HistoryAct.{HistoryAct}
use Rattle.gw_base.specs.declared.history.HistoryAct.TheVariants.{Start, Path, File, Hold, Seal, Release, Cancel, Tick, Close}
use Rattle.gw_base.specs.declared.history.HistoryEntry.{HistoryEntry}

-- what an act says
abbrev pub act_view : Act → HistoryAct
act_view lent.Start = Start
act_view (lent.Path node port counter) = Path node port counter
act_view (lent.File node number packet) = File node number packet.now
act_view (lent.Hold node number packet) = Hold node number packet.now
act_view (lent.Seal node number) = Seal node number
act_view (lent.Release node numbers) = Release node numbers.now
act_view (lent.Cancel node numbers) = Cancel node numbers.now
act_view lent.Tick = Tick
act_view lent.Close = Close

-- what an entry says
abbrev pub entry_view : Entry → HistoryEntry
entry_view entry = record { moment = entry.moment; caller = entry.caller; act = act_view entry.act }
