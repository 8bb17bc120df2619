-- The book of a gateway in memory, between two calls.
use Rattle.std.specs.Prelude.{◌≡◌, ℕ, Option}
use Rattle.area_disk.specs.declared.area.Area.{Ghosts}
use Rattle.gateway_answer.specs.Answered.{no_caller}
use Rattle.gateway_book.specs.Book.{open_time_of, size_of, value_of}
use Rattle.gateway_answer.specs.Value.{recorded_if, standing_for}
use Rattle.gateway_book.specs.declared.book.Book.{Book}
use Rattle.gw_base.specs.declared.history.HistoryAct.{HistoryAct}
use Rattle.cgf_jobs.specs.Gateway.{GatewayValue}

-- what it stands for: its history is the firm part
abbrev pub gateway_of : {A : Type 0} {tells : Ghosts A} → Book A tells → GatewayValue
gateway_of book =
    record { history = (value_of book).firm; reserved = size_of book; open_time = open_time_of book }

-- all entries are firm, and no commit failed
abbrev pub IsAllFirm : {A : Type 0} {tells : Ghosts A} → Book A tells → Type 0
IsAllFirm book = value_of book ≡ standing_for (value_of book).firm

-- all entries were firm, and where an act is recorded that entry alone waits behind them
abbrev pub Records : {A : Type 0} {tells : Ghosts A} → Book A tells → Book A tells → ℕ → Option HistoryAct → Type 0
Records old new now act = value_of new ≡ recorded_if (standing_for (value_of old).firm) now no_caller act
