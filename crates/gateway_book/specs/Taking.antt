-- What an answer leaves of a book.
use Rattle.std.specs.Prelude.{◌≡◌, ℕ, Option}
use Rattle.gw_base.specs.declared.address.Addr.{Addr}
use Rattle.gw_base.specs.declared.history.Caller.{Caller}
use Rattle.gw_base.specs.declared.history.HistoryAct.{HistoryAct}
use Rattle.gateway_answer.specs.Answer.{Decided, Says, Silent}
use Rattle.gateway_book.specs.Caller.{IsDecided}
use Rattle.gateway_answer.specs.Preparing.{PreparedValue}
use Rattle.gateway_answer.specs.Value.{BookValue, recorded_if}
use Rattle.gateway_book.specs.declared.adding.Done.{Done}
use Rattle.gateway_book.specs.declared.adding.Done.TheVariants as done

-- what was done is what was decided, and what was decided is recorded
abbrev pub IsDone : Done → BookValue → BookValue → ℕ → Caller → Decided → Type 0
IsDone (done.Silent why) old new now who decision = (decision ≡ Silent why) × (new ≡ old)
IsDone (done.Said reply) old new now who decision =
    (act : Option HistoryAct) × (decision ≡ Says reply act) × (new ≡ recorded_if old now who act)

-- what was done is what the definition decides, over every area
abbrev pub IsDoneBy : Addr → PreparedValue → Done → Type 0
IsDoneBy from datagram (done.Silent why) = IsDecided from datagram (Silent why)
IsDoneBy from datagram (done.Said reply) = (act : Option HistoryAct) × IsDecided from datagram (Says reply act)
