-- How a gateway that is kept moves.
use Rattle.std.specs.Prelude.{◌≡◌, ℕ, List, ◌++◌}
use Rattle.gateway_answer.specs.Answered.{no_caller}
use Rattle.gateway_answer.specs.Value.{recorded}
use Rattle.gw_base.specs.declared.history.HistoryAct.{HistoryAct}
use Rattle.once_core.specs.Beginning.{default_rules}
use Rattle.once_core.specs.Gateway.{Gateway, Moved, with_start}
use Rattle.once_core.specs.declared.message.Message.{Message}

-- it moved so: it is this one now, and what it sent joined these messages
pub record HasMoved (moved : Moved) (g : Gateway) (before after : List Message) : Type 0 where
  pub gateway : g ≡ moved.gateway
  pub sends : after ≡ before ++ moved.sends

-- with one more entry
abbrev pub with_entry : ℕ → HistoryAct → Gateway → Gateway
with_entry now act g = record g { book = recorded g.book now no_caller act }

-- with a Start, where there is room for it
abbrev pub once_started : Gateway → Gateway
once_started g = record g { book = with_start default_rules g.book }
