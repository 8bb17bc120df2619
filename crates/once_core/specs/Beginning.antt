-- How a world begins, and the settings of it by default.
use Rattle.std.specs.Prelude.{◌≡◌, ℕ, suc, zero, ◌≤◌, true, false, List, [], ◌∷◌}
use Rattle.gateway_answer.specs.Answer.{may_record}
use Rattle.gateway_answer.specs.Answered.{room_for}
use Rattle.gateway_answer.specs.Value.{committed, is_batch_full, standing_for}
use Rattle.gw_base.specs.Observed.{observed}
use Rattle.node_core.specs.Log.{Began}
use Rattle.once_core.specs.Gateway.{Gateway, Rules, with_start}
use Rattle.once_core.specs.Turn.{RuledTurn, ruled_turns}
use Rattle.once_core.specs.World.{World}

-- the octets of a gateway's journal, and the seconds for which a file may be open
abbrev pub default_size : ℕ
default_size = 16777216

abbrev pub default_open_time : ℕ
default_open_time = 3600

-- what an answer may record is within the limits and has room, and a Close that is due always has room
abbrev pub default_rules : Rules
default_rules = record {
  may = λ h node act. may_record (observed h node) (room_for h default_size) act;
  room = λ h act. room_for h default_size act;
  may_close = λ h. true;
  is_full = is_batch_full;
  open_time = default_open_time;
}

-- a gateway that was opened on an empty journal, and its Start committed
abbrev pub first_gateway : Rules → Gateway
first_gateway rules = record { book = committed (with_start rules (standing_for [])); waiting = []; is_down = false; redirects = 0 }

-- so many gateways, each of which was opened by rules of its own
abbrev pub gateways_by : (ℕ → Rules) → ℕ → List Gateway
gateways_by rules zero = []
gateways_by rules (suc n) = first_gateway (rules zero) ∷ gateways_by (λ place. rules (suc place)) n

-- as often as this
abbrev pub times_of : {A : Type 0} → ℕ → A → List A
times_of zero a = []
times_of (suc n) a = a ∷ times_of n a

-- these gateways and so many nodes, of which all run
abbrev pub beginning : List Gateway → ℕ → World
beginning gateways nodes = record {
  gateways = gateways;
  nodes = times_of nodes (Began ∷ []);
  now = 0;
  messages = [];
}

abbrev pub first_world : (ℕ → Rules) → ℕ → ℕ → World
first_world rules gateways nodes = beginning (gateways_by rules gateways) nodes

-- the same where all gateways were opened by the same rules
abbrev pub world_of : Rules → ℕ → ℕ → World
world_of rules gateways nodes = beginning (times_of gateways (first_gateway rules)) nodes

-- A world that some turns, each by rules of its own, make of a first one of a gateway or more.
pub record IsReached (w : World) : Type 0 where
  pub rules : ℕ → Rules
  pub gateways : ℕ
  pub nodes : ℕ
  pub all : List RuledTurn
  pub some : 1 ≤ gateways
  pub is : ruled_turns (first_world rules gateways nodes) all ≡ w
