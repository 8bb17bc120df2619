-- The same as `World.antt`, as the code goes: promises read `Stands` from here, and what it is made of, and no more.
-- What is kept of a world that runs: of a node what its log makes it, with how many starts it has made; of a gateway's
-- count of redirects the last 16 bits, which are all that a Redirection Request bears.
use Rattle.std.specs.Prelude.{◌≡◌, ℕ, suc, ◌-◌, ◌%◌, ◌==◌, ◌&&◌, ◌||◌, not, nat_lt, Bool, false, List, [], ◌∷◌, length, map}
use Rattle.entry_codec.specs.Content.{spelled}
use Rattle.gate_journal.specs.Format.{longest_batch}
use Rattle.gateway_answer.specs.Value.{Fortune, Whole, most_for_one}
use Rattle.gw_base.specs.declared.history.HistoryEntry.{HistoryEntry}
use Rattle.node_core.specs.Log.{LogEntry}
use Rattle.node_core.specs.Value.{NodeValue}
use Rattle.once_core.specs.Expired.{is_taken_for_another, starts_in}
use Rattle.once_core.specs.Gateway.{Gateway}
use Rattle.once_core.specs.Messages.{is_response}
use Rattle.once_core.specs.World.{World, node_value}
use Rattle.once_core.specs.declared.message.Message.{Message}

pub record NodeKept : Type 0 where
  pub node : NodeValue
  pub starts : ℕ

-- gateways and nodes, the present moment and all messages ever sent; and whether memory was wanted, so that nothing is
-- played any more
pub record WorldKept : Type 0 where
  pub gateways : List Gateway
  pub nodes : List NodeKept
  pub moment : ℕ
  pub messages : List Message
  pub is_spent : Bool

-- what is kept of a gateway
abbrev pub gateway_kept : Gateway → Gateway
gateway_kept g = record g { redirects = g.redirects % 65536 }

-- what is kept of the node in this place, where there are so many gateways
abbrev pub node_kept : ℕ → ℕ → List LogEntry → NodeKept
node_kept gateways place log = record { node = node_value gateways place log; starts = starts_in log }

-- the same of nodes, of which the first is in this place
abbrev pub nodes_kept : ℕ → ℕ → List (List LogEntry) → List NodeKept
nodes_kept gateways place [] = []
nodes_kept gateways place (log ∷ logs) = node_kept gateways place log ∷ nodes_kept gateways (suc place) logs

abbrev pub world_kept : World → WorldKept
world_kept w = record {
  gateways = map gateway_kept w.gateways;
  nodes = nodes_kept (length w.gateways) 0 w.nodes;
  moment = w.now;
  messages = w.messages;
  is_spent = false;
}

-- a world that runs stands for this one
abbrev pub Stands : World → WorldKept → Type 0
Stands w kept = kept ≡ world_kept w

-- ---- what is asked of what is kept

-- no device fails
abbrev pub quiet : Fortune
quiet = record { fails = false; reopening = Whole }

-- entries that wait for a commit fill their batch
abbrev pub is_rest_full : List HistoryEntry → Bool
is_rest_full rest = nat_lt (longest_batch - length (spelled rest)) most_for_one

-- a message is expired at a node that has made so many starts
abbrev pub is_expired_kept : ℕ → NodeValue → Message → Bool
is_expired_kept starts node m = not (m.start == starts) || (is_response m && is_taken_for_another node m)
