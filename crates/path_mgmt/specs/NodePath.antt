-- The node's end of its paths (3GPP TS 32.295, clause 6.2).
use Rattle.std.specs.Prelude.{ℕ, Bool, true, false, ◌==◌, List, [], ◌∷◌, None, replicate, slice_index_or, slice_set}
use Rattle.path_mgmt.specs.declared.event.PathAnswer.{PathAnswer}
use Rattle.path_mgmt.specs.declared.event.PathEvent.{PathEvent}
use Rattle.path_mgmt.specs.declared.event.PathEvent.TheVariants.{EchoAsked, EchoTold, AliveAsked, AliveTold}
use Rattle.path_mgmt.specs.Answers.{replying, silence}

-- a node's restart counter, and for each gateway from 0 on whether it is alive
pub record PathsOfNode : Type 0 where
  pub counter : ℕ
  pub alive : List Bool

-- a node to which none of the 256 gateways is alive
abbrev pub node_anew : ℕ → PathsOfNode
node_anew counter = record { counter = counter; alive = replicate 256 false }

-- whether a gateway is alive
abbrev pub is_alive : PathsOfNode → ℕ → Bool
is_alive node gateway = slice_index_or node.alive gateway false

-- what a node with this counter makes of a message
abbrev pub heard_at_node : ℕ → PathEvent → PathAnswer
heard_at_node counter (EchoAsked number) = replying (EchoTold number counter)
heard_at_node counter (AliveTold number) = record { reply = None; changed = None; alive = true }
heard_at_node counter (EchoTold number told) = silence
heard_at_node counter (AliveAsked number) = silence

-- the node after a message from a gateway: a Node Alive Response makes the gateway alive, and nothing else changes
abbrev pub node_after : PathsOfNode → ℕ → PathEvent → PathsOfNode
node_after node gateway (AliveTold number) = record node { alive = slice_set node.alive gateway true }
node_after node gateway (EchoAsked number) = node
node_after node gateway (EchoTold number told) = node
node_after node gateway (AliveAsked number) = node

-- the node after these messages, each with the gateway that it comes from
abbrev pub node_after_all : PathsOfNode → List (ℕ × PathEvent) → PathsOfNode
node_after_all node [] = node
node_after_all node ((gateway, event) ∷ heard) = node_after_all (node_after node gateway event) heard

-- whether this message, with the gateway that it comes from, tells that the given gateway is alive
abbrev pub tells_alive : ℕ → ℕ × PathEvent → Bool
tells_alive gateway (from, AliveTold number) = gateway == from
tells_alive gateway (from, EchoAsked number) = false
tells_alive gateway (from, EchoTold number told) = false
tells_alive gateway (from, AliveAsked number) = false
