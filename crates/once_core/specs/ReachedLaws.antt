-- What turns make of a world that is reached is reached.
use Rattle.std.proofs.Common.{◌≡◌, List, [], ◌∷◌, ◌++◌, refl, ap, ◌∙◌}
use Rattle.once_core.specs.Beginning.{IsReached, first_world}
use Rattle.once_core.specs.Gateway.{Rules}
use Rattle.once_core.specs.Turn.{RuledTurn, Turn, ruled, ruled_turns, turn}
use Rattle.once_core.specs.World.{World}

ruled_more : (w : World) (all later : List RuledTurn) → ruled_turns w (all ++ later) ≡ ruled_turns (ruled_turns w all) later
ruled_more w [] later = refl
ruled_more w (t ∷ all) later = ruled_more (turn t.rules w t.turn) all later

pub reached_on : (w : World) (later : List RuledTurn) → IsReached w → IsReached (ruled_turns w later)
reached_on w later reached = record {
  rules = reached.rules;
  gateways = reached.gateways;
  nodes = reached.nodes;
  all = reached.all ++ later;
  some = reached.some;
  is = ruled_more (first_world reached.rules reached.gateways reached.nodes) reached.all later
      ∙ ap (λ (v : World). ruled_turns v later) reached.is;
}

pub reached_then : (rules : Rules) (w : World) (t : Turn) → IsReached w → IsReached (turn rules w t)
reached_then rules w t = reached_on w (ruled rules t ∷ [])
