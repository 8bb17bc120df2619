-- What is observed of a node tells of its keys.
use Rattle.std.specs.Prelude.{ℕ}
use Rattle.gw_base.specs.Nearest.{nearest}
use Rattle.gw_base.specs.Observed.{Observed}
use Rattle.gw_base.specs.Starts.{start_by}
use Rattle.gateway_answer.specs.declared.key.Key.{Key}

-- what the number on the wire means in the present epoch of a node of which this is observed: the epoch's start, the
-- number and its state
abbrev pub key_seen : Observed → ℕ → Key
key_seen o wire = record { start = start_by o.opening; number = nearest o.top wire; state = o.state (nearest o.top wire) }
