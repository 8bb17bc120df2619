-- Steps of an audit. No contract of a public call cites them.
use Rattle.std.specs.Prelude.{Bool, true, false}
use Rattle.node_core.specs.declared.counts.Phase.{Phase}
use Rattle.node_core.specs.declared.counts.Phase.TheVariants.{Unknown, Open, Resolved, Done}

-- a packet in this phase is resolved
abbrev pub is_resolved_by : Phase → Bool
is_resolved_by Unknown = false
is_resolved_by Open = false
is_resolved_by Resolved = true
is_resolved_by Done = true
