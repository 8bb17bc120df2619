use Rattle.std.proofs.Common.{rules}
use Rattle.gateway_index.specs.Index.{observed_by, side_of}
use Rattle.gateway_index.proofs.Tellings.{held_state}
use Rattle.gateway_index.proofs.index.Index.state.Goals as goal

pub returns-then-is_held : goal.returns-then-is_held
unfolding observed_by side_of
returns-then-is_held c = search (rules, held_state)
