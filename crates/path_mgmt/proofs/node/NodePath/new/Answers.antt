use Rattle.path_mgmt.proofs.Alive.{none_set}
use Rattle.path_mgmt.proofs.node.NodePath.new.Goals as goal

pub returns-clause-none_alive : goal.returns-clause-none_alive
returns-clause-none_alive c = none_set 256
