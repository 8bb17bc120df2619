use Rattle.path_mgmt.proofs.Alive.{stays_alive}
use Rattle.path_mgmt.proofs.laws.a_gateway_stays_alive.Goals as goal

pub returns : goal.returns
returns c = stays_alive
