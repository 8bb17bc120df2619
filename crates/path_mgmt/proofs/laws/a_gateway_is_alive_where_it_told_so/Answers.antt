use Rattle.path_mgmt.proofs.Alive.{alive_exactly}
use Rattle.path_mgmt.proofs.laws.a_gateway_is_alive_where_it_told_so.Goals as goal

pub returns : goal.returns
returns c = alive_exactly
