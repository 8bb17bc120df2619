-- What holds of each entry of a gateway's history in a world: the node that it makes known is one of a world, and a
-- number that it gives a state is below 2 to the 63rd.
use Rattle.std.specs.Prelude.{◌-◌, ◌&&◌, nat_lt, Bool, true, List, ◌≡◌}
use Rattle.std.specs.List.{list_all}
use Rattle.std.specs.Option.{option_map_or}
use Rattle.gateway_answer.specs.Answer.{Decided, Silent, Says}
use Rattle.gateway_index.specs.Limits.{numbers_end}
use Rattle.gw_base.specs.declared.address.NodeId.{NodeId}
use Rattle.gw_base.specs.declared.history.HistoryAct.{HistoryAct}
use Rattle.gw_base.specs.declared.history.HistoryAct.TheVariants.{Start, Path, File, Hold, Seal, Release, Cancel, Tick, Close}
use Rattle.gw_base.specs.declared.history.HistoryEntry.{HistoryEntry}
use Rattle.once_core.specs.Addresses.{first_node_ip}

-- the addresses of 256 nodes
abbrev pub is_of_world : NodeId → Bool
is_of_world node = nat_lt (node.0 - first_node_ip) 256

abbrev pub is_kept_act : HistoryAct → Bool
is_kept_act Start = true
is_kept_act (Path n port counter) = is_of_world n
is_kept_act (File n x packet) = is_of_world n && nat_lt x numbers_end
is_kept_act (Hold n x packet) = is_of_world n && nat_lt x numbers_end
is_kept_act (Seal n x) = is_of_world n && nat_lt x numbers_end
is_kept_act (Release n xs) = true
is_kept_act (Cancel n xs) = true
is_kept_act Tick = true
is_kept_act Close = true

abbrev pub AllKept : List HistoryEntry → Type 0
AllKept h = list_all (λ e. is_kept_act e.act) h ≡ true

-- the entry that an answer records is such a one
abbrev pub is_kept_answer : Decided → Bool
is_kept_answer (Silent why) = true
is_kept_answer (Says octets act) = option_map_or is_kept_act act true
