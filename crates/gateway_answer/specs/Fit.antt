-- Which entries are fit to stand in the journal of a gateway, behind those before them.
use Rattle.std.specs.Prelude.{ℕ, ◌≤◌, ◌&&◌, Bool, true, false, IsTrue, List}
use Rattle.std.specs.Option.{option_map_or}
use Rattle.entry_codec.specs.Room.{has_room}
use Rattle.gtpp_message.specs.Packet.{packet_of}
use Rattle.gw_base.specs.History.{last_moment}
use Rattle.gw_base.specs.Observed.{Observed, observed}
use Rattle.gw_base.specs.declared.address.NodeId.{NodeId}
use Rattle.gw_base.specs.declared.history.HistoryAct.{HistoryAct}
use Rattle.gw_base.specs.declared.history.HistoryAct.TheVariants.{Start, Path, File, Hold, Seal, Release, Cancel, Tick, Close}
use Rattle.gw_base.specs.declared.history.HistoryEntry.{HistoryEntry}
pub use Rattle.gateway_index.specs.FitActs.{are_distinct, fits_with, is_fresh, is_in_window, is_list_fit, is_new}
use Rattle.gateway_answer.specs.Preparing.{has_values}

-- the last moment that an entry may bear: the last second of the year 2099
abbrev pub latest_moment : ℕ
latest_moment = 4102444799

-- whether a number may get its first state, whatever the limits are
abbrev pub is_first : Observed → ℕ → Bool
is_first o number = is_fresh (o.state number) && is_in_window o.top number

-- whether a packet has records, each of which is what its format says
abbrev pub is_packet_fit : List ℕ → Bool
is_packet_fit packet = option_map_or has_values (packet_of packet) false

-- whether an act is fit, by what is observed for each node
abbrev pub is_act_fit : (NodeId → Observed) → HistoryAct → Bool
is_act_fit of act = fits_with is_packet_fit of act

-- Whether an act keeps to the table of answers, whatever the limits are: what it files, holds or seals is fresh, and
-- what it releases or cancels is held.
abbrev pub is_act_lawful : (NodeId → Observed) → HistoryAct → Bool
is_act_lawful of Start = true
is_act_lawful of (Path n port counter) = true
is_act_lawful of (File n x packet) = is_first (of n) x && is_packet_fit packet
is_act_lawful of (Hold n x packet) = is_first (of n) x && is_packet_fit packet
is_act_lawful of (Seal n x) = is_first (of n) x
is_act_lawful of (Release n xs) = is_list_fit (of n) xs
is_act_lawful of (Cancel n xs) = is_list_fit (of n) xs
is_act_lawful of Tick = true
is_act_lawful of Close = true

-- An entry is fit behind a history, in a journal on so many octets: its moment is in the range and not before the last
-- entry's, its act is fit, and costs and promises with it are within the capacity.
pub record IsFit (size : ℕ) (h : List HistoryEntry) (e : HistoryEntry) : Type 0 where
  pub moment : e.moment ≤ latest_moment
  pub order : last_moment h ≤ e.moment
  pub act : IsTrue (is_act_fit (observed h) e.act)
  pub room : IsTrue (has_room h e size)
