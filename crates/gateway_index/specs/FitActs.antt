-- Which acts are fit by what is observed of the nodes, whatever is asked of the packets that they bear.
use Rattle.std.specs.Prelude.{ℕ, ◌+◌, ◌==◌, ◌&&◌, nat_le, Bool, true, false, not, List, [], ◌∷◌, Option}
use Rattle.std.specs.List.{list_all}
use Rattle.std.specs.Option.{option_map_or}
use Rattle.gw_base.specs.Observed.{Observed}
use Rattle.gw_base.specs.declared.address.NodeId.{NodeId}
use Rattle.gw_base.specs.declared.history.HistoryAct.{HistoryAct}
use Rattle.gw_base.specs.declared.history.HistoryAct.TheVariants.{Start, Path, File, Hold, Seal, Release, Cancel, Tick, Close}
use Rattle.gw_base.specs.declared.key_state.KeyState.{KeyState}
use Rattle.gw_base.specs.declared.key_state.KeyState.TheVariants.{Fresh}
use Rattle.transfer_cmd.specs.Lists.{is_held}
use Rattle.gateway_index.specs.Limits.{half, has_place, is_in_range, may_hold}

abbrev pub is_fresh : KeyState → Bool
is_fresh Fresh = true
is_fresh _ = false

-- whether a number lies no more than 32,768 below the greatest one of the epoch, where that names one
abbrev pub is_in_window : Option ℕ → ℕ → Bool
is_in_window top number = option_map_or (λ h. nat_le h (number + half)) top true

-- whether a number may get its first state
abbrev pub is_new : Observed → ℕ → Bool
is_new o number = has_place o && is_fresh (o.state number) && is_in_range number && is_in_window o.top number

-- whether no two of these numbers are equal
abbrev pub are_distinct : List ℕ → Bool
are_distinct [] = true
are_distinct (x ∷ xs) = list_all (λ y. not (x == y)) xs && are_distinct xs

-- whether a list names a number, held ones alone and each once
abbrev pub is_list_fit : Observed → List ℕ → Bool
is_list_fit o [] = false
is_list_fit o (x ∷ xs) = list_all (λ y. is_held (o.state y)) (x ∷ xs) && are_distinct (x ∷ xs)

-- whether an act is fit, by what is observed for each node, and by which packets are fit
abbrev pub fits_with : (List ℕ → Bool) → (NodeId → Observed) → HistoryAct → Bool
fits_with is_packet_fit of Start = true
fits_with is_packet_fit of (Path n port counter) = has_place (of n)
fits_with is_packet_fit of (File n x packet) = is_new (of n) x && is_packet_fit packet
fits_with is_packet_fit of (Hold n x packet) = is_new (of n) x && is_packet_fit packet && may_hold (of n)
fits_with is_packet_fit of (Seal n x) = is_new (of n) x
fits_with is_packet_fit of (Release n xs) = is_list_fit (of n) xs
fits_with is_packet_fit of (Cancel n xs) = is_list_fit (of n) xs
fits_with is_packet_fit of Tick = true
fits_with is_packet_fit of Close = true

-- nothing is asked of packets
abbrev pub any_packet : List ℕ → Bool
any_packet packet = true
