-- The gateways of a node, and the numbers that it draws for each: path numbers from 0, which return to 0 behind
-- 65,535, and request numbers from 65,536 on, of which the wire carries the last 16 bits.
use Rattle.std.specs.Prelude.{ℕ, suc, min, ◌+◌, ◌-◌, ◌%◌, ◌==◌, ◌≤◌, Bool, if◌then◌else◌, List, [], ◌∷◌, Option, slice_get, slice_set}
use Rattle.std.specs.List.{All, position}
use Rattle.std.specs.Option.{option_map_or}
use Rattle.gw_base.specs.declared.address.Addr.{Addr}
use Rattle.node_core.specs.declared.peer.Peer.{Peer}
use Rattle.node_core.specs.declared.sending.Sending.{Sending}
use Rattle.node_core.specs.declared.sending.Sending.TheVariants as send

-- a gateway for which no number was drawn since the start
abbrev pub peer_anew : Addr → Peer
peer_anew address = record { address = address; path = 0; next = 65536 }

-- the next request number of the gateway at this place, and the last one that was drawn
abbrev pub next_number : List Peer → ℕ → ℕ
next_number peers gateway = option_map_or (λ (peer : Peer). peer.next) (slice_get peers gateway) 65536

abbrev pub last_number : List Peer → ℕ → ℕ
last_number peers gateway = next_number peers gateway - 1

-- the gateways with one of them changed
abbrev pub at_place : ℕ → (Peer → Peer) → List Peer → List Peer
at_place gateway f peers =
    option_map_or (λ (peer : Peer). slice_set peers gateway (f peer)) (slice_get peers gateway) peers

-- No request number is drawn from here on, as a gateway takes none: the next one stays. A packet draws at most two
-- numbers of a gateway, so it takes 2 to the 62nd packets in one start to come here.
abbrev pub end_of_numbers : ℕ
end_of_numbers = 9223372036854775808

-- the next request numbers are at most that
abbrev pub AreNumbers : List Peer → Type 0
AreNumbers peers = All (λ (peer : Peer). peer.next ≤ end_of_numbers) peers

-- the gateways after a path number, and a request number, was drawn for one of them
abbrev pub path_drawn : ℕ → ℕ → List Peer → List Peer
path_drawn gateway number peers = at_place gateway (λ peer. record peer { path = (number + 1) % 65536 }) peers

abbrev pub number_drawn : ℕ → ℕ → List Peer → List Peer
number_drawn gateway number peers =
    at_place gateway (λ peer. record peer { next = min (suc number) end_of_numbers }) peers

-- the gateways after a sending, and after some in their order
abbrev pub drawn : Sending → List Peer → List Peer
drawn (send.Probe gateway number) peers = path_drawn gateway number peers
drawn (send.Data packet gateway number is_plain is_new) peers =
    if is_new then number_drawn gateway number peers else peers
drawn (send.Test packet gateway number) peers = peers
drawn (send.Command packet gateway named number order is_new) peers =
    if is_new then number_drawn gateway number peers else peers

abbrev pub all_drawn : List Sending → List Peer → List Peer
all_drawn [] peers = peers
all_drawn (sending ∷ sendings) peers = all_drawn sendings (drawn sending peers)

-- the gateway at this IPv4 address; its port isn't compared
abbrev pub has_ip : ℕ → Peer → Bool
has_ip ip peer = peer.address.ip == ip

abbrev pub place_of : List Peer → ℕ → Option ℕ
place_of peers ip = position (has_ip ip) peers

-- the address of the gateway at a place
abbrev pub address_at : List Peer → ℕ → Addr
address_at peers gateway =
    option_map_or (λ (peer : Peer). peer.address) (slice_get peers gateway) (record { ip = 0; port = 0 })
