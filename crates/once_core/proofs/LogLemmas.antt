-- The log of a node of a world: its starts, and where its gateways are.
use Rattle.std.proofs.Common.{◌≡◌, ℕ, zero, suc, min, ◌+◌, ◌-◌, ◌%◌, ◌<◌, ◌≤◌, true, false, List, [], ◌∷◌, length, map, Option, Some, slice_get, slice_set, get_or, refl, sym, ap, ◌∙◌, arith, option_map, eqb-true}
use Rattle.once_core.proofs.Names.{Addr, address_at, addresses_from, all_drawn, Appointed, Began, begins, common_steps, counter_of, drawn, end_of_numbers, first_gateway_ip, gateway_address, gateway_at, has_entries, has_ip, Heard, length-map, LogEntry, logged, number_drawn, option_map_or, paths_hearing, PathsOfNode, Peer, peer_anew, peers_of, place_of, same_Some, Saying, Sending, slice_get-get_or, slice_get-map, starts_in, Submitted, Ticked}
use Rattle.std.proofs.lemmas.List.Quantifiers.{position-Some}
use Rattle.node_core.specs.Log.{paths_of}
use Rattle.node_core.specs.Peers.{at_place}
use Rattle.node_core.specs.declared.sending.Sending.TheVariants as send
use Rattle.once_core.proofs.NodeTurnLemmas.{addresses_length}
use Rattle.once_core.proofs.CaseLemmas.{map_known}

-- ---- starts

-- the log has begun, and the restart counter is the number of its starts
pub record Counts (log : List LogEntry) : Type 0 where
  pub some : has_entries log ≡ true
  pub one : 1 ≤ starts_in log
  pub counter : starts_in log ≤ 255 → counter_of 1 log ≡ starts_in log

pub starts_same : (entry : LogEntry) (log : List LogEntry) → begins entry ≡ false → starts_in (entry ∷ log) ≡ starts_in log
starts_same entry log isnt = grind (arith, common_steps)

pub starts_again : (log : List LogEntry) → starts_in (Began ∷ log) ≡ suc (starts_in log)
starts_again log = grind (arith, common_steps)

again : (log : List LogEntry) → has_entries log ≡ true → counter_of 1 log ≡ starts_in log
    → starts_in (Began ∷ log) ≤ 255
    → counter_of 1 (Began ∷ log) ≡ starts_in (Began ∷ log)
again log some before few = grind (arith, common_steps)

counts_more : (log : List LogEntry) → Counts log → (entry : LogEntry) → Counts (entry ∷ log)
counts_more log is Began = record {
  some = refl;
  one = omega (arith, starts_again log);
  counter = λ few. again log is.some (is.counter (omega (arith, few, starts_again log))) few;
}
counts_more log is entry = record {
  some = refl;
  one = omega (arith, is.one, starts_same entry log refl);
  counter = λ few. is.counter (omega (arith, few, starts_same entry log refl)) ∙ sym (starts_same entry log refl);
}

pub counts_logged : (entries log : List LogEntry) → Counts log → Counts (logged entries log)
counts_logged [] log is = is
counts_logged (entry ∷ entries) log is = counts_logged entries (entry ∷ log) (counts_more log is entry)

hearing_keeps : (gateway : ℕ) (saying : Saying) (paths : PathsOfNode) → (paths_hearing gateway saying paths).counter ≡ paths.counter
hearing_keeps gateway saying paths = grind arith

pub counter_is : (first : ℕ) (log : List LogEntry) → (paths_of first log).counter ≡ counter_of first log
counter_is first (Submitted form ∷ log) = counter_is first log
counter_is first (Appointed gateway ∷ log) = counter_is first log
counter_is first (Ticked sendings ∷ log) = counter_is first log
counter_is first (Heard port gateway saying ∷ log) = hearing_keeps gateway saying (paths_of first log) ∙ counter_is first log
counter_is first _ = refl

-- ---- gateways

abbrev pub addresses : List Peer → List Addr
addresses peers = map (λ (peer : Peer). peer.address) peers

set_keeps : (gateway : ℕ) (peers : List Peer) (p q : Peer) → slice_get peers gateway ≡ Some p → q.address ≡ p.address → addresses (slice_set peers gateway q) ≡ addresses peers
set_keeps gateway [] p q e same = absurd (cc)
set_keeps zero (peer ∷ peers) p q e same = ap (λ (a : Addr). a ∷ addresses peers) (same ∙ ap (λ (x : Peer). x.address) (sym (same_Some peer p e)))
set_keeps (suc gateway) (peer ∷ peers) p q e same = ap (λ (them : List Addr). peer.address ∷ them) (set_keeps gateway peers p q e same)

place_keeps : (f : Peer → Peer) → ((peer : Peer) → (f peer).address ≡ peer.address) → (gateway : ℕ) (peers : List Peer) → addresses (at_place gateway f peers) ≡ addresses peers
place_keeps f keeps gateway peers = map_known (λ (ps : List Peer). addresses ps ≡ addresses peers) (slice_get peers gateway) (λ none. refl)
    (λ p there. set_keeps gateway peers p (f p) there (keeps p))

drawn_keeps : (sending : Sending) (peers : List Peer) → addresses (drawn sending peers) ≡ addresses peers
drawn_keeps sending peers = grind (arith, draws, probes)
  where
    draws : (gateway number : ℕ) → addresses (number_drawn gateway number peers) ≡ addresses peers
    draws gateway number = place_keeps (λ peer. record peer { next = min (suc number) end_of_numbers })
        (λ peer. refl) gateway peers

    probes : (gateway number : ℕ) → addresses (drawn (send.Probe gateway number) peers) ≡ addresses peers
    probes gateway number = place_keeps (λ peer. record peer { path = (number + 1) % 65536 })
        (λ peer. refl) gateway peers

all_keep : (sendings : List Sending) (peers : List Peer) → addresses (all_drawn sendings peers) ≡ addresses peers
all_keep [] peers = refl
all_keep (sending ∷ sendings) peers = all_keep sendings (drawn sending peers) ∙ drawn_keeps sending peers

anew : (gateways : List Addr) → addresses (map peer_anew gateways) ≡ gateways
anew [] = refl
anew (a ∷ gateways) = ap (λ (rest : List Addr). a ∷ rest) (anew gateways)

pub addresses_stay : (gateways : List Addr) (log : List LogEntry) → addresses (peers_of gateways log) ≡ gateways
addresses_stay gateways (Submitted form ∷ log) = addresses_stay gateways log
addresses_stay gateways (Appointed gateway ∷ log) = addresses_stay gateways log
addresses_stay gateways (Ticked sendings ∷ log) = all_keep sendings (peers_of gateways log) ∙ addresses_stay gateways log
addresses_stay gateways (Heard port gateway saying ∷ log) = addresses_stay gateways log
addresses_stay gateways _ = anew gateways

at_some : (from count place number : ℕ) → place < count → number ≡ from + place
    → slice_get (addresses_from from count) place ≡ Some (gateway_address number)
at_some from zero place number lt e = absurd (omega (arith, lt))
at_some from (suc count) zero number lt e = ap (λ (n : ℕ). Some (gateway_address n)) (omega (arith, e))
at_some from (suc count) (suc place) number lt e = at_some (suc from) count place number (omega (arith, lt))
    (omega (arith, e))

module _ (gateways : ℕ) (log : List LogEntry) where
  abbrev pub peers : List Peer
  peers = peers_of (addresses_from 0 gateways) log

  there : (place : ℕ) → place < gateways → option_map (λ (peer : Peer). peer.address) (slice_get peers place) ≡ Some (gateway_address place)
  there place lt =
      sym (slice_get-map (λ (peer : Peer). peer.address) peers place)
      ∙ ap (λ (all : List Addr). slice_get all place) (addresses_stay (addresses_from 0 gateways) log)
      ∙ at_some 0 gateways place place lt (omega arith)

  pub address_is : (place : ℕ) → place < gateways → address_at peers place ≡ gateway_address place
  address_is place lt = grind (arith, there place lt)

  -- the gateway at an address is the one that the address is of
  pub gateway_is : (place : ℕ) → place < gateways → gateway_at (address_at peers place) ≡ place
  gateway_is place lt =
      let back : first_gateway_ip + place - first_gateway_ip ≡ place = omega arith in
      ap gateway_at (address_is place lt) ∙ back

  pub size : length peers ≡ gateways
  size =
      sym (length-map peers (λ (peer : Peer). peer.address))
      ∙ ap length (addresses_stay (addresses_from 0 gateways) log) ∙ addresses_length 0 gateways

  pub place_is : (gateway place : ℕ) → place_of peers (gateway_address gateway).ip ≡ Some place → place ≡ gateway
  place_is gateway place e =
      let d : Peer = peer_anew (gateway_address 0) in
      let is = position-Some (has_ip (first_gateway_ip + gateway)) peers place d e in
      let lt : place < gateways = omega (arith, is.0, size) in
      let ip : (get_or peers place d).address.ip ≡ first_gateway_ip + gateway = eqb-true _ _ is.1 in
      let own : (get_or peers place d).address.ip ≡ first_gateway_ip + place =
      ap (λ (a : Addr). a.ip)
      (sym (ap (λ (o : Option Peer). option_map_or (λ (peer : Peer). peer.address) o (record { ip = 0; port = 0 })) (slice_get-get_or peers place d is.0))
      ∙ address_is place lt) in
      omega (arith, ip, own)
