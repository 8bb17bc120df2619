-- What holds of every node after what befalls it, and one more entry of the log makes of a node what befalls it.
use Rattle.std.proofs.Common.{◌≡◌, ℕ, suc, ◌+◌, ◌-◌, ◌≤◌, ◌<◌, ◌==◌, lit≤, List, [], ◌∷◌, ◌++◌, length, map, take, drop, set, get_or, length-append, inl, inr, None, refl, sym, subst, ◌∙◌, arith, min, ◌%◌, Bool, true, IsTrue, if◌then◌else◌, Option, ap}
use Rattle.node_core.proofs.Names.{Addr, All-map, all_drawn, Appointed, appointing, AreNumbered, AreNumbers, befallen, befell, Began, call_entries, CanFollow, CanFollowAll, cond_both, counter_of, drawn, end_of_numbers, eqb_tells, favourite, find, has_entries, Heard, heard_entries, IsNode, IsSound, length-map, log_of, LogEntry, logged, map_over_more, most_quiet, nat_tests, node_after, node_of, NodeCall, NodeSetup, NodeValue, number_drawn, packet_after, packet_after_all, PacketState, PathEvent, paths_hearing, paths_of, PathsOfNode, Peer, peer_anew, peers_anew, peers_of, Port, reached, restarted, Saying, Sending, slice_get, Submitted, Taken, taken_entries, tick_entries, Ticked, while_open}
use Rattle.node_core.proofs.CaseLemmas.{either_open, either_sent}
use Rattle.node_core.proofs.Moves.{place_keeps}

-- ---- packets that bear the numbers that follow one

-- the packet with a number is found by its place
pub none_numbered : (before number : ℕ) (packets : List PacketState) → AreNumbered before packets → number ≤ before →
    find (λ (p : PacketState). p.number == number) packets ≡ None
none_numbered before number [] numbered low = refl
none_numbered before number (packet ∷ packets) numbered low =
    search (arith, nat_tests, eqb_tells, (none_numbered (suc before) number packets numbered.1 (omega (arith, low))))

pub place_numbered : (before number : ℕ) (packets : List PacketState) → AreNumbered before packets → before < number →
    find (λ (p : PacketState). p.number == number) packets ≡ slice_get packets (number - suc before)
place_numbered before number [] numbered high = refl
place_numbered before number (packet ∷ packets) numbered high =
    elim (eqb_tells packet.number number) [
      | inl is ↦ search arith
      | inr isnt ↦
          let above : suc before < number = let apart : ¬ (suc before ≡ number) = λ e. isnt.1 (numbered.0 ∙ e) in omega (arith, high, apart) in
          let there : number - suc before ≡ suc (number - suc (suc before)) = omega (arith, above) in
          rw (isnt.0, there) (place_numbered (suc before) number packets numbered.1 above)
    ]

-- one more packet
pub numbered_push : (before number : ℕ) (packets : List PacketState) → AreNumbered before packets → number ≡ suc (before + length packets) →
    AreNumbered before (packets ++ record { number = number; copies = [] } ∷ [])
numbered_push before number [] numbered next = (omega (arith, next), tt)
numbered_push before number (packet ∷ packets) numbered next =
    (numbered.0, numbered_push (suc before) number packets numbered.1 (omega (arith, next)))

-- what keeps each packet's number keeps them numbered
pub numbered_map : (f : PacketState → PacketState) → ((packet : PacketState) → (f packet).number ≡ packet.number) →
    (before : ℕ) (packets : List PacketState) → AreNumbered before packets → AreNumbered before (map f packets)
numbered_map f keeps before [] numbered = tt
numbered_map f keeps before (packet ∷ packets) numbered =
    (keeps packet ∙ numbered.0, numbered_map f keeps (suc before) packets numbered.1)

pub while_open-number : (f : PacketState → PacketState) → ((packet : PacketState) → (f packet).number ≡ packet.number) →
    (packet : PacketState) → (while_open f packet).number ≡ packet.number
while_open-number f keeps packet = search (arith, either_open)

pub after_all-number : (sendings : List Sending) (packet : PacketState) → (packet_after_all sendings packet).number ≡ packet.number
after_all-number [] packet = refl
after_all-number (sending ∷ sendings) packet =
    search (arith, (after_all-number sendings (packet_after sending packet)), either_sent)

-- ---- the gateways for which no number was drawn

pub numbers_anew : (gateways : List Addr) → AreNumbers (map peer_anew gateways)
numbers_anew gateways = All-map (λ (peer : Peer). peer.next ≤ end_of_numbers) peer_anew gateways (λ k d below. lit≤ tt)

pub numbers_renewed : (peers : List Peer) → AreNumbers (peers_anew peers)
numbers_renewed peers =
    All-map (λ (peer : Peer). peer.next ≤ end_of_numbers) (λ (peer : Peer). peer_anew peer.address) peers
    (λ k d below. lit≤ tt)

pub renewed_more : (xs ys : List Peer) (i : ℕ) (x : Peer) → i < length xs →
    ys ≡ peers_anew (take i xs) ++ drop i xs → x ≡ get_or ys i x →
    set ys i (peer_anew x.address) ≡ peers_anew (take (i + 1) xs) ++ drop (i + 1) xs
renewed_more = map_over_more (λ (peer : Peer). peer_anew peer.address)

pub length-anew : (peers : List Peer) → length (peers_anew peers) ≡ length peers
length-anew peers = length-map peers (λ (peer : Peer). peer_anew peer.address)

-- ---- what is sound

-- one more packet behind those that bear the numbers up to the last
pub numbered_next : (last : ℕ) (packets : List PacketState) → length packets ≤ last → AreNumbered (last - length packets) packets →
    AreNumbered (last + 1 - length (packets ++ record { number = last + 1; copies = [] } ∷ [])) (packets ++ record { number = last + 1; copies = [] } ∷ [])
numbered_next last packets within numbered = search (arith, length-append, numbered_push)

-- packets that change and keep their numbers leave a node sound
pub sound_on : (restarts : ℕ) (node : NodeValue) (f : PacketState → PacketState) → ((packet : PacketState) → (f packet).number ≡ packet.number) →
    IsSound restarts node → (gateways : List Peer) (favourite quiet : ℕ) (packets : List PacketState) →
    length gateways ≡ length node.gateways →
    favourite < length node.gateways → quiet ≤ 3 → AreNumbers gateways → packets ≡ map f node.packets →
    IsSound restarts
    (record node { gateways = gateways; favourite_place = favourite; quiet = quiet; packets = packets })
sound_on restarts node f keeps sound gateways favourite quiet packets peers within few numbers is =
    let size : length (map f node.packets) ≡ length node.packets = length-map node.packets f in
    subst (λ (ps : List PacketState). IsSound restarts
    (record node { gateways = gateways; favourite_place = favourite; quiet = quiet; packets = ps })) (sym is)
    (record {
      some = omega (arith, peers, sound.some);
      most = omega (arith, peers, sound.most);
      within = omega (arith, peers, within);
      quiet = few;
      numbers = numbers;
      numbered = rw size (numbered_map f keeps (node.submissions - length node.packets) node.packets sound.numbered);
      packets = omega (arith, size, sound.packets);
      forms = sound.forms ∙ sym size;
      submissions = sound.submissions;
      resolved = omega (arith, size, sound.resolved);
      done = omega (arith, size, sound.done);
      counter = sound.counter;
    })

-- ---- one more entry of the log

-- ---- the gateways' addresses stay

number_keeps : (gateway number : ℕ) (is_new : Bool) (peers : List Peer) →
    peers_anew (if is_new then number_drawn gateway number peers else peers) ≡ peers_anew peers
number_keeps gateway number is_new peers =
    cond_both is_new (number_drawn gateway number peers) peers
    (λ (after : List Peer). peers_anew after ≡ peers_anew peers)
    (λ _. place_keeps (λ (peer : Peer). peer_anew peer.address)
    (λ (peer : Peer). record peer { next = min (suc number) end_of_numbers }) (λ peer. refl) gateway peers) (λ _. refl)

drawn_keeps : (sending : Sending) (peers : List Peer) → peers_anew (drawn sending peers) ≡ peers_anew peers
drawn_keeps sending peers = grind (arith, place_keeps, number_keeps)

pub all_drawn_keeps : (sendings : List Sending) (peers : List Peer) → peers_anew (all_drawn sendings peers) ≡ peers_anew peers
all_drawn_keeps [] peers = refl
all_drawn_keeps (sending ∷ sendings) peers = all_drawn_keeps sendings (drawn sending peers) ∙ drawn_keeps sending peers

anew_again : (gateways : List Addr) → peers_anew (map peer_anew gateways) ≡ map peer_anew gateways
anew_again [] = refl
anew_again (gateway ∷ gateways) = ap (λ (ps : List Peer). peer_anew gateway ∷ ps) (anew_again gateways)

pub gateways_stay : (gateways : List Addr) (log : List LogEntry) → peers_anew (peers_of gateways log) ≡ map peer_anew gateways
gateways_stay gateways (Submitted form ∷ log) = gateways_stay gateways log
gateways_stay gateways (Appointed gateway ∷ log) = gateways_stay gateways log
gateways_stay gateways (Ticked sendings ∷ log) = all_drawn_keeps sendings (peers_of gateways log) ∙ gateways_stay gateways log
gateways_stay gateways (Heard port gateway saying ∷ log) = gateways_stay gateways log
gateways_stay gateways _ = anew_again gateways

-- a log has as many gateways as its node was made with
pub gateways_count : (gateways : List Addr) (log : List LogEntry) → length (peers_of gateways log) ≡ length gateways
gateways_count gateways log =
    cc (
      length-map (peers_of gateways log) (λ (peer : Peer). peer_anew peer.address),
      gateways_stay gateways log,
      length-map gateways peer_anew,
    )

-- ---- the restart counter is that of the paths

pub event_keeps : (paths : PathsOfNode) (gateway : ℕ) (event : PathEvent) → (node_after paths gateway event).counter ≡ paths.counter
event_keeps paths gateway event = grind arith

pub saying_keeps : (paths : PathsOfNode) (gateway : ℕ) (saying : Saying) → (paths_hearing gateway saying paths).counter ≡ paths.counter
saying_keeps paths gateway saying = grind (arith, event_keeps)

pub counter_stays : (first : ℕ) (log : List LogEntry) → (paths_of first log).counter ≡ counter_of first log
counter_stays first (Submitted form ∷ log) = counter_stays first log
counter_stays first (Appointed gateway ∷ log) = counter_stays first log
counter_stays first (Ticked sendings ∷ log) = counter_stays first log
counter_stays first (Heard port gateway saying ∷ log) = saying_keeps (paths_of first log) gateway saying ∙ counter_stays first log
counter_stays first _ = refl

-- ---- one more entry

quiet_tick : (n : ℕ) → min most_quiet (suc n) ≡ min most_quiet (suc (min most_quiet n))
quiet_tick n = omega arith

quiet_heard : (is : Bool) (n : ℕ) → min most_quiet (if is then 0 else n) ≡ (if is then 0 else min most_quiet n)
quiet_heard is n = grind arith

begun_counter : (log : List LogEntry) (counter : ℕ) → IsTrue (has_entries log) → restarted (has_entries log) counter ≡ (counter + 1) % 256
begun_counter log counter begun = grind arith

pub entry_befalls : (setup : NodeSetup) (entry : LogEntry) (log : List LogEntry) → CanFollow entry log →
    node_of setup (entry ∷ log) ≡ befell entry (node_of setup log)
entry_befalls setup entry log begun =
    grind (arith, gateways_stay, begun_counter, counter_stays, quiet_tick, quiet_heard)

pub entries_befall : (setup : NodeSetup) (entries log : List LogEntry) → CanFollowAll entries log →
    node_of setup (logged entries log) ≡ befallen entries (node_of setup log)
entries_befall setup [] log follow = refl
entries_befall setup (entry ∷ entries) log follow =
    entries_befall setup entries (entry ∷ log) follow.1 ∙ ap (befallen entries) (entry_befalls setup entry log follow.0)

pub entries_stand : (setup : NodeSetup) (entries log : List LogEntry) (node : NodeValue) → CanFollowAll entries log →
    IsNode setup log node → IsNode setup (logged entries log) (befallen entries node)
entries_stand setup entries log node follow is = ap (befallen entries) is ∙ sym (entries_befall setup entries log follow)

-- ---- what follows every log

appointed_follow : (gateway : Option ℕ) (log : List LogEntry) → CanFollowAll (appointing gateway) log
appointed_follow gateway log = grind arith

pub tick_follow : (node : NodeValue) (log : List LogEntry) → CanFollowAll (tick_entries node) log
tick_follow node log = grind (arith, nat_tests)

taken_follow : (node : NodeValue) (log : List LogEntry) (port : Port) (gateway : ℕ) (what : Taken) → CanFollowAll (taken_entries node port gateway what) log
taken_follow node log port gateway what = grind (arith, appointed_follow)

pub heard_follow : (node : NodeValue) (log : List LogEntry) (port : Port) (from : Addr) (octets : List ℕ) → CanFollowAll (heard_entries node port from octets) log
heard_follow node log port from octets = grind (arith, nat_tests, taken_follow)

-- ---- one more call

logged_has : (entries log : List LogEntry) → has_entries log ≡ true → has_entries (logged entries log) ≡ true
logged_has [] log has = has
logged_has (entry ∷ entries) log has = logged_has entries (entry ∷ log) refl

log_begun : (setup : NodeSetup) (calls : List NodeCall) → has_entries (log_of setup calls) ≡ true
log_begun setup [] = refl
log_begun setup (call ∷ calls) = search (arith, logged_has, (log_begun setup calls))

any_follow : (entries log : List LogEntry) → has_entries log ≡ true → CanFollowAll entries log
any_follow [] log has = tt
any_follow (Began ∷ entries) log has = (has, any_follow entries (Began ∷ log) refl)
any_follow (entry ∷ entries) log has = (tt, any_follow entries (entry ∷ log) refl)

pub call_goes_on : (setup : NodeSetup) (call : NodeCall) (calls : List NodeCall) →
    reached setup (call ∷ calls) ≡ befallen (call_entries (reached setup calls) call) (reached setup calls)
call_goes_on setup call calls = search (arith, entries_befall, any_follow, log_begun)
