-- Packets of which those in front are done: what is asked of all can be asked of the rest. What is due for a packet is
-- of that packet alone, so each packet changes by what is due for it.
use Rattle.std.proofs.Common.{◌≡◌, ℕ, zero, suc, ◌+◌, ◌≤◌, ◌<◌, ◌&&◌, not, Bool, true, false, if◌then◌else◌, List, [], ◌∷◌, ◌++◌, length, map, take, drop, set, get_or, Option, None, refl, sym, ap, subst, ◌∙◌, add-one, min, arith, ◌==◌, append_assoc, length-drop}
use Rattle.node_core.proofs.Names.{all_drawn, AllByRecursion, AllDone, and_parts, AreNumbered, at_drop_all, at_drop_more, cases_Bool, count_by, done_among, due_by, due_for, due_for_all, first_made, flat_map, is_done, is_of, is_resolved, IsSettled, KeptPackets, least, list_any, map-append, map_over_more, nat_tests, ne_eqb, oldest_number, open_among, option_or, packet_after, packet_after_all, packet_hearing, PacketCopy, PacketState, PathsOfNode, Peer, planned, Port, probes, resolved_among, Sending, sum_by-cons, take-append-drop, take-map, take_more, unsettled_at, waits_at, while_open}
use Rattle.node_core.proofs.NodeLemmas.{after_all-number}
use Rattle.node_core.proofs.DueLemmas.{due_each, probes_each}
use Rattle.node_core.proofs.CaseLemmas.{each_append}

-- ---- what a done packet adds

count_by-pass : (f : PacketState → Bool) (packet : PacketState) (packets : List PacketState) (is : Bool) → f packet ≡ is →
    count_by f (packet ∷ packets) ≡ (if is then 1 else 0) + count_by f packets
count_by-pass f packet packets is e = cc (sum_by-cons (λ x. if f x then 1 else 0) packet packets)

-- a done packet is resolved
resolved_first : (copies : List PacketCopy) → is_done copies ≡ true → is_resolved copies ≡ true
resolved_first copies done = grind (arith, and_parts)

-- ---- the packets from the first open one on

-- what no done packet changes
settled_is : {B : Type 0} (F : List PacketState → B) →
    ((packet : PacketState) (packets : List PacketState) → is_done packet.copies ≡ true →
    F (packet ∷ packets) ≡ F packets) →
    (kept : KeptPackets) → IsSettled kept → F (drop kept.settled kept.packets) ≡ F kept.packets
settled_is F step kept settled = by kept.settled kept.packets settled.done
  where
    by : (n : ℕ) (packets : List PacketState) → AllDone (take n packets) → F (drop n packets) ≡ F packets
    by (suc n) (packet ∷ packets) done = by n packets done.1 ∙ sym (step packet packets done.0)
    by _ _ done = refl

pub open_settled : (kept : KeptPackets) → IsSettled kept → open_among (drop kept.settled kept.packets) ≡ open_among kept.packets
open_settled = settled_is open_among (λ packet packets done.
    count_by-pass (λ (p : PacketState). not (is_done p.copies)) packet packets false (ap not done) ∙ (omega arith))

-- what each done packet adds to
counted : (f : PacketState → Bool) → ((packet : PacketState) → is_done packet.copies ≡ true → f packet ≡ true) →
    (kept : KeptPackets) → IsSettled kept →
    kept.settled + count_by f (drop kept.settled kept.packets) ≡ count_by f kept.packets
counted f passes kept settled = by kept.settled kept.packets settled.within settled.done
  where
    by : (n : ℕ) (packets : List PacketState) → n ≤ length packets → AllDone (take n packets) → n + count_by f (drop n packets) ≡ count_by f packets
    by zero packets within done = omega arith
    by (suc n) [] within done = absurd (omega (arith, within))
    by (suc n) (packet ∷ packets) within done =
        search (arith, nat_tests, (by n packets (omega (arith, within)) done.1), count_by-pass)

pub resolved_settled : (kept : KeptPackets) → IsSettled kept →
    kept.settled + resolved_among (drop kept.settled kept.packets) ≡ resolved_among kept.packets
resolved_settled = counted (λ (p : PacketState). is_resolved p.copies) (λ packet. resolved_first packet.copies)

pub done_settled : (kept : KeptPackets) → IsSettled kept →
    kept.settled + done_among (drop kept.settled kept.packets) ≡ done_among kept.packets
done_settled = counted (λ (p : PacketState). is_done p.copies) (λ packet done. done)

pub waits_settled : (gateway : ℕ) (kept : KeptPackets) → IsSettled kept →
    list_any (waits_at gateway) (drop kept.settled kept.packets) ≡ list_any (waits_at gateway) kept.packets
waits_settled gateway = settled_is (list_any (waits_at gateway)) (λ packet packets done. rw done refl)

-- ---- the oldest number

pub least-append : (number : ℕ) (xs ys : List ℕ) → least number (xs ++ ys) ≡ least (least number xs) ys
least-append number [] ys = refl
least-append number (x ∷ xs) ys = least-append (min number x) xs ys

pub oldest_settled : (gateway next : ℕ) (kept : KeptPackets) → IsSettled kept →
    oldest_number gateway next (drop kept.settled kept.packets) ≡ oldest_number gateway next kept.packets
oldest_settled gateway next = settled_is (oldest_number gateway next) (λ packet packets done. rw done refl)

pub oldest_more : (gateway next : ℕ) (packets : List PacketState) (i : ℕ) (d : PacketState) → i < length packets →
    oldest_number gateway next (drop i packets)
    ≡ oldest_number gateway (least next (unsettled_at gateway (get_or packets i d))) (drop (i + 1) packets)
oldest_more gateway next packets i d below =
    at_drop_more (oldest_number gateway next) packets i d below
    ∙ least-append next (unsettled_at gateway (get_or packets i d)) (flat_map (unsettled_at gateway) (drop (i + 1) packets))

pub oldest_none : (gateway next : ℕ) (packets : List PacketState) → oldest_number gateway next (drop (length packets) packets) ≡ next
oldest_none gateway next packets = at_drop_all (oldest_number gateway next) packets (length packets) (omega arith)

-- ---- one more packet

pub one_more_done : (packets : List PacketState) (i : ℕ) (d : PacketState) → i < length packets → AllDone (take i packets) →
    is_done (get_or packets i d).copies ≡ true → AllDone (take (i + 1) packets)
one_more_done packets i d below done is = rw add-one (by packets i below done is)
  where
    by : (packets : List PacketState) (i : ℕ) → i < length packets → AllDone (take i packets) →
        is_done (get_or packets i d).copies ≡ true → AllDone (take (suc i) packets)
    by [] i below done is = absurd (omega (arith, below))
    by (packet ∷ packets) zero below done is = (is, tt)
    by (packet ∷ packets) (suc i) below done is = (done.0, by packets i (omega (arith, below)) done.1 is)

pub heard_more : (port : Port) (gateway cause : ℕ) (numbers : List ℕ) (xs ys : List PacketState) (i : ℕ) (x : PacketState) → i < length xs →
    ys ≡ map (while_open (packet_hearing port gateway cause numbers)) (take i xs) ++ drop i xs → x ≡ get_or ys i x →
    set ys i (while_open (packet_hearing port gateway cause numbers) x)
    ≡ map (while_open (packet_hearing port gateway cause numbers)) (take (i + 1) xs) ++ drop (i + 1) xs
heard_more port gateway cause numbers = map_over_more (while_open (packet_hearing port gateway cause numbers))

module _ (test : List PacketCopy → Bool) (change : PacketState → PacketState) where
  made-append : (one two : List PacketState) → first_made test change (one ++ two) ≡ option_or (first_made test change one) (first_made test change two)
  made-append [] two = refl
  made-append (packet ∷ one) two = search (arith, cases_Bool, (made-append one two))

  pub made_more : (packets : List PacketState) (i : ℕ) (d : PacketState) → i < length packets →
      first_made test change (take (i + 1) packets)
      ≡ option_or (first_made test change (take i packets)) (first_made test change (get_or packets i d ∷ []))
  made_more packets i d below =
      ap (first_made test change) (take_more packets i d below) ∙ made-append (take i packets) (get_or packets i d ∷ [])

-- ---- what is due

pub due_settled : (favourite : ℕ) (up : Bool) (peers : List Peer) (kept : KeptPackets) → IsSettled kept →
    due_for_all favourite up peers (drop kept.settled kept.packets) ≡ due_for_all favourite up peers kept.packets
due_settled favourite up peers = settled_is (due_for_all favourite up peers) (λ packet packets done. rw done refl)

-- ---- a change while they are open

front_same : (f : PacketState → PacketState) (n : ℕ) (packets : List PacketState) → AllDone (take n packets) →
    map (while_open f) (take n packets) ≡ take n packets
front_same f (suc n) (packet ∷ packets) done =
    rw done.0 (ap (λ (ps : List PacketState). packet ∷ ps) (front_same f n packets done.1))
front_same f _ _ done = refl

pub changed_settled : (f : PacketState → PacketState) (kept : KeptPackets) → IsSettled kept →
    take kept.settled kept.packets ++ map (while_open f) (drop kept.settled kept.packets) ≡ map (while_open f) kept.packets
changed_settled f kept settled =
    let n : ℕ = kept.settled in
    (λ i. (sym (front_same f n kept.packets settled.done) i) ++ map (while_open f) (drop n kept.packets))
    ∙ sym (map-append (while_open f) (take n kept.packets) (drop n kept.packets))
    ∙ ap (λ (ps : List PacketState). map (while_open f) ps) (take-append-drop n kept.packets)

-- ---- a response heard by all, from the first open packet on

pub changed_front : (f : PacketState → PacketState) (n : ℕ) (packets : List PacketState) → AllDone (take n packets) →
    packets ≡ map (while_open f) (take n packets) ++ drop n packets
changed_front f n packets done = cc (take-append-drop n packets, front_same f n packets done)

pub done_front : (f : PacketState → PacketState) (n : ℕ) (packets : List PacketState) → AllDone (take n packets) →
    AllDone (take n (map (while_open f) packets))
done_front f n packets done = subst AllDone (sym (take-map (while_open f) n packets ∙ front_same f n packets done)) done

never_both : (b : Bool) → (not b && b) ≡ false
never_both b = grind arith

pub made_front : (test : List PacketCopy → Bool) (f : PacketState → PacketState) (n : ℕ) (packets : List PacketState) → AllDone (take n packets) →
    ◌≡◌ {A = Option ℕ} None (first_made test (while_open f) (take n packets))
made_front test f (suc n) (packet ∷ packets) done =
    rw (done.0, never_both (test packet.copies)) (made_front test f n packets done.1)
made_front test f _ _ done = refl

middle : (f : PacketState → PacketState) (xs : List PacketState) (i : ℕ) (d : PacketState) → i < length xs →
    get_or (map f (take i xs) ++ drop i xs) i d ≡ get_or xs i d
middle f [] i d below = absurd (omega (arith, below))
middle f (x ∷ xs) zero d below = refl
middle f (x ∷ xs) (suc i) d below = middle f xs i d (omega (arith, below))

pub made_step : (test : List PacketCopy → Bool) (f : PacketState → PacketState) (xs ys : List PacketState) (i : ℕ) (x : PacketState)
    (before here after : Option ℕ) → i < length xs → ys ≡ map f (take i xs) ++ drop i xs → x ≡ get_or ys i x →
    before ≡ first_made test f (take i xs) → here ≡ first_made test f (x ∷ []) → after ≡ option_or before here →
    after ≡ first_made test f (take (i + 1) xs)
made_step test f xs ys i x before here after below so_far is was now result = search (arith, middle, made_more)

-- ---- what is due for a packet is of it

-- none of the sendings is of the packet with this number
abbrev pub IsOfAnother : ℕ → Sending → Type 0
IsOfAnother number sending = is_of number sending ≡ false

abbrev pub AreOfOthers : ℕ → List Sending → Type 0
AreOfOthers number sendings = AllByRecursion (IsOfAnother number) sendings

-- sendings of others change nothing of a packet
pub others_change_nothing : (packet : PacketState) (sendings : List Sending) → AreOfOthers packet.number sendings →
    packet_after_all sendings packet ≡ packet
others_change_nothing packet [] others = refl
others_change_nothing packet (sending ∷ sendings) others =
    ap (packet_after_all sendings) (rw others.0 refl) ∙ others_change_nothing packet sendings others.1

pub after_all-append : (one two : List Sending) (packet : PacketState) → packet_after_all (one ++ two) packet ≡ packet_after_all two (packet_after_all one packet)
after_all-append [] two packet = refl
after_all-append (sending ∷ one) two packet = after_all-append one two (packet_after sending packet)

-- ---- what is due for a packet with another number

due-others : (number favourite : ℕ) (up : Bool) (peers : List Peer) (packet : PacketState) → (packet.number == number) ≡ false →
    AreOfOthers number (due_for favourite up peers packet)
due-others number favourite up peers packet other = search (arith, due_each)

-- what is due for packets with greater numbers
later-others : (number favourite : ℕ) (up : Bool) (before : ℕ) (peers : List Peer) (packets : List PacketState) → AreNumbered before packets → number ≤ before →
    AreOfOthers number (due_for_all favourite up peers packets)
later-others number favourite up before peers [] numbered below = tt
later-others number favourite up before peers (packet ∷ packets) numbered below =
    each_append (IsOfAnother number) _ _ (due-others number favourite up peers packet
    (ne_eqb packet.number number (λ e. omega (arith, e, numbered.0, below))))
    (later-others number favourite up (suc before) (all_drawn (due_for favourite up peers packet) peers) packets numbered.1 (omega (arith, below)))

-- ---- all packets

module _ (favourite : ℕ) (up : Bool) where
  one_packet : (peers : List Peer) (packet : PacketState) (sent later : List Sending) →
      AreOfOthers packet.number sent → AreOfOthers packet.number later →
      while_open (packet_after_all (sent ++ (due_for favourite up peers packet ++ later))) packet
      ≡ packet_after_all (due_for favourite up peers packet) packet
  one_packet peers packet sent later before behind =
      search (arith, after_all-number, after_all-append, others_change_nothing, cases_Bool)

  -- all that a tick sends, behind what is of none of these packets: each packet changes by what is due for it
  pub planned_is_map : (before : ℕ) (peers : List Peer) (packets : List PacketState) (sent : List Sending) → AreNumbered before packets →
      ((n : ℕ) → before < n → AreOfOthers n sent) →
      map (while_open (packet_after_all (sent ++ due_for_all favourite up peers packets))) packets ≡ planned favourite up peers packets
  planned_is_map before peers [] sent numbered low = refl
  planned_is_map before peers (packet ∷ packets) sent numbered low =
      let due : List Sending = due_for favourite up peers packet in
      let later : List Sending = due_for_all favourite up (all_drawn due peers) packets in
      let of_later : AreOfOthers packet.number later = search (arith, later-others) in
      let head : while_open (packet_after_all (sent ++ (due ++ later))) packet ≡ packet_after_all due packet =
      one_packet peers packet sent later (low packet.number (omega (arith, numbered.0))) of_later in
      let lower : (n : ℕ) → suc before < n → AreOfOthers n (sent ++ due) =
      λ n below. each_append (IsOfAnother n) _ _ (low n (omega (arith, below)))
      (due-others n favourite up peers packet (ne_eqb packet.number n (λ e. omega (arith, e, numbered.0, below)))) in
      let tail : map (while_open (packet_after_all (sent ++ (due ++ later)))) packets ≡ planned favourite up (all_drawn due peers) packets =
      ap (λ (all : List Sending). map (while_open (packet_after_all all)) packets) (sym (append_assoc sent due later))
      ∙ planned_is_map (suc before) (all_drawn due peers) packets (sent ++ due) numbered.1 lower in
      search arith

  -- the same behind the Node Alive Requests
  pub planned_after_probes : (before : ℕ) (paths : PathsOfNode) (gateways peers : List Peer) (packets : List PacketState) → AreNumbered before packets →
      map (while_open (packet_after_all (probes paths gateways ++ due_for_all favourite up peers packets))) packets ≡ planned favourite up peers packets
  planned_after_probes before paths gateways peers packets numbered =
      planned_is_map before peers packets (probes paths gateways) numbered
      (λ n below. probes_each (IsOfAnother n) (λ gateway path. refl) 0 paths gateways)

length-planned : (favourite : ℕ) (up : Bool) (peers : List Peer) (packets : List PacketState) → length (planned favourite up peers packets) ≡ length packets
length-planned favourite up peers [] = refl
length-planned favourite up peers (packet ∷ packets) = ap suc (length-planned favourite up (all_drawn (due_for favourite up peers packet) peers) packets)

numbered_drop : (before n : ℕ) (packets : List PacketState) → AreNumbered before packets → AreNumbered (before + n) (drop n packets)
numbered_drop before zero packets numbered = subst (λ (m : ℕ). AreNumbered m packets) (omega arith) numbered
numbered_drop before (suc n) [] numbered = tt
numbered_drop before (suc n) (packet ∷ packets) numbered =
    subst (λ (m : ℕ). AreNumbered m (drop n packets)) (omega arith) (numbered_drop (suc before) n packets numbered.1)

-- the planned packets and those before them are as many as before
pub length-replaced : (favourite : ℕ) (up : Bool) (peers : List Peer) (kept : KeptPackets) (after : List PacketState) → IsSettled kept →
    after ≡ planned favourite up peers (drop kept.settled kept.packets) → length after + kept.settled ≡ length kept.packets
length-replaced favourite up peers kept after settled is = search (arith, length-planned, length-drop)

-- with them in their place, each packet is as it is after the whole tick
pub replaced_is : (favourite : ℕ) (up : Bool) (paths : PathsOfNode) (gateways : List Peer) (before : ℕ) (kept : KeptPackets) (after now : List PacketState) →
    AreNumbered before kept.packets → IsSettled kept →
    after ≡ planned favourite up (all_drawn (probes paths gateways) gateways) (drop kept.settled kept.packets) →
    now ≡ take kept.settled kept.packets ++ after →
    now ≡ map (while_open (packet_after_all (due_by favourite up paths gateways kept.packets))) kept.packets
replaced_is favourite up paths gateways before kept after now numbered settled is replaced =
    let peers : List Peer = all_drawn (probes paths gateways) gateways in
    let rest : List PacketState = drop kept.settled kept.packets in
    let same : probes paths gateways ++ due_for_all favourite up peers rest ≡ due_by favourite up paths gateways kept.packets =
    ap (λ (xs : List Sending). probes paths gateways ++ xs) (due_settled favourite up peers kept settled) in
    let changed : after ≡ map (while_open (packet_after_all (due_by favourite up paths gateways kept.packets))) rest =
    is ∙ sym (planned_after_probes favourite up (before + kept.settled) paths gateways peers rest (numbered_drop before kept.settled kept.packets numbered))
    ∙ ap (λ (all : List Sending). map (while_open (packet_after_all all)) rest) same in
    search (arith, changed_settled)
