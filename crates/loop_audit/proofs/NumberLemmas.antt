-- A packet is found by its number where packets are numbered from 1.
use Rattle.std.proofs.Common.{◌≡◌, ◌≢◌, ◌⊎◌, inl, inr, ℕ, zero, suc, ◌+◌, ◌<◌, ◌≤◌, ◌==◌, Bool, true, false, if◌then◌else◌, List, [], ◌∷◌, length, map, take, get_or, Option, None, Some, option_map, refl, sym, ap, ◌∙◌, arith}
use Rattle.std.proofs.Math.ListN.{get_or-map}
use Rattle.std.proofs.lemmas.Bool.{eq-eqb, eqb-true}
use Rattle.std.proofs.lemmas.Bool.Decides.{eqb_tells}
use Rattle.std.proofs.lemmas.List.{length-map, take_all}
use Rattle.std.proofs.lemmas.List.FromFn.{length-range_with_len}
use Rattle.std.specs.List.{All, find, range_with_len}
use Rattle.std.specs.Option.{option_map_or}
use Rattle.node_core.specs.Counting.{copies_among, packet_numbered}
use Rattle.node_core.specs.Packets.{PacketState}
use Rattle.node_core.specs.Value.{NodeValue}
use Rattle.gw_base.specs.declared.history.HistoryEntry.{HistoryEntry}
use Rattle.loop_audit.specs.Audit.{Looked, is_wrong, looked_at, wrong_at, wrong_if}
use Rattle.loop_audit.specs.Standing.{KeepsAll}
use Rattle.loop_audit.specs.declared.audited.Audited.{Audited}
use Rattle.loop_audit.proofs.FindLemmas.{right_next, wrong_next}

abbrev numbers_of : List PacketState → List ℕ
numbers_of packets = map (λ (packet : PacketState). packet.number) packets

head_is : (x y : ℕ) (xs ys : List ℕ) → ◌≡◌ {A = List ℕ} (x ∷ xs) (y ∷ ys) → x ≡ y
head_is x y xs ys e = ap (λ (l : List ℕ). get_or l 0 x) e

tail_is : (x y : ℕ) (xs ys : List ℕ) → ◌≡◌ {A = List ℕ} (x ∷ xs) (y ∷ ys) → xs ≡ ys
tail_is x y xs ys e = ap (λ (l : List ℕ). rest l) e
  where
    rest : List ℕ → List ℕ
    rest [] = []
    rest (z ∷ zs) = zs

same_number : (x y : ℕ) → x ≡ y → (x == y) ≡ true
same_number x y same = eq-eqb x y same

other_number : (x y : ℕ) → x < y → (x == y) ≡ false
other_number x y less = by_test (eqb_tells x y)
  where
    by_test : (((x == y) ≡ true) × (x ≡ y)) ⊎ (((x == y) ≡ false) × (x ≢ y)) → (x == y) ≡ false
    by_test (inl (is, same)) = absurd (omega (arith, same, less))
    by_test (inr (is, differs)) = is

-- numbered from a on, the packet behind i others has the number a + i
pub numbered_there : (a n i : ℕ) (packets : List PacketState) (d : PacketState)
    → numbers_of packets ≡ range_with_len a n → i < length packets
    → packet_numbered packets (a + i) ≡ Some (get_or packets i d)
numbered_there a n i [] d are below = absurd (omega (arith, below))
numbered_there a zero i (p ∷ packets) d are below = absurd (cc are)
numbered_there a (suc n) zero (p ∷ packets) d are below =
    let first : p.number ≡ a = head_is p.number a (numbers_of packets) (range_with_len (a + 1) n) are in
    let here : p.number ≡ a + 0 = omega (arith, first) in
    ap (λ (b : Bool). if b then Some p else packet_numbered packets (a + 0)) (same_number p.number (a + 0) here)
numbered_there a (suc n) (suc i) (p ∷ packets) d are below =
    let first : p.number ≡ a = head_is p.number a (numbers_of packets) (range_with_len (a + 1) n) are in
    let less : p.number < a + suc i = omega (arith, first) in
    let place : a + suc i ≡ a + 1 + i = omega arith in
    ap (λ (b : Bool). if b then Some p else packet_numbered packets (a + suc i)) (other_number p.number
    (a + suc i) less)
    ∙ ap (λ (k : ℕ). packet_numbered packets k) place
    ∙ numbered_there (a + 1) n i packets d
    (tail_is p.number a (numbers_of packets) (range_with_len (a + 1) n) are) (omega (arith, below))

-- of no packet are there more copies than of all
pub few_among : (packets : List PacketState) (number : ℕ)
    → All (λ (packet : PacketState). length packet.copies ≤ 255) packets
    → length (copies_among packets number) ≤ 255
few_among [] number few = omega arith
few_among (p ∷ packets) number few = by_number (p.number == number)
    (few_among packets number (λ k d below. few (suc k) d (omega (arith, below))))
  where
    by_number : (b : Bool) → length (copies_among packets number) ≤ 255
        → length (option_map_or (λ (packet : PacketState). packet.copies)
        (if b then Some p else packet_numbered packets number) []) ≤ 255
    by_number true others = few 0 p (omega arith)
    by_number false others = others

-- it has as many as were submitted
pub packets_are : (node : NodeValue) → KeepsAll node → length node.packets ≡ node.submissions
packets_are node keeps =
    sym (length-map node.packets (λ (packet : PacketState). packet.number))
    ∙ ap (λ (l : List ℕ). length l) keeps.numbers ∙ length-range_with_len 1 node.submissions

-- a packet of a node that keeps all, by its number
pub numbered_next : (node : NodeValue) (i : ℕ) (d : PacketState) → KeepsAll node → i < node.submissions
    → packet_numbered node.packets (i + 1) ≡ Some (get_or node.packets i d)
numbered_next node i d keeps below =
    let many = packets_are node keeps in
    ap (λ (k : ℕ). packet_numbered node.packets k) (one_more i)
    ∙ numbered_there 1 node.submissions i node.packets d keeps.numbers (omega (arith, below, many))
  where
    one_more : (i : ℕ) → i + 1 ≡ 1 + i
    one_more i = omega arith

-- the packet with a number has that number
pub numbered_is : (packets : List PacketState) (number : ℕ) (packet : PacketState)
    → packet_numbered packets number ≡ Some packet → packet.number ≡ number
numbered_is [] number packet is = absurd (cc is)
numbered_is (p ∷ packets) number packet is =
    by_test (p.number == number) (eqb-true p.number number) is (numbered_is packets number packet)
  where
    by_test : (b : Bool) → (b ≡ true → p.number ≡ number)
        → (if b then Some p else packet_numbered packets number) ≡ Some packet
        → (packet_numbered packets number ≡ Some packet → packet.number ≡ number) → packet.number ≡ number
    by_test true same is others =
        let is_here : p ≡ packet = cc is in
        sym (ap (λ (x : PacketState). x.number) is_here) ∙ same refl
    by_test false same is others = others is

abbrev pub no_packet : PacketState
no_packet = record { number = 0; copies = [] }

-- Looking at the packets of a node that keeps all, one after the other.
module _ (histories : List (List HistoryEntry)) (node : NodeValue) (keeps : KeepsAll node) where
  abbrev looked : List Looked
  looked = map (looked_at histories node) node.packets

  looked_here : (i : ℕ) → looked_at histories node (get_or node.packets i no_packet)
      ≡ get_or looked i (looked_at histories node no_packet)
  looked_here i = sym (get_or-map (looked_at histories node) node.packets i no_packet)

  pub looked_are : length looked ≡ node.submissions
  looked_are = length-map node.packets (looked_at histories node) ∙ packets_are node keeps

  pub wrong_there : (i : ℕ) (wrong : Audited) → i < node.submissions → find is_wrong (take i looked) ≡ None
      → ((packet : PacketState) → packet_numbered node.packets (i + 1) ≡ Some packet
      → Some wrong ≡ wrong_if (looked_at histories node packet))
      → Some wrong ≡ option_map wrong_at (find is_wrong looked)
  wrong_there i wrong below none told =
      let many = looked_are in
      wrong_next looked i (looked_at histories node no_packet) wrong (omega (arith, below, many)) none
      (told (get_or node.packets i no_packet) (numbered_next node i no_packet keeps below)
      ∙ ap (λ (l : Looked). wrong_if l) (looked_here i))

  pub right_there : (i : ℕ) → i < node.submissions → find is_wrong (take i looked) ≡ None
      → ((packet : PacketState) → packet_numbered node.packets (i + 1) ≡ Some packet
      → None ≡ wrong_if (looked_at histories node packet))
      → find is_wrong (take (i + 1) looked) ≡ None
  right_there i below none told =
      let many = looked_are in
      right_next looked i (looked_at histories node no_packet) (omega (arith, below, many)) none
      (told (get_or node.packets i no_packet) (numbered_next node i no_packet keeps below)
      ∙ ap (λ (l : Looked). wrong_if l) (looked_here i))

  pub none_of_all : (i : ℕ) → node.submissions ≤ i → find is_wrong (take i looked) ≡ None
      → None ≡ option_map wrong_at (find is_wrong looked)
  none_of_all i all none =
      let many = looked_are in
      sym (ap (λ (o : Option Looked). option_map wrong_at o)
      (ap (λ (l : List Looked). find is_wrong l) (sym (take_all i looked (omega (arith, all, many)))) ∙ none))
