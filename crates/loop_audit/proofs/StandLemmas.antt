-- How copies that stand are counted, and when a packet is wrong.
use Rattle.std.proofs.Common.{◌≡◌, ℕ, ◌+◌, ◌<◌, ◌≤◌, ◌==◌, ◌⊎◌, inl, inr, nat_lt, Bool, true, false, ◌&&◌, ◌||◌, if◌then◌else◌, List, [], ◌∷◌, length, take, count_by, Option, None, Some, option_map, get_or, slice_get, refl, sym, ap, ◌∙◌, arith}
use Rattle.std.specs.Int.{from_bool}
use Rattle.std.specs.List.{list_all}
use Rattle.std.specs.Option.{option_map_or}
use Rattle.std.proofs.lemmas.List.{take_all}
use Rattle.std.proofs.lemmas.List.Sums.{count_by_more_no, count_by_more_yes}
use Rattle.std.proofs.lemmas.Option.{get_or_from_slice_get, slice_get-map, slice_get_cases, slice_get_within}
use Rattle.area_disk.specs.declared.area.Area.{Ghosts}
use Rattle.gateway_book.specs.Book.{value_of}
use Rattle.gateway_answer.specs.Told.{key_of}
use Rattle.gateway_answer.specs.Value.{history_of}
use Rattle.gateway_book.specs.declared.book.Book.{Book}
use Rattle.gw_base.specs.declared.address.NodeId.{NodeId}
use Rattle.gw_base.specs.declared.history.HistoryEntry.{HistoryEntry}
use Rattle.node_core.specs.Copies.{is_settled}
use Rattle.node_core.specs.Counting.{node_copy, phase_of_copies}
use Rattle.node_core.specs.Octets.{wire}
use Rattle.node_core.specs.Packets.{PacketState, is_resolved}
use Rattle.node_core.specs.Value.{NodeValue}
use Rattle.node_core.specs.declared.copy.PacketCopy.{PacketCopy}
use Rattle.node_core.specs.declared.counts.NodeCopy.{NodeCopy}
use Rattle.node_core.specs.declared.counts.Phase.TheVariants.{Open, Resolved, Done}
use Rattle.loop_audit.specs.Audit.{id_of, is_wrong, looked_at, places_of, stands_at, stands_in, tells_filed, wanted, wrong_at, wrong_if}
use Rattle.loop_audit.specs.Standing.{histories_of}
use Rattle.loop_audit.specs.Steps.{is_resolved_by}
use Rattle.loop_audit.specs.declared.audited.Audited.TheVariants.{Wrong}

-- A copy at its gateway.

abbrev pub id_at : ℕ → NodeId
id_at address = record { 0 = address }

module _ {A : Type 0} {tells : Ghosts A} (books : List (Book A tells)) (node : NodeValue) (told : NodeCopy)
    (of : PacketCopy) where
  -- the history of its gateway, if there is one
  asked_at : (found : Option (Book A tells)) → slice_get books told.gateway ≡ found → told ≡ node_copy of
      → slice_get (histories_of books) of.gateway
      ≡ option_map (λ (book : Book A tells). history_of (value_of book)) found
  asked_at found at is =
      slice_get-map (λ (book : Book A tells). history_of (value_of book)) books of.gateway
      ∙ ap (λ (o : Option (Book A tells)). option_map (λ (book : Book A tells). history_of (value_of book)) o)
      (ap (λ (t : NodeCopy). slice_get books t.gateway) (sym is) ∙ at)

  pub stands_there : (book : Book A tells) → slice_get books told.gateway ≡ Some book → told ≡ node_copy of
      → tells_filed node.paths.counter told.number
      (key_of (history_of (value_of book)) (id_of node) (wire told.number))
      ≡ stands_at (histories_of books) node of
  stands_there book at is =
      ap (λ (t : NodeCopy). tells_filed node.paths.counter t.number
      (key_of (history_of (value_of book)) (id_of node) (wire t.number))) is
      ∙ sym (ap (λ (o : Option (List HistoryEntry)). option_map_or (stands_in node of) o false)
      (asked_at (Some book) at is))

  pub stands_nowhere : slice_get books told.gateway ≡ None → told ≡ node_copy of
      → false ≡ stands_at (histories_of books) node of
  stands_nowhere at is = sym (ap (λ (o : Option (List HistoryEntry)). option_map_or (stands_in node of) o false)
      (asked_at None at is))

-- Copies, one after the other.

-- the copy in a place, as its node tells it
pub record IsToldAt (copies : List PacketCopy) (k : ℕ) (told : NodeCopy) : Type 0 where
  pub copy : PacketCopy
  pub below : k < length copies
  pub is : copy ≡ get_or copies k copy
  pub told_is : told ≡ node_copy copy

pub told_at : (copies : List PacketCopy) (k : ℕ) (told : NodeCopy)
    → Some told ≡ option_map node_copy (slice_get copies k) → IsToldAt copies k told
told_at copies k told is = by_place (slice_get copies k) refl is
  where
    by_place : (o : Option PacketCopy) → slice_get copies k ≡ o → Some told ≡ option_map node_copy o
        → IsToldAt copies k told
    by_place None at is = absurd (cc is)
    by_place (Some copy) at is = record {
      copy = copy;
      below = slice_get_within copies k copy at;
      is = sym (get_or_from_slice_get copies k copy copy at);
      told_is = cc is;
    }

-- there is none in this place: all are in front
pub all_in_front : (copies : List PacketCopy) (k : ℕ) → None ≡ option_map node_copy (slice_get copies k)
    → take k copies ≡ copies
all_in_front copies k is = by_place (slice_get_cases copies k).1
  where
    by_place : ((x : PacketCopy) × (k < length copies) × (slice_get copies k ≡ Some x) × (get_or copies k x ≡ x))
        ⊎ ((length copies ≤ k) × (slice_get copies k ≡ None)) → take k copies ≡ copies
    by_place (inl (x, below, at, same)) =
        let told : None ≡ Some (node_copy x) =
        is ∙ ap (λ (o : Option PacketCopy). option_map node_copy o) at in absurd (cc told)
    by_place (inr (past, at)) = take_all k copies past

-- one more was asked
pub count_next : (p : PacketCopy → Bool) (copies : List PacketCopy) (k places more : ℕ) (copy : PacketCopy)
    (stands : Bool) → k < length copies → copy ≡ get_or copies k copy → places ≡ count_by p (take k copies)
    → stands ≡ p copy → more ≡ from_bool stands → places + more ≡ count_by p (take (k + 1) copies)
count_next p copies k places more copy stands below is counted asked one =
    by_answer stands (asked ∙ ap (λ (c : PacketCopy). p c) is) one
  where
    by_answer : (b : Bool) → b ≡ p (get_or copies k copy) → more ≡ from_bool b
        → places + more ≡ count_by p (take (k + 1) copies)
    by_answer true it_does one =
        let here : places + more ≡ places + 1 = ap (λ (n : ℕ). places + n) one in
        here ∙ ap (λ (n : ℕ). n + 1) counted ∙ sym (count_by_more_yes p copies k copy below (sym it_does))
    by_answer false it_doesnt one =
        let here : places + more ≡ places = ap (λ (n : ℕ). places + n) one ∙ omega arith in
        here ∙ counted ∙ sym (count_by_more_no p copies k copy below (sym it_doesnt))

-- all were asked
pub count_all : (p : PacketCopy → Bool) (copies : List PacketCopy) (k places : ℕ) → length copies ≤ k
    → places ≡ count_by p (take k copies) → places ≡ count_by p copies
count_all p copies k places all counted =
    counted ∙ ap (λ (l : List PacketCopy). count_by p l) (take_all k copies all)

-- one at most
pub at_most_one : (stands : Bool) (more : ℕ) → more ≡ from_bool stands → more ≤ 1
at_most_one true more is = omega (arith, is)
at_most_one false more is = omega (arith, is)

-- A packet.

pub phase_tells : (copies : List PacketCopy) → is_resolved_by (phase_of_copies copies) ≡ is_resolved copies
phase_tells [] = refl
phase_tells (plain ∷ duplicates) = by_tests (is_resolved (plain ∷ duplicates)) (list_all is_settled duplicates)
  where
    by_tests : (resolved settled : Bool)
        → is_resolved_by (if resolved && settled then Done else if resolved then Resolved else Open) ≡ resolved
    by_tests true true = refl
    by_tests true false = refl
    by_tests false true = refl
    by_tests false false = refl

module _ (histories : List (List HistoryEntry)) (node : NodeValue) (packet : PacketState) where
  pub wrong_is : (places : ℕ) (must wrong : Bool) → places ≡ places_of histories node packet
      → must ≡ is_resolved packet.copies → wrong ≡ (nat_lt wanted places || (places == 0 && must))
      → wrong ≡ is_wrong (looked_at histories node packet)
  wrong_is places must wrong counted resolved is =
      is ∙ ap (λ (n : ℕ). nat_lt wanted n || (n == 0 && must)) counted
      ∙ ap (λ (b : Bool). nat_lt wanted (places_of histories node packet)
      || (places_of histories node packet == 0 && b)) resolved

  pub told_right : is_wrong (looked_at histories node packet) ≡ false
      → None ≡ wrong_if (looked_at histories node packet)
  told_right right = sym (ap (λ (b : Bool). if b then Some (wrong_at
      (looked_at histories node packet)) else None) right)

  pub told_wrong : (id : NodeId) (number places : ℕ) → id ≡ id_of node → number ≡ packet.number
      → places ≡ places_of histories node packet → is_wrong (looked_at histories node packet) ≡ true
      → Some (Wrong (record { node = id; number = number }) places wanted) ≡ wrong_if (looked_at histories node packet)
  told_wrong id number places id_is number_is counted wrong =
      ap (λ (i : NodeId). Some (Wrong (record { node = i; number = number }) places wanted)) id_is
      ∙ ap (λ (n : ℕ). Some (Wrong (record { node = id_of node; number = n }) places wanted)) number_is
      ∙ ap (λ (n : ℕ). Some (Wrong (record { node = id_of node; number = packet.number }) n wanted)) counted
      ∙ sym (ap (λ (b : Bool). if b then Some (wrong_at (looked_at histories node packet)) else None) wrong)
