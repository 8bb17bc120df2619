-- Each record of each packet stands once in the files of all gateways, as it was filed once.
use Rattle.std.proofs.Common.{◌≡◌, ℕ, ◌<◌, Bool, true, List, [], length, Option, Contains, sum_by, refl, ap, subst, ◌∙◌, arith, count_by}
use Rattle.once_core.proofs.Names.{All-contains, all_followed, epoch_with, filed, FiledRecord, FilePlace, filing_count, firm_in, Followed, GivenRecord, HistoryEntry, is_record_of, is_resolved, is_withheld, IsFiledAs, IsFiledFor, IsFollowed, key_in, log_at, node_ip, Once, option_map_or, packet_of, PacketCopy, PacketForm, PacketKey, placed, record_count, Settings, state_with, times_filed, times_with, value_octets, WasSubmitted, World}
use Rattle.once_core.specs.StandsOnce.{IsOfOne, IsPlaced, StandsOnce, places_of}
use Rattle.once_core.proofs.ListLemmas.{get_contains, number_of}
use Rattle.once_core.proofs.CaseLemmas.{by_bool, by_option}

-- as many places as it was filed times
abbrev pub Counts : Settings → Type 0
Counts settings = (key : PacketKey) (index : ℕ) (h : List HistoryEntry) →
    count_by (λ (x : FilePlace × FiledRecord). is_record_of key index x.1) (placed settings h) ≡ times_filed key index (filed h)

-- what stands at a place was filed
abbrev pub Stands : Settings → Type 0
Stands settings = (h : List HistoryEntry) (place : FilePlace) (filing : FiledRecord) → Contains (placed settings h) (place, filing) → Contains (filed h) filing

-- each record that was filed was submitted
abbrev pub Submitted : World → Type 0
Submitted w = (q : ℕ) (filing : FiledRecord) → Contains (filed (firm_in w q)) filing → WasSubmitted w q filing

count_is : (o : Option PacketForm) → option_map_or (λ form. length form.records) o 0 ≡ length (option_map_or (λ (form : PacketForm). form.records) o [])
count_is o = grind arith

module _ (settings : ℕ → Settings) (counts : (q : ℕ) → Counts (settings q)) (there : (q : ℕ) → Stands (settings q)) (w : World) (once : Once w) where
  module _ (given : GivenRecord) (packet : Followed) (is : IsFollowed w given.node packet) where
    abbrev node : ℕ
    node = given.node

    abbrev index : ℕ
    index = given.index

    each : (copy : PacketCopy) → places_of settings w given packet copy ≡ times_with (node_ip node) packet.start copy.number index (firm_in w copy.gateway)
    each copy = by_option (λ (o : Option ℕ). option_map_or (λ epoch. count_by (λ (x : FilePlace × FiledRecord). is_record_of (key_in (node_ip node) copy.number epoch) index x.1)
        (placed (settings copy.gateway) (firm_in w copy.gateway))) o 0
        ≡ option_map_or (λ epoch. times_filed (key_in (node_ip node) copy.number epoch) index (filed (firm_in w copy.gateway))) o 0)
        (epoch_with (node_ip node) packet.start (firm_in w copy.gateway))
        (λ none. refl) (λ epoch is. counts copy.gateway (key_in (node_ip node) copy.number epoch) index (firm_in w copy.gateway))

    summed : sum_by (places_of settings w given packet) packet.state.copies ≡ filing_count (firm_in w) (node_ip node) packet.start packet.state.copies index
    summed = ap (λ (f : PacketCopy → ℕ). sum_by f packet.state.copies) (λ i copy. each copy i)

    within : index < length packet.form.records → index < record_count (value_octets packet.form)
    within less = grind (arith, count_is (packet_of (value_octets packet.form)), once.records node packet is)

    right : index < length packet.form.records → IsPlaced (is_resolved packet.state.copies) (sum_by (places_of settings w given packet) packet.state.copies)
    right less = by_bool (λ (b : Bool). IsPlaced b (sum_by (places_of settings w given packet) packet.state.copies)) (is_resolved packet.state.copies)
        (λ done. summed ∙ (once.placed node packet is).resolved done index (within less))
        (λ open_still. omega (arith, (once.placed node packet is).at_most index, summed))

    withheld : (copy : PacketCopy) → Contains packet.state.copies copy
        → is_withheld (state_with (node_ip node) packet.start copy.number (firm_in w copy.gateway)) ≡ true → places_of settings w given packet copy ≡ 0
    withheld copy kept is_so =
        each copy
        ∙ All-contains
        (λ (c : PacketCopy). is_withheld (state_with (node_ip node) packet.start c.number (firm_in w c.gateway)) ≡ true → (i : ℕ)
        → times_with (node_ip node) packet.start c.number i (firm_in w c.gateway) ≡ 0)
        packet.state.copies copy (once.placed node packet is).withheld kept is_so index

  -- what was filed at a gateway is of one record
  of_one : Submitted w → (gateway : ℕ) (filing : FiledRecord) → Contains (filed (firm_in w gateway)) filing → IsOfOne w gateway filing
  of_one submitted gateway filing kept =
      let was = submitted gateway filing kept in
      let number = number_of (all_followed (log_at w was.node)) was.packet was.followed in
      let given : GivenRecord = record { node = was.node; packet = number.0; index = filing.index } in
      let under = subst (λ (g : ℕ). IsFiledFor (firm_in w g) was.node was.packet was.copy filing) was.gateway_is was.filed_for in
      let is : IsFiledAs w gateway filing given = search (number.1, was.gateway_is, under) in
      record {
        given = given;
        is = is;
        octets = was.octets;
        kind = was.kind;
        only = λ other as_other. once.apart gateway filing other given as_other is;
      }

  pub stands_once : Submitted w → StandsOnce settings w
  stands_once submitted = record {
    once = λ given packet is less. right given packet (get_contains (all_followed (log_at w given.node)) given.packet packet is) less;
    withheld = λ given packet copy is. withheld given packet (get_contains (all_followed (log_at w given.node)) given.packet packet is) copy;
    nothing_else = λ gateway place filing is. of_one submitted gateway filing (there gateway (firm_in w gateway) place filing is);
  }
