-- What was filed under a key, by its state, and which request brought it.
use Rattle.std.proofs.Common.{◌≡◌, ℕ, zero, suc, ◌+◌, ◌==◌, ◌&&◌, Bool, true, false, if◌then◌else◌, List, [], ◌∷◌, ◌++◌, Option, Some, option_and_then, refl, sym, ap, subst, ◌∙◌, arith, ⊎_elim, Contains, slice_get, append-nil, option_map}
use Rattle.once_core.proofs.Names.{along-append, and_right, Caller, Contains-append_cases, enumerate_from, epoch_entries, epoch_of, epoch_with, Filed, filed, filed_by, filed_by_act, filed_record, filed_under, FiledRecord, Fresh, given_state, Held, held_packet, HistoryAct, HistoryEntry, IsAsked, key_naming-append, KeyState, kind_of, kind_within, last_naming, Letter, list_any, names, nat_tests, NodeId, once, option_map_or, Orders, packet_of, packet_of_hold, PacketForm, PacketKey, present_entries_are, present_key, present_state, present_state_is, records_if, records_within, Released, released_by, released_records, Request, Rests, RestsBy, RisesBy, same_key, same_Some, Sends, start_of, StartsRise, state_by, state_of, state_of-append, times_filed}
use Rattle.gw_base.specs.declared.history.HistoryAct.TheVariants as act
use Rattle.node_core.specs.declared.copy.Order.TheVariants as order
use Rattle.once_core.proofs.EachLemmas.{by_each, each_also}
use Rattle.once_core.proofs.EpochLemmas.{epoch_stays, present_epoch}
use Rattle.once_core.proofs.FiledLemmas.{none_of_packet, times-append, times_of_packet, within, record_within}
use Rattle.once_core.proofs.CaseLemmas.{by_bool, map_known, by_option}
use Rattle.once_core.proofs.ListLemmas.{in_none, of_map}

-- the starts rise in a history whose entries rest on messages
pub starts_rise : (letters : List Letter) (gateway : ℕ) (h : List HistoryEntry) → Rests letters gateway h → StartsRise h
starts_rise letters gateway =
    each_also (λ before e. RestsBy letters gateway before e.act) (λ before e. RisesBy before e.act)
    (λ h e rests. by_act h e.act rests) []
  where
    by_act : (h : List HistoryEntry) (a : HistoryAct) → RestsBy letters gateway h a → RisesBy h a
    by_act h a rests = grind arith

-- a record of a packet is filed in the packet's kind
kept_kind : (k : PacketKey) (moment : ℕ) (octets : List ℕ) (r : FiledRecord) → Contains (filed_under k moment octets) r
    → kind_within octets ≡ Some r.kind
kept_kind k moment octets r = by_option (λ (form : Option PacketForm). Contains (records_if k moment form) r → option_map (λ (form : PacketForm). kind_of form.format form.version) form ≡ Some r.kind)
    (packet_of octets) (λ none is. absurd (in_none r is))
    (λ form there is. ap (λ (f : FiledRecord). Some f.kind) (of_map (filed_record k moment form.format form.version) (enumerate_from 0 form.records) r is).2)

-- an entry that names a number of a node names a key
module _ (key : PacketKey) where
  -- the packet of the last entry that names the key, where this is a Hold
  abbrev pub held_at : List HistoryEntry → Option (List ℕ)
  held_at h = option_and_then (λ e. packet_of_hold e.act) (last_naming key.node.0 key.number (epoch_entries key.node.0 key.epoch h))

  module _ (h : List HistoryEntry) (n : NodeId) (x : ℕ) where
    -- whether it does, and what it means that it does
    abbrev pub named : Bool
    named = (epoch_of key.node.0 h == key.epoch) && ((n.0 == key.node.0) && (x == key.number))

    pub record IsHere : Type 0 where
      pub node : n.0 ≡ key.node.0
      pub epoch : epoch_of n.0 h ≡ key.epoch
      pub number : x ≡ key.number

    pub is_here : named ≡ true → IsHere
    is_here e = grind (arith, nat_tests)

    pub state_here : IsHere → state_of key h ≡ present_state n.0 x h
    state_here is = cc (present_state_is key.node key.number h)

    held_here : IsHere → held_packet n.0 x h ≡ held_at h
    held_here is = cc (present_entries_are key.node.0 h)

    -- the present key of the node is the key, or not
    same_here : same_key (present_key h n x) key ≡ named
    same_here = grind (arith, nat_tests)

  -- a list of one number
  pub any_one : (xs : List ℕ) (x : ℕ) → xs ≡ x ∷ [] → list_any (λ y. y == key.number) xs ≡ (x == key.number)
  any_one xs x alone = grind arith

module _ (letters : List Letter) (gateway : ℕ) (key : PacketKey) where
  -- a request of the key's node in the start of its epoch
  pub record IsBacked (h : List HistoryEntry) (number : ℕ) (request : Request) : Type 0 where
    pub start : ℕ
    pub begun : epoch_with key.node.0 start h ≡ Some key.epoch
    pub asked : IsAsked letters key.node.0 start gateway number request

  backed_stays : (h g : List HistoryEntry) {number : ℕ} {request : Request} → IsBacked h number request
      → IsBacked (h ++ g) number request
  backed_stays h g is =
      record { start = is.start; begun = epoch_stays key.node.0 is.start key.epoch h g is.begun; asked = is.asked }

  -- the request for an entry that names a number of a node here
  backed_here : (h : List HistoryEntry) (n : NodeId) (x : ℕ) {number : ℕ} {request : Request} → StartsRise h
      → IsHere key h n x
      → IsAsked letters n.0 (start_of n.0 h) gateway number request → IsBacked h number request
  backed_here h n x {number} {request} rise is asked = record {
    start = start_of n.0 h;
    begun = ap (λ (m : ℕ). epoch_with m (start_of n.0 h) h) (sym is.node) ∙ present_epoch n.0 h rise ∙ ap (λ (k : ℕ). Some k) is.epoch;
    asked = subst (λ (m : ℕ). IsAsked letters m (start_of n.0 h) gateway number request) is.node asked;
  }

  backed_at : (h : List HistoryEntry) (n : NodeId) (x : ℕ) (e : HistoryEntry) {request : Request} → StartsRise h
      → IsHere key h n x
      → IsAsked letters n.0 (start_of n.0 h) gateway x request → IsBacked (h ++ e ∷ []) key.number request
  backed_at h n x e rise is asked = backed_stays h (e ∷ []) (backed_here h n x rise is (rw is.number at asked))

  abbrev entry : ℕ → Caller → HistoryAct → HistoryEntry
  entry moment who a = record { moment = moment; caller = who; act = a }

  module _ (index : ℕ) where
    abbrev times : List HistoryEntry → ℕ
    times h = times_filed key index (filed h)

    -- what was filed under the key, and the requests for it, by the key's state
    abbrev pub Counted : List HistoryEntry → KeyState → Type 0
    Counted h Filed = (octets : List ℕ) × (times h ≡ within index octets) × IsBacked h key.number (Sends true octets)
    Counted h Held = (octets : List ℕ) × (times h ≡ 0) × (held_at key h ≡ Some octets) × IsBacked h key.number
        (Sends false octets)
    Counted h Released =
        (octets : List ℕ) × (times h ≡ within index octets) × IsBacked h key.number (Sends false octets)
        × (own : ℕ) × IsBacked h own (Orders order.Release key.number)
    Counted h _ = times h ≡ 0

    grown : (h : List HistoryEntry) (e : HistoryEntry) → times (h ++ e ∷ []) ≡ times h + times_filed key index (filed_by h e)
    grown h e = rw (along-append filed_by [] h (e ∷ []), append-nil (filed_by h e))
        (times-append key index (filed h) (filed_by h e))

    -- an entry that doesn't name the key and files nothing under it changes nothing
    kept : (h : List HistoryEntry) (e : HistoryEntry) (s : KeyState) → times (h ++ e ∷ []) ≡ times h
        → held_at key (h ++ e ∷ []) ≡ held_at key h → Counted h s → Counted (h ++ e ∷ []) s
    kept h e Filed same held is = (is.0, same ∙ is.1, backed_stays h (e ∷ []) is.2)
    kept h e Held same held is = (is.0, same ∙ is.1, held ∙ is.2, backed_stays h (e ∷ []) is.3)
    kept h e Released same held is =
        (is.0, same ∙ is.1, backed_stays h (e ∷ []) is.2, is.3, backed_stays h (e ∷ []) is.4)
    kept h e _ same held is = same ∙ is

    -- ---- one entry more

    held_after : (h : List HistoryEntry) (e : HistoryEntry) (b : Bool) → ((epoch_of key.node.0 h == key.epoch) && names key.node.0 key.number e.act) ≡ b
        → held_at key (h ++ e ∷ []) ≡ option_and_then (λ d. packet_of_hold d.act)
        (if b then Some e else last_naming key.node.0 key.number (epoch_entries key.node.0 key.epoch h))
    held_after h e b same = rw (key_naming-append key h e, same)

    unnamed_step : (h : List HistoryEntry) (e : HistoryEntry) → ((epoch_of key.node.0 h == key.epoch) && names key.node.0 key.number e.act) ≡ false
        → times_filed key index (filed_by h e) ≡ 0 → Counted h (state_of key h) → Counted (h ++ e ∷ []) (state_of key (h ++ e ∷ []))
    unnamed_step h e unnamed none so_far = rw (state_of-append key h e, unnamed)
        (kept h e (state_of key h) (omega (arith, grown h e, none)) (held_after h e false unnamed) so_far)

    named_step : (h : List HistoryEntry) (e : HistoryEntry) (n : NodeId) (x : ℕ) → names key.node.0 key.number e.act ≡ ((n.0 == key.node.0) && (x == key.number))
        → (named key h n x ≡ true → IsHere key h n x → Counted (h ++ e ∷ []) (given_state e.act))
        → (named key h n x ≡ false → times_filed key index (filed_by h e) ≡ 0)
        → Counted h (state_of key h) → Counted (h ++ e ∷ []) (state_of key (h ++ e ∷ []))
    named_step h e n x same here elsewhere so_far = by_bool (λ c. Counted (h ++ e ∷ []) (state_of key (h ++ e ∷ [])))
        (named key h n x)
        (λ is. rw (state_of-append key h e, same, is) (here is (is_here key h n x is)))
        (λ isnt. unnamed_step h e (ap (λ (b : Bool). (epoch_of key.node.0 h == key.epoch) && b) same ∙ isnt)
        (elsewhere isnt) so_far)

    -- the state of a number that is named here
    counted_here : (h : List HistoryEntry) (n : NodeId) (x : ℕ) (s : KeyState) → IsHere key h n x
        → present_state n.0 x h ≡ s → Counted h (state_of key h) → Counted h s
    counted_here h n x s is state = subst (Counted h) (state_here key h n x is ∙ state)

    -- what the release of one number files
    one_released : (h : List HistoryEntry) (moment : ℕ) (n : NodeId) (xs : List ℕ) (x : ℕ) → xs ≡ x ∷ []
        → times_filed key index (released_by h moment n (once (λ y z. y == z) xs)) ≡ times_filed key index (released_records h moment n x)
    one_released h moment n xs x alone =
        ap (λ ys. times_filed key index (released_by h moment n (once (λ y z. y == z) ys))) alone
        ∙ ap (λ rs. times_filed key index rs) (append-nil (released_records h moment n x))

    released_other : (h : List HistoryEntry) (moment : ℕ) (n : NodeId) (x : ℕ) → named key h n x ≡ false
        → times_filed key index (released_records h moment n x) ≡ 0
    released_other h moment n x isnt = map_known (λ (rs : List FiledRecord). times_filed key index rs ≡ 0) (held_packet n.0 x h) (λ none. refl)
        (λ octets held. none_of_packet key index (present_key h n x) moment octets (same_here key h n x ∙ isnt))

    released_this : (h : List HistoryEntry) (moment : ℕ) (n : NodeId) (x : ℕ) (octets : List ℕ) → named key h n x ≡ true
        → IsHere key h n x
        → held_at key h ≡ Some octets → times_filed key index (released_records h moment n x) ≡ within index octets
    released_this h moment n x octets named is held =
        ap (λ (o : Option (List ℕ)). times_filed key index
        (option_map_or (filed_under (present_key h n x) moment) o [])) (held_here key h n x is ∙ held)
        ∙ times_of_packet key index (present_key h n x) moment octets (same_here key h n x ∙ named)

    step_act : (h : List HistoryEntry) (moment : ℕ) (who : Caller) (a : HistoryAct) → StartsRise h → RestsBy letters gateway h a
        → Counted h (state_of key h) → Counted (h ++ entry moment who a ∷ []) (state_of key (h ++ entry moment who a ∷ []))
    step_act h moment who (act.File n x packet) rise rests so_far =
        let e = entry moment who (act.File n x packet) in
        named_step h e n x refl
        (λ named is. (
          packet,
          omega (
            arith,
            grown h e,
            counted_here h n x Fresh is rests.0 so_far,
            times_of_packet key index
                (present_key h n x) moment packet (same_here key h n x ∙ named),
          ),
          backed_at h n x e rise is rests.1,
        ))
        (λ isnt. none_of_packet key index (present_key h n x) moment packet (same_here key h n x ∙ isnt)) so_far
    step_act h moment who (act.Hold n x packet) rise rests so_far =
        let e = entry moment who (act.Hold n x packet) in
        named_step h e n x refl
        (λ named is. (
          packet,
          omega (arith, grown h e, counted_here h n x Fresh is rests.0 so_far),
          held_after h e true named,
          backed_at h n x e rise is rests.1,
        ))
        (λ isnt. refl) so_far
    step_act h moment who (act.Seal n x) rise rests so_far =
        let e = entry moment who (act.Seal n x) in
        named_step h e n x refl
        (λ named is. omega (arith, grown h e, counted_here h n x Fresh is rests.0 so_far)) (λ isnt. refl) so_far
    step_act h moment who (act.Cancel n xs) rise rests so_far =
        let e = entry moment who (act.Cancel n xs) in
        let x = rests.number in
        named_step h e n x (ap (λ (b : Bool). (n.0 == key.node.0) && b) (any_one key xs x rests.alone))
        (λ named is. omega (arith, grown h e, (counted_here h n x Held is rests.held so_far).1))
        (λ isnt. refl) so_far
    step_act h moment who (act.Release n xs) rise rests so_far =
        let e = entry moment who (act.Release n xs) in
        let x = rests.names.number in
        named_step h e n x (ap (λ (b : Bool). (n.0 == key.node.0) && b) (any_one key xs x rests.names.alone))
        (λ named is.
        let held = counted_here h n x Held is rests.names.held so_far in
        let more = one_released h moment n xs x rests.names.alone ∙ released_this h moment n x held.0 named is held.2 in (
          held.0,
          omega (arith, grown h e, held.1, more),
          backed_stays h (e ∷ []) held.3,
          rests.own,
          backed_stays h (e ∷ []) (backed_here h n x rise is
              (subst (λ (y : ℕ). IsAsked letters n.0 (start_of n.0 h) gateway rests.own (Orders order.Release y)) is.number rests.asked)),
        ))
        (λ isnt. one_released h moment n xs x rests.names.alone ∙ released_other h moment n x isnt) so_far
    step_act h moment who a rise rests so_far = unnamed_step h (entry moment who a) (and_right (epoch_of key.node.0 h == key.epoch) false refl) refl so_far

    -- what was filed under the key in a history whose entries rest on messages
    pub counted : (h : List HistoryEntry) → Rests letters gateway h → Counted h (state_of key h)
    counted =
        by_each (λ before e. RestsBy letters gateway before e.act) (λ h. Counted h (state_of key h))
        (subst (Counted []) (sym (none_yet key.epoch)) refl)
        (λ h e all rests so_far. step_act h e.moment e.caller e.act (starts_rise letters gateway h all) rests so_far)
      where
        none_yet : (k : ℕ) → state_by (last_naming key.node.0 key.number (epoch_entries key.node.0 k [])) ≡ Fresh
        none_yet zero = refl
        none_yet (suc k) = refl

  -- ---- the request that brought a record

  pub record IsBrought (h : List HistoryEntry) (filing : FiledRecord) : Type 0 where
    pub plain : Bool
    pub octets : List ℕ
    pub backed : IsBacked h key.number (Sends plain octets)
    pub at : slice_get (records_within octets) filing.index ≡ Some filing.octets
    pub kind : kind_within octets ≡ Some filing.kind

  brought_stays : (h g : List HistoryEntry) (filing : FiledRecord) → IsBrought h filing → IsBrought (h ++ g) filing
  brought_stays h g filing is = record {
    plain = is.plain;
    octets = is.octets;
    backed = backed_stays h g is.backed;
    at = is.at;
    kind = is.kind;
  }

  abbrev Brings : List HistoryEntry → List FiledRecord → Type 0
  Brings h filings = (filing : FiledRecord) → Contains filings filing → same_key filing.key key ≡ true → IsBrought h filing

  -- the key of a record of a packet is the key that it was filed under
  key_here : (h : List HistoryEntry) (n : NodeId) (x : ℕ) (filing : FiledRecord) → filing.key ≡ present_key h n x
      → same_key filing.key key ≡ true → IsHere key h n x
  key_here h n x filing of same = is_here key h n x (cc (same_here key h n x))

  brings_release : (h : List HistoryEntry) (moment : ℕ) (who : Caller) (n : NodeId) (xs : List ℕ) (x : ℕ) → StartsRise h → xs ≡ x ∷ [] → present_state n.0 x h ≡ Held
      → Counted 0 h (state_of key h) → Brings (h ++ entry moment who (act.Release n xs) ∷ []) (released_by h moment n (once (λ y z. y == z) xs))
  brings_release h moment who n xs x rise alone held so_far filing kept same =
      map_known (λ (rs : List FiledRecord). Contains rs filing → IsBrought (h ++ entry moment who (act.Release n xs) ∷ []) filing) (held_packet n.0 x h)
      (λ none there. absurd (in_none filing there))
      (λ octets some there.
      let within = record_within (present_key h n x) moment octets filing there in
      let is = key_here h n x filing within.1 same in
      let as_held = counted_here 0 h n x Held is held so_far in
      let octets_are : as_held.0 ≡ octets = same_Some as_held.0 octets
      (sym as_held.2 ∙ sym (held_here key h n x is) ∙ some) in
      record {
        plain = false;
        octets = as_held.0;
        backed = backed_stays h (entry moment who (act.Release n xs) ∷ []) as_held.3;
        at = ap (λ (os : List ℕ). slice_get (records_within os) filing.index) octets_are ∙ within.0;
        kind = ap kind_within octets_are ∙ kept_kind (present_key h n x) moment octets filing there;
      })
      (subst (λ rs. Contains rs filing) (ap (λ ys. released_by h moment n (once (λ y z. y == z) ys)) alone ∙ append-nil (released_records h moment n x)) kept)

  brings_act : (h : List HistoryEntry) (moment : ℕ) (who : Caller) (a : HistoryAct) → StartsRise h → RestsBy letters gateway h a → Counted 0 h (state_of key h)
      → Brings (h ++ entry moment who a ∷ []) (filed_by_act h moment a)
  brings_act h moment who (act.File n x packet) rise rests so_far filing kept same =
      let there = record_within (present_key h n x) moment packet filing kept in
      let is = key_here h n x filing there.1 same in
      record {
        plain = true;
        octets = packet;
        backed = backed_at h n x (entry moment who (act.File n x packet)) rise is rests.1;
        at = there.0;
        kind = kept_kind (present_key h n x) moment packet filing kept;
      }
  brings_act h moment who (act.Release n xs) rise rests so_far filing kept same =
      brings_release h moment who n xs rests.names.number rise rests.names.alone rests.names.held so_far filing kept same
  brings_act h moment who _ rise rests so_far filing kept same = absurd (in_none filing kept)

  pub brought : (h : List HistoryEntry) → Rests letters gateway h → Brings h (filed h)
  brought =
      by_each (λ before e. RestsBy letters gateway before e.act) (λ h. Brings h (filed h))
      (λ filing kept same. absurd (in_none filing kept))
      (λ h e all rests so_far filing kept same. ⊎_elim
      (λ old. brought_stays h (e ∷ []) filing (so_far filing old same))
      (λ new. brings_act h e.moment e.caller e.act (starts_rise letters gateway h all) rests (counted 0 h all) filing new same)
      (Contains-append_cases (filed h) (filed_by h e) filing
      (subst (λ rs. Contains rs filing) (along-append filed_by [] h (e ∷ []) ∙ ap (λ rs. filed h ++ rs) (append-nil (filed_by h e))) kept)))
