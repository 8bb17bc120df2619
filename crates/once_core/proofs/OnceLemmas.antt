-- Each record stands once among what all gateways filed.
use Rattle.std.proofs.Common.{◌≡◌, ◌⊎◌, inl, inr, ⊎_elim, ℕ, ◌<◌, ◌≤◌, nat_lt, Bool, true, false, List, [], ◌∷◌, Option, Some, All, Contains, get_or, slice_get, refl, sym, ap, subst, ◌∙◌, arith, length}
use Rattle.once_core.proofs.Names.{Command, Contains-get_or, epoch_with, false≢true, filed, FiledRecord, filing_count, Follows, Happening, HistoryEntry, is_chosen, is_filed, is_release, is_released, is_resolved, is_withheld, IsAsked, IsChoice, IsFiledUnder, IsOnce, IsState, key_in, KeyState, kind_within, list_any, lt-ltb, option_map_or, or_cases, Orders, PacketCopy, PacketState, record_count, records_within, Request, Rests, Scene, scene_after, SceneHolds, Sends, state_of, state_with, times_filed, times_with, Verdict}
use Rattle.gw_base.specs.declared.key_state.KeyState.TheVariants as state
use Rattle.node_core.specs.declared.copy.Order.TheVariants as order
use Rattle.node_core.specs.declared.copy.Verdict.TheVariants as verdict
use Rattle.once_core.proofs.CountLemmas.{Counted, IsBacked, brought, counted}
use Rattle.once_core.proofs.MoveLemmas.{firm_rests, holds_always}
use Rattle.once_core.proofs.EpochLemmas.{start_is_one}
use Rattle.once_core.proofs.FiledLemmas.{one_if, within}
use Rattle.once_core.proofs.KnownLemmas.{choice_of, is_filed_there, is_released_there, is_sealed, may_send, plain_first, the_copy}
use Rattle.once_core.proofs.RoleLemmas.{IsCopyOf, copies_once, first_is_plain, own_use, plain_is_first, same_user, sum_has, sum_one}
use Rattle.once_core.proofs.ListLemmas.{any_at, in_head, in_none, in_tail}
use Rattle.once_core.proofs.CaseLemmas.{by_bool, by_option}

-- a number has one state
state_is_one : (h : List HistoryEntry) (node start number : ℕ) (a b : KeyState) → IsState h node start number a → IsState h node start number b → a ≡ b
state_is_one h node start number a b one other = cc

filed_verdict : (v : Verdict) → is_filed v ≡ true → v ≡ verdict.Filed
filed_verdict v e = grind arith

module _ {scene : Scene} (holds : SceneHolds scene) (node : ℕ) {start : ℕ} {values : ℕ → List ℕ} {packets : List PacketState} (follows : Follows (scene.deeds node) start values packets) where
  abbrev firm_of : ℕ → List HistoryEntry
  firm_of gateway = (scene.posts gateway).firm

  rests : (gateway : ℕ) → Rests scene.letters gateway (firm_of gateway)
  rests gateway = firm_rests scene.letters gateway (scene.posts gateway) (holds.posts gateway)

  -- ---- what a backed key tells of a copy

  asked_here : (gateway number epoch : ℕ) (request : Request) (other : ℕ) → epoch_with node start (firm_of gateway) ≡ Some epoch
      → IsBacked scene.letters gateway (key_in node number epoch) (firm_of gateway) other request → IsAsked scene.letters node start gateway other request
  asked_here gateway number epoch request other begun backed =
      subst (λ (s : ℕ). IsAsked scene.letters node s gateway other request)
      (start_is_one node backed.start start epoch (firm_of gateway) backed.begun begun) backed.asked

  abbrev placed : PacketCopy → ℕ → ℕ
  placed copy index = times_with node start copy.number index (firm_of copy.gateway)

  abbrev IsNow : PacketCopy → KeyState → Type 0
  IsNow copy s = IsState (firm_of copy.gateway) node start copy.number s

  -- by the copy's state: of one that is filed, the plain one, or released, a chosen one, the records of its packet stand, and
  -- of any other none
  abbrev Placed : PacketState → PacketCopy → ℕ → KeyState → Type 0
  Placed packet copy index state.Filed = (copy.is_plain ≡ true) × (placed copy index ≡ within index (values packet.number))
  Placed packet copy index state.Released = (is_chosen copy ≡ true) × (placed copy index ≡ within index (values packet.number))
  Placed packet copy index _ = placed copy index ≡ 0

  module _ {packet : PacketState} {copy : PacketCopy} (is : IsCopyOf packets packet copy) where
    -- the packet's octets, where a copy was sent with them
    sent_copy : (plain : Bool) (octets : List ℕ) → IsAsked scene.letters node start copy.gateway copy.number (Sends plain octets)
        → (copy.is_plain ≡ plain) × (values packet.number ≡ octets)
    sent_copy plain octets asked =
        let may = may_send holds node follows copy.gateway asked.port copy.number (Sends plain octets) asked.kept in
        let same = the_copy holds node follows packet copy is may.1.at in
        (ap (λ (c : PacketCopy). c.is_plain) same.1 ∙ may.1.plain, ap (λ (p : PacketState). values p.number) same.0 ∙ may.1.packet)

    -- a copy that is named by a release is chosen
    released_copy : (own : ℕ) → IsAsked scene.letters node start copy.gateway own (Orders order.Release copy.number) → is_chosen copy ≡ true
    released_copy own asked =
        let may = may_send holds node follows copy.gateway asked.port own (Orders order.Release copy.number) asked.kept in
        let same = the_copy holds node follows packet copy is may.2.at in
        ap (λ (c : PacketCopy). is_chosen c) same.1 ∙ ap (λ (there : Option Command). option_map_or (λ (c : Command). is_release c.order) there false) may.2.sent

    module _ (index : ℕ) where
      -- ---- where a copy's records stand

      placed_by : (s : KeyState) → IsNow copy s → Placed packet copy index s
      placed_by s at = by s
          (subst (Counted scene.letters copy.gateway (key_in node copy.number at.epoch) index (firm_of copy.gateway)) at.state_is
          (counted scene.letters copy.gateway (key_in node copy.number at.epoch) index (firm_of copy.gateway) (rests copy.gateway)))
        where
          times : placed copy index ≡ times_filed (key_in node copy.number at.epoch) index (filed (firm_of copy.gateway))
          times = ap (λ (o : Option ℕ). option_map_or (λ e. times_filed (key_in node copy.number e) index (filed (firm_of copy.gateway))) o 0) at.begun

          sent : (plain : Bool) (octets : List ℕ)
              → IsBacked scene.letters copy.gateway (key_in node copy.number at.epoch) (firm_of copy.gateway) copy.number (Sends plain octets)
              → (copy.is_plain ≡ plain) × (values packet.number ≡ octets)
          sent plain octets backed =
              sent_copy plain octets (asked_here copy.gateway copy.number at.epoch (Sends plain octets) copy.number at.begun backed)

          by : (s : KeyState) → Counted scene.letters copy.gateway (key_in node copy.number at.epoch) index (firm_of copy.gateway) s → Placed packet copy index s
          by state.Filed so_far = let is = sent true so_far.0 so_far.2 in (is.0, times ∙ so_far.1 ∙ ap (within index) (sym is.1))
          by state.Released so_far = (
            released_copy so_far.3 (asked_here copy.gateway copy.number at.epoch (Orders order.Release copy.number) so_far.3 at.begun so_far.4),
            times ∙ so_far.1 ∙ ap (within index) (sym (sent false so_far.0 so_far.2).1),
          )
          by state.Held so_far = times ∙ so_far.1
          by _ so_far = times ∙ so_far

      -- the copy has such a state, or its epoch never began
      stands : (placed copy index ≡ 0) ⊎ ((s : KeyState) × IsNow copy s × Placed packet copy index s)
      stands = by_option (λ o. (placed copy index ≡ 0) ⊎ ((s : KeyState) × IsNow copy s × Placed packet copy index s))
          (epoch_with node start (firm_of copy.gateway))
          (λ none. inl (ap (λ (o : Option ℕ). option_map_or (λ e. times_filed (key_in node copy.number e) index (filed (firm_of copy.gateway))) o 0) none))
          (λ epoch begun.
          let s = state_of (key_in node copy.number epoch) (firm_of copy.gateway) in
          let at : IsNow copy s = record { epoch = epoch; begun = begun; state_is = refl } in
          inr (s, at, placed_by s at))

      -- at most one copy
      each_once : placed copy index ≤ 1
      each_once = ⊎_elim (λ none. omega (arith, none)) (λ some. by some.0 some.2) stands
        where
          at_most_one : within index (values packet.number) ≤ 1
          at_most_one = by_bool (λ (b : Bool). one_if b ≤ 1) (nat_lt index (record_count (values packet.number))) (λ e. omega arith) (λ e. omega arith)

          by : (s : KeyState) → Placed packet copy index s → placed copy index ≤ 1
          by s is = grind (arith, at_most_one)

      -- a copy that is held or cancelled
      withheld : is_withheld (state_with node start copy.number (firm_of copy.gateway)) ≡ true → placed copy index ≡ 0
      withheld e = ⊎_elim (λ none. none)
          (λ some.
          let same = ap (λ (o : Option ℕ). option_map_or (λ epoch. state_of (key_in node copy.number epoch) (firm_of copy.gateway)) o state.Fresh) some.1.begun ∙ some.1.state_is in
          by some.0 (sym (ap is_withheld same) ∙ e) some.2)
          stands
        where
          by : (s : KeyState) → is_withheld s ≡ true → Placed packet copy index s → placed copy index ≡ 0
          by s e is = grind arith

    -- what was filed for a copy
    content : (filing : FiledRecord) → IsFiledUnder (firm_of copy.gateway) node start copy.number filing
        → (slice_get (records_within (values packet.number)) filing.index ≡ Some filing.octets) × (kind_within (values packet.number) ≡ Some filing.kind)
    content filing under =
        let of = brought scene.letters copy.gateway (key_in node copy.number under.epoch) (firm_of copy.gateway) (rests copy.gateway) filing under.kept under.key_is in
        let sent = sent_copy of.plain of.octets (asked_here copy.gateway copy.number under.epoch (Sends of.plain of.octets) copy.number under.begun of.backed) in
        (ap (λ (os : List ℕ). slice_get (records_within os) filing.index) sent.1 ∙ of.at, ap kind_within sent.1 ∙ of.kind)

    -- the first copy of a packet of which one is chosen is sealed
    pub first_sealed : (choice : IsChoice packet.copies copy.gateway copy.number)
        → IsState (firm_of choice.plain.gateway) node start choice.plain.number state.Sealed
    first_sealed choice =
        is_sealed holds node follows packet choice.plain
        (record { kept = is.kept; among = subst (λ cs. Contains cs choice.plain) (sym choice.whole) (in_head choice.plain choice.duplicates) })
        (first_is_plain packet.copies choice.plain choice.duplicates choice.whole (plain_first holds node follows packet is.kept))
        choice.sealed

  -- ---- two copies of a packet

  module _ {packet : PacketState} {a b : PacketCopy} (is_a : IsCopyOf packets packet a) (is_b : IsCopyOf packets packet b) where
    filed_or_released : a.is_plain ≡ true → IsNow a state.Filed → is_chosen b ≡ true → ⊥
    filed_or_released plain filed_a chosen_b =
        let choice = choice_of holds node follows packet b is_b chosen_b in
        let first : a ≡ choice.plain =
        plain_is_first packet.copies choice.plain choice.duplicates a choice.whole (plain_first holds node follows packet is_a.kept) is_a.among plain in
        let clash : state.Filed ≡ state.Sealed = state_is_one (firm_of choice.plain.gateway) node start choice.plain.number state.Filed state.Sealed
        (subst (λ (c : PacketCopy). IsNow c state.Filed) first filed_a) (first_sealed is_b choice) in
        absurd (cc)

    both_plain : a.is_plain ≡ true → b.is_plain ≡ true → a ≡ b
    both_plain plain_a plain_b = by packet.copies refl
      where
        by : (copies : List PacketCopy) → packet.copies ≡ copies → a ≡ b
        by [] none = in_none a (subst (λ cs. Contains cs a) none is_a.among)
        by (first ∷ duplicates) whole =
            let is_first = plain_first holds node follows packet is_a.kept in
            plain_is_first packet.copies first duplicates a whole is_first is_a.among plain_a
            ∙ sym (plain_is_first packet.copies first duplicates b whole is_first is_b.among plain_b)

    both_chosen : is_chosen a ≡ true → is_chosen b ≡ true → a ≡ b
    both_chosen chosen_a chosen_b =
        let one = choice_of holds node follows packet a is_a chosen_a in
        let other = choice_of holds node follows packet b is_b chosen_b in
        let whole : one.plain ∷ one.duplicates ≡ other.plain ∷ other.duplicates = sym one.whole ∙ other.whole in
        let gateway : b.gateway ≡ a.gateway = cc in
        let number : b.number ≡ a.number = cc in
        (same_user a.gateway a.number packets (follows.roles a.gateway a.number) packet packet a b is_a is_b (own_use a.gateway a.number a refl refl)
        (own_use a.gateway a.number b gateway number)).1

  placed_is_one : {packet : PacketState} {a b : PacketCopy} (index : ℕ) (is_a : IsCopyOf packets packet a) (is_b : IsCopyOf packets packet b)
      → 1 ≤ placed a index → 1 ≤ placed b index → a ≡ b
  placed_is_one {packet} {a} {b} index is_a is_b some_a some_b = ⊎_elim
      (λ none. absurd (omega (arith, none, some_a)))
      (λ one. ⊎_elim (λ none. absurd (omega (arith, none, some_b))) (λ other. by one.0 other.0 one.1 one.2 other.1 other.2) (stands is_b index))
      (stands is_a index)
    where
      by : (s t : KeyState) → IsNow a s → Placed packet a index s → IsNow b t → Placed packet b index t → a ≡ b
      by s t at_a in_a at_b in_b =
          grind (arith, both_plain is_a is_b, both_chosen is_a is_b, filed_or_released is_a is_b, filed_or_released is_b is_a)

  -- ---- a packet

  module _ (packet : PacketState) (kept : Contains packets packet) where
    copy_of : (copy : PacketCopy) → Contains packet.copies copy → IsCopyOf packets packet copy
    copy_of copy among = record { kept = kept; among = among }

    at_most : (index : ℕ) → filing_count firm_of node start packet.copies index ≤ 1
    at_most index =
        sum_one (λ (copy : PacketCopy). placed copy index) packet.copies (λ copy among. each_once (copy_of copy among) index)
        (λ a b in_a in_b. placed_is_one index (copy_of a in_a) (copy_of b in_b)) (copies_once packets packet follows.roles kept)

    resolved : is_resolved packet.copies ≡ true → (index : ℕ) → index < record_count (values packet.number)
        → filing_count firm_of node start packet.copies index ≡ 1
    resolved is index inside = by packet.copies refl is
      where
        once_by : (copy : PacketCopy) → Contains packet.copies copy → placed copy index ≡ within index (values packet.number) → filing_count firm_of node start packet.copies index ≡ 1
        once_by copy among count = omega (
          arith,
          sum_has (λ (c : PacketCopy). placed c index) packet.copies copy among,
          at_most index,
          count,
          ap one_if (lt-ltb index (record_count (values packet.number)) inside),
        )

        by : (copies : List PacketCopy) → packet.copies ≡ copies → is_resolved copies ≡ true → filing_count firm_of node start packet.copies index ≡ 1
        by [] whole e = absurd (false≢true e)
        by (plain ∷ duplicates) whole e = ⊎_elim
            (λ filed_plain.
            let among = subst (λ cs. Contains cs plain) (sym whole) (in_head plain duplicates) in
            let first = first_is_plain packet.copies plain duplicates whole (plain_first holds node follows packet kept) in
            let at = is_filed_there holds node follows packet plain (copy_of plain among) first (filed_verdict plain.verdict filed_plain) in
            once_by plain among (placed_by (copy_of plain among) index state.Filed at).1)
            (λ some.
            let there = any_at is_released duplicates some in
            let among = subst (λ cs. Contains cs there.0) (sym whole) (in_tail plain there.0 duplicates there.1) in
            let at = is_released_there holds node follows packet there.0 (copy_of there.0 among) there.2 in
            once_by there.0 among (placed_by (copy_of there.0 among) index state.Released at).1)
            (or_cases (is_filed plain.verdict) (list_any is_released duplicates) e)

    pub is_once : IsOnce firm_of node start (values packet.number) packet
    is_once =
        let of : (k : ℕ) (d : PacketCopy) → k < length packet.copies → IsCopyOf packets packet (get_or packet.copies k d) =
        λ k d lt. copy_of (get_or packet.copies k d) (Contains-get_or packet.copies k d lt) in
        record {
          resolved = resolved;
          at_most = at_most;
          withheld = λ k d lt e index. withheld (of k d lt) index e;
          content = λ k d lt filing under. (content (of k d lt) filing under).0;
          kind = λ k d lt filing under. (content (of k d lt) filing under).1;
        }

pub each_of_scene : (scene : Scene) (node start : ℕ) (values : ℕ → List ℕ) (packets : List PacketState) → SceneHolds scene → Follows (scene.deeds node) start values packets
    → All (λ packet. IsOnce (λ gateway. (scene.posts gateway).firm) node start (values packet.number) packet) packets
each_of_scene scene node start values packets holds follows =
    λ k d lt. is_once holds node follows (get_or packets k d) (Contains-get_or packets k d lt)

pub each_is_filed_once : (happenings : List Happening) (node start : ℕ) (values : ℕ → List ℕ) (packets : List PacketState)
    → Follows ((scene_after happenings).deeds node) start values packets
    → All (λ packet. IsOnce (λ gateway. ((scene_after happenings).posts gateway).firm) node start (values packet.number) packet) packets
each_is_filed_once happenings node start values packets follows =
    each_of_scene (scene_after happenings) node start values packets (holds_always happenings) follows
