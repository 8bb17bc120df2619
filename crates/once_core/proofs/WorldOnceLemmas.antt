-- Each world is made by happenings, and so it files each record once, and what its messages tell is certain.
use Rattle.once_core.proofs.LifeWorlds.{values_in, reached_made, reached_lives}
use Rattle.std.proofs.Common.{◌≡◌, ℕ, ◌-◌, ◌≤◌, ◌==◌, List, [], ◌∷◌, length, filter, map, Option, Some, None, Contains, slice_get, refl, sym, ap, subst, ◌∙◌, arith, eq-eqb, true, false, ⊎_elim}
use Rattle.once_core.proofs.Names.{All-contains, all_followed, ALREADY_FULFILLED, and_parts, Answers, AnswersACopy, asking, Asks, cases_lt, Command, Deed, deeds_of, epoch_with, eq-eqb, eqb-true, filed, FiledRecord, firm_in, first_node_ip, first_world, Followed, Follows, forms_ever, Gateway, GivenRecord, HistoryEntry, is_chosen, is_release, is_spoken, is_telling, IsAnswerFor, IsFiledAs, IsFiledFor, IsFiledUnder, IsFollowed, IsMade, IsOfCopy, IsOnce, IsReached, IsState, key_in, KeyState, kind_of, kind_within, Letter, letter_of, log_at, log_of, LogEntry, MeanCopies, Meaning, meaning_of, Message, NamesChoice, nat_tests, node_ip, node_setup, Once, option_map_or, Orders, PacketCopy, PacketKey, packets_in, PacketState, Post, post_of, records_within, Request, RisesBy, ruled, ruled_turns, RuledTurn, Rules, same_key, SceneHolds, Sends, Sent, Shows, StartsRise, TellStates, Turn, turn, turns, uses_by_copies, value_octets, values_of, WasSubmitted, World, world_of}
use Rattle.once_core.proofs.ApartLemmas.{key_of, one_place}
use Rattle.once_core.proofs.EpochLemmas.{start_is_one}
use Rattle.once_core.proofs.FirstPlays.{same_world}
use Rattle.once_core.proofs.FormLemmas.{GoodForm, value_octets_are}
use Rattle.once_core.proofs.ListLemmas.{get_contains, in_map, in_none, kept_in, filtered, of_map, passed}
use Rattle.once_core.proofs.NumberLemmas.{all_followed_at, values_are}
use Rattle.once_core.proofs.OnceLemmas.{first_sealed, is_once}
use Rattle.once_core.proofs.RoleLemmas.{among_copies, own_use, IsCopyOf}
use Rattle.once_core.proofs.WorldPlays.{Laws, Made}
use Rattle.once_core.proofs.NodeTurnLemmas.{addresses_length}
use Rattle.once_core.proofs.PartLemmas.{log_or, log_there}
use Rattle.once_core.proofs.EachLemmas.{each_front}
use Rattle.node_core.specs.declared.copy.Order.TheVariants as order
use Rattle.once_core.proofs.CountLemmas.{IsBrought, brought}
use Rattle.once_core.proofs.MoveLemmas.{firm_rests, holds_always}
use Rattle.once_core.proofs.KnownLemmas.{IsAnswered, by_release_answer, by_test_answer, choice_of, filed_by_answer, fulfilled_tells, sealed_by_answer, told_by}
use Rattle.once_core.proofs.CaseLemmas.{by_option, map_known}

firm_of : (o : Option Gateway) → (option_map_or post_of o (record { firm = []; rest = []; waiting = [] })).firm ≡ option_map_or (λ (g : Gateway). g.book.firm) o []
firm_of o = grind arith

-- ---- the packets of one start

-- a packet among them, as the node followed it
record FollowedAs (w : World) (node start : ℕ) (packet : PacketState) : Type 0 where
  of : Followed
  followed : IsFollowed w node of
  start_is : of.start ≡ start
  state_is : of.state ≡ packet

followed_as : (w : World) (node start : ℕ) (packet : PacketState) → Contains (packets_in start (log_at w node)) packet → FollowedAs w node start packet
followed_as w node start packet is =
    let there = of_map (λ (p : Followed). p.state) (filter (λ p. p.start == start) (all_followed (log_at w node))) packet is in
    let kept = filtered (λ (p : Followed). p.start == start) (all_followed (log_at w node)) there.0 there.1 in
    let same = passed (λ (p : Followed). p.start == start) (all_followed (log_at w node)) there.0 there.1 in
    search (kept, there.2, eqb-true there.0.start start same)

-- ---- each world

module _ (laws : Laws) (w : World) (reached : IsReached w) where
  made : Made (values_in w) w
  made = reached_made laws w reached

  pub is_made : IsMade w
  is_made = record { happenings = made.happenings; shows = subst (Shows (values_in w) w) (sym made.is) made.shows }

  -- the starts of each node rise in what is firm at a gateway
  pub starts_rise : (place : ℕ) → StartsRise (firm_in w place)
  starts_rise place = map_known StartsRise (slice_get w.gateways place) (λ none. tt) (λ g there.
      let rises = ((reached_lives laws w reached).gateways place g there).rises in
      each_front (λ before e. RisesBy before e.act) [] g.book.firm g.book.rest rises)

  holds : SceneHolds made.scene
  holds = subst SceneHolds made.is (holds_always made.happenings)

  -- the firm parts are those of the scene
  firm_at : (gateway : ℕ) → (made.scene.posts gateway).firm ≡ firm_in w gateway
  firm_at gateway = ap (λ (p : Post). p.firm) (made.shows.posts gateway) ∙ firm_of (slice_get w.gateways gateway)

  abbrev packets : ℕ → ℕ → List PacketState
  packets node start = packets_in start (log_at w node)

  -- what the node did in each of its starts follows the procedure
  abbrev DidFollow : ℕ → ℕ → Type 0
  DidFollow node start = Follows (made.scene.deeds (node_ip node)) start (values_in w node) (packets node start)

  it_follows : (node : ℕ) (log : List LogEntry) → slice_get w.nodes node ≡ Some log → (start : ℕ) → DidFollow node start
  it_follows node log there start =
      let rightly = made.sound.nodes node log there in
      let setup = node_setup (length w.gateways) node in
      let same : log_at w node ≡ log_of setup rightly.calls = log_there w node log there ∙ rightly.is in
      subst (λ (ds : List Deed). Follows ds start (values_in w node) (packets node start)) (sym (made.shows.deeds node))
      (subst (λ (l : List LogEntry). Follows (deeds_of (node_ip node) (values_in w node) l) start (values_in w node) (packets_in start l)) (sym same)
      (laws.follow setup rightly.calls (node_ip node) start (values_in w node)
      (omega (arith, made.sound.some, addresses_length 0 (length w.gateways)))))

  -- ---- a packet is filed once

  module _ (node : ℕ) (packet : Followed) (is : IsFollowed w node packet) where
    -- the packet was submitted
    form_there : slice_get (forms_ever (log_at w node)) (packet.state.number - 1) ≡ Some packet.form
    form_there = all_followed_at (log_at w node) packet is

    value_is : values_of (log_at w node) packet.state.number ≡ value_octets packet.form
    value_is = (values_are (log_at w node)).each packet.state.number packet.form form_there

    in_start : Contains (packets node packet.start) packet.state
    in_start = in_map (λ (p : Followed). p.state) (filter (λ p. p.start == packet.start) (all_followed (log_at w node))) packet
        (kept_in (λ (p : Followed). p.start == packet.start) (all_followed (log_at w node)) packet is (eq-eqb packet.start packet.start refl))

    some_log : (o : Option (List LogEntry)) → slice_get w.nodes node ≡ o → (log : List LogEntry) × (slice_get w.nodes node ≡ Some log)
    some_log (Some log) e = (log, e)
    some_log None e = absurd (in_none packet (subst (λ (l : List LogEntry). Contains (all_followed l) packet) (ap log_or e) is))

    follows : DidFollow node packet.start
    follows = let there = some_log (slice_get w.nodes node) refl in it_follows node there.0 there.1 packet.start

    placed : IsOnce (firm_in w) (node_ip node) packet.start (value_octets packet.form) packet.state
    placed =
        subst (λ (octets : List ℕ). IsOnce (firm_in w) (node_ip node) packet.start octets packet.state) value_is
        (subst (λ (h : ℕ → List HistoryEntry). IsOnce h (node_ip node) packet.start (values_in w node packet.state.number) packet.state)
        (λ i gateway. firm_at gateway i) (is_once holds (node_ip node) follows packet.state in_start))

    good : GoodForm packet.form
    good =
        let there = some_log (slice_get w.nodes node) refl in
        let rightly = made.sound.nodes node there.0 there.1 in
        rightly.forms packet.form
        (subst (λ (l : List LogEntry). Contains (forms_ever l) packet.form) (log_there w node there.0 there.1)
        (get_contains (forms_ever (log_at w node)) (packet.state.number - 1) packet.form form_there))

    records_are : records_within (value_octets packet.form) ≡ packet.form.records
    records_are = grind (arith, value_octets_are packet.form good.some, good.read)

    under : (copy : PacketCopy) (filing : FiledRecord) (of : IsFiledFor (firm_in w copy.gateway) node packet copy filing)
        → IsFiledUnder (firm_in w copy.gateway) (node_ip node) packet.start copy.number filing
    under copy filing of =
        let same = and_parts (same_key filing.key (key_in (node_ip node) copy.number of.epoch)) (filing.index == filing.index) of.key_is in
        search (of.begun, of.kept, same.0)

    octets_placed : (copy : PacketCopy) (filing : FiledRecord) → IsFiledFor (firm_in w copy.gateway) node packet copy filing
        → slice_get packet.form.records filing.index ≡ Some filing.octets
    octets_placed copy filing of =
        let within = All-contains (λ (c : PacketCopy). (f : FiledRecord) → IsFiledUnder (firm_in w c.gateway) (node_ip node) packet.start c.number f
        → slice_get (records_within (value_octets packet.form)) f.index ≡ Some f.octets) packet.state.copies copy placed.content of.copy_is in
        grind (arith, records_are, within filing (under copy filing of))

    -- it is filed in its packet's kind
    kind_placed : (copy : PacketCopy) (filing : FiledRecord) → IsFiledFor (firm_in w copy.gateway) node packet copy filing → filing.kind ≡ kind_of packet.form.format packet.form.version
    kind_placed copy filing of =
        let within = All-contains (λ (c : PacketCopy). (f : FiledRecord) → IsFiledUnder (firm_in w c.gateway) (node_ip node) packet.start c.number f
        → kind_within (value_octets packet.form) ≡ Some f.kind) packet.state.copies copy placed.kind of.copy_is in
        grind (arith, within filing (under copy filing of), value_octets_are packet.form good.some, good.read)

  copy_used : (gateway number : ℕ) (packet : Followed) (copy : PacketCopy) → Contains packet.state.copies copy → copy.gateway ≡ gateway → copy.number ≡ number
      → 1 ≤ uses_by_copies gateway number packet.state.copies
  copy_used gateway number packet copy is at_gateway number_is =
      omega (arith, own_use gateway number copy at_gateway number_is, among_copies gateway number packet.state.copies copy is)

  -- what is filed counts for one record
  apart : (gateway : ℕ) (filing : FiledRecord) (one other : GivenRecord) → IsFiledAs w gateway filing one → IsFiledAs w gateway filing other → one ≡ other
  apart gateway filing one other a b =
      let key_a = key_of (key_in (node_ip one.node) a.copy.number a.is.epoch) filing.index filing a.is.key_is in
      let key_b = key_of (key_in (node_ip other.node) b.copy.number b.is.epoch) filing.index filing b.is.key_is in
      let key : key_in (node_ip one.node) a.copy.number a.is.epoch ≡ key_in (node_ip other.node) b.copy.number b.is.epoch = sym key_a.0 ∙ key_b.0 in
      let ip : node_ip one.node ≡ node_ip other.node = ap (λ (k : PacketKey). k.node.0) key in
      let node : one.node ≡ other.node = omega (arith, ip) in
      let number : a.copy.number ≡ b.copy.number = cc in
      let epoch : a.is.epoch ≡ b.is.epoch = cc in
      let begun : epoch_with (node_ip one.node) b.packet.start (firm_in w gateway) ≡ Some a.is.epoch = grind (arith, ip, b.is.begun, epoch) in
      let start : b.packet.start ≡ a.packet.start = start_is_one (node_ip one.node) b.packet.start a.packet.start a.is.epoch (firm_in w gateway) begun a.is.begun in
      let there : slice_get (all_followed (log_at w one.node)) other.packet ≡ Some b.packet = grind (arith, node, b.packet_is) in
      let packet : one.packet ≡ other.packet =
      one_place gateway a.copy.number a.packet.start (all_followed (log_at w one.node))
      ((follows one.node a.packet (get_contains (all_followed (log_at w one.node)) one.packet a.packet a.packet_is)).roles gateway a.copy.number)
      one.packet other.packet a.packet b.packet a.packet_is there refl start
      (copy_used gateway a.copy.number a.packet a.copy a.is.copy_is a.gateway_is refl)
      (copy_used gateway a.copy.number b.packet b.copy b.is.copy_is b.gateway_is (sym number)) in
      let index : one.index ≡ other.index = sym a.index_is ∙ b.index_is in
      λ i. record { node = node i; packet = packet i; index = index i }

  pub each_world_is_once : Once w
  each_world_is_once = record {
    placed = placed;
    octets = λ node packet copy filing is. octets_placed node packet is copy filing;
    kind = λ node packet copy filing is. kind_placed node packet is copy filing;
    records = records_are;
    apart = apart;
  }

  -- ---- requests and answers

  -- a node that did something is one of the world
  did_follow : (node start : ℕ) (deed : Deed) → Contains (made.scene.deeds (node_ip node)) deed → DidFollow node start
  did_follow node start deed is = by_option (λ o. DidFollow node start) (slice_get w.nodes node)
      (λ e. in_none deed (subst (λ (ds : List Deed). Contains ds deed)
      (made.shows.deeds node ∙ ap (λ (o : Option (List LogEntry)). deeds_of (node_ip node) (values_in w node) (log_or o)) e) is))
      (λ log e. it_follows node log e start)

  -- what is firm in the scene is firm in the world
  firmly : {node start number : ℕ} {s : KeyState} (gateway : ℕ) → IsState (made.scene.posts gateway).firm node start number s → IsState (firm_in w gateway) node start number s
  firmly {node} {start} {number} {s} gateway = subst (λ (h : List HistoryEntry). IsState h node start number s) (firm_at gateway)

  spoken : (m : Message) (says : Meaning) → Contains w.messages m → meaning_of m ≡ says → is_spoken says ≡ true → Contains made.scene.letters (record (letter_of m) { says = says })
  spoken m says kept e speaking =
      subst (λ (s : Meaning). Contains made.scene.letters (record (letter_of m) { says = s })) e (made.shows.letters m kept (ap is_spoken e ∙ speaking))

  was_sent : (m : Message) (request : Request) → Contains made.scene.letters (asking m request) → Contains (made.scene.deeds (node_ip m.node)) (Sent (asking m request))
  was_sent m request kept = holds.sent (asking m request) kept

  of_copy : (m : Message) (request : Request) → Contains made.scene.letters (asking m request) → IsOfCopy w m request
  of_copy m request kept =
      (did_follow m.node m.start (Sent (asking m request)) (was_sent m request kept)).sends (asking m request) (was_sent m request kept) refl

  asked : (m : Message) (request : Request) → Contains w.messages m → meaning_of m ≡ Asks request → IsOfCopy w m request
  asked m request kept says = of_copy m request (spoken m (Asks request) kept says refl)

  answered : (m : Message) (cause : ℕ) → Contains w.messages m → meaning_of m ≡ Answers cause → is_telling cause ≡ true → AnswersACopy w m
  answered m cause kept says telling =
      let is = holds.told (record (letter_of m) { says = Answers cause }) (spoken m (Answers cause) kept says refl) telling in
      record { request = is.request; of = of_copy m is.request is.asked }

  pub mean_copies : MeanCopies w
  mean_copies = record { asked = asked; answered = answered }

  -- ---- what an answer tells of a copy

  module _ {m : Message} {packet : Followed} {copy : PacketCopy} {number cause : ℕ} (is : IsAnswerFor w m packet copy number cause) where
    followed : DidFollow m.node packet.start
    followed = follows m.node packet is.followed

    copy_of : IsCopyOf (packets m.node packet.start) packet.state copy
    copy_of = record { kept = in_start m.node packet is.followed; among = is.copy_is }

    answer_is : is_telling cause ≡ true → IsAnswered holds (node_ip m.node) followed copy.gateway m.port number cause
    answer_is telling = told_by holds (node_ip m.node) followed copy.gateway m.port number cause
        (subst (Contains made.scene.letters)
        (λ i. record { node = node_ip m.node; start = is.start i; gateway = is.gateway i; port = m.port; number = is.number_is i; says = Answers cause })
        (spoken m (Answers cause) is.kept is.says refl)) telling

  pub tell_states : TellStates w
  tell_states = record {
    filed = λ m packet copy cause is plain tells. firmly copy.gateway
        (filed_by_answer holds (node_ip m.node) (followed is) packet.state copy m.port cause (copy_of is) plain tells (answer_is is));
    filed_by_test = λ m packet copy is second. firmly copy.gateway
        ((by_test_answer holds (node_ip m.node) (followed is) packet.state copy ALREADY_FULFILLED m.port second (copy_of is) (answer_is is refl)).0 refl);
    sealed = λ m packet copy cause is tells. firmly copy.gateway
        (sealed_by_answer holds (node_ip m.node) (followed is) packet.state copy m.port cause (copy_of is) tells (answer_is is));
    released = λ m packet copy command cause is sent release fulfilled. firmly copy.gateway
        (by_release_answer holds (node_ip m.node) (followed is) packet.state copy command cause m.port fulfilled (copy_of is) sent release
        (answer_is is (fulfilled_tells cause fulfilled)));
  }

  -- ---- what a release names

  pub name_choices : (m : Message) (named : ℕ) → Contains w.messages m → meaning_of m ≡ Asks (Orders order.Release named) → NamesChoice w m named
  name_choices m named kept says =
      let may = asked m (Orders order.Release named) kept says in
      let at = may.2.at in
      let rightly = did_follow m.node m.start (Sent (asking m (Orders order.Release named))) (was_sent m (Orders order.Release named) (spoken m (Asks (Orders order.Release named)) kept says refl)) in
      let copy_is : IsCopyOf (packets_in m.start (log_at w m.node)) at.packet at.copy = record { kept = at.kept; among = at.among } in
      let chosen_is : is_chosen at.copy ≡ true = ap (λ (there : Option Command). option_map_or (λ (c : Command). is_release c.order) there false) may.2.sent in
      let choice = choice_of holds (node_ip m.node) rightly at.packet at.copy copy_is chosen_is in
      let sealed = first_sealed holds (node_ip m.node) rightly copy_is choice in
      let own = followed_as w m.node m.start at.packet at.kept in
      record {
        packet = own.of;
        followed = own.followed;
        start = own.start_is;
        choice =
            let whole = ap (λ (p : PacketState). p.copies) own.state_is ∙ choice.whole in
            search (whole, choice.sealed, choice.choice, choice.gateway_is ∙ at.gateway_is, choice.number_is ∙ at.number_is);
        sealed = firmly choice.plain.gateway sealed;
      }

  -- ---- what is filed

  pub was_submitted : (place : ℕ) (filing : FiledRecord) → Contains (filed (firm_in w place)) filing → WasSubmitted w place filing
  was_submitted place filing kept = ⊎_elim
      (λ less. in_none (Sent letter) (subst (λ (ds : List Deed). Contains ds (Sent letter)) (made.strangers filing.key.node.0 less) sent))
      (λ more. by_node (filing.key.node.0 - first_node_ip) (omega (arith, more)))
      (cases_lt filing.key.node.0 first_node_ip)
    where
      of : IsBrought made.scene.letters place filing.key (made.scene.posts place).firm filing
      of = brought made.scene.letters place filing.key (made.scene.posts place).firm (firm_rests made.scene.letters place (made.scene.posts place) (holds.posts place)) filing
          (subst (λ (h : List HistoryEntry). Contains (filed h) filing) (sym (firm_at place)) kept)
          (grind (arith, nat_tests))

      letter : Letter
      letter = record { node = filing.key.node.0; start = of.backed.start; gateway = place; port = of.backed.asked.port; number = filing.key.number; says = Asks (Sends of.plain of.octets) }

      sent : Contains (made.scene.deeds filing.key.node.0) (Sent letter)
      sent = holds.sent letter of.backed.asked.kept

      by_node : (node : ℕ) → filing.key.node.0 ≡ node_ip node → WasSubmitted w place filing
      by_node node same =
          let here : Contains (made.scene.deeds (node_ip node)) (Sent letter) = subst (λ (n : ℕ). Contains (made.scene.deeds n) (Sent letter)) same sent in
          let may = (did_follow node of.backed.start (Sent letter) here).sends letter here refl in
          let at = may.1.at in
          let own = followed_as w node of.backed.start at.packet at.kept in
          let filed_for : IsFiledFor (firm_in w at.copy.gateway) node own.of at.copy filing =
          record {
            copy_is = subst (λ (p : PacketState). Contains p.copies at.copy) (sym own.state_is) at.among;
            epoch = filing.key.epoch;
            begun = grind (arith, same, own.start_is, at.gateway_is, firm_at place, of.backed.begun);
            kept = subst (λ (q : ℕ). Contains (filed (firm_in w q)) filing) (sym at.gateway_is) kept;
            key_is = grind (arith, nat_tests, same, at.number_is);
          } in
          record {
            node = node;
            packet = own.of;
            copy = at.copy;
            followed = own.followed;
            gateway_is = at.gateway_is;
            filed_for = filed_for;
            octets = octets_placed node own.of own.followed at.copy filing filed_for;
            kind = kind_placed node own.of own.followed at.copy filing filed_for;
          }

-- ---- where all go by the same rules

pub same_turns : (rules : Rules) (w : World) (all : List Turn) → ruled_turns w (map (ruled rules) all) ≡ turns rules w all
same_turns rules w [] = refl
same_turns rules w (t ∷ all) = same_turns rules (turn rules w t) all

pub same_worlds : (rules : Rules) (gateways nodes : ℕ) (all : List Turn)
    → ruled_turns (first_world (λ place. rules) gateways nodes) (map (ruled rules) all) ≡ turns rules (world_of rules gateways nodes) all
same_worlds rules gateways nodes all =
    ap (λ (w : World). ruled_turns w (map (ruled rules) all)) (same_world rules gateways nodes)
    ∙ same_turns rules (world_of rules gateways nodes) all

pub by_reached : (P : World → Type 0) → ((rules : ℕ → Rules) (gateways nodes : ℕ) (all : List RuledTurn) → 1 ≤ gateways → P (ruled_turns (first_world rules gateways nodes) all))
    → (w : World) → IsReached w → P w
by_reached P holds w reached = subst P reached.is (holds reached.rules reached.gateways reached.nodes reached.all reached.some)

pub reached_by : (rules : ℕ → Rules) (gateways nodes : ℕ) (all : List RuledTurn) → 1 ≤ gateways → IsReached (ruled_turns (first_world rules gateways nodes) all)
reached_by rules gateways nodes all some = record { rules = rules; gateways = gateways; nodes = nodes; all = all; some = some; is = refl }

pub reached_alike : (rules : Rules) (gateways nodes : ℕ) (all : List Turn) → 1 ≤ gateways → IsReached (turns rules (world_of rules gateways nodes) all)
reached_alike rules gateways nodes all some =
    subst IsReached (same_worlds rules gateways nodes all) (reached_by (λ place. rules) gateways nodes (map (ruled rules) all) some)
