-- The number of an open copy is read as it is meant, where the gateway's present epoch is that of the node's start: by the
-- greatest number of that epoch, and by what the laws of nodes say of numbers and of what a node knows.
use Rattle.std.proofs.Common.{◌≡◌, ◌⊎◌, inl, inr, ℕ, max, ◌≤◌, ◌==◌, ◌&&◌, Bool, true, false, if◌then◌else◌, List, [], ◌∷◌, Option, Some, None, refl, sym, ap, subst, ◌∙◌, arith, ⊎_elim, eqb-true, ◌↔◌, ◌+◌, ◌<◌, ◌%◌, Contains, length, ◌≢◌, All, ne_eqb}
use Rattle.once_core.proofs.Names.{All-contains, AllRestOn, AnyHasCopyAt, Asks, cases_lt, cond-false, Deed, deeds_of, epoch_of, false≢true, Follows, Fresh, given_state, GrowsTo, Happening, HasCopy, HasOneRole, HasOpenCopy, Held, history, HistoryAct, HistoryEntry, is_done, is_fresh, IsAsked, IsBetween, IsCopyOrBase, IsKnown, IsNearest, IsRising, IsSingle, KeyState, Knows, length-map, Letter, list_any, log_of, LogEntry, MaySend, Meaning, nat_tests, nearest, next_number, NodeCall, NodeId, NodeSetup, none-some, opening_after, opening_of, opening_of-append, Orders, PacketCopy, packets_in, packets_of, PacketState, Peer, peers_of, Port, present_state, present_state-append, present_state_is, raised, reached, ReleasesChoice, Request, Rests, RestsBy, runs, same_Some, Scene, scene_after, SceneHolds, Sends, since_start, start_by, start_of, starts_in, Tests, top_after, top_of, top_of-append, uses, uses_by_copies, uses_by_copy}
use Rattle.gw_base.specs.View.{present_after}
use Rattle.gw_base.specs.declared.history.HistoryAct.TheVariants as act
use Rattle.once_core.specs.Happenings.{about}
use Rattle.once_core.proofs.EachLemmas.{by_each, each_front}
use Rattle.once_core.proofs.CaseLemmas.{if_known, by_bool, if_both}
use Rattle.once_core.proofs.CountLemmas.{starts_rise}
use Rattle.once_core.proofs.EpochLemmas.{present_epoch}
use Rattle.once_core.proofs.ForwardLemmas.{known_on}
use Rattle.once_core.proofs.KnownLemmas.{done_known, may_send}
use Rattle.once_core.proofs.MoveLemmas.{holds_always}
use Rattle.once_core.proofs.NumberLemmas.{present_packet}
use Rattle.once_core.proofs.RoleLemmas.{among_copies, among_packets, own_use, packets_sum, copies_sum, sum_none}
use Rattle.once_core.proofs.SendingPlays.{NodesFollow}
use Rattle.once_core.proofs.DeedLemmas.{all_rest}
use Rattle.once_core.proofs.LogLemmas.{addresses_stay}

-- the greatest number, where there is one, is no less than this
pub record IsCovered (top : Option ℕ) (number : ℕ) : Type 0 where
  pub greatest : ℕ
  pub is : top ≡ Some greatest
  pub below : number ≤ greatest

-- a request of a node in a start was about this number
pub record IsAskedAbout (letters : List Letter) (node start gateway number : ℕ) : Type 0 where
  pub own : ℕ
  pub request : Request
  pub asked : IsAsked letters node start gateway own request
  pub about_is : about request own ≡ number

raised_covers : (top : Option ℕ) (x number : ℕ) → IsCovered top number → IsCovered (raised top x) number
raised_covers None x number is = absurd (cc)
raised_covers (Some t) x number is = record { greatest = max t x; is = refl; below = omega (arith, same_Some t is.greatest is.is, is.below) }

raised_self : (top : Option ℕ) (x number : ℕ) → x ≡ number → IsCovered (raised top x) number
raised_self None x number same = record { greatest = x; is = refl; below = omega (arith, same) }
raised_self (Some t) x number same = record { greatest = max t x; is = refl; below = omega (arith, same) }

raised_is : (top : Option ℕ) (x t : ℕ) → raised top x ≡ Some t → (x ≡ t) ⊎ (top ≡ Some t)
raised_is top x t e = grind arith

-- ---- no number that isn't fresh is above it

-- a list of one number names no other
one_named : (xs : List ℕ) (x number : ℕ) → xs ≡ x ∷ [] → list_any (λ y. y == number) xs ≡ true → x ≡ number
one_named xs x number alone e = grind (arith, nat_tests)

module _ (letters : List Letter) (gateway node number : ℕ) where
  -- a number that isn't fresh is covered
  abbrev Covers : List HistoryEntry → Type 0
  Covers h = is_fresh (present_state node number h) ≡ false → IsCovered (top_of node h) number

  -- an entry that names a number leaves it covered
  number_named : (b : Bool) (top : Option ℕ) (x : ℕ) → (b && (x == number)) ≡ true → IsCovered (if b then raised top x else top) number
  number_named true top x e = raised_self top x number (eqb-true x number e)
  number_named false top x e = absurd (false≢true e)

  number_kept : (b : Bool) (top : Option ℕ) (x : ℕ) → IsCovered top number → IsCovered (if b then raised top x else top) number
  number_kept b top x is = if_both (λ (o : Option ℕ). IsCovered o number) b (raised_covers top x number is) is

  -- the number that a list names was held, and so it was covered
  held_named : (h : List HistoryEntry) (n : NodeId) (xs : List ℕ) (x : ℕ) → xs ≡ x ∷ [] → present_state n.0 x h ≡ Held
      → Covers h
      → ((n.0 == node) && list_any (λ y. y == number) xs) ≡ true → IsCovered (top_of node h) number
  held_named h n xs x alone held covered e = covered (grind (arith, nat_tests, one_named xs x number alone))

  -- a number that is named, or was known, is covered where the entry raises the greatest one
  named_covered : (h : List HistoryEntry) (n : NodeId) (x : ℕ) (given : KeyState) → Covers h
      → is_fresh (if (n.0 == node) && (x == number) then given else present_state node number h) ≡ false → IsCovered (if n.0 == node then raised (top_of node h) x else top_of node h) number
  named_covered h n x given covered = if_known (λ (s : KeyState). is_fresh s ≡ false → IsCovered (if n.0 == node then raised (top_of node h) x else top_of node h) number)
      ((n.0 == node) && (x == number)) (λ named known. number_named (n.0 == node) (top_of node h) x named) (λ isnt known. number_kept (n.0 == node) (top_of node h) x (covered known))

  -- and where it names a list of one that was held
  list_covered : (h : List HistoryEntry) (n : NodeId) (xs : List ℕ) (x : ℕ) (given : KeyState) → xs ≡ x ∷ [] → present_state n.0 x h ≡ Held
      → Covers h
      → is_fresh (if (n.0 == node) && list_any (λ y. y == number) xs then given else present_state node number h) ≡ false → IsCovered (top_of node h) number
  list_covered h n xs x given alone held covered = if_known (λ (s : KeyState). is_fresh s ≡ false → IsCovered (top_of node h) number)
      ((n.0 == node) && list_any (λ y. y == number) xs) (λ named known. held_named h n xs x alone held covered named) (λ isnt. covered)

  covered_by : (h : List HistoryEntry) (a : HistoryAct) → RestsBy letters gateway h a → Covers h
      → is_fresh (present_after node number (present_state node number h) a) ≡ false → IsCovered (top_after node (top_of node h) a) number
  covered_by h (act.Path n port counter) rests covered known =
      by_bool (λ (b : Bool). is_fresh (if b then Fresh else present_state node number h) ≡ false → IsCovered (if b then None else top_of node h) number)
      (n.0 == node) (λ same e. absurd (false≢true (sym e))) (λ apart. covered) known
  covered_by h (act.File n x packet) rests covered known = named_covered h n x (given_state (act.File n x packet)) covered known
  covered_by h (act.Hold n x packet) rests covered known = named_covered h n x (given_state (act.Hold n x packet)) covered known
  covered_by h (act.Seal n x) rests covered known = named_covered h n x (given_state (act.Seal n x)) covered known
  covered_by h (act.Release n xs) rests covered known = list_covered h n xs rests.names.number (given_state (act.Release n xs)) rests.names.alone rests.names.held covered known
  covered_by h (act.Cancel n xs) rests covered known = list_covered h n xs rests.number (given_state (act.Cancel n xs)) rests.alone rests.held covered known
  covered_by h _ rests covered known = covered known

  pub covers : (h : List HistoryEntry) → Rests letters gateway h → Covers h
  covers =
      by_each (λ before e. RestsBy letters gateway before e.act) Covers
      (λ known. absurd (false≢true (sym known)))
      (λ h e all rests covered known.
      subst (λ (top : Option ℕ). IsCovered top number) (sym (top_of-append node h e))
      (covered_by h e.act rests covered (sym (ap is_fresh (present_state-append node number h e)) ∙ known)))

-- ---- a request was about it

module _ (letters : List Letter) (gateway node : ℕ) where
  abbrev Asked : Option ℕ → ℕ → Type 0
  Asked top start = (t : ℕ) → top ≡ Some t → IsAskedAbout letters node start gateway t

  asked_more : (b : Bool) (top : Option ℕ) (start x : ℕ) → Asked top start → (b ≡ true → IsAskedAbout letters node start gateway x) → Asked (if b then raised top x else top) start
  asked_more b top start x asked new = if_known (λ (o : Option ℕ). Asked o start) b
      (λ is t e. ⊎_elim (λ same. subst (IsAskedAbout letters node start gateway) same (new is)) (asked t) (raised_is top x t e)) (λ isnt. asked)

  of_node : (h : List HistoryEntry) (n : NodeId) (x : ℕ) (request : Request) → IsAsked letters n.0 (start_of n.0 h) gateway x request → about request x ≡ x → (n.0 == node) ≡ true
      → IsAskedAbout letters node (start_of node h) gateway x
  of_node h n x request asked is same =
      let node_is = eqb-true n.0 node same in
      record { own = x; request = request; asked = subst (λ (m : ℕ). IsAsked letters m (start_of m h) gateway x request) node_is asked; about_is = is }

  asked_by : (h : List HistoryEntry) (a : HistoryAct) → RestsBy letters gateway h a → Asked (top_of node h) (start_of node h)
      → Asked (top_after node (top_of node h) a) (start_by (opening_after node (opening_of node h) a))
  asked_by h (act.Path n port counter) rests asked =
      by_bool (λ (b : Bool). Asked (if b then None else top_of node h) (start_by (if b then Some (record { port = port; counter = counter }) else opening_of node h)))
      (n.0 == node) (λ same t e. absurd (cc e)) (λ apart. asked)
  asked_by h (act.File n x packet) rests asked = asked_more (n.0 == node) (top_of node h) (start_of node h) x asked (of_node h n x (Sends true packet) rests.1 refl)
  asked_by h (act.Hold n x packet) rests asked = asked_more (n.0 == node) (top_of node h) (start_of node h) x asked (of_node h n x (Sends false packet) rests.1 refl)
  asked_by h (act.Seal n x) rests asked = asked_more (n.0 == node) (top_of node h) (start_of node h) x asked (of_node h n x Tests rests.1 refl)
  asked_by h _ rests asked = asked

  pub top_asked : (h : List HistoryEntry) → Rests letters gateway h → (t : ℕ) → top_of node h ≡ Some t → IsAskedAbout letters node (start_of node h) gateway t
  top_asked =
      by_each (λ before e. RestsBy letters gateway before e.act) (λ (h : List HistoryEntry). (t : ℕ) → top_of node h ≡ Some t → IsAskedAbout letters node (start_of node h) gateway t)
      (λ t e. absurd (cc))
      (λ h e all rests asked t is.
      subst (λ (start : ℕ). IsAskedAbout letters node start gateway t) (sym (ap start_by (opening_of-append node h e)))
      (asked_by h e.act rests asked t (sym (top_of-append node h e) ∙ is)))

-- what the law of numbers says: from 32,768 on the nearest number is the one of the window
abbrev pub NearestIsTheOne : Type 0
NearestIsTheOne = (h w number : ℕ) → w < 65536 → 32768 ≤ h → IsNearest h w number ↔ (number ≡ nearest (Some h) w)

-- what the laws of nodes say of the numbers that these packets drew at a gateway: those of copies are from 65,536 on below the
-- next one, an open one is near it, and so is the last one before those that only open packets have
pub record AreNear (packets : List PacketState) (gateway next : ℕ) : Type 0 where
  pub range : (number : ℕ) → HasCopy packets gateway number → (65536 ≤ number) × (number < next)
  pub open_near : (number : ℕ) → HasOpenCopy packets gateway number → next ≤ number + 16511
  pub settled_near : (number : ℕ) → (number ≡ 65535) ⊎ HasCopy packets gateway number
      → ((later : ℕ) → HasCopy packets gateway later → number < later → HasOpenCopy packets gateway later) → next ≤ number + 16576

near_none : (number : ℕ) → 65536 ≤ number → number < 131072 → nearest None (number % 65536) ≡ number
near_none number low high = omega (arith, low, high)

near_some : NearestIsTheOne → (t number : ℕ) → 65536 ≤ t → t ≤ number + 32768 → number ≤ t + 32767 → nearest (Some t) (number % 65536) ≡ number
near_some law t number some low high =
    sym ((law t (number % 65536) number (omega arith) (omega (arith, some))).0 (record { congruent = refl; low = low; high = high }))

open_copy : (packets : List PacketState) (gateway number : ℕ) (is : HasCopy packets gateway number) → is_done is.packet.copies ≡ false → HasOpenCopy packets gateway number
open_copy packets gateway number is open_yet = search (is.kept, open_yet, is.sent, is.gateway_is, is.number_is)

copy_of_open : (packets : List PacketState) (gateway number : ℕ) → HasOpenCopy packets gateway number → HasCopy packets gateway number
copy_of_open packets gateway number is = search (is.kept, is.sent, is.gateway_is, is.number_is)

module _ (law : NearestIsTheOne) (scene : Scene) (holds : SceneHolds scene) (node start : ℕ) (values : ℕ → List ℕ) (packets : List PacketState)
    (follows : Follows (scene.deeds node) start values packets) (gateway next : ℕ) (near : AreNear packets gateway next)
    (h : List HistoryEntry) (front : GrowsTo (scene.posts gateway).firm h) (back : GrowsTo h (history (scene.posts gateway))) (present : start_of node h ≡ start) where
  rests : Rests scene.letters gateway h
  rests = each_front (λ before e. RestsBy scene.letters gateway before e.act) [] h back.more (subst (Rests scene.letters gateway) back.is (holds.posts gateway).rests)

  -- a number that isn't fresh is at most the greatest one
  below_top : (number : ℕ) → IsKnown (scene.posts gateway).firm node start number → IsCovered (top_of node h) number
  below_top number known =
      let there : IsKnown h node start number =
      subst (λ (k : List HistoryEntry). IsKnown k node start number) (sym front.is) (known_on (scene.posts gateway).firm front.more node start number known) in
      let epoch_is : there.epoch ≡ epoch_of node h =
      grind (arith, present_epoch node h (starts_rise scene.letters gateway h rests), present, there.begun) in
      covers scene.letters gateway node number h rests
      (grind (arith, epoch_is, present_state_is (record { 0 = node }) number h, there.state_is))

  -- a copy above it is of an open packet
  above_top : (bound : ℕ) → ((number : ℕ) → IsCovered (top_of node h) number → number ≤ bound) → (later : ℕ) → HasCopy packets gateway later → bound < later → HasOpenCopy packets gateway later
  above_top bound least later is above = by_bool (λ (b : Bool). HasOpenCopy packets gateway later) (is_done is.packet.copies)
      (λ e.
      let known = done_known holds node follows is.packet is.kept e is.copy is.sent in
      let here : IsKnown (scene.posts gateway).firm node start later =
      subst (λ (n : ℕ). IsKnown (scene.posts gateway).firm node start n) is.number_is
      (subst (λ (g : ℕ). IsKnown (scene.posts g).firm node start is.copy.number) is.gateway_is known) in
      absurd (omega (arith, least later (below_top later here), above)))
      (open_copy packets gateway later is)

  -- the greatest number is that of a copy
  top_copy : (t : ℕ) → top_of node h ≡ Some t → HasCopy packets gateway t
  top_copy t e =
      let asked = top_asked scene.letters gateway node h rests t e in
      by asked.request asked.own asked.asked.port asked.about_is
      (may_send holds node follows gateway asked.asked.port asked.own asked.request
      (subst (λ (s : ℕ). Contains scene.letters (record { node = node; start = s; gateway = gateway; port = asked.asked.port; number = asked.own; says = Asks asked.request })) present asked.asked.kept))
    where
      of : (number : ℕ) → number ≡ t → AnyHasCopyAt packets gateway number → HasCopy packets gateway t
      of number same at = record { packet = at.packet; copy = at.copy; kept = at.kept; sent = at.among; gateway_is = at.gateway_is; number_is = at.number_is ∙ same }

      by : (request : Request) (own : ℕ) (port : Port) → about request own ≡ t → MaySend packets values (record { node = node; start = start; gateway = gateway; port = port; number = own; says = Asks request }) (Asks request)
          → HasCopy packets gateway t
      by (Sends is_plain octets) own port same may = of own same may.1.at
      by Tests own port same may = of own same may.1
      by (Orders which named) own port same may = of named same may.2.at

  pub read_as_meant : (number : ℕ) → HasOpenCopy packets gateway number → nearest (top_of node h) (number % 65536) ≡ number
  read_as_meant number is = by (top_of node h) refl
    where
      mine : (65536 ≤ number) × (number < next)
      mine = near.range number (copy_of_open packets gateway number is)

      by : (top : Option ℕ) → top_of node h ≡ top → nearest top (number % 65536) ≡ number
      by None e = near_none number mine.0
          (omega (arith, mine.1, near.settled_near 65535 (inl refl) (above_top 65535 (λ n covered. absurd (none-some covered.greatest (sym e ∙ covered.is))))))
      by (Some t) e =
          let copy = top_copy t e in
          let high = near.settled_near t (inr copy) (above_top t (λ n covered. omega (arith, same_Some t covered.greatest (sym e ∙ covered.is), covered.below))) in
          near_some law t number (near.range t copy).0 (omega (arith, (near.range t copy).1, near.open_near number is)) (omega (arith, mine.1, high))

-- what the laws say
pub record Numbers : Type 0 where
  pub nearest_one : NearestIsTheOne
  pub roles : (setup : NodeSetup) (calls : List NodeCall) (gateway number : ℕ) → 1 ≤ length setup.gateways → gateway < length setup.gateways → HasOneRole (reached setup calls) gateway number
  pub open_near : (setup : NodeSetup) (calls : List NodeCall) (gateway number : ℕ) → 1 ≤ length setup.gateways → gateway < length setup.gateways
      → HasOpenCopy (reached setup calls).packets gateway number → next_number (reached setup calls).gateways gateway ≤ number + 16511
  pub settled_near : (setup : NodeSetup) (calls : List NodeCall) (gateway number : ℕ) → 1 ≤ length setup.gateways → gateway < length setup.gateways
      → IsCopyOrBase (reached setup calls) gateway number
      → ((later : ℕ) → HasCopy (reached setup calls).packets gateway later → number < later → HasOpenCopy (reached setup calls).packets gateway later)
      → next_number (reached setup calls).gateways gateway ≤ number + 16576
  pub knows : (setup : NodeSetup) (calls : List NodeCall) (node : ℕ) (values : ℕ → List ℕ) → 1 ≤ length setup.gateways
      → Knows (deeds_of node values (log_of setup calls)) (starts_in (log_of setup calls)) (reached setup calls).packets
  pub follow : NodesFollow

-- ---- what is sent is of a present packet

module _ (log : List LogEntry) (running : runs log ≡ true) where
  copy_present : (gateway number : ℕ) → AnyHasCopyAt (packets_in (starts_in log) log) gateway number → AnyHasCopyAt (packets_of log) gateway number
  copy_present gateway number at = search (present_packet log at.packet running at.kept, at.among, at.gateway_is, at.number_is)

  may_present : (values : ℕ → List ℕ) (letter : Letter) (says : Meaning) → MaySend (packets_in (starts_in log) log) values letter says → MaySend (packets_of log) values letter says
  unfolding copy_present
  may_present values letter (Asks (Sends is_plain octets)) may =
      (may.0, record { at = copy_present letter.gateway letter.number may.1.at; plain = may.1.plain; packet = may.1.packet })
  may_present values letter (Asks Tests) may = (may.0, copy_present letter.gateway letter.number may.1)
  may_present values letter (Asks (Orders order named)) may = (may.0, may.1, record { at = copy_present letter.gateway named may.2.at; sent = may.2.sent })
  may_present values letter _ may = tt

module _ (laws : Numbers) (setup : NodeSetup) (calls : List NodeCall) (some : 1 ≤ length setup.gateways) (running : runs (log_of setup calls) ≡ true) where
  follows_now : (node : ℕ) (values : ℕ → List ℕ) → Follows (deeds_of node values (log_of setup calls)) (starts_in (log_of setup calls)) values (reached setup calls).packets
  follows_now node values =
      let knows = laws.knows setup calls node values some in
      let follows = laws.follow setup calls node (starts_in (log_of setup calls)) values some in
      record {
        roles = knows.roles;
        plain = knows.plain;
        choice = knows.choice;
        rests = knows.rests;
        sends = λ letter kept start. may_present (log_of setup calls) running values letter letter.says (follows.sends letter kept start);
      }

  module _ (gateway : ℕ) (inside : gateway < length setup.gateways) where
    used : (number : ℕ) → HasCopy (reached setup calls).packets gateway number → 1 ≤ uses gateway number (reached setup calls).packets
    used number is = omega (
      arith,
      own_use gateway number is.copy is.gateway_is is.number_is,
      among_copies gateway number is.packet.copies is.copy is.sent,
      among_packets gateway number (reached setup calls).packets is.packet is.kept,
    )

    near : AreNear (reached setup calls).packets gateway (next_number (reached setup calls).gateways gateway)
    near = record {
      range = λ number is.
          let role = laws.roles setup calls gateway number some inside in
          let one = used number is in
          let next = next_number (reached setup calls).gateways gateway in (
            ⊎_elim (λ less. absurd (omega (arith, role.before less, one))) (λ le. le) (cases_lt number 65536),
            ⊎_elim (λ less. less) (λ le. absurd (omega (arith, role.behind le, one))) (cases_lt number next),
          );
      open_near = λ number is. laws.open_near setup calls gateway number some inside is;
      settled_near = λ number is later. laws.settled_near setup calls gateway number some inside is later;
    }

    pub meant : (happenings : List Happening) (node number : ℕ) (values : ℕ → List ℕ) (h : List HistoryEntry) → (scene_after happenings).deeds node ≡ deeds_of node values (log_of setup calls)
        → IsBetween ((scene_after happenings).posts gateway).firm ((scene_after happenings).posts gateway).rest h → start_of node h ≡ starts_in (log_of setup calls) → HasOpenCopy (reached setup calls).packets gateway number
        → nearest (top_of node h) (number % 65536) ≡ number
    meant happenings node number values h deeds between present is =
        read_as_meant laws.nearest_one (scene_after happenings) (holds_always happenings) node (starts_in (log_of setup calls)) values (reached setup calls).packets
        (subst (λ (ds : List Deed). Follows ds (starts_in (log_of setup calls)) values (reached setup calls).packets) (sym deeds) (follows_now node values))
        gateway (next_number (reached setup calls).gateways gateway) near h between.front between.back present number is

-- no number of another gateway is used
none_apart : (gateway number : ℕ) (packets : List PacketState)
    → ((packet : PacketState) → Contains packets packet → (copy : PacketCopy) → Contains packet.copies copy → copy.gateway ≢ gateway) → uses gateway number packets ≡ 0
none_apart gateway number packets apart =
    packets_sum gateway number packets
    ∙ sum_none (λ (p : PacketState). uses_by_copies gateway number p.copies) packets (λ packet kept.
    copies_sum gateway number packet.copies ∙ sum_none (uses_by_copy gateway number) packet.copies (λ copy among.
    cond-false (copy.gateway == gateway) _ 0 (ne_eqb copy.gateway gateway (apart packet kept copy among))))

module _ (setup : NodeSetup) (calls : List NodeCall) (some : 1 ≤ length setup.gateways) where
  one_role : ((gateway number : ℕ) → gateway < length setup.gateways → HasOneRole (reached setup calls) gateway number)
      → All (IsSingle (reached setup calls).gateways) (reached setup calls).packets → (gateway number : ℕ) → uses gateway number (reached setup calls).packets ≤ 1
  one_role roles singles gateway number = ⊎_elim
      (λ inside. by_number (roles gateway number inside) (cases_lt number 65536) (cases_lt number (next_number (reached setup calls).gateways gateway)))
      (λ outside.
      let none = none_apart gateway number (reached setup calls).packets (λ packet kept copy among same.
      let peers = peers_of setup.gateways (log_of setup calls) in
      let single : IsSingle peers packet = All-contains (IsSingle peers) (reached setup calls).packets packet singles kept in
      let rising : IsRising peers copy = All-contains (IsRising peers) packet.copies copy single.rising among in
      let many : length peers ≡ length setup.gateways =
      sym (length-map peers (λ (peer : Peer). peer.address)) ∙ ap length (addresses_stay setup.gateways (log_of setup calls)) in
      absurd (omega (arith, rising.place, same, outside, many))) in
      omega (arith, none))
      (cases_lt gateway (length setup.gateways))
    where
      by_number : HasOneRole (reached setup calls) gateway number → (number < 65536) ⊎ (65536 ≤ number)
          → (number < next_number (reached setup calls).gateways gateway) ⊎ (next_number (reached setup calls).gateways gateway ≤ number)
          → uses gateway number (reached setup calls).packets ≤ 1
      by_number role (inl before) next = omega (arith, role.before before)
      by_number role (inr drawn_yet) (inl within) = omega (arith, role.drawn drawn_yet within)
      by_number role (inr drawn_yet) (inr behind) = omega (arith, role.behind behind)

  pub knows : (node : ℕ) (values : ℕ → List ℕ) → ((gateway number : ℕ) → gateway < length setup.gateways → HasOneRole (reached setup calls) gateway number)
      → All (IsSingle (reached setup calls).gateways) (reached setup calls).packets → All ReleasesChoice (reached setup calls).packets
      → All (AllRestOn (since_start (log_of setup calls))) (packets_of (log_of setup calls))
      → Knows (deeds_of node values (log_of setup calls)) (starts_in (log_of setup calls)) (reached setup calls).packets
  knows node values roles singles choice rests = record {
    roles = one_role roles singles;
    plain = λ k d lt. (singles k d lt).plain;
    choice = choice;
    rests = all_rest node values (log_of setup calls) rests;
  }
