-- Requests that a node sends, in a scene. What the octets of a node's sending mean is what the node asks with it: a tick of
-- a node is what happens in a scene.
use Rattle.std.proofs.Common.{◌≡◌, ⊎_elim, ℕ, ◌≤◌, ◌==◌, Bool, true, false, List, [], ◌∷◌, ◌++◌, length, map, All, Contains, refl, sym, ap, subst, ◌∙◌, append_assoc, append-nil, suc, ◌+◌, ◌-◌, ◌<◌, Option, Some, slice_get, arith, ◌%◌}
use Rattle.once_core.proofs.Names.{about, address_at, addresses_from, All-contains, AnyHasCopyAt, appointing, asked_by, Asks, big_bytes, cond-false, Contains-append_left, Contains-append_right, Contains-push, Deed, deeds_of, due, Empty, false≢true, First, flat_map, Follows, forms_ever, forms_of, Full, gateway_at, happened_all, Happening, is_request, is_spoken, IsRising, IsSingle, Letter, letter_of, log_after, log_of, LogEntry, logged, MaySend, meaning_in, meaning_of, Message, message_of, moved_at_tick, node_ip, node_setup, node_value, NodeAliveRequest, NodeCall, NodeSetup, NodeValue, order_of, Orders, outgoing, packet_numbered, PacketCopy, PacketForm, packets_in, packets_of, PacketState, PacketValue, peers_of, Port, Possible, reached, Request, runs, Scene, Second, Sending, Sends, Sent, speaks, starts_in, submitted, Tests, Ticked, ticking, transfer_of, TransferRequest, TransferValue, value_of, wire, with_deed, with_letter, written}
use Rattle.node_core.specs.declared.sending.Sending.TheVariants as send
use Rattle.once_core.specs.Happenings as happens
use Rattle.once_core.proofs.ListLemmas.{in_cons, in_head, in_none, in_tail, in_one, of_flat_map, get_contains, in_flat, in_map, of_map}
use Rattle.once_core.proofs.MoveLemmas.{at_same}
use Rattle.node_core.specs.Reached as call
use Rattle.node_core.specs.declared.copy.Order.TheVariants as order
use Rattle.once_core.specs.Deeds as did
use Rattle.once_core.proofs.FormLemmas.{GoodForm, packet_is, value_octets_are}
use Rattle.once_core.proofs.LogLemmas.{gateway_is, size, starts_same}
use Rattle.once_core.proofs.MeaningLemmas.{IsWritten, ReadsBack, Said, meaning_is, said_by_node, FromNode}
use Rattle.once_core.proofs.NodePlays.{NodeRightly, appointed_starts, NodePlays, NodeStands, after_call, appointed_deeds, appointed, tick_is}
use Rattle.once_core.proofs.NumberLemmas.{Values, ever, ever_at, numbered_in, present_packet}
use Rattle.once_core.proofs.NodeTurnLemmas.{addresses_length}

-- ---- requests that a node sends

abbrev pub sending_of : Letter → Happening
sending_of l = happens.Sends l

abbrev pub sent_deed : Letter → Deed
sent_deed l = happens.Sent l

-- a request of the node's own
abbrev pub IsOwn : ℕ → Letter → Type 0
IsOwn node l = (is_request l.says ≡ true) × (l.node ≡ node)

-- what a scene is after a node sent these requests
pub record AreSent (node : ℕ) (ls : List Letter) (scene : Scene) : Type 0 where
  pub after : Scene
  pub is : happened_all scene (map sending_of ls) ≡ after
  pub posts : (gateway : ℕ) → after.posts gateway ≡ scene.posts gateway
  pub deeds : after.deeds node ≡ scene.deeds node ++ map sent_deed ls
  pub others : (other : ℕ) → (other == node) ≡ false → after.deeds other ≡ scene.deeds other
  pub old : (l : Letter) → Contains scene.letters l → Contains after.letters l
  pub new : (l : Letter) → Contains ls l → Contains after.letters l

pub are_sent : (node : ℕ) (ls : List Letter) (scene : Scene) → ((l : Letter) → Contains ls l → IsOwn node l) → AreSent node ls scene
are_sent node [] scene own = record {
  after = scene;
  is = refl;
  posts = λ gateway. refl;
  deeds = sym (append-nil (scene.deeds node));
  others = λ other apart. refl;
  old = λ l is. is;
  new = λ l is. in_none l is;
}
are_sent node (l ∷ ls) scene own =
    let one = own l (in_head l ls) in
    let here = scene.deeds node ++ Sent l ∷ [] in
    let rest = are_sent node ls (with_letter l (with_deed node (Sent l) scene)) (λ m is. own m (in_tail l m ls is)) in
    record {
      after = rest.after;
      is =
          grind (arith, one.0, one.1, rest.is);
      posts = rest.posts;
      deeds =
          grind (arith, rest.deeds, at_same node here scene.deeds, append_assoc (scene.deeds node) (Sent l ∷ []) (map sent_deed ls));
      others = λ other apart. rest.others other apart ∙ cond-false (other == node) here (scene.deeds other) apart;
      old = λ m is. rest.old m (Contains-append_left scene.letters (l ∷ []) m is);
      new = λ m is. ⊎_elim (λ e. rest.old m (subst (Contains (scene.letters ++ l ∷ [])) e (Contains-push scene.letters l))) (rest.new m) (in_cons l m ls is);
    }

-- what a node asks are requests of its own
pub asks : (node start : ℕ) (values : ℕ → List ℕ) (s : Sending) (l : Letter) → Contains (asked_by node start values s) l → IsOwn node l
asks node start values (send.Probe gateway number) l is = in_none l is
asks node start values _ l is = subst (IsOwn node) (in_one _ l is) (refl, refl)

-- ---- what the laws of nodes say

-- each node follows the procedure in each of its starts, and a gateway gets one copy of a packet
abbrev pub NodesFollow : Type 0
NodesFollow = (setup : NodeSetup) (calls : List NodeCall) (node start : ℕ) (values : ℕ → List ℕ) → 1 ≤ length setup.gateways
    → Follows (deeds_of node values (log_of setup calls)) start values (packets_in start (log_of setup calls))

abbrev pub OneCopyEach : Type 0
OneCopyEach = (setup : NodeSetup) (calls : List NodeCall) → 1 ≤ length setup.gateways → All (IsSingle (reached setup calls).gateways) (reached setup calls).packets

-- so a copy is for one of the node's gateways
pub copy_in_range : OneCopyEach → (setup : NodeSetup) (calls : List NodeCall) (log : List LogEntry) → 1 ≤ length setup.gateways
    → log_of setup calls ≡ log → (packet : PacketState) (copy : PacketCopy) → Contains (packets_of log) packet
    → Contains packet.copies copy → copy.gateway < length (peers_of setup.gateways log)
copy_in_range one_each setup calls log some is packet copy kept among =
    let peers = peers_of setup.gateways log in
    let singles = subst (λ (l : List LogEntry). All (IsSingle (peers_of setup.gateways l)) (packets_of l)) is (one_each setup calls some) in
    let single : IsSingle peers packet = All-contains (IsSingle peers) (packets_of log) packet singles kept in
    (All-contains (IsRising peers) packet.copies copy single.rising among).place

module _ {gateways place : ℕ} {values : ℕ → List ℕ} {scene : Scene} {log : List LogEntry} (stands : NodeStands gateways place values scene log) (some : 1 ≤ gateways)
    (running : runs log ≡ true) (follow : NodesFollow) (one_each : OneCopyEach) (back : ReadsBack) (are : Values values (forms_ever log)) where
  abbrev node : NodeValue
  node = node_value gateways place log

  abbrev to : Option ℕ
  to = moved_at_tick node

  -- the log before the tick's own entry, and behind it
  abbrev before : List LogEntry
  before = logged (appointing to) log

  abbrev after : List LogEntry
  after = Ticked (due node) ∷ before

  is_after : log_after gateways place call.Tick log ≡ after
  is_after = tick_is (node_setup gateways place) log running

  calls_are : after ≡ log_of (node_setup gateways place) (call.Tick ∷ stands.rightly.calls)
  calls_are = sym is_after ∙ ap (log_after gateways place call.Tick) stands.rightly.is

  running_still : runs after ≡ true
  running_still = appointed runs (λ gateway log. refl) to log ∙ running

  some_here : 1 ≤ length (addresses_from 0 gateways)
  some_here = omega (arith, some, addresses_length 0 gateways)

  -- ---- what is asked

  -- what is asked with a sending may be sent
  may : (numbers : ℕ → List ℕ) (s : Sending) (l : Letter) → Contains (due node) s → Contains (asked_by (node_ip place) (starts_in before) numbers s) l
      → l.start ≡ starts_in before → MaySend (packets_in (starts_in after) after) numbers l l.says
  may numbers s l there asked start =
      let asked_all : List Letter = flat_map (asked_by (node_ip place) (starts_in before) numbers) (due node) in
      let follows : Follows (deeds_of (node_ip place) numbers after) (starts_in after) numbers (packets_in (starts_in after) after) =
      subst (λ (l : List LogEntry). Follows (deeds_of (node_ip place) numbers l) (starts_in after) numbers (packets_in (starts_in after) l)) (sym calls_are)
      (follow (node_setup gateways place) (call.Tick ∷ stands.rightly.calls) (node_ip place) (starts_in after) numbers some_here) in
      follows.sends l
      (Contains-append_right (deeds_of (node_ip place) numbers before) (map sent_deed asked_all) (happens.Sent l)
      (in_map sent_deed asked_all l (in_flat (asked_by (node_ip place) (starts_in before) numbers) (due node) s l there asked)))
      (start ∙ sym (starts_same (Ticked (due node)) before refl))

  present : {gateway number : ℕ} (at : AnyHasCopyAt (packets_in (starts_in after) after) gateway number) → Contains (packets_of after) at.packet
  present at = present_packet after at.packet running_still at.kept

  in_range : {gateway number : ℕ} → AnyHasCopyAt (packets_in (starts_in after) after) gateway number → gateway < gateways
  in_range at = omega (
    arith,
    copy_in_range one_each (node_setup gateways place) (call.Tick ∷ stands.rightly.calls) after some_here (sym calls_are)
        at.packet at.copy (present at) at.among,
    at.gateway_is,
    size gateways after,
  )

  asked_in_range : (numbers : ℕ → List ℕ) (l : Letter) (request : Request)
      → MaySend (packets_in (starts_in after) after) numbers l (Asks request) → l.gateway < gateways
  asked_in_range numbers l (Sends is_plain octets) may = in_range may.1.at
  asked_in_range numbers l Tests may = in_range may.1
  asked_in_range numbers l (Orders order named) may = in_range may.2.at

  -- what a packet sends
  record IsPacketOf (packet : ℕ) : Type 0 where
    form : PacketForm
    good : GoodForm form
    numbered : packet_numbered node packet ≡ Full form (value_of form)
    ever_there : slice_get (forms_ever log) (packet - 1) ≡ Some form

  packet_of : (state : PacketState) (packet : ℕ) → state.number ≡ packet → Contains (packets_of after) state → IsPacketOf packet
  packet_of state packet number kept =
      let e = ever after in
      let found = numbered_in (length e.before) (packets_of after) (forms_of after) state e.numbered kept in
      let lengths : length (forms_of before) ≡ length (forms_of log) = ap length (appointed forms_of (λ gateway log. refl) to log) in
      let at : packet ≡ suc (length e.before + found.place) = omega (arith, found.number, number) in
      let index : packet - suc (submitted log - length (forms_of log)) ≡ found.place =
      omega (arith, at, e.count_is, lengths, appointed submitted (λ gateway log. refl) to log) in
      let all : slice_get (forms_ever log) (packet - 1) ≡ Some found.form =
      ap (λ (fs : List PacketForm). slice_get fs (packet - 1)) (sym (appointed forms_ever (λ gateway log. refl) to log))
      ∙ ever_at after e found.place found.form packet at found.there in
      let good = stands.rightly.forms found.form (get_contains (forms_ever log) (packet - 1) found.form all) in
      record {
        form = found.form;
        good = good;
        numbered =
            grind (arith, index, found.there, appointed forms_of (λ gateway log. refl) to log, packet_is found.form good.some);
        ever_there = all;
      }

  -- ---- what each sending says

  abbrev sent : Sending → Message
  sent s = message_of place log (outgoing node s)

  record SendingPlays (s : Sending) : Type 0 where
    said : Said (sent s)
    letter : speaks (sent s) ≡ true → Contains (asked_by (node_ip place) (starts_in before) values s) (letter_of (sent s))

  -- a request, which is asked of a gateway in range
  request_plays : (s : Sending) (port : Port) (gateway number : ℕ) (body : TransferValue) (request : Request) → Contains (due node) s
      → IsWritten (sent s).octets (wire number) (TransferRequest body) → FromNode (sent s) (wire number) (TransferRequest body)
      → meaning_in (about (sent s)) (TransferRequest body) ≡ Asks request
      → letter_of (sent s) ≡ did.letter_of (node_ip place) (starts_in log) (gateway_at (address_at (peers_of (addresses_from 0 gateways) log) gateway)) port number (meaning_of (sent s))
      → asked_by (node_ip place) (starts_in before) values s ≡ did.letter_of (node_ip place) (starts_in before) gateway port number (Asks request) ∷ []
      → SendingPlays s
  request_plays s port gateway number body request there w fits means is all = record {
    said = said_by_node (sent s) refl (record { started = stands.rightly.counts.one; path = wire number; message = TransferRequest body; written = w; fits = fits });
    letter = λ speaking. subst (Contains (asked_by (node_ip place) (starts_in before) values s)) (sym same) asked;
  }
    where
      letter : Letter
      letter = did.letter_of (node_ip place) (starts_in before) gateway port number (Asks request)

      asked : Contains (asked_by (node_ip place) (starts_in before) values s) letter
      asked = subst (λ (ls : List Letter). Contains ls letter) (sym all) (in_head letter [])

      same : letter_of (sent s) ≡ letter
      same =
          let range = asked_in_range values letter request (may values s letter there asked refl) in
          cc (is, gateway_is gateways log gateway range, appointed_starts to log, meaning_is back (sent s) (wire number) (TransferRequest body) w, means)

  -- a copy of a packet, plain or not
  abbrev copy_with : Bool → PacketForm → TransferValue
  copy_with is_plain form = transfer_of is_plain (Full form (value_of form))

  copy_says : (m : Message) (number : ℕ) (is_plain : Bool) (form : PacketForm) → GoodForm form → number ≡ m.number % 65536 → about m ≡ m.number
      → IsWritten (written number (TransferRequest (copy_with is_plain form))) number (TransferRequest (copy_with is_plain form))
      × FromNode m number (TransferRequest (copy_with is_plain form))
      × (meaning_in (about m) (TransferRequest (copy_with is_plain form)) ≡ Asks (Sends is_plain (value_of form)))
  copy_says m number true form good same own =
      let short = ap length (append-nil (value_of form)) in
      (record { is = refl; sendable = good.read; short = omega (arith, good.short, short) }, (same, good.values, own), refl)
  copy_says m number _ form good same own =
      let short = ap length (append-nil (value_of form)) in
      (record { is = refl; sendable = good.read; short = omega (arith, good.short, short) }, (same, good.values, own), refl)

  sending_plays : (s : Sending) → Contains (due node) s → SendingPlays s
  sending_plays (send.Probe gateway number) there =
      let m = sent (send.Probe gateway number) in
      let message = NodeAliveRequest (Some (big_bytes 4 (node_ip place))) in
      let w : IsWritten m.octets (wire number) message = record { is = refl; sendable = tt; short = omega arith } in
      record {
        said = said_by_node m refl (record { started = stands.rightly.counts.one; path = wire number; message = message; written = w; fits = tt });
        letter = λ speaking. absurd (false≢true (sym (ap is_spoken (meaning_is back m (wire number) message w)) ∙ speaking));
      }
  sending_plays (send.Data packet gateway number is_plain is_new) there =
      let s = send.Data packet gateway number is_plain is_new in
      let told = did.letter_of (node_ip place) (starts_in before) gateway First number (Asks (Sends is_plain (packet ∷ []))) in
      let copy = (may (λ n. n ∷ []) s told there (in_head told []) refl).1 in
      let same : copy.at.packet.number ≡ packet = ap (λ (ns : List ℕ). elim ns [ [] ↦ 0 | n ∷ rest ↦ n ]) copy.packet in
      let is = packet_of copy.at.packet packet same (present copy.at) in
      let says = copy_says (sent s) (wire number) is_plain is.form is.good refl refl in
      request_plays s First gateway number (copy_with is_plain is.form) (Sends is_plain (value_of is.form)) there
      (record {
        is = ap (λ (p : PacketValue). written (wire number) (TransferRequest (transfer_of is_plain p))) is.numbered;
        sendable = says.0.sendable;
        short = says.0.short;
      })
      says.1 says.2 refl
      (ap (λ (octets : List ℕ). did.letter_of (node_ip place) (starts_in before) gateway First number (Asks (Sends is_plain octets)) ∷ [])
      (are.each packet is.form is.ever_there ∙ value_octets_are is.form is.good.some))
  sending_plays (send.Test packet gateway number) there =
      request_plays (send.Test packet gateway number) Second gateway number (Possible Empty) Tests there
      (record { is = refl; sendable = tt; short = omega arith }) (refl, refl, refl) refl refl refl
  sending_plays (send.Command packet gateway named number order.Release is_new) there =
      request_plays (send.Command packet gateway named number order.Release is_new) Second gateway number (order_of order.Release named)
      (Orders order.Release named) there (record { is = refl; sendable = tt; short = omega arith }) (refl, refl, refl) refl refl refl
  sending_plays (send.Command packet gateway named number order.Cancel is_new) there =
      request_plays (send.Command packet gateway named number order.Cancel is_new) Second gateway number (order_of order.Cancel named)
      (Orders order.Cancel named) there (record { is = refl; sendable = tt; short = omega arith }) (refl, refl, refl) refl refl refl

  -- ---- the tick

  tick_rightly : NodeRightly gateways place (ticking gateways place log).log
  tick_rightly =
      after_call stands.rightly call.Tick
      (subst (λ (l : List LogEntry). starts_in l ≤ 255) (sym is_after)
      (omega (arith, starts_same (Ticked (due node)) before refl, appointed_starts to log, stands.rightly.few)))
      (λ form there.
      stands.rightly.forms form
      (subst (λ (fs : List PacketForm). Contains fs form) (appointed forms_ever (λ gateway log. refl) to log) (subst (λ (l : List LogEntry). Contains (forms_ever l) form) is_after there)))

  tick_plays : NodePlays (node_ip place) values scene (ticking gateways place log)
  tick_plays =
      let asked : List Letter = flat_map (asked_by (node_ip place) (starts_in before) values) (due node) in
      let all = are_sent (node_ip place) asked scene (λ l is.
      let there = of_flat_map (asked_by (node_ip place) (starts_in before) values) (due node) l is in
      asks (node_ip place) (starts_in before) values there.0 l there.2) in
      record {
        later = map sending_of asked;
        after = all.after;
        is = all.is;
        posts = all.posts;
        others = all.others;
        deeds =
            all.deeds ∙ ap (λ (ds : List Deed). ds ++ map sent_deed asked) (stands.deeds ∙ sym (appointed_deeds (node_ip place) values to log))
            ∙ ap (deeds_of (node_ip place) values) (sym is_after);
        letters = all.old;
        sends = λ m is speaking.
            let there = of_map sent (due node) m is in
            all.new (letter_of m) (in_flat (asked_by (node_ip place) (starts_in before) values) (due node) there.0 (letter_of m) there.1
            (subst (λ (k : Message). Contains (asked_by (node_ip place) (starts_in before) values there.0) (letter_of k)) there.2
            ((sending_plays there.0 there.1).letter (ap speaks there.2 ∙ speaking))));
        said = λ m is. let there = of_map sent (due node) m is in subst Said there.2 (sending_plays there.0 there.1).said;
      }

  pub tick_turns : NodePlays (node_ip place) values scene (ticking gateways place log) × NodeRightly gateways place (ticking gateways place log).log
  tick_turns = (tick_plays, tick_rightly)
