-- What a tick and a packet that is submitted make of a replay.
use Rattle.std.proofs.Common.{◌≡◌, ℕ, zero, suc, ◌+◌, ◌<◌, ◌≤◌, List, [], ◌∷◌, map, Option, Some, refl, ap, ◌∙◌, arith, sym, ◌-◌, true, length, set, None, append-nil, ◌≢◌, drop, get_or, Err, drop-cons, subst, false, if◌then◌else◌, ◌++◌, Ok, append_assoc}
use Rattle.replay_world.proofs.Names.{addition_fault, addition_fault_of, Addr, address_at, addresses_from, after_step, all_drawn, Appointed, at_node, at_place, befallen, befell, Called, called, CanFollowAll, CountsStarts, Does, DoesAll, draft_of, drafted, DraftFault, drawn, due, ends_line, entries_halted, entries_running, gateway_at, HasSent, Heard, is_draft, is_without_records, IsPacket, log_at, log_in, LogEntry, logged, Message, message_kept, message_of, most_submissions, nat_lt, nat_tests, no_running_node, node_value, NodeValue, Notice, notice_line, notice_lines, notices_last, option_map_or, packet_anew, packet_of, packet_of_form, PacketForm, peer_anew, peers_of, Plays, Refused, Replay, ReplayValue, runs, slice_get, slice_get-map, slice_set, Stands, starts_in, step_notices, Submit, submit_entries, submit_fault_name, submit_notices, Submitted, submitted_notice, submitted_notices, submitting, takes_all, Tells, tick_entries, Ticked, ticking, Took, unless_fault, unless_refused, value_octets, with_records, World}
use Rattle.node_core.specs.Octets.{gateway_of, outgoing}
use Rattle.node_core.specs.declared.peer.Peer.{Peer}
use Rattle.node_core.specs.declared.sending.Sending.{Sending}
use Rattle.once_core.specs.declared.event.Event.TheVariants as event
use Rattle.replay_world.proofs.NodeEventLemmas.{NodeLaw, does_node, log_there, none_both, plain_tick, does_nothing, drop_all, set_same}
use Rattle.replay_world.proofs.NodeStepLemmas.{IsAtNode, counter_is, counts_plain, follow_all}
use Rattle.replay_world.proofs.RefusalLemmas.{NodeAt, node_at}
use Rattle.gtpp_message.specs.PacketWriting.{with_record}
use Rattle.node_core.specs.declared.fault.DraftFault.TheVariants.{NoMemory}
use Rattle.node_core.specs.Submitting.{refusal}
use Rattle.node_core.specs.declared.fault.SubmitFault.{SubmitFault}
use Rattle.replay_world.proofs.StepsLemmas.{sent_none}

-- The messages of a tick go to the gateways of the network, whose places an octet holds.

-- The addresses of a node's gateways stay.

abbrev addresses : List Peer → List Addr
addresses peers = map (λ (p : Peer). p.address) peers

the_same : (p : Peer) {old : _} → Some p ≡ Some old → p.address ≡ old.address
the_same p {old} is = let e : p ≡ old = cc in cc

peer_same : (peers : List Peer) (k : ℕ) (old new : Peer) → slice_get peers k ≡ Some old → new.address ≡ old.address → addresses (slice_set peers k new) ≡ addresses peers
peer_same [] k old new is same = refl
peer_same (p ∷ peers) zero old new is same = cc (the_same p is)
peer_same (p ∷ peers) (suc k) old new is same = cc (peer_same peers k old new is same)

at_place_same : (f : Peer → Peer) → ((p : Peer) → (f p).address ≡ p.address) → (k : ℕ) (peers : List Peer) → addresses (at_place k f peers) ≡ addresses peers
at_place_same f same k peers = grind (arith, peer_same)

drawn_same : (s : Sending) (peers : List Peer) → addresses (drawn s peers) ≡ addresses peers
drawn_same s peers = grind (arith, at_place_same)

all_drawn_same : (ss : List Sending) (peers : List Peer) → addresses (all_drawn ss peers) ≡ addresses peers
all_drawn_same [] peers = refl
all_drawn_same (s ∷ ss) peers = all_drawn_same ss (drawn s peers) ∙ drawn_same s peers

anew_same : (gateways : List Addr) → addresses (map peer_anew gateways) ≡ gateways
anew_same [] = refl
anew_same (a ∷ gateways) = cc (anew_same gateways)

peers_same : (gateways : List Addr) (log : List LogEntry) → addresses (peers_of gateways log) ≡ gateways
peers_same gateways (Submitted form ∷ log) = peers_same gateways log
peers_same gateways (Appointed gateway ∷ log) = peers_same gateways log
peers_same gateways (Ticked sendings ∷ log) = all_drawn_same sendings (peers_of gateways log) ∙ peers_same gateways log
peers_same gateways (Heard port gateway saying ∷ log) = peers_same gateways log
peers_same gateways _ = anew_same _

-- They are near.

abbrev nowhere : Addr
nowhere = record { ip = 0; port = 0 }

abbrev or_nowhere : Option Addr → Addr
or_nowhere o = option_map_or (λ (a : Addr). a) o nowhere

near_from : (first count k : ℕ) → first + count ≤ 256 → gateway_at (or_nowhere (slice_get (addresses_from first count) k)) < 256
near_from first zero k few = grind arith
near_from first (suc count) zero few = omega arith
near_from first (suc count) (suc k) few = near_from (suc first) count k (omega arith)

address_is : (peers : List Peer) (k : ℕ) → address_at peers k ≡ or_nowhere (slice_get (addresses peers) k)
address_is peers k = grind (arith, slice_get-map)

near : (gateways k : ℕ) (log : List LogEntry) → gateways ≤ 256 → gateway_at (address_at (peers_of (addresses_from 0 gateways) log) k) < 256
near gateways k log few =
    let is : address_at (peers_of (addresses_from 0 gateways) log) k
    ≡ or_nowhere (slice_get (addresses_from 0 gateways) k) =
    address_is (peers_of (addresses_from 0 gateways) log) k
    ∙ ap (λ all. or_nowhere (slice_get all k)) (peers_same (addresses_from 0 gateways) log) in
    rw is (near_from 0 gateways k (omega arith))

-- So the place of the gateway that a message goes to is said by an octet.
module _ (gateways place : ℕ) (few : gateways ≤ 255) (log : List LogEntry) where
  same_message : (s : Sending) → message_kept place (starts_in log) (outgoing (node_value gateways place log) s)
      ≡ message_of place log (outgoing (node_value gateways place log) s)
  same_message s =
      ap (λ g. record (message_of place log (outgoing (node_value gateways place log) s)) { gateway = g })
      (omega (arith, (near gateways (gateway_of s) log (omega arith)), near gateways (gateway_of s) log (omega arith)))

  pub same_messages : (ss : List Sending) →
      map (message_kept place (starts_in log)) (map (outgoing (node_value gateways place log)) ss)
      ≡ map (λ s. message_of place log (outgoing (node_value gateways place log) s)) ss
  same_messages [] = refl
  same_messages (s ∷ ss) = λ i. same_message s i ∷ same_messages ss i

-- What a tick makes of a replay, and a node that runs.

-- the log of a node that is called has a node that runs
pub running_log : (v : ReplayValue) (number place : ℕ) (n : NodeValue) → number - 1 ≡ place →
    no_running_node v.world number ≡ None → (there : NodeAt v place n) → runs there.log ≡ true
running_log v number place n is none there =
    let log_is : log_in v.world number ≡ there.log = ap (log_at v.world) is ∙ log_there v.world _ there.has_log in
    sym (ap runs log_is) ∙ none_both _ _ none

pub node_running : (v : ReplayValue) (number place : ℕ) (n : NodeValue) (old : Replay) → Stands v old →
    number - 1 ≡ place → no_running_node v.world number ≡ None → slice_get old.nodes.items place ≡ Some n →
    n.is_running ≡ true
node_running v number place n old stands is none has =
    let there = node_at v old stands _ has in
    cc (there.is, running_log v _ _ n is none there)

pub ticked : NodeLaw → (v : ReplayValue) (number place : ℕ) (n : NodeValue) (messages : List Message)
    (before after : List ℕ) (old mid new : Replay) → Stands v old →
    number - 1 ≡ place → no_running_node v.world number ≡ None → slice_get old.nodes.items place ≡ Some n →
    mid ≡ record old { nodes = mid.nodes } →
    mid.nodes.items ≡ set old.nodes.items place (befallen (tick_entries n) n) →
    messages ≡ map (message_kept place n.paths.counter) (map (outgoing n) (due n)) →
    HasSent messages before after mid new → Does v (Plays (event.Tick number)) before after new
ticked law v number place n messages before after old mid new stands is none has rest nodes told sends =
    let there : NodeAt v place n = node_at v old stands place {n = n} has in
    let gateways : ℕ = length v.world.gateways in
    let log : List LogEntry = there.log in
    let value : NodeValue = node_value gateways place log in
    let sends_are : messages ≡ (ticking gateways place log).sends =
    told ∙ ap (λ (m : NodeValue). map (message_kept place m.paths.counter) (map (outgoing m) (due m))) there.is
    ∙ ap (λ (k : ℕ). map (message_kept place k) (map (outgoing value) (due value)))
    (counter_is gateways place {log = log} there.counts)
    ∙ same_messages gateways place stands.few_gateways log (due value) in
    let log_is : (ticking gateways place log).log ≡ logged (tick_entries n) log =
    cc (running_log v number place n is none there, there.is) in
    let here : IsAtNode v (event.Tick number) place log (ticking gateways place) =
    assumption (ap (λ (k : ℕ). at_node v.world k (ticking gateways k)) is) in
    does_node law v (event.Tick number) place n there (ticking gateways place) (tick_entries n) here log_is
    (follow_all (tick_entries n) log (plain_tick n))
    (counts_plain (tick_entries n) {log = log} (plain_tick n) there.counts) before after after old mid new stands rest
    nodes (rw sends_are at sends) (sym (append-nil after))

-- Records that a draft takes, one after the other.

left_is : (rs : List (List ℕ)) (k : ℕ) {r : _} → k < length rs → r ≡ get_or rs k r → drop k rs ≡ r ∷ drop (suc k) rs
left_is rs k {r} less is = cc (drop-cons rs k r less)

pub more_taken : (form : PacketForm) (rs : List (List ℕ)) (k : ℕ) (r : List ℕ) → k < length rs → r ≡ get_or rs k r →
    addition_fault form r ≡ None → with_records form (drop k rs) ≡ with_records (with_record form r) (drop (k + 1) rs)
more_taken form rs k r less is none =
    let next : suc k ≡ k + 1 = omega arith in
    cc (left_is rs k less is)

pub fault_is : (fault : DraftFault) → fault ≢ NoMemory → addition_fault_of fault ≡ Some fault
fault_is fault not = grind arith

pub fault_taken : (form : PacketForm) (rs : List (List ℕ)) (k : ℕ) (r : List ℕ) (fault : DraftFault) → k < length rs →
    r ≡ get_or rs k r → addition_fault_of fault ≡ addition_fault form r → fault ≢ NoMemory →
    with_records form (drop k rs) ≡ Err fault
fault_taken form rs k r fault less is told not = cc (left_is rs k less is, fault_is fault not)

-- What a packet that is submitted makes of a replay.

-- The packet.

-- what records make of a draft that takes them
pub record Takes (form : PacketForm) (records : List (List ℕ)) (out : PacketForm) : Type 0 where
  pub takes : takes_all form records ≡ true
  pub format : out.format ≡ form.format
  pub version : out.version ≡ form.version
  pub all : out.records ≡ form.records ++ records

takes_records : (form : PacketForm) (records : List (List ℕ)) (out : PacketForm) →
    with_records form records ≡ Ok out → Takes form records out
takes_records form [] out is =
    let same : form ≡ out = cc in
    record { takes = refl; format = cc; version = cc; all = cc (append-nil form.records) }
takes_records form (octets ∷ records) out is =
    by (addition_fault form octets) refl is (takes_records (with_record form octets) records out)
  where
    by : (o : Option DraftFault) → addition_fault form octets ≡ o →
        unless_fault o (with_records (with_record form octets) records) ≡ Ok out →
        (with_records (with_record form octets) records ≡ Ok out → Takes (with_record form octets) records out) →
        Takes form (octets ∷ records) out
    by None e is taken =
        let later : Takes (with_record form octets) records out = taken is in
        record {
          takes = cc later.takes;
          format = later.format;
          version = later.version;
          all = later.all ∙ append_assoc form.records (octets ∷ []) records;
        }
    by (Some fault) e is taken = cc

-- a draft that took these records, of which there are some, is a packet that is read back
pub draft_read : (format version : ℕ) (records : List (List ℕ)) {out : _} → drafted format version records ≡ Ok out →
    is_without_records out ≡ false → IsPacket (packet_of_form out) → draft_of (value_octets out) ≡ Some out
draft_read format version records {out} is some whole = by out.records refl
  where
    taken : Takes (packet_anew format version) records out
    taken = takes_records _ _ out is

    takes_own : takes_all (packet_anew out.format out.version) out.records ≡ true
    takes_own = cc (taken.format, taken.version, taken.all, taken.takes)

    is_one : is_draft out ≡ true
    is_one = cc takes_own

    by : (rs : List (List ℕ)) → out.records ≡ rs → draft_of (value_octets out) ≡ Some out
    by [] e = cc
    by (r ∷ rs) e =
        let read : packet_of (value_octets out) ≡ Some out =
        subst (λ (f : PacketForm). IsPacket (packet_of_form f) → packet_of (value_octets f) ≡ Some f)
        (λ i. record { format = out.format; version = out.version; records = sym e i })
        (λ (w : IsPacket (packet_of_form (record out { records = r ∷ rs }))). w) whole in
        cc is_one

-- Steps.

-- one step that doesn't end the line
pub one_step : {v step before after r : _} → ends_line v step ≡ false →
    Does v step before after r → DoesAll v (step ∷ []) before after r true
one_step {v} {step} goes does = record {
  makes = record { stands = rw goes does.stands; prints = cc (does.prints, append-nil (step_notices v step)) };
  goes = cc;
}

-- what prints nothing prints nothing behind a text
pub does_behind : {v step : _} (text : List ℕ) {r : _} → Does v step [] [] r → Does v step text text r
does_behind text done = record { stands = done.stands; prints = cc (append-nil text, done.prints) }

-- a step that only tells something changes nothing
tells_only : (v : ReplayValue) (notice : Notice) → after_step v (Tells notice) ≡ v
tells_only v notice =
    let waits : (after_step v (Tells notice)).waiting ≡ v.waiting =
    cc (drop_all v.world.messages, append-nil v.waiting) in
    λ i. record { setup = v.setup; world = v.world; machines = v.machines; waiting = waits i }

pub does_tell : {v : _} (notice : Notice) (before : List ℕ) {after r : _} → Stands v r →
    after ≡ before ++ notice_line notice → Does v (Tells notice) before after r
does_tell {v} notice before stands tells = record {
  stands = rw (tells_only v notice) stands;
  prints = cc (append-nil (notice_line notice));
}

-- A packet that is submitted to a node that runs.

module _ (v : ReplayValue) (number place : ℕ) (n : NodeValue) (old : Replay) (stands : Stands v old)
    (is : number - 1 ≡ place) (none : no_running_node v.world number ≡ None) (has : slice_get old.nodes.items place ≡ Some n)
    (form : PacketForm) (octets : List ℕ) (read : draft_of octets ≡ Some form) where
  there : NodeAt v place n
  there = node_at v old stands _ has

  abbrev gateways : ℕ
  gateways = length v.world.gateways

  here : IsAtNode v (event.Submit number octets) place there.log (submitting gateways place octets)
  here = record { no_site = refl; machines = refl; has_log = there.has_log; allowed = none; moves = cc }

  call_is : submitting gateways place octets there.log ≡ called gateways place (Submit form) there.log
  call_is = cc

  log_is : (submitting gateways place octets there.log).log ≡ logged (submit_entries n (refusal n form) form) there.log
  log_is =
      ap (λ (c : Called). c.log) call_is
      ∙ ap (λ b. logged (if b then entries_running (node_value gateways place there.log) (Submit form)
      else entries_halted (Submit form)) there.log) (running_log v number place n is none there)
      ∙ ap (λ k. logged (submit_entries k (refusal k form) form) there.log) (sym there.is)

  sends_are : [] ≡ (submitting gateways place octets there.log).sends
  sends_are = cc call_is

  last_is : notices_last v (event.Submit number octets) ≡ submitted_notices place n (refusal n form)
  last_is = cc (log_there v.world _ there.has_log, there.is)

  -- these entries befell the node, and this is told of it
  follows_by : NodeLaw → (entries : List LogEntry) (before : List ℕ) {told : _} (new : Replay) →
      submit_entries n (refusal n form) form ≡ entries → CanFollowAll entries there.log →
      CountsStarts (logged entries there.log) → new ≡ record old { nodes = new.nodes } →
      new.nodes.items ≡ set old.nodes.items place (befallen entries n) →
      told ≡ before ++ notice_lines (submitted_notices place n (refusal n form)) →
      Does v (Plays (event.Submit number octets)) before told new
  follows_by law entries before new entries_are follow counts rest nodes tells =
      does_node law v _ _ n there _ _ here (log_is ∙ ap (λ es. logged es there.log) entries_are) follow counts _ _ _ old
      new new stands rest nodes (rw sends_are at (sent_none before new))
      (tells ∙ ap (λ ns. before ++ notice_lines ns) (sym last_is))

  -- what is told, on this side of the most packets
  told_by : (before : List ℕ) {b : _} → nat_lt n.submissions most_submissions ≡ b →
      before ++ notice_lines (if b then submitted_notice place n (refusal n form) ∷ [] else [])
      ≡ before ++ notice_lines (submitted_notices place n (refusal n form))
  told_by before side = cc

  told_below : (before : List ℕ) → nat_lt n.submissions most_submissions ≡ true →
      before ++ notice_lines (submitted_notice place n (refusal n form) ∷ [])
      ≡ before ++ notice_lines (submitted_notices place n (refusal n form))
  told_below before few = told_by _ few

  pub submitted : NodeLaw → (before : List ℕ) {told : _} (new : Replay) → refusal n form ≡ None →
      nat_lt n.submissions most_submissions ≡ true → new ≡ record old { nodes = new.nodes } →
      new.nodes.items ≡ set old.nodes.items place (befell (Submitted form) n) →
      told ≡ before ++ notice_line (Took place (suc n.submissions)) →
      Does v (Plays (event.Submit number octets)) before told new
  submitted law before {told} new taken few rest nodes tells =
      follows_by law (Submitted form ∷ []) before {told = told} new (cc) (tt, tt)
      (counts_plain (Submitted form ∷ []) {log = there.log} refl there.counts) rest nodes
      (cc (append-nil (notice_line (Took place (suc n.submissions))), told_below before few))

  pub refused : NodeLaw → (before : List ℕ) {told : _} (new : Replay) {fault : _} → refusal n form ≡ Some fault →
      nat_lt n.submissions most_submissions ≡ true → new ≡ record old { nodes = new.nodes } →
      new.nodes.items ≡ set old.nodes.items place n → told ≡ before ++ notice_line (Refused (submit_fault_name fault)) →
      Does v (Plays (event.Submit number octets)) before told new
  refused law before new {fault} is_refused few rest nodes tells =
      follows_by law [] _ new (cc) tt there.counts rest nodes
      (tells ∙ ap (λ text. before ++ text) (sym (append-nil (notice_line (Refused (submit_fault_name fault)))))
      ∙ ap (λ o. before ++ notice_lines (submitted_notice place n o ∷ [])) (sym is_refused) ∙ told_below before few)

  -- past the most packets none is taken
  pub full : NodeLaw → (before : List ℕ) → nat_lt n.submissions most_submissions ≡ false →
      Does v (Plays (event.Submit number octets)) before before old
  full law before all =
      follows_by law [] _ old (nothing (refusal n form)) tt there.counts refl (sym (set_same _ _ has))
      (sym (append-nil before) ∙ told_by before all)
    where
      nothing : (o : Option SubmitFault) → submit_entries n o form ≡ []
      nothing None = cc
      nothing (Some fault) = refl

-- A draft without records is no packet, and does nothing.

octets_none : (form : PacketForm) → is_without_records form ≡ true → draft_of (value_octets form) ≡ None
octets_none form none = grind (arith, nat_tests)

same_log : (w : World) (k gateways : ℕ) (octets : List ℕ) → draft_of octets ≡ None →
    at_node w k (submitting gateways k octets) ≡ w
same_log w k gateways octets none = grind (arith, append-nil, set_same)

pub emptied : (v : ReplayValue) (number : ℕ) (form : PacketForm) (before : List ℕ) {old : _} → Stands v old →
    no_running_node v.world number ≡ None → is_without_records form ≡ true →
    Does v (Plays (event.Submit number (value_octets form))) before before old
emptied v number form before stands none empty =
    let octets = value_octets form in
    let no_draft = octets_none _ empty in
    does_nothing v _ refl refl
    (ap
    (λ o. unless_refused o v.world
    (at_node v.world (number - 1) (submitting (length v.world.gateways) (number - 1) octets))) none
    ∙ same_log v.world (number - 1) (length v.world.gateways) octets no_draft) _ stands
    (sym (append-nil before) ∙ ap (λ o. before ++ notice_lines (submit_notices v (number - 1) o)) (sym no_draft))
