-- What a node of a world does is what happens in a scene: what it hears; what is submitted, a halt and a start are nothing there.
use Rattle.std.proofs.Common.{◌≡◌, ⊎_elim, ℕ, suc, ◌≤◌, ◌==◌, nat_lt, true, false, List, [], ◌∷◌, Option, Some, None, Contains, refl, sym, ap, subst, ◌∙◌, arith, ◌%◌, ◌||◌, not, Bool, if◌then◌else◌, ◌++◌, map, append-nil}
use Rattle.once_core.proofs.Names.{about, ACCEPTED, AliveTold, answering, Answers, answers_of, Appointed, appointing, both_ways, call_entries, Called, called, cond-false, Contains-push_cases, deeds_of, delivered_to_node, draft_of, Dropped, due, EchoAsked, EchoRequest, EchoResponse, EchoTold, entries_from, for_role, forms_ever, gateway_address, Halted, happened_all, Happening, Heard, heard_entries, Hears, heeding, heeds, heeds_from, is_expired_at_node, is_response, is_spoken, last_number, Letter, letter_of, log_after, log_of, LogEntry, logged, meaning_in, meaning_of, MessageValue, most_submissions, moved_at_tick, moved_by, nat_tests, nearest, node_ip, node_of, node_setup, node_value, NodeAliveResponse, NodeCall, NodeSetup, NodeValue, option_map_or, Other, PacketForm, Path, place_of, RedirectionRequest, RedirectionResponse, Redirects, refusal, Responds, RolesRead, runs, same_Some, Saying, saying_entries, Says, Scene, speaks, starts_in, submit_entries, SubmitFault, Submitted, submitting, submitting_form, Taken, taken, taken_entries, taken_of, Ticked, told_by, TRANSFER_RESPONSE, TransferRequest, TransferResponse, with_deed, written}
use Rattle.node_core.specs.Reached as call
use Rattle.gtpp_message.specs.Reading.{Message, ReadingValue}
use Rattle.gtpp_message.specs.declared.role.Role.TheVariants as role
use Rattle.once_core.proofs.FormLemmas.{GoodForm, RecordsSpelled, draft_is_good, submitted_is_draft}
use Rattle.once_core.proofs.ListLemmas.{in_none, in_one, number_of}
use Rattle.once_core.proofs.LogLemmas.{Counts, counts_logged, starts_again, starts_same, counter_is, place_is}
use Rattle.once_core.proofs.MeaningLemmas.{Said, FromGateway, FromNode, GatewaySaid, IsWritten, ReadsBack, meaning_is, role_read_of, said_by_node, type_of}
use Rattle.once_core.proofs.CaseLemmas.{by_option, if_both, if_known, map_known}
use Rattle.once_core.specs.Deeds as did
use Rattle.once_core.specs.Happenings as happens
use Rattle.once_core.specs.declared.message.Message as world
use Rattle.once_core.proofs.MoveLemmas.{at_same}

-- what holds of the log of each node: it is one of a node's calls, its starts are counted, and each packet can be sent
pub record NodeRightly (gateways place : ℕ) (log : List LogEntry) : Type 0 where
  pub calls : List NodeCall
  pub is : log ≡ log_of (node_setup gateways place) calls
  pub counts : Counts log
  pub few : starts_in log ≤ 255
  pub forms : (form : PacketForm) → Contains (forms_ever log) form → GoodForm form

-- the node stands in the scene as it is
pub record NodeStands (gateways place : ℕ) (values : ℕ → List ℕ) (scene : Scene) (log : List LogEntry) : Type 0 where
  pub rightly : NodeRightly gateways place log
  pub deeds : scene.deeds (node_ip place) ≡ deeds_of (node_ip place) values log

-- some happenings are what a node did, and what it sends is among the messages
pub record NodePlays (node : ℕ) (values : ℕ → List ℕ) (scene : Scene) (call : Called) : Type 0 where
  pub later : List Happening
  pub after : Scene
  pub is : happened_all scene later ≡ after
  pub posts : (gateway : ℕ) → after.posts gateway ≡ scene.posts gateway
  pub others : (other : ℕ) → (other == node) ≡ false → after.deeds other ≡ scene.deeds other
  pub deeds : after.deeds node ≡ deeds_of node values call.log
  pub letters : (l : Letter) → Contains scene.letters l → Contains after.letters l
  pub sends : (m : world.Message) → Contains call.sends m → speaks m ≡ true → Contains after.letters (letter_of m)
  pub said : (m : world.Message) → Contains call.sends m → Said m

-- nothing happens
pub quiet_node : {gateways place : ℕ} {values : ℕ → List ℕ} {scene : Scene} {log : List LogEntry} → NodeStands gateways place values scene log
    → (after : List LogEntry) (sends : List world.Message) → deeds_of (node_ip place) values after ≡ deeds_of (node_ip place) values log
    → ((m : world.Message) → Contains sends m → (speaks m ≡ false) × Said m) → NodePlays (node_ip place) values scene (record { log = after; sends = sends })
quiet_node {scene = scene} stands after sends same fine = record {
  later = [];
  after = scene;
  is = refl;
  posts = λ gateway. refl;
  others = λ other e. refl;
  deeds = stands.deeds ∙ sym same;
  letters = λ l is. is;
  sends = λ m is speaking. absurd (both_ways (speaks m) (fine m is).0 speaking);
  said = λ m is. (fine m is).1;
}

-- ---- appointments

pub appointed : {A : Type 0} (f : List LogEntry → A) → ((gateway : ℕ) (log : List LogEntry) → f (Appointed gateway ∷ log) ≡ f log)
    → (o : Option ℕ) (log : List LogEntry) → f (logged (appointing o) log) ≡ f log
appointed f same None log = refl
appointed f same (Some gateway) log = same gateway log

pub appointed_deeds : (node : ℕ) (values : ℕ → List ℕ) (o : Option ℕ) (log : List LogEntry) → deeds_of node values (logged (appointing o) log) ≡ deeds_of node values log
appointed_deeds node values = appointed (deeds_of node values) (λ gateway log. refl)

pub appointed_starts : (o : Option ℕ) (log : List LogEntry) → starts_in (logged (appointing o) log) ≡ starts_in log
appointed_starts = appointed starts_in (λ gateway log. starts_same (Appointed gateway) log refl)

-- ---- calls

-- the log behind a tick
abbrev pub behind_tick : NodeSetup → List LogEntry → List LogEntry
behind_tick setup log = Ticked (due (node_of setup log)) ∷ logged (appointing (moved_at_tick (node_of setup log))) log

pub tick_is : (setup : NodeSetup) (log : List LogEntry) → runs log ≡ true
    → logged (call_entries (node_of setup log) call.Tick) log ≡ behind_tick setup log
tick_is setup log running = grind arith

-- the log after a call
pub after_call : {gateways place : ℕ} {log : List LogEntry} → NodeRightly gateways place log → (call : NodeCall) → starts_in (log_after gateways place call log) ≤ 255
    → ((form : PacketForm) → Contains (forms_ever (log_after gateways place call log)) form → GoodForm form)
    → NodeRightly gateways place (log_after gateways place call log)
after_call {gateways} {place} {log} is call few forms = record {
  calls = call ∷ is.calls;
  is = ap (log_after gateways place call) is.is;
  counts = counts_logged (call_entries (node_value gateways place log) call) log is.counts;
  few = few;
  forms = forms;
}

-- a packet that is taken, or not
pub either : (gateways place : ℕ) (log : List LogEntry) → NodeRightly gateways place log → (P : List LogEntry → Type 0) (form : PacketForm) → P log → P (Submitted form ∷ log)
    → P (log_after gateways place (call.Submit form) log)
either gateways place log is P form none one =
    let node = node_value gateways place log in
    if_both (λ (entries : List LogEntry). P (logged entries log)) (runs log)
    (by_option (λ (o : Option SubmitFault). P (logged (submit_entries node o form) log)) (refusal node form)
    (λ free. if_both (λ (entries : List LogEntry). P (logged entries log)) (nat_lt node.submissions most_submissions) one none)
    (λ fault refused. none))
    none

module _ {gateways place : ℕ} {values : ℕ → List ℕ} {scene : Scene} {log : List LogEntry} (stands : NodeStands gateways place values scene log) where
  abbrev Turns : Called → Type 0
  Turns called = NodePlays (node_ip place) values scene called × NodeRightly gateways place called.log

  -- a log that tells gateways nothing more
  record Quietly (after : List LogEntry) : Type 0 where
    few : starts_in after ≤ 255
    forms : (form : PacketForm) → Contains (forms_ever after) form → GoodForm form
    deeds : deeds_of (node_ip place) values after ≡ deeds_of (node_ip place) values log

  same_log : Quietly log
  same_log = record { few = stands.rightly.few; forms = stands.rightly.forms; deeds = refl }

  quiet_turn : (call : NodeCall) → Quietly (log_after gateways place call log) → Turns (called gateways place call log)
  quiet_turn call quiet =
      (quiet_node stands (log_after gateways place call log) [] quiet.deeds (λ m there. in_none m there), after_call stands.rightly call quiet.few quiet.forms)

  pub submit_turns : RecordsSpelled → (octets : List ℕ) → Turns (submitting gateways place octets log)
  submit_turns law octets = by_option (λ (o : Option PacketForm). Turns (submitting_form gateways place o log)) (draft_of octets)
      (λ none. (quiet_node stands log [] refl (λ m there. in_none m there), stands.rightly))
      (λ form e. quiet_turn (call.Submit form) (either gateways place log stands.rightly Quietly form same_log (record {
        few = let same = starts_same (Submitted form) log refl in let few = stands.rightly.few in omega (arith, same, few);
        forms = λ f there. ⊎_elim (stands.rightly.forms f)
            (λ same. subst GoodForm same (draft_is_good law form (submitted_is_draft octets form e))) (Contains-push_cases (forms_ever log) form f there);
        deeds = refl;
      })))

  -- a halt, and a start of one that is halted
  pub halt_turns : Turns (called gateways place call.Halt log)
  halt_turns =
      let halted : Quietly (Halted ∷ log) = record {
        few = let same = starts_same Halted log refl in let few = stands.rightly.few in omega (arith, same, few);
        forms = stands.rightly.forms;
        deeds = refl;
      } in
      quiet_turn call.Halt (if_both (λ (entries : List LogEntry). Quietly (logged entries log)) (runs log) halted halted)

  pub start_turns : suc (starts_in log) ≤ 255 → Turns (called gateways place call.Start log)
  start_turns fewer = quiet_turn call.Start (if_both (λ (entries : List LogEntry). Quietly (logged entries log)) (runs log) same_log
      (record { few = let more = starts_again log in omega (arith, more, fewer); forms = stands.rightly.forms; deeds = refl }))

-- ---- what it hears

module _ (back : ReadsBack) (roles : RolesRead) (m : world.Message) (from : m.to_gateway ≡ false) (said : GatewaySaid m) {gateways : ℕ} {values : ℕ → List ℕ} {scene : Scene}
    {log : List LogEntry} (stands : NodeStands gateways m.node values scene log) (there : speaks m ≡ true → Contains scene.letters (letter_of m)) where
  abbrev value : NodeValue
  value = node_value gateways m.node log

  -- what is heard is one entry, with an appointment or not, or nothing
  hear_either : (P : List LogEntry → Type 0) → P log → ((p : ℕ) (saying : Saying) (o : Option ℕ) → P (logged (appointing o) (Heard m.port p saying ∷ log)))
      → P (log_after gateways m.node (call.Hear m.port (gateway_address m.gateway) m.octets) log)
  hear_either P none one =
      if_both (λ (entries : List LogEntry). P (logged entries log)) (runs log)
      (by_option (λ (o : Option ℕ). P (logged (entries_from value m.port o m.octets) log)) (place_of value.gateways (gateway_address m.gateway).ip)
      (λ e. none) (λ p e. by p (taken value p m.octets)))
      none
    where
      by : (p : ℕ) (t : Taken) → P (logged (taken_entries value m.port p t) log)
      by p (Dropped why) = none
      by p (Says saying reply) = one p saying (moved_by value m.port p saying)

  hear_rightly : NodeRightly gateways m.node (delivered_to_node gateways m.node m log).log
  hear_rightly =
      if_both (λ (c : Called). NodeRightly gateways m.node c.log) (not (runs log) || is_expired_at_node log value m) stands.rightly
      (after_call stands.rightly (call.Hear m.port (gateway_address m.gateway) m.octets)
      (hear_either (λ l. starts_in l ≤ 255) stands.rightly.few (λ p saying o.
      omega (arith, appointed_starts o (Heard m.port p saying ∷ log), starts_same (Heard m.port p saying) log refl, stands.rightly.few)))
      (hear_either (λ l. (form : PacketForm) → Contains (forms_ever l) form → GoodForm form) stands.rightly.forms (λ p saying o form is.
      stands.rightly.forms form (subst (λ (fs : List PacketForm). Contains fs form) (appointed forms_ever (λ gateway log. refl) o (Heard m.port p saying ∷ log)) is))))

  -- ---- what is heard

  -- the log and the messages by what was taken
  abbrev taking : Taken → Called
  taking t = record { log = logged (taken_entries value m.port m.gateway t) log; sends = answers_of m (heeding value m.port m.gateway t) }

  abbrev Plays : Called → Type 0
  Plays c = NodePlays (node_ip m.node) values scene c

  -- a message that says nothing here
  abbrev Silent : world.Message → Type 0
  Silent k = (speaks k ≡ false) × Said k

  nothing_plays : Plays (record { log = log; sends = [] })
  nothing_plays = quiet_node stands log [] refl (λ k is. in_none k is)

  -- something that tells of no copy
  quiet_plays : (saying : Saying) (reply : Option (List ℕ)) → told_by (node_ip m.node) (starts_in log) m.port m.gateway saying ≡ []
      → ((octets : List ℕ) → reply ≡ Some octets → Silent (answering m octets)) → Plays (taking (Says saying reply))
  quiet_plays saying reply none fine =
      quiet_node stands (logged (saying_entries value m.port m.gateway saying) log) (option_map_or (λ octets. answering m octets ∷ []) reply [])
      (appointed_deeds (node_ip m.node) values (moved_by value m.port m.gateway saying) (Heard m.port m.gateway saying ∷ log)
      ∙ ap (λ (ls : List Letter). deeds_of (node_ip m.node) values log ++ map (λ l. happens.Heard l) ls) none
      ∙ append-nil (deeds_of (node_ip m.node) values log))
      (map_known (λ (sends : List world.Message). (k : world.Message) → Contains sends k → Silent k) reply (λ e k is. in_none k is)
      (λ octets e k is. subst Silent (in_one (answering m octets) k is) (fine octets e)))

  module _ (start : m.start ≡ starts_in log) where
    -- a reply of a node that is no request
    reply_fine : (number : ℕ) (message : MessageValue) → IsWritten (written number message) number message → FromNode (answering m (written number message)) number message
        → is_spoken (meaning_in (about (answering m (written number message))) message) ≡ false
        → (octets : List ℕ) → Some (written number message) ≡ Some octets → Silent (answering m octets)
    reply_fine number message w fits silent octets e =
        let one = stands.rightly.counts.one in
        subst (λ (x : List ℕ). Silent (answering m x)) (same_Some (written number message) octets e) (
          ap is_spoken (meaning_is back (answering m (written number message)) number message w) ∙ silent,
          said_by_node (answering m (written number message)) (ap not from)
              (record { started = omega (arith, one, start); path = number; message = message; written = w; fits = fits }),
        )

    none_fine : (octets : List ℕ) → None ≡ Some octets → Silent (answering m octets)
    none_fine octets e = absurd (cc)

    counter : value.paths.counter ≡ m.start
    counter = let is = stands.rightly.counts.counter stands.rightly.few in let path = counter_is 1 log in omega (arith, is, path, start)

    -- the number for which that of an answer is taken
    abbrev number : ℕ
    number = nearest (Some (last_number value.gateways m.gateway)) (m.number % 65536)

    answer_plays : (cause : ℕ) → meaning_of m ≡ Answers cause → number ≡ m.number → Plays (taking (Says (Responds cause (number ∷ [])) None))
    answer_plays cause means same =
        let kept = number_of scene.letters (letter_of m) (there (ap is_spoken means)) in
        let letter_is : letter_of m ≡ did.letter_of (node_ip m.node) (starts_in log) m.gateway m.port number (Answers cause) =
        λ i. did.letter_of (node_ip m.node) (start i) m.gateway m.port (sym same i) (means i) in
        record {
          later = Hears kept.0 ∷ [];
          after = with_deed (node_ip m.node) (happens.Heard (letter_of m)) scene;
          is =
              grind (arith, kept.1, means);
          posts = λ gateway. refl;
          others = λ other apart. cond-false (other == node_ip m.node) (scene.deeds (node_ip m.node) ++ happens.Heard (letter_of m) ∷ []) (scene.deeds other) apart;
          deeds =
              let here = at_same (node_ip m.node) (scene.deeds (node_ip m.node) ++ happens.Heard (letter_of m) ∷ []) scene.deeds in
              let saying = Responds cause (number ∷ []) in
              let same = appointed_deeds (node_ip m.node) values (moved_by value m.port m.gateway saying) (Heard m.port m.gateway saying ∷ log) in
              grind (arith, here, stands.deeds, letter_is, same);
          letters = λ l is. is;
          sends = λ k is speaking. in_none k is;
          said = λ k is. in_none k is;
        }

    abbrev read : MessageValue → Called
    read message = taking (taken_of value.paths.counter (last_number value.gateways m.gateway) (for_role role.Node (Message said.path message)))

    message_plays : (message : MessageValue) → IsWritten m.octets said.path message → FromGateway m said.path message
        → (is_response m ≡ true → number ≡ m.number) → Plays (read message)
    message_plays (TransferResponse cause responded) w fits near =
        subst (λ (ns : List ℕ). Plays (read (TransferResponse cause ns))) (sym fits.1)
        (answer_plays cause (meaning_is back m said.path (TransferResponse cause responded) w)
        (near (ap (λ (o : Option ℕ). option_map_or (λ k. k == TRANSFER_RESPONSE) o false) (type_of m.octets said.path (TransferResponse cause responded) w.is))))
    message_plays (RedirectionRequest cause to) w fits near = quiet_plays (Redirects to) (Some (written said.path (RedirectionResponse ACCEPTED))) refl
        (reply_fine said.path (RedirectionResponse ACCEPTED) (record { is = refl; sendable = tt; short = omega arith }) tt refl)
    message_plays (RedirectionResponse cause) w fits near = quiet_plays Other None refl none_fine
    message_plays EchoRequest w fits near = quiet_plays (Path (EchoAsked said.path)) (Some (written said.path (EchoResponse value.paths.counter))) refl
        (reply_fine said.path (EchoResponse value.paths.counter) (record { is = refl; sendable = tt; short = omega arith }) counter refl)
    message_plays (EchoResponse told) w fits near = quiet_plays (Path (EchoTold said.path told)) None refl none_fine
    message_plays NodeAliveResponse w fits near = quiet_plays (Path (AliveTold said.path)) None refl none_fine
    message_plays (TransferRequest body) w fits near = absurd fits
    message_plays _ w fits near = nothing_plays

  abbrev heard_from : Option ℕ → Called
  heard_from o = record { log = logged (entries_from value m.port o m.octets) log; sends = answers_of m (heeds_from value m.port o m.octets) }

  hear_plays : Plays (delivered_to_node gateways m.node m log)
  hear_plays = if_known Plays (not (runs log) || is_expired_at_node log value m) (λ deaf. nothing_plays) (λ isnt.
      let up : runs log ≡ true = grind (arith, isnt) in
      let begun : m.start ≡ starts_in log = grind (arith, nat_tests, isnt) in
      let near : is_response m ≡ true → nearest (Some (last_number value.gateways m.gateway)) (m.number % 65536) ≡ m.number =
      grind (arith, nat_tests, isnt) in
      subst (λ (b : Bool). Plays (record {
        log = logged (if b then heard_entries value m.port (gateway_address m.gateway) m.octets else []) log;
        sends = answers_of m (heeds value m.port (gateway_address m.gateway) m.octets);
      })) (sym up)
      (by_option (λ (o : Option ℕ). Plays (heard_from o)) (place_of value.gateways (gateway_address m.gateway).ip) (λ e. nothing_plays) (λ p e.
      subst (λ (q : ℕ). Plays (heard_from (Some q))) (sym (place_is gateways log m.gateway p e))
      (subst (λ (r : ReadingValue). Plays (taking (taken_of value.paths.counter (last_number value.gateways m.gateway) r)))
      (sym (role_read_of back roles role.Node m.octets said.path said.message said.written))
      (message_plays begun said.message said.written said.fits near)))))

  pub hear_turns : NodePlays (node_ip m.node) values scene (delivered_to_node gateways m.node m log) × NodeRightly gateways m.node (delivered_to_node gateways m.node m log).log
  hear_turns = (hear_plays, hear_rightly)
