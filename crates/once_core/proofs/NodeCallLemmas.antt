-- What is kept of a node moves as its log grows, and the messages of a tick go to the gateways of the world.
use Rattle.std.proofs.Common.{◌≡◌, ℕ, ◌+◌, ◌≤◌, Bool, true, false, not, if◌then◌else◌, List, [], ◌∷◌, Option, refl, ap, sym, ◌∙◌, arith, true≢false, ◌<◌, map, subst, ⊎_elim}
use Rattle.once_core.proofs.Names.{Addr, address_at, addresses_from, answered_by, befallen, Began, begins, call_entries, Called, called, CanFollowAll, cases_lt, delivered_to_node, draft_of, due, due_messages, entries_halted, entries_running, gateway_address, gateway_at, gateway_of, Halt, Halted, Hear, heard_by, heard_entries, IsNode, list_all, LogEntry, logged, Message, message_kept, message_of, node_kept, node_setup, node_value, NodeCall, NodeKept, NodeSetup, NodeValue, option_map_or, outgoing, PacketForm, Peer, peers_of, Port, refusal, runs, Sending, slice_get_past, Start, started_again, starts_in, Submit, submit_entries, SubmitFault, submitted_entries, submitting, submitting_form, Tick, tick_entries, ticking, with_entries}
use Rattle.once_core.proofs.LogLemmas.{starts_again, gateway_is, size}
use Rattle.once_core.proofs.CaseLemmas.{by_option}
use Rattle.once_core.proofs.RedirectLemmas.{same_byte}

-- what node_core says of logs
abbrev pub NodeLaw : Type 0
NodeLaw = (setup : NodeSetup) (entries log : List LogEntry) (node : NodeValue) → CanFollowAll entries log →
    IsNode setup log node → IsNode setup (logged entries log) (befallen entries node)

-- ---- entries that begin no start

abbrev are_plain : List LogEntry → Bool
are_plain entries = list_all (λ e. not (begins e)) entries

follow_all : (entries log : List LogEntry) → are_plain entries ≡ true → CanFollowAll entries log
follow_all [] log p = tt
follow_all (Began ∷ es) log p = absurd (true≢false (sym p))
follow_all (entry ∷ es) log p = (tt, follow_all es (entry ∷ log) p)

starts_stay : (entries log : List LogEntry) → are_plain entries ≡ true → starts_in (logged entries log) ≡ starts_in log
starts_stay [] log p = refl
starts_stay (Began ∷ es) log p = absurd (true≢false (sym p))
starts_stay (entry ∷ es) log p = starts_stay es (entry ∷ log) p

pub plain_tick : (node : NodeValue) → are_plain (tick_entries node) ≡ true
plain_tick node = grind arith

plain_heard : (node : NodeValue) (port : Port) (from : Addr) (octets : List ℕ) → are_plain (heard_entries node port from octets) ≡ true
plain_heard node port from octets = grind arith

plain_submitted : (node : NodeValue) (fault : Option SubmitFault) (form : PacketForm) → are_plain (submit_entries node fault form) ≡ true
plain_submitted node fault form = grind arith

-- ---- calls

-- the messages of a call that sends none
abbrev pub nothing : NodeKept → List Message
nothing n = []

-- what is kept of a node of a log moves as the log that a call leaves, and the messages are those of the call
pub record CallsKept (gateways place : ℕ) (call : List LogEntry → Called) (move : NodeKept → NodeKept) (sends : NodeKept → List Message) (log : List LogEntry) : Type 0 where
  pub node : move (node_kept gateways place log) ≡ node_kept gateways place (call log).log
  pub sent : sends (node_kept gateways place log) ≡ (call log).sends

module _ (law : NodeLaw) (gateways place : ℕ) where
  abbrev value : List LogEntry → NodeValue
  value log = node_value gateways place log

  kept_with : (entries log : List LogEntry) → are_plain entries ≡ true → with_entries entries (node_kept gateways place log) ≡ node_kept gateways place (logged entries log)
  kept_with entries log plain =
      let node : befallen entries (value log) ≡ value (logged entries log) = law (node_setup gateways place) entries log (value log) (follow_all entries log plain) refl in
      let starts : starts_in log ≡ starts_in (logged entries log) = sym (starts_stay entries log plain) in
      λ i. record { node = node i; starts = starts i }

  as_running : (call : NodeCall) (log : List LogEntry) → runs log ≡ true → call_entries (value log) call ≡ entries_running (value log) call
  as_running call log up = ap (λ b. if b then entries_running (value log) call else entries_halted call) up

  pub kept_called : (call : NodeCall) (log : List LogEntry) → runs log ≡ true → are_plain (entries_running (value log) call) ≡ true
      → with_entries (entries_running (value log) call) (node_kept gateways place log) ≡ node_kept gateways place (logged (call_entries (value log) call) log)
  kept_called call log up plain =
      kept_with (entries_running (value log) call) log plain
      ∙ ap (λ (es : List LogEntry). node_kept gateways place (logged es log)) (sym (as_running call log up))

  pub calls_submit : (packet : List ℕ) (log : List LogEntry) → runs log ≡ true
      → CallsKept gateways place (submitting gateways place packet) (λ n. with_entries (submitted_entries n.node (draft_of packet)) n) nothing log
  calls_submit packet log up = by_option (λ (form : Option PacketForm). CallsKept gateways place (submitting_form gateways place form) (λ n. with_entries (submitted_entries n.node form) n) nothing log)
      (draft_of packet) (λ none. record { node = refl; sent = refl })
      (λ form is. record { node = kept_called (Submit form) log up (plain_submitted (value log) (refusal (value log) form) form); sent = refl })

  pub calls_halt : (log : List LogEntry) → runs log ≡ true → CallsKept gateways place (called gateways place Halt) (with_entries (Halted ∷ [])) nothing log
  calls_halt log up = record { node = kept_called Halt log up refl; sent = refl }

  pub calls_start : (log : List LogEntry) → runs log ≡ false → 1 ≤ starts_in log → CallsKept gateways place (called gateways place Start) started_again nothing log
  calls_start log down begun = record { node = by_log log down begun; sent = refl }
    where
      by_log : (log : List LogEntry) → runs log ≡ false → 1 ≤ starts_in log → started_again (node_kept gateways place log) ≡ node_kept gateways place (called gateways place Start log).log
      by_log [] down begun = absurd (omega (arith, begun))
      by_log (e ∷ es) down begun =
          let whole : List LogEntry = e ∷ es in
          let node : befallen (Began ∷ []) (value whole) ≡ value (Began ∷ whole) = law (node_setup gateways place) (Began ∷ []) whole (value whole) (refl, tt) refl in
          let starts : starts_in whole + 1 ≡ starts_in (Began ∷ whole) = omega (arith, starts_again whole) in
          let grown : started_again (node_kept gateways place whole) ≡ node_kept gateways place (Began ∷ whole) = λ i. record { node = node i; starts = starts i } in
          grind (arith, grown, down)

  -- a message that reaches the node
  pub calls_hear : (m : Message) (log : List LogEntry) → CallsKept gateways place (delivered_to_node gateways place m) (λ n. heard_by n m) (λ n. answered_by n m) log
  calls_hear m log = record {
    node = grind (
      arith,
      (λ (up : runs log ≡ true). kept_called (Hear m.port (gateway_address m.gateway) m.octets) log up
          (plain_heard (value log) m.port (gateway_address m.gateway) m.octets)),
    );
    sent = grind arith;
  }

-- ---- the addresses of a node's gateways are near

near : (gateways k : ℕ) (log : List LogEntry) → gateways ≤ 256 → gateway_at (address_at (peers_of (addresses_from 0 gateways) log) k) < 256
near gateways k log few = ⊎_elim
    (λ inside. omega (arith, gateway_is gateways log k inside, inside, few))
    (λ outside. subst (λ (o : Option Peer). gateway_at (option_map_or (λ (p : Peer). p.address) o (record { ip = 0; port = 0 })) < 256)
    (sym (slice_get_past (peers_of (addresses_from 0 gateways) log) k (omega (arith, size gateways log, outside)))) (omega arith))
    (cases_lt k gateways)

module _ (law : NodeLaw) (gateways place : ℕ) (few : gateways ≤ 256) where
  same_message : (log : List LogEntry) (s : Sending) → message_kept place (starts_in log) (outgoing (node_value gateways place log) s) ≡ message_of place log (outgoing (node_value gateways place log) s)
  same_message log s =
      ap (λ (g : ℕ). record (message_of place log (outgoing (node_value gateways place log) s)) { gateway = g })
      (same_byte (gateway_at (outgoing (node_value gateways place log) s).to) (near gateways (gateway_of s) log few))

  same_messages : (log : List LogEntry) (ss : List Sending) → map (message_kept place (starts_in log)) (map (outgoing (node_value gateways place log)) ss)
      ≡ map (λ s. message_of place log (outgoing (node_value gateways place log) s)) ss
  same_messages log [] = refl
  same_messages log (s ∷ ss) = λ i. same_message log s i ∷ same_messages log ss i

  pub calls_tick : (log : List LogEntry) → runs log ≡ true → CallsKept gateways place (ticking gateways place) (λ n. with_entries (tick_entries n.node) n) (due_messages place) log
  calls_tick log up = record {
    node = kept_called law gateways place Tick log up (plain_tick (node_value gateways place log));
    sent = same_messages log (due (node_value gateways place log));
  }
