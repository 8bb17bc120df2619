-- A turn of a world that is kept is the turn of the world that it stands for; and so what a step gives.
use Rattle.std.proofs.Common.{◌≡◌, ℕ, ◌-◌, ◌≤◌, Bool, true, false, not, if◌then◌else◌, List, [], ◌∷◌, length, Option, Some, None, refl, ap, sym, ◌∙◌, subst, option_map, slice_get, ◌+◌, arith}
use Rattle.once_core.proofs.Names.{answered_by, at_gateway, at_node, called, calm, committing, cut, default_rules, delivered, delivered_to_node, delivering, draft_of, due_messages, Event, Gateway, gateway_kept, Halt, Halted, HasBegun, heard_by, length-map, log_in, LogEntry, making_close, making_tick, marked, Message, Moved, no_node, opened, option_map_or, option_or, quiet, reaching, redirected, redirected_kept, refusal_kept, refusal_of, refusal_to_start, refusing, runs, Stands, Start, started_again, starts_at, starts_in, still, submitted_entries, submitting, tick_entries, ticking, turn, turn_by, turn_kept, unless_refused, with_entries, with_gateway, with_node, World, world_kept, WorldKept, WorldKind}
use Rattle.once_core.proofs.KeptMoveLemmas.{keeps_committing, keeps_cut, keeps_delivered, keeps_marking_close, keeps_marking_tick, moves_kept, opened_kept, redirects_kept, Keeps}
use Rattle.once_core.proofs.KeptTurnLemmas.{gateway_changes, gateway_turns, node_changes, node_turns, refusals_same, starts_same}
use Rattle.once_core.proofs.NodeCallLemmas.{NodeLaw, calls_halt, calls_hear, calls_start, calls_submit, nothing, calls_tick}
use Rattle.once_core.specs.declared.event.Event.TheVariants as event
use Rattle.once_core.specs.declared.event.WorldKind.TheVariants.{Halted as IsHalted}
use Rattle.once_core.proofs.CaseLemmas.{by_bool, by_option}
use Rattle.once_core.proofs.PartLemmas.{it_runs, log_there}
use Rattle.once_core.proofs.ArmLemmas.{turn_stays}
use Rattle.once_core.specs.Stepping.{IsPlayed, IsRefused, IsSpent}

module _ (law : NodeLaw) (w : World) (few : length w.gateways ≤ 256) where
  runs_where : (number : ℕ) (log : List LogEntry) → slice_get w.nodes (number - 1) ≡ Some log → option_or (no_node w number) (refusing (not (runs (log_in w number))) IsHalted) ≡ None → runs log ≡ true
  runs_where number log found allowed = ap runs (sym (log_there w (number - 1) log found)) ∙ it_runs w number allowed

  -- a gateway's move that keeps what is kept
  goes : (place : ℕ) (move : Gateway → Moved) → Keeps move → with_gateway (world_kept w) place move ≡ world_kept (at_gateway w place move)
  goes place move keeps = gateway_turns w place move move (λ g. moves_kept move keeps g)

  reaches : (m : Message) → reaching (world_kept w) m ≡ world_kept (delivering default_rules quiet w m)
  reaches m = by_bool (λ (b : Bool).
      (if b then with_gateway (world_kept w) m.gateway (delivered default_rules w.now quiet m) else with_node (world_kept w) m.node (λ n. heard_by n m) (λ n. answered_by n m))
      ≡ world_kept (if b then at_gateway w m.gateway (delivered default_rules w.now quiet m) else at_node w m.node (delivered_to_node (length w.gateways) m.node m)))
      m.to_gateway
      (λ to. goes m.gateway (delivered default_rules w.now quiet m) (keeps_delivered default_rules w.now quiet m))
      (λ from. node_turns w m.node (delivered_to_node (length w.gateways) m.node m) (λ n. heard_by n m) (λ n. answered_by n m)
      (λ log is. calls_hear law (length w.gateways) m.node m log))

  down_where : (number : ℕ) (log : List LogEntry) → slice_get w.nodes (number - 1) ≡ Some log → refusal_to_start w number ≡ None → runs log ≡ false
  down_where number log found allowed =
      grind (arith, log_there w (number - 1) log found)

  pub turned : (e : Event) → ((number : ℕ) → e ≡ event.Start number → 1 ≤ starts_in (log_in w number)) → refusal_of w e ≡ None → turn_kept (world_kept w) e ≡ world_kept (turn_by default_rules w (calm e) e)
  turned (event.Submit node packet) begun allowed =
      node_changes (world_kept w) (node - 1) (λ n. with_entries (submitted_entries n.node (draft_of packet)) n)
      ∙ node_turns w (node - 1) (submitting (length w.gateways) (node - 1) packet) (λ n. with_entries (submitted_entries n.node (draft_of packet)) n) nothing
      (λ log is. calls_submit law (length w.gateways) (node - 1) packet log (runs_where node log is allowed))
  turned (event.Tick node) begun allowed =
      node_turns w (node - 1) (ticking (length w.gateways) (node - 1)) (λ n. with_entries (tick_entries n.node) n) (due_messages (node - 1))
      (λ log is. calls_tick law (length w.gateways) (node - 1) few log (runs_where node log is allowed))
  turned (event.Deliver message) begun allowed = by_option (λ (o : Option Message). option_map_or (reaching (world_kept w)) o (world_kept w) ≡ world_kept (option_map_or (delivering default_rules quiet w) o w))
      (slice_get w.messages (message - 1)) (λ none. refl) (λ m there. reaches m)
  turned (event.Commit gateway) begun allowed = goes (gateway - 1) (committing quiet) (keeps_committing quiet)
  turned (event.Cut gateway keep) begun allowed =
      gateway_changes (world_kept w) (gateway - 1) (cut keep) ∙ goes (gateway - 1) (λ g. still (cut keep g)) (keeps_cut keep)
  turned (event.Open gateway) begun allowed =
      gateway_changes (world_kept w) (gateway - 1) (opened default_rules)
      ∙ gateway_turns w (gateway - 1) (λ g. still (opened default_rules g)) (λ g. still (opened default_rules g)) (λ g. opened_kept default_rules g)
  turned (event.Halt node) begun allowed =
      node_changes (world_kept w) (node - 1) (with_entries (Halted ∷ []))
      ∙ node_turns w (node - 1) (called (length w.gateways) (node - 1) Halt) (with_entries (Halted ∷ [])) nothing
      (λ log is. calls_halt law (length w.gateways) (node - 1) log (runs_where node log is allowed))
  turned (event.Start node) begun allowed =
      node_changes (world_kept w) (node - 1) started_again
      ∙ node_turns w (node - 1) (called (length w.gateways) (node - 1) Start) started_again nothing
      (λ log is. calls_start law (length w.gateways) (node - 1) log (down_where node log is allowed)
      (subst (λ (l : List LogEntry). 1 ≤ starts_in l) (log_there w (node - 1) log is) (begun node refl)))
  turned (event.Redirect gateway cause to) begun allowed =
      gateway_turns w (gateway - 1) (redirected (gateway - 1) cause (option_map (λ number. number - 1) to)) (redirected_kept (gateway - 1) cause (option_map (λ number. number - 1) to))
      (λ g. redirects_kept (gateway - 1) cause (option_map (λ number. number - 1) to) g)
  turned (event.Moment now) begun allowed = refl
  turned (event.Mark gateway) begun allowed =
      goes (gateway - 1) (marked default_rules quiet (making_tick default_rules w.now)) (keeps_marking_tick default_rules quiet w.now)
  turned (event.Close gateway) begun allowed =
      goes (gateway - 1) (marked default_rules quiet (making_close w.now)) (keeps_marking_close default_rules quiet w.now)

  -- the turn of an event that isn't refused
  pub turn_is : (e : Event) → ((number : ℕ) → e ≡ event.Start number → 1 ≤ starts_in (log_in w number)) → refusal_of w e ≡ None → turn_kept (world_kept w) e ≡ world_kept (turn default_rules w (calm e))
  turn_is e begun allowed =
      turned e begun allowed
      ∙ ap (λ (o : Option WorldKind). world_kept (unless_refused o w (turn_by default_rules w (calm e) e))) (sym allowed)

module _ (w : World) (e : Event) (old new : WorldKept) (stands : Stands w old) where
  refusal_is : refusal_kept old e ≡ refusal_of w e
  refusal_is = ap (λ (k : WorldKept). refusal_kept k e) stands ∙ refusals_same w e

  pub step_refused : (kind : WorldKind) → refusal_kept old e ≡ Some kind → new ≡ old → IsRefused w e kind new
  step_refused kind refused same = record { refused = sym refusal_is ∙ refused; same = same ∙ stands }

  pub step_spent : refusal_kept old e ≡ None → new.is_spent ≡ true → IsSpent w e new
  step_spent allowed spent = record { allowed = sym refusal_is ∙ allowed; spent = spent }

  few_gateways : length old.gateways ≤ 8 → length w.gateways ≤ 256
  few_gateways few =
      let same : length old.gateways ≡ length w.gateways = ap (λ (k : WorldKept). length k.gateways) stands ∙ length-map w.gateways gateway_kept in
      omega (arith, same, few)

  begun_in : HasBegun old e → (number : ℕ) → e ≡ event.Start number → 1 ≤ starts_in (log_in w number)
  begun_in has number is =
      subst (λ (n : ℕ). 1 ≤ n) (ap (λ (k : WorldKept). starts_at k (number - 1)) stands ∙ starts_same w (number - 1))
      (subst (HasBegun old) is has)

  pub step_played : NodeLaw → length old.gateways ≤ 8 → HasBegun old e → refusal_kept old e ≡ None → new ≡ turn_kept old e → (first count : ℕ)
      → first ≡ length old.messages + 1 → count ≡ length new.messages - length old.messages → IsPlayed w e first count new
  step_played law few begun allowed is first count first_is count_is =
      let free : refusal_of w e ≡ None = sym refusal_is ∙ allowed in
      let turned : new ≡ world_kept (turn default_rules w (calm e)) =
      is ∙ (ap (λ (k : WorldKept). turn_kept k e) stands ∙ turn_is law w (few_gateways few) e (begun_in begun) free) in
      let sent : length old.messages ≡ length w.messages = ap (λ (k : WorldKept). length k.messages) stands in
      let grown : length old.messages ≤ length new.messages =
      subst (λ (k : WorldKept). length old.messages ≤ length k.messages) (sym is) (turn_stays old e) in
      let all : length (turn default_rules w (calm e)).messages ≡ length new.messages = ap (λ (k : WorldKept). length k.messages) (sym turned) in
      record {
        allowed = free;
        turned = turned;
        first_is = omega (arith, first_is, sent);
        count_is = omega (arith, all, count_is, grown, sent);
      }
