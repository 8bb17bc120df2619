-- A node that ran over two links is one that some calls reach.
use Rattle.std.proofs.Common.{◌≡◌, ℕ, zero, suc, ◌+◌, ◌-◌, ◌<◌, ◌≤◌, ◌^◌, nat_lt, Bool, true, false, if◌then◌else◌, List, [], ◌∷◌, Option, None, Some, is_none, refl, sym, ap, subst, ◌∙◌, arith}
use Rattle.std.proofs.lemmas.Bool.{lt-ltb}
use Rattle.net_link.specs.Datagrams.{Datagram}
use Rattle.node_core.specs.Log.{Began, LogEntry, NodeSetup, Submitted}
use Rattle.node_core.specs.Reached.{Hear, NodeCall, Submit, Tick, call_entries, entries_halted, entries_running, most_submissions, reached, submit_entries}
use Rattle.node_core.specs.Submitting.{refusal}
use Rattle.node_core.specs.Value.{NodeValue, befallen, node_of}
use Rattle.node_core.specs.declared.fault.SubmitFault.{SubmitFault}
use Rattle.node_core.specs.declared.port.Port.{Port}
use Rattle.node_run.specs.Packets.{filled, filled_by, next_form, takes_next, with_next}
use Rattle.node_run.specs.Running.{Turn, after_turn, node_after, port_after, ticked}
use Rattle.node_run.proofs.StayingLemmas.{hears_on, ticks_on}

-- each call makes of a node what befalls it by that call
abbrev pub EachGoesOn : Type 0
EachGoesOn = (setup : NodeSetup) (call : NodeCall) (calls : List NodeCall) → reached setup (call ∷ calls)
    ≡ befallen (call_entries (reached setup calls) call) (reached setup calls)

-- what is taken isn't refused
taken_none : (fault : Option SubmitFault) → is_none fault ≡ true → fault ≡ None
taken_none None is = refl
taken_none (Some fault) is = absurd (cc is)

module _ (goes : EachGoesOn) (setup : NodeSetup) where
  -- some calls reach the node, and it runs
  pub record Called (node : NodeValue) : Type 0 where
    pub calls : List NodeCall
    pub is : node ≡ reached setup calls
    pub runs : node.is_running ≡ true

  called_on : (node : NodeValue) (call : NodeCall) → Called node
      → (befallen (entries_running node call) node).is_running ≡ true
      → Called (befallen (entries_running node call) node)
  called_on node call was runs = record {
    calls = call ∷ was.calls;
    is = ap (λ (n : NodeValue). befallen (entries_running n call) n) was.is
        ∙ sym (ap (λ (b : Bool). befallen (if b then entries_running now call else entries_halted call) now) now_runs)
        ∙ sym (goes setup call was.calls);
    runs = runs;
  }
    where
      now : NodeValue
      now = reached setup was.calls

      now_runs : now.is_running ≡ true
      now_runs = ap (λ (n : NodeValue). n.is_running) (sym was.is) ∙ was.runs

  called_next : (node : NodeValue) → Called node → takes_next node ≡ true → node.submissions < most_submissions
      → Called (with_next node)
  called_next node was takes few =
      let none : refusal node (next_form node) ≡ None = taken_none (refusal node (next_form node)) takes in
      let some : nat_lt node.submissions most_submissions ≡ true = lt-ltb node.submissions most_submissions few in
      let entries : entries_running node (Submit (next_form node)) ≡ Submitted (next_form node) ∷ [] =
      ap (λ (o : Option SubmitFault). submit_entries node o (next_form node)) none
      ∙ ap (λ (b : Bool). if b then Submitted (next_form node) ∷ [] else []) some in
      let same : befallen (entries_running node (Submit (next_form node))) node ≡ with_next node =
      ap (λ (es : List LogEntry). befallen es node) entries in
      subst (λ (n : NodeValue). Called n) same
      (called_on node (Submit (next_form node)) was (ap (λ (n : NodeValue). n.is_running) same ∙ was.runs))

  called_filled : (left : ℕ) (node : NodeValue) → Called node → node.submissions + left < 2 ^ 33
      → Called (filled_by left node)
  called_filled zero node was few = was
  called_filled (suc left) node was few = by_taking (takes_next node) refl
      (λ (takes : takes_next node ≡ true). called_filled left (with_next node)
      (called_next node was takes (omega (arith, few))) (omega (arith, few)))
    where
      by_taking : (b : Bool) → takes_next node ≡ b
          → (takes_next node ≡ true → Called (filled_by left (with_next node)))
          → Called (if b then filled_by left (with_next node) else node)
      by_taking true takes next = next takes
      by_taking false none next = was

  called_ticked : (node : NodeValue) → Called node → Called (ticked node)
  called_ticked node was = called_on node Tick was ((ticks_on node).runs ∙ was.runs)

  -- with so many packets in all, none of which it numbers beyond
  called_full : (packets : ℕ) (node : NodeValue) → packets < 2 ^ 32 → node.submissions ≤ packets → Called node
      → Called (filled packets node)
  called_full packets node few within was = called_filled (packets - node.submissions) node was (omega
      (arith, few, within))

  -- it never numbers a packet beyond these
  filled_within : (left : ℕ) (node : NodeValue) → (filled_by left node).submissions ≤ node.submissions + left
  filled_within zero node = omega arith
  filled_within (suc left) node = by_taking (takes_next node) (filled_within left (with_next node))
    where
      by_taking : (b : Bool) → (filled_by left (with_next node)).submissions ≤ suc node.submissions + left
          → (if b then filled_by left (with_next node) else node).submissions ≤ node.submissions + suc left
      by_taking true next = omega (arith, next)
      by_taking false next = omega arith

  pub record CalledWithin (packets : ℕ) (node : NodeValue) : Type 0 where
    pub called : Called node
    pub within : node.submissions ≤ packets

  ticks_within : (packets : ℕ) (node : NodeValue) → packets < 2 ^ 32 → CalledWithin packets node
      → CalledWithin packets (ticked (filled packets node))
  ticks_within packets node few was =
      let grown = filled_within (packets - node.submissions) node in
      let same = (ticks_on (filled packets node)).submissions in
      let within = was.within in
      record {
        called = called_ticked (filled packets node) (called_full packets node few was.within was.called);
        within = omega (arith, grown, same, within);
      }

  hears_within : (packets : ℕ) (port : Port) (d : Datagram) (node : NodeValue) → CalledWithin packets node
      → CalledWithin packets (after_turn packets port (Some d) node)
  hears_within packets port d node was =
      let stays = hears_on node port d.peer d.octets in
      let same = stays.submissions in
      let within = was.within in
      record {
        called = called_on node (Hear port d.peer d.octets) was.called (stays.runs ∙ was.called.runs);
        within = omega (arith, same, within);
      }

  turn_within : (packets : ℕ) (port : Port) (turn : Turn) (node : NodeValue) → packets < 2 ^ 32
      → CalledWithin packets node
      → CalledWithin packets (after_turn packets port turn node)
  turn_within packets port None node few was = ticks_within packets node few was
  turn_within packets port (Some d) node few was = hears_within packets port d node was

  pub after_all_turns : (packets : ℕ) (first : NodeValue) (turns : List Turn) → packets < 2 ^ 32
      → CalledWithin packets first
      → CalledWithin packets (node_after packets first turns)
  after_all_turns packets first [] few was = ticks_within packets first few was
  after_all_turns packets first (turn ∷ turns) few was = turn_within packets (port_after turns) turn
      (node_after packets first turns) few
      (after_all_turns packets first turns few was)

  pub ran_called : (packets : ℕ) (turns : List Turn) → packets < 2 ^ 32
      → (calls : List NodeCall) × (node_after packets (node_of setup (Began ∷ [])) turns ≡ reached setup calls)
  ran_called packets turns few =
      let made = after_all_turns packets (node_of setup (Began ∷ [])) turns few
      (record { called = record { calls = []; is = refl; runs = refl }; within = omega arith }) in
      (made.called.calls, made.called.is)
