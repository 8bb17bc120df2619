-- A replay stands for what an event at a node makes of it, once the node was called and its messages were sent.
use Rattle.std.proofs.Common.{◌≡◌, ◌∙◌, refl, sym, ap, subst, ℕ, zero, suc, ◌+◌, Bool, true, false, not, if◌then◌else◌, List, [], ◌∷◌, ◌++◌, All, length, set, Some, None, slice_get, arith, append_assoc, length-set}
use Rattle.replay_world.proofs.Names.{All-set, Appointed, at_node, Began, begins, Called, calm, CanFollowAll, counter_of, CountsStarts, Does, EachStands, Event, Halted, HasSent, Heard, list_all, LogEntry, logged, machines_in, node_called, node_value, nodes_from, notice_lines, notices_first, notices_last, numbered_from, Path, paths_hearing, paths_of, Plays, refusal_of, Replay, ReplayValue, rules_in, Saying, sent_by, sent_notices, site_of, Stands, starts_in, Submitted, sum_by-cons, Ticked, turn_by, waiting_in, World, world_after}
use Rattle.path_mgmt.specs.NodePath.{PathsOfNode, node_after}
use Rattle.path_mgmt.specs.declared.event.PathEvent.{PathEvent}
use Rattle.path_mgmt.specs.declared.event.PathEvent.TheVariants.{EchoAsked}
use Rattle.replay_world.proofs.StandsLemmas.{Leaves, drop_front, messages_before, stands_then}
use Rattle.replay_world.proofs.GatewayEventLemmas.{lines_join}

-- The restart counter.

after_counter : (gateway : ℕ) (event : PathEvent) (paths : PathsOfNode) → (node_after paths gateway event).counter ≡ paths.counter
after_counter gateway (EchoAsked number) paths = refl
after_counter gateway _ paths = refl

heard_counter : (gateway : ℕ) (saying : Saying) (paths : PathsOfNode) → (paths_hearing gateway saying paths).counter ≡ paths.counter
heard_counter gateway (Path event) paths = after_counter gateway event paths
heard_counter gateway _ paths = refl

pub paths_counter : (log : List LogEntry) → (paths_of 1 log).counter ≡ counter_of 1 log
paths_counter (Submitted form ∷ log) = paths_counter log
paths_counter (Appointed gateway ∷ log) = paths_counter log
paths_counter (Ticked sendings ∷ log) = paths_counter log
paths_counter (Heard port gateway saying ∷ log) = heard_counter gateway saying (paths_of 1 log) ∙ paths_counter log
paths_counter _ = refl

-- what a node that stands for a log counts
pub counter_is : (gateways place : ℕ) {log : _} → CountsStarts log →
    (node_value gateways place log).paths.counter ≡ starts_in log
counter_is gateways place {log} counts = paths_counter log ∙ counts.counter

-- Entries that begin no start.

abbrev pub are_plain : List LogEntry → Bool
are_plain entries = list_all (λ e. not (begins e)) entries

pub follow_all : (entries log : List LogEntry) → are_plain entries ≡ true → CanFollowAll entries log
follow_all [] log p = tt
follow_all (Began ∷ es) log p = cc
follow_all (Halted ∷ es) log p = (tt, follow_all es (Halted ∷ log) p)
follow_all (Submitted form ∷ es) log p = (tt, follow_all es (Submitted form ∷ log) p)
follow_all (Appointed gateway ∷ es) log p = (tt, follow_all es (Appointed gateway ∷ log) p)
follow_all (Ticked sendings ∷ es) log p = (tt, follow_all es (Ticked sendings ∷ log) p)
follow_all (Heard port gateway saying ∷ es) log p = (tt, follow_all es (Heard port gateway saying ∷ log) p)

starts_same : (entry : LogEntry) (log : List LogEntry) → begins entry ≡ false → starts_in (entry ∷ log) ≡ starts_in log
starts_same entry log is =
    sum_by-cons (λ e. if begins e then 1 else 0) entry log ∙ ap (λ b. (if b then 1 else 0) + starts_in log) is
    ∙ omega arith

count_as : {log : _} (later : List LogEntry) → counter_of 1 later ≡ counter_of 1 log → starts_in later ≡ starts_in log →
    CountsStarts log → CountsStarts later
count_as later counter starts counts = record {
  some = rw starts counts.some;
  most = rw starts counts.most;
  counter = counter ∙ counts.counter ∙ sym starts;
}

pub counts_plain : (entries : List LogEntry) {log : _} → are_plain entries ≡ true → CountsStarts log →
    CountsStarts (logged entries log)
counts_plain [] p counts = counts
counts_plain (Began ∷ es) p counts = cc
counts_plain (Halted ∷ es) {log} p counts = counts_plain es p (count_as _ refl (starts_same (Halted) log refl) counts)
counts_plain (Submitted form ∷ es) {log} p counts =
    counts_plain es p (count_as _ refl (starts_same (Submitted form) log refl) counts)
counts_plain (Appointed gateway ∷ es) {log} p counts =
    counts_plain es p (count_as _ refl (starts_same (Appointed gateway) log refl) counts)
counts_plain (Ticked sendings ∷ es) {log} p counts =
    counts_plain es p (count_as _ refl (starts_same (Ticked sendings) log refl) counts)
counts_plain (Heard port gateway saying ∷ es) {log} p counts =
    counts_plain es p (count_as _ refl (starts_same (Heard port gateway saying) log refl) counts)

-- Nodes in their places.

pub nodes_set : (gateways place : ℕ) (logs : List (List LogEntry)) (k : ℕ) (log : List LogEntry) →
    set (nodes_from gateways place logs) k (node_value gateways (place + k) log) ≡ nodes_from gateways place (set logs k log)
nodes_set gateways place [] k log = refl
nodes_set gateways place (l ∷ logs) zero log =
    let same : place + 0 ≡ place = omega arith in
    cc
nodes_set gateways place (l ∷ logs) (suc k) log =
    let same : place + suc k ≡ suc place + k = omega arith in
    cc (nodes_set gateways (suc place) logs k log)

-- Events.

module _ (v : ReplayValue) (e : Event) (place : ℕ) (log : List LogEntry) (call : List LogEntry → Called) where
  -- The event is at this node, and calls it so where the world allows it.
  pub record IsAtNode : Type 0 where
    pub no_site : site_of v e ≡ None
    pub machines : machines_in v e ≡ v.machines
    pub has_log : slice_get v.world.nodes place ≡ Some log
    pub allowed : refusal_of v.world e ≡ None
    pub moves : turn_by (rules_in v.setup) v.world (calm e) e ≡ at_node v.world place call

  -- The node was called, and then its messages were sent.
  pub record CallsNode (before after : List ℕ) (old mid new : Replay) : Type 0 where
    pub rest : mid ≡ record old { nodes = mid.nodes }
    pub nodes : mid.nodes.items ≡ set old.nodes.items place (node_value (length v.world.gateways) place (call log).log)
    pub sends : HasSent (call log).sends before after mid new
    pub counts : CountsStarts (call log).log

  module _ (at : IsAtNode) where
    pub world_called : world_after v (Plays e) ≡ node_called v.world place (call log)
    world_called = cc (at.no_site, at.allowed, at.moves, at.has_log)

    sends_are : sent_by v (Plays e) ≡ numbered_from (length v.world.messages) (call log).sends
    sends_are = cc (world_called, drop_front v.world.messages (call log).sends)

    module _ (before after : List ℕ) (old mid new : Replay)
        (stands : Stands (record v { waiting = waiting_in v.waiting e }) old)
        (done : CallsNode before after old mid new) where
      new_nodes : new.nodes.items ≡ nodes_from (length v.world.gateways) 0 (set v.world.nodes place (call log).log)
      new_nodes =
          let here : place ≡ 0 + place = omega arith in
          ap (λ (p : Replay). p.nodes.items) done.sends.rest ∙ done.nodes
          ∙ ap (λ ns. set ns place (node_value (length v.world.gateways) place (call log).log)) stands.nodes
          ∙ ap (λ p. set (nodes_from (length v.world.gateways) 0 v.world.nodes) place
          (node_value (length v.world.gateways) p (call log).log)) here
          ∙ nodes_set (length v.world.gateways) 0 v.world.nodes place (call log).log

      leaves_called : Leaves v (Plays e) (call log).sends before after old mid new
      leaves_called =
          let same : new.gateways.items ≡ old.gateways.items = cc (done.sends.rest, done.rest) in
          record {
            messages = ap (λ (w : World). w.messages) world_called;
            now = ap (λ (w : World). w.now) world_called;
            many_gateways = ap (λ (w : World). length w.gateways) world_called;
            many_nodes = cc (world_called, length-set v.world.nodes place (call log).log);
            starts = subst (λ (w : World). All CountsStarts w.nodes) (sym world_called)
                (All-set CountsStarts v.world.nodes place (call log).log done.counts stands.starts);
            gateways = subst (λ (w : World). EachStands v.setup 0 w.gateways (machines_in v e) new.gateways.items)
                (sym world_called)
                (subst (λ ms. EachStands v.setup 0 v.world.gateways ms new.gateways.items) (sym at.machines)
                (subst (λ rs. EachStands v.setup 0 v.world.gateways v.machines rs) (sym same) stands.gateways));
            nodes = new_nodes ∙ sym (ap (λ (w : World). nodes_from (length v.world.gateways) 0 w.nodes) world_called);
            many = ap length same;
            kept = ap (λ (p : Replay). record p { gateways = old.gateways; nodes = old.nodes }) done.rest;
            sends = done.sends;
          }

      -- the messages are told, and then what became of the one that came, or of the packet
      pub does_called : {told : _} → told ≡ after ++ notice_lines (notices_last v e) → Does v (Plays e) before told new
      does_called is =
          let last = notices_last v e in
          let first : notices_first v e ≡ [] = cc at.no_site in
          record {
            stands = stands_then v (Plays e) (call log).sends before after old mid new stands leaves_called;
            prints = is ∙ ap (λ text. text ++ notice_lines last) done.sends.prints
                ∙ append_assoc before
                (notice_lines (sent_notices (numbered_from (length mid.messages.items) (call log).sends)))
                (notice_lines last)
                ∙ ap (λ ss. before ++ (notice_lines (sent_notices ss) ++ notice_lines last))
                (cc (
                  messages_before v (Plays e) (call log).sends before after old mid new stands leaves_called,
                  sends_are,
                ))
                ∙ ap (λ text. before ++ text) (sym (lines_join (sent_notices (sent_by v (Plays e))) last))
                ∙ ap (λ ns. before ++ notice_lines (ns ++ (sent_notices (sent_by v (Plays e)) ++ last))) (sym first);
          }
