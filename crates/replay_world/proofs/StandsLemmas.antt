-- What the gateways and the nodes of a replay tell, and what a step leaves of it.
use Rattle.std.proofs.Common.{◌≡◌, refl, ℕ, zero, suc, ◌+◌, List, [], ◌∷◌, length, Some, slice_get, set, option_map, arith, ◌-◌, Bool, true, false, Option, None, ◌∙◌, sym, ap, subst, ◌≤◌, ◌++◌, drop, All, map, length-append, length-set}
use Rattle.replay_world.proofs.Names.{after_step, All-append, at_gateway, at_node, Called, cond_both, CountsStarts, delivering, Does, EachStands, enumerate_from, Event, Gateway, gateway_moved, HasSent, IsReached, LogEntry, lost_if, Machine, machines_after, MachineStands, Message, Moved, node_called, node_value, nodes_from, numbered_from, option_map_or, Plays, Replay, ReplayValue, rules_in, sent_by, sent_notices, Setup, Stands, Step, step_notices, Turn, turn_by, turn_of, unless_refused, waiting_left, World, world_after, WorldKind}
use Rattle.replay_gateway.specs.declared.machine.Machine as real
use Rattle.once_core.specs.ReachedLaws.{reached_then}
use Rattle.once_core.specs.declared.event.Event.TheVariants as event

-- What the gateways and the nodes of a replay tell that stands for a value.

pub nodes_length : (gateways place : ℕ) (logs : List (List LogEntry)) → length (nodes_from gateways place logs) ≡ length logs
nodes_length gateways place [] = refl
nodes_length gateways place (log ∷ logs) = cc (nodes_length gateways (suc place) logs)

pub nodes_get : (gateways place : ℕ) (logs : List (List LogEntry)) (k : ℕ) →
    slice_get (nodes_from gateways place logs) k ≡ option_map (node_value gateways (place + k)) (slice_get logs k)
nodes_get gateways place [] k = refl
nodes_get gateways place (log ∷ logs) zero =
    let same : place + 0 ≡ place = omega arith in cc
nodes_get gateways place (log ∷ logs) (suc k) =
    let same : suc place + k ≡ place + suc k = omega arith in
    cc (nodes_get gateways (suc place) logs k)

-- Gateways.

-- the gateway in a place, and what it runs on
pub record StandsAt (setup : Setup) (place : ℕ)
    (gs : List Gateway) (ms : List Machine) (k : ℕ) (r : real.Machine) : Type 0 where
  pub gateway : Gateway
  pub machine : Machine
  pub has_gateway : slice_get gs k ≡ Some gateway
  pub has_machine : slice_get ms k ≡ Some machine
  pub stands : MachineStands setup (place + k) gateway machine r

first_is : {A : Type 0} (y x : A) (ys : List A) → slice_get (y ∷ ys) zero ≡ Some x → y ≡ x
first_is y x ys is = cc

module _ (setup : Setup) where
  pub each_lengths : (place : ℕ) (gs : List Gateway) (ms : List Machine) (rs : List real.Machine) →
      EachStands setup place gs ms rs → (length ms ≡ length gs) × (length rs ≡ length gs)
  each_lengths place [] [] [] each = (refl, refl)
  each_lengths place (g ∷ gs) (m ∷ ms) (r ∷ rs) each =
      let later = each_lengths (suc place) gs ms rs each.1 in (cc later.0, cc later.1)
  each_lengths place _ _ _ each = absurd each

  -- the first one, and one behind it
  here_at : {place : _} (g : Gateway) (gs : List Gateway) (m : Machine) (ms : List Machine) (q r : real.Machine) →
      MachineStands setup place g m q → q ≡ r → StandsAt setup place (g ∷ gs) (m ∷ ms) zero r
  here_at {place} g gs m ms q r stands same =
      let here : place ≡ place + 0 = omega arith in
      record {
        gateway = g;
        machine = m;
        has_gateway = refl;
        has_machine = refl;
        stands = rw here at (rw same at stands);
      }

  later_at : {place : _} (g : Gateway) {gs : _} (m : Machine) {ms : _} (k : ℕ) (r : real.Machine) →
      StandsAt setup (suc place) gs ms k r → StandsAt setup place (g ∷ gs) (m ∷ ms) (suc k) r
  later_at {place} g m k r later =
      let here : suc place + k ≡ place + suc k = omega arith in
      record {
        gateway = later.gateway;
        machine = later.machine;
        has_gateway = later.has_gateway;
        has_machine = later.has_machine;
        stands = rw here at later.stands;
      }

  pub each_at : (place : ℕ) (gs : List Gateway) (ms : List Machine) (rs : List real.Machine) →
      EachStands setup place gs ms rs → (k : ℕ) {r : _} → slice_get rs k ≡ Some r → StandsAt setup place gs ms k r
  each_at place [] [] [] each k is = absurd (cc)
  each_at place (g ∷ gs) (m ∷ ms) (q ∷ rs) each zero {r} is = here_at g gs m ms q r each.0 (first_is q r rs is)
  each_at place (g ∷ gs) (m ∷ ms) (q ∷ rs) each (suc k) {r} is =
      later_at g m k r (each_at (suc place) gs ms rs each.1 k is)
  each_at place _ _ _ each k is = absurd each

  pub each_set : (place : ℕ) (gs : List Gateway) (ms : List Machine) (rs : List real.Machine) →
      EachStands setup place gs ms rs → (k : ℕ) {g m : _} (r : real.Machine) → MachineStands setup (place + k) g m r →
      EachStands setup place (set gs k g) (set ms k m) (set rs k r)
  each_set place [] [] [] each k r stands = tt
  each_set place (_ ∷ gs) (_ ∷ ms) (_ ∷ rs) each zero r stands =
      let here : place + 0 ≡ place = omega arith in
      (rw here at stands, each.1)
  each_set place (_ ∷ gs) (_ ∷ ms) (_ ∷ rs) each (suc k) r stands =
      let here : place + suc k ≡ suc place + k = omega arith in
      (each.0, each_set (suc place) gs ms rs each.1 k r (rw here at stands))
  each_set place _ _ _ each k r stands = absurd each

-- A replay stands for what a step makes of it, once its messages were sent.

-- a step of a world that is reached reaches one
pub reached_after : (v : ReplayValue) (step : Step) → IsReached v.world → IsReached (world_after v step)
reached_after v (Plays e) reached = reached_then (rules_in v.setup) v.world (turn_of v e) reached
reached_after v _ reached = reached

-- What holds of a world, and of all that a turn may make of it, holds after each step.
module _ (v : ReplayValue) (P : World → Type 0) (still : P v.world)
    (gateway : (k : ℕ) (moved : Moved) → P (gateway_moved v.world k moved))
    (node : (k : ℕ) (call : Called) → P (node_called v.world k call))
    (moment : (now : ℕ) → P (record v.world { now = now }))
    (lost : (w : World) → P w → P (lost_if true v.world w)) where
  gateway_holds : (k : ℕ) (move : Gateway → Moved) → P (at_gateway v.world k move)
  gateway_holds k move = by (slice_get v.world.gateways k)
    where
      by : (o : Option Gateway) → P (option_map_or (λ g. gateway_moved v.world k (move g)) o v.world)
      by None = still
      by (Some g) = gateway k (move g)

  node_holds : (k : ℕ) (call : List LogEntry → Called) → P (at_node v.world k call)
  node_holds k call = by (slice_get v.world.nodes k)
    where
      by : (o : Option (List LogEntry)) → P (option_map_or (λ log. node_called v.world k (call log)) o v.world)
      by None = still
      by (Some log) = node k (call log)

  turn_holds : (t : Turn) (e : Event) → P (turn_by (rules_in v.setup) v.world t e)
  turn_holds t (event.Submit n packet) = node_holds _ _
  turn_holds t (event.Tick n) = node_holds _ _
  turn_holds t (event.Halt n) = node_holds _ _
  turn_holds t (event.Start n) = node_holds _ _
  turn_holds t (event.Moment now) = moment now
  turn_holds t (event.Deliver message) = by (slice_get v.world.messages (message - 1))
    where
      by : (o : Option Message) → P (option_map_or (delivering (rules_in v.setup) t.fortune v.world) o v.world)
      by None = still
      by (Some m) = cond_both m.to_gateway _ _ P (λ is. gateway_holds _ _) (λ is. node_holds _ _)
  turn_holds t _ = gateway_holds _ _

  unless_holds : (o : Option WorldKind) (w : World) → P w → P (unless_refused o v.world w)
  unless_holds None w holds = holds
  unless_holds (Some kind) w holds = still

  lost_holds : (b : Bool) (w : World) → P w → P (lost_if b v.world w)
  lost_holds true w holds = lost w holds
  lost_holds false w holds = holds

  pub world_holds : (step : Step) → P (world_after v step)
  world_holds (Plays e) = unless_holds _ _ (lost_holds _ _ (turn_holds (turn_of v e) _))
  world_holds _ = still

pub drop_front : {A : Type 0} (xs ys : List A) → drop (length xs) (xs ++ ys) ≡ ys
drop_front [] ys = refl
drop_front (x ∷ xs) ys = drop_front xs ys

-- numbers from one on, up to the length
pub numbers_within : (first : ℕ) (messages : List Message) (most : ℕ) → first + length messages ≤ suc most →
    All (λ number. number ≤ most) (map (λ (s : ℕ × Message). s.0) (enumerate_from first messages))
numbers_within first [] most le k d h = absurd (omega arith)
numbers_within first (m ∷ messages) most le zero d h = omega arith
numbers_within first (m ∷ messages) most le (suc k) d h =
    numbers_within (first + 1) messages most (omega arith) k d (omega arith)

pub numbers_from_one : (first : ℕ) (messages : List Message) → 1 ≤ first →
    All (λ number. 1 ≤ number) (map (λ (s : ℕ × Message). s.0) (enumerate_from first messages))
numbers_from_one first [] le k d h = absurd (omega arith)
numbers_from_one first (m ∷ messages) le zero d h = omega arith
numbers_from_one first (m ∷ messages) le (suc k) d h =
    numbers_from_one (first + 1) messages (omega arith) k d (omega arith)

pub all_within : (numbers : List ℕ) (low high : ℕ) → low ≤ high → All (λ number. number ≤ low) numbers →
    All (λ number. number ≤ high) numbers
all_within numbers low high le all = λ k d h. omega (arith, all k d h)

module _ (v : ReplayValue) (step : Step) (told : List Message) where
  -- The step sends these messages, and changes neither the moment nor how many gateways and nodes there are.
  pub record Leaves (before after : List ℕ) (old mid new : Replay) : Type 0 where
    pub messages : (world_after v step).messages ≡ v.world.messages ++ told
    pub now : (world_after v step).now ≡ v.world.now
    pub many_gateways : length (world_after v step).gateways ≡ length v.world.gateways
    pub many_nodes : length (world_after v step).nodes ≡ length v.world.nodes
    pub starts : All CountsStarts (world_after v step).nodes
    pub gateways : EachStands v.setup 0 (world_after v step).gateways (machines_after v step) new.gateways.items
    pub nodes : new.nodes.items ≡ nodes_from (length v.world.gateways) 0 (world_after v step).nodes
    pub many : length new.gateways.items ≡ length old.gateways.items
    pub kept : record mid { gateways = old.gateways; nodes = old.nodes } ≡ old
    pub sends : HasSent told before after mid new

  pub sent_as : (world_after v step).messages ≡ v.world.messages ++ told →
      sent_by v step ≡ numbered_from (length v.world.messages) told
  sent_as is = cc (is, drop_front v.world.messages told)

  module _ (before after : List ℕ) (old mid new : Replay)
      (stands : Stands (record v { waiting = waiting_left v.waiting step }) old)
      (leaves : Leaves before after old mid new) where
    abbrev numbers : List ℕ
    numbers = map (λ (s : ℕ × Message). s.0) (numbered_from (length v.world.messages) told)

    pub messages_before : mid.messages.items ≡ v.world.messages
    messages_before = ap (λ (p : Replay). p.messages.items) leaves.kept ∙ stands.messages

    waits_before : mid.waiting.keys ≡ waiting_left v.waiting step
    waits_before = ap (λ (p : Replay). p.waiting.keys) leaves.kept ∙ stands.waits

    pub sent_is : sent_by v step ≡ numbered_from (length v.world.messages) told
    sent_is = sent_as leaves.messages

    new_waits : new.waiting.keys ≡ (after_step v step).waiting
    new_waits =
        let within = rw (← waits_before) at (rw (← messages_before) at stands.sent) in
        cc (leaves.sends.waits within, waits_before, messages_before, sent_is)

    new_sent : All (λ number. number ≤ length (world_after v step).messages) (after_step v step).waiting
    new_sent =
        let most = length (world_after v step).messages in
        let more : most ≡ length v.world.messages + length told =
        cc (leaves.messages, length-append v.world.messages told) in
        let later : All (λ number. number ≤ most) numbers = numbers_within _ _ most (omega arith) in
        rw sent_is (All-append (λ number. number ≤ most) (waiting_left v.waiting step) numbers
        (all_within _ (length v.world.messages) most (omega arith) stands.sent) later)

    new_from_one : All (λ number. 1 ≤ number) (after_step v step).waiting
    new_from_one =
        rw sent_is (All-append (λ number. 1 ≤ number) (waiting_left v.waiting step) numbers stands.from_one
        (numbers_from_one _ _ (omega arith)))

    same : record new { gateways = old.gateways; nodes = old.nodes; messages = old.messages; waiting = old.waiting } ≡
        old
    same =
        ap (λ (p : Replay). record p {
          gateways = old.gateways;
          nodes = old.nodes;
          messages = old.messages;
          waiting = old.waiting;
        }) leaves.sends.rest
        ∙ ap (λ (p : Replay). record p { messages = old.messages; waiting = old.waiting }) leaves.kept

    pub stands_then : Stands (after_step v step) new
    stands_then = record {
      reached = reached_after v step stands.reached;
      gateways = leaves.gateways;
      few_gateways = subst (λ n. n ≤ 255) (sym leaves.many_gateways) stands.few_gateways;
      few_nodes = subst (λ n. n ≤ 255) (sym leaves.many_nodes) stands.few_nodes;
      nodes = leaves.nodes ∙ ap (λ n. nodes_from n 0 (world_after v step).nodes) (sym leaves.many_gateways);
      starts = leaves.starts;
      now = ap (λ (p : Replay). p.moment) same ∙ stands.now ∙ sym leaves.now;
      messages = cc (leaves.sends.messages, messages_before, leaves.messages);
      waits = new_waits;
      sent = new_sent;
      from_one = new_from_one;
      room = record {
        no_areas = ap (λ (p : Replay). p.areas.items) same ∙ stands.room.no_areas;
        no_shelves = ap (λ (p : Replay). p.shelves.items) same ∙ stands.room.no_shelves;
        areas = rw leaves.many (rw (ap (λ (p : Replay). p.areas) same) stands.room.areas);
        shelves = rw leaves.many (rw (ap (λ (p : Replay). p.shelves) same) stands.room.shelves);
      };
      whole = ap (λ (p : Replay). p.has_failed) same ∙ stands.whole;
    }

-- A step that sets one gateway, or what it runs on.
module _ (v : ReplayValue) (step : Step) (k : ℕ) (g : Gateway) (m : Machine) (told : List Message) where
  -- The step sets the gateway in a place, and what it runs on, and sends these messages.
  pub record Sets : Type 0 where
    pub world : world_after v step
        ≡ record v.world { gateways = set v.world.gateways k g; messages = v.world.messages ++ told }
    pub machines : machines_after v step ≡ set v.machines k m

  -- The replay's machine was set, and then its messages were sent.
  pub record HasSet (before after : List ℕ) (r : real.Machine) (old mid new : Replay) : Type 0 where
    pub stands : MachineStands v.setup k g m r
    pub rest : mid ≡ record old { gateways = mid.gateways }
    pub gateways : mid.gateways.items ≡ set old.gateways.items k r
    pub sends : HasSent told before after mid new

  module _ (sets : Sets) where
    pub sends_are : sent_by v step ≡ numbered_from (length v.world.messages) told
    sends_are = cc (sets.world, drop_front v.world.messages told)

    module _ (before after : List ℕ) (r : real.Machine) (old mid new : Replay)
        (stands : Stands (record v { waiting = waiting_left v.waiting step }) old)
        (done : HasSet before after r old mid new) where
      leaves_set : Leaves v step told before after old mid new
      leaves_set =
          let here : k ≡ 0 + k = omega arith in
          let each = each_set _ 0 _ _ _ stands.gateways k r (rw here at done.stands) in
          let new_gateways : new.gateways.items ≡ set old.gateways.items k r = cc (done.sends.rest, done.gateways) in
          record {
            messages = ap (λ (w : World). w.messages) sets.world;
            now = ap (λ (w : World). w.now) sets.world;
            many_gateways = cc (sets.world, length-set v.world.gateways k g);
            many_nodes = ap (λ (w : World). length w.nodes) sets.world;
            starts = subst (λ (w : World). All CountsStarts w.nodes) (sym sets.world) stands.starts;
            gateways = rw (ap (λ (w : World). w.gateways) sets.world) (rw sets.machines (rw new_gateways each));
            nodes = ap (λ (p : Replay). p.nodes.items) done.sends.rest ∙ ap (λ (p : Replay). p.nodes.items) done.rest
                ∙ stands.nodes ∙ ap (λ (w : World). nodes_from (length v.world.gateways) 0 w.nodes) (sym sets.world);
            many = cc (new_gateways, length-set old.gateways.items k r);
            kept = ap (λ (p : Replay). record p { gateways = old.gateways; nodes = old.nodes }) done.rest;
            sends = done.sends;
          }

      pub stands_set : Stands (after_step v step) new
      stands_set = stands_then v step told before after old mid new stands leaves_set

      -- What is told of the step is the messages that it sends.
      pub does_set : step_notices v step ≡ sent_notices (sent_by v step) → Does v step before after new
      does_set is = record {
        stands = stands_set;
        prints = cc (done.sends.prints, messages_before v step told _ _ old mid new stands leaves_set, sends_are);
      }
