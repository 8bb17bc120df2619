-- A replay that begins.
use Rattle.std.proofs.Common.{◌≡◌, refl, ℕ, zero, suc, ◌+◌, ◌≤◌, List, [], ◌∷◌, ◌++◌, All, length, arith, vec_capacity, false, ◌∙◌, sym, Bool, if◌then◌else◌, Option, length-set, Some, None, true}
use Rattle.replay_world.proofs.Names.{after_step, after_steps, Began, begun, CountsStarts, EachStands, Event, first_gateway, first_machine, Gateway, HaveMachines, IsReached, Line, line_after, lines_after, LogEntry, Loses, Machine, machines_after, machines_at, machines_in, MachineStands, node_value, nodes_from, option_map_or, Plays, Replay, ReplayValue, rules_in, Setup, Site, site_of, Stands, starts_in, Step, steps_of, Tells, times_of, with_machine, World, world_after}
use Rattle.replay_gateway.specs.declared.machine.Machine as real
use Rattle.replay_world.proofs.StandsLemmas.{each_lengths, world_holds}
use Rattle.once_core.specs.declared.event.Event.TheVariants as event

pub times_length : {A : Type 0} (n : ℕ) (a : A) → length (times_of n a) ≡ n
times_length zero a = refl
times_length (suc n) a = cc (times_length n a)

-- one more node
pub nodes_more : (gateways first count : ℕ) (log : List LogEntry) →
    nodes_from gateways first (times_of count log) ++ node_value gateways (first + count) log ∷ []
    ≡ nodes_from gateways first (times_of (suc count) log)
nodes_more gateways first zero log =
    let same : first + 0 ≡ first = omega arith in cc
nodes_more gateways first (suc count) log =
    let same : first + suc count ≡ suc first + count = omega arith in
    cc (nodes_more gateways (suc first) count log)

-- one more gateway
pub each_more : {setup : _} (first count : ℕ) (g : Gateway) (m : Machine) (rs : List real.Machine) (r : real.Machine) →
    EachStands setup first (times_of count g) (times_of count m) rs → MachineStands setup (first + count) g m r →
    EachStands setup first (times_of (suc count) g) (times_of (suc count) m) (rs ++ r ∷ [])
each_more first zero g m [] r each stands =
    let same : first + 0 ≡ first = omega arith in (rw same at stands, tt)
each_more first (suc count) g m (q ∷ rs) r each stands =
    let same : first + suc count ≡ suc first + count = omega arith in
    (each.0, each_more (suc first) count g m rs r each.1 (rw same at stands))
each_more first _ g m _ r each stands = absurd each

-- The same with the places that a loop counts.

pub each_next : (setup : Setup) {count g m : _} (rs : List real.Machine) {r : _} →
    EachStands setup 0 (times_of count g) (times_of count m) rs → MachineStands setup count g m r →
    EachStands setup 0 (times_of (count + 1) g) (times_of (count + 1) m) (rs ++ r ∷ [])
each_next setup {count} {g} {m} rs {r} each stands =
    let here : count ≡ 0 + count = omega arith in
    let next : suc count ≡ count + 1 = omega arith in
    rw (← next) (each_more 0 _ g m rs r each (rw here at stands))

pub nodes_next : (gateways count : ℕ) {nodes : _} → nodes ≡ nodes_from gateways 0 (times_of count (Began ∷ [])) →
    nodes ++ node_value gateways count (Began ∷ []) ∷ [] ≡ nodes_from gateways 0 (times_of (count + 1) (Began ∷ []))
nodes_next gateways count are =
    let here : count ≡ 0 + count = omega arith in
    let next : suc count ≡ count + 1 = omega arith in
    cc (nodes_more gateways 0 count (Began ∷ []))

all_times : {A : Type 0} (P : A → Type 0) (n : ℕ) (a : A) → P a → All P (times_of n a)
all_times P zero a is k d h = absurd (omega arith)
all_times P (suc n) a is zero d h = is
all_times P (suc n) a is (suc k) d h = all_times P n a is k d (omega arith)

began_counts : CountsStarts (Began ∷ [])
began_counts =
    let one : starts_in (Began ∷ []) ≡ 1 = refl in
    record { some = omega arith; most = omega arith; counter = refl }

-- A replay that has begun.
pub begun_stands : (s : Setup) (r : Replay) → IsReached (begun s).world →
    EachStands s 0 (times_of s.gateways (first_gateway (rules_in s))) (times_of s.gateways first_machine) r.gateways.items →
    s.gateways ≤ 255 → s.nodes ≤ 255 → r.nodes.items ≡ nodes_from s.gateways 0 (times_of s.nodes (Began ∷ [])) →
    r.moment ≡ 0 → r.messages.items ≡ [] → r.waiting.keys ≡ [] → r.areas.items ≡ [] → r.shelves.items ≡ [] →
    s.gateways ≤ vec_capacity r.areas → s.gateways ≤ vec_capacity r.shelves → r.has_failed ≡ false → Stands (begun s) r
begun_stands s r reached each few few_nodes nodes moment messages waits no_areas no_shelves areas shelves whole =
    let count = times_length s.gateways (first_gateway (rules_in s)) in
    let machines = (each_lengths s 0 _ _ _ each).1 in
    record {
      reached = reached;
      gateways = each;
      few_gateways = omega arith;
      few_nodes = omega (arith, (times_length s.nodes (Began ∷ [])));
      nodes = cc;
      starts = all_times CountsStarts _ _ began_counts;
      now = moment;
      messages = messages;
      waits = waits;
      sent = λ k d h. absurd (omega arith);
      from_one = λ k d h. absurd (omega arith);
      room = record { no_areas = no_areas; no_shelves = no_shelves; areas = omega arith; shelves = omega arith };
      whole = whole;
    }

-- Each gateway has a machine, whatever lines are run.

abbrev count : World → ℕ
count w = length w.gateways

changed_length : (v : ReplayValue) (k : ℕ) (change : Machine → Machine) →
    length (with_machine v k change) ≡ length v.machines
changed_length v k change = grind (arith, length-set)

-- No event makes a gateway, or takes one away.

world_same : (v : ReplayValue) (step : Step) → count (world_after v step) ≡ count v.world
world_same v step =
    world_holds v (λ w. count w ≡ count v.world) refl (λ k moved. length-set v.world.gateways k moved.gateway)
    (λ k call. refl) (λ now. refl) (λ w same. same) step

-- Nor is a machine made, or taken away.

site_same : (v : ReplayValue) (e : Event) (o : Option Site) →
    length (option_map_or (machines_at v e) o v.machines) ≡ length v.machines
site_same v e None = refl
site_same v e (Some site) = changed_length v site.place _

event_same : (v : ReplayValue) (e : Event) → length (machines_in v e) ≡ length v.machines
event_same v (event.Cut gateway keep) = changed_length v _ _
event_same v e = site_same v e (site_of v e)

machines_same : (v : ReplayValue) (step : Step) → length (machines_after v step) ≡ length v.machines
machines_same v (Plays e) = event_same v e
machines_same v (Loses message) = refl
machines_same v (Tells notice) = refl
machines_same v _ = changed_length v _ _

-- So each gateway has one after all lines.

either_has : (b : Bool) (u w : ReplayValue) → HaveMachines u → HaveMachines w → HaveMachines (if b then u else w)
either_has true u w first later = first
either_has false u w first later = later

steps_have : (v : ReplayValue) (steps : List Step) → HaveMachines v → HaveMachines (after_steps v steps)
steps_have v [] have = have
steps_have v (step ∷ later) have =
    let u = after_step v step in
    let first = machines_same v step ∙ have ∙ sym (world_same v step) in
    either_has _ u _ first (steps_have u later first)

pub lines_have : (v : ReplayValue) (lines : List Line) → HaveMachines v → HaveMachines (lines_after v lines)
lines_have v [] have = have
lines_have v (said ∷ later) have = lines_have (line_after v said) later (steps_have v (steps_of v said) have)

pub begun_has : (s : Setup) → HaveMachines (begun s)
begun_has s = times_length s.gateways _ ∙ sym (times_length s.gateways _)
