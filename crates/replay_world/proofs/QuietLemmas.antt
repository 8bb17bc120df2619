-- What is done at a gateway that asks no device: it is stopped between two calls, opened again, redirects, or its files are
-- written, or something is armed for its area or its shelf.
use Rattle.std.proofs.Common.{◌≡◌, ◌∙◌, refl, sym, ap, ℕ, ◌-◌, ◌≤◌, Bool, true, false, not, [], ◌∷◌, ◌++◌, length, set, Option, Some, None, option_map, slice_get, arith, append-nil}
use Rattle.replay_world.proofs.Names.{Armed, Arms, ArmsShelf, at_gateway, calm, Came, came_steps, Disarms, Does, Event, files_in, files_written, filing_then, Gateway, gateway_moved, HasMoved, HasSent, is_down_in, items_firm, items_of, Machine, machines_in, MachineStands, Moved, no_gateway, no_running_gateway, NoGateway, notices_last, option_or, Plays, Ran, redirected, refusal_of, refusing, Replay, ReplayValue, rules_in, Running, sent_by, sent_notices, shelf_armed, shelf_came, site_of, Stands, step_notices, steps_behind, turn_by, unarmed, waiting_left, with_machine, World, world_after, WorldKind, write_steps, Writes}
use Rattle.once_core.specs.declared.event.Event.TheVariants as event
use Rattle.replay_gateway.specs.Written.{wrote_by}
use Rattle.replay_world.proofs.GatewayEventLemmas.{machines_count, none_of, allowed_turn, moved_there}
use Rattle.replay_world.proofs.NodeEventLemmas.{set_same}
use Rattle.replay_world.proofs.StepsLemmas.{sent_none}
use Rattle.replay_world.proofs.StandsLemmas.{Sets, does_set, sends_are}

-- what a gateway in a place runs on once its files were written
abbrev pub filed_machine : ReplayValue → ℕ → Gateway → Machine → Machine
filed_machine v k g m = record m { filing = filing_then (files_in v.setup k) (items_of g.book.firm) m.filing }

module _ (v : ReplayValue) (k : ℕ) (g : Gateway) (m : Machine) (has_gateway : slice_get v.world.gateways k ≡ Some g)
    (has_machine : slice_get v.machines k ≡ Some m) where
  -- the world as it is
  same_world : v.world ≡ record v.world { gateways = set v.world.gateways k g; messages = v.world.messages ++ [] }
  same_world = λ i. record {
    gateways = sym (set_same _ k has_gateway) i;
    nodes = v.world.nodes;
    now = v.world.now;
    messages = sym (append-nil v.world.messages) i;
  }

  -- the machine that a step changes
  pub changed : (change : Machine → Machine) → with_machine v k change ≡ set v.machines k (change m)
  changed change = cc

  -- Something is armed, or files are written.

  pub arms : (armed : Armed) → Sets v (Arms k armed) k g (record m { armed = armed }) []
  arms armed = record { world = same_world; machines = changed _ }

  pub arms_shelf : (armed : Armed) → Sets v (ArmsShelf k armed) k g (shelf_armed armed m) []
  arms_shelf armed = record { world = same_world; machines = changed _ }

  pub disarms : Sets v (Disarms k) k g (unarmed m) []
  disarms = record { world = same_world; machines = changed _ }

  pub items_are : items_firm v k ≡ items_of g.book.firm
  items_are = cc

  pub writes : Sets v (Writes k) k g (filed_machine v k g m) []
  writes = record { world = same_world; machines = cc (changed (files_written v k), items_are) }

  -- what comes of the calls of its shelf
  pub written_steps : (number : ℕ) → number - 1 ≡ k →
      write_steps v number
      ≡ Writes (number - 1) ∷ came_steps number (shelf_came (files_in v.setup k) (items_of g.book.firm) m.filing)
  written_steps number is = cc items_are

  behind_is : (number : ℕ) (c : Came) → steps_behind number (wrote_by c) ≡ came_steps number c
  behind_is number (Ran a) = refl
  behind_is number _ = refl

  pub written_behind : (number : ℕ) {w : _} → number - 1 ≡ k →
      w ≡ wrote_by (shelf_came (files_in v.setup k) (items_of g.book.firm) m.filing) →
      write_steps v number ≡ Writes (number - 1) ∷ steps_behind number w
  written_behind number is came =
      written_steps _ is
      ∙ ap (λ steps. Writes (number - 1) ∷ steps)
      (sym (behind_is number (shelf_came (files_in v.setup k) (items_of g.book.firm) m.filing)))
      ∙ ap (λ x. Writes (number - 1) ∷ steps_behind number x) (sym came)

  -- An event moves the gateway.
  module _ (e : Event) (move : Gateway → Moved) (no_site : site_of v e ≡ None) (allowed : refusal_of v.world e ≡ None)
      (moves : turn_by (rules_in v.setup) v.world (calm e) e ≡ at_gateway v.world k move) where
    world_moved : world_after v (Plays e) ≡ gateway_moved v.world k (move g)
    world_moved = cc (allowed_turn v (calm e) allowed, moved_there v.world k move has_gateway)

    pub plays : (n : Machine) → machines_in v e ≡ set v.machines k n →
        Sets v (Plays e) k (move g).gateway n (move g).sends
    plays n machines = record { world = world_moved; machines = machines }

    pub told_sent : notices_last v e ≡ [] → step_notices v (Plays e) ≡ sent_notices (sent_by v (Plays e))
    told_sent none = cc (append-nil (sent_notices (sent_by v (Plays e))))

  pub machines_stay : v.machines ≡ set v.machines k m
  machines_stay = sym (set_same _ k has_machine)

-- What is told of a step that sends nothing.
pub told_nothing : {v step k g m : _} → Sets v step k g m [] →
    step_notices v step ≡ [] → step_notices v step ≡ sent_notices (sent_by v step)
told_nothing {v} {step} {k} {g} {m} sets none = none ∙ sym (ap sent_notices (sends_are v step k g m [] sets))

-- A machine was set, and nothing is sent or told.
pub does_quietly : {v step k g m r old : _} (new : Replay) → Sets v step k g m [] →
    step_notices v step ≡ sent_notices (sent_by v step) →
    Stands (record v { waiting = waiting_left v.waiting step }) old → MachineStands v.setup k g m r →
    new ≡ record old { gateways = new.gateways } → new.gateways.items ≡ set old.gateways.items k r →
    Does v step [] [] new
does_quietly {v} {k} {g} {m} {r} {old} new sets told stands stood rest gateways =
    does_set v _ k g m [] sets [] [] r old new new stands (record {
      stands = stood;
      rest = rest;
      gateways = gateways;
      sends = sent_none [] new;
    }) told

-- A gateway that is opened again is there, and down.

opening_by : (b c : Bool) → option_or (refusing b NoGateway) (refusing (not c) Running) ≡ None → (b ≡ false) × (c ≡ true)
opening_by false true is = (refl, refl)
opening_by _ _ is = absurd (cc)

pub is_there_down : (w : World) (number : ℕ) → refusal_of w (event.Open number) ≡ None →
    (1 ≤ number) × (number ≤ length w.gateways) × (is_down_in w number ≡ true)
is_there_down w number none =
    let is = opening_by _ _ none in
    let there = none_of _ _ is.0 in
    (there.0, there.1, is.1)

pub down_there : (w : World) (number : ℕ) {g : _} → slice_get w.gateways (number - 1) ≡ Some g →
    is_down_in w number ≡ true → g.is_down ≡ true
down_there w number has down = cc

pub no_machine_down : {A : Type 0} (v : ReplayValue) (number : ℕ) {place old : _} → Stands v old → number - 1 ≡ place →
    refusal_of v.world (event.Open number) ≡ None → length old.gateways.items ≤ place → A
no_machine_down v number {old} stands is none beyond =
    let there = is_there_down v.world number none in
    absurd (omega (arith, there.0, there.1, is, beyond, machines_count v old stands))

-- A gateway that redirects is there, and runs.

redirecting_by : (a b c : Option WorldKind) → option_or a (option_or b c) ≡ None → c ≡ None
redirecting_by None None c is = is
redirecting_by _ _ c is = absurd (cc)

pub runs_to_redirect : (w : World) (number cause : ℕ) (to : Option ℕ) →
    refusal_of w (event.Redirect number cause to) ≡ None → no_running_gateway w number ≡ None
runs_to_redirect w number cause None none = none
runs_to_redirect w number cause (Some to) none =
    redirecting_by (no_gateway w number) (no_gateway w to) (no_running_gateway w number) none

-- It moved, and its requests were sent.
pub does_redirect : (v : ReplayValue) (number cause : ℕ) (other : Option ℕ) {g m messages before after r old : _}
    (mid : Replay) {new : _} → slice_get v.world.gateways (number - 1) ≡ Some g →
    slice_get v.machines (number - 1) ≡ Some m → refusal_of v.world (event.Redirect number cause other) ≡ None →
    Stands v old → HasMoved v.setup (number - 1)
    (redirected (number - 1) cause (option_map (λ n. n - 1) other) g) m messages r →
    mid ≡ record old { gateways = mid.gateways } → mid.gateways.items ≡ set old.gateways.items (number - 1) r →
    HasSent messages before after mid new → Does v (Plays (event.Redirect number cause other)) before after new
does_redirect v number cause other {g} {m} {r} {old} mid {new} has_gateway has_machine none stands moved rest gateways
    sends =
    let k = number - 1 in
    let e = event.Redirect number cause other in
    let move = redirected k cause (option_map (λ n. n - 1) other) in
    let sets = plays v k g m has_gateway has_machine e move refl none refl m
    (machines_stay v k g m has_gateway has_machine) in
    does_set v _ k (move g).gateway m (move g).sends sets _ _ r old mid new stands
    (record { stands = moved.stands; rest = rest; gateways = gateways; sends = rw moved.sends at sends })
    (told_sent v k g m has_gateway has_machine e move refl none refl refl)
