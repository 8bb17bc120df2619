-- An event at a gateway that runs: what it makes of a replay, once its machine was called and its messages were sent.
use Rattle.std.proofs.Common.{◌≡◌, ◌∙◌, refl, ap, ℕ, ◌+◌, ◌-◌, ◌≤◌, true, false, Some, None, slice_get, arith, List, length, set, sym, not, ◌++◌, append_assoc, Bool, [], Option, Result, Ok, Err, IfOk, OnOk, append-nil}
use Rattle.replay_world.proofs.Names.{after_step, asked_by, asked_move, asked_of, asked_to_ready, at_gateway, Breaks, came_notices, came_of, cut, device_notices, DoesOrEnds, ends_line, entries_kept, Event, event_asked, flat_map-append, Fortune, fortune_by, Gateway, gateway_moved, goes_on_after, GoesAsArmed, GoesOn, HasSent, is_none_of, is_stop, lost_if, Machine, machine_after, machines_at, machines_in, MachineStands, making_close, making_tick, marked, Moved, moved_by, nat_tests, no_running_gateway, NoGateway, Notice, notice_line, notice_lines, notices_first, notices_last, numbered_from, option_map_or, option_or, place_asked, Plays, refusal_of, refusing, Replay, ReplayValue, rules_in, sent_by, sent_notices, Sequel, sequel_on, Site, site_of, Stands, step_notices, still, Stopped, Stops, Turn, turn, turn_by, turn_with, waiting_in, World, world_after, WorldKind}
use Rattle.replay_gateway.specs.declared.machine.Machine as real
use Rattle.replay_gateway.specs.declared.machine.Sent.{Sent}
use Rattle.replay_world.proofs.StandsLemmas.{drop_front, stands_set, StandsAt, each_at, each_lengths}
use Rattle.replay_gateway.specs.declared.calls.GatewayCall.{GatewayCall}
use Rattle.replay_gateway.specs.declared.calls.GatewayCall.TheVariants as call

-- What an event at a gateway makes of a replay, by what is armed there.

-- a move at a gateway that is there
pub moved_there : (w : World) (k : ℕ) {g : _} (move : Gateway → Moved) → slice_get w.gateways k ≡ Some g →
    at_gateway w k move ≡ gateway_moved w k (move g)
moved_there w k move is = cc

-- a turn that the world allows
pub allowed_turn : (v : ReplayValue) (t : Turn) → refusal_of v.world t.event ≡ None →
    turn (rules_in v.setup) v.world t ≡ lost_if t.is_lost v.world (turn_by (rules_in v.setup) v.world t t.event)
allowed_turn v t none = cc

module _ (v : ReplayValue) (e : Event) (number : ℕ) (g : Gateway) (m : Machine) where
  -- The event is at this gateway, and moves it so where the world allows it.
  pub record IsAt (move : Fortune → Gateway → Moved) : Type 0 where
    pub asks : place_asked v.world e ≡ Some (number - 1)
    pub from_one : 1 ≤ number
    pub has_gateway : slice_get v.world.gateways (number - 1) ≡ Some g
    pub has_machine : slice_get v.machines (number - 1) ≡ Some m
    pub allowed : refusal_of v.world e ≡ None
    pub runs : is_stop (sequel_on m (asked_of v.world g e)) ≡ true → no_running_gateway v.world number ≡ None
    pub moves : (f : Fortune) →
        turn_by (rules_in v.setup) v.world (record { event = e; fortune = f; is_lost = false; held = None }) e
        ≡ at_gateway v.world (number - 1) (move f)

  module _ (move : Fortune → Gateway → Moved) (at : IsAt move) where
    abbrev here : Site
    here = record { place = number - 1; gateway = g; machine = m }

    pub site_is : site_of v e ≡ Some here
    site_is = cc (at.asks, at.has_gateway, at.has_machine)

    -- by what comes of the call
    by_sequel : (s : Sequel) → (is_stop s ≡ true → no_running_gateway v.world number ≡ None) →
        turn (rules_in v.setup) v.world (turn_with g (number - 1) e m.at_last s)
        ≡ gateway_moved v.world (number - 1) (moved_by s move m g)
    by_sequel (GoesOn armed) runs =
        allowed_turn v (turn_with g (number - 1) e m.at_last (GoesOn armed)) at.allowed
        ∙ at.moves (fortune_by m.at_last (GoesOn armed))
        ∙ moved_there v.world _ (move (fortune_by m.at_last (GoesOn armed))) at.has_gateway
    by_sequel (Breaks last) runs =
        allowed_turn v (turn_with g (number - 1) e m.at_last (Breaks last)) at.allowed
        ∙ at.moves (fortune_by m.at_last (Breaks last))
        ∙ moved_there v.world _ (move (fortune_by m.at_last (Breaks last))) at.has_gateway
    by_sequel (Stops stands) runs =
        let again : number - 1 + 1 ≡ number = omega arith in
        let back : number - 1 + 1 - 1 ≡ number - 1 = omega arith in
        allowed_turn v (turn_with g (number - 1) e m.at_last (Stops stands)) (cc (runs refl))
        ∙ ap (λ k. at_gateway v.world k (λ h. still (cut (entries_kept stands g) h))) back
        ∙ moved_there v.world _ (λ h. still (cut (entries_kept stands g) h)) at.has_gateway

    pub world_moved : world_after v (Plays e)
        ≡ gateway_moved v.world (number - 1) (moved_by (sequel_on m (asked_of v.world g e)) move m g)
    world_moved = cc (site_is, by_sequel _ at.runs)

-- A replay stands for what an event at a gateway makes of it, once the gateway moved and its messages were sent.

module _ (v : ReplayValue) (e : Event) (number : ℕ) (g : Gateway) (m : Machine) (move : Fortune → Gateway → Moved)
    (at : IsAt v e number g m move) where
  abbrev pub moved : Moved
  moved = moved_by (sequel_on m (asked_of v.world g e)) move m g

  pub sends_are : sent_by v (Plays e) ≡ numbered_from (length v.world.messages) moved.sends
  sends_are = cc (world_moved v e number g m _ at, drop_front v.world.messages moved.sends)

  pub machines_are : machines_in v e ≡ option_map_or (machines_at v e) (site_of v e) v.machines →
      machines_in v e ≡ set v.machines (number - 1) (machine_after (asked_of v.world g e) m)
  machines_are same = cc (site_is v e number g m _ at, at.has_machine)

  -- The gateway's machine was called, and then its messages were sent.
  pub record Moves (before after : List ℕ) (sent : Sent) (r : real.Machine) (old mid new : Replay) : Type 0 where
    pub goes : GoesAsArmed v.setup (number - 1) (asked_of v.world g e) move g m sent r
    pub rest : mid ≡ record old { gateways = mid.gateways }
    pub gateways : mid.gateways.items ≡ set old.gateways.items (number - 1) r
    pub sends : HasSent sent.messages.items before after mid new

  module _ (before after : List ℕ) (sent : Sent) (r : real.Machine) (old mid new : Replay)
      (stands : Stands (record v { waiting = waiting_in v.waiting e }) old)
      (same : machines_in v e ≡ option_map_or (machines_at v e) (site_of v e) v.machines)
      (done : Moves before after sent r old mid new) where
    pub stands_after : Stands (after_step v (Plays e)) new
    stands_after =
        stands_set v (Plays e) (number - 1) moved.gateway (machine_after (asked_of v.world g e) m) moved.sends
        (record { world = world_moved v e number g m move at; machines = machines_are same }) before after r old mid
        new stands
        (record {
          stands = done.goes.moved.stands;
          rest = done.rest;
          gateways = done.gateways;
          sends = rw done.goes.moved.sends at done.sends;
        })

-- What is printed of an event at a gateway, and whether the line goes on.

came_told : (place : ℕ) (s : Sequel) → came_notices place (came_of s) ≡ device_notices place s
came_told place (GoesOn armed) = refl
came_told place _ = refl

came_goes : (s : Sequel) → goes_on_after (came_of s) ≡ not (is_stop s)
came_goes (GoesOn armed) = refl
came_goes _ = refl

pub lines_join : (first later : List Notice) → notice_lines (first ++ later) ≡ notice_lines first ++ notice_lines later
lines_join first later = flat_map-append notice_line first later

module _ (v : ReplayValue) (e : Event) (number : ℕ) (g : Gateway) (m : Machine) (move : Fortune → Gateway → Moved)
    (at : IsAt v e number g m move) where
  pub first_told : notices_first v e ≡ device_notices (number - 1) (sequel_on m (asked_of v.world g e))
  first_told = cc (site_is v e number g m _ at)

  pub line_goes : {came : _} → came ≡ came_of (sequel_on m (asked_of v.world g e)) →
      goes_on_after came ≡ not (ends_line v (Plays e))
  line_goes is = cc (came_goes (sequel_on m (asked_of v.world g e)), site_is v e number g m _ at)

  -- what the area did, then the messages, then what became of the one that came
  pub step_told : {came sends : _} (before : List ℕ) {middle after : _} →
      came ≡ came_of (sequel_on m (asked_of v.world g e)) → sends ≡ sent_by v (Plays e) →
      middle ≡ (before ++ notice_lines (came_notices (number - 1) came)) ++ notice_lines (sent_notices sends) →
      after ≡ middle ++ notice_lines (notices_last v e) → after ≡ before ++ notice_lines (step_notices v (Plays e))
  step_told {came} {sends} before came_is sends_are first last =
      let told = notices_last v e in
      let device = came_notices (number - 1) came in
      let device_is : device ≡ notices_first v e =
      ap (came_notices (number - 1)) came_is ∙ came_told (number - 1) (sequel_on m (asked_of v.world g e))
      ∙ sym first_told in
      cc (
        append_assoc (before ++ notice_lines device) (notice_lines (sent_notices sends)) (notice_lines told),
        append_assoc before (notice_lines device) (notice_lines (sent_notices sends) ++ notice_lines told),
        lines_join (sent_notices sends) told,
        lines_join device (sent_notices sends ++ told),
      )

-- An event at a gateway that runs, once its machine was called and its messages were sent.

-- A gateway that isn't refused is there, and runs.

pub none_of : (count number : ℕ) → is_none_of count number ≡ false → (1 ≤ number) × (number ≤ count)
none_of count number is = grind (arith, nat_tests)

-- what isn't refused
pub refused_not : (b : Bool) (why : WorldKind) → refusing b why ≡ None → b ≡ false
refused_not b why is = grind arith

pub first_not : (b : Bool) (why : WorldKind) (later : Option WorldKind) → option_or (refusing b why) later ≡ None →
    b ≡ false
first_not b why later is = grind arith

running_by : (b c : Bool) → option_or (refusing b NoGateway) (refusing c Stopped) ≡ None → (b ≡ false) × (c ≡ false)
running_by false false is = (refl, refl)
running_by _ _ is = absurd (cc)

pub is_there : (w : World) (number : ℕ) → no_running_gateway w number ≡ None →
    (1 ≤ number) × (number ≤ length w.gateways)
is_there w number none = none_of _ _ (running_by _ _ none).0

pub runs_there : (w : World) (number : ℕ) {g : _} → slice_get w.gateways (number - 1) ≡ Some g →
    no_running_gateway w number ≡ None → g.is_down ≡ false
runs_there w number has none = cc ((running_by _ _ none).1)

module _ (v : ReplayValue) (old : Replay) (stands : Stands v old) where
  -- so many machines are there
  pub machines_count : length old.gateways.items ≡ length v.world.gateways
  machines_count = (each_lengths _ 0 _ _ _ stands.gateways).1

  -- a place beyond them isn't a running gateway's
  pub no_machine : {A : Type 0} (number : ℕ) {place : _} → number - 1 ≡ place →
      no_running_gateway v.world number ≡ None → length old.gateways.items ≤ place → A
  no_machine number is none beyond =
      let there = is_there v.world number none in absurd (omega (arith, there.0, there.1, is, beyond, machines_count))

  pub machine_at : (number : ℕ) {place r : _} → number - 1 ≡ place → slice_get old.gateways.items place ≡ Some r →
      StandsAt v.setup 0 v.world.gateways v.machines (number - 1) r
  machine_at number is has = each_at _ 0 _ _ _ stands.gateways _ (ap (slice_get old.gateways.items) is ∙ has)

-- The event of a gateway that runs.
pub at_running : (v : ReplayValue) (e : Event) (number : ℕ) (move : Fortune → Gateway → Moved) {r : _}
    (here : StandsAt v.setup 0 v.world.gateways v.machines (number - 1) r) → place_asked v.world e ≡ Some (number - 1) →
    no_running_gateway v.world number ≡ None → refusal_of v.world e ≡ None →
    ((f : Fortune) → turn_by (rules_in v.setup) v.world
    (record { event = e; fortune = f; is_lost = false; held = None }) e ≡ at_gateway v.world (number - 1)
    (move f)) →
    IsAt v e number here.gateway here.machine move
at_running v e number move here asks none allowed moves = let there = is_there v.world _ none in assumption

-- The machine in a place stands as it is called.
pub called_stands : (v : ReplayValue) (number : ℕ) {r : _}
    (here : StandsAt v.setup 0 v.world.gateways v.machines (number - 1) r) →
    MachineStands v.setup (number - 1) here.gateway here.machine r
called_stands v number here =
    let same : 0 + (number - 1) ≡ number - 1 = omega arith in
    rw same at here.stands

module _ (v : ReplayValue) (e : Event) (number : ℕ) (g : Gateway) (m : Machine) (move : Fortune → Gateway → Moved)
    (at : IsAt v e number g m move) (same : machines_in v e ≡ option_map_or (machines_at v e) (site_of v e) v.machines)
    (before after : List ℕ) (sent : Sent) (r : real.Machine) (old mid new : Replay)
    (stands : Stands (record v { waiting = waiting_in v.waiting e }) old)
    (done : Moves v e number g m move at (before ++ notice_lines (came_notices (number - 1) sent.came)) after sent r old
    mid new) where
  messages_before : mid.messages.items ≡ v.world.messages
  messages_before = ap (λ (p : Replay). p.messages.items) done.rest ∙ stands.messages

  -- what was sent was numbered as the step says
  numbered_is : numbered_from (length mid.messages.items) sent.messages.items ≡ sent_by v (Plays e)
  numbered_is = cc (messages_before, done.goes.moved.sends, sends_are v e _ g m _ at)

  -- The event's last notices were printed behind the messages.
  pub does_event : {on told : _} → on ≡ goes_on_after sent.came →
      told ≡ after ++ notice_lines (notices_last v e) → DoesOrEnds v (Plays e) before told new on
  does_event on_is told_is = record {
    does = record {
      stands = stands_after v e _ g m _ at _ _ _ r old mid new stands same done;
      prints = step_told v e _ g m _ at _ done.goes.came numbered_is done.sends.prints told_is;
    };
    goes = on_is ∙ line_goes v e _ g m _ at done.goes.came;
  }

  -- It has none.
  pub does_quietly : {on : _} → on ≡ goes_on_after sent.came → notices_last v e ≡ [] →
      DoesOrEnds v (Plays e) before after new on
  does_quietly on_is none = does_event on_is (sym (append-nil after) ∙ ap (λ ns. after ++ notice_lines ns) (sym none))

-- The same of a call that may lack memory, at a place.
module _ (v : ReplayValue) (e : Event) (number place : ℕ) (g : Gateway) (m : Machine)
    (move : Fortune → Gateway → Moved) (at : IsAt v e number g m move)
    (same : machines_in v e ≡ option_map_or (machines_at v e) (site_of v e) v.machines) (before after : List ℕ)
    (sent : Sent) (r : real.Machine) (old mid new : Replay)
    (stands : Stands (record v { waiting = waiting_in v.waiting e }) old) (is : number - 1 ≡ place)
    (goes : GoesAsArmed v.setup (number - 1) (asked_of v.world g e) move g m sent r)
    (rest : mid ≡ record old { gateways = mid.gateways })
    (gateways : mid.gateways.items ≡ set old.gateways.items place r) where
  -- what was done, once the messages were sent
  pub moves_at : HasSent sent.messages.items (before ++ notice_lines (came_notices place sent.came)) after mid new →
      Moves v e number g m move at (before ++ notice_lines (came_notices (number - 1) sent.came)) after sent r old mid new
  moves_at sends = record { goes = goes; rest = rest; gateways = cc; sends = rw is sends }

  pub sent_quietly : {E : Type 0} (result : Result Bool E) → notices_last v e ≡ [] →
      OnOk result (HasSent sent.messages.items (before ++ notice_lines (came_notices place sent.came)) after mid new) →
      IfOk result (λ on. on ≡ goes_on_after sent.came) →
      IfOk result (λ on. DoesOrEnds v (Plays e) before after new on)
  sent_quietly (Ok on) none sends on_is =
      does_quietly v e _ g m _ at same _ _ _ r old mid new stands (moves_at sends) on_is none
  sent_quietly (Err fault) none sends on_is = tt

-- A mark that was made at the replay's moment was made at the world's.
pub at_now : {t u : ℕ} {setup place g m : _} (mark : ℕ → Gateway → Moved) → t ≡ u → {sent r : _} →
    GoesAsArmed setup place (asked_to_ready g.book) (λ f. marked (rules_in setup) f (mark t)) g m sent r →
    GoesAsArmed setup place (asked_to_ready g.book) (λ f. marked (rules_in setup) f (mark u)) g m sent r
at_now mark same goes = rw same at goes

-- What a line asks of a gateway's book, as an event, call by call.

module _ (v : ReplayValue) (number : ℕ) where
  pub asked_place : (asks : GatewayCall) → place_asked v.world (event_asked asks number) ≡ Some (number - 1)
  asked_place call.Commit = refl
  asked_place _ = refl

  pub asked_allowed : (asks : GatewayCall) → no_running_gateway v.world number ≡ None →
      refusal_of v.world (event_asked asks number) ≡ None
  asked_allowed call.Commit none = none
  asked_allowed _ none = none

  pub asked_turn : (asks : GatewayCall) (f : Fortune) →
      turn_by (rules_in v.setup) v.world
      (record { event = event_asked asks number; fortune = f; is_lost = false; held = None }) (event_asked asks number)
      ≡ at_gateway v.world (number - 1) (asked_move v.setup v.world.now asks f)
  asked_turn call.Commit f = refl
  asked_turn _ f = refl

  pub asked_machines : (asks : GatewayCall) → machines_in v (event_asked asks number)
      ≡ option_map_or (machines_at v (event_asked asks number)) (site_of v (event_asked asks number)) v.machines
  asked_machines call.Commit = refl
  asked_machines _ = refl

  pub asked_tells : (asks : GatewayCall) → notices_last v (event_asked asks number) ≡ []
  asked_tells call.Commit = refl
  asked_tells _ = refl

  pub asked_waiting : (asks : GatewayCall) → waiting_in v.waiting (event_asked asks number) ≡ v.waiting
  asked_waiting call.Commit = refl
  asked_waiting _ = refl

  -- the world asks the same, at the same moment
  pub asked_there : (asks : GatewayCall) {place g m : _} (t : ℕ) → t ≡ v.world.now → (sent : Sent) (r : real.Machine) →
      GoesAsArmed v.setup place (asked_by asks g.book) (asked_move v.setup t asks) g m sent r →
      GoesAsArmed v.setup place (asked_of v.world g (event_asked asks number))
      (asked_move v.setup v.world.now asks) g m sent r
  asked_there call.Commit t same sent r goes = goes
  asked_there call.Mark t same sent r goes = at_now (making_tick (rules_in v.setup)) same goes
  asked_there call.Close t same sent r goes = at_now making_close same goes
