-- Steps at gateways for whose areas and shelves nothing is armed.
use Rattle.std.proofs.Common.{◌≡◌, ◌∙◌, refl, subst, ℕ, zero, suc, ◌-◌, ◌≤◌, ◌<◌, Bool, false, List, [], ◌∷◌, length, set, Some, None, slice_get, arith, length-set}
use Rattle.replay_world.proofs.Names.{after_step, All-set, AreUnarmed, Asked, asked_of, AsksCommit, AsksNothing, AsksReopening, Close, ends_line, Event, Fortune, fortune_by, Gateway, get_or_from_slice_get, GoesOn, history_of, is_close_due, IsIdle, Machine, machine_after, machine_with, machines_at, machines_in, making_close, marked, Message, Moved, no_running_gateway, Nothing, option_map_or, Plays, ReplayValue, Rules, sequel_of, sequel_on, site_of, slice_get_within, Stays, Step, World}
use Rattle.replay_world.proofs.GatewayEventLemmas.{machines_are, moved, IsAt, site_is, world_moved}
use Rattle.replay_world.proofs.StandsLemmas.{Sets}
use Rattle.replay_world.proofs.TakenSteps.{is_there}
use Rattle.replay_world.proofs.TakenWorlds.{marked_stays, recorded_stays}

-- Lists of which one element is set.

pub get_other : {A : Type 0} (xs : List A) (k j : ℕ) (x : A) → (j ≡ k → ⊥) → slice_get (set xs k x) j ≡ slice_get xs j
get_other [] k j x other = refl
get_other (y ∷ xs) zero zero x other = absurd (other refl)
get_other (y ∷ xs) zero (suc j) x other = refl
get_other (y ∷ xs) (suc k) zero x other = refl
get_other (y ∷ xs) (suc k) (suc j) x other = get_other xs k j x (λ same. other (cc))

pub get_same : {A : Type 0} (xs : List A) (k : ℕ) (x : A) {y : _} → slice_get xs k ≡ Some y →
    slice_get (set xs k x) k ≡ Some x
get_same [] k x is = cc
get_same (z ∷ xs) zero x is = refl
get_same (z ∷ xs) (suc k) x is = get_same xs k x is

pub found : {A : Type 0} (xs : List A) (k : ℕ) → k < length xs → (x : A) × (slice_get xs k ≡ Some x)
found [] k less = absurd (omega arith)
found (x ∷ xs) zero less = (x, refl)
found (x ∷ xs) (suc k) less = found xs k (omega arith)

-- of each machine nothing is armed
pub unarmed_there : (v : ReplayValue) (k : ℕ) (m : Machine) → slice_get v.machines k ≡ Some m → AreUnarmed v →
    IsIdle m
unarmed_there v k m is unarmed =
    subst IsIdle (get_or_from_slice_get v.machines k m m is)
    (unarmed k m (slice_get_within v.machines k m is))

-- A step that sets one gateway.
module _ (v : ReplayValue) (step : Step) (k : ℕ) (g : Gateway) (m : Machine) (sends : List Message)
    (sets : Sets v step k g m sends) where
  pub stays_set : IsIdle m → AreUnarmed v → Stays v (after_step v step) k
  stays_set is unarmed = record {
    unarmed = rw sets.machines (All-set IsIdle v.machines k m is unarmed);
    count = cc (sets.world, length-set v.world.gateways k g);
    others = λ j other. cc (sets.world, get_other v.world.gateways k j g other);
  }

  pub there_then : (h : Gateway) → slice_get v.world.gateways k ≡ Some h →
      slice_get (after_step v step).world.gateways k ≡ Some g
  there_then h has = cc (sets.world, get_same _ k g has)

pub stays_none : (v : ReplayValue) (k : ℕ) → AreUnarmed v → Stays v v k
stays_none v k unarmed = record { unarmed = unarmed; count = refl; others = λ j other. refl }

pub stays_then : (v u w : ReplayValue) (k : ℕ) → Stays v u k → Stays u w k → Stays v w k
stays_then v u w k first later = record {
  unarmed = later.unarmed;
  count = later.count ∙ first.count;
  others = λ j other. later.others j other ∙ first.others j other;
}

-- a gateway that is there and isn't down runs
pub running_there : (w : World) (number : ℕ) (g : Gateway) → 1 ≤ number → number ≤ length w.gateways →
    slice_get w.gateways (number - 1) ≡ Some g → g.is_down ≡ false → no_running_gateway w number ≡ None
running_there w number g some few has runs = cc (is_there (length w.gateways) number some few)

-- What comes of a call where nothing is armed.

pub nothing_on : (asked : Asked) (at_last : Bool) → sequel_of asked Nothing at_last ≡ GoesOn Nothing
nothing_on AsksNothing at_last = refl
nothing_on _ at_last = refl

pub goes_on_then : (m : Machine) (asked : Asked) → m.armed ≡ Nothing → sequel_on m asked ≡ GoesOn Nothing
goes_on_then m asked is = cc (nothing_on asked m.at_last)

idle_with : (m : Machine) {s : _} → s ≡ GoesOn Nothing → IsIdle m → IsIdle (machine_with m s)
idle_with m is idle = (cc, cc idle.1)

pub unarmed_after : (asked : Asked) (m : Machine) → IsIdle m → IsIdle (machine_after asked m)
unarmed_after AsksNothing m is = is
unarmed_after AsksCommit m is = idle_with m (goes_on_then m AsksCommit is.0) is
unarmed_after AsksReopening m is = idle_with m (goes_on_then m AsksReopening is.0) is

-- a Close leaves the gateway up
pub close_stays_up : (rules : Rules) (f : Fortune) (now : ℕ) (g : Gateway) →
    (marked rules f (making_close now) g).gateway.is_down ≡ g.is_down
close_stays_up rules f now =
    marked_stays rules f (making_close now) (λ h. recorded_stays (is_close_due (history_of h.book)) now Close h)

-- An event at a gateway for whose area nothing is armed.
module _ (v : ReplayValue) (e : Event) (number : ℕ) (g : Gateway) (m : Machine) (move : Fortune → Gateway → Moved)
    (at : IsAt v e number g m move) (same : machines_in v e ≡ option_map_or (machines_at v e) (site_of v e) v.machines)
    (unarmed : IsIdle m) where
  abbrev asked : Asked
  asked = asked_of v.world g e

  abbrev done : Moved
  done = moved v e _ g m _ at

  pub sets_at : Sets v (Plays e) (number - 1) done.gateway (machine_after asked m) done.sends
  sets_at = record { world = world_moved v e _ g m _ at; machines = machines_are v e _ g m _ at same }

  pub line_goes_on : ends_line v (Plays e) ≡ false
  line_goes_on = cc (site_is v e number g m _ at, goes_on_then m asked unarmed.0)

  pub stays_at : AreUnarmed v → Stays v (after_step v (Plays e)) (number - 1)
  stays_at all = stays_set v _ _ _ _ _ sets_at (unarmed_after _ m unarmed) all

  -- it is up as before
  pub up_at : ((f : Fortune) → (move f g).gateway.is_down ≡ g.is_down) → done.gateway.is_down ≡ g.is_down
  up_at stays = cc (goes_on_then m asked unarmed.0, stays (fortune_by m.at_last (GoesOn Nothing)))

  pub runs_after : 1 ≤ number → number ≤ length v.world.gateways → g.is_down ≡ false → AreUnarmed v →
      ((f : Fortune) → (move f g).gateway.is_down ≡ g.is_down) →
      no_running_gateway (after_step v (Plays e)).world number ≡ None
  runs_after some few runs all stays =
      let after = stays_at all in
      running_there (after_step v (Plays e)).world number done.gateway some (omega (arith, after.count))
      (there_then v (Plays e) (number - 1) done.gateway (machine_after asked m) done.sends sets_at g at.has_gateway)
      (up_at stays ∙ runs)
