-- Each line that a world surely takes, lines one after the other, and whole scripts.
use Rattle.std.proofs.Common.{◌≡◌, ℕ, suc, ◌==◌, ◌||◌, not, nat_le, Bool, true, false, if◌then◌else◌, List, [], ◌∷◌, length, filter, None, Result, Ok, Err, refl, sym, ap, subst, ◌∙◌, arith, eqb-true, le-leb, zero, ◌-◌, ◌<◌, ◌++◌, slice_get, leb-true}
use Rattle.replay_world.proofs.Names.{after_line, after_setting, after_settings, AllByRecursion, Allows, and_from, and_parts, are_settings_first, Began, begun, default_setup, drafted, DraftFault, Event, first_gateway, first_scene, flat_map, Gateway, has_gateway, has_node, has_running, is_stopped, IsAsSaid, Line, line_after, list_any, LogEntry, no_running_gateway, no_running_node, not-true, option_map_or, or_parts, PacketForm, Plays, range_with_len, refusal_of, refusal_of_line, refused_from, refused_or, replay_of, ReplayValue, rules_in, runs, Scene, seeded, settle_steps, settling_steps, Setup, steps_of, submit_steps, takes, times_of, Turn, turns_from, turns_of, World}
use Rattle.once_core.specs.declared.event.Event.TheVariants as event
use Rattle.replay_world.proofs.LineLemmas.{line_setup, line_world}
use Rattle.replay_world.proofs.TakenLines.{changed, disarms_all, facts, flow_passes, gateway_opens, gateway_runs, holds_said, mix_passes, moment_comes, node_runs, opens_passes, said_holds, settles_from, stops_passes, write_passes}
use Rattle.replay_world.proofs.TakenSteps.{Facts, Holds, Passes, allows_append, calm_passes, passes_none, quiet_passes, tells_passes, within}
use Rattle.replay_world.proofs.TakenWorlds.{is_quiet}
use Rattle.world_script.specs.Script.{is_setting_line, is_action_line, is_blank_line}
use Rattle.world_script.specs.World.{takes_all}
use Rattle.world_script.specs.declared.line.Line.TheVariants as line
use Rattle.replay_world.proofs.BeginningLemmas.{times_length}

-- Each line that a world surely takes, and lines one after the other.

-- ---- a line

pub record IsTaken (s : Scene) (v : ReplayValue) (said : Line) : Type 0 where
  pub allowed : refusal_of_line v said ≡ None
  pub passes : Passes v (steps_of v said) (IsAsSaid (after_line s said))

-- of the gateways that were stopped, one isn't any more
opened_one : (gateway other : ℕ) (stopped : List ℕ)
    → (if gateway == other then false else list_any (λ g. g == other) stopped)
    ≡ list_any (λ g. g == other) (filter (λ g. not (g == gateway)) stopped)
opened_one gateway other [] = by (gateway == other)
  where
    by : (b : Bool) → (if b then false else false) ≡ false
    by true = refl
    by false = refl
opened_one gateway other (first ∷ stopped) = by (first == gateway) refl (gateway == other) refl (opened_one gateway other stopped)
  where
    by : (b : Bool) → (first == gateway) ≡ b → (c : Bool) → (gateway == other) ≡ c
        → (if c then false else list_any (λ g. g == other) stopped) ≡ list_any (λ g. g == other) (filter (λ g. not (g == gateway)) stopped)
        → (if c then false else ((first == other) || list_any (λ g. g == other) stopped))
        ≡ list_any (λ g. g == other)
        (if not b then first ∷ filter (λ g. not (g == gateway)) stopped else filter (λ g. not (g == gateway)) stopped)
    by true e true k later = later
    by true e false k later = cc (eqb-true first gateway e)
    by false e true k later = cc (eqb-true gateway other k)
    by false e false k later = cc

module _ (s : Scene) (v : ReplayValue) (is : IsAsSaid s v) where
  abbrev count : ℕ
  count = length v.world.messages

  abbrev f : Facts
  f = facts s count (is_stopped s)

  holds : Holds f v
  holds = said_holds s v is

  -- as long as nothing is said of the world
  still : (u : ReplayValue) → Holds f u → IsAsSaid s u
  still u h = holds_said s _ _ u (λ gateway there. refl) h

  runs_there : (gateway : ℕ) → has_running s gateway ≡ true → (within s.gateways gateway ≡ true) × (is_stopped s gateway ≡ false)
  runs_there gateway there =
      let parts = and_parts (has_gateway s gateway) (not (is_stopped s gateway)) there in
      (parts.0, not-true (is_stopped s gateway) parts.1)

  gateway_is : (gateway : ℕ) → has_running s gateway ≡ true → no_running_gateway v.world gateway ≡ None
  gateway_is gateway there = gateway_runs f _ holds.world _ (runs_there _ there).0 (runs_there _ there).1

  node_is : (node : ℕ) → has_node s node ≡ true → no_running_node v.world node ≡ None
  node_is = node_runs f _ holds.world

  -- an event that leaves the world as the scene says
  quiet : (e : Event) → is_quiet e ≡ true → refusal_of v.world e ≡ None → Passes v (Plays e ∷ []) (IsAsSaid s)
  quiet e q allowed = quiet_passes e [] _ q allowed holds (λ u h. passes_none u _ (still u h))

  by_moment : (moment : ℕ) → takes s (line.At moment) ≡ true → IsTaken s v (line.At moment)
  by_moment moment there =
      let allowed = moment_comes f _ holds.world _ there in
      let after = record s { moment = moment } in
      record {
        allowed = allowed;
        passes = calm_passes {g = facts after count (is_stopped s)} _ [] _ refl allowed is.unarmed (record {
          gateways = is.gateways;
          nodes = is.nodes;
          moment = refl;
          messages = omega arith;
          down = is.stopped;
          running = is.running;
        }) (omega arith) holds (λ u h. passes_none u _ (holds_said _ _ _ u (λ gateway k. refl) h));
      }

  by_submit : (node format version : ℕ) (records : List (List ℕ)) → has_node s node ≡ true → IsTaken s v (line.Submit node format version records)
  by_submit node format version records there =
      record { allowed = node_is _ there; passes = by (drafted format version records) }
    where
      by : (drafted_is : Result PacketForm DraftFault) → Passes v (submit_steps node drafted_is) (IsAsSaid s)
      by (Ok form) = quiet _ refl (node_is _ there)
      by (Err fault) = tells_passes _ [] _ refl refl refl holds (λ u h. passes_none u _ (still u h))

  by_stop : (gateway : ℕ) → has_running s gateway ≡ true → IsTaken s v (line.Stop gateway)
  by_stop gateway there =
      let parts = runs_there _ there in
      record {
        allowed = gateway_is _ there;
        passes = stops_passes s _ _ v _ [] _ parts.0 parts.1 holds
            (λ u h. passes_none u _ (holds_said _ _ _ u (λ other k. either (gateway == other) (is_stopped s other)) h));
      }
    where
      either : (b c : Bool) → (if b then true else c) ≡ (b || c)
      either true c = refl
      either false c = refl

  by_open : (gateway : ℕ) → takes s (line.Open gateway) ≡ true → IsTaken s v (line.Open gateway)
  by_open gateway there =
      let after = record s { stopped = filter (λ g. not (g == gateway)) s.stopped } in
      let parts = and_parts (has_gateway s gateway) (is_stopped s gateway) there in
      record {
        allowed = gateway_opens f v.world holds.world gateway parts.0 parts.1;
        passes = opens_passes s count (is_stopped s) v gateway [] (IsAsSaid after) parts.0 parts.1 holds
            (λ u h. passes_none u (IsAsSaid after)
            (holds_said after count (changed gateway false (is_stopped s)) u (λ other k. opened_one gateway other s.stopped) h));
      }

  settles : Passes v (settle_steps v) (IsAsSaid (record s { stopped = [] }))
  settles =
      let after = record s { stopped = [] } in
      let gateways = range_with_len 1 (length v.world.gateways) in
      disarms_all f v gateways (flat_map (settling_steps v) gateways) (IsAsSaid after) holds
      (λ u h. subst (λ (n : ℕ). Passes u (flat_map (settling_steps v) (range_with_len 1 n)) (IsAsSaid after)) (sym is.gateways)
      (settles_from s count v 1 s.gateways (is_stopped s) u (IsAsSaid after) (omega arith) (omega arith)
      (λ gateway low high. absurd (omega (arith, low, high)))
      (λ gateway low high. is.stopped gateway (and_from (nat_le 1 gateway) (nat_le gateway s.gateways) (le-leb 1 gateway low) (le-leb gateway s.gateways high)))
      h
      (λ w k. holds_said after count (λ gateway. false) w (λ gateway there. refl) k)))

  pub line_taken : (said : Line) → is_setting_line said ≡ false → takes s said ≡ true → IsTaken s v said
  line_taken line.Blank action there = record { allowed = refl; passes = passes_none v (IsAsSaid s) is }
  line_taken (line.At moment) action there = by_moment moment there
  line_taken (line.Mark gateway) action there =
      let allowed = gateway_is gateway there in
      record { allowed = allowed; passes = quiet (event.Mark gateway) refl allowed }
  line_taken (line.Close gateway) action there =
      let allowed = gateway_is gateway there in
      record { allowed = allowed; passes = quiet (event.Close gateway) refl allowed }
  line_taken (line.Submit node format version records) action there = by_submit node format version records there
  line_taken (line.Tick node) action there =
      let allowed = node_is node there in record { allowed = allowed; passes = quiet (event.Tick node) refl allowed }
  line_taken line.Flow action there =
      record { allowed = refl; passes = flow_passes f v v.waiting (IsAsSaid s) is.sent holds still }
  line_taken (line.Mix seed) action there =
      record { allowed = refl; passes = mix_passes f v (seeded seed) v.waiting (IsAsSaid s) is.sent holds still }
  line_taken (line.Commit gateway) action there =
      let allowed = gateway_is gateway there in
      record { allowed = allowed; passes = quiet (event.Commit gateway) refl allowed }
  line_taken (line.Write gateway) action there =
      record { allowed = gateway_is gateway there; passes = write_passes f v gateway (IsAsSaid s) holds still }
  line_taken (line.Stop gateway) action there = by_stop gateway there
  line_taken (line.Open gateway) action there = by_open gateway there
  line_taken line.Settle action there = record { allowed = refl; passes = settles }
  line_taken line.End action there = record { allowed = refl; passes = settles }
  line_taken _ action there = absurd (cc)

-- ---- lines one after the other

pub lines_taken : {s v : _} (place : ℕ) (lines : List Line) → list_any is_setting_line lines ≡ false → takes_all s lines ≡ true
    → IsAsSaid s v → (refused_from place v lines ≡ None) × Allows (rules_in v.setup) v.world (turns_from v lines)
lines_taken place [] actions there is = (refl, tt)
lines_taken {s} {v} place (said ∷ later) actions there is =
    let kinds = neither_of (is_setting_line said) (list_any is_setting_line later) actions in
    let parts = and_parts (takes s said) (takes_all (after_line s said) later) there in
    let taken = line_taken s v is said kinds.0 parts.0 in
    let rest = lines_taken {s = after_line s said} {v = line_after v said} (suc place) later kinds.1 parts.1
    taken.passes.after in (
      ap (λ o. refused_or o place (refused_from (suc place) (line_after v said) later)) taken.allowed ∙ rest.0,
      allows_append (rules_in v.setup) v.world (turns_of v said) (turns_from (line_after v said) later)
          taken.passes.allows
          (subst (λ (w : World). Allows (rules_in v.setup) w (turns_from (line_after v said) later)) (line_world v said)
          (subst
          (λ (setup : Setup). Allows (rules_in setup) (line_after v said).world (turns_from (line_after v said) later))
          (line_setup v said) rest.1)),
    )
  where
    neither_of : (a b : Bool) → (a || b) ≡ false → (a ≡ false) × (b ≡ false)
    neither_of true b h = absurd (cc)
    neither_of false b h = (refl, h)

-- The beginning of a script, its settings, and all of its lines.

-- ---- the beginning

times_get : {A B : Type 0} (get : A → B) (d : B) (a : A) (n p : ℕ) → p < n → option_map_or get (slice_get (times_of n a) p) d ≡ get a
times_get get d a zero p h = absurd (omega arith)
times_get get d a (suc n) zero h = refl
times_get get d a (suc n) (suc p) h = times_get get d a n p (omega arith)

all_times : {A : Type 0} (P : A → Type 0) (n : ℕ) (a : A) → P a → AllByRecursion P (times_of n a)
all_times P zero a h = tt
all_times P (suc n) a h = (h, all_times P n a h)

begins_said : (s : Scene) (setup : Setup) → s.moment ≡ 0 → s.stopped ≡ [] → setup.gateways ≡ s.gateways → setup.nodes ≡ s.nodes → IsAsSaid s (begun setup)
begins_said s setup moment none gateways nodes = record {
  gateways = times_length setup.gateways (first_gateway (rules_in setup)) ∙ gateways;
  nodes = times_length setup.nodes (Began ∷ []) ∙ nodes;
  moment = sym moment;
  stopped = λ gateway there.
      let parts = and_parts (nat_le 1 gateway) (nat_le gateway s.gateways) there in
      cc
      (times_get (λ (g : Gateway). g.is_down) true (first_gateway (rules_in setup)) setup.gateways (gateway - 1)
      (omega (arith, leb-true 1 gateway parts.0, leb-true gateway s.gateways parts.1)));
  running = λ node there.
      let parts = and_parts (nat_le 1 node) (nat_le node s.nodes) there in
      ap runs
      (times_get (λ (log : List LogEntry). log) [] (Began ∷ []) setup.nodes (node - 1)
      (omega (arith, leb-true 1 node parts.0, leb-true node s.nodes parts.1)));
  sent = tt;
  unarmed = all_times _ _ _ (refl, refl);
}

-- ---- whole scripts

-- a setting, or an empty line, leaves all but the settings
record IsIdle (s : Scene) (t : Setup) (v : ReplayValue) (said : Line) : Type 0 where
  pub allowed : refusal_of_line v said ≡ None
  pub turns : turns_of v said ≡ []
  pub after : line_after v said ≡ v
  pub moment : (after_line s said).moment ≡ s.moment
  pub stopped : (after_line s said).stopped ≡ s.stopped
  pub gateways : (after_setting t said).gateways ≡ (after_line s said).gateways
  pub nodes : (after_setting t said).nodes ≡ (after_line s said).nodes

idle_line : (s : Scene) (t : Setup) (v : ReplayValue) (said : Line) → t.gateways ≡ s.gateways → t.nodes ≡ s.nodes → is_action_line said ≡ false → IsIdle s t v said
idle_line s t v line.Blank gateways nodes idle = assumption
idle_line s t v _ gateways nodes idle = first_of (assumption, cc)

setting_stays : (t : Setup) (said : Line) → is_setting_line said ≡ false → after_setting t said ≡ t
setting_stays t line.Blank h = refl
setting_stays t _ h = cc

settings_stay : (t : Setup) (lines : List Line) → list_any is_setting_line lines ≡ false → after_settings t lines ≡ t
settings_stay t [] h = refl
settings_stay t (said ∷ later) h =
    let kinds = or_parts (is_setting_line said) (list_any is_setting_line later) h in
    cc (setting_stays t said kinds.0, settings_stay t later kinds.1)

-- none of the lines is refused, and their turns are allowed
pub record AreTaken (place : ℕ) (v : ReplayValue) (lines : List Line) : Type 0 where
  pub allowed : refused_from place v lines ≡ None
  pub turns : Allows (rules_in v.setup) v.world (turns_from v lines)

from_beginning : (s : Scene) (t : Setup) (place : ℕ) (v : ReplayValue) (lines : List Line) → begun (after_settings t lines) ≡ v → s.moment ≡ 0 → s.stopped ≡ []
    → t.gateways ≡ s.gateways → t.nodes ≡ s.nodes → are_settings_first lines ≡ true → takes_all s lines ≡ true → AreTaken place v lines
from_beginning s t place v [] is moment stopped gateways nodes first there = record { allowed = refl; turns = tt }
from_beginning s t place v (said ∷ later) is moment stopped gateways nodes first there =
    by (λ idle k rest. from_beginning (after_line s said) (after_setting t said) (suc place) v later is (idle.moment ∙ moment) (idle.stopped ∙ stopped)
    idle.gateways idle.nodes k rest) (is_action_line said) refl first
  where
    by : (IsIdle s t v said → are_settings_first later ≡ true → takes_all (after_line s said) later ≡ true → AreTaken (suc place) v later)
        → (b : Bool) → is_action_line said ≡ b → (if b then not (list_any is_setting_line later) else are_settings_first later) ≡ true
        → AreTaken place v (said ∷ later)
    by goes_on true e k =
        let kinds = or_parts (is_setting_line said) (is_blank_line said)
        (not-true (is_setting_line said || is_blank_line said) e) in
        let actions : list_any is_setting_line (said ∷ later) ≡ false =
        ap (λ (b : Bool). b || list_any is_setting_line later) kinds.0 ∙ not-true (list_any is_setting_line later) k in
        let same = settings_stay t (said ∷ later) actions in
        let begins = begins_said s (after_settings t (said ∷ later)) moment stopped
        (ap (λ (u : Setup). u.gateways) same ∙ gateways) (ap (λ (u : Setup). u.nodes) same ∙ nodes) in
        let taken = lines_taken {s = s} {v = v} place (said ∷ later) actions there (subst (IsAsSaid s) is begins) in
        record { allowed = taken.0; turns = taken.1 }
    by goes_on false e k =
        let idle = idle_line s t v said gateways nodes e in
        let rest = goes_on idle k (and_parts (takes s said) (takes_all (after_line s said) later) there).1 in
        record {
          allowed =
              ap (λ o. refused_or o place (refused_from (suc place) (line_after v said) later)) idle.allowed
              ∙ ap (λ (u : ReplayValue). refused_from (suc place) u later) idle.after
              ∙ rest.allowed;
          turns = subst (λ (ts : List Turn). Allows (rules_in v.setup) v.world ts)
              (sym (ap (λ (ts : List Turn). ts ++ turns_from (line_after v said) later) idle.turns
              ∙ ap (λ (u : ReplayValue). turns_from u later) idle.after))
              rest.turns;
        }

pub script_taken : (lines : List Line) → are_settings_first lines ≡ true → takes_all first_scene lines ≡ true → AreTaken 1 (replay_of lines) lines
script_taken lines first there = from_beginning first_scene default_setup 1 (replay_of lines) lines refl refl refl refl refl first there
