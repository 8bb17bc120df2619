-- A line that was run.
use Rattle.std.proofs.Common.{◌≡◌, refl, sym, ℕ, ◌+◌, ◌-◌, ◌%◌, ◌≤◌, ◌<◌, Bool, true, false, List, [], ◌∷◌, length, Option, Some, None, option_map, Result, OnOk, arith, append-nil, ◌∙◌, ap, OnErr, Ok, Err, subst}
use Rattle.replay_world.proofs.Names.{Does, end_of, has_failed, Line, line_notices, LineRan, Makes, no_running_gateway, no_running_node, notice_lines, option_or, refusal_of, refusal_of_line, refusing, Replay, ReplayValue, RunsIf, Stands, steps_of, Stop, WorldKind}
use Rattle.area_disk.specs.Disk.{last_count}
use Rattle.area_disk.specs.declared.plan.Plan.{Plan}
use Rattle.once_core.specs.declared.event.Event.TheVariants as event
use Rattle.once_core.specs.declared.event.WorldKind.TheVariants as kind
use Rattle.replay_gateway.specs.Opening.{ArmsAs}
use Rattle.world_script.specs.Script.{is_end_line}
use Rattle.replay_world.proofs.GatewayEventLemmas.{first_not, is_there, none_of}
use Rattle.replay_world.proofs.StepsLemmas.{makes_one}
use Rattle.replay_world.specs.Failing.{Fails, lacks_memory}
use Rattle.replay_world.specs.declared.lines.LineEnd.TheVariants as end

-- the steps of the line were made, and no report follows
pub line_makes : {v : _} (said : Line) {before after r : _} → refusal_of_line v said ≡ None →
    is_end_line said ≡ false → Makes v (steps_of v said) before after r → LineRan v said before after r
line_makes {v} said allowed ends makes = record {
  allowed = allowed;
  stands = makes.stands;
  prints = cc (makes.prints, append-nil (notice_lines (line_notices v said)));
}

-- it has one step
pub line_does : {v : _} (said : Line) {step before after r : _} → refusal_of_line v said ≡ None →
    is_end_line said ≡ false → steps_of v said ≡ step ∷ [] → Does v step before after r → LineRan v said before after r
line_does said allowed ends steps done = line_makes _ allowed ends (rw (← steps) at (makes_one done))

-- a line of a kind
pub runs_such : (v : ReplayValue) {is_such said before after : _} (old : Replay) {new : _} →
    true ≡ is_such → LineRan v said before after new → RunsIf v is_such said before after old new true
runs_such v old is ran = record { kind = is; runs = λ yes. ran; kept = λ no. cc }

pub runs_none : (v : ReplayValue) (is_such : Bool) (said : Line) (text : List ℕ) (r : Replay) → false ≡ is_such →
    RunsIf v is_such said text text r r false
runs_none v is_such said text r is = record { kind = is; runs = λ yes. cc; kept = λ no. (refl, refl) }

-- one that is of a kind, as it is said
pub such_line : (v : ReplayValue) (is_such : Line → Bool) {said as_is : _} (before after : List ℕ) (old new : Replay) →
    said ≡ as_is → is_such as_is ≡ true → refusal_of_line v said ≡ None →
    (refusal_of_line v as_is ≡ None → LineRan v as_is before after new) →
    RunsIf v (is_such said) said before after old new true
such_line v is_such before after old new is such none ran = rw is (runs_such v old (sym such) (ran (cc)))

-- one of no kind, as it is said
pub line_as : {A E : Type 0} (v : ReplayValue) (result : Result A E) {said as_is : _} (before after : List ℕ)
    (new : Replay) → said ≡ as_is → OnOk result (LineRan v as_is before after new) →
    OnOk result (LineRan v said before after new)
line_as v result before after new is ran = rw is ran

pub line_same : (v : ReplayValue) {said as_is before after : _} (new : Replay) → said ≡ as_is →
    LineRan v as_is before after new → LineRan v said before after new
line_same v new is ran = rw is ran

pub refusal_same : (v : ReplayValue) {said as_is : _} → said ≡ as_is → refusal_of_line v said ≡ None →
    refusal_of_line v as_is ≡ None
refusal_same v is none = cc

-- nothing was printed before it
pub went_on : {v said before middle after r : _} → middle ≡ before →
    LineRan v said middle after r → LineRan v said before after r
went_on same ran = rw same at ran

-- nothing was printed at all
pub printed_none : {v said : _} (text : List ℕ) {r : _} → LineRan v said [] [] r → LineRan v said text text r
printed_none text ran = record { allowed = ran.allowed; stands = ran.stands; prints = cc (append-nil text, ran.prints) }

-- Places.

within : (number count : ℕ) → 1 ≤ number → number ≤ count → count ≤ 255 → number - 1 ≡ (number - 1) % 256
within number count some few most = let less : number - 1 < 256 = omega arith in grind arith

pub gateway_place : {v r : _} (number : ℕ) → Stands v r → no_running_gateway v.world number ≡ None →
    number - 1 ≡ (number - 1) % 256
gateway_place {v} number stands none =
    let there = is_there v.world _ none in
    within _ (length v.world.gateways) there.0 there.1 stands.few_gateways

pub node_place : (v : ReplayValue) {r : _} (number : ℕ) → Stands v r → no_running_node v.world number ≡ None →
    number - 1 ≡ (number - 1) % 256
node_place v number stands none =
    let there = none_of _ _ (first_not _ _ _ none) in
    within _ (length v.world.nodes) there.0 there.1 stands.few_nodes

pub start_place : (v : ReplayValue) {r : _} (number : ℕ) → Stands v r →
    refusal_of v.world (event.Start number) ≡ None → number - 1 ≡ (number - 1) % 256
start_place v number stands none =
    let there = none_of _ _ (first_not _ _ _ none) in
    within _ (length v.world.nodes) there.0 there.1 stands.few_nodes

-- the place of the gateway that is recommended

recommended_by : (o : Option WorldKind) (b : Bool) (p : Option WorldKind) →
    option_or o (option_or (refusing b kind.NoGateway) p) ≡ None → b ≡ false
recommended_by None false p is = refl
recommended_by _ _ p is = absurd (cc)

pub other_placed : (v : ReplayValue) {r : _} (number cause : ℕ) (to : Option ℕ) → Stands v r →
    refusal_of v.world (event.Redirect number cause to) ≡ None →
    option_map (λ n. n - 1) to ≡ option_map (λ n. (n - 1) % 256) to
other_placed v number cause to stands none = grind (arith, none_of, recommended_by, within)

-- What is armed.

pub arms_stop : (call : ℕ) {outcome number as_said : _} (plan : Plan) → call - 1 < last_count →
    number ≡ call - 1 + 1 → as_said ≡ outcome → plan.read_fail.items ≡ [] → plan.fail.items ≡ [] →
    plan.stop ≡ Some (record { call = number; outcome = as_said }) → ArmsAs (Stop (call - 1) outcome) plan
arms_stop call plan few is same reads fails stops = record { reads = reads; call = (few, fails, cc) }

-- How a line ended.

-- it ran, so this holds
pub ran_so : {A E P : Type 0} (r : Result A E) → end_of r ≡ end.Ran → OnOk r P → P
ran_so (Ok done) is holds = holds
ran_so (Err fault) is holds = absurd (cc)

-- what ran, or had no memory, wasn't refused
pub not_refused : {A E Q : Type 0} (r : Result A E) {kind : _} → end_of r ≡ end.Refused kind → Q
not_refused (Ok done) is = absurd (cc)
not_refused (Err fault) is = absurd (cc)

pub same_kind : {a b : _} → end.Refused a ≡ end.Refused b → Some a ≡ Some b
same_kind {a} {b} is = let same : a ≡ b = cc in ap Some same

pub refused_so : {a b : _} → Some a ≡ Some b → end.Refused a ≡ end.Refused b
refused_so {a} {b} is = let same : a ≡ b = cc in cc

-- what ended as it ran holds of the replay as it ran
pub still_so : {A E : Type 0} (r : Result A E) (P : Replay → Type 0) (ran new : Replay) → OnOk r (new ≡ ran) →
    OnOk r (P ran) → OnOk r (P new)
still_so (Ok done) P ran new same holds = subst P (sym same) holds
still_so (Err fault) P ran new same holds = holds

-- A replay that failed.

-- it lacked memory, so this holds
failed_so : {A E P : Type 0} (r : Result A E) → lacks_memory (end_of r) ≡ true → OnErr r P → P
failed_so (Ok done) is holds = absurd (cc)
failed_so (Err fault) is holds = holds

module _ (old new : Replay) (before after : List ℕ) where
  -- of one that hadn't failed
  pub failed_by : {A E : Type 0} (r : Result A E) {ended : _} → ended ≡ end_of r →
      OnErr r (has_failed new ≡ true) → has_failed old ≡ false → Fails (lacks_memory ended) old before new after
  failed_by r is failed whole = record {
    fails = λ lacks. failed_so r (ap lacks_memory (sym is) ∙ lacks) failed;
    stays = λ has. cc;
  }

  pub not_failed : has_failed old ≡ false → Fails false old before new after
  not_failed whole = record { fails = λ lacks. cc; stays = λ has. cc }

  pub just_failed : has_failed old ≡ false → has_failed new ≡ true → Fails true old before new after
  just_failed whole failed = record {
    fails = λ lacks. failed;
    stays = λ has. cc;
  }

-- one that had failed is left as it was
pub stays_failed : (replay : Replay) (out : List ℕ) → has_failed replay ≡ true → Fails true replay out replay out
stays_failed replay out failed = record { fails = λ lacks. failed; stays = λ has. (refl, refl, refl) }

-- a replay that has failed stands for nothing
pub never_stands : {P : Type 0} (replay : Replay) → has_failed replay ≡ true → has_failed replay ≡ false → P
never_stands replay failed whole = cc
