-- What a settling leaves of each gateway.
use Rattle.std.proofs.Common.{◌≡◌, ◌∙◌, refl, sym, ap, subst, ℕ, zero, suc, ◌+◌, ◌-◌, ◌==◌, ◌≤◌, ◌<◌, ◌||◌, Bool, true, false, if◌then◌else◌, List, [], ◌∷◌, ◌++◌, length, set, Option, Some, None, slice_get, arith, append_assoc, length-set, eq-eqb, eqb-true}
use Rattle.replay_world.proofs.Names.{after_step, after_steps, AreShut, AreUnarmed, AreWritten, asked_of, book_committing, BookValue, Close, committed, committing, Disarms, ends_line, Event, files_in, flat_map, Fortune, fortune_by, Gateway, goes_on, GoesOn, Gone, HaveMachines, history_of, HistoryEntry, is_close_due, is_down_in, IsAllWritten, IsIdle, items_of, Machine, machine_after, machines_at, machines_in, making_close, marked, moved_by, no_gateway, no_running_gateway, Nothing, opened, option_map_or, Plays, range_with_len, readying, recorded, reopened, ReplayValue, Rules, rules_in, sequel_on, settle_steps, settled, settling_steps, site_of, slice_get_within, Step, still, unarmed_one, Whole, World, Writes}
use Rattle.gateway_answer.specs.Answered.{no_caller}
use Rattle.gw_base.specs.EntryLaws.{is_close_due-append}
use Rattle.once_core.specs.declared.event.Event.TheVariants as event
use Rattle.replay_world.proofs.CalmLemmas.{close_stays_up, found, get_other, get_same, line_goes_on, running_there, sets_at, stays_set, there_then, unarmed_after, unarmed_there, goes_on_then}
use Rattle.replay_world.proofs.QuietLemmas.{filed_machine, machines_stay, plays, writes}
use Rattle.replay_world.proofs.StandsLemmas.{Sets}
use Rattle.replay_world.proofs.SettleLemmas.{calm_filing, closes_at, commits_at, disarmed_world, disarms, lesser, may_open, unarmed_from}
use Rattle.replay_world.proofs.GatewayEventLemmas.{IsAt}
use Rattle.replay_world.proofs.StepsLemmas.{after_append, goes_append}
use Rattle.replay_world.proofs.TakenSteps.{is_there}
use Rattle.replay_world.proofs.TakenWorlds.{committing_stays}

-- Steps that are all made, and what they come to.
record Runs (v : ReplayValue) (steps : List Step) (u : ReplayValue) : Type 0 where
  pub goes : goes_on v steps ≡ true
  pub after : after_steps v steps ≡ u

runs_none : (v : ReplayValue) → Runs v [] v
runs_none v = record { goes = refl; after = refl }

runs_step : (v : ReplayValue) (step : Step) {later u : _} → ends_line v step ≡ false →
    Runs (after_step v step) later u → Runs v (step ∷ later) u
runs_step v step ends runs =
    record { goes = cc runs.goes; after = cc runs.after }

runs_append : (v : ReplayValue) {first later u w : _} → Runs v first u → Runs u later w → Runs v (first ++ later) w
runs_append v {later} did does = record {
  goes = cc (goes_append v _ later did.goes, did.after, does.goes);
  after = cc (after_append v _ later did.goes, did.after, does.after);
}

-- Nothing but the gateway in a place, and what it runs on, has changed; nothing is armed.
record Alone (v u : ReplayValue) (k : ℕ) : Type 0 where
  pub gateways : length u.world.gateways ≡ length v.world.gateways
  pub machines : length u.machines ≡ length v.machines
  pub unarmed : AreUnarmed u
  pub other_gateways : (j : ℕ) → (j ≡ k → ⊥) → slice_get u.world.gateways j ≡ slice_get v.world.gateways j
  pub other_machines : (j : ℕ) → (j ≡ k → ⊥) → slice_get u.machines j ≡ slice_get v.machines j

alone_then : {v u w k : _} → Alone v u k → Alone u w k → Alone v w k
alone_then first later = record {
  gateways = later.gateways ∙ first.gateways;
  machines = later.machines ∙ first.machines;
  unarmed = later.unarmed;
  other_gateways = λ j other. later.other_gateways j other ∙ first.other_gateways j other;
  other_machines = λ j other. later.other_machines j other ∙ first.other_machines j other;
}

alone_set : {v step k g m sends : _} → Sets v step k g m sends → IsIdle m → AreUnarmed v → Alone v (after_step v step) k
alone_set {v} {k} {g} {m} sets idle unarmed =
    let stays = stays_set v _ k g m _ sets idle unarmed in
    record {
      gateways = stays.count;
      machines = cc (sets.machines, length-set v.machines k m);
      unarmed = stays.unarmed;
      other_gateways = stays.others;
      other_machines = λ j other. cc (sets.machines, get_other v.machines k j m other);
    }

-- The gateway with a number is this, and runs on this, and nothing is armed for any.
record At (v : ReplayValue) (number : ℕ) (g : Gateway) (m : Machine) : Type 0 where
  pub from_one : 1 ≤ number
  pub few : number ≤ length v.world.gateways
  pub gateway : slice_get v.world.gateways (number - 1) ≡ Some g
  pub machine : slice_get v.machines (number - 1) ≡ Some m
  pub unarmed : AreUnarmed v

idle_at : {v number g m : _} → At v number g m → IsIdle m
idle_at {v} {m} at = unarmed_there v _ m at.machine at.unarmed

runs_at : {v number g m : _} → At v number g m → g.is_down ≡ false → no_running_gateway v.world number ≡ None
runs_at {v} {g} at runs = running_there v.world _ g at.from_one at.few at.gateway runs

-- A step that sets it.
at_set : {v step number h g n m sends : _} →
    At v number h n → Sets v step (number - 1) g m sends → IsIdle m → At (after_step v step) number g m
at_set {v} {number} {h} {g} {m} at sets idle =
    let k = number - 1 in
    let alone = alone_set sets idle at.unarmed in
    record {
      from_one = at.from_one;
      few = omega arith;
      gateway = there_then v _ k g m _ sets h at.gateway;
      machine = cc (sets.machines, get_same _ k m at.machine);
      unarmed = alone.unarmed;
    }

-- What comes of a call where nothing is armed.

abbrev calm_fortune : Machine → Fortune
calm_fortune m = fortune_by m.at_last (GoesOn Nothing)

-- An event moved it.
record MovedTo (v : ReplayValue) (e : Event) (number : ℕ) (g : Gateway) : Type 0 where
  pub machine : Machine
  pub at : At (after_step v (Plays e)) number g machine
  pub alone : Alone v (after_step v (Plays e)) (number - 1)
  pub goes : ends_line v (Plays e) ≡ false

moves_to : {v e number g m move : _} (is : IsAt v e number g m move) → machines_in v e ≡ option_map_or (machines_at v e)
    (site_of v e) v.machines → At v number g m → MovedTo v e number (move (calm_fortune m) g).gateway
moves_to {v} {e} {g} {m} {move} is same at =
    let idle = idle_at at in
    let asked = asked_of v.world g e in
    let n = machine_after asked m in
    let moved : moved_by (sequel_on m asked) move m g ≡ move (calm_fortune m) g = cc (goes_on_then m asked idle.0) in
    let sets = sets_at v e _ g m _ is same idle in
    let calm = unarmed_after asked m idle in
    record {
      machine = n;
      at = rw moved at (at_set at sets calm);
      alone = alone_set sets calm at.unarmed;
      goes = line_goes_on v e _ g m _ is same idle;
    }

-- Books after a commit that doesn't fail.

book_by : (broken at_last : Bool) (b : BookValue) → b.is_broken ≡ broken →
    ((if broken then reopened b (if at_last then Whole else Gone) else committed b).is_broken ≡ false)
    × ((if broken then reopened b (if at_last then Whole else Gone) else committed b).rest ≡ [])
book_by true true b is = (refl, refl)
book_by true false b is = (refl, refl)
book_by false at_last b is = (is, refl)

firm_by : {broken : _} (at_last : Bool) (b : BookValue) → broken ≡ false →
    (if broken then reopened b (if at_last then Whole else Gone) else committed b).firm
    ≡ (if broken then b.firm else b.firm ++ b.rest)
firm_by at_last b is = grind arith

module _ (m : Machine) (g : Gateway) where
  abbrev after_commit : Gateway
  after_commit = (committing (calm_fortune m) g).gateway

  commit_book : after_commit.book ≡ book_committing (calm_fortune m) g.book
  commit_book = grind arith

  commit_whole : after_commit.book.is_broken ≡ false
  commit_whole = cc (commit_book, (book_by g.book.is_broken m.at_last g.book refl).0)

  commit_firm : after_commit.book.rest ≡ []
  commit_firm = cc (commit_book, (book_by g.book.is_broken m.at_last g.book refl).1)

  commit_all : g.book.is_broken ≡ false → after_commit.book.firm ≡ history_of g.book
  commit_all whole = cc (commit_book, firm_by m.at_last g.book whole)

-- A gateway that made a Close, where one was due.

ready_whole : (b : Bool) (m : Machine) (g : Gateway) → g.book.is_broken ≡ false →
    (if b then committing (calm_fortune m) g else still g).gateway.book.is_broken ≡ false
ready_whole true m g whole = commit_whole m g
ready_whole false m g whole = whole

record IsClosed (g : Gateway) : Type 0 where
  pub whole : g.book.is_broken ≡ false
  pub none_due : is_close_due (history_of g.book) ≡ false

closed_where : (due : Bool) (now : ℕ) (g : Gateway) → g.book.is_broken ≡ false →
    is_close_due (history_of g.book) ≡ due →
    IsClosed (if due then still (record g { book = recorded g.book now no_caller Close }) else still g).gateway
closed_where due now g whole is = grind (arith, append_assoc, is_close_due-append)

closed_unless : {b : _} (now : ℕ) (g : Gateway) → b ≡ false → g.book.is_broken ≡ false →
    IsClosed (if b then still g else making_close now g).gateway
closed_unless now g is whole = grind (arith, closed_where)

close_closed : (rules : Rules) (now : ℕ) (m : Machine) (g : Gateway) → g.book.is_broken ≡ false →
    IsClosed (marked rules (calm_fortune m) (making_close now) g).gateway
close_closed rules now m g whole =
    let h : Gateway = (readying rules (calm_fortune m) g).gateway in
    let ready = ready_whole (g.book.is_broken || rules.is_full g.book) m g whole in
    closed_unless now h ready ready

-- One gateway settles.

commits : {v number g m : _} → At v number g m → g.is_down ≡ false →
    MovedTo v (event.Commit number) number (committing (calm_fortune m) g).gateway
commits {v} {g} {m} at runs = moves_to (commits_at v _ g m at.from_one at.gateway at.machine (runs_at at runs)) refl at

closes : {v number g m : _} → At v number g m → g.is_down ≡ false →
    MovedTo v (event.Close number) number
    (marked (rules_in v.setup) (calm_fortune m) (making_close v.world.now) g).gateway
closes {v} {g} {m} at runs = moves_to (closes_at v _ g m at.from_one at.gateway at.machine (runs_at at runs)) refl at

-- It is settled now, and the others are as they were.
record SettledAt (v : ReplayValue) (steps : List Step) (number : ℕ) : Type 0 where
  pub u : ReplayValue
  pub runs : Runs v steps u
  pub alone : Alone v u (number - 1)
  pub g : Gateway
  pub m : Machine
  pub at : At u number g m
  pub setup : u.setup ≡ v.setup
  pub is : IsAllWritten (files_in u.setup (number - 1)) g m

module _ (shut : (h : List HistoryEntry) → is_close_due h ≡ false → AreShut (items_of h)) where
  -- one that runs
  settles_up : {v number g m : _} → At v number g m → g.is_down ≡ false →
      SettledAt v (Plays (event.Commit number) ∷ Plays (event.Close number) ∷ Plays (event.Commit number)
      ∷ Writes (number - 1) ∷ []) number
  settles_up {v} {number} {g} {m} at runs =
      let k = number - 1 in
      let first = commits at runs in
      let v1 = after_step v (Plays (event.Commit number)) in
      let g1 : Gateway = (committing (calm_fortune m) g).gateway in
      let runs1 : g1.is_down ≡ false = committing_stays (calm_fortune m) g ∙ runs in
      let second = closes first.at runs1 in
      let v2 = after_step v1 (Plays (event.Close number)) in
      let g2 : Gateway =
      (marked (rules_in v1.setup) (calm_fortune first.machine) (making_close v1.world.now) g1).gateway in
      let runs2 : g2.is_down ≡ false =
      close_stays_up (rules_in v1.setup) (calm_fortune first.machine) v1.world.now g1 ∙ runs1 in
      let closed = close_closed (rules_in v1.setup) v1.world.now first.machine g1 (commit_whole m g) in
      let third = commits second.at runs2 in
      let v3 = after_step v2 (Plays (event.Commit number)) in
      let g3 : Gateway = (committing (calm_fortune second.machine) g2).gateway in
      let runs3 : g3.is_down ≡ false = committing_stays (calm_fortune second.machine) g2 ∙ runs2 in
      let idle = idle_at third.at in
      let filed = calm_filing (files_in v3.setup k) (items_of g3.book.firm) third.machine.filing idle.1 in
      let n = filed_machine v3 k g3 third.machine in
      let calm : IsIdle n = (idle.0, cc) in
      let sets = writes v3 k g3 _ third.at.gateway third.at.machine in
      let v4 = after_step v3 (Writes k) in
      let none_due : is_close_due g3.book.firm ≡ false =
      ap is_close_due (commit_all second.machine g2 closed.whole) ∙ closed.none_due in
      record {
        u = v4;
        runs = runs_step v _ first.goes
            (runs_step v1 _ second.goes (runs_step v2 _ third.goes (runs_step v3 _ refl (runs_none v4))));
        alone = alone_then first.alone
            (alone_then second.alone (alone_then third.alone (alone_set sets calm third.at.unarmed)));
        g = g3;
        m = n;
        at = at_set third.at sets calm;
        setup = refl;
        is = record {
          runs = runs3;
          whole = commit_whole second.machine g2;
          firm = commit_firm second.machine g2;
          written = filed;
          shut = shut g3.book.firm none_due;
        };
      }

  -- one that may be stopped
  settles_any : (b : Bool) (v : ReplayValue) {number : _} (g : Gateway) (m : Machine) → At v number g m →
      no_gateway v.world number ≡ None → is_down_in v.world number ≡ b → g.is_down ≡ b →
      SettledAt v
      ((if b then Plays (event.Open number) ∷ [] else []) ++ Plays (event.Commit number) ∷ Plays (event.Close number)
      ∷ Plays (event.Commit number) ∷ Writes (number - 1) ∷ []) number
  settles_any false v g m at there down is = settles_up at is
  settles_any true v {number} g m at there down is =
      let k = number - 1 in
      let e = event.Open number in
      let sets = plays v k g m at.gateway at.machine e (λ h. still (opened (rules_in v.setup) h)) refl
      (may_open v _ there down) refl m (machines_stay v k g m at.gateway at.machine) in
      let idle = idle_at at in
      let u = after_step v (Plays e) in
      let later = settles_up (at_set at sets idle) refl in
      record {
        u = later.u;
        runs = runs_step v _ refl later.runs;
        alone = alone_then (alone_set sets idle at.unarmed) later.alone;
        g = later.g;
        m = later.m;
        at = later.at;
        setup = later.setup;
        is = later.is;
      }

  -- All gateways settle, one after the other.

  abbrev SettledTo : ReplayValue → ℕ → Type 0
  SettledTo u k = (j : ℕ) (g : Gateway) (m : Machine) → j < k →
      slice_get u.world.gateways j ≡ Some g → slice_get u.machines j ≡ Some m → IsAllWritten (files_in u.setup j) g m

  settled_more : (u : ReplayValue) (k : ℕ) {steps : _} → SettledTo u k → (did : SettledAt u steps (k + 1)) →
      SettledTo did.u (k + 1)
  settled_more u k before did j g m less has_gateway has_machine = by (j == k) refl
    where
      back : k + 1 - 1 ≡ k
      back = omega arith

      by : (b : Bool) → (j == k) ≡ b → IsAllWritten (files_in did.u.setup j) g m
      by true e =
          let here : j ≡ k + 1 - 1 = eqb-true j k e ∙ sym back in
          let same_gateway : did.g ≡ g = cc in
          let same_machine : did.m ≡ m = cc in
          rw here (rw same_gateway at (rw same_machine at did.is))
      by false e =
          let apart : j ≡ k → ⊥ = λ same. cc (eq-eqb j k same) in
          let other : j ≡ k + 1 - 1 → ⊥ = λ same. apart (same ∙ back) in
          rw did.setup (before j g m (lesser less apart) (sym (did.alone.other_gateways j other) ∙ has_gateway)
          (sym (did.alone.other_machines j other) ∙ has_machine))

  record SettledFrom (v u : ReplayValue) (k n : ℕ) : Type 0 where
    pub w : ReplayValue
    pub runs : Runs u (flat_map (settling_steps v) (range_with_len (k + 1) n)) w
    pub count : length w.world.gateways ≡ length u.world.gateways
    pub all : SettledTo w (k + n)

  same_after : (v u : ReplayValue) {steps : _} (k : ℕ) (did : SettledAt u steps (k + 1)) →
      ((j : ℕ) → k ≤ j → slice_get u.world.gateways j ≡ slice_get v.world.gateways j) →
      (j : ℕ) → k + 1 ≤ j → slice_get did.u.world.gateways j ≡ slice_get v.world.gateways j
  same_after v u k did same j le = did.alone.other_gateways j (λ is. absurd (omega arith)) ∙ same j (omega arith)

  -- one settles, and then the others
  settled_with : (n k : ℕ) (v u : ReplayValue) (did : SettledAt u (settling_steps v (k + 1)) (k + 1)) →
      SettledFrom v did.u (k + 1) n → SettledFrom v u k (suc n)
  settled_with n k v u did rest =
      let sum : k + 1 + n ≡ k + suc n = omega arith in
      record {
        w = rest.w;
        runs = runs_append u did.runs rest.runs;
        count = rest.count ∙ did.alone.gateways;
        all = rw sum at rest.all;
      }

  settle_from : (n k : ℕ) (v u : ReplayValue) → k + n ≡ length u.world.gateways →
      length u.machines ≡ length u.world.gateways → AreUnarmed u →
      ((j : ℕ) → k ≤ j → slice_get u.world.gateways j ≡ slice_get v.world.gateways j) → SettledTo u k →
      SettledFrom v u k n
  settle_from zero k v u whole pairs unarmed same before =
      let none : k ≡ k + 0 = omega arith in
      record {
        w = u;
        runs = runs_none u;
        count = refl;
        all = rw none at before;
      }
  settle_from (suc n) k v u whole pairs unarmed same before =
      let few : k + 1 ≤ length u.world.gateways = omega arith in
      let g = found u.world.gateways (k + 1 - 1) (omega arith) in
      let m = found u.machines (k + 1 - 1) (omega arith) in
      let at : At u (k + 1) g.0 m.0 = record {
        from_one = omega arith;
        few = few;
        gateway = g.1;
        machine = m.1;
        unarmed = unarmed;
      } in
      let down_same : is_down_in u.world (k + 1) ≡ is_down_in v.world (k + 1) = cc (same (k + 1 - 1) (omega arith)) in
      let there : no_gateway u.world (k + 1) ≡ None =
      cc (is_there (length u.world.gateways) (k + 1) (omega arith) few) in
      let did = settles_any _ u g.0 m.0 at there down_same
      (sym (ap (λ o. option_map_or (λ (h : Gateway). h.is_down) o true) at.gateway) ∙ down_same) in
      settled_with n k v u did
      (settle_from n (k + 1) v did.u (omega arith) (did.alone.machines ∙ pairs ∙ sym did.alone.gateways)
      did.alone.unarmed (same_after v u k did same) (settled_more u k before did))

  -- What was armed is armed no more, and then all settle.

  disarms_go : (v : ReplayValue) (gateways : List ℕ) → goes_on v (disarms gateways) ≡ true
  disarms_go v [] = refl
  disarms_go v (n ∷ gateways) = disarms_go (after_step v (Disarms (n - 1))) gateways

  count_by : (o : Option Machine) (ms : List Machine) (k : ℕ) →
      length (option_map_or (λ (machine : Machine). set ms k (unarmed_one machine)) o ms) ≡ length ms
  count_by None ms k = refl
  count_by (Some m) ms k = length-set ms k (unarmed_one m)

  disarms_count : (v : ReplayValue) (gateways : List ℕ) → length (after_steps v (disarms gateways)).machines ≡ length v.machines
  disarms_count v [] = refl
  disarms_count v (n ∷ gateways) =
      disarms_count (after_step v (Disarms (n - 1))) gateways
      ∙ count_by (slice_get v.machines (n - 1)) v.machines (n - 1)

  pub all_settled : (v : ReplayValue) → HaveMachines v → AreWritten (settled v)
  all_settled v pairs =
      let gateways : List ℕ = range_with_len 1 (length v.world.gateways) in
      let u : ReplayValue = after_steps v (disarms gateways) in
      let world : u.world ≡ v.world = disarmed_world v gateways in
      let unarmed : AreUnarmed u =
      unarmed_from (length v.world.gateways) 0 v (omega (arith, pairs)) (λ j m less is. absurd (omega (arith, less))) in
      let counted : length u.world.gateways ≡ length v.world.gateways = ap (λ (w : World). length w.gateways) world in
      let from = settle_from (length v.world.gateways) 0 v u (omega (arith, counted))
      (disarms_count v gateways ∙ pairs ∙ sym counted) unarmed
      (λ j le. ap (λ (w : World). slice_get w.gateways j) world) (λ j g m less is has. absurd (omega (arith, less))) in
      let runs : Runs v (settle_steps v) from.w =
      runs_append v {first = disarms gateways} {later = flat_map (settling_steps v) gateways} {u = u} {w = from.w}
      (record { goes = disarms_go v gateways; after = refl }) from.runs in
      subst AreWritten (sym runs.after) (λ place g m has_gateway has_machine.
      let within : place < length from.w.world.gateways = slice_get_within from.w.world.gateways place g has_gateway in
      from.all place g m (omega (arith, within, from.count, counted)) has_gateway has_machine)
