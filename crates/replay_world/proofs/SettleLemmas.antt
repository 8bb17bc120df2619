-- Gateways that settle.
use Rattle.std.proofs.Common.{◌≡◌, ◌∙◌, refl, sym, ap, subst, ℕ, zero, suc, ◌+◌, ◌-◌, ◌%◌, ◌==◌, ◌≤◌, ◌<◌, Bool, true, false, not, if◌then◌else◌, List, [], ◌∷◌, ◌++◌, length, map, set, get_or, Some, None, slice_get, arith, append_assoc, append-nil, length-set, eq-eqb, eqb-true}
use Rattle.replay_world.proofs.TakenSteps.{is_there as number_there}
use Rattle.replay_world.proofs.Names.{after_step, after_steps, all_filed, AreUnarmed, calls_under, committing, Disarms, Does, DoesAll, DoesOrEnds, ends_line, Event, files_in, Filing, filing_then, flat_map, Fortune, Gateway, is_down_in, IsIdle, Item, items_of, Machine, machines_at, machines_in, Makes, making_close, marked, Moved, nat_tests, no_gateway, no_running_gateway, Nothing, notice_lines, notices_of, opened, opening_steps, option_map_or, Plays, Ran, range_with_len, refusal_of, Replay, ReplayValue, rules_in, Settings, settle_steps, Settles, settling_steps, shelf_calls, site_of, slice_get-get_or, Stands, Stays, Step, still, unarmed_one, World, Writes}
use Rattle.once_core.specs.declared.event.Event.TheVariants as event
use Rattle.replay_world.proofs.CalmLemmas.{close_stays_up, found, get_other, get_same, line_goes_on, running_there, runs_after, stays_at, stays_none, stays_set, stays_then, there_then, unarmed_there}
use Rattle.replay_world.proofs.GatewayEventLemmas.{is_there, none_of, refused_not, runs_there, IsAt}
use Rattle.replay_world.proofs.QuietLemmas.{filed_machine, machines_stay, plays, writes}
use Rattle.replay_world.proofs.StandsLemmas.{each_lengths}
use Rattle.replay_world.proofs.StepsLemmas.{SoFar, after_append, does_none, does_one, does_then, ends_either, makes_then}
use Rattle.replay_world.proofs.TakenWorlds.{committing_stays}

-- One after the other.
pub settles_then : {v first later number before middle after r s : _} → Settles v first number before middle r →
    Settles (after_steps v first) later number middle after s → Settles v (first ++ later) number before after s
settles_then {v} {first} {later} {number} {before} {middle} {after} {r} {s} did does =
    let u : ReplayValue = after_steps v first in
    let is = after_append v first later (sym did.does.goes) in
    record {
      does = does_then v first later before middle r after {s = s} true did.does does.does;
      stays = subst (λ w. Stays v w (number - 1)) (sym is)
          (stays_then v u (after_steps u later) (number - 1) did.stays does.stays);
      runs = ap (λ (w : ReplayValue). no_running_gateway w.world number) is ∙ does.runs;
    }

-- what prints nothing prints nothing behind a text
pub settles_behind : {v steps number : _} (text : List ℕ) {r : _} →
    Settles v steps number [] [] r → Settles v steps number text text r
settles_behind {v} {steps} text did =
    let prints : text ≡ text ++ notice_lines (notices_of v steps) = cc (append-nil text, did.does.makes.prints) in
    assumption

pub settles_one : {v step : _} (number : ℕ) {before after r : _} (on : Bool) →
    DoesOrEnds v step before after r on → ends_line v step ≡ false → Stays v (after_step v step) (number - 1) →
    no_running_gateway (after_step v step).world number ≡ None → Settles v (step ∷ []) number before after r
settles_one {v} {step} number on done goes stays runs =
    let is = ends_either (ends_line v step) (after_step v step) in
    record { does = rw (done.goes ∙ ap not goes) at (does_one done); stays = rw is stays; runs = cc }

-- Opening.

pub gateway_there : (v : ReplayValue) (number : ℕ) → no_gateway v.world number ≡ None →
    (1 ≤ number) × (number ≤ length v.world.gateways)
gateway_there v number none = none_of _ _ (refused_not _ _ none)

pub may_open : (v : ReplayValue) (number : ℕ) → no_gateway v.world number ≡ None → is_down_in v.world number ≡ true →
    refusal_of v.world (event.Open number) ≡ None
may_open v number none down = cc

pub settles_running : (v : ReplayValue) (number : ℕ) {r : _} → Stands v r → AreUnarmed v →
    no_gateway v.world number ≡ None → is_down_in v.world number ≡ false →
    Settles v (opening_steps v number) number [] [] r
settles_running v number stands unarmed none up =
    let is : opening_steps v number ≡ [] = cc in
    rw is (record { does = does_none [] stands; stays = stays_none v _ unarmed; runs = cc })

pub settles_opened : (v : ReplayValue) {number old r : _} → Stands v old → AreUnarmed v →
    no_gateway v.world number ≡ None → is_down_in v.world number ≡ true →
    Does v (Plays (event.Open number)) [] [] r → Settles v (opening_steps v number) number [] [] r
settles_opened v {number} {r} stands unarmed none down done =
    let there = gateway_there v _ none in
    let lengths = each_lengths _ 0 _ _ _ stands.gateways in
    let g = found v.world.gateways (number - 1) (omega arith) in
    let m = found v.machines (number - 1) (omega arith) in
    let e = event.Open number in
    let sets = plays v _ g.0 m.0 g.1 m.1 e (λ h. still (opened (rules_in v.setup) h)) refl (may_open v _ none down) refl
    m.0 (machines_stay v _ g.0 m.0 g.1 m.1) in
    let stays = stays_set v _ _ _ m.0 [] sets (unarmed_there v _ m.0 m.1 unarmed) unarmed in
    let runs = running_there (after_step v (Plays e)).world _ _ there.0 (omega arith)
    (there_then v _ _ _ m.0 [] sets g.0 g.1) refl in
    let is : opening_steps v number ≡ Plays e ∷ [] = cc in
    rw is
    (settles_one {step = Plays e} _ {before = []} {after = []} {r = r} true (record { does = done; goes = refl }) refl
    stays runs)

-- A commit, a Close, and files that are written.

module _ (v : ReplayValue) (number : ℕ) (g : Gateway) (m : Machine) (some : 1 ≤ number)
    (has_gateway : slice_get v.world.gateways (number - 1) ≡ Some g)
    (has_machine : slice_get v.machines (number - 1) ≡ Some m) (none : no_running_gateway v.world number ≡ None) where
  pub commits_at : IsAt v (event.Commit number) number g m committing
  commits_at = assumption

  pub closes_at : IsAt v (event.Close number) number g m (λ f. marked (rules_in v.setup) f (making_close v.world.now))
  closes_at = assumption

abbrev Calm : ReplayValue → Event → ℕ → Type 0
Calm v e number = (ends_line v (Plays e) ≡ false) × Stays v (after_step v (Plays e)) (number - 1)
    × (no_running_gateway (after_step v (Plays e)).world number ≡ None)

event_calm : {v : _} (number : ℕ) {old : _} (e : Event) (move : Fortune → Gateway → Moved) → Stands v old →
    AreUnarmed v → no_running_gateway v.world number ≡ None →
    ((g : Gateway) (m : Machine) → 1 ≤ number → slice_get v.world.gateways (number - 1) ≡ Some g →
    slice_get v.machines (number - 1) ≡ Some m → IsAt v e number g m move) →
    machines_in v e ≡ option_map_or (machines_at v e) (site_of v e) v.machines →
    ((f : Fortune) (g : Gateway) → (move f g).gateway.is_down ≡ g.is_down) → Calm v e number
event_calm {v} number {old} e move stands unarmed none at same up =
    let there = is_there v.world number none in
    let lengths = each_lengths v.setup 0 v.world.gateways v.machines old.gateways.items stands.gateways in
    let g = found v.world.gateways (number - 1) (omega (arith, there.0, there.1)) in
    let m = found v.machines (number - 1) (omega (arith, there.0, there.1, lengths.0)) in
    let runs = runs_there v.world number {g = g.0} g.1 none in
    let idle = unarmed_there v (number - 1) m.0 m.1 unarmed in
    let is = at g.0 m.0 there.0 g.1 m.1 in (
      line_goes_on v e number g.0 m.0 move is same idle,
      stays_at v e number g.0 m.0 move is same idle unarmed,
      runs_after v e number g.0 m.0 move is same idle there.0 there.1 runs unarmed (λ f. up f g.0),
    )

pub commit_calm : {v : _} (number : ℕ) {old : _} → Stands v old → AreUnarmed v →
    no_running_gateway v.world number ≡ None → Calm v (event.Commit number) number
commit_calm {v} number stands unarmed none =
    event_calm _ _ committing stands unarmed none (λ g m some has runs_on. commits_at v _ g m some has runs_on none)
    refl committing_stays

pub close_calm : (v : ReplayValue) (number : ℕ) {old : _} → Stands v old → AreUnarmed v →
    no_running_gateway v.world number ≡ None → Calm v (event.Close number) number
close_calm v number stands unarmed none =
    event_calm _ _ (λ f. marked (rules_in v.setup) f (making_close v.world.now)) stands unarmed none
    (λ g m some has runs_on. closes_at v _ g m some has runs_on none) refl
    (λ f. close_stays_up (rules_in v.setup) f v.world.now)

-- of a write of a shelf for which nothing is armed
under_nothing : (n : ℕ) → calls_under Nothing n ≡ Ran Nothing
under_nothing zero = refl
under_nothing (suc n) = refl

pub calm_filing : (settings : Settings) (items : List Item) (f : Filing) → f.armed ≡ Nothing →
    filing_then settings items f ≡ all_filed settings items Nothing
calm_filing settings items f idle = cc (under_nothing (length (shelf_calls settings items f)))

pub write_calm : (v : ReplayValue) (number : ℕ) {old : _} → Stands v old → AreUnarmed v →
    no_running_gateway v.world number ≡ None → Stays v (after_step v (Writes (number - 1)))
    (number - 1) × (no_running_gateway (after_step v (Writes (number - 1))).world number ≡ None)
write_calm v number {old} stands unarmed none =
    let there = is_there v.world number none in
    let lengths = each_lengths v.setup 0 v.world.gateways v.machines old.gateways.items stands.gateways in
    let k : ℕ = number - 1 in
    let g = found v.world.gateways k (omega (arith, there.0, there.1)) in
    let m = found v.machines k (omega (arith, there.0, there.1, lengths.0)) in
    let n : Machine = filed_machine v k g.0 m.0 in
    let idle = unarmed_there v k m.0 m.1 unarmed in
    let filed = calm_filing (files_in v.setup k) (items_of g.0.book.firm) m.0.filing idle.1 in
    let sets = writes v k g.0 m.0 g.1 m.1 in
    let stays = stays_set v (Writes k) k g.0 n [] sets (idle.0, ap (λ (f : Filing). f.armed) filed) unarmed in (
      stays,
      running_there (after_step v (Writes k)).world number g.0 there.0 (omega (arith, there.1, stays.count))
          (there_then v (Writes k) k g.0 n [] sets g.0 g.1) (runs_there v.world number {g = g.0} g.1 none),
    )

-- All gateways.

range_next : (k n : ℕ) → k < n → range_with_len (k + 1) (n - k) ≡ (k + 1) ∷ range_with_len (k + 1 + 1) (n - (k + 1))
range_next k n less =
    let one : n - k ≡ suc (n - (k + 1)) = omega arith in cc

abbrev pub disarms : List ℕ → List Step
disarms gateways = map (λ gateway. Disarms (gateway - 1)) gateways

pub disarms_next : (k n : ℕ) → k < n →
    disarms (range_with_len (k + 1) (n - k)) ≡ (Disarms k ∷ []) ++ disarms (range_with_len (k + 1 + 1) (n - (k + 1)))
disarms_next k n less =
    let back : k + 1 - 1 ≡ k = omega arith in
    cc (range_next k n less)

abbrev pub settling_from : ReplayValue → ℕ → List Step
settling_from v k = flat_map (settling_steps v) (range_with_len (k + 1) (length v.world.gateways - k))

pub settling_next : (v : ReplayValue) (k : ℕ) → k < length v.world.gateways →
    settling_from v k ≡ settling_steps v (k + 1) ++ settling_from v (k + 1)
settling_next v k less = cc (range_next k (length v.world.gateways) less)

-- The first gateways have settled, and the others are as they were.
pub record SettledTo (v : ReplayValue) (k : ℕ) (before after : List ℕ) (r : Replay) : Type 0 where
  pub so : SoFar v (settling_from v 0) (settling_from v k) before after r
  pub unarmed : AreUnarmed (after_steps v so.front)
  pub count : length (after_steps v so.front).world.gateways ≡ length v.world.gateways
  pub others : (j : ℕ) → k ≤ j →
      slice_get (after_steps v so.front).world.gateways j ≡ slice_get v.world.gateways j

pub settled_none : (v : ReplayValue) (text : List ℕ) {r : _} → Stands v r → AreUnarmed v → SettledTo v 0 text text r
settled_none v text stands unarmed = record {
  so = record { front = []; whole = refl; does = does_none _ stands };
  unarmed = unarmed;
  count = refl;
  others = λ j le. refl;
}

module _ (v : ReplayValue) (k : ℕ) (before middle after : List ℕ) (r s : Replay) (to : SettledTo v k before middle r)
    (less : k < length v.world.gateways) where
  abbrev pub u : ReplayValue
  u = after_steps v to.so.front

  down_same : is_down_in u.world (k + 1) ≡ is_down_in v.world (k + 1)
  down_same = cc (to.others (k + 1 - 1) (omega arith))

  steps_same : settling_steps u (k + 1) ≡ settling_steps v (k + 1)
  steps_same = cc down_same

  pub there_next : no_gateway u.world (k + 1) ≡ None
  there_next = cc (number_there (length u.world.gateways) (k + 1) (omega arith) (omega arith))

  pub settled_next : Settles u (settling_steps u (k + 1)) (k + 1) middle after s → SettledTo v (k + 1) before after s
  settled_next did =
      let steps : List Step = settling_steps v (k + 1) in
      let here : Settles u steps (k + 1) middle after s = rw steps_same at did in
      let is = after_append v to.so.front steps (sym to.so.does.goes) in
      record {
        so = record {
          front = to.so.front ++ steps;
          whole = cc (append_assoc to.so.front steps (settling_from v (k + 1)), settling_next v k less, to.so.whole);
          does = does_then v to.so.front steps before middle r after {s = s} true to.so.does here.does;
        };
        unarmed = subst AreUnarmed (sym is) here.stays.unarmed;
        count = ap (λ (w : ReplayValue). length w.world.gateways) is ∙ here.stays.count ∙ to.count;
        others = λ j le. ap (λ (w : ReplayValue). slice_get w.world.gateways j) is
            ∙ here.stays.others j (λ same. absurd (omega (arith, same, le))) ∙ to.others j (omega (arith, le));
      }

pub place_is : (k n : ℕ) → k < n → n ≤ 255 → k + 1 - 1 ≡ k % 256
place_is k n less few =
    let back : k + 1 - 1 ≡ k = omega arith in
    let small : k < 256 = omega arith in
    back ∙ grind arith

-- Nothing is armed for any gateway.

-- the world is as before
pub disarmed_world : (v : ReplayValue) (gateways : List ℕ) → (after_steps v (disarms gateways)).world ≡ v.world
disarmed_world v [] = refl
disarmed_world v (n ∷ gateways) = disarmed_world (after_step v (Disarms (n - 1))) gateways

-- the machines up to a place are unarmed
abbrev pub UnarmedTo : List Machine → ℕ → Type 0
UnarmedTo ms k = (j : ℕ) (m : Machine) → j < k → slice_get ms j ≡ Some m → IsIdle m

pub lesser : {j k : _} → j < k + 1 → (j ≡ k → ⊥) → j < k
lesser less other = grind (arith, nat_tests)

unarmed_set : (xs : List Machine) (k : ℕ) {m : _} (n : Machine) → slice_get xs k ≡ Some m → IsIdle n → UnarmedTo xs k →
    UnarmedTo (set xs k n) (k + 1)
unarmed_set xs k {m} n has idle before j o less is = by (j == k) refl
  where
    by : (b : Bool) → (j == k) ≡ b → IsIdle o
    by true e =
        let here = rw (eqb-true j k e) at is in
        let some = get_same xs k n has in
        let same : n ≡ o = cc in
        subst IsIdle same idle
    by false e =
        let other : j ≡ k → ⊥ = λ same. cc (eq-eqb j k same) in
        before j o (lesser less other) (sym (get_other xs k j n other) ∙ is)

all_unarmed_to : (v : ReplayValue) → UnarmedTo v.machines (length v.machines) → AreUnarmed v
all_unarmed_to v unarmed = λ k d less. unarmed k (get_or v.machines k d) less (slice_get-get_or v.machines k d less)

pub unarmed_from : (n a : ℕ) (v : ReplayValue) → a + n ≡ length v.machines → UnarmedTo v.machines a →
    AreUnarmed (after_steps v (disarms (range_with_len (a + 1) n)))
unarmed_from zero a v whole unarmed =
    let all : a ≡ length v.machines = omega arith in
    all_unarmed_to v (rw all at unarmed)
unarmed_from (suc n) a v whole unarmed =
    let k = a + 1 - 1 in
    let back : k ≡ a = omega arith in
    let u = after_step v (Disarms k) in
    let m = found v.machines k (omega arith) in
    let calm = unarmed_one m.0 in
    let machines : u.machines ≡ set v.machines k calm = cc m.1 in
    let to = rw (← machines) at
    (subst (λ j. UnarmedTo (set v.machines k calm) (j + 1)) back
    (unarmed_set _ k _ m.1 (refl, refl) (rw back unarmed))) in
    unarmed_from n (a + 1) u (omega (arith, ap length machines, length-set v.machines k calm)) to

pub all_unarmed : (v : ReplayValue) {mid old : _} → Stands v old →
    DoesAll v (disarms (range_with_len 1 (length v.world.gateways))) [] [] mid true →
    AreUnarmed (after_steps v (disarms (range_with_len 1 (length v.world.gateways))))
all_unarmed v {old} stands did =
    let lengths = each_lengths v.setup 0 v.world.gateways v.machines old.gateways.items stands.gateways in
    unarmed_from (length v.world.gateways) 0 v (omega (arith, lengths.0)) (λ j m less is. absurd (omega (arith, less)))

-- All settle, as the definition says.

abbrev pub all_settling : World → List Step
all_settling w =
    flat_map (λ gateway. (if is_down_in w gateway then Plays (event.Open gateway) ∷ [] else [])
    ++ Plays (event.Commit gateway) ∷ Plays (event.Close gateway) ∷ Plays (event.Commit gateway)
    ∷ Writes (gateway - 1) ∷ []) (range_with_len 1 (length w.gateways))

pub settles_all : (v : ReplayValue) {old mid : _} (new : Replay) (before after : List ℕ) → Stands v old →
    DoesAll v (disarms (range_with_len 1 (length v.world.gateways))) [] [] mid true →
    (let u = after_steps v (disarms (range_with_len 1 (length v.world.gateways))) in
    Makes u (flat_map (settling_steps u) (range_with_len 1 (length u.world.gateways))) before after new) →
    Makes v (settle_steps v) before after new
settles_all v {mid} new before after stands did makes =
    let gateways : List ℕ = range_with_len 1 (length v.world.gateways) in
    let u : ReplayValue = after_steps v (disarms gateways) in
    let first : DoesAll v (disarms gateways) before before mid true = record {
      makes = record {
        stands = did.makes.stands;
        prints = sym (append-nil before) ∙ ap (λ (text : List ℕ). before ++ text) did.makes.prints;
      };
      goes = did.goes;
    } in
    makes_then v (disarms gateways) (all_settling v.world) before before mid {after = after} {s = new} first
    (subst (λ (w : World). Makes u (all_settling w) before after new) (disarmed_world v gateways) makes)

pub settling_is : (v : ReplayValue) → settling_from v 0 ≡ flat_map (settling_steps v) (range_with_len 1 (length v.world.gateways))
settling_is v =
    let whole : length v.world.gateways - 0 ≡ length v.world.gateways = omega arith in
    cc
