-- Steps of lines that a world allows, one after the other, and what holds of the replay after them.
use Rattle.std.proofs.Common.{◌≡◌, ℕ, zero, suc, ◌+◌, ◌≤◌, ◌&&◌, ◌==◌, not, Bool, true, false, if◌then◌else◌, List, [], ◌∷◌, ◌++◌, length, map, filter, Option, Some, None, slice_get, slice_set, refl, ap, subst, ◌∙◌, arith, le-leb, lt-ltb, leb-true, nat_le, nat_lt, drop, sym, length-drop}
use Rattle.replay_world.proofs.Names.{after_step, after_steps, AllByRecursion, Allows, and_from, and_parts, Armed, arms_stop, Asked, asked_of, AsksCommit, AsksNothing, AsksReopening, Breaks, calls_under, calm, Came, commit_sequel, Disarms, ends_line, enumerate_from, Event, Fail, FailedAt, files_in, files_written, Filing, filing_after, filing_then, GoesOn, is_down_in, is_none_of, is_stop, is_stopped_in, Item, items_firm, log_in, Loses, Machine, machine_after, machine_with, machines_after, machines_at, machines_in, Message, not-false, not-true, Nothing, one_later, option_map_or, place_asked, Plays, Ran, refusal_of, reopening_sequel, ReplayValue, Rules, rules_in, runs, Sequel, sequel_at, sequel_on, Settings, shelf_came, Site, site_in, site_of, Step, step_turns, Stop, StoppedAt, Stops, Turn, turn, turn_at, turn_by, turn_of, turn_with, turns, turns_by, unarmed_one, unless_refused, waiting_after, waiting_left, with_machine, World, world_after, Writes}
use Rattle.once_core.specs.declared.event.Event.TheVariants as event
use Rattle.replay_world.proofs.TakenWorlds.{Same, is_quiet, turn_same}

-- Steps of lines that a world allows, and what holds of the replay after them.

-- ---- what holds of each element

pub all_weaker : {A : Type 0} (P Q : A → Type 0) (xs : List A) → ((x : A) → P x → Q x) → AllByRecursion P xs → AllByRecursion Q xs
all_weaker P Q [] f h = tt
all_weaker P Q (x ∷ xs) f h = (f x h.0, all_weaker P Q xs f h.1)

pub all_append : {A : Type 0} (P : A → Type 0) (xs ys : List A) → AllByRecursion P xs → AllByRecursion P ys → AllByRecursion P (xs ++ ys)
all_append P [] ys h k = k
all_append P (x ∷ xs) ys h k = (h.0, all_append P xs ys h.1 k)

pub all_filter : {A : Type 0} (P : A → Type 0) (p : A → Bool) (xs : List A) → AllByRecursion P xs → AllByRecursion P (filter p xs)
all_filter P p [] h = tt
all_filter {A} P p (x ∷ xs) h = by (p x) (all_filter P p xs h.1)
  where
    by : (b : Bool) → AllByRecursion P (filter p xs) → AllByRecursion P (if b then x ∷ filter p xs else filter p xs)
    by true later = (h.0, later)
    by false later = later

all_set : {A : Type 0} (P : A → Type 0) (xs : List A) (p : ℕ) (x y : A) → slice_get xs p ≡ Some x → (P x → P y) → AllByRecursion P xs
    → AllByRecursion P (slice_set xs p y)
all_set P [] p x y e f h = tt
all_set P (z ∷ xs) zero x y e f h = let same : z ≡ x = cc in (f (subst P same h.0), h.1)
all_set P (z ∷ xs) (suc p) x y e f h = (h.0, all_set P xs p x y e f h.1)

pub all_get : {A : Type 0} (P : A → Type 0) (xs : List A) (p : ℕ) (x : A) → slice_get xs p ≡ Some x → AllByRecursion P xs → P x
all_get P [] p x e h = cc
all_get P (z ∷ xs) zero x e h = let same : z ≡ x = cc in subst P same h.0
all_get P (z ∷ xs) (suc p) x e h = all_get P xs p x e h.1

-- ---- numbers that are there

pub is_there : (count number : ℕ) → 1 ≤ number → number ≤ count → is_none_of count number ≡ false
is_there count number low high =
    ap not (and_from (nat_lt 0 number) (nat_le number count) (lt-ltb 0 number low) (le-leb number count high))

pub still_there : (count more number : ℕ) → count ≤ more → is_none_of count number ≡ false → is_none_of more number ≡ false
still_there count more number h e =
    let parts = and_parts (nat_lt 0 number) (nat_le number count)
    (not-false (nat_lt 0 number && nat_le number count) e) in
    ap not
    (and_from (nat_lt 0 number) (nat_le number more) parts.0
    (le-leb number more (omega (arith, leb-true number count parts.1))))

pub numbered : (n first : ℕ) (xs : List Message) → 1 ≤ first → first + length xs ≤ suc n
    → AllByRecursion (λ number. is_none_of n number ≡ false) (map (λ (sent : ℕ × Message). sent.0) (enumerate_from first xs))
numbered n first [] low high = tt
numbered n first (x ∷ xs) low high =
    (is_there n _ low (omega arith), numbered n (first + 1) xs (omega arith) (omega arith))

-- ---- devices on which no stop is armed, areas and shelves

abbrev pub Unarmed : Machine → Type 0
Unarmed m = (arms_stop m.armed ≡ false) × (arms_stop m.filing.armed ≡ false)

-- nothing of some calls stops the gateway, or is armed then and will
abbrev pub is_calm : Came → Bool
is_calm (Ran armed) = not (arms_stop armed)
is_calm (FailedAt call) = true
is_calm (StoppedAt call outcome) = false

calm_later : (came : Came) → is_calm (one_later came) ≡ is_calm came
calm_later (Ran armed) = refl
calm_later _ = refl

pub calls_calm : (armed : Armed) (n : ℕ) → arms_stop armed ≡ false → is_calm (calls_under armed n) ≡ true
calls_calm Nothing zero h = refl
calls_calm Nothing (suc n) h = refl
calls_calm (Fail call) zero h = refl
calls_calm (Fail zero) (suc n) h = refl
calls_calm (Fail (suc call)) (suc n) h = calm_later (calls_under (Fail call) n) ∙ calls_calm (Fail call) n refl
calls_calm (Stop call outcome) n h = cc

abbrev pub goes_calmly : Sequel → Bool
goes_calmly (GoesOn armed) = not (arms_stop armed)
goes_calmly (Breaks last) = true
goes_calmly (Stops stands) = false

commit_calm : (came : Came) → is_calm came ≡ true → goes_calmly (commit_sequel came) ≡ true
commit_calm (Ran armed) h = h
commit_calm (FailedAt call) h = refl
commit_calm (StoppedAt call outcome) h = absurd (cc)

reopening_calm : (at_last : Bool) (came : Came) → is_calm came ≡ true → goes_calmly (reopening_sequel at_last came) ≡ true
reopening_calm at_last (Ran armed) h = h
reopening_calm at_last (FailedAt call) h = refl
reopening_calm at_last (StoppedAt call outcome) h = absurd (cc)

sequel_calm : (asked : Asked) (m : Machine) → Unarmed m → goes_calmly (sequel_on m asked) ≡ true
sequel_calm AsksNothing m h = ap not h.0
sequel_calm AsksCommit m h = commit_calm _ (calls_calm _ 4 h.0)
sequel_calm AsksReopening m h = reopening_calm _ _ (calls_calm _ 1 h.0)

no_stop : (s : Sequel) → goes_calmly s ≡ true → is_stop s ≡ false
no_stop (Stops stands) h = absurd (cc)
no_stop _ h = refl

machine_unarmed : (m : Machine) (s : Sequel) → goes_calmly s ≡ true → Unarmed m → Unarmed (machine_with m s)
machine_unarmed m (GoesOn armed) h u = (not-true (arms_stop armed) h, u.1)
machine_unarmed m (Breaks last) h u = (refl, u.1)
machine_unarmed m (Stops stands) h u = (refl, refl)

pub after_unarmed : (asked : Asked) (m : Machine) → Unarmed m → Unarmed (machine_after asked m)
after_unarmed AsksNothing m h = h
after_unarmed AsksCommit m h = machine_unarmed m _ (sequel_calm AsksCommit m h) h
after_unarmed AsksReopening m h = machine_unarmed m _ (sequel_calm AsksReopening m h) h

pub with_unarmed : (v : ReplayValue) (place : ℕ) (change : Machine → Machine) → ((m : Machine) → Unarmed m → Unarmed (change m))
    → AllByRecursion Unarmed v.machines → AllByRecursion Unarmed (with_machine v place change)
with_unarmed v place change keeps h = by (slice_get v.machines place) refl
  where
    by : (o : Option Machine) → slice_get v.machines place ≡ o
        → AllByRecursion Unarmed (option_map_or (λ machine. slice_set v.machines place (change machine)) o v.machines)
    by None e = h
    by (Some m) e = all_set _ _ _ m _ e (keeps m) h

-- the machine of a site is one of the replay's
site_unarmed : (v : ReplayValue) (place : ℕ) {site : _} → site_in v place ≡ Some site → AllByRecursion Unarmed v.machines → Unarmed site.machine
site_unarmed v place is h = grind (arith, all_get)

module _ (v : ReplayValue) (e : Event) (unarmed : AllByRecursion Unarmed v.machines) where
  event_site : {site : _} → site_of v e ≡ Some site → Unarmed site.machine
  event_site {site} is = by (place_asked v.world e) is
    where
      by : (o : Option ℕ) → option_map_or (site_in v) o None ≡ Some site → Unarmed site.machine
      by None is = cc
      by (Some place) is = site_unarmed v _ is unarmed

  pub stops_none : is_stopped_in v e ≡ false
  stops_none = by (site_of v e) refl
    where
      by : (o : Option Site) → site_of v e ≡ o → option_map_or (λ site. is_stop (sequel_at v e site)) o false ≡ false
      by None is = refl
      by (Some site) is = no_stop _ (sequel_calm (asked_of v.world site.gateway e) site.machine (event_site is))

  pub event_is : (turn_of v e).event ≡ e
  event_is = by (site_of v e) refl
    where
      by_sequel : (site : Site) (s : Sequel) → goes_calmly s ≡ true → (turn_with site.gateway site.place e site.machine.at_last s).event ≡ e
      by_sequel site (GoesOn armed) h = refl
      by_sequel site (Breaks last) h = refl
      by_sequel site (Stops stands) h = cc

      by : (o : Option Site) → site_of v e ≡ o → (option_map_or (turn_at v e) o (calm e)).event ≡ e
      by None is = refl
      by (Some site) is = by_sequel site (sequel_at v e site) (sequel_calm _ site.machine (event_site is))

-- Steps that a world allows, one after the other, and what holds of the replay after them.

-- ---- a replay of which some of the world is known

-- how many gateways and nodes there are, the moment, how many messages were sent at least, and which gateways are down
pub record Facts : Type 0 where
  pub gateways : ℕ
  pub nodes : ℕ
  pub moment : ℕ
  pub messages : ℕ
  pub down : ℕ → Bool

abbrev pub within : ℕ → ℕ → Bool
within count number = nat_le 1 number && nat_le number count

pub record HoldsOf (f : Facts) (w : World) : Type 0 where
  pub gateways : length w.gateways ≡ f.gateways
  pub nodes : length w.nodes ≡ f.nodes
  pub moment : w.now ≡ f.moment
  pub messages : f.messages ≤ length w.messages
  pub down : (gateway : ℕ) → within f.gateways gateway ≡ true → is_down_in w gateway ≡ f.down gateway
  pub running : (node : ℕ) → within f.nodes node ≡ true → runs (log_in w node) ≡ true

pub record Holds (f : Facts) (v : ReplayValue) : Type 0 where
  pub world : HoldsOf f v.world
  pub sent : AllByRecursion (λ message. is_none_of (length v.world.messages) message ≡ false) v.waiting
  pub unarmed : AllByRecursion Unarmed v.machines

-- ---- after a step

same_holds : (f : Facts) (w after : World) → HoldsOf f w → Same w after → HoldsOf f after
same_holds f w after h same = record {
  gateways = same.gateways ∙ h.gateways;
  nodes = same.nodes ∙ h.nodes;
  moment = same.moment ∙ h.moment;
  messages = omega arith;
  down = λ gateway is. same.down gateway ∙ h.down gateway is;
  running = λ node is. same.running node ∙ h.running node is;
}

left_sent : (P : ℕ → Type 0) (waiting : List ℕ) (step : Step) → AllByRecursion P waiting → AllByRecursion P (waiting_left waiting step)
left_sent P waiting (Plays (event.Deliver message)) h = all_filter P (λ n. not (n == message)) waiting h
left_sent P waiting (Loses message) h = all_filter P (λ n. not (n == message)) waiting h
left_sent P waiting _ h = h

abbrev Sent : ℕ → List ℕ → Type 0
Sent count waiting = AllByRecursion (λ message. is_none_of count message ≡ false) waiting

sent_after : (v : ReplayValue) (step : Step) → length v.world.messages ≤ length (world_after v step).messages
    → Sent (length v.world.messages) v.waiting → Sent (length (world_after v step).messages) (waiting_after v step)
sent_after v step more h =
    let count = length v.world.messages in
    let after = length (world_after v step).messages in
    let fresh = drop count (world_after v step).messages in
    all_append _ _ _
    (left_sent _ _ step
    (all_weaker _ (λ message. is_none_of after message ≡ false) _ (λ message there. still_there _ _ _ more there) h))
    (numbered after (suc count) fresh (omega arith) (omega (arith, (length-drop count (world_after v step).messages))))

holds_after : (f : Facts) (v : ReplayValue) (step : Step) → HoldsOf f (world_after v step) → length v.world.messages ≤ length (world_after v step).messages
    → Sent (length v.world.messages) v.waiting → AllByRecursion Unarmed (machines_after v step) → Holds f (after_step v step)
holds_after f v step world more sent unarmed =
    record { world = world; sent = sent_after v _ more sent; unarmed = unarmed }

-- ---- steps of which each is allowed

-- the turns of the steps are allowed from here on, and this holds after them
pub record Passes (v : ReplayValue) (steps : List Step) (P : ReplayValue → Type 0) : Type 0 where
  pub allows : Allows (rules_in v.setup) v.world (turns_by v steps)
  pub after : P (after_steps v steps)

pub passes_none : (v : ReplayValue) (P : ReplayValue → Type 0) → P v → Passes v [] P
passes_none v P h = record { allows = tt; after = h }

pub allows_append : (rules : Rules) (w : World) (first later : List Turn) → Allows rules w first → Allows rules (turns rules w first) later
    → Allows rules w (first ++ later)
allows_append rules w [] later h k = k
allows_append rules w (t ∷ first) later h k = (h.0, allows_append rules (turn rules w t) first later h.1 k)

pub passes_step : (v : ReplayValue) (step : Step) (later : List Step) (P : ReplayValue → Type 0) → ends_line v step ≡ false
    → Allows (rules_in v.setup) v.world (step_turns v step) → Passes (after_step v step) later P → Passes v (step ∷ later) P
passes_step v step later P goes_on allowed rest = record {
  allows = rw goes_on (allows_append (rules_in v.setup) v.world _ _ allowed rest.allows);
  after = rw goes_on rest.after;
}

-- ---- events

quiet_machines : (v : ReplayValue) (e : Event) → is_quiet e ≡ true → machines_in v e ≡ option_map_or (machines_at v e) (site_of v e) v.machines
quiet_machines v (event.Cut gateway keep) q = cc
quiet_machines v _ q = refl

quiet_unarmed : (v : ReplayValue) (e : Event) → is_quiet e ≡ true → AllByRecursion Unarmed v.machines → AllByRecursion Unarmed (machines_in v e)
quiet_unarmed v e q h = rw (quiet_machines v e q) (by (site_of v e))
  where
    by : (o : Option Site) → AllByRecursion Unarmed (option_map_or (machines_at v e) o v.machines)
    by None = h
    by (Some site) = with_unarmed v site.place _ (after_unarmed (asked_of v.world site.gateway e)) h

pub quiet_passes : {f : Facts} {v : ReplayValue} (e : Event) (later : List Step) (P : ReplayValue → Type 0) → is_quiet e ≡ true
    → refusal_of v.world e ≡ None → Holds f v → ((u : ReplayValue) → Holds f u → Passes u later P) → Passes v (Plays e ∷ later) P
quiet_passes {f} {v} e later P q allowed h rest =
    let same = turn_same (rules_in v.setup) v.world (turn_of v e)
    (subst (λ x. is_quiet x ≡ true) (sym (event_is v e h.unarmed)) q) in
    passes_step v (Plays e) later P (stops_none v e h.unarmed)
    (subst (λ x. refusal_of v.world x ≡ None) (sym (event_is v e h.unarmed)) allowed, tt)
    (rest (after_step v (Plays e))
    (holds_after f v (Plays e) (same_holds f v.world (world_after v (Plays e)) h.world same) same.messages h.sent
    (quiet_unarmed v e q h.unarmed)))

-- a step that leaves the world
still_passes : {f v : _} (step : Step) {later : _} (P : ReplayValue → Type 0) → step_turns v step ≡ []
    → ends_line v step ≡ false → AllByRecursion Unarmed (machines_after v step) → Holds f v
    → ((u : ReplayValue) → Holds f u → Passes u later P) → Passes v (step ∷ later) P
still_passes {f} {v} step P none goes_on unarmed h rest =
    let world : world_after v step ≡ v.world = cc in
    passes_step v _ _ P goes_on (subst (Allows (rules_in v.setup) v.world) (sym none) tt)
    (rest (after_step v step)
    (holds_after f v _ (subst (HoldsOf f) (sym world) h.world) (rw world (omega arith)) h.sent unarmed))

pub loses_passes : (f : Facts) (v : ReplayValue) (message : ℕ) {later : _} (P : ReplayValue → Type 0) → Holds f v
    → ((u : ReplayValue) → Holds f u → Passes u later P) → Passes v (Loses message ∷ later) P
loses_passes f v message P h rest = still_passes _ P refl refl h.unarmed h rest

pub tells_passes : {f v : _} (step : Step) (later : List Step) (P : ReplayValue → Type 0) → step_turns v step ≡ []
    → ends_line v step ≡ false → machines_after v step ≡ v.machines → Holds f v
    → ((u : ReplayValue) → Holds f u → Passes u later P) → Passes v (step ∷ later) P
tells_passes step later P none goes_on same h rest =
    still_passes _ P none goes_on (subst (AllByRecursion Unarmed) (sym same) h.unarmed) h rest

-- where no stop is armed for a shelf, none is when it was written
filed_unarmed : (settings : Settings) (items : List Item) (f : Filing) → arms_stop f.armed ≡ false →
    arms_stop (filing_then settings items f).armed ≡ false
filed_unarmed settings items f h = by (shelf_came settings items f) (calls_calm _ _ h)
  where
    by : (c : Came) → is_calm c ≡ true → arms_stop (filing_after settings items f c).armed ≡ false
    by (Ran a) is = not-true (arms_stop a) is
    by (FailedAt k) is = refl
    by (StoppedAt k outcome) is = refl

pub writes_passes : {f v : _} (place : ℕ) (later : List Step) (P : ReplayValue → Type 0) → Holds f v
    → ((u : ReplayValue) → Holds f u → Passes u later P) → Passes v (Writes place ∷ later) P
writes_passes {v} place later P h rest =
    still_passes _ P refl refl (with_unarmed v place (files_written v place) (λ m unarmed. (
      unarmed.0,
      filed_unarmed (files_in v.setup place) (items_firm v place) m.filing unarmed.1,
    )) h.unarmed) h rest

-- a step that leaves what is armed there no stop
pub disarms_passes : (f : Facts) (v : ReplayValue) (place : ℕ) (later : List Step) (P : ReplayValue → Type 0) → Holds f v
    → ((u : ReplayValue) → Holds f u → Passes u later P) → Passes v (Disarms place ∷ later) P
disarms_passes f v place later P h rest =
    still_passes _ P refl refl (with_unarmed v place unarmed_one (λ m unarmed. (refl, refl)) h.unarmed) h rest

-- an event at which no device is asked, and which changes what is known of the world
pub calm_passes : {f g v : _} (e : Event) (later : List Step) (P : ReplayValue → Type 0) → site_of v e ≡ None
    → refusal_of v.world e ≡ None → AllByRecursion Unarmed (machines_in v e) → HoldsOf g (turn_by (rules_in v.setup) v.world (calm e) e)
    → length v.world.messages ≤ length (turn_by (rules_in v.setup) v.world (calm e) e).messages
    → Holds f v → ((u : ReplayValue) → Holds g u → Passes u later P) → Passes v (Plays e ∷ later) P
calm_passes {g} {v} e later P none allowed unarmed world more h rest =
    let is : turn_of v e ≡ calm e = cc in
    let after : world_after v (Plays e) ≡ turn_by (rules_in v.setup) v.world (calm e) e =
    ap (turn (rules_in v.setup) v.world) is
    ∙ ap (λ o. unless_refused o v.world (turn_by (rules_in v.setup) v.world (calm e) e)) allowed in
    passes_step v (Plays e) later P (stops_none v e h.unarmed)
    (subst (λ x. refusal_of v.world x ≡ None) (sym (event_is v e h.unarmed)) allowed, tt)
    (rest (after_step v (Plays e))
    (holds_after g v (Plays e) (subst (HoldsOf g) (sym after) world)
    (subst (λ (w : World). length v.world.messages ≤ length w.messages) (sym after) more) h.sent unarmed))
