-- The lines that a world surely takes: none is refused, each of their turns is allowed, and the replay stays as they say.
use Rattle.std.proofs.Common.{◌≡◌, ⊎_elim, ℕ, zero, suc, ◌+◌, ◌-◌, ◌%◌, ◌≤◌, ◌<◌, ◌==◌, ◌&&◌, nat_le, nat_lt, Bool, true, false, if◌then◌else◌, List, [], ◌∷◌, ◌++◌, length, map, Option, Some, None, slice_get, slice_set, refl, sym, ap, ◌∙◌, arith, append-nil, eq-eqb, eq-or-lt_of_le, le-leb, leb-true, ltb-true, length-set}
use Rattle.replay_world.proofs.Names.{AllByRecursion, and_from, and_parts, at_gateway, Came, came_of_write, came_steps, cut, delivers, Disarms, eqb-false, FailedAt, files_in, flat_map, Gateway, gateway_moved, is_down_in, is_none_of, is_stopped, IsAsSaid, items_firm, Lcg, Loses, lot_steps, Machine, mixed_steps, Moved, nat_tests, ne_eqb, no_gateway, no_running_gateway, no_running_node, NoMessage, not-false, opened, option_map_or, pcg32, Plays, Ran, range_with_len, refusal_of, refusing, ReplayValue, rules_in, Scene, settling_steps, shelf_calls, Step, still, StoppedAt, World, write_steps, Writes}
use Rattle.once_core.specs.declared.event.Event.TheVariants as event
use Rattle.replay_world.proofs.TakenSteps.{Facts, Holds, HoldsOf, Passes, calm_passes, disarms_passes, loses_passes, passes_none, quiet_passes, tells_passes, within, writes_passes, all_get, calls_calm, is_calm, is_there, with_unarmed}

-- ---- what a scene says of a replay

abbrev pub facts : Scene → ℕ → (ℕ → Bool) → Facts
facts s messages down =
    record { gateways = s.gateways; nodes = s.nodes; moment = s.moment; messages = messages; down = down }

pub said_holds : (s : Scene) (v : ReplayValue) → IsAsSaid s v → Holds (facts s (length v.world.messages) (is_stopped s)) v
said_holds s v is = let some : length v.world.messages ≤ length v.world.messages = omega arith in assumption

pub holds_said : (s : Scene) (messages : ℕ) (down : ℕ → Bool) (v : ReplayValue)
    → ((gateway : ℕ) → within s.gateways gateway ≡ true → down gateway ≡ is_stopped s gateway) → Holds (facts s messages down) v → IsAsSaid s v
holds_said s messages down v same h =
    let stopped : (gateway : ℕ) → within s.gateways gateway ≡ true → is_down_in v.world gateway ≡ is_stopped s gateway =
    λ gateway is. h.world.down gateway is ∙ same gateway is in
    assumption

-- ---- refusals that don't come

count_there : {count length_is : _} (number : ℕ) → length_is ≡ count → within count number ≡ true →
    is_none_of length_is number ≡ false
count_there {count} number e h =
    let parts = and_parts (nat_le 1 number) (nat_le number count) h in
    is_there _ _ (leb-true 1 number parts.0) (omega (arith, leb-true number count parts.1))

not_earlier : (a b : ℕ) → a ≤ b → nat_lt b a ≡ false
not_earlier a b h = grind (arith, nat_tests)

module _ (f : Facts) (w : World) (h : HoldsOf f w) where
  gateway_there : (gateway : ℕ) → within f.gateways gateway ≡ true → no_gateway w gateway ≡ None
  gateway_there gateway is = cc (count_there _ h.gateways is)

  pub gateway_runs : (gateway : ℕ) → within f.gateways gateway ≡ true → f.down gateway ≡ false → no_running_gateway w gateway ≡ None
  gateway_runs gateway is up = cc (gateway_there _ is, h.down gateway is)

  pub gateway_opens : (gateway : ℕ) → within f.gateways gateway ≡ true → f.down gateway ≡ true → refusal_of w (event.Open gateway) ≡ None
  gateway_opens gateway is down = cc (gateway_there _ is, h.down gateway is)

  pub node_runs : (node : ℕ) → within f.nodes node ≡ true → no_running_node w node ≡ None
  node_runs node is = cc (count_there _ h.nodes is, h.running node is)

  message_there : (message : ℕ) → is_none_of f.messages message ≡ false → is_none_of (length w.messages) message ≡ false
  message_there message e =
      let parts = and_parts (nat_lt 0 message) (nat_le message f.messages) (not-false (nat_lt 0 message && nat_le message f.messages) e) in
      is_there (length w.messages) message (omega (arith, ltb-true 0 message parts.0)) (omega (arith, leb-true message f.messages parts.1))

  pub moment_comes : (moment : ℕ) → nat_le f.moment moment ≡ true → refusal_of w (event.Moment moment) ≡ None
  moment_comes moment e = cc (not_earlier w.now moment (omega (arith, leb-true f.moment moment e)))

-- ---- a gateway that stops or opens

set_here : {A B : Type 0} (get : A → B) (d : B) (xs : List A) (p : ℕ) (x y : A) → slice_get xs p ≡ Some x
    → option_map_or get (slice_get (slice_set xs p y) p) d ≡ get y
set_here get d [] p x y e = cc
set_here get d (z ∷ xs) zero x y e = refl
set_here get d (z ∷ xs) (suc p) x y e = set_here get d xs p x y e

set_other : {A B : Type 0} (get : A → B) (d : B) (xs : List A) (p q : ℕ) (y : A) → (p ≡ q → ⊥)
    → option_map_or get (slice_get (slice_set xs p y) q) d ≡ option_map_or get (slice_get xs q) d
set_other get d [] p q y other = refl
set_other get d (z ∷ xs) zero zero y other = absurd (other refl)
set_other get d (z ∷ xs) zero (suc q) y other = refl
set_other get d (z ∷ xs) (suc p) zero y other = refl
set_other get d (z ∷ xs) (suc p) (suc q) y other = set_other get d xs p q y (λ e. other (ap suc e))

set_changed : {A B : Type 0} (get : A → B) (d : B) (xs : List A) (p q : ℕ) (x y : A) → slice_get xs p ≡ Some x
    → option_map_or get (slice_get (slice_set xs p y) q) d ≡ (if p == q then get y else option_map_or get (slice_get xs q) d)
set_changed get d xs p q x y e = grind (arith, nat_tests, set_here, set_other)

some_at : {A : Type 0} (xs : List A) (p : ℕ) → p < length xs → slice_get xs p ≡ None → ⊥
some_at [] p h e = omega arith
some_at (x ∷ xs) zero h e = cc
some_at (x ∷ xs) (suc p) h e = some_at xs p (omega arith) e

same_place : (a b : ℕ) → 1 ≤ a → 1 ≤ b → (a - 1 == b - 1) ≡ (a == b)
same_place a b h k = grind (arith, nat_tests)

abbrev pub changed : ℕ → Bool → (ℕ → Bool) → ℕ → Bool
changed gateway is_down down other = if gateway == other then is_down else down other

module _ (s : Scene) (messages : ℕ) (down : ℕ → Bool) (w : World) (h : HoldsOf (facts s messages down) w) where
  pub changes : (gateway : ℕ) (move : Gateway → Moved) (is_down : Bool) → within s.gateways gateway ≡ true
      → ((g : Gateway) → (move g).gateway.is_down ≡ is_down) → ((g : Gateway) → (move g).sends ≡ [])
      → HoldsOf (facts s messages (changed gateway is_down down)) (at_gateway w (gateway - 1) move)
      × (length w.messages ≤ length (at_gateway w (gateway - 1) move).messages)
  changes gateway move is_down is becomes sends = by (slice_get w.gateways (gateway - 1)) refl
    where
      low : 1 ≤ gateway
      low = leb-true 1 gateway (and_parts (nat_le 1 gateway) (nat_le gateway s.gateways) is).0

      high : gateway ≤ s.gateways
      high = leb-true gateway s.gateways (and_parts (nat_le 1 gateway) (nat_le gateway s.gateways) is).1

      by_same : (other : ℕ) (b : Bool) → is_down_in w other ≡ down other → (if b then is_down else is_down_in w other) ≡ (if b then is_down else down other)
      by_same other true e = refl
      by_same other false e = e

      by : (o : Option Gateway) → slice_get w.gateways (gateway - 1) ≡ o
          → HoldsOf (facts s messages (changed gateway is_down down)) (option_map_or (λ g. gateway_moved w (gateway - 1) (move g)) o w)
          × (length w.messages ≤ length (option_map_or (λ g. gateway_moved w (gateway - 1) (move g)) o w).messages)
      by None e = absurd (some_at w.gateways (gateway - 1) (omega (arith, low, high, h.gateways)) e)
      by (Some g) e =
          let same : w.messages ++ (move g).sends ≡ w.messages =
          ap (λ ms. w.messages ++ ms) (sends g) ∙ append-nil w.messages in
          let long : length (w.messages ++ (move g).sends) ≡ length w.messages = ap length same in (
            record {
              gateways = length-set w.gateways (gateway - 1) (move g).gateway ∙ h.gateways;
              nodes = h.nodes;
              moment = h.moment;
              messages = omega (arith, h.messages, long);
              down = λ other within_is. set_changed (λ (g : Gateway). g.is_down) true w.gateways (gateway - 1)
                  (other - 1) g (move g).gateway e
                  ∙ ap (λ (b : Bool). if gateway - 1 == other - 1 then b else is_down_in w other) (becomes g)
                  ∙ ap (λ (b : Bool). if b then is_down else is_down_in w other)
                  (same_place gateway other low
                  (leb-true 1 other (and_parts (nat_le 1 other) (nat_le other s.gateways) within_is).0))
                  ∙ by_same other (gateway == other) (h.down other within_is);
              running = h.running;
            },
            omega (arith, long),
          )

-- ---- messages that come

delivers_passes : {f : Facts} {v : ReplayValue} (message : ℕ) (later : List Step) (P : ReplayValue → Type 0) → is_none_of f.messages message ≡ false
    → Holds f v → ((u : ReplayValue) → Holds f u → Passes u later P) → Passes v (delivers message ∷ later) P
delivers_passes {f} message later P there h rest =
    quiet_passes _ _ P refl (ap (λ b. refusing b NoMessage) (message_there f _ h.world _ there)) h rest

pub flow_passes : (f : Facts) (v : ReplayValue) (waiting : List ℕ) (P : ReplayValue → Type 0) → AllByRecursion (λ message. is_none_of f.messages message ≡ false) waiting
    → Holds f v → ((u : ReplayValue) → Holds f u → P u) → Passes v (map delivers waiting) P
flow_passes f v [] P there h done = passes_none v P (done v h)
flow_passes f v (message ∷ waiting) P there h done =
    delivers_passes _ _ P there.0 h (λ u k. flow_passes f u waiting P there.1 k done)

lot_passes : (f : Facts) (v : ReplayValue) (lot message : ℕ) (later : List Step) (P : ReplayValue → Type 0) → is_none_of f.messages message ≡ false
    → Holds f v → ((u : ReplayValue) → Holds f u → Passes u later P) → Passes v (lot_steps lot message ++ later) P
lot_passes f v lot message later P there h rest = by (lot == 0) (lot == 1) (lot == 2)
  where
    by : (none twice waits : Bool) → Passes v ((if none then Loses message ∷ [] else if twice then delivers message ∷ delivers message ∷ []
        else if waits then [] else delivers message ∷ []) ++ later) P
    by true twice waits = loses_passes f v _ P h rest
    by false true waits = delivers_passes _ _ P there h (λ u k. delivers_passes _ _ P there k rest)
    by false false true = rest v h
    by false false false = delivers_passes _ _ P there h rest

pub mix_passes : (f : Facts) (v : ReplayValue) (g : Lcg) (waiting : List ℕ) (P : ReplayValue → Type 0) → AllByRecursion (λ message. is_none_of f.messages message ≡ false) waiting
    → Holds f v → ((u : ReplayValue) → Holds f u → P u) → Passes v (mixed_steps g waiting) P
mix_passes f v g [] P there h done = passes_none v P (done v h)
mix_passes f v g (message ∷ waiting) P there h done =
    lot_passes f v ((pcg32 g).0 % 8) message (mixed_steps (pcg32 g).1 waiting) P there.0 h
    (λ u k. mix_passes f u (pcg32 g).1 waiting P there.1 k done)

-- ---- files that are written

-- a failure of a shelf is told, and there is no stop
came_passes : (f : Facts) (v : ReplayValue) (gateway : ℕ) (c : Came) (P : ReplayValue → Type 0) → is_calm c ≡ true → Holds f v
    → ((u : ReplayValue) → Holds f u → P u) → Passes v (came_steps gateway c) P
came_passes f v gateway (Ran a) P calm h done = passes_none v P (done v h)
came_passes f v gateway (FailedAt k) P calm h done =
    tells_passes _ [] P refl refl refl h (λ u held. passes_none u P (done u held))
came_passes f v gateway (StoppedAt k outcome) P calm h done = cc

pub write_passes : (f : Facts) (v : ReplayValue) (gateway : ℕ) (P : ReplayValue → Type 0) → Holds f v
    → ((u : ReplayValue) → Holds f u → P u) → Passes v (write_steps v gateway) P
write_passes f v gateway P h done =
    writes_passes _ _ P h (λ u held. by u held (slice_get v.machines (gateway - 1)) refl)
  where
    by : (u : ReplayValue) → Holds f u → (o : Option Machine) → slice_get v.machines (gateway - 1) ≡ o
        → Passes u (option_map_or (λ m. came_steps gateway (came_of_write v (gateway - 1) m)) o []) P
    by u held None is = passes_none u P (done u held)
    by u held (Some m) is =
        came_passes f u _ _ P
        (calls_calm _ (length (shelf_calls (files_in v.setup (gateway - 1)) (items_firm v (gateway - 1)) m.filing))
        (all_get _ _ _ m is h.unarmed).1) held done

-- ---- gateways that settle

pub disarms_all : (f : Facts) (v : ReplayValue) (gateways : List ℕ) (later : List Step) (P : ReplayValue → Type 0) → Holds f v
    → ((u : ReplayValue) → Holds f u → Passes u later P) → Passes v (map (λ gateway. Disarms (gateway - 1)) gateways ++ later) P
disarms_all f v [] later P h rest = rest v h
disarms_all f v (gateway ∷ gateways) later P h rest =
    disarms_passes f v _ _ P h (λ u k. disarms_all f u gateways later P k rest)

weaker_holds : (s : Scene) (messages : ℕ) (down other : ℕ → Bool) {v : _}
    → ((gateway : ℕ) → within s.gateways gateway ≡ true → down gateway ≡ other gateway) → Holds (facts s messages down) v → Holds (facts s messages other) v
weaker_holds s messages down other {v} same h =
    let as_other : (gateway : ℕ) → within s.gateways gateway ≡ true → is_down_in v.world gateway ≡ other gateway =
    λ gateway is. h.world.down gateway is ∙ same gateway is in
    assumption

changed_here : (gateway : ℕ) (b : Bool) (down : ℕ → Bool) → changed gateway b down gateway ≡ b
changed_here gateway b down = cc (eq-eqb gateway gateway refl)

unchanged : (gateway : ℕ) (down : ℕ → Bool) {b : _} → down gateway ≡ b → (other : ℕ) → down other ≡ changed gateway b down other
unchanged gateway down is other = grind (arith, nat_tests)

module _ (s : Scene) (messages : ℕ) where
  pub opens_passes : (down : ℕ → Bool) (v : ReplayValue) (gateway : ℕ) (later : List Step) (P : ReplayValue → Type 0) → within s.gateways gateway ≡ true
      → down gateway ≡ true → Holds (facts s messages down) v
      → ((u : ReplayValue) → Holds (facts s messages (changed gateway false down)) u → Passes u later P) → Passes v (Plays (event.Open gateway) ∷ later) P
  opens_passes down v gateway later P is stopped h rest =
      let moves = changes s _ _ _ h.world _ (λ g. still (opened (rules_in v.setup) g)) false is (λ g. refl)
      (λ g. refl) in
      calm_passes _ _ P refl (gateway_opens _ _ h.world _ is stopped) h.unarmed moves.0 moves.1 h rest

  pub stops_passes : (down : ℕ → Bool) (v : ReplayValue) (gateway : ℕ) (later : List Step) (P : ReplayValue → Type 0) → within s.gateways gateway ≡ true
      → down gateway ≡ false → Holds (facts s messages down) v
      → ((u : ReplayValue) → Holds (facts s messages (changed gateway true down)) u → Passes u later P) → Passes v (Plays (event.Cut gateway 0) ∷ later) P
  stops_passes down v gateway later P is up h rest =
      let moves = changes s _ _ _ h.world _ (λ g. still (cut 0 g)) true is (λ g. refl) (λ g. refl) in
      calm_passes _ _ P refl (gateway_runs _ _ h.world _ is up) (with_unarmed v _ _ (λ m k. (refl, refl)) h.unarmed)
      moves.0 moves.1 h rest

  -- a gateway that runs commits, closes its files, commits again and writes
  runs_settling : (down : ℕ → Bool) {v : _} (gateway : ℕ) {later : _} (P : ReplayValue → Type 0) → within
      s.gateways gateway ≡ true
      → down gateway ≡ false → Holds (facts s messages down) v
      → ((u : ReplayValue) → Holds (facts s messages down) u → Passes u later P)
      → Passes v (Plays (event.Commit gateway) ∷ Plays (event.Close gateway) ∷ Plays (event.Commit gateway) ∷ Writes (gateway - 1) ∷ later) P
  runs_settling down gateway P is up h rest =
      let f = facts s messages down in
      quiet_passes _ _ P refl (gateway_runs f _ h.world _ is up) h
      (λ a ha. quiet_passes _ _ P refl (gateway_runs f _ ha.world _ is up) ha
      (λ b hb. quiet_passes _ _ P refl (gateway_runs f _ hb.world _ is up) hb (λ c hc. writes_passes _ _ P hc rest)))

  settles_one : (from : ReplayValue) (down : ℕ → Bool) (v : ReplayValue) (gateway : ℕ) (later : List Step) (P : ReplayValue → Type 0)
      → within s.gateways gateway ≡ true → is_down_in from.world gateway ≡ down gateway → Holds (facts s messages down) v
      → ((u : ReplayValue) → Holds (facts s messages (changed gateway false down)) u → Passes u later P) → Passes v (settling_steps from gateway ++ later) P
  settles_one from down v gateway later P is same h rest = by (is_down_in from.world gateway) (sym same)
    where
      by : (b : Bool) → down gateway ≡ b → Passes v (((if b then Plays (event.Open gateway) ∷ [] else [])
          ++ Plays (event.Commit gateway) ∷ Plays (event.Close gateway) ∷ Plays (event.Commit gateway) ∷ Writes (gateway - 1) ∷ []) ++ later) P
      by true e =
          opens_passes down v gateway _ P is e h
          (λ u k. runs_settling (changed gateway false down) {v = u} gateway {later = later} P is
          (changed_here gateway false down) k rest)
      by false e =
          runs_settling (changed gateway false down) {v = v} gateway {later = later} P is
          (changed_here gateway false down)
          (weaker_holds s messages down (changed gateway false down) {v = v}
          (λ other within_is. unchanged gateway down {b = false} e other) h) rest

  pub settles_from : (from : ReplayValue) (a n : ℕ) (down : ℕ → Bool) (v : ReplayValue) (P : ReplayValue → Type 0) → 1 ≤ a → a + n ≡ suc s.gateways
      → ((gateway : ℕ) → 1 ≤ gateway → gateway < a → down gateway ≡ false)
      → ((gateway : ℕ) → a ≤ gateway → gateway ≤ s.gateways → is_down_in from.world gateway ≡ down gateway)
      → Holds (facts s messages down) v → ((u : ReplayValue) → Holds (facts s messages (λ gateway. false)) u → P u)
      → Passes v (flat_map (settling_steps from) (range_with_len a n)) P
  settles_from from a zero down v P low all up same h done =
      passes_none v P (done v (weaker_holds s _ _ _ (λ gateway is.
      let parts = and_parts (nat_le 1 gateway) (nat_le gateway s.gateways) is in
      up gateway (leb-true 1 gateway parts.0) (omega (arith, leb-true gateway s.gateways parts.1))) h))
  settles_from from a (suc n) down v P low all up same h done =
      settles_one from down v a (flat_map (settling_steps from) (range_with_len (a + 1) n)) P here (same a (omega arith) (omega (arith, all))) h
      (λ u k. settles_from from (a + 1) n (changed a false down) u P (omega arith) (omega (arith, all)) lower higher k done)
    where
      here : within s.gateways a ≡ true
      here = and_from (nat_le 1 a) (nat_le a s.gateways) (le-leb 1 a low) (le-leb a s.gateways (omega (arith, all)))

      lower : (gateway : ℕ) → 1 ≤ gateway → gateway < a + 1 → changed a false down gateway ≡ false
      lower gateway some less = by (a == gateway) refl
        where
          by : (c : Bool) → (a == gateway) ≡ c → (if c then false else down gateway) ≡ false
          by true e = refl
          by false e =
              ⊎_elim (λ is. absurd (eqb-false a gateway e (sym is))) (λ lt. up gateway some lt)
              (eq-or-lt_of_le (omega (arith, less)))

      higher : (gateway : ℕ) → a + 1 ≤ gateway → gateway ≤ s.gateways → is_down_in from.world gateway ≡ changed a false down gateway
      higher gateway more less =
          same gateway (omega (arith, more)) less
          ∙ sym (ap (λ (c : Bool). if c then false else down gateway) (ne_eqb a gateway (λ e. omega (arith, more, e))))
