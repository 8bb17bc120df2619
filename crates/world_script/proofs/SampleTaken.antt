-- Lemmas on samples: the world takes each line of one.
use Rattle.std.proofs.Common.{◌≡◌, ℕ, zero, suc, ◌+◌, ◌-◌, ◌*◌, ◌%◌, ◌<◌, ◌≤◌, min, not, ◌||◌, ◌==◌, nat_le, nat_lt, Bool, true, false, if◌then◌else◌, List, [], ◌∷◌, ◌++◌, map, filter, Option, Some, None, refl, ap, subst, arith, le-leb, eq-eqb, mod-lt, ◌&&◌}
use Rattle.world_script.proofs.Names.{after_line, after_words, and_from, and_parts, are_settings_first, block, block_time, blocks, calm_round, commits, Extent, first_moment, first_scene, flat_map, flat_map_single, has_gateway, has_node, has_running, is_setting_line, is_stopped, Lcg, Line, list_any, nat_tests, opening, or_from, or_parts, packets_from, packets_of, range_with_len, runs, sample_of, Scene, seeded, stopped_during, stormy, submitted, takes, takes_all, ticks, times, wild_round, wild_rounds, word, words_of_block, writes}
use Rattle.world_script.specs.declared.line.Line.TheVariants as line

-- Lines that the world takes from one scene to another.

abbrev after_lines : Scene → List Line → Scene
after_lines s [] = s
after_lines s (said ∷ lines) = after_lines (after_line s said) lines

-- the world takes them, and none is a setting
pub record Leads (from : Scene) (lines : List Line) (to : Scene) : Type 0 where
  pub taken : takes_all from lines ≡ true
  pub after : after_lines from lines ≡ to
  pub acts : list_any is_setting_line lines ≡ false

none : (s : Scene) → Leads s [] s
none s = record { taken = refl; after = refl; acts = refl }

first : (from : Scene) (said : Line) {to : Scene} {lines : List Line} → takes from said ≡ true →
    is_setting_line said ≡ false → Leads (after_line from said) lines to → Leads from (said ∷ lines) to
first from said {lines = lines} h quiet later = search (arith, and_from, or_from)

-- a line that leaves the scene as it is
stays : (s : Scene) (said : Line) {to : Scene} {lines : List Line} → takes s said ≡ true → after_line s said ≡ s →
    is_setting_line said ≡ false → Leads s lines to → Leads s (said ∷ lines) to
stays s said h same quiet later = first s said h quiet (rw same later)

lines_then : (from middle to : Scene) (xs ys : List Line) → Leads from xs middle → Leads middle ys to → Leads from (xs ++ ys) to
lines_then from middle to [] ys h k = rw h.after k
lines_then from middle to (said ∷ xs) ys h k =
    let p = and_parts (takes from said) (takes_all (after_line from said) xs) h.taken in
    let q = or_parts (is_setting_line said) (list_any is_setting_line xs) h.acts in
    first from said p.0 q.0 (lines_then (after_line from said) middle to xs ys
    (record { taken = p.1; after = h.after; acts = q.1 }) k)

pub then_lines : {from middle to : Scene} {xs ys : List Line} → Leads from xs middle → Leads middle ys to → Leads from (xs ++ ys) to
then_lines {from} {middle} {to} {xs} {ys} h k = lines_then from middle to xs ys h k

-- and one for each that passes
mapped : (s : Scene) (make : ℕ → Line) (p : ℕ → Bool) (a n : ℕ) → ((k : ℕ) → a ≤ k → k < a + n → p k ≡ true → takes s (make k) ≡ true) →
    ((k : ℕ) → after_line s (make k) ≡ s) → ((k : ℕ) → is_setting_line (make k) ≡ false) →
    Leads s (map make (filter p (range_with_len a n))) s
mapped s make p a zero h same quiet = none s
mapped s make p a (suc n) h same quiet =
    by (p a) refl (mapped s make p (a + 1) n (λ k low high. h k (omega (arith, low)) (omega (arith, high))) same quiet)
  where
    by : (b : Bool) → p a ≡ b → Leads s (map make (filter p (range_with_len (a + 1) n))) s →
        Leads s (map make (if b then a ∷ filter p (range_with_len (a + 1) n) else filter p (range_with_len (a + 1) n))) s
    by true e later = stays s (make a) (h a (omega arith) (omega arith) e) (same a) (quiet a) later
    by false e later = later

-- lists of lines, from one scene to the next
joined : (at : ℕ → Scene) (f : ℕ → List Line) (a n : ℕ) →
    ((k : ℕ) → a ≤ k → k < a + n → Leads (at k) (f k) (at (k + 1))) →
    Leads (at a) (flat_map f (range_with_len a n)) (at (a + n))
joined at f a zero h = subst (λ (m : ℕ). Leads (at a) [] (at m)) (omega arith) (none (at a))
joined at f a (suc n) h =
    let end : a + suc n ≡ a + 1 + n = omega arith in
    rw end (lines_then (at a) (at (a + 1)) (at (a + 1 + n)) (f a) (flat_map f (range_with_len (a + 1) n))
    (h a (omega arith) (omega arith))
    (joined at f (a + 1) n (λ k low high. h k (omega (arith, low)) (omega (arith, high)))))

-- lines that leave the scene as it is, one for each number
all_mapped : (s : Scene) (make : ℕ → Line) (a n : ℕ) → ((k : ℕ) → a ≤ k → k < a + n → takes s (make k) ≡ true) →
    ((k : ℕ) → after_line s (make k) ≡ s) → ((k : ℕ) → is_setting_line (make k) ≡ false) →
    Leads s (map make (range_with_len a n)) s
all_mapped s make a n h same quiet =
    subst (λ (lines : List Line). Leads s lines s) (flat_map_single make (range_with_len a n))
    (joined (λ _. s) (λ k. make k ∷ []) a n (λ k low high. stays s (make k) (h k low high) (same k) (quiet k) (none s)))

-- The parts of a sample.

abbrev scene : Extent → ℕ → List ℕ → Scene
scene e moment stopped = record { gateways = e.gateways; nodes = e.nodes; moment = moment; stopped = stopped }

-- these gateways are stopped: none or one
abbrev stopped_ones : Option ℕ → List ℕ
stopped_ones None = []
stopped_ones (Some gateway) = gateway ∷ []

not_less : (b : Bool) → (not b) ≡ true → (not (b || false)) ≡ true
not_less b h = grind arith

gateway_there : (e : Extent) (gateway : ℕ) → 1 ≤ gateway → gateway ≤ e.gateways →
    (nat_le 1 gateway && nat_le gateway e.gateways) ≡ true
gateway_there e gateway low high = search (arith, nat_tests, and_from, le-leb)

runs_there : (e : Extent) (moment gateway : ℕ) (stopped : Option ℕ) → 1 ≤ gateway → gateway ≤ e.gateways →
    runs stopped gateway ≡ true →
    has_running (scene e moment (stopped_ones stopped)) gateway ≡ true
runs_there e moment gateway stopped low high h = grind (arith, and_from, gateway_there, not_less)

node_there : (e : Extent) (moment node : ℕ) (stopped : List ℕ) → 1 ≤ node → node ≤ e.nodes →
    has_node (scene e moment stopped) node ≡ true
node_there e moment node stopped low high = search (arith, nat_tests, and_from, le-leb)

ticks_taken : (e : Extent) (moment : ℕ) (stopped : List ℕ) →
    Leads (scene e moment stopped) (ticks e.nodes) (scene e moment stopped)
ticks_taken e moment stopped =
    all_mapped (scene e moment stopped) line.Tick 1 e.nodes
    (λ k low high. node_there e moment k stopped low (omega (arith, high))) (λ k. refl) (λ k. refl)

commits_taken : (e : Extent) (moment : ℕ) (stopped : Option ℕ) →
    Leads (scene e moment (stopped_ones stopped)) (commits e.gateways stopped) (scene e moment (stopped_ones stopped))
commits_taken e moment stopped =
    mapped (scene e moment (stopped_ones stopped)) line.Commit (runs stopped) 1 e.gateways
    (λ k low high there. runs_there e moment k stopped low (omega (arith, high)) there) (λ k. refl) (λ k. refl)

calm_taken : (e : Extent) (moment : ℕ) → Leads (scene e moment []) (calm_round e) (scene e moment [])
calm_taken e moment =
    let s = scene e moment [] in
    then_lines (then_lines (ticks_taken e moment []) (stays s line.Flow refl refl refl (commits_taken e moment None)))
    (stays s line.Flow refl refl refl (none s))

calm_rounds_taken : (e : Extent) (moment count : ℕ) →
    Leads (scene e moment []) (times count (λ _. calm_round e)) (scene e moment [])
calm_rounds_taken e moment count =
    joined (λ _. scene e moment []) (λ _. calm_round e) 0 count (λ k low high. calm_taken e moment)

wild_taken : (e : Extent) (moment : ℕ) (stopped : Option ℕ) (a b : ℕ) →
    Leads (scene e moment (stopped_ones stopped)) (wild_round e stopped a b) (scene e moment (stopped_ones stopped))
wild_taken e moment stopped a b =
    let s = scene e moment (stopped_ones stopped) in
    then_lines (then_lines (ticks_taken e moment (stopped_ones stopped)) (stays s (line.Mix a) refl refl refl (commits_taken e moment stopped)))
    (stays s (line.Mix b) refl refl refl (none s))

wild_rounds_taken : (e : Extent) (moment : ℕ) (stopped : Option ℕ) (g : Lcg) →
    Leads (scene e moment (stopped_ones stopped)) (wild_rounds e stopped g) (scene e moment (stopped_ones stopped))
unfolding wild_rounds
wild_rounds_taken e moment stopped g =
    joined (λ _. scene e moment (stopped_ones stopped)) (λ n. wild_round e stopped (word g (2 * n)) (word g (2 * n + 1))) 0 6
    (λ k low high. wild_taken e moment stopped (word g (2 * k)) (word g (2 * k + 1)))

-- a gateway is stopped and opened again
opened_again : (gateway : ℕ) → filter (λ h. not (h == gateway)) (gateway ∷ []) ≡ []
opened_again gateway = rw (eq-eqb gateway gateway refl) refl

it_is_stopped : (e : Extent) (moment gateway : ℕ) → is_stopped (scene e moment (gateway ∷ [])) gateway ≡ true
it_is_stopped e moment gateway = rw (eq-eqb gateway gateway refl) refl

stopped_taken : (e : Extent) (moment gateway : ℕ) (g : Lcg) → 1 ≤ gateway → gateway ≤ e.gateways →
    Leads (scene e moment []) (stopped_during e gateway g) (scene e moment [])
stopped_taken e moment gateway g low high =
    let s = scene e moment [] in
    let down = scene e moment (gateway ∷ []) in
    let opens : Leads down (line.Open gateway ∷ []) s =
    first down (line.Open gateway) (and_from (has_gateway down gateway) (is_stopped down gateway) (gateway_there e gateway low high) (it_is_stopped e moment gateway))
    refl (record { taken = refl; after = ap (λ (stopped : List ℕ). scene e moment stopped) (opened_again gateway); acts = refl }) in
    first s (line.Stop gateway) (runs_there e moment gateway None low high refl) refl (then_lines (wild_rounds_taken e moment (Some gateway) g) opens)

storm_taken : (e : Extent) (moment : ℕ) (g : Lcg) (few : Bool) → nat_lt e.gateways 2 ≡ few →
    Leads (scene e moment [])
    (if few then wild_rounds e None g else stopped_during e (1 + word g 0 % e.gateways) (after_words 1 g))
    (scene e moment [])
storm_taken e moment g true h = wild_rounds_taken e moment None g
storm_taken e moment g false h =
    let more : 2 ≤ e.gateways = grind (arith, h) in
    let within : word g 0 % e.gateways < e.gateways = mod-lt (word g 0) (omega (arith, more)) in
    stopped_taken e moment (1 + word g 0 % e.gateways) (after_words 1 g) (omega arith) (omega (arith, within))

stormy_taken : (e : Extent) (moment : ℕ) (g : Lcg) → Leads (scene e moment []) (stormy e g) (scene e moment [])
unfolding stormy
stormy_taken e moment g = storm_taken e moment g (nat_lt e.gateways 2) refl

packets_from_taken : (e : Extent) (moment node from : ℕ) → 1 ≤ node → node ≤ e.nodes →
    Leads (scene e moment []) (packets_from e node from) (scene e moment [])
unfolding packets_from
packets_from_taken e moment node from low high =
    all_mapped (scene e moment []) (submitted node) from (min 4 (e.packets - from))
    (λ k above below. node_there e moment node [] low high) (λ k. refl) (λ k. refl)

packets_taken : (e : Extent) (moment from : ℕ) → Leads (scene e moment []) (packets_of e from) (scene e moment [])
unfolding packets_of
packets_taken e moment from =
    joined (λ _. scene e moment []) (λ n. packets_from e (n + 1) (from + 4 * n)) 0 e.nodes
    (λ k low high. packets_from_taken e moment (k + 1) (from + 4 * k) (omega arith) (omega (arith, high)))

writes_taken : (e : Extent) (moment : ℕ) → Leads (scene e moment []) (writes e.gateways) (scene e moment [])
writes_taken e moment =
    let s = scene e moment [] in
    joined (λ _. s) (λ gateway. line.Mark gateway ∷ line.Write gateway ∷ []) 1 e.gateways (λ k low high.
    let there = runs_there e moment k None low (omega (arith, high)) refl in
    stays s (line.Mark k) there refl refl (stays s (line.Write k) there refl refl (none s)))

-- the moment after so many blocks
abbrev moment_after : ℕ → ℕ
moment_after n = first_moment + block_time * n

block_taken : (e : Extent) (n : ℕ) (g : Lcg) →
    Leads (scene e (moment_after n) []) (block e n g) (scene e (moment_after (n + 1)) [])
unfolding block
block_taken e n g =
    let s = scene e (moment_after n) [] in
    then_lines (then_lines (then_lines (packets_taken e (moment_after n) (4 * e.nodes * n)) (stormy_taken e (moment_after n) g)) (calm_rounds_taken e (moment_after n) 12))
    (first s (line.At (moment_after (n + 1))) (le-leb (moment_after n) (moment_after (n + 1)) (omega arith)) refl (writes_taken e (moment_after (n + 1))))

-- the lines of a sample between its two settings and its end
abbrev pub after_settings : ℕ → Extent → List Line
after_settings seed e =
    (line.At first_moment ∷ times 4 (λ _. calm_round e))
    ++ times (blocks e) (λ n. block e n (after_words (words_of_block e * n) (seeded seed)))

rest_taken : (seed : ℕ) (e : Extent) →
    Leads (scene e 0 []) (after_settings seed e ++ line.End ∷ []) (scene e (moment_after (0 + blocks e)) [])
rest_taken seed e =
    then_lines (then_lines (first (scene e 0 []) (line.At first_moment) refl refl (calm_rounds_taken e first_moment 4))
    (joined (λ n. scene e (moment_after n) []) (λ n. block e n (after_words (words_of_block e * n) (seeded seed))) 0 (blocks e)
    (λ k low high. block_taken e k (after_words (words_of_block e * k) (seeded seed)))))
    (stays (scene e (moment_after (0 + blocks e)) []) line.End refl refl refl
    (none (scene e (moment_after (0 + blocks e)) [])))

-- the world takes each line of a sample
pub sample_taken : (seed : ℕ) (e : Extent) → takes_all first_scene (sample_of seed e) ≡ true
unfolding opening
sample_taken seed e = (rest_taken seed e).taken

-- behind its two settings a sample has none
pub sample_settings : (seed : ℕ) (e : Extent) → are_settings_first (sample_of seed e) ≡ true
unfolding opening
sample_settings seed e = ap not (rest_taken seed e).acts
