-- A gateway tells a node that it is alive only once the node's start is firm, and knows of no start that wasn't made: in
-- each world. So the paths that a gateway knows lead to nodes of the world.
use Rattle.std.proofs.Common.{◌≡◌, ⊎_elim, ℕ, ◌-◌, ◌≤◌, true, false, List, [], ◌∷◌, length, take, Some, Contains, slice_get, refl, sym, ap, subst, ◌∙◌, arith, ◌<◌, Bool, if◌then◌else◌, ◌++◌, All, Option}
use Rattle.once_core.proofs.Names.{Addr, All-cons, All-nil, at_gateway, at_node, Began, Called, called, cons_option, Contains-append_cases, counter_of, delivered_to_node, false≢true, filter_map, firm_in, first_node_ip, first_world, Gateway, gateway_moved, GrowsTo, history_of, HistoryAct, HistoryEntry, is_alive, IsReached, known_nodes, log_at, LogEntry, Message, Moved, nat_tests, node_anew, node_at, node_called, node_ip, NodeId, none-some, Opening, opening_after, opening_of, opening_of-append, option_map, path_of, paths_of, RisesBy, ruled_turns, RuledTurn, Rules, same_Some, slice_get_within, start_by, start_of, starts_in, StartsRise, submitting, ticking, times_of, Turn, turn, values_of, World}
use Rattle.node_core.specs.Reached as call
use Rattle.once_core.proofs.DueLemmas.{none_alive}
use Rattle.once_core.proofs.FirstPlays.{first_made, gateways_each, times_each}
use Rattle.once_core.proofs.LifeMoves.{redirected_truly, answers_truly, failed_truly, Truly, TrulyMoved, none_truly, tells_alive, truly_parts}
use Rattle.once_core.proofs.LifeNodes.{LifeCalled, LifeIn, halt_life, hear_life, start_life, submit_life, tick_life}
use Rattle.once_core.proofs.ListLemmas.{in_front, in_none}
use Rattle.once_core.proofs.NumberLemmas.{values_are, values_before, turns_forms, forms_at}
use Rattle.once_core.proofs.StartLemmas.{front_low, start_rises}
use Rattle.once_core.proofs.WorldPlays.{Laws, turn_made, Made, get_set}
use Rattle.once_core.proofs.CaseLemmas.{map_known, set_known, by_option}
use Rattle.once_core.proofs.PartLemmas.{first_keeps, turn_keeps, firm_or, firm_there, log_or, log_there, turns_hold}
use Rattle.once_core.proofs.MeaningLemmas.{NodeSaid}
use Rattle.once_core.proofs.EachLemmas.{by_each, each_front}

-- the starts that the node at an address made
abbrev pub starts_at : World → ℕ → ℕ
starts_at w ip = starts_in (log_at w (ip - first_node_ip))

-- the starts of the node in a place that a gateway knows firmly
abbrev pub known_at : World → ℕ → ℕ → ℕ
known_at w place gateway = start_of (node_ip place) (firm_in w gateway)

-- What holds of each world: no gateway knows of a start that wasn't made; a message that tells a node of life tells of a
-- start that is firm; one of a node is of a start that it made; and a gateway that is alive to a node knows its start firmly.
pub record Lives (w : World) : Type 0 where
  pub gateways : (place : ℕ) (g : Gateway) → slice_get w.gateways place ≡ Some g → Truly place (starts_at w) g
  pub told : (m : Message) → Contains w.messages m → m.to_gateway ≡ false → tells_alive m ≡ true → m.start ≤ known_at w m.node m.gateway
  pub began : (m : Message) → Contains w.messages m → m.to_gateway ≡ true → m.start ≤ starts_in (log_at w m.node)
  pub alive : (place : ℕ) → LifeIn (known_at w place) (log_at w place)

-- fewer messages tell no more
lost_lives : (w : World) (count : ℕ) → Lives w → Lives (record w { messages = take count w.messages })
lost_lives w count lives = record {
  gateways = lives.gateways;
  told = λ m is. lives.told m (in_front count w.messages m is);
  began = λ m is. lives.began m (in_front count w.messages m is);
  alive = lives.alive;
}

-- the bound may be greater
more_truly : {place : ℕ} {bound : ℕ → ℕ} {g : Gateway} (more : ℕ → ℕ) → ((ip : ℕ) → bound ip ≤ more ip) → Truly place bound g → Truly place more g
more_truly more less truly = record {
  knows = record { rises = truly.rises; low = λ ip. omega (arith, truly.low ip, less ip); says = truly.says };
  fronts = truly.fronts;
  broken = truly.broken;
}

module _ (w : World) (lives : Lives w) (place : ℕ) where
  -- ---- a gateway's move

  move_lives : (g : Gateway) → slice_get w.gateways place ≡ Some g → (moved : Moved) → TrulyMoved place (starts_at w) g moved → Lives (gateway_moved w place moved)
  move_lives g there moved moves = record {
    gateways = set_known w.gateways place moved.gateway g there (λ q o. (a : Gateway) → o ≡ Some a → Truly q (starts_at w) a)
        (λ a is. subst (Truly place (starts_at w)) (same_Some moved.gateway a is) moves.truly) (λ q apart. lives.gateways q);
    told = λ m is from alive. ⊎_elim
        (λ old. omega (arith, lives.told m old from alive, firm_more (node_ip m.node) m.gateway))
        (λ new.
        subst (λ (q : ℕ). m.start ≤ known_at (gateway_moved w place moved) m.node q) (sym (moves.sends m new).at)
        (subst (λ (h : List HistoryEntry). m.start ≤ start_of (node_ip m.node) h) (sym (ap firm_or (get_set w.gateways place moved.gateway g there))) ((moves.sends m new).tells alive)))
        (Contains-append_cases w.messages moved.sends m is);
    began = λ m is to. ⊎_elim (λ old. lives.began m old to) (λ new. absurd (false≢true (sym (moves.sends m new).from ∙ to))) (Contains-append_cases w.messages moved.sends m is);
    alive = λ p q is. omega (arith, lives.alive p q is, firm_more (node_ip p) q);
  }
    where
      -- firm parts know of no lesser starts than before
      firm_more : (ip q : ℕ) → start_of ip (firm_in w q) ≤ start_of ip (firm_in (gateway_moved w place moved) q)
      firm_more ip = set_known w.gateways place moved.gateway g there (λ q o. start_of ip (firm_in w q) ≤ start_of ip (firm_or o))
          (omega (
            arith,
            front_low ip g.book.firm moved.gateway.book.rest moved.gateway.book.firm moves.truly.rises moves.grows,
            ap (start_of ip) (firm_there w place g there),
          ))
          (λ q apart. omega arith)

  gateway_lives : (move : Gateway → Moved) → ((g : Gateway) → Truly place (starts_at w) g → TrulyMoved place (starts_at w) g (move g)) → Lives (at_gateway w place move)
  gateway_lives move moves = map_known Lives (slice_get w.gateways place) (λ none. lives) (λ g there. move_lives g there (move g) (moves g (lives.gateways place g there)))

  -- ---- a node's call

  call_lives : (log : List LogEntry) → slice_get w.nodes place ≡ Some log → (done : Called) → LifeCalled (known_at w place) place log done → Lives (node_called w place done)
  call_lives log there done calls = record {
    gateways = λ q a is. more_truly (starts_at (node_called w place done)) (λ ip. starts_more (ip - first_node_ip)) (lives.gateways q a is);
    told = λ m is from alive. ⊎_elim
        (λ old. lives.told m old from alive)
        (λ new. absurd (false≢true (sym from ∙ (calls.sends m new).0)))
        (Contains-append_cases w.messages done.sends m is);
    began = λ m is to. ⊎_elim
        (λ old. omega (arith, lives.began m old to, starts_more m.node))
        (λ new.
        subst (λ (p : ℕ). m.start ≤ starts_in (log_at (node_called w place done) p)) (sym (calls.sends m new).1)
        (subst (λ (l : List LogEntry). m.start ≤ starts_in l) (sym (ap log_or (get_set w.nodes place done.log log there))) (calls.sends m new).2))
        (Contains-append_cases w.messages done.sends m is);
    alive = set_known w.nodes place done.log log there (λ p o. LifeIn (known_at w p) (log_or o)) calls.alive (λ p apart. lives.alive p);
  }
    where
      starts_more : (p : ℕ) → starts_in (log_at w p) ≤ starts_in (log_at (node_called w place done) p)
      starts_more = set_known w.nodes place done.log log there (λ p o. starts_in (log_at w p) ≤ starts_in (log_or o))
          (omega (arith, ap starts_in (log_there w place log there), calls.grows)) (λ p apart. omega arith)

  node_lives : (call : List LogEntry → Called) → ((log : List LogEntry) → slice_get w.nodes place ≡ Some log → LifeIn (known_at w place) log → LifeCalled (known_at w place) place log (call log))
      → Lives (at_node w place call)
  node_lives call calls = map_known Lives (slice_get w.nodes place) (λ none. lives)
      (λ log there. call_lives log there (call log) (calls log there (subst (LifeIn (known_at w place)) (log_there w place log there) (lives.alive place))))

-- ---- turns

module _ (laws : Laws) (rules : Rules) (values : ℕ → ℕ → List ℕ) (w : World) (made : Made values w) (lives : Lives w) where
  said : (m : Message) → Contains w.messages m → m.to_gateway ≡ true → NodeSaid m
  said m there to = (made.sound.messages m there).node to

  -- a message of a node is of a start that it made
  within : (m : Message) → Contains w.messages m → m.to_gateway ≡ true → m.start ≤ starts_at w (node_ip m.node)
  within m there to =
      let same : m.node ≡ node_ip m.node - first_node_ip = omega arith in
      subst (λ (p : ℕ). m.start ≤ starts_in (log_at w p)) same (lives.began m there to)

  turn_lives : (t : Turn) → Lives (turn rules w t)
  turn_lives = turn_keeps {rules = rules} {w = w} {Q = λ place g moved. Truly place (starts_at w) g → TrulyMoved place (starts_at w) g moved} {W = Lives} (record {
    parts = λ place. truly_parts place (starts_at w);
    redirects = λ place cause to g truly. redirected_truly truly cause to;
    fails = λ m there to g truly. failed_truly (starts_at w) laws.back laws.roles rules w.now m to (said m there to) (within m there to) truly;
    answers = λ m there to g sound fresh truly. answers_truly (starts_at w) laws.back laws.roles rules w.now m to (said m there to) (within m there to) truly sound fresh;
    moves = λ place move moves. gateway_lives w lives place move moves;
    submits = λ place packet. node_lives w lives place (submitting (length w.gateways) place packet)
        (λ log here life. submit_life (known_at w place) place log life (length w.gateways) (made.sound.nodes place log here) packet);
    ticks = λ place running. node_lives w lives place (ticking (length w.gateways) place) (λ log here life. tick_life (known_at w place) place log life (length w.gateways));
    halts = λ place. node_lives w lives place (called (length w.gateways) place call.Halt) (λ log here life. halt_life (known_at w place) place log life (length w.gateways));
    starts = λ place fewer. node_lives w lives place (called (length w.gateways) place call.Start)
        (λ log here life. start_life (known_at w place) place log life (length w.gateways));
    hears = λ m there from. node_lives w lives m.node (delivered_to_node (length w.gateways) m.node m) (λ log here life.
        hear_life (known_at w m.node) (length w.gateways) m log life laws.back laws.roles from ((made.sound.messages m there).gateway from) (lives.told m there from));
    same = lives;
    lost = λ v count. lost_lives v count;
    later = λ now. record { gateways = lives.gateways; told = lives.told; began = lives.began; alive = lives.alive };
  })

-- ---- how a world begins

first_lives : (rules : ℕ → Rules) (gateways nodes : ℕ) → Lives (first_world rules gateways nodes)
first_lives rules gateways nodes = record {
  gateways = λ place g is. subst (Truly place (starts_at (first_world rules gateways nodes))) (gateways_each rules gateways place g is)
      (first_keeps (truly_parts place (starts_at (first_world rules gateways nodes))) (rules place) (none_truly refl tt (λ ip. omega arith))).truly;
  told = λ m is. absurd (in_none m is);
  began = λ m is. absurd (in_none m is);
  alive = λ place. map_known (LifeIn (known_at (first_world rules gateways nodes) place)) (slice_get (times_of nodes (Began ∷ [])) place)
      (λ none gateway is. absurd (dead 1 gateway is))
      (λ log there. subst (LifeIn (known_at (first_world rules gateways nodes) place)) (times_each nodes (Began ∷ []) place log there) (λ gateway is. absurd (dead (counter_of 1 (Began ∷ [])) gateway is)));
}
  where
    dead : (counter gateway : ℕ) → is_alive (node_anew counter) gateway ≡ true → ⊥
    dead counter gateway is = false≢true (sym (none_alive counter gateway) ∙ is)

-- ---- in each world

-- the octets of the packets of a world
abbrev pub values_in : World → ℕ → ℕ → List ℕ
values_in w place = values_of (log_at w place)

module _ (laws : Laws) (rules : ℕ → Rules) (gateways nodes : ℕ) (all : List RuledTurn) (some : 1 ≤ gateways) where
  abbrev there : World
  there = ruled_turns (first_world rules gateways nodes) all

  made_lives : Made (values_in there) there × Lives there
  made_lives = turns_hold (λ (v : World). Made (values_in there) v × Lives v) (first_world rules gateways nodes) all
      (λ v t after is both. (
        turn_made laws t.rules (values_in there) v both.0 (λ place. values_before (values_in there place) (forms_at v place) (forms_at there place)
            (subst (λ (u : World). GrowsTo (forms_at v place) (forms_at u place)) is (turns_forms v (t ∷ after) place)) (values_are (log_at there place))) t.turn,
        turn_lives laws t.rules (values_in there) v both.0 both.1 t.turn,
      ))
      (first_made (values_in there) rules gateways nodes some, first_lives rules gateways nodes)

  pub world_made : Made (values_in (ruled_turns (first_world rules gateways nodes) all)) (ruled_turns (first_world rules gateways nodes) all)
  world_made = made_lives.0

  pub world_lives : Lives (ruled_turns (first_world rules gateways nodes) all)
  world_lives = made_lives.1

pub reached_made : Laws → (w : World) → IsReached w → Made (values_in w) w
reached_made laws w is = subst (λ (v : World). Made (values_in v) v) is.is (world_made laws is.rules is.gateways is.nodes is.all is.some)

pub reached_lives : Laws → (w : World) → IsReached w → Lives w
reached_lives laws w is = subst Lives is.is (world_lives laws is.rules is.gateways is.nodes is.all is.some)

-- where starts rise, that of a path isn't 0
path_begun : (node : ℕ) (h : List HistoryEntry) → StartsRise h → (o : Opening) → opening_of node h ≡ Some o → 1 ≤ o.counter
path_begun node = by_each (λ before e. RisesBy before e.act) (λ h. (o : Opening) → opening_of node h ≡ Some o → 1 ≤ o.counter)
    (λ o is. absurd (cc)) (λ h e all rises so_far o is. by h e.act rises o (so_far o) (sym (opening_of-append node h e) ∙ is))
  where
    by : (h : List HistoryEntry) (a : HistoryAct) → RisesBy h a → (o : Opening) → (opening_of node h ≡ Some o → 1 ≤ o.counter)
        → opening_after node (opening_of node h) a ≡ Some o → 1 ≤ o.counter
    by h a rises o so_far is = grind (arith, nat_tests)

-- a log that isn't there has no start
is_there : (w : World) (place : ℕ) → 1 ≤ starts_in (log_at w place) → place < length w.nodes
is_there w place some = grind (arith, slice_get_within w.nodes place)

module _ (w : World) (lives : Lives w) (place : ℕ) (g : Gateway) (there : slice_get w.gateways place ≡ Some g) where
  rises : (b : Bool) → StartsRise (if b then g.book.firm else g.book.firm ++ g.book.rest)
  rises true = each_front (λ before e. RisesBy before e.act) [] g.book.firm g.book.rest (lives.gateways place g there).rises
  rises false = (lives.gateways place g there).rises

  low : (ip : ℕ) (b : Bool) → start_of ip (if b then g.book.firm else g.book.firm ++ g.book.rest) ≤ start_of ip (g.book.firm ++ g.book.rest)
  low ip true = start_rises ip g.book.firm g.book.rest (lives.gateways place g there).rises
  low ip false = omega arith

  path_leads : (n : NodeId) (path : Addr) → path_of (history_of g.book) n ≡ Some path → node_at path < length w.nodes
  path_leads n path is = by_option
      (λ (o : Option Opening). option_map
      (λ (opening : Opening). record { ip = n.0; port = opening.port }) o ≡ Some path → node_at path < length w.nodes)
      (opening_of n.0 (history_of g.book)) (λ none isnt. absurd (none-some path isnt))
      (λ o e at.
      let ip : n.0 ≡ path.ip = ap (λ (a : Addr). a.ip) (same_Some _ path at) in
      let begun = path_begun n.0 (history_of g.book) (rises g.book.is_broken) o e in
      let made = (lives.gateways place g there).low n.0 in
      omega (
        arith,
        ip,
        is_there w (n.0 - first_node_ip)
            (omega (arith, begun, ap start_by e, low n.0 g.book.is_broken, made)),
      )) is

filtered_all : {A B : Type 0} (P : B → Type 0) (f : A → Option B) → ((x : A) (y : B) → f x ≡ Some y → P y) → (xs : List A) → All P (filter_map f xs)
filtered_all P f holds [] = All-nil P
filtered_all {B} P f holds (x ∷ xs) = by_option (λ (o : Option B). All P (cons_option o (filter_map f xs))) (f x)
    (λ none. filtered_all P f holds xs)
    (λ y is. All-cons P y (filter_map f xs) (holds x y is) (filtered_all P f holds xs))

-- the paths that a gateway knows are of nodes of the world
abbrev pub PathsLead : World → Type 0
PathsLead w = (place : ℕ) (g : Gateway) → slice_get w.gateways place ≡ Some g →
    All (λ path. node_at path < length w.nodes) (paths_of (history_of g.book))

pub paths_lead : Laws → (rules : ℕ → Rules) (gateways nodes : ℕ) (all : List RuledTurn) → 1 ≤ gateways → PathsLead (ruled_turns (first_world rules gateways nodes) all)
paths_lead laws rules gateways nodes all some place g there =
    let w = ruled_turns (first_world rules gateways nodes) all in
    filtered_all (λ (path : Addr). node_at path < length w.nodes) (path_of (history_of g.book))
    (path_leads w (world_lives laws rules gateways nodes all some) place g there) (known_nodes (history_of g.book))
