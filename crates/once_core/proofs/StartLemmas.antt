-- The starts of nodes that a gateway knows of only rise.
use Rattle.std.proofs.Common.{◌≡◌, ℕ, ◌≤◌, List, [], ◌∷◌, ◌++◌, Option, Some, None, sym, subst, arith}
use Rattle.std.specs.Prelude.{option_map}
use Rattle.once_core.proofs.Names.{Caller, GrowsTo, HistoryAct, HistoryEntry, nat_tests, NodeId, opened_by, Opening, opening_of-append, RisesBy, start_by, start_of, StartsRise}
use Rattle.gw_base.specs.declared.history.HistoryAct.TheVariants as act
use Rattle.once_core.proofs.EachLemmas.{by_each_from, each_front}

-- ---- with one entry

pub one_rises : (ip : ℕ) (k : List HistoryEntry) (e : HistoryEntry) → RisesBy k e.act → start_of ip k ≤ start_of ip (k ++ e ∷ [])
one_rises ip k e rises = grind (arith, nat_tests, opening_of-append ip k e)

pub start_rises : (ip : ℕ) (h g : List HistoryEntry) → StartsRise (h ++ g) → start_of ip h ≤ start_of ip (h ++ g)
start_rises ip h g all =
    by_each_from (λ before e. RisesBy before e.act) (λ k. start_of ip h ≤ start_of ip k)
    (λ k e before rises low. let step = one_rises ip k e rises in omega (arith, low, step)) h g all (omega arith)

-- an act that begins no epoch
abbrev pub IsNoPath : HistoryAct → Type 0
IsNoPath (act.Path n port counter) = ⊥
IsNoPath _ = Unit {0}

pub no_path_rises : (h : List HistoryEntry) (a : HistoryAct) → IsNoPath a → RisesBy h a
no_path_rises h a isnt = grind arith

pub no_path_same : (ip : ℕ) (h : List HistoryEntry) (e : HistoryEntry) → IsNoPath e.act → start_of ip (h ++ e ∷ []) ≡ start_of ip h
no_path_same ip h e isnt = grind (arith, opening_of-append ip h e)

-- behind a Path of its own the node's start is the counter of that
pub path_starts : (h : List HistoryEntry) (moment : ℕ) (who : Caller) (n : NodeId) (port counter : ℕ)
    → start_of n.0 (h ++ record { moment = moment; caller = who; act = act.Path n port counter } ∷ []) ≡ counter
path_starts h moment who n port counter =
    grind (arith, nat_tests, opening_of-append n.0 h (record { moment = moment; caller = who; act = act.Path n port counter }))

-- ---- with some entries

-- a front of a history knows of no greater start
pub front_low : (ip : ℕ) (h rest k : List HistoryEntry) → StartsRise (k ++ rest) → GrowsTo h k → start_of ip h ≤ start_of ip k
front_low ip h rest k all goes =
    let front = each_front (λ before e. RisesBy before e.act) [] k rest all in
    subst (λ (v : List HistoryEntry). start_of ip h ≤ start_of ip v) (sym goes.is) (start_rises ip h goes.more (subst StartsRise goes.is front))

-- ---- what an Echo Response tells

-- a counter that opens no epoch is the present start
pub known_start : (opening : Option Opening) (counter : ℕ) → opened_by (option_map (λ o. o.counter) opening) counter ≡ None → start_by opening ≡ counter
known_start opening counter e = grind (arith, nat_tests)

-- and one that does is the start of the epoch
pub opened_start : (opening : Option Opening) (counter path : ℕ) → opened_by (option_map (λ o. o.counter) opening) counter ≡ Some path → counter ≡ path
opened_start opening counter path e = grind (arith, nat_tests)
