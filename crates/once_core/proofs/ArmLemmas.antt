-- What the parts of a step give: what an event that isn't refused tells; that messages stay; how a world begins.
use Rattle.std.proofs.Common.{◌≡◌, ℕ, zero, suc, ◌+◌, ◌-◌, ◌≤◌, true, false, List, [], ◌∷◌, ◌++◌, Some, None, length, map, refl, ap, sym, ◌∙◌, arith, length-append, slice_get, add-one}
use Rattle.once_core.proofs.Names.{default_rules, Event, first_gateway, Gateway, gateway_kept, LogEntry, Message, no_running_node, node_kept, NodeKept, nodes_kept, Stands, times_of, turn_kept, world_of, WorldKept}
use Rattle.node_core.specs.Log

pub runs_there : (k : WorldKept) (number : ℕ) (n : NodeKept) → slice_get k.nodes (number - 1) ≡ Some n
    → no_running_node k number ≡ None → n.node.is_running ≡ true
runs_there k number n found allowed = grind arith

-- messages that were sent stay
pub turn_stays : (k : WorldKept) (e : Event) → length k.messages ≤ length (turn_kept k e).messages
turn_stays k e = grind (arith, length-append {A = Message})

-- ---- the beginning

nodes_from : (gateways first count place : ℕ) (log : List LogEntry) → place ≡ first + count
    → nodes_kept gateways first (times_of (suc count) log)
    ≡ nodes_kept gateways first (times_of count log) ++ node_kept gateways place log ∷ []
nodes_from gateways first zero place log e = ap (λ (n : ℕ). node_kept gateways n log ∷ []) (omega (arith, e))
nodes_from gateways first (suc count) place log e =
    ap (λ (ns : List NodeKept). node_kept gateways first log ∷ ns)
    (nodes_from gateways (suc first) count place log (omega (arith, e)))

pub nodes_more : (gateways count : ℕ) (log : List LogEntry)
    → nodes_kept gateways 0 (times_of (count + 1) log) ≡ nodes_kept gateways 0 (times_of count log) ++ node_kept gateways count log ∷ []
nodes_more gateways count log = rw add-one (nodes_from gateways 0 count count log (omega arith))

pub times_length : {A : Type 0} (n : ℕ) (a : A) → length (times_of n a) ≡ n
times_length zero a = refl
times_length (suc n) a = ap suc (times_length n a)

pub times_more : {A : Type 0} (n : ℕ) (a : A) → times_of (n + 1) a ≡ times_of n a ++ a ∷ []
times_more n a = rw add-one (by_count n)
  where
    by_count : (n : ℕ) → times_of (suc n) a ≡ times_of n a ++ a ∷ []
    by_count zero = refl
    by_count (suc n) = ap (λ xs. a ∷ xs) (by_count n)

times_kept : (n : ℕ) → times_of n (first_gateway default_rules) ≡ map gateway_kept (times_of n (first_gateway default_rules))
times_kept zero = refl
times_kept (suc n) = ap (λ (gs : List Gateway). first_gateway default_rules ∷ gs) (times_kept n)

pub first_stands : (gateways nodes : ℕ) (all : List Gateway) (kept : List NodeKept) (moment : ℕ) (messages : List Message)
    → all ≡ times_of gateways (first_gateway default_rules) → kept ≡ nodes_kept gateways 0 (times_of nodes (Log.Began ∷ [])) → moment ≡ 0 → messages ≡ []
    → Stands (world_of default_rules gateways nodes) (record { gateways = all; nodes = kept; moment = moment; messages = messages; is_spent = false })
first_stands gateways nodes all kept moment messages gs ns when none =
    let same : all ≡ map gateway_kept (times_of gateways (first_gateway default_rules)) = gs ∙ times_kept gateways in
    let here : kept ≡ nodes_kept (length (times_of gateways (first_gateway default_rules))) 0 (times_of nodes (Log.Began ∷ [])) =
    ns ∙ ap (λ (n : ℕ). nodes_kept n 0 (times_of nodes (Log.Began ∷ []))) (sym (times_length gateways (first_gateway default_rules))) in
    λ i. record { gateways = same i; nodes = here i; moment = when i; messages = none i; is_spent = false }
