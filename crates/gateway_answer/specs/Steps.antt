-- Words for steps of the code. No contract of a public call cites them.
use Rattle.std.specs.Prelude.{ℕ, ◌+◌, ◌*◌, ◌==◌, ◌&&◌, not, if◌then◌else◌, Bool, List, [], ◌∷◌, ◌++◌, length, filter, Option, None}
use Rattle.std.specs.List.{list_any}
use Rattle.gw_base.specs.History.{begins_epoch, due_after, names}
use Rattle.gw_base.specs.Observed.{Observed}
use Rattle.gw_base.specs.View.{stays_held}
use Rattle.gw_base.specs.declared.held.HeldKey.{HeldKey}
use Rattle.gw_base.specs.declared.history.HistoryAct.{HistoryAct}
use Rattle.gw_base.specs.declared.history.HistoryAct.TheVariants.{Hold}
use Rattle.transfer_cmd.specs.Lists.{is_held}
use Rattle.gateway_answer.specs.Filed.{packet_of_hold}

-- the numbers with one more at their end, where it isn't among them
abbrev pub with_number : List ℕ → ℕ → List ℕ
with_number numbers x = if list_any (λ y. y == x) numbers then numbers else numbers ++ x ∷ []

-- the numbers with one more at their end, where it is held and isn't among them
abbrev pub with_held : Observed → List ℕ → ℕ → List ℕ
with_held o numbers x = if is_held (o.state x) && not (list_any (λ y. y == x) numbers) then numbers ++ x ∷ [] else numbers

-- the packet that is held under a node's number after one more entry
abbrev pub packet_after : ℕ → ℕ → Option (List ℕ) → HistoryAct → Option (List ℕ)
packet_after node number packet act =
    if begins_epoch node act then None else (if names node number act then packet_of_hold act else packet)

-- how many keys an entry holds
abbrev pub holds_one : HistoryAct → ℕ
holds_one (Hold n x packet) = 1
holds_one _ = 0

-- what is promised behind an act, by the keys that are held and by whether a Close is due before it
abbrev pub promised_by : List HeldKey → Bool → HistoryAct → ℕ
promised_by held due act = 76 * (length (filter (λ key. stays_held act key) held) + holds_one act) + (if due_after due act then 30 else 0)
