-- What a gateway's history says of epochs, of request numbers, of moments and of what is to be closed.
use Rattle.std.specs.Prelude.{ℕ, ◌+◌, ◌-◌, max, ◌==◌, ◌&&◌, Bool, true, false, if◌then◌else◌, List, [], ◌∷◌, Option, Some, None, count_by, filter, length, slice_get, unwrap_or}
use Rattle.std.specs.List.{after_last, filter_map, last_or, list_any, slice_split}
use Rattle.std.specs.Option.{option_map_or}
use Rattle.gw_base.specs.Lists.{greatest, raised}
use Rattle.gw_base.specs.declared.history.HistoryAct.{HistoryAct}
use Rattle.gw_base.specs.declared.history.HistoryAct.TheVariants.{Path, File, Hold, Seal, Release, Cancel, Close}
use Rattle.gw_base.specs.declared.history.HistoryEntry.{HistoryEntry}
use Rattle.gw_base.specs.declared.history.PacketKey.{PacketKey}
use Rattle.gw_base.specs.declared.key_state.KeyState.{KeyState}
use Rattle.gw_base.specs.declared.key_state.KeyState.TheVariants.{Fresh, Filed, Sealed, Held, Released, Cancelled}
use Rattle.gw_base.specs.declared.scan.Copies.{Copies}
use Rattle.gw_base.specs.declared.scan.HoldFate.{HoldFate}
use Rattle.gw_base.specs.declared.scan.HoldFate.TheVariants as fate

-- Epochs.

-- whether an entry begins an epoch of a node
abbrev pub begins_epoch : ℕ → HistoryAct → Bool
begins_epoch node (Path n port counter) = n.0 == node
begins_epoch node _ = false

-- the number of a node's present epoch: how many Path entries of the node there are
abbrev pub epoch_of : ℕ → List HistoryEntry → ℕ
epoch_of node h = count_by (λ e. begins_epoch node e.act) h

-- the entries of a node's epoch: the Path entries of the node part the history, and epoch 0 is before the first
abbrev pub epoch_entries : ℕ → ℕ → List HistoryEntry → List HistoryEntry
epoch_entries node epoch h = unwrap_or (slice_get (slice_split (λ e. begins_epoch node e.act) h) epoch) []

-- those of a node's present epoch: what stands after the last Path entry of the node
abbrev pub present_entries : ℕ → List HistoryEntry → List HistoryEntry
present_entries node h = after_last (λ e. begins_epoch node e.act) h

-- Key states.

-- whether an entry names a node's number
abbrev pub names : ℕ → ℕ → HistoryAct → Bool
names node number (File n x packet) = (n.0 == node) && (x == number)
names node number (Hold n x packet) = (n.0 == node) && (x == number)
names node number (Seal n x) = (n.0 == node) && (x == number)
names node number (Release n xs) = (n.0 == node) && list_any (λ x. x == number) xs
names node number (Cancel n xs) = (n.0 == node) && list_any (λ x. x == number) xs
names node number _ = false

-- the state that an entry gives to what it names
abbrev pub given_state : HistoryAct → KeyState
given_state (File n x packet) = Filed
given_state (Hold n x packet) = Held
given_state (Seal n x) = Sealed
given_state (Release n xs) = Released
given_state (Cancel n xs) = Cancelled
given_state _ = Fresh

-- the last of these entries that names a node's number, where one does
abbrev pub last_naming : ℕ → ℕ → List HistoryEntry → Option HistoryEntry
last_naming node number entries = last_or None (filter (λ e. names node number e.act) entries)

-- the state that an entry gives, and Fresh where there is none
abbrev pub state_by : Option HistoryEntry → KeyState
state_by entry = option_map_or (λ e. given_state e.act) entry Fresh

-- a key's state: what the last entry of its epoch that names it gives, and Fresh where none does
abbrev pub state_of : PacketKey → List HistoryEntry → KeyState
state_of key h = state_by (last_naming key.node.0 key.number (epoch_entries key.node.0 key.epoch h))

-- the state of a number in its node's present epoch
abbrev pub present_state : ℕ → ℕ → List HistoryEntry → KeyState
present_state node number h = state_by (last_naming node number (present_entries node h))

-- The greatest number.

-- the number that a File, Hold or Seal entry of a node names
abbrev pub number_of : ℕ → HistoryAct → Option ℕ
number_of node (File n x packet) = if n.0 == node then Some x else None
number_of node (Hold n x packet) = if n.0 == node then Some x else None
number_of node (Seal n x) = if n.0 == node then Some x else None
number_of node _ = None

-- the greatest number that File, Hold and Seal entries of the node's present epoch name, where one does
abbrev pub top_of : ℕ → List HistoryEntry → Option ℕ
top_of node h = greatest (filter_map (λ e. number_of node e.act) (present_entries node h))

-- the greatest number of a node's present epoch after one more entry
abbrev pub top_after : ℕ → Option ℕ → HistoryAct → Option ℕ
top_after node top (Path n port counter) = if n.0 == node then None else top
top_after node top (File n x packet) = if n.0 == node then raised top x else top
top_after node top (Hold n x packet) = if n.0 == node then raised top x else top
top_after node top (Seal n x) = if n.0 == node then raised top x else top
top_after node top _ = top

-- Moments.

-- the moment of the last entry, and 0 where there is none
abbrev pub last_moment : List HistoryEntry → ℕ
last_moment h = option_map_or (λ e. e.moment) (slice_get h (length h - 1)) 0

-- the moment that an entry made now bears: never less than that of the last entry
abbrev pub moment_after : List HistoryEntry → ℕ → ℕ
moment_after h now = max now (last_moment h)

-- Closing.

-- whether an entry files records
abbrev pub files : HistoryAct → Bool
files (File n x packet) = true
files (Release n xs) = true
files _ = false

abbrev pub closes : HistoryAct → Bool
closes Close = true
closes _ = false

-- a Close is due where a File or a Release stands after the last Close
abbrev pub is_close_due : List HistoryEntry → Bool
is_close_due h = list_any (λ e. files e.act) (after_last (λ e. closes e.act) h)

-- whether a Close is due after one more entry, by whether it was due before
abbrev pub due_after : Bool → HistoryAct → Bool
due_after due (File n x packet) = true
due_after due (Release n xs) = true
due_after due Close = false
due_after due _ = due

-- Held copies.

-- what became of a held number, by the entries that follow its Hold: it is held as long as no entry of its epoch names
-- it, and stranded where the node's next epoch begins before one does
abbrev pub fate_of : ℕ → ℕ → List HistoryEntry → HoldFate
fate_of node number [] = fate.Held
fate_of node number (e ∷ h) =
    if begins_epoch node e.act then fate.Stranded else (if names node number e.act then fate.Settled else fate_of node number h)

-- the number of copies with one more of this fate
abbrev pub with_fate : HoldFate → Copies → Copies
with_fate fate.Held copies = record { held = copies.held + 1; stranded = copies.stranded }
with_fate fate.Stranded copies = record { held = copies.held; stranded = copies.stranded + 1 }
with_fate fate.Settled copies = copies

-- the number of copies with that of one more entry, by the entries that follow it
abbrev pub with_entry : HistoryAct → List HistoryEntry → Copies → Copies
with_entry (Hold n x packet) later copies = with_fate (fate_of n.0 x later) copies
with_entry _ later copies = copies

-- how many copies are held in present epochs, and how many are stranded in earlier ones
abbrev pub copies_of : List HistoryEntry → Copies
copies_of [] = record { held = 0; stranded = 0 }
copies_of (e ∷ h) = with_entry e.act h (copies_of h)
