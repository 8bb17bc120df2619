-- Where the copies lie that a history holds, by the numbers of its entries, which count from 0.
use Rattle.std.specs.Prelude.{◌≡◌, ℕ, ◌<◌, ◌==◌, ◌&&◌, nat_lt, if◌then◌else◌, List, Option, Some, None, option_and_then, slice_get}
use Rattle.std.specs.BTreeMap.{BTreeMap, get}
use Rattle.std.specs.List.{list_any}
use Rattle.std.specs.Option.{ForSome}
use Rattle.std.specs.Ordering.{nat_cmp, ordering_then}
use Rattle.std.specs.declared.cmp.Ordering.{Ordering}
use Rattle.gw_base.specs.History.{begins_epoch, names}
use Rattle.gw_base.specs.declared.history.HistoryAct.{HistoryAct}
use Rattle.gw_base.specs.declared.history.HistoryAct.TheVariants.{Hold}
use Rattle.gw_base.specs.declared.history.HistoryEntry.{HistoryEntry}
use Rattle.gateway_answer.specs.Filed.{held_packet, packet_of_hold}
use Rattle.gateway_book.specs.declared.held_copies.CopyKey.{CopyKey}
use Rattle.gateway_book.specs.declared.held_copies.HeldCopies.{HeldCopies}

pub record CopyPlaces : Type 0 where
  -- the entry that holds a node's number, where no later one names the number
  pub hold : ℕ → ℕ → Option ℕ
  -- the node's last Path
  pub path : ℕ → Option ℕ

abbrev pub no_copies : CopyPlaces
no_copies = record { hold = λ node number. None; path = λ node. None }

-- an entry, where it comes after another one
abbrev pub if_after : Option ℕ → Option ℕ → Option ℕ
if_after None hold = hold
if_after (Some path) None = None
if_after (Some path) (Some hold) = if nat_lt path hold then Some hold else None

-- the entry that holds a node's number in the node's present epoch
abbrev pub copy_at : CopyPlaces → ℕ → ℕ → Option ℕ
copy_at copies node number = if_after (copies.path node) (copies.hold node number)

-- the k-th entry, where it holds a copy
abbrev pub hold_by : ℕ → HistoryAct → Option ℕ
hold_by k (Hold n x packet) = Some k
hold_by k _ = None

-- the copies after one more entry, the k-th
abbrev pub copies_after : ℕ → HistoryAct → CopyPlaces → CopyPlaces
copies_after k act copies = record {
  hold = λ node number. if names node number act then hold_by k act else copies.hold node number;
  path = λ node. if begins_epoch node act then Some k else copies.path node;
}

-- the packet that an entry of a history holds
abbrev pub packet_at : List HistoryEntry → Option ℕ → Option (List ℕ)
packet_at h place = option_and_then (λ k. option_and_then (λ e. packet_of_hold e.act) (slice_get h k)) place

-- All entries that are kept are among the first n.
pub record AreBelow (n : ℕ) (copies : CopyPlaces) : Type 0 where
  pub hold : (node number : ℕ) → ForSome (copies.hold node number) (λ k. k < n)
  pub path : (node : ℕ) → ForSome (copies.path node) (λ k. k < n)

-- the copies are those that a history holds
abbrev pub HoldCopies : CopyPlaces → List HistoryEntry → Type 0
HoldCopies copies h = (node number : ℕ) → held_packet node number h ≡ packet_at h (copy_at copies node number)

-- How they are kept.

-- the order of keys: by node, by number
abbrev pub copy_order : CopyKey → CopyKey → Ordering
copy_order key other = ordering_then (nat_cmp key.node other.node) (nat_cmp key.number other.number)

-- what is kept of a node's number, and of a node
abbrev pub hold_in : BTreeMap CopyKey ℕ → ℕ → ℕ → Option ℕ
hold_in holds node number = get copy_order holds (record { node = node; number = number })

abbrev pub path_in : BTreeMap ℕ ℕ → ℕ → Option ℕ
path_in paths node = get nat_cmp paths node

-- what is kept of all
abbrev pub places_of : HeldCopies → CopyPlaces
places_of copies = record { hold = hold_in copies.holds; path = path_in copies.paths }

-- the copies with another entry at a node's number, or with none there
abbrev pub with_hold : ℕ → ℕ → Option ℕ → (ℕ → ℕ → Option ℕ) → ℕ → ℕ → Option ℕ
with_hold node number place hold n x = if (node == n) && (number == x) then place else hold n x

-- the copies with none at these numbers of a node
abbrev pub without_holds : ℕ → List ℕ → (ℕ → ℕ → Option ℕ) → ℕ → ℕ → Option ℕ
without_holds node numbers hold n x = if (node == n) && list_any (λ y. y == x) numbers then None else hold n x

-- the nodes' last Paths with another one of a node
abbrev pub with_path : ℕ → ℕ → (ℕ → Option ℕ) → ℕ → Option ℕ
with_path node k path n = if node == n then Some k else path n
