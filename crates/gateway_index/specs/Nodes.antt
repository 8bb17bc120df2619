-- The nodes that an index keeps.
use Rattle.std.specs.Prelude.{◌≡◌, ℕ, suc, ◌≤◌, ◌<◌, ◌==◌, ◌⊎◌, ◌++◌, Bool, true, false, if◌then◌else◌, List, [], ◌∷◌, length, map, take, drop, All, Option, Some, None}
use Rattle.gw_base.specs.declared.address.NodeId.{NodeId}
use Rattle.gw_base.specs.declared.history.Opening.{Opening}
use Rattle.gw_base.specs.Known.{is_known, with_node}
use Rattle.gateway_index.specs.Limits.{most_nodes}
use Rattle.gateway_index.specs.declared.nodes.Slot.{Slot}

-- the opening that the firm side of a slot keeps, or else the live side
abbrev pub opening_in : Bool → Slot → Option Opening
opening_in firm slot = if firm then slot.firm else slot.live

-- the opening of a node's present epoch: its first slot's, and none where it has no slot
abbrev pub opening_at : Bool → List Slot → ℕ → Option Opening
opening_at firm [] node = None
opening_at firm (slot ∷ slots) node = if slot.node.0 == node then opening_in firm slot else opening_at firm slots node

-- the place of a node among slots, and the one behind them where it has none
abbrev pub place_in : List Slot → ℕ → ℕ
place_in [] node = 0
place_in (slot ∷ slots) node = if slot.node.0 == node then 0 else suc (place_in slots node)

-- the nodes of slots
abbrev pub nodes_of : List Slot → List NodeId
nodes_of slots = map (λ slot. slot.node) slots

-- the known nodes of the firm side, to which so many slots are known, or else of the live side
abbrev pub known_at : Bool → ℕ → List Slot → List NodeId
known_at true count slots = nodes_of (take count slots)
known_at false count slots = nodes_of slots

-- the slots of the firm side, or else all
abbrev pub kept_slots : Bool → ℕ → List Slot → List Slot
kept_slots true count slots = take count slots
kept_slots false count slots = slots

-- a slot with another live side, where it is this node's
abbrev pub reopened : ℕ → Option Opening → Slot → Slot
reopened node opening slot = if slot.node.0 == node then record slot { live = opening } else slot

-- a slot, both sides of which are one side's
abbrev pub settled_slot : Bool → Slot → Slot
settled_slot firm slot = record slot { firm = opening_in firm slot; live = opening_in firm slot }

-- the firm side of a slot has nothing
abbrev pub IsNew : Slot → Type 0
IsNew slot = slot.firm ≡ None

-- both sides of a slot know the same opening
abbrev pub IsSame : Slot → Type 0
IsSame slot = slot.firm ≡ slot.live

-- the slot of a node that becomes known
abbrev pub fresh_slot : NodeId → Slot
fresh_slot node = record { node = node; firm = None; live = None }

-- So many of these slots, of at most 64, are known to the firm side.
pub record AreSlots (firm : ℕ) (slots : List Slot) : Type 0 where
  pub within : firm ≤ length slots
  pub bound : length slots ≤ most_nodes
  pub unnamed : All IsNew (drop firm slots)

-- The firm side knows all nodes, and of each what the live side does.
pub record AreSame (firm : ℕ) (slots : List Slot) : Type 0 where
  pub known : firm ≡ length slots
  pub openings : All IsSame slots

-- A node is known, in this place.
pub record IsLearnt (node : NodeId) (place : ℕ) (old new : List Slot) : Type 0 where
  pub known : nodes_of new ≡ with_node (nodes_of old) (Some node)
  pub inside : place < length new
  pub here : place ≡ place_in new node.0
  pub slots : (new ≡ old) ⊎ ((new ≡ old ++ fresh_slot node ∷ []) × (is_known (nodes_of old) node ≡ false))
