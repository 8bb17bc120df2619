-- The keys that a tally keeps, as lists.
use Rattle.std.specs.Prelude.{◌≡◌, ◌^◌, ◌<◌, ◌≤◌, ◌==◌, ◌&&◌, ℕ, Bool, true, if◌then◌else◌, List, filter, length, map, slice_index_or, All}
use Rattle.gw_base.specs.declared.held.HeldKey.{HeldKey}
pub use Rattle.cgf_journal.specs.Rank.{rank_of}
use Rattle.cgf_journal.specs.declared.key.KeptKey.{KeptKey}

abbrev pub key_of : KeptKey → HeldKey
key_of kept = record { node = kept.node; number = kept.number }

-- whether a key is this number of this node
abbrev pub is_named : ℕ → ℕ → HeldKey → Bool
is_named node number key = (node == key.node.0) && (number == key.number)

-- whether the firm entries hold a key, or else all, in this round
abbrev pub counts : Bool → ℕ → KeptKey → Bool
counts firm round kept = if firm && (kept.round == round) then kept.was_held else kept.is_held

-- those that the firm entries hold, or else all
abbrev pub counted_keys : Bool → ℕ → List KeptKey → List HeldKey
counted_keys firm round keys = map key_of (filter (λ kept. counts firm round kept) keys)

-- a key as all entries hold it or don't from this round on
abbrev pub changed_key : Bool → ℕ → KeptKey → KeptKey
changed_key held round kept = record kept { was_held = counts true round kept; is_held = held; round = round }

-- a key as the firm entries hold it, or else all, for both: in any round it counts alike
abbrev pub settled_key : Bool → ℕ → KeptKey → KeptKey
settled_key firm round kept = record kept { was_held = counts firm round kept; is_held = counts firm round kept; round = 0 }

abbrev pub rank : KeptKey → ℕ
rank kept = rank_of kept.node.0 kept.number

-- The keys are in this order, each once.
abbrev pub AreAscending : List KeptKey → Type 0
AreAscending keys = (i j : ℕ) (d : KeptKey) → i < j → j < length keys → rank (slice_index_or keys i d) < rank (slice_index_or keys j d)

-- No key changed after this round, and each number has 64 bits.
abbrev pub AreUpTo : ℕ → List KeptKey → Type 0
AreUpTo round keys = All (λ (kept : KeptKey). (kept.round ≤ round) × (kept.number < 2 ^ 64)) keys

-- This number of this node stands here.
pub record IsFound (keys : List KeptKey) (at node number : ℕ) : Type 0 where
  pub inside : at < length keys
  pub named : (d : KeptKey) → is_named node number (key_of (slice_index_or keys at d)) ≡ true
  pub before : (j : ℕ) (d : KeptKey) → j < at → rank (slice_index_or keys j d) < rank_of node number
  pub later : (j : ℕ) (d : KeptKey) → at < j → j < length keys → rank_of node number < rank (slice_index_or keys j d)

-- This number of this node doesn't stand among the keys, and belongs here.
pub record IsAbsent (keys : List KeptKey) (at node number : ℕ) : Type 0 where
  pub inside : at ≤ length keys
  pub before : (j : ℕ) (d : KeptKey) → j < at → rank (slice_index_or keys j d) < rank_of node number
  pub later : (j : ℕ) (d : KeptKey) → at ≤ j → j < length keys → rank_of node number < rank (slice_index_or keys j d)

-- The numbers of this node begin here.
pub record IsFirstOf (keys : List KeptKey) (at node : ℕ) : Type 0 where
  pub inside : at ≤ length keys
  pub before : (j : ℕ) (d : KeptKey) → j < at → rank (slice_index_or keys j d) < rank_of node 0
  pub later : (j : ℕ) (d : KeptKey) → at ≤ j → j < length keys → rank_of node 0 ≤ rank (slice_index_or keys j d)
