-- How the copies are stored: in two lists in order of their nodes and numbers, with room for more. Public clauses cite
-- `copies_of` alone, so that another way to store them changes none.
use Rattle.std.specs.Prelude.{◌≡◌, ℕ, ◌+◌, ◌*◌, ◌^◌, ◌<◌, ◌≤◌, ◌==◌, ◌&&◌, Bool, true, false, List, [], ◌∷◌, ◌++◌, filter, not, length, take, drop, count_by, slice_index_or, None}
use Rattle.std.specs.List.{find}
use Rattle.std.specs.Option.{option_map}
use Rattle.gw_base.specs.declared.place.Place.{Place}
use Rattle.dup_buffer.specs.declared.copy.HeldCopy.{HeldCopy}
use Rattle.dup_buffer.specs.Copies.{Copies}

-- whether a copy is that of a node's number
abbrev pub is_copy_of : ℕ → ℕ → HeldCopy → Bool
is_copy_of node number copy = (copy.node == node) && (copy.number == number)

-- whether a copy is a node's
abbrev pub is_of : ℕ → HeldCopy → Bool
is_of node copy = copy.node == node

-- the most copies of the list of those that came last
abbrev pub most_late : ℕ
most_late = 1024

-- where a copy lies
abbrev pub place_of : HeldCopy → Place
place_of copy = record { at = copy.at; length = copy.length }

-- those of a list that are held
abbrev pub held_in : List HeldCopy → List HeldCopy
held_in copies = filter (λ copy. copy.held) copies

-- all that are held of a list where some were taken out, and of another one
abbrev pub all_held : List HeldCopy → List HeldCopy → List HeldCopy
all_held kept late = held_in kept ++ late

-- no copy of the list was taken out
abbrev pub AreHeld : List HeldCopy → Type 0
AreHeld copies = count_by (λ copy. not copy.held) copies ≡ 0

-- the copies of two lists are the same, in whichever order
abbrev pub HaveSame : List HeldCopy → List HeldCopy → Type 0
HaveSame some others = (p : HeldCopy → Bool) → count_by p some ≡ count_by p others

-- of each number of a node there is one copy at most
abbrev pub IsOnce : List HeldCopy → Type 0
IsOnce copies = (node number : ℕ) → count_by (is_copy_of node number) copies ≤ 1

-- the copies, and how many more need no memory
pub record Stored : Type 0 where
  pub entries : List HeldCopy
  pub spare : ℕ

-- the copies that are stored
abbrev pub copies_of : Stored → Copies
copies_of stored = record {
  place_of = λ node number. option_map place_of (find (is_copy_of node number) stored.entries);
  count = length stored.entries;
  count_of = λ node. count_by (is_of node) stored.entries;
}

-- where a node's number stands among copies: nodes come in order of their addresses, and of one node the numbers
abbrev pub rank_of : ℕ → ℕ → ℕ
rank_of node number = node * 2 ^ 64 + number

abbrev pub rank : HeldCopy → ℕ
rank copy = rank_of copy.node copy.number

-- The copies are in this order, each once, from a rank on.
abbrev pub AreFrom : ℕ → List HeldCopy → Type 0
AreFrom low [] = Unit {0}
AreFrom low (copy ∷ copies) = (low ≤ rank copy) × AreFrom (rank copy + 1) copies

-- Both lists are in order, the second is short and none was taken out of it, and of each number of a node one copy is
-- held at most.
pub record AreStored (kept late : List HeldCopy) : Type 0 where
  pub kept_order : AreFrom 0 kept
  pub late_order : AreFrom 0 late
  pub held : AreHeld late
  pub few : length late ≤ most_late
  pub once : IsOnce (all_held kept late)

-- The copies of this rank and later ones begin here.
pub record IsFrom (copies : List HeldCopy) (at q : ℕ) : Type 0 where
  pub inside : at ≤ length copies
  pub before : (j : ℕ) (d : HeldCopy) → j < at → rank (slice_index_or copies j d) < q
  pub later : (j : ℕ) (d : HeldCopy) → at ≤ j → j < length copies → q ≤ rank (slice_index_or copies j d)

-- The copy of this number of this node stands here, and nowhere else.
pub record IsFound (copies : List HeldCopy) (at node number : ℕ) : Type 0 where
  pub inside : at < length copies
  pub named : (d : HeldCopy) → is_copy_of node number (slice_index_or copies at d) ≡ true
  pub others : (j : ℕ) (d : HeldCopy) → j < length copies → (j ≡ at → ⊥) → is_copy_of node number (slice_index_or copies j d) ≡ false

-- No copy of this number of this node stands here, and it belongs here.
pub record IsAbsent (copies : List HeldCopy) (at node number : ℕ) : Type 0 where
  pub inside : at ≤ length copies
  pub none : find (is_copy_of node number) copies ≡ None
  pub before : (j : ℕ) (d : HeldCopy) → j < at → rank (slice_index_or copies j d) < rank_of node number
  pub later : (j : ℕ) (d : HeldCopy) → at ≤ j → j < length copies → rank_of node number < rank (slice_index_or copies j d)

-- the least rank that a copy behind these may have, where they are from a rank on
abbrev pub above : ℕ → List HeldCopy → ℕ
above low [] = low
above low (copy ∷ copies) = above (rank copy + 1) copies

-- Two lists are being made one from their ends. The first `i` copies of the one and the first `j` of the other still
-- wait, and those that are placed stand behind them, with `j` places between.
pub record IsMerging (kept late : List HeldCopy) (i j : ℕ) (copies : List HeldCopy) : Type 0 where
  pub size : length copies ≡ length kept + length late
  pub inside : i + j ≤ length copies
  pub within : j ≤ length late
  pub same : (p : HeldCopy → Bool) → count_by p (take i copies) + count_by p (take j late) + count_by p (drop (i + j) copies) ≡
      count_by p kept + count_by p late
  pub waits : AreFrom 0 (take i copies)
  pub behind : AreFrom (above 0 (take i copies)) (drop (i + j) copies)
  pub behind_late : AreFrom (above 0 (take j late)) (drop (i + j) copies)
