-- The copies of possibly duplicated packets that a gateway holds, however they are stored: by what is found of them
-- and by their counts.
use Rattle.std.specs.Prelude.{ℕ, ◌+◌, ◌-◌, ◌==◌, ◌&&◌, if◌then◌else◌, Option, None, Some, is_some}
use Rattle.gw_base.specs.declared.place.Place.{Place}

-- what is held
pub record Copies : Type 0 where
  -- where the copy of a node's number lies in the journal, if it is held
  pub place_of : ℕ → ℕ → Option Place
  -- how many copies are held
  pub count : ℕ
  -- how many of them are a node's
  pub count_of : ℕ → ℕ

-- the most copies that are held
abbrev pub most_copies : ℕ
most_copies = 65536

abbrev pub no_copies : Copies
no_copies = record { place_of = λ node number. None; count = 0; count_of = λ node. 0 }

-- the copies with one more, that of a node's number
abbrev pub with_copy : ℕ → ℕ → Place → Copies → Copies
with_copy node number place copies = record {
  place_of = λ n k. if (node == n) && (number == k) then Some place else copies.place_of n k;
  count = copies.count + 1;
  count_of = λ n. if node == n then copies.count_of n + 1 else copies.count_of n;
}

-- how many copies of a node's number are held: one or none
abbrev pub held_of : ℕ → ℕ → Copies → ℕ
held_of node number copies = if is_some (copies.place_of node number) then 1 else 0

-- the copies but that of a node's number
abbrev pub without_copy : ℕ → ℕ → Copies → Copies
without_copy node number copies = record {
  place_of = λ n k. if (node == n) && (number == k) then None else copies.place_of n k;
  count = copies.count - held_of node number copies;
  count_of = λ n. if node == n then copies.count_of n - held_of node number copies else copies.count_of n;
}

-- the copies but those of a node
abbrev pub without_node : ℕ → Copies → Copies
without_node node copies = record {
  place_of = λ n k. if n == node then None else copies.place_of n k;
  count = copies.count - copies.count_of node;
  count_of = λ n. if n == node then 0 else copies.count_of n;
}
