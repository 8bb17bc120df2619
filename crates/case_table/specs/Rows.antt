-- The rows of a table, in the order in which they were given.
use Rattle.std.specs.Prelude.{◌==◌, ℕ, ◌<◌, ◌≤◌, Bool, not, nat_lt, List, count_by, filter, map}
use Rattle.std.specs.List.{list_all}
use Rattle.case_table.specs.declared.Row.{Row}

-- the row has the key
abbrev pub has_key : ℕ → Row → Bool
has_key key row = row.key == key

-- more than one of the rows has the key
abbrev pub is_doubled : List Row → ℕ → Bool
is_doubled rows key = nat_lt 1 (count_by (has_key key) rows)

-- the keys that more than one of the rows has, as often as they stand there
abbrev pub doubled_keys : List Row → List ℕ
doubled_keys rows = filter (is_doubled rows) (map (λ row. row.key) rows)

-- no row has a key that another row has
abbrev pub are_distinct : List Row → Bool
are_distinct rows = list_all (λ row. not (is_doubled rows row.key)) rows

-- the key is the least that more than one of the rows has
pub record IsLeastDoubled (rows : List Row) (key : ℕ) : Type 0 where
  pub doubled : 1 < count_by (has_key key) rows
  pub least : (other : ℕ) → 1 < count_by (has_key other) rows → key ≤ other
