-- The order of held keys.
use Rattle.std.specs.Prelude.{ℕ, ◌+◌, ◌*◌, ◌^◌}

-- where a node's number stands among keys: nodes come in order of their addresses, and of one node the numbers
unfoldable pub rank_of : ℕ → ℕ → ℕ
rank_of node number = node * 2 ^ 64 + number
