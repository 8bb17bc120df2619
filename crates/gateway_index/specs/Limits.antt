-- The limits of a gateway, and which acts lie within them.
use Rattle.std.specs.Prelude.{ℕ, ◌^◌, Bool, true, ◌&&◌, ◌||◌, nat_le, nat_lt}
use Rattle.dup_buffer.specs.Copies.{most_copies}
use Rattle.gw_base.specs.Observed.{Observed}
use Rattle.gw_base.specs.declared.history.HistoryAct.{HistoryAct}
use Rattle.gw_base.specs.declared.history.HistoryAct.TheVariants.{Start, Path, File, Hold, Seal, Release, Cancel, Tick, Close}

-- the most nodes that a gateway knows
abbrev pub most_nodes : ℕ
most_nodes = 64

-- the least number that an entry may bear, and the one from which on no entry may
abbrev pub least_number : ℕ
least_number = 32768

abbrev pub numbers_end : ℕ
numbers_end = 2 ^ 63

-- how far below the greatest number of a node's epoch its window reaches
abbrev pub half : ℕ
half = 32768

-- whether an entry may bear a number
abbrev pub is_in_range : ℕ → Bool
is_in_range number = nat_le least_number number && nat_lt number numbers_end

-- whether a gateway may know the node: it knows it already, or not so many that it would be the 65th. Where each entry
-- is fit, no more than 64 nodes are ever known.
abbrev pub has_place : Observed → Bool
has_place o = o.is_known || nat_lt o.known most_nodes

-- whether one more copy may be held
abbrev pub may_hold : Observed → Bool
may_hold o = nat_lt o.held most_copies

-- whether an act of the node of which this is observed is within the limits. A Release or a Cancel names numbers that
-- are held, so that its node is known.
abbrev pub within_limits : Observed → HistoryAct → Bool
within_limits o Start = true
within_limits o (Path n port counter) = has_place o
within_limits o (File n x packet) = has_place o && is_in_range x
within_limits o (Hold n x packet) = has_place o && is_in_range x && may_hold o
within_limits o (Seal n x) = has_place o && is_in_range x
within_limits o (Release n xs) = true
within_limits o (Cancel n xs) = true
within_limits o Tick = true
within_limits o Close = true
