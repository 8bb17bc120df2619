-- What the judge of an opening keeps of the entries that it was asked of.
use Rattle.std.specs.Prelude.{◌≡◌, ℕ, ◌+◌, ◌*◌, Bool, false, if◌then◌else◌, nat_le, List}
use Rattle.entry_codec.specs.Room.{capacity_of, costs_of}
use Rattle.gw_base.specs.declared.history.HistoryEntry.{HistoryEntry}
use Rattle.gateway_index.specs.Index.{Follows, side_of}
use Rattle.gateway_index.specs.Sides.{Side}
use Rattle.gateway_book.specs.declared.judge.FitJudge.{FitJudge}

-- The judge was asked of these entries: its index follows them, and it knows what they cost.
pub record IsJudging (judge : FitJudge) (h : List HistoryEntry) : Type 0 where
  pub index : Follows false judge.index h
  pub cost : judge.costs ≡ costs_of h

-- the octets that are promised
abbrev pub promised_of : Side → ℕ
promised_of side = 76 * side.held.count + (if side.totals.is_close_due then 30 else 0)

-- what a judge's entries cost and promise is within the capacity of a journal on so many octets
abbrev pub is_within : FitJudge → ℕ → Bool
is_within judge size = nat_le (judge.costs + promised_of (side_of false judge.index)) (capacity_of size)
