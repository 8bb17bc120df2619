-- A quiet area has no plan, and keeps no record. It keeps its octets up to the last one that was written.
use Rattle.std.specs.Prelude.{ℕ, List, [], ◌-◌, ◌++◌, length, false, true, None, ◌≡◌, IsTrue}
use Rattle.area_disk.specs.Disk.{last_count, zeros}
use Rattle.area_disk.specs.Plan.{Prospect}
use Rattle.area_disk.specs.Record.{Moments, Room}

-- these octets, and octets 0 behind them up to so many
abbrev pub padded : ℕ → List ℕ → List ℕ
padded n octets = octets ++ zeros (n - length octets)

-- what an area tells that tells of no plan
abbrev pub no_prospect : Prospect
no_prospect = record { schedule = record { calls = 0; reads = 0; fail = []; read_fail = []; stop = None; stopped = false }; spare = 0; leaves = λ o. [] }

-- what an area tells that keeps no record of its moments
abbrev pub no_room : Room
no_room = record { calls = 0; octets = 0; low = last_count; high = 0 }

-- what it tells of its moments: none is told
abbrev pub no_moments : Moments
no_moments = record { now = 0; told_from = 1; left_since = λ t octets. Unit {0}; room = no_room }

-- what isn't told has every property
pub not_told : {P : Type 0} → IsTrue false → P
not_told told = absurd (false_is_not_true told)
  where
    false_is_not_true : false ≡ true → ⊥
    false_is_not_true e = cc
