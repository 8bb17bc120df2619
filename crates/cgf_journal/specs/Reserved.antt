-- What an opening reserves, so that a trail takes no memory afterwards.
use Rattle.std.specs.Prelude.{ℕ, ◌+◌, ◌*◌, ◌<◌, ◌≤◌, List}
use Rattle.gw_base.specs.declared.place.Place.{Place}
use Rattle.gate_journal.specs.Format.{most_octets}
use Rattle.entry_codec.specs.Room.{capacity_of}
use Rattle.cgf_journal.specs.Format.{cheapest_entry}
use Rattle.cgf_journal.specs.declared.places.Spot.{Spot}

-- what a Hold costs at least: as an entry without a body, and four octets of its node and eight of its number
abbrev pub cheapest_hold : ℕ
cheapest_hold = 42

-- the place that is kept in 32 bits
abbrev pub place_of : Spot → Place
place_of spot = record { at = spot.at; length = spot.length }

-- places of entries, in order, and for how many there is memory
pub record Placed : Type 0 where
  pub items : List Place
  pub reserved : ℕ

-- So many places of entries, and so many of held keys, are enough for all that an area of this size has room for, and
-- 32 bits number its octets.
pub record AreEnough (size places keys : ℕ) : Type 0 where
  pub short : size ≤ most_octets
  pub places_last : capacity_of size < cheapest_entry * (places + 1)
  pub keys_last : capacity_of size < cheapest_hold * (keys + 1)
