-- The moments of an area: the octets at first, and each change since.
use Rattle.std.specs.Prelude.{◌≡◌, ℕ, ◌+◌, ◌-◌, ◌^◌, ◌≤◌, ◌<◌, min, Bool, true, false, ◌&&◌, nat_lt, nat_le, List, [], ◌∷◌, ◌++◌, length, take, drop, get_or}
use Rattle.area_disk.specs.Disk.{overwritten, last_count}
use Rattle.area_disk.specs.Plan.{most_unsynced}
use Rattle.area_disk.specs.Record.{Moments, Room}
use Rattle.area_disk.specs.Stretch.{SameOutside, hull_of}
use Rattle.area_disk.specs.declared.stretch.Stretch.{Stretch}
use Rattle.area_disk.specs.declared.past.Call.{Call}

-- what a counted call did at once: what it wrote, and whether nothing is unsynced after it
pub record Change : Type 0 where
  pub at : ℕ
  pub octets : List ℕ
  pub settles : Bool

-- what it wrote lies in an area of n octets
abbrev pub IsWithin : ℕ → Change → Type 0
IsWithin n c = c.at + length c.octets ≤ n

-- the octets and what was unsynced at a first moment, and the changes since
pub record Past : Type 0 where
  pub first : ℕ
  pub image : List ℕ
  pub unsynced : List Stretch
  pub changes : List Change

-- the octets after these changes
abbrev pub image_after : List Change → List ℕ → List ℕ
image_after [] image = image
image_after (c ∷ changes) image = image_after changes (overwritten image c.at c.octets)

abbrev pub unsynced_with : Bool → List Stretch → Stretch → List Stretch
unsynced_with true unsynced written = []
unsynced_with false unsynced written = unsynced ++ written ∷ []

-- what is unsynced after these changes
abbrev pub unsynced_after : List Change → List Stretch → List Stretch
unsynced_after [] unsynced = unsynced
unsynced_after (c ∷ changes) unsynced = unsynced_after changes (unsynced_with c.settles unsynced (record { at = c.at; count = length c.octets }))

-- what a crash may leave at the last moment: any octets where something is unsynced
abbrev pub IsOutcome : Past → List ℕ → Type 0
IsOutcome p octets = SameOutside (unsynced_after p.changes p.unsynced) (image_after p.changes p.image) octets

-- what a stop does at once, which leaves these octets where something was unsynced in these stretches
abbrev pub stop_change : List Stretch → List ℕ → Change
stop_change stretches octets = record {
  at = (hull_of stretches).at;
  octets = take (hull_of stretches).count (drop (hull_of stretches).at octets);
  settles = true;
}

-- the past up to the k-th change
abbrev pub up_to : ℕ → Past → Past
up_to k p = record p { changes = take k p.changes }

-- what a crash at some moment from t on might have left
abbrev pub LeftSince : Past → ℕ → List ℕ → Type 0
LeftSince p t octets = (k : ℕ) × (t ≤ p.first + k) × (k ≤ length p.changes) × IsOutcome (up_to k p) octets

-- the number of the last moment
abbrev pub moment_of : Past → ℕ
moment_of p = min (p.first + length p.changes) last_count

abbrev pub first_told : Bool → ℕ → ℕ
first_told true first = first
first_told false first = 2 ^ 64

-- the first moment that is told; where the numbers of moments have come to their end, none is
abbrev pub told_of : Past → ℕ
told_of p = first_told (nat_lt (p.first + length p.changes) last_count) p.first

-- how many calls and octets a past has room for
abbrev pub most_calls : ℕ
most_calls = 65536

abbrev pub most_octets : ℕ
most_octets = 8388608

-- how many octets these changes wrote
abbrev pub octets_in : List Change → ℕ
octets_in [] = 0
octets_in (c ∷ changes) = length c.octets + octets_in changes

-- how many calls and octets more it takes before it begins anew
abbrev pub room_for_calls : Past → ℕ
room_for_calls p = min (most_calls - length p.changes) (last_count - 1 - (p.first + length p.changes))

abbrev pub room_for_octets : Past → ℕ
room_for_octets p = most_octets - octets_in p.changes

-- the room of a record without calls, where nothing is unsynced
abbrev pub all_room : Room
all_room = record { calls = most_calls; octets = most_octets; low = last_count; high = 0 }

-- what is told of the moments of a past, whose record has this room
abbrev pub moments_of : Room → Past → Moments
moments_of room p = record { now = moment_of p; told_from = told_of p; left_since = λ t octets. LeftSince p t octets; room = room }

-- a past that begins anew at the last moment
abbrev pub anew : Past → Past
anew p = record { first = moment_of p; image = image_after p.changes p.image; unsynced = unsynced_after p.changes p.unsynced; changes = [] }

abbrev pub pushed : Change → Past → Past
pushed c p = record p { changes = p.changes ++ c ∷ [] }

abbrev pub pushed_where : Bool → Change → Past → Past
pushed_where true c p = pushed c p
pushed_where false c p = pushed c (anew p)

abbrev pub noted_where : Bool → Change → Past → Past
noted_where true c p = anew (pushed c p)
noted_where false c p = pushed_where (nat_lt (length p.changes) most_calls && nat_le (octets_in p.changes + length c.octets) most_octets) c p

-- A past after one change more. Where there is no room for it, it begins anew with that change; a change that
-- alone is too large leaves it empty.
abbrev pub noted : Change → Past → Past
noted c p = noted_where (nat_lt most_octets (length c.octets)) c p

-- how many octets these calls wrote
abbrev pub written_by : List Call → ℕ
written_by [] = 0
written_by (c ∷ calls) = c.count + written_by calls

-- the changes that these calls made, whose octets stand one after the other
abbrev pub changes_of : List Call → List ℕ → List Change
changes_of [] octets = []
changes_of (c ∷ calls) octets = record { at = c.at; octets = take c.count octets; settles = c.settles } ∷ changes_of calls (drop c.count octets)

-- each of these calls wrote within an area of n octets
abbrev pub EachWithin : ℕ → List Call → Type 0
EachWithin n calls = (k : ℕ) (c : Call) → k < length calls → (get_or calls k c).at + (get_or calls k c).count ≤ n

-- the calls and their octets fit together, and there is room for more
pub record IsKept (n : ℕ) (calls : List Call) (octets : List ℕ) (calls_capacity octets_capacity unsynced_capacity : ℕ) : Type 0 where
  pub total : written_by calls ≡ length octets
  pub fit : EachWithin n calls
  pub few_calls : length calls ≤ most_calls
  pub few_octets : length octets ≤ most_octets
  pub calls_room : most_calls ≤ calls_capacity
  pub octets_room : most_octets ≤ octets_capacity
  pub unsynced_room : most_unsynced + 1 ≤ unsynced_capacity
