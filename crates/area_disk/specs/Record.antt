-- The record of an area's moments: how much it takes before it begins anew, and what a call makes of that.
use Rattle.std.specs.Prelude.{◌≡◌, ◌⊎◌, ℕ, ◌+◌, ◌-◌, ◌<◌, ◌≤◌, min, max, List, Result, Ok, Err}
use Rattle.area_disk.specs.Disk.{last_count}

-- The record takes so many calls more, which write so many octets. All that is unsynced lies from low up to high.
pub record Room : Type 0 where
  pub calls : ℕ
  pub octets : ℕ
  pub low : ℕ
  pub high : ℕ

-- A call adds so many calls to the record, and at most so many octets. After it all that is unsynced lies from low up
-- to high.
pub record Step : Type 0 where
  pub calls : ℕ
  pub octets : ℕ
  pub low : ℕ
  pub high : ℕ

-- the record has room for it
abbrev pub Takes : Room → Step → Type 0
Takes room step = (step.calls ≤ room.calls) × (step.octets ≤ room.octets)

-- What an area tells of its moments, which are numbered by what it did.
pub record Moments : Type 1 where
  -- this moment
  pub now : ℕ
  -- The first moment from which on it is told what a crash might have left. Above now: none.
  pub told_from : ℕ
  -- what a crash at some moment from that one on might have left, in a call or between two
  pub left_since : ℕ → List ℕ → Type 0
  -- how much the record of them takes before it begins anew
  pub room : Room

-- Time goes on: a crash since t, where that is told, might have left what it might have left before, or what it may
-- leave now.
pub record Elapses (old new : Moments) (may_leave : List ℕ → Type 0) : Type 0 where
  pub later : old.now ≤ new.now
  pub told_later : old.told_from ≤ new.told_from
  pub nothing_else : (t : ℕ) (c : List ℕ) → new.told_from ≤ t → t ≤ old.now → new.left_since t c →
      old.left_since t c ⊎ may_leave c
  pub keeps : (t : ℕ) (c : List ℕ) → new.told_from ≤ t → t ≤ old.now → old.left_since t c → new.left_since t c

-- Each moment that was told stays told, and no more room is gone than the step takes.
pub record StaysTold (step : Step) (old new : Moments) : Type 0 where
  pub told : new.told_from ≡ old.told_from
  pub calls : old.room.calls ≤ new.room.calls + step.calls
  pub octets : old.room.octets ≤ new.room.octets + step.octets

-- The record began anew at this moment, with all its room, of which no more is gone than so many calls and octets take.
pub record BeganAnew (all : Room) (at calls octets : ℕ) (new : Moments) : Type 0 where
  pub told : new.told_from ≡ at
  pub calls_left : all.calls ≤ new.room.calls + calls
  pub octets_left : all.octets ≤ new.room.octets + octets

-- What a step makes of a record that has this room when it is empty. Where it has room for the step, what was told
-- stays told. Else it begins anew with the step, and behind it where even an empty record has no room for the step.
-- Of that nothing is said near the end of the numbers of moments.
pub record Notes (all : Room) (step : Step) (old new : Moments) : Type 0 where
  pub stays : Takes old.room step → StaysTold step old new
  pub anew : Takes all step → new.now + all.calls < last_count →
      StaysTold step old new ⊎ BeganAnew all old.now step.calls step.octets new
  pub behind : new.now + all.calls < last_count →
      StaysTold step old new ⊎ (BeganAnew all old.now step.calls step.octets new ⊎ BeganAnew all new.now 0 0 new)
  pub low : step.low ≤ new.room.low
  pub high : new.room.high ≤ step.high

-- Time goes on by a call, of which the record takes a note.
pub record GoesOn (all : Room) (step : Step) (old new : Moments) (may_leave : List ℕ → Type 0) : Type 0 where
  pub time : Elapses old new may_leave
  pub noted : Notes all step old new

-- a call that adds nothing
abbrev pub nothing : Room → Step
nothing room = record { calls = 0; octets = 0; low = room.low; high = room.high }

-- one that stopped the area, or failed, while it wrote n octets from a place on: it changes nothing outside the
-- stretch that holds these and all that was unsynced
abbrev pub stopped_at : Room → ℕ → ℕ → Step
stopped_at room at n = record {
  calls = 1;
  octets = max room.high (at + n) - min room.low at;
  low = room.low;
  high = room.high;
}

-- one that stopped the area, or failed, while it wrote nothing
abbrev pub stopped : Room → Step
stopped room = record { calls = 1; octets = room.high - room.low; low = room.low; high = room.high }

-- a write of n octets from a place on
abbrev pub write_of : {T E : Type 0} → Room → ℕ → ℕ → Result T E → Step
write_of room at n (Ok done) = record { calls = 1; octets = n; low = min room.low at; high = max room.high (at + n) }
write_of room at n (Err failed) = stopped_at room at n

-- a sync, after which nothing is unsynced
abbrev pub sync_of : {T E : Type 0} → Room → Result T E → Step
sync_of room (Ok done) = record { calls = 1; octets = 0; low = last_count; high = 0 }
sync_of room (Err failed) = stopped room
