-- What a plan says of the calls to come, and what a stop leaves.
use Rattle.std.specs.Prelude.{◌≡◌, ℕ, zero, suc, ◌+◌, ◌-◌, Bool, true, false, ◌&&◌, ◌||◌, ◌==◌, nat_lt, if◌then◌else◌, List, length, replicate, Option, None, Some, Result, is_err}
use Rattle.std.specs.List.{list_any}
use Rattle.area_disk.specs.Disk.{counted, last_count, overwritten}
use Rattle.area_disk.specs.declared.plan.Outcome3.{Outcome3}
use Rattle.area_disk.specs.declared.plan.Outcome3.TheVariants.{Old, New, Rot}
use Rattle.area_disk.specs.declared.plan.Fate.{Fate}
use Rattle.area_disk.specs.declared.plan.Fate.TheVariants.{Runs, Fails, Stops}
use Rattle.area_disk.specs.declared.plan.Stop.{Stop}
use Rattle.area_disk.specs.declared.plan.Plan.{Plan}

-- the calls made since the plan was armed, and what is planned for those to come
pub record Schedule : Type 0 where
  pub calls : ℕ
  pub reads : ℕ
  pub fail : List ℕ
  pub read_fail : List ℕ
  pub stop : Option Stop
  -- whether a stop came that wasn't revived
  pub stopped : Bool

-- this number is one of these
abbrev pub is_among : List ℕ → ℕ → Bool
is_among numbers n = list_any (λ m. m == n) numbers

-- what the one stop makes of the call with this number
abbrev pub stop_at : Option Stop → ℕ → Fate
stop_at None n = Runs
stop_at (Some stop) n = if stop.call == n then Stops stop.outcome else Runs

-- what is planned for the call with this number
abbrev pub planned_for : Schedule → ℕ → Fate
planned_for s n = if is_among s.fail n then Fails else stop_at s.stop n

-- of the next call, where the object is stopped or not, and has a number for it or not
abbrev pub fate_where : Bool → Bool → Fate → Fate
fate_where true is_numbered planned = Fails
fate_where false true planned = planned
fate_where false false planned = Runs

-- What comes of the next counted call. From a stop on it fails; else it fails where its number is listed, and is
-- stopped where the stop has its number. Past the last number calls run.
unfoldable pub next_fate : Schedule → Fate
next_fate s = fate_where s.stopped (nat_lt s.calls last_count) (planned_for s (s.calls + 1))

-- the next read fails
unfoldable pub next_read_fails : Schedule → Bool
next_read_fails s = s.stopped || (nat_lt s.reads last_count && is_among s.read_fail (s.reads + 1))

abbrev pub is_stop : Fate → Bool
is_stop Runs = false
is_stop Fails = false
is_stop (Stops outcome) = true

-- after a counted call with this fate
abbrev pub after_call : Fate → Schedule → Schedule
after_call fate s = record s { calls = counted 1 s.calls; stopped = s.stopped || is_stop fate }

-- after a read
abbrev pub after_read : Schedule → Schedule
after_read s = record s { reads = counted 1 s.reads }

-- the same plan after so many reads
abbrev pub with_reads : ℕ → Schedule → Schedule
with_reads reads s = record s { reads = reads }

abbrev pub with_stopped : Bool → Schedule → Schedule
with_stopped stopped s = record s { stopped = stopped }

-- this plan before the first call
abbrev pub schedule_of : Plan → Schedule
schedule_of plan = record { calls = 0; reads = 0; fail = plan.fail.items; read_fail = plan.read_fail.items; stop = plan.stop; stopped = false }

-- after this plan was armed: the calls count anew from 1, and a stop stays
abbrev pub armed : Plan → Schedule → Schedule
armed plan s = with_stopped s.stopped (schedule_of plan)

-- what an octet holds that a stop rotted
abbrev pub rot : ℕ
rot = 0x5A

-- these octets after a write of others from this place on, where a stop comes with this outcome before a sync
abbrev pub written_as : Outcome3 → List ℕ → ℕ → List ℕ → List ℕ
written_as Old octets at from = octets
written_as New octets at from = overwritten octets at from
written_as Rot octets at from = overwritten octets at (replicate (length from) rot)

-- what is to come of the calls of an area, and what each outcome of a stop would leave of its octets now
pub record Prospect : Type 0 where
  pub schedule : Schedule
  -- how many writes it still takes before a sync; a write beyond fails
  pub spare : ℕ
  pub leaves : Outcome3 → List ℕ

-- the writes that an area takes between two syncs
abbrev pub most_unsynced : ℕ
most_unsynced = 65536

-- this plan before the first call, over octets that stand
pub record IsFresh (plan : Plan) (octets : List ℕ) (p : Prospect) : Type 0 where
  pub schedule : p.schedule ≡ schedule_of plan
  pub spare : p.spare ≡ most_unsynced
  pub leaves : (o : Outcome3) → p.leaves o ≡ octets

-- a write without spare room fails
abbrev pub fate_with : ℕ → Fate → Fate
fate_with zero fate = Fails
fate_with (suc spare) fate = fate

abbrev pub write_fate : Prospect → Fate
write_fate p = fate_with p.spare (next_fate p.schedule)

abbrev pub sync_fate : Prospect → Fate
sync_fate p = next_fate p.schedule

abbrev pub spare_after_write : Fate → ℕ → ℕ
spare_after_write Runs spare = spare - 1
spare_after_write Fails spare = spare
spare_after_write (Stops outcome) spare = most_unsynced

abbrev pub spare_after_sync : Fate → ℕ → ℕ
spare_after_sync Runs spare = most_unsynced
spare_after_sync Fails spare = spare
spare_after_sync (Stops outcome) spare = most_unsynced

-- what the outcomes leave after a write with this fate
abbrev pub LeavesAfterWrite : Fate → (Outcome3 → List ℕ) → ℕ → List ℕ → (Outcome3 → List ℕ) → Type 0
LeavesAfterWrite Runs old at from new = (o : Outcome3) → new o ≡ written_as o (old o) at from
LeavesAfterWrite Fails old at from new = (o : Outcome3) → new o ≡ old o
LeavesAfterWrite (Stops outcome) old at from new = (o : Outcome3) → new o ≡ written_as outcome (old outcome) at from

-- what the outcomes leave after a sync with this fate
abbrev pub LeavesAfterSync : Fate → (Outcome3 → List ℕ) → (Outcome3 → List ℕ) → Type 0
LeavesAfterSync Runs old new = (o : Outcome3) → new o ≡ old New
LeavesAfterSync Fails old new = (o : Outcome3) → new o ≡ old o
LeavesAfterSync (Stops outcome) old new = (o : Outcome3) → new o ≡ old outcome

-- a call succeeds exactly where it runs
abbrev pub is_failure : Fate → Bool
is_failure Runs = false
is_failure Fails = true
is_failure (Stops outcome) = true

-- A write came out as was planned.
pub record WriteAsPlanned {T E : Type 0} (old : Prospect) (at : ℕ) (from : List ℕ) (result : Result T E) (new : Prospect) : Type 0 where
  pub fails : is_err result ≡ is_failure (write_fate old)
  pub schedule : new.schedule ≡ after_call (write_fate old) old.schedule
  pub spare : new.spare ≡ spare_after_write (write_fate old) old.spare
  pub leaves : LeavesAfterWrite (write_fate old) old.leaves at from new.leaves

-- A sync came out as was planned.
pub record SyncAsPlanned {T E : Type 0} (old : Prospect) (result : Result T E) (new : Prospect) : Type 0 where
  pub fails : is_err result ≡ is_failure (sync_fate old)
  pub schedule : new.schedule ≡ after_call (sync_fate old) old.schedule
  pub spare : new.spare ≡ spare_after_sync (sync_fate old) old.spare
  pub leaves : LeavesAfterSync (sync_fate old) old.leaves new.leaves

-- A read came out as was planned.
pub record ReadAsPlanned {T E : Type 0} (old : Prospect) (result : Result T E) (new : Prospect) : Type 0 where
  pub fails : is_err result ≡ next_read_fails old.schedule
  pub schedule : new.schedule ≡ after_read old.schedule
  pub spare : new.spare ≡ old.spare
  pub leaves : (o : Outcome3) → new.leaves o ≡ old.leaves o
