-- What an area in memory tells, from its octets and its past.
use Rattle.std.proofs.Common.{◌≡◌, inl, inr, ⊎_elim, ℕ, ◌+◌, ◌-◌, ◌≤◌, min, max, true, false, drop, List, [], ◌∷◌, ◌++◌, length, replicate, refl, sym, ◌∙◌, ap, subst, arith}
use Rattle.std.proofs.lemmas.List.{length-replicate, length-take}
use Rattle.area_disk.specs.Disk.{overwritten, Torn, Follows, Within, Only, last_count}
use Rattle.area_disk.specs.Octets.{torn_overwritten, torn_same}
use Rattle.area_disk.specs.Plan.{Prospect, most_unsynced, rot, written_as}
use Rattle.area_disk.specs.Stretch.{SameOutside, filled, left_as, low_of, high_of, hull_of}
use Rattle.area_disk.specs.Outside.{same_refl, same_everywhere, same_filled, filled_written, follows_write}
use Rattle.area_disk.specs.Past.{Change, Past, all_room, image_after, IsOutcome, LeftSince, moment_of, moments_of, told_of, noted, stop_change, room_for_calls, room_for_octets}
use Rattle.area_disk.specs.PastLaws.{past_counts_now, past_only_now, past_same_size, Began, Begins, Goes, Keeps, goes_noted, goes_same, noted_begins, noted_stays}
use Rattle.area_disk.specs.Hull.{low_of_least, low_of-push, high_of-push}
use Rattle.area_disk.specs.Record.{Moments, Room, Step, Takes, Elapses, StaysTold, BeganAnew, GoesOn, nothing, stopped_at, stopped, write_of, sync_of}
use Rattle.std.specs.Prelude.{Result, Ok, Err, IsErr}
use Rattle.area_disk.specs.declared.disk.Disk.{Disk}
use Rattle.area_disk.specs.declared.memory.MemoryArea.{MemoryArea}
use Rattle.area_disk.specs.declared.plan.Outcome3.{Outcome3}
use Rattle.area_disk.specs.declared.plan.Outcome3.TheVariants.{Old, New, Rot}
use Rattle.area_disk.specs.declared.stretch.Stretch.{Stretch}

-- what each outcome of a stop would leave of a disk now
abbrev pub leaves_of : Disk → Outcome3 → List ℕ
leaves_of disk o = left_as o disk.firm.items disk.present.items disk.unsynced.items

-- what is to come of an area's calls, and what a stop leaves
abbrev pub prospect_of : MemoryArea → Prospect
prospect_of a = record { schedule = a.planned; spare = most_unsynced - length a.disk.unsynced.items; leaves = leaves_of a.disk }

-- what a crash may leave of a disk now
abbrev pub DiskMayLeave : Disk → List ℕ → Type 0
DiskMayLeave disk octets = SameOutside disk.unsynced.items disk.present.items octets

-- the same octets and the same past, and no fault
pub record IsKept (old new : MemoryArea) : Type 0 where
  pub disk : new.disk ≡ old.disk
  pub faults : new.faults ≡ old.faults

-- a stop with this outcome left this, and no fault
pub record IsLeft (old : MemoryArea) (outcome : Outcome3) (new : MemoryArea) : Type 0 where
  pub size : length new.disk.present.items ≡ length old.disk.present.items
  pub present : new.disk.present.items ≡ leaves_of old.disk outcome
  pub firm : new.disk.firm.items ≡ new.disk.present.items
  pub unsynced : new.disk.unsynced.items ≡ []
  pub past : new.disk.past ≡ noted (stop_change old.disk.unsynced.items new.disk.present.items) old.disk.past
  pub faults : new.faults ≡ old.faults

outcome_now : (disk : Disk) (octets : List ℕ) → DiskMayLeave disk octets → IsOutcome disk.past octets
outcome_now disk octets left =
    subst (λ (u : List Stretch). SameOutside u (image_after disk.past.changes disk.past.image) octets) (sym disk.sound.unsynced_is) (subst (λ (i : List ℕ). SameOutside disk.unsynced.items i octets) (sym disk.sound.image_is) left)

now_outcome : (disk : Disk) (octets : List ℕ) → IsOutcome disk.past octets → DiskMayLeave disk octets
now_outcome disk octets out =
    subst (λ (i : List ℕ). SameOutside disk.unsynced.items i octets) disk.sound.image_is (subst (λ (u : List Stretch). SameOutside u (image_after disk.past.changes disk.past.image) octets) disk.sound.unsynced_is out)

pub disk_counts_now : (disk : Disk) (t : ℕ) (octets : List ℕ) → t ≤ moment_of disk.past → DiskMayLeave disk octets → LeftSince disk.past t octets
disk_counts_now disk t octets le left = past_counts_now disk.past t octets le (outcome_now disk octets left)

pub disk_only_now : (disk : Disk) (octets : List ℕ) → told_of disk.past ≤ moment_of disk.past → LeftSince disk.past (moment_of disk.past) octets → DiskMayLeave disk octets
disk_only_now disk octets told left = now_outcome disk octets (past_only_now disk.past octets told left)

-- at each moment a crash left as many octets
pub disk_same_size : (disk : Disk) (t : ℕ) (octets : List ℕ) → LeftSince disk.past t octets → length octets ≡ length disk.present.items
disk_same_size disk t octets left = past_same_size disk.past (length disk.present.items) t octets disk.sound.first_size disk.sound.changes_fit left

-- what a stop would leave is what a crash may leave
pub disk_may_stop : (disk : Disk) (o : Outcome3) → DiskMayLeave disk (leaves_of disk o)
disk_may_stop disk Old = disk.sound.agrees
disk_may_stop disk New = same_refl disk.unsynced.items disk.present.items
disk_may_stop disk Rot = same_filled rot disk.unsynced.items disk.present.items disk.sound.fit

-- how much more its record takes
abbrev pub room_of : Disk → Room
room_of a = record {
  calls = room_for_calls a.past;
  octets = room_for_octets a.past;
  low = low_of a.unsynced.items;
  high = high_of a.unsynced.items;
}

-- what it tells of its moments
abbrev pub moments_in : Disk → Moments
moments_in disk = moments_of (room_of disk) disk.past

-- how time goes on from one disk to another
abbrev pub DiskGoes : Step → Disk → Disk → Type 0
DiskGoes step old new = GoesOn all_room step (moments_in old) (moments_in new) (DiskMayLeave new)

-- time goes on as that of the past does
elapsed : (old new : Disk) → Goes old.past new.past → Elapses (moments_in old) (moments_in new) (DiskMayLeave new)
elapsed old new goes = record {
  later = goes.later;
  told_later = goes.told_later;
  nothing_else = λ t octets told le left.
      ⊎_elim (λ past. inl past) (λ out. inr (now_outcome new octets out)) (goes.nothing_else t octets told le left);
  keeps = goes.keeps;
}

-- one change is one step of time
module _ (old new : Disk) (change : Change) (step : Step) (is : new.past ≡ noted change old.past)
    (counted : 1 ≤ step.calls) (short : length change.octets ≤ step.octets) where
  goes : Goes old.past new.past
  goes = subst (λ (q : Past). Goes old.past q) (sym is) (goes_noted change old.past)

  stays : Keeps (length change.octets) old.past new.past → StaysTold step (moments_in old) (moments_in new)
  stays keeps = record { told = keeps.0; calls = omega (arith, keeps.1, counted); octets = omega (arith, keeps.2, short) }

  has_room : Takes (room_of old) step → Keeps (length change.octets) old.past new.past
  has_room takes = subst (λ (q : Past). Keeps (length change.octets) old.past q) (sym is)
      (noted_stays change old.past old.sound.few_octets (omega (arith, counted, takes.0)) (omega (arith, short, takes.1)))

  begins : Begins change old.past new.past
  begins = subst (λ (q : Past). Begins change old.past q) (sym is) (noted_begins change old.past)

  anew : Began (moment_of old.past) 1 (length change.octets) new.past
      → BeganAnew all_room (moment_of old.past) step.calls step.octets (moments_in new)
  anew began = record { told = began.0; calls_left = omega (arith, began.1, counted); octets_left = omega (arith, began.2, short) }

  pub goes_noted_on : step.low ≤ low_of new.unsynced.items → high_of new.unsynced.items ≤ step.high → DiskGoes step old new
  goes_noted_on low high = record {
    time = elapsed old new goes;
    noted = record {
      stays = λ takes. stays (has_room takes);
      anew = λ takes below. ⊎_elim (λ keeps. inl (stays keeps))
          (λ other. inr (⊎_elim anew (λ passed. absurd (omega (arith, passed.0, takes.1, short))) other)) (begins below);
      behind = λ below. ⊎_elim (λ keeps. inl (stays keeps))
          (λ other. inr (⊎_elim (λ began. inl (anew began))
          (λ passed. inr (record { told = passed.1.0; calls_left = passed.1.1; octets_left = passed.1.2 })) other)) (begins below);
      low = low;
      high = high;
    };
  }

pub goes_same_on : (old new : Disk) (step : Step) → new ≡ old → step.low ≤ low_of old.unsynced.items → high_of old.unsynced.items ≤ step.high → DiskGoes step old new
goes_same_on old new step is low high =
    let past_is : new.past ≡ old.past = ap (λ (d : Disk). d.past) is in
    let goes = subst (λ (q : Past). Goes old.past q) (sym past_is) (goes_same old.past) in
    let stays : StaysTold step (moments_in old) (moments_in new) = record {
      told = ap told_of past_is;
      calls = omega (arith, ap room_for_calls past_is);
      octets = omega (arith, ap room_for_octets past_is);
    } in
    record {
      time = elapsed old new goes;
      noted = record {
        stays = λ takes. stays;
        anew = λ takes below. inl stays;
        behind = λ below. inl stays;
        low = omega (arith, low, ap (λ (d : Disk). low_of d.unsynced.items) is);
        high = omega (arith, high, ap (λ (d : Disk). high_of d.unsynced.items) is);
      };
    }

-- a write
pub goes_written : (old new : Disk) (at : ℕ) (from : List ℕ) → new.past ≡ noted (record { at = at; octets = from; settles = false }) old.past → new.unsynced.items ≡ old.unsynced.items ++ record { at = at; count = length from } ∷ []
    → DiskGoes (record { calls = 1; octets = length from; low = min (low_of old.unsynced.items) at; high = max (high_of old.unsynced.items) (at + length from) }) old new
goes_written old new at from is unsynced_is =
    let s : Stretch = record { at = at; count = length from } in
    goes_noted_on old new (record { at = at; octets = from; settles = false }) _ is (omega arith) (omega arith)
    (omega (arith, ap low_of unsynced_is, low_of-push old.unsynced.items s, low_of_least old.unsynced.items)) (omega (arith, ap high_of unsynced_is, high_of-push old.unsynced.items s))

-- a sync
pub goes_settled : (old new : Disk) → new.past ≡ noted (record { at = 0; octets = []; settles = true }) old.past → new.unsynced.items ≡ []
    → DiskGoes (record { calls = 1; octets = 0; low = last_count; high = 0 }) old new
goes_settled old new is none =
    goes_noted_on old new (record { at = 0; octets = []; settles = true }) _ is (omega arith) (omega arith) (omega (arith, ap low_of none)) (omega (arith, ap high_of none))

-- a stop, which changes the shortest stretch that holds these
goes_stopped_in : (stretches : List Stretch) (old new : Disk) (step : Step) → new.past ≡ noted (stop_change stretches new.present.items) old.past → new.unsynced.items ≡ []
    → step.calls ≡ 1 → high_of stretches - low_of stretches ≤ step.octets → step.low ≤ last_count → DiskGoes step old new
goes_stopped_in stretches old new step is none one most low =
    goes_noted_on old new (stop_change stretches new.present.items) step is (omega (arith, one))
    (omega (arith, most, length-take (hull_of stretches).count (drop (hull_of stretches).at new.present.items)))
    (omega (arith, low, ap low_of none)) (omega (arith, ap high_of none))

-- in a write
goes_stopped_at : (old new : Disk) (at : ℕ) (from : List ℕ) → new.past ≡ noted (stop_change (old.unsynced.items ++ record { at = at; count = length from } ∷ []) new.present.items) old.past → new.unsynced.items ≡ []
    → at ≤ last_count → DiskGoes (stopped_at (room_of old) at (length from)) old new
goes_stopped_at old new at from is none inside =
    let s : Stretch = record { at = at; count = length from } in
    goes_stopped_in (old.unsynced.items ++ s ∷ []) old new (stopped_at (room_of old) at (length from)) is none refl
    (omega (arith, low_of-push old.unsynced.items s, high_of-push old.unsynced.items s, inside)) (low_of_least old.unsynced.items)

-- between two writes
pub goes_stopped : (old new : Disk) → new.past ≡ noted (stop_change old.unsynced.items new.present.items) old.past → new.unsynced.items ≡ [] → DiskGoes (stopped (room_of old)) old new
goes_stopped old new is none = goes_stopped_in old.unsynced.items old new (stopped (room_of old)) is none refl (omega arith) (low_of_least old.unsynced.items)

not_err : false ≡ true → ⊥
not_err e = cc

-- the same of a call that failed
pub goes_stopped_write : {T E : Type 0} (old new : Disk) (at : ℕ) (from : List ℕ) (result : Result T E) → new.past ≡ noted (stop_change (old.unsynced.items ++ record { at = at; count = length from } ∷ []) new.present.items) old.past → new.unsynced.items ≡ []
    → at ≤ last_count → IsErr result → DiskGoes (write_of (room_of old) at (length from) result) old new
goes_stopped_write old new at from (Ok done) is none inside err = absurd (not_err err)
goes_stopped_write old new at from (Err failed) is none inside err = goes_stopped_at old new at from is none inside

pub goes_stopped_sync : {T E : Type 0} (old new : Disk) (result : Result T E) → new.past ≡ noted (stop_change old.unsynced.items new.present.items) old.past → new.unsynced.items ≡ [] → IsErr result → DiskGoes (sync_of (room_of old) result) old new
goes_stopped_sync old new (Ok done) is none err = absurd (not_err err)
goes_stopped_sync old new (Err failed) is none err = goes_stopped old new is none

-- each outcome after a write is one before it, torn in its range
pub disk_follows_write : (old new : Disk) (at : ℕ) (from : List ℕ) → at + length from ≤ length old.present.items → new.present.items ≡ overwritten old.present.items at from
    → new.unsynced.items ≡ old.unsynced.items ++ record { at = at; count = length from } ∷ [] → Follows (Torn at (length from)) (DiskMayLeave old) (DiskMayLeave new)
disk_follows_write old new at from fits present_is unsynced_is octets left =
    follows_write old.unsynced.items old.present.items at from fits octets
    (subst (λ (u : List Stretch). SameOutside u (overwritten old.present.items at from) octets) unsynced_is (subst (λ (i : List ℕ). SameOutside new.unsynced.items i octets) present_is left))

pub disk_follows_same : (disk : Disk) (at n : ℕ) → Follows (Torn at n) (DiskMayLeave disk) (DiskMayLeave disk)
disk_follows_same disk at n octets left = (octets, left, torn_same at n octets)

torn_written_as : (o : Outcome3) (octets : List ℕ) (at : ℕ) (from : List ℕ) → at + length from ≤ length octets → Torn at (length from) octets (written_as o octets at from)
torn_written_as Old octets at from fits = torn_same at (length from) octets
torn_written_as New octets at from fits = torn_overwritten octets at from fits
torn_written_as Rot octets at from fits =
    let n_is = length-replicate (length from) rot in
    subst (λ n. Torn at n octets (overwritten octets at (replicate (length from) rot))) n_is (torn_overwritten octets at (replicate (length from) rot) (omega (arith, n_is, fits)))

-- nothing unsynced: a crash leaves what a read gives
pub disk_only : (disk : Disk) → disk.unsynced.items ≡ [] → Only disk.present.items (DiskMayLeave disk)
disk_only disk none octets left = same_everywhere disk.present.items octets (subst (λ (u : List Stretch). SameOutside u disk.present.items octets) none left)

-- what a stop in a write leaves
pub disk_follows_stop : (old new : Disk) (o : Outcome3) (at : ℕ) (from : List ℕ) → at + length from ≤ length old.present.items → new.present.items ≡ written_as o (leaves_of old o) at from → new.unsynced.items ≡ []
    → Follows (Torn at (length from)) (DiskMayLeave old) (DiskMayLeave new)
disk_follows_stop old new o at from fits present_is none octets left =
    let may = disk_may_stop old o in
    let is = disk_only new none octets left ∙ present_is in
    (leaves_of old o, may, subst (λ (l : List ℕ). Torn at (length from) (leaves_of old o) l) (sym is) (torn_written_as o (leaves_of old o) at from (omega (arith, may.size, fits))))

pub disk_within_stop : (old new : Disk) (o : Outcome3) → new.present.items ≡ leaves_of old o → new.unsynced.items ≡ [] → Within (DiskMayLeave old) (DiskMayLeave new)
disk_within_stop old new o present_is none octets left = subst (λ (l : List ℕ). DiskMayLeave old l) (sym (disk_only new none octets left ∙ present_is)) (disk_may_stop old o)

pub disk_within_settled : (old new : Disk) → new.present.items ≡ old.present.items → new.unsynced.items ≡ [] → Within (DiskMayLeave old) (DiskMayLeave new)
disk_within_settled old new present_is none octets left = subst (λ (l : List ℕ). DiskMayLeave old l) (sym (disk_only new none octets left ∙ present_is)) (same_refl old.unsynced.items old.present.items)

-- what the outcomes of a stop leave after a write
pub disk_leaves_written : (old new : Disk) (at : ℕ) (from : List ℕ) → at + length from ≤ length old.present.items → new.present.items ≡ overwritten old.present.items at from → new.firm.items ≡ old.firm.items
    → new.unsynced.items ≡ old.unsynced.items ++ record { at = at; count = length from } ∷ [] → (o : Outcome3) → leaves_of new o ≡ written_as o (leaves_of old o) at from
disk_leaves_written old new at from fits present_is firm_is unsynced_is Old = firm_is
disk_leaves_written old new at from fits present_is firm_is unsynced_is New = present_is
disk_leaves_written old new at from fits present_is firm_is unsynced_is Rot =
    ap (λ (l : List ℕ). filled rot new.unsynced.items l) present_is
    ∙ ap (λ (u : List Stretch). filled rot u (overwritten old.present.items at from)) unsynced_is
    ∙ filled_written rot old.unsynced.items old.present.items at from fits old.sound.fit

module _ (old new : MemoryArea) (kept : IsKept old new) where
  pub kept_disk_size : length new.disk.present.items ≡ length old.disk.present.items
  kept_disk_size = ap (λ (d : Disk). length d.present.items) kept.disk

  pub kept_present : new.disk.present.items ≡ old.disk.present.items
  kept_present = ap (λ (d : Disk). d.present.items) kept.disk

  pub kept_within : Within (DiskMayLeave old.disk) (DiskMayLeave new.disk)
  kept_within octets left = subst (λ (d : Disk). DiskMayLeave d octets) kept.disk left

  pub kept_goes : DiskGoes (nothing (room_of old.disk)) old.disk new.disk
  kept_goes = goes_same_on old.disk new.disk (nothing (room_of old.disk)) kept.disk (omega arith) (omega arith)

  pub kept_leaves_of : (o : Outcome3) → leaves_of new.disk o ≡ leaves_of old.disk o
  kept_leaves_of o = ap (λ (d : Disk). leaves_of d o) kept.disk

  pub kept_disk_spare : most_unsynced - length new.disk.unsynced.items ≡ most_unsynced - length old.disk.unsynced.items
  kept_disk_spare = ap (λ (d : Disk). most_unsynced - length d.unsynced.items) kept.disk

module _ (old new : MemoryArea) (o : Outcome3) (left : IsLeft old o new) where
  pub left_within : Within (DiskMayLeave old.disk) (DiskMayLeave new.disk)
  left_within = disk_within_stop old.disk new.disk o left.present left.unsynced

  pub left_goes : DiskGoes (stopped (room_of old.disk)) old.disk new.disk
  left_goes = goes_stopped old.disk new.disk left.past left.unsynced

  pub left_leaves_of : (p : Outcome3) → leaves_of new.disk p ≡ leaves_of old.disk o
  left_leaves_of Old = left.firm ∙ left.present
  left_leaves_of New = left.present
  left_leaves_of Rot = ap (λ (u : List Stretch). filled rot u new.disk.present.items) left.unsynced ∙ left.present

  pub left_disk_spare : most_unsynced - length new.disk.unsynced.items ≡ most_unsynced
  left_disk_spare = ap (λ (u : List Stretch). most_unsynced - length u) left.unsynced
