-- What a call leaves that only reads an area: of a trail, and of a book.
use Rattle.std.specs.Prelude.{◌≡◌, ◌≢◌, ℕ, ◌≤◌, IsTrue, Result, Err}
use Rattle.area_disk.specs.Armed.{ReadsRun}
use Rattle.area_disk.specs.Course.{ReadOn}
use Rattle.area_disk.specs.Disk.{Rose}
use Rattle.area_disk.specs.MomentLaws.{OnlyNow}
use Rattle.area_disk.specs.declared.area.Area.{Ghosts}
use Rattle.area_disk.specs.declared.plan.Outcome3.{Outcome3}
use Rattle.gate_journal.specs.Moments.{Kept, Told}
use Rattle.cgf_journal.specs.Outcomes.{IsKept}
use Rattle.cgf_journal.specs.Trail as trail
use Rattle.cgf_journal.specs.declared.trail.Trail.{Trail}
use Rattle.gateway_book.specs.Book.{Stays, area_of, value_of}
use Rattle.gateway_book.specs.declared.book.Book.{Book}
use Rattle.gateway_book.specs.declared.outcome.ItemsFault.{ItemsFault}
use Rattle.gateway_book.specs.declared.outcome.ItemsFault.TheVariants.{Device}

-- The count of faults rose where the answer is `Device` and nowhere else; it never falls.
pub record ReadCause {R : Type 0} (before now : ℕ) (result : Result R ItemsFault) : Type 0 where
  pub device : result ≡ Err Device → Rose before now
  pub still : result ≢ Err Device → now ≡ before
  pub later : before ≤ now

-- A trail was read, or not even that, and is as before. That what a crash leaves stays where nothing is done is a law
-- of each area.
pub record IsRead {A : Type 0} {tells : Ghosts A} (old new : Trail A tells) : Type 0 where
  pub kept : IsKept old new
  pub torn_stands : trail.torn_stands new ≡ trail.torn_stands old
  pub area : OnlyNow tells → Kept tells (trail.area_of old) (trail.area_of new)
  pub plan : IsTrue tells.tells_fate → ReadOn (tells.fate (trail.area_of old)) (tells.fate (trail.area_of new))
  pub stands : IsTrue tells.tells_fate → (outcome : Outcome3) → trail.stop_stands outcome new ≡ trail.stop_stands outcome old

-- why the reading of a trail failed
abbrev pub HasCauseOf : {A R : Type 0} {tells : Ghosts A} → Trail A tells → Trail A tells → Result R ItemsFault → Type 0
HasCauseOf {tells = tells} old new result = ReadCause (tells.faults (trail.area_of old)) (tells.faults (trail.area_of new)) result

-- the device fails no reading where no read is to fail
abbrev pub RunsOn : {A R : Type 0} {tells : Ghosts A} → Trail A tells → Result R ItemsFault → Type 0
RunsOn {tells = tells} old result = IsTrue tells.tells_fate → ReadsRun (tells.fate (trail.area_of old)).schedule → result ≢ Err Device

module _ {A : Type 0} {tells : Ghosts A} (old new : Book A tells) where
  -- The book is as before, also where it is broken: what it counts, and what an opening again will find.
  pub record IsUnchanged : Type 0 where
    pub value : Told tells → value_of new ≡ value_of old
    pub broken : trail.is_closed new.trail ≡ trail.is_closed old.trail
    pub cuts : new.cuts ≡ old.cuts
    pub kept : new.kept ≡ old.kept
    pub entries : trail.length_of new.trail ≡ trail.length_of old.trail
    pub firm : trail.firm_length new.trail ≡ trail.firm_length old.trail
    pub free : trail.free_of new.trail ≡ trail.free_of old.trail
    pub index : new.index ≡ old.index
    pub torn_stands : trail.torn_stands new.trail ≡ trail.torn_stands old.trail
    pub stays : Stays old new

  -- why the reading of a book failed
  abbrev pub HasReadCause : {R : Type 0} → Result R ItemsFault → Type 0
  HasReadCause result = ReadCause (tells.faults (area_of old)) (tells.faults (area_of new)) result

  -- A reading came out as was planned: the device doesn't fail it where no read is to fail. What a stop leaves of the
  -- torn entries stays.
  pub record ReadsAsPlanned {R : Type 0} (result : Result R ItemsFault) : Type 0 where
    pub runs : ReadsRun (tells.fate (area_of old)).schedule → result ≢ Err Device
    pub stands : (outcome : Outcome3) → trail.stop_stands outcome new.trail ≡ trail.stop_stands outcome old.trail
