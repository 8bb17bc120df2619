-- What each outcome of a call leaves of a trail, from the trail before it to the one after it.
use Rattle.std.specs.Prelude.{◌≡◌, ◌≢◌, ℕ, ◌+◌, IsTrue, Bool, false, List, [], ◌∷◌, ◌++◌, length, Result, Ok, is_err}
use Rattle.area_disk.specs.Armed.{Armed, IsArmed, calls_under}
use Rattle.area_disk.specs.Course.{IsTied}
use Rattle.area_disk.specs.Disk.{HasCause, counted}
use Rattle.area_disk.specs.Plan.{ReadAsPlanned}
use Rattle.area_disk.specs.declared.area.Area.{Ghosts}
use Rattle.area_disk.specs.declared.plan.Outcome3.{Outcome3}
use Rattle.gw_base.specs.declared.history.HistoryEntry.{HistoryEntry}
use Rattle.gw_base.specs.declared.place.Place.{Place}
use Rattle.gate_journal.specs.Moments.{Calls, Leaves, Told}
use Rattle.entry_codec.specs.Spelling.{entry_length}
use Rattle.cgf_journal.specs.Comes.{CommitComes, ReopenComes, plan_of}
use Rattle.cgf_journal.specs.Follows.{CommitFollows, ReopenFollows}
use Rattle.cgf_journal.specs.Trail.{IsFirmPlaceOf, IsPlaceOf, IsSettled, StandsForOr, area_of, entries, firm_entries, firm_length, free_of, has_room_of, header_of, is_closed, length_of, stop_stands, torn_stands, waiting, waiting_octets}
use Rattle.cgf_journal.specs.declared.trail.Trail.{Trail}

module _ {A : Type 0} {tells : Ghosts A} (old new : Trail A tells) where
  -- What the trail holds stays.
  pub record IsKept : Type 0 where
    pub size : tells.size (area_of new) ≡ tells.size (area_of old)
    pub header : header_of new ≡ header_of old
    pub closed : is_closed new ≡ is_closed old
    pub firm_entries : Told tells → firm_entries new ≡ firm_entries old
    pub waiting : waiting new ≡ waiting old
    pub waiting_octets : waiting_octets new ≡ waiting_octets old
    pub firm_length : firm_length new ≡ firm_length old
    pub length : length_of new ≡ length_of old
    pub room : (e : HistoryEntry) → has_room_of new e ≡ has_room_of old e
    pub free : free_of new ≡ free_of old
    pub places : (k : ℕ) (place : Place) → IsPlaceOf old k place → IsPlaceOf new k place

  -- One more entry waits behind the others.
  pub record IsPushed (e : HistoryEntry) : Type 0 where
    pub listed : entries new ≡ entries old ++ e ∷ []
    pub waits : waiting new ≡ waiting old ++ e ∷ []
    pub octets : waiting_octets new ≡ waiting_octets old + entry_length e
    pub count : length_of new ≡ length_of old + 1

  -- The firm entries stay, the places of all entries, and the area.
  pub record FirmStays : Type 0 where
    pub listed : firm_entries new ≡ firm_entries old
    pub count : firm_length new ≡ firm_length old
    pub places : (k : ℕ) (place : Place) → IsPlaceOf old k place → IsPlaceOf new k place
    pub opened : is_closed new ≡ is_closed old
    pub area : area_of new ≡ area_of old
    pub header : header_of new ≡ header_of old

  -- All entries are firm, so many, and none waits.
  pub record AllFirm (n : ℕ) : Type 0 where
    pub listed : Told tells → firm_entries new ≡ entries old
    pub none_waits : waiting new ≡ []
    pub emptied : waiting_octets new ≡ 0
    pub count : n ≡ length_of old
    pub firm_count : firm_length new ≡ n
    pub length : length_of new ≡ n
    pub room : (e : HistoryEntry) → has_room_of new e ≡ has_room_of old e
    pub free : free_of new ≡ free_of old
    pub settled : IsSettled new

  -- The entries are the firm ones, and those that waited are torn.
  pub record AreTorn : Type 0 where
    pub listed : Told tells → firm_entries new ≡ firm_entries old
    pub torn : waiting new ≡ waiting old
    pub octets : waiting_octets new ≡ waiting_octets old
    pub count : firm_length new ≡ firm_length old

  -- A crash at any moment of the call leaves one of two histories.
  abbrev pub CrashLeaves : List HistoryEntry → List HistoryEntry → Type 0
  CrashLeaves h g = Told tells → Leaves tells (area_of old) (area_of new) (StandsForOr (header_of old) h g)

  -- The area's length and the header stay, and the places of all entries.
  pub record Stays : Type 0 where
    pub size : tells.size (area_of new) ≡ tells.size (area_of old)
    pub header : header_of new ≡ header_of old
    pub places : (k : ℕ) (place : Place) → IsPlaceOf old k place → IsPlaceOf new k place

  -- No call is made where no entry waits.
  pub record UnmadeIfNone {E : Type 0} (result : Result ℕ E) : Type 0 where
    pub empty : waiting old ≡ [] → waiting_octets old ≡ 0
    pub unmade : waiting_octets old ≡ 0 → (result ≡ Ok (firm_length old)) × (area_of new ≡ area_of old)

  -- What a commit counts: four calls where entries wait, or those up to the one that failed; and faults.
  pub record CommitCalls {E : Type 0} (result : Result ℕ E) : Type 0 where
    pub calls : IsTrue tells.tells_calls → waiting_octets old ≢ 0 → Calls 4 (tells.calls (area_of old)) (tells.calls (area_of new)) result
    pub cause : HasCause (tells.faults (area_of old)) (tells.faults (area_of new)) result

  -- A commit of entries comes out as was planned, call by call, and as was armed for one of its four calls.
  pub record CommitPlanned {E : Type 0} (result : Result ℕ E) : Type 0 where
    pub follows : IsTrue tells.tells_fate → Told tells → waiting_octets old ≢ 0 → CommitFollows old new (is_err result)
    pub comes : IsTrue tells.tells_fate → Told tells → waiting old ≢ [] → (a : Armed) → IsTied a (plan_of old) → CommitComes new (is_err result) (calls_under a 4)

  -- The trail is open again: it answers whether the torn entries stand, and none waits any more.
  pub record IsReopened (stands : Bool) : Type 0 where
    pub gate : Told tells → stands ≡ torn_stands old
    pub none_waits : waiting new ≡ []
    pub emptied : waiting_octets new ≡ 0
    pub opened : is_closed new ≡ false
    pub length : length_of new ≡ firm_length new
    pub settled : IsSettled new

  -- The torn entries stand again behind the firm ones, and are firm.
  pub record TornStand : Type 0 where
    pub listed : Told tells → firm_entries new ≡ firm_entries old ++ waiting old
    pub count : firm_length new ≡ firm_length old + length (waiting old)
    pub places : (k : ℕ) (place : Place) → IsPlaceOf old k place → IsPlaceOf new k place

  -- The torn entries are dropped.
  pub record TornDropped : Type 0 where
    pub listed : Told tells → firm_entries new ≡ firm_entries old
    pub count : firm_length new ≡ firm_length old
    pub room : (e : HistoryEntry) → has_room_of new e ≡ has_room_of old e
    pub free : free_of new ≡ free_of old

  -- The area's length and the header stay, and the places of the firm entries.
  pub record FirmPlacesStay : Type 0 where
    pub size : tells.size (area_of new) ≡ tells.size (area_of old)
    pub header : header_of new ≡ header_of old
    pub places : (k : ℕ) (place : Place) → IsFirmPlaceOf old k place → IsFirmPlaceOf new k place

  -- What an opening again counts: one call, and faults.
  pub record ReopenCalls {E : Type 0} (result : Result Bool E) : Type 0 where
    pub calls : IsTrue tells.tells_calls → tells.calls (area_of new) ≡ counted 1 (tells.calls (area_of old))
    pub cause : HasCause (tells.faults (area_of old)) (tells.faults (area_of new)) result

  -- An opening again comes out as was planned, and as was armed for its one call.
  pub record ReopenPlanned {E : Type 0} (result : Result Bool E) : Type 0 where
    pub follows : IsTrue tells.tells_fate → ReopenFollows old new (is_err result)
    pub comes : IsTrue tells.tells_fate → (a : Armed) → IsArmed a (plan_of old).schedule → ReopenComes old new (is_err result) (calls_under a 1)

  -- A read comes out as was planned for it: it fails where the next read is to fail, or the device is stopped. What a
  -- stop leaves of the torn entries stays.
  pub record ReadPlanned {T E : Type 0} (result : Result T E) : Type 0 where
    pub planned : ReadAsPlanned (tells.fate (area_of old)) result (tells.fate (area_of new))
    pub stands : (outcome : Outcome3) → stop_stands outcome new ≡ stop_stands outcome old
