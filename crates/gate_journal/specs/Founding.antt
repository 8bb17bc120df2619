-- What the founding of a draft leaves, by its outcomes.
use Rattle.std.specs.Prelude.{◌≡◌, true, false, [], ◌∷◌, Result}
use Rattle.area_disk.specs.declared.area.Area.{Ghosts}
use Rattle.gate_journal.specs.Journal.{area_of, header_of, front_of, batches, end, is_closed, torn, torn_stands, IsSettled}
use Rattle.gate_journal.specs.Moments.{Told, Leaves}
use Rattle.gate_journal.specs.Planned.{PutPlanned}
use Rattle.gate_journal.specs.State.{Keeps}
use Rattle.gate_journal.specs.declared.journal.Front.TheVariants.{Founded, Founding}
use Rattle.gate_journal.specs.declared.journal.Journal.{Journal}

module _ {A : Type 0} {tells : Ghosts A} (journal : Journal A tells) where
  -- The journal is as one that was opened.
  pub record IsFounded : Type 0 where
    pub front : front_of journal ≡ Founded
    pub ready : is_closed journal ≡ false
    pub settled : IsSettled journal

  -- Octet 0 may stand or not: the journal is closed until it is opened again.
  pub record IsFounding : Type 0 where
    pub front : front_of journal ≡ Founding
    pub closed : is_closed journal ≡ true

module _ {A : Type 0} {tells : Ghosts A} (old new : Journal A tells) where
  -- what stays whether it is founded or not
  pub record FoundStays : Type 0 where
    pub size : tells.size (area_of new) ≡ tells.size (area_of old)
    pub header : header_of new ≡ header_of old
    pub batches : Told tells → batches new ≡ batches old
    pub end : end new ≡ end old
    pub torn : torn new ≡ torn old
    pub torn_stands : torn_stands new ≡ false

  -- A crash at any moment of the call leaves an area that starts, or one with the batches.
  abbrev pub FoundLeaves : Type 0
  FoundLeaves = Told tells → Leaves tells (area_of old) (area_of new) (Keeps Founding (header_of old) (batches old))

  -- A founding came out as was planned, as the writing of octet 0 and a sync: and what a stop leaves is what it makes
  -- of that octet.
  abbrev pub FoundFollows : {T E : Type 0} → Result T E → Type 0
  FoundFollows result = PutPlanned (tells.fate (area_of old)) 0 (67 ∷ []) result (tells.fate (area_of new))
