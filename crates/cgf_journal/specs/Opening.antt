-- How far an opening has come: which batches it has taken in, and where it finds one that isn't whole.
use Rattle.std.specs.Prelude.{◌≡◌, ◌≢◌, ℕ, ◌≤◌, IsTrue, Bool, List, [], ◌∷◌, ◌++◌, length, Result, Err}
use Rattle.area_disk.specs.Disk.{Rose}
use Rattle.area_disk.specs.declared.area.Area.{Ghosts}
use Rattle.gw_base.specs.declared.history.HistoryEntry.{HistoryEntry}
use Rattle.gate_journal.specs.Before.{AreBefore}
use Rattle.gate_journal.specs.Format.{end_of, header_length}
use Rattle.gate_journal.specs.Moments.{Told}
use Rattle.gate_journal.specs.declared.faults.OpenFault.{OpenFault}
use Rattle.gate_journal.specs.declared.faults.OpenFault.TheVariants.{Device}
use Rattle.cgf_journal.specs.Format.{AreBatches, entries_in}
use Rattle.cgf_journal.specs.Reserved.{AreEnough, Placed}
use Rattle.cgf_journal.specs.Sound.{places_behind}
use Rattle.cgf_journal.specs.Tally.{Tallies, tally_of}

-- The batches up to this gate were taken in: they are batches of entries, and these are their places and their tally.
pub record AreTakenIn (size gate : ℕ) (some : List (List ℕ)) (places : Placed) (tally : Tallies) : Type 0 where
  pub are_batches : AreBatches size some
  pub gate_is : gate ≡ end_of some
  pub placed : places.items ≡ places_behind header_length some
  pub firm : tally.firm ≡ tally_of []
  pub live : tally.live ≡ tally_of (entries_in some)
  pub enough : AreEnough size places.reserved tally.reserved

-- Batches up to this gate were taken in, their entries have Judged, and each list that has Listed begins with them.
pub record IsTakenUpTo (Listed : List (List ℕ) → Type 0) (Judged : List HistoryEntry → Type 0) (size gate : ℕ) (places : Placed) (tally : Tallies) : Type 0 where
  pub some : List (List ℕ)
  pub taken_in : AreTakenIn size gate some places tally
  pub judged : Judged (entries_in some)
  pub begins : (all : List (List ℕ)) → Listed all → (more : List (List ℕ)) × (all ≡ some ++ more)

-- Behind batches that are these the list has one, whose gate stands at this place, that isn't one of these behind them.
pub record BreaksAt (Are : List (List ℕ) → Type 0) (all : List (List ℕ)) (at : ℕ) : Type 0 where
  pub some : List (List ℕ)
  pub batch : List ℕ
  pub more : List (List ℕ)
  pub listed : all ≡ some ++ batch ∷ more
  pub place : at ≡ end_of some
  pub are : Are some
  pub unfit : Are (some ++ batch ∷ []) → ⊥

-- these are the batches that are listed, as the area tells
pub record AreListed {A : Type 0} (tells : Ghosts A) (listed all : List (List ℕ)) : Type 0 where
  pub told : Told tells
  pub same : listed ≡ all

-- these batches stand before this place behind some header, as the area tells
pub record AreListedBefore (tells_octets : Bool) (octets : List ℕ) (at : ℕ) (all : List (List ℕ)) : Type 0 where
  pub told : IsTrue tells_octets
  pub header : List ℕ
  pub long : length header ≡ header_length
  pub before : AreBefore header octets at all

-- The count of faults rose where the answer is `Device` and nowhere else; it never falls.
pub record ListingCause {T : Type 0} (before now : ℕ) (result : Result T OpenFault) : Type 0 where
  pub device : result ≡ Err Device → Rose before now
  pub still : result ≢ Err Device → now ≡ before
  pub later : before ≤ now
