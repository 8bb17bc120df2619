-- What is true of a journal and of what a crash leaves of it.
use Rattle.std.specs.Prelude.{◌≡◌, ◌≢◌, ◌⊎◌, ℕ, zero, suc, ◌+◌, ◌-◌, ◌≤◌, Bool, true, false, ◌==◌, if◌then◌else◌, List, [], ◌∷◌, ◌++◌, length, take, drop, slice_index, All}
use Rattle.area_disk.specs.Disk.{Only}
use Rattle.area_disk.specs.declared.area.Area.{Ghosts}
use Rattle.byteorder.specs.Endian.{big_number}
use Rattle.gate_journal.specs.Format.{IsSmall, Stands, Starts, fewest_octets, frame, gate_at, header, longest_batch, most_octets, open_gate, spelled}
use Rattle.gate_journal.specs.Moments.{Told}
use Rattle.gate_journal.specs.declared.journal.Front.{Front}
use Rattle.gate_journal.specs.declared.journal.Front.TheVariants.{Founded, Draft, Founding}

-- the batches that these octets spell, of which there are at most so many
unfoldable pub batches_in : ℕ → List ℕ → List (List ℕ)
batches_in zero octets = []
batches_in (suc most) [] = []
batches_in (suc most) (gate ∷ octets) =
    take (big_number 4 octets) (drop 4 octets) ∷ batches_in most (drop (big_number 4 octets) (drop 4 octets))

-- the batches between the header and this place
unfoldable pub batches_below : ℕ → List ℕ → List (List ℕ)
batches_below place octets = let spelling = drop 32 (take place octets) in batches_in (length spelling) spelling

-- What a crash of a journal leaves, where these are its batches: an area that stands for them; of a draft one that
-- starts; of one that is being founded, either.
abbrev pub Keeps : Front → List ℕ → List (List ℕ) → List ℕ → Type 0
Keeps Founded header batches octets = Stands header octets batches
Keeps Draft header batches octets = Starts header octets
Keeps Founding header batches octets = Stands header octets batches ⊎ Starts header octets

-- where the first closed gate stands after a journal is opened again, as the octet at its gate tells
abbrev pub gate_after : Bool → ℕ → ℕ → ℕ → ℕ
gate_after true gate length octet = if octet == open_gate then gate + 5 + length else gate
gate_after false gate length octet = gate

-- how far its area is made then, as octet 0 tells
abbrev pub front_after : Front → ℕ → Front
front_after Founded first = Founded
front_after Draft first = Draft
front_after Founding first = if first == 67 then Founded else Draft

-- These octets are those of a journal with these batches and a gate behind them: closed, or one with this batch
-- behind it where it is open.
pub record Content (header : List ℕ) (front : Front)
    (is_torn : Bool) (batches : List (List ℕ)) (batch : List ℕ) (place : ℕ) (octets : List ℕ) : Type 0 where
  pub listed : drop 1 (take place octets) ≡ drop 1 header ++ spelled batches
  pub founded : front ≡ Founded → slice_index octets 0 ≡ slice_index header 0
  pub drafted : front ≡ Draft → slice_index octets 0 ≢ slice_index header 0
  pub shut : is_torn ≡ false → gate_at octets place ≢ open_gate
  pub framed : is_torn ≡ true
      → gate_at octets place ≡ open_gate → take (length batch + 5) (drop (place + 1) octets) ≡ frame batch

-- the octets of a journal that may be added to, with the batches below this gate
pub record IsListed (header : List ℕ) (front : Front) (gate : ℕ) (octets : List ℕ) : Type 0 where
  pub listed : drop 1 (take gate octets) ≡ drop 1 header ++ spelled (batches_below gate octets)
  pub small : All IsSmall (batches_below gate octets)
  pub founded : front ≡ Founded → slice_index octets 0 ≡ slice_index header 0
  pub drafted : front ≡ Draft → slice_index octets 0 ≢ slice_index header 0
  pub shut : gate_at octets gate ≢ open_gate

-- the journal may be added to
pub record IsReady (front : Front) (is_torn : Bool) : Type 0 where
  pub whole : is_torn ≡ false
  pub founded : front ≢ Founding

-- What is true of each journal, open or closed.
pub record IsSound {A : Type 0} (tells : Ghosts A) (area : A)
    (buffer : List ℕ) (gate torn_length : ℕ) (is_torn : Bool) (front : Front) (address generation : ℕ) : Type 0 where
  pub long : fewest_octets ≤ tells.size area
  pub short : tells.size area ≤ most_octets
  pub low : 32 ≤ gate
  pub high : gate + 1 ≤ tells.size area
  pub torn_size : torn_length ≤ longest_batch
  pub torn_held : torn_length ≤ length buffer - 4
  pub torn_fits : is_torn ≡ true → gate + torn_length + 6 ≤ tells.size area
  pub founding_whole : front ≡ Founding → is_torn ≡ false
  pub small : Told tells → All IsSmall (batches_below gate (tells.octets area))
  pub content : Told tells → (c : List ℕ) → tells.may_leave area c →
      Content (header (tells.size area) address generation)
      front is_torn (batches_below gate (tells.octets area)) (take torn_length (drop 4 buffer)) gate c
  pub durable : Told tells → IsReady front is_torn → Only (tells.octets area) (tells.may_leave area)
