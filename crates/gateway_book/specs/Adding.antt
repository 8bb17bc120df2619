-- How an answer adds to a trail and its index.
use Rattle.std.specs.Prelude.{◌≡◌, ◌≤◌, ◌+◌, ℕ, Bool, true, false, List, [], ◌∷◌, ◌++◌, Option, Some, None}
use Rattle.area_disk.specs.declared.area.Area.{Ghosts}
use Rattle.cgf_journal.specs.Outcomes.{FirmStays, IsPushed}
use Rattle.cgf_journal.specs.Trail.{area_of, entries, has_room_of, waiting_octets}
use Rattle.entry_codec.specs.Room.{has_room}
use Rattle.entry_codec.specs.Spelling.{entry_length}
use Rattle.gate_journal.specs.Format.{longest_batch}
use Rattle.cgf_journal.specs.declared.trail.Trail.{Trail}
use Rattle.gw_base.specs.declared.address.Addr.{Addr}
use Rattle.gw_base.specs.declared.history.Caller.{Caller}
use Rattle.gw_base.specs.declared.history.HistoryAct.{HistoryAct}
use Rattle.gw_base.specs.declared.history.HistoryEntry.{HistoryEntry}
use Rattle.gateway_answer.specs.Answer.{Given, answer_within, node_of}
use Rattle.gateway_index.specs.Index.{Follows, MayCome, MayGrow, observed_by}
use Rattle.gateway_answer.specs.Preparing.{PreparedValue}
use Rattle.gateway_index.specs.declared.index.Index.{Index}

-- the entry of an act at a moment, by a caller
abbrev pub entry_of : ℕ → Caller → HistoryAct → HistoryEntry
entry_of moment who act = record { moment = moment; caller = who; act = act }

module _ {A : Type 0} {tells : Ghosts A} (old new : Trail A tells) (before after : Index) where
  -- The trail and its index have one more entry.
  pub record IsAdded (e : HistoryEntry) : Type 0 where
    pub pushed : IsPushed old new e
    pub stays : FirmStays old new
    pub live : (h : List HistoryEntry) → MayGrow h → Follows false before h → Follows false after (h ++ e ∷ [])
    pub firm : (h : List HistoryEntry) → Follows true before h → Follows true after h

  -- The trail and its index are as before.
  pub record IsSame : Type 0 where
    pub trail : new ≡ old
    pub index : after ≡ before

  -- They have one more entry where an act is recorded.
  abbrev pub AddsIf : ℕ → Caller → Option HistoryAct → Type 0
  AddsIf moment who None = IsSame
  AddsIf moment who (Some act) = IsAdded (entry_of moment who act)

-- the answer to a datagram by the live side of an index, where `room` tells which acts there is room for
abbrev pub given_by : Index → Addr → PreparedValue → (HistoryAct → Bool) → Given
given_by index from datagram room = answer_within (observed_by false index (node_of from)) from datagram room

-- which acts there is room for, as a trail counts
abbrev pub room_in : {A : Type 0} {tells : Ghosts A} → Trail A tells → ℕ → Caller → HistoryAct → Bool
room_in trail moment who act = has_room_of trail (entry_of moment who act)

-- an act that an answer records may be added, where there is room for it
abbrev pub MayAdd : {A : Type 0} {tells : Ghosts A} → Option HistoryAct → Trail A tells → Index → ℕ → Caller → Type 0
MayAdd None trail index moment who = Unit {0}
MayAdd (Some act) trail index moment who = MayCome act index × (waiting_octets trail + entry_length (entry_of moment who act) ≤ longest_batch)

-- which acts there is room for, as the area tells
abbrev pub room_told : {A : Type 0} {tells : Ghosts A} → Trail A tells → ℕ → Caller → HistoryAct → Bool
room_told {tells = tells} trail moment who act = has_room (entries trail) (entry_of moment who act) (tells.size (area_of trail))
