-- What a gateway of a replay runs on: what is armed for its area and for its shelf, and what is written there.
use Rattle.std.specs.Prelude.{ℕ, Bool, false, Option, None}
use Rattle.area_disk.specs.Armed.{Armed}
use Rattle.area_disk.specs.Armed.Armed.{Nothing}

-- What is written of a gateway's items into files: what is armed for the calls of its shelf; how many of the items the
-- writer has taken since it recovered, or none where it has to recover first; and how many files of each stream are
-- sealed.
pub record Filing : Type 0 where
  pub armed : Armed
  pub taken : Option ℕ
  pub sealed : ℕ → ℕ

-- nothing is armed, and the writer has to recover
abbrev pub resting : (ℕ → ℕ) → Filing
resting sealed = record { armed = Nothing; taken = None; sealed = sealed }

abbrev pub first_filing : Filing
first_filing = resting (λ s. 0)

-- What a gateway runs on: what is armed for the calls of its area; whether it was broken by the last call of a commit;
-- and what is written on its shelf.
pub record Machine : Type 0 where
  pub armed : Armed
  pub at_last : Bool
  pub filing : Filing

abbrev pub first_machine : Machine
first_machine = record { armed = Nothing; at_last = false; filing = first_filing }

-- this is armed for the shelf
abbrev pub shelf_armed : Armed → Machine → Machine
shelf_armed armed m = record m { filing = record m.filing { armed = armed } }

-- nothing is armed any more
abbrev pub unarmed : Machine → Machine
unarmed m = shelf_armed Nothing (record m { armed = Nothing })

-- The gateway stopped: nothing is armed, and its writer, which ends with it, has to recover.
abbrev pub ended : Filing → Filing
ended f = resting f.sealed

abbrev pub disarmed : Machine → Machine
disarmed m = record m { armed = Nothing; at_last = false; filing = ended m.filing }
