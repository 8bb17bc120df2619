-- The walk through a value: where it stands, and one step of it.
-- A step of proofs: no public contract cites it.
use Rattle.std.specs.Prelude.{◌≡◌, ℕ, zero, suc, ◌+◌, ◌-◌, ◌*◌, Bool, true, false, List, [], ◌∷◌, length, take, drop, Option, Some, None, Result, Ok, Err, nat_lt, if◌then◌else◌}
use Rattle.gw_base.specs.declared.tag.Tag.{Tag}
use Rattle.ber_frame.specs.declared.fault.BerFault.{BerFault}
use Rattle.ber_frame.specs.declared.fault.BerKind.{BerKind}
use Rattle.ber_frame.specs.declared.fault.BerKind.TheVariants.{Cut, TooDeep}
use Rattle.ber_frame.specs.Value.{are_over}
use Rattle.ber_frame.specs.Faults.{fault_at}
use Rattle.ber_frame.specs.Reading.{head_at}
use Rattle.ber_frame.specs.Checked.{last}

-- A constructed value that was entered: whether its length is indefinite, and, where it isn't, what follows it within
-- what encloses it.
pub record Opened : Type 0 where
  pub endless : Bool
  pub after : List ℕ

-- how far the walk has come, the octets from there on within the innermost value that was entered, and the values that
-- were entered, the innermost first
pub record Place : Type 0 where
  pub at : ℕ
  pub window : List ℕ
  pub opened : List Opened

abbrev pub place : ℕ → List ℕ → List Opened → Place
place at window opened = record { at = at; window = window; opened = opened }

abbrev pub open_with : Bool → List ℕ → Opened
open_with endless after = record { endless = endless; after = after }

-- how many octets the walk has before it
abbrev pub octets_later : List Opened → ℕ
octets_later [] = 0
octets_later (o ∷ opened) = length o.after + octets_later opened

abbrev pub octets_left : Place → ℕ
octets_left p = length p.window + octets_later p.opened

-- the place at the beginning of the contents, or after them where they aren't values
abbrev pub at_contents : ℕ → ℕ → List ℕ → List Opened → Bool → Option ℕ → Result Place BerFault
at_contents start from rest opened constructed None = Ok (place from rest (open_with true [] ∷ opened))
at_contents start from rest opened true (Some size) =
    if nat_lt (length rest) size then Err (fault_at start Cut)
    else Ok (place from (take size rest) (open_with false (drop size rest) ∷ opened))
at_contents start from rest opened false (Some size) =
    if nat_lt (length rest) size then Err (fault_at start Cut)
    else Ok (place (from + size) (drop size rest) opened)

abbrev pub with_tag : Tag → Result Place BerFault → Result (Tag × Place) BerFault
with_tag tag (Ok p) = Ok (tag, p)
with_tag tag (Err f) = Err f

-- the place after the head of a value, with its tag, where the value isn't too deep
abbrev pub after_head : Place → Result (Tag × Option ℕ × List ℕ) BerKind → Result (Tag × Place) BerFault
after_head p (Err kind) = Err (fault_at p.at kind)
after_head p (Ok h) =
    if nat_lt (length p.opened) 32 then with_tag h.0 (at_contents p.at (p.at + (length p.window - length h.2)) h.2 p.opened h.0.constructed h.1)
    else Err (fault_at p.at TooDeep)

unfoldable pub entered : Place → Result (Tag × Place) BerFault
entered p = after_head p (head_at p.window)

-- the place after the innermost value
abbrev pub closed : Place → Opened → List Opened → Place
closed p o outer = if o.endless then place (p.at + 2) (drop 2 p.window) outer else place p.at o.after outer

abbrev pub without_tag : Result (Tag × Place) BerFault → Result Place BerFault
without_tag (Ok x) = Ok x.1
without_tag (Err f) = Err f

-- one step: out of the innermost value where its inner values are over, else into the next one
unfoldable pub step_from : Place → List Opened → Result Place BerFault
step_from p [] = Ok p
step_from p (o ∷ outer) = if are_over o.endless p.window then Ok (closed p o outer) else without_tag (entered p)

-- what a function that enters returned, and where it left the walk
abbrev pub Enters : Result Tag BerFault → Place → Place → Type 0
Enters (Ok tag) old new = entered old ≡ Ok (tag, new)
Enters (Err f) old new = entered old ≡ Err f

-- what one step returned, and where it left the walk
abbrev pub Steps : {X : Type 0} → Result X BerFault → Place → Place → Type 0
Steps (Ok x) old new = step_from old old.opened ≡ Ok new
Steps (Err f) old new = step_from old old.opened ≡ Err f

-- falls with each step
abbrev pub steps_left : Place → ℕ
steps_left p = 2 * octets_left p + length p.opened

-- what the walk comes to from a place on, in at most so many steps: the place where nothing that was entered is left, or
-- a fault
abbrev pub after_step : (Place → Option (Result Place BerFault)) → Result Place BerFault → Option (Result Place BerFault)
after_step go (Ok p) = go p
after_step go (Err f) = Some (Err f)

abbrev pub follow : (Place → Option (Result Place BerFault)) → Place → List Opened → Option (Result Place BerFault)
follow go p [] = Some (Ok p)
follow go p (o ∷ outer) = after_step go (step_from p (o ∷ outer))

unfoldable pub run : ℕ → Place → Option (Result Place BerFault)
run zero p = None
run (suc steps) p = follow (run steps) p p.opened

-- the walk from this place comes to this
pub record Fate (p : Place) (outcome : Result Place BerFault) : Type 0 where
  pub steps : ℕ
  pub comes : run steps p ≡ Some outcome

abbrev pub finish : Tag → Result Place BerFault → Result Tag BerFault
finish tag (Ok p) = last tag p.at p.window
finish tag (Err f) = Err f

abbrev pub Ends : Result (Tag × Place) BerFault → Result Tag BerFault → Type 0
Ends (Ok x) result = (outcome : Result Place BerFault) → Fate x.1 outcome → result ≡ finish x.0 outcome
Ends (Err f) result = result ≡ Err f

-- the walk through these octets ends in this way
abbrev pub Walks : List ℕ → Result Tag BerFault → Type 0
Walks octets result = Ends (entered (place 0 octets [])) result
