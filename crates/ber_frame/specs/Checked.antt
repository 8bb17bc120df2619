-- Reading a value from left to right: its tag and what follows it, or its first fault.
use Rattle.std.specs.Prelude.{ℕ, zero, suc, ◌+◌, ◌-◌, Bool, true, false, List, [], ◌∷◌, length, take, drop, Option, Some, None, Result, Ok, Err, nat_lt, is_ok, if◌then◌else◌}
use Rattle.gw_base.specs.declared.tag.Tag.{Tag}
use Rattle.ber_frame.specs.declared.fault.BerFault.{BerFault}
use Rattle.ber_frame.specs.declared.fault.BerKind.{BerKind}
use Rattle.ber_frame.specs.declared.fault.BerKind.TheVariants.{Cut, Trailing, TooDeep}
use Rattle.ber_frame.specs.Value.{are_over}
use Rattle.ber_frame.specs.Faults.{fault_at}
use Rattle.ber_frame.specs.Reading.{head_at}

-- what f makes of what was read, or the fault
infixl 10 ◌>>=◌
abbrev pub ◌>>=◌ : {A B : Type 0} → Result A BerFault → (A → Result B BerFault) → Result B BerFault
(Ok x) >>= f = f x
(Err fault) >>= f = Err fault

-- what was read at this place, or the fault there
abbrev pub at_place : {A : Type 0} → ℕ → Result A BerKind → Result A BerFault
at_place at (Ok x) = Ok x
at_place at (Err kind) = Err (fault_at at kind)

-- The inner values from this place on, each read by `value`: the octets before which they are over. Each of them has two
-- octets at least, so there are fewer than a limit above the number of octets.
unfoldable pub inner_values_at : (ℕ → List ℕ → Result (Tag × List ℕ) BerFault) → Bool → ℕ → ℕ → List ℕ → Result (List ℕ) BerFault
inner_values_at value endless zero at octets = Ok octets
inner_values_at value endless (suc limit) at octets =
    if are_over endless octets then Ok octets
    else (value at octets >>= λ first. inner_values_at value endless limit (at + (length octets - length first.1)) first.1)

-- the contents, from this place on, of a value that begins at `start`: what follows them
abbrev pub contents_at : (ℕ → List ℕ → Result (Tag × List ℕ) BerFault) → ℕ → ℕ → Bool → Option ℕ → List ℕ → Result (List ℕ) BerFault
contents_at value start at constructed None octets =
    inner_values_at value true (suc (length octets)) at octets >>= λ rest. Ok (drop 2 rest)
contents_at value start at false (Some size) octets =
    if nat_lt (length octets) size then Err (fault_at start Cut) else Ok (drop size octets)
contents_at value start at true (Some size) octets =
    if nat_lt (length octets) size then Err (fault_at start Cut)
    else (inner_values_at value false (suc size) at (take size octets) >>= λ rest. Ok (drop size octets))

-- the value at this place, in which values may lie at most `levels` deep, the value itself counted
unfoldable pub value_at : ℕ → ℕ → List ℕ → Result (Tag × List ℕ) BerFault
value_at zero at octets = do
  head ← at_place at (head_at octets)
  Err (fault_at at TooDeep)
value_at (suc levels) at octets = do
  head ← at_place at (head_at octets)
  rest ← contents_at (value_at levels) at (at + (length octets - length head.2)) head.0.constructed head.1 head.2
  Ok (head.0, rest)

-- the tag of what stands in front, where nothing follows it
abbrev pub last : Tag → ℕ → List ℕ → Result Tag BerFault
last tag at [] = Ok tag
last tag at (octet ∷ octets) = Err (fault_at at Trailing)

-- the tag of octets that are exactly one value, or their first fault
unfoldable pub checked : List ℕ → Result Tag BerFault
checked octets = value_at 32 0 octets >>= λ first. last first.0 (length octets - length first.1) first.1

-- the octets are exactly one value
abbrev pub is_one_value : List ℕ → Bool
is_one_value octets = is_ok (checked octets)
