-- Reading identifier and length from left to right: what stands in front, and the octets after it.
-- A step of proofs: of it public contracts see no more than the head that `checked` reads, `front_tag` and
-- `whole_identifier`.
use Rattle.std.specs.Prelude.{◌≡◌, ℕ, zero, suc, ◌+◌, ◌*◌, ◌-◌, ◌%◌, ◌^◌, Bool, true, false, List, [], ◌∷◌, length, take, drop, fold, min, Option, Some, None, option_map, Result, Ok, Err, nat_lt, ◌==◌, if◌then◌else◌}
use Rattle.std.specs.Result.{result_ok}
use Rattle.gw_base.specs.declared.tag.Tag.{Tag}
use Rattle.ber_frame.specs.declared.fault.BerKind.{BerKind}
use Rattle.ber_frame.specs.declared.fault.BerKind.TheVariants.{Cut, Trailing, Indefinite, LengthTooBig, TagTooBig}
use Rattle.ber_frame.specs.declared.fault.BerFault.{BerFault}
use Rattle.ber_frame.specs.Head.{tag_of}
use Rattle.ber_frame.specs.Faults.{fault_at}

infixl 10 ◌>>=◌
abbrev pub ◌>>=◌ : {A B : Type 0} → Result A BerKind → (A → Result B BerKind) → Result B BerKind
(Ok x) >>= f = f x
(Err e) >>= f = Err e

-- the number after one more digit, where numbers from 2 ^ 32 on aren't told apart
abbrev pub next_digit : ℕ → ℕ → ℕ → ℕ
next_digit base high digit = min (high * base + digit) (2 ^ 32)

-- the tag number in base 128 after a front that spells `high`
unfoldable pub groups_at : ℕ → List ℕ → Option (ℕ × List ℕ)
groups_at high [] = None
groups_at high (octet ∷ octets) =
    if nat_lt octet 128 then Some (next_digit 128 high (octet % 128), octets) else groups_at (next_digit 128 high (octet % 128)) octets

-- a long tag number, where it isn't cut or too big
abbrev pub long_tag : ℕ → Option (ℕ × List ℕ) → Result (Tag × List ℕ) BerKind
long_tag leading None = Err Cut
long_tag leading (Some n) = if nat_lt n.0 (2 ^ 32) then Ok (tag_of leading n.0, n.1) else Err TagTooBig

unfoldable pub identifier_at : List ℕ → Result (Tag × List ℕ) BerKind
identifier_at [] = Err Cut
identifier_at (leading ∷ octets) =
    if nat_lt (leading % 32) 31 then Ok (tag_of leading (leading % 32), octets) else long_tag leading (groups_at 0 octets)

-- the tag that the identifier in front spells, whatever follows it
abbrev pub front_tag : List ℕ → Option Tag
front_tag octets = option_map (λ front. front.0) (result_ok (identifier_at octets))

-- the number in these octets, the highest first
unfoldable pub octets_number : List ℕ → ℕ
octets_number octets = fold (next_digit 256) 0 octets

-- a length of this many octets, where it isn't cut or too big
unfoldable pub long_length : ℕ → List ℕ → Result (Option ℕ × List ℕ) BerKind
long_length count octets =
    if nat_lt (length octets) count then Err Cut
    else (if nat_lt (octets_number (take count octets)) (2 ^ 32) then Ok (Some (octets_number (take count octets)), drop count octets)
    else Err LengthTooBig)

unfoldable pub length_at : List ℕ → Result (Option ℕ × List ℕ) BerKind
length_at [] = Err Cut
length_at (first ∷ octets) =
    if nat_lt first 128 then Ok (Some first, octets)
    else (if first == 128 then Ok (None, octets)
    else (if nat_lt first 255 then long_length (first - 128) octets
    else Err LengthTooBig))

-- tag, length and the octets after them, where a primitive value has no indefinite length
abbrev pub allowed_head : Tag → Bool → Option ℕ × List ℕ → Result (Tag × Option ℕ × List ℕ) BerKind
allowed_head tag constructed (Some size, rest) = Ok (tag, Some size, rest)
allowed_head tag true (None, rest) = Ok (tag, None, rest)
allowed_head tag false (None, rest) = Err Indefinite

unfoldable pub head_at : List ℕ → Result (Tag × Option ℕ × List ℕ) BerKind
head_at octets = do
  i ← identifier_at octets
  l ← length_at i.1
  allowed_head i.0 i.0.constructed l

-- what a function returned, seen by `view`, is what reading gives
abbrev pub Gives : {X Y : Type 0} → (X → Y) → Result X BerKind → Result Y BerKind → Type 0
Gives view (Ok x) read = read ≡ Ok (view x)
Gives view (Err e) read = read ≡ Err e

-- the tag of octets that are one identifier, or the first fault
abbrev pub whole_tag : ℕ → Result (Tag × List ℕ) BerKind → Result Tag BerFault
whole_tag count (Err kind) = Err (fault_at 0 kind)
whole_tag count (Ok (tag, [])) = Ok tag
whole_tag count (Ok (tag, octet ∷ octets)) = Err (fault_at (count - length (octet ∷ octets)) Trailing)

abbrev pub whole_identifier : List ℕ → Result Tag BerFault
whole_identifier octets = whole_tag (length octets) (identifier_at octets)

-- the octets behind a value, where it is primitive and not cut
abbrev pub behind_value : Result (Tag × Option ℕ × List ℕ) BerKind → Option (List ℕ)
behind_value (Err kind) = None
behind_value (Ok (tag, None, rest)) = None
behind_value (Ok (tag, Some size, rest)) =
    if tag.constructed then None else (if nat_lt (length rest) size then None else Some (drop size rest))

-- the octets behind the first value
unfoldable pub behind_primitive : List ℕ → Option (List ℕ)
behind_primitive octets = behind_value (head_at octets)

abbrev pub go_behind : (List ℕ → Bool) → Option (List ℕ) → Bool
go_behind go None = false
go_behind go (Some rest) = go rest

abbrev pub from_here : (List ℕ → Bool) → List ℕ → Bool
from_here go [] = true
from_here go (octet ∷ octets) = go_behind go (behind_primitive (octet ∷ octets))

-- whether octets are fewer primitive values than so many, one after the other
unfoldable pub fewer_primitive : ℕ → List ℕ → Bool
fewer_primitive zero octets = false
fewer_primitive (suc count) octets = from_here (fewer_primitive count) octets

-- whether octets are primitive values, one after the other
unfoldable pub are_primitive : List ℕ → Bool
are_primitive octets = fewer_primitive (suc (length octets)) octets

-- the tag of a value that ends with the octets, where it is primitive or its inner values are
abbrev pub flat_value : Result (Tag × Option ℕ × List ℕ) BerKind → Option Tag
flat_value (Err kind) = None
flat_value (Ok (tag, None, rest)) = None
flat_value (Ok (tag, Some size, rest)) =
    if size == length rest then (if tag.constructed then (if are_primitive rest then Some tag else None) else Some tag) else None

unfoldable pub flat : List ℕ → Option Tag
flat octets = flat_value (head_at octets)
