-- The values that words say: bounded numbers, addresses, offsets, versions, records and modes.
use Rattle.std.specs.Prelude.{ℕ, ◌+◌, ◌-◌, ◌*◌, ◌==◌, ◌&&◌, nat_le, if◌then◌else◌, List, [], ◌∷◌, Option, Some, None, ℤ, pos, neg_ℤ, codes}
use Rattle.std.specs.Char.{is_ascii_digit}
use Rattle.std.specs.Str.{bytes_eq}
use Rattle.gw_base.specs.declared.address.Addr.{Addr}
use Rattle.route_filter.specs.Words.{at_most, cut_at, number_up_to, octets_in, ◌>>=◌}
use Rattle.world_script.specs.declared.mode.Mode.{Mode}
use Rattle.world_script.specs.declared.mode.Mode.TheVariants as mode

-- the number that a word says in decimal, where it is from `least` to `most`
abbrev pub number_between : ℕ → ℕ → List ℕ → Option ℕ
number_between least most word = number_up_to most word >>= λ n. if nat_le least n then Some n else None

-- a number, where nothing else is said of its range
abbrev pub number_of : List ℕ → Option ℕ
number_of word = number_up_to 18446744073709551615 word

-- an IPv4 address: four numbers of at most 255, with a dot between two
abbrev pub ip_of : List ℕ → Option ℕ
ip_of text = do
  first ← cut_at 46 text
  second ← cut_at 46 first.1
  third ← cut_at 46 second.1
  a ← number_up_to 255 first.0
  b ← number_up_to 255 second.0
  c ← number_up_to 255 third.0
  d ← number_up_to 255 third.1
  Some (16777216 * a + 65536 * b + 256 * c + d)

-- an address and its port, with a colon between them
abbrev pub address_of : List ℕ → Option Addr
address_of word = do
  parts ← cut_at 58 word
  ip ← ip_of parts.0
  port ← number_up_to 65535 parts.1
  Some (record { ip = ip; port = port })

-- Offsets from UTC.

-- the number that two digits say, where it is at most `most`
abbrev pub two_digits : ℕ → ℕ → ℕ → Option ℕ
two_digits most tens ones =
    if is_ascii_digit tens && is_ascii_digit ones then at_most most ((tens - 48) * 10 + (ones - 48)) else None

-- a number after a plus or a minus
abbrev pub signed : ℕ → ℕ → Option ℤ
signed sign n = if sign == 43 then Some (pos n) else if sign == 45 then Some (neg_ℤ (pos n)) else None

-- an offset in minutes: `+HH:MM` or `-HH:MM`, at most 15:59
abbrev pub offset_of : List ℕ → Option ℤ
offset_of (sign ∷ a ∷ b ∷ colon ∷ c ∷ d ∷ []) =
    if colon == 58 then (two_digits 15 a b >>= λ hours. two_digits 59 c d >>= λ minutes. signed sign (hours * 60 + minutes)) else None
offset_of _ = None

-- Packets.

-- a format version of records: two octets in hexadecimal, the high one first
abbrev pub two_octets : List ℕ → Option ℕ
two_octets (high ∷ low ∷ []) = Some (256 * high + low)
two_octets _ = None

abbrev pub version_of : List ℕ → Option ℕ
version_of word = octets_in word >>= two_octets

-- records in hexadecimal, each in a word
abbrev pub records_of : List (List ℕ) → Option (List (List ℕ))
records_of [] = Some []
records_of (word ∷ words) = do
  record_octets ← octets_in word
  records ← records_of words
  Some (record_octets ∷ records)

-- what a stop of an area or a shelf leaves of the octets that weren't synced
abbrev pub mode_of : List ℕ → Option Mode
mode_of word =
    if bytes_eq word (codes "old") then Some mode.Old
    else if bytes_eq word (codes "new") then Some mode.New
    else if bytes_eq word (codes "rot") then Some mode.Rot
    else None
