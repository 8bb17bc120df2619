-- Reading an entry from left to right, up to the first octet that no entry has there.
use Rattle.std.specs.Prelude.{◌≡◌, ℕ, zero, suc, ◌-◌, ◌*◌, ◌/◌, ◌%◌, ◌==◌, ◌&&◌, ◌||◌, nat_lt, nat_le, Bool, if◌then◌else◌, List, [], ◌∷◌, length, take, drop, Option, Some, None, Result, Ok, Err}
use Rattle.std.specs.Borrow.{Bor}
use Rattle.byteorder.specs.Endian.{big_bytes, big_number}
use Rattle.gw_base.specs.declared.history.HistoryAct.{HistoryAct}
use Rattle.gw_base.specs.declared.history.HistoryAct.TheVariants.{Start, Path, File, Hold, Seal, Release, Cancel, Tick, Close}
use Rattle.gw_base.specs.declared.history.HistoryEntry.{HistoryEntry}
use Rattle.entry_codec.specs.declared.kind.Kind.{Kind}
use Rattle.entry_codec.specs.declared.kind.Kind.TheVariants as kinds

-- a value and the octets behind it, or the octets from the first wrong one on, of which there are none where octets
-- are wanting
abbrev pub Read : Type 0 → Type 0
Read A = Result (A × List ℕ) (List ℕ)

infixl 10 ◌>>=◌
abbrev pub ◌>>=◌ : {A B : Type 0} → Result A (List ℕ) → (A → Result B (List ℕ)) → Result B (List ℕ)
(Ok x) >>= f = f x
(Err rest) >>= f = Err rest

-- what a function returned, seen by view, is what reading gives
abbrev pub Gives : {X Y : Type 0} → (X → Y) → Result X (Bor (List ℕ)) → Result Y (List ℕ) → Type 0
Gives view (Ok x) read = read ≡ Ok (view x)
Gives view (Err rest) read = read ≡ Err rest.now

-- so many octets
abbrev pub octets_at : ℕ → List ℕ → Read (List ℕ)
octets_at count octets = if nat_lt (length octets) count then Err [] else Ok (take count octets, drop count octets)

-- a number of so many octets
abbrev pub number_at : ℕ → List ℕ → Read ℕ
number_at width octets = if nat_lt (length octets) width then Err [] else Ok (big_number width octets, drop width octets)

-- the numbers of eight octets each, so many
abbrev pub numbers_in : ℕ → List ℕ → List ℕ
numbers_in zero octets = []
numbers_in (suc count) octets = big_number 8 octets ∷ numbers_in count (drop 8 octets)

abbrev pub numbers_at : ℕ → List ℕ → Read (List ℕ)
numbers_at count octets = if nat_lt (length octets) (8 * count) then Err [] else Ok (numbers_in count octets, drop (8 * count) octets)

-- these octets and no others
abbrev pub exactly : List ℕ → List ℕ → Result (List ℕ) (List ℕ)
exactly [] octets = Ok octets
exactly (b ∷ wanted) [] = Err []
exactly (b ∷ wanted) (x ∷ octets) = if x == b then exactly wanted octets else Err (x ∷ octets)

-- the octets behind so many
abbrev pub behind : ℕ → List ℕ → Result (List ℕ) (List ℕ)
behind count octets = if nat_lt (length octets) count then Err [] else Ok (drop count octets)

-- the octets of a number that is at most the one with these octets: the first that differs is a lower one
abbrev pub at_most : List ℕ → List ℕ → Result (List ℕ) (List ℕ)
at_most [] octets = Ok octets
at_most (b ∷ bound) [] = Err []
at_most (b ∷ bound) (x ∷ octets) = if x == b then at_most bound octets else if nat_lt b x then Err (x ∷ octets) else behind (length bound) octets

-- whether an entry of some kind is so long
abbrev pub is_length : ℕ → Bool
is_length n = (n == 25) || ((n == 32) || ((n == 33) || nat_le 37 n))

-- the length of the whole entry: its last octet is the first that can be wrong
abbrev pub length_at : List ℕ → Read ℕ
length_at octets =
    if nat_lt (length octets) 4 then Err []
    else if is_length (big_number 4 octets) then Ok (big_number 4 octets, drop 4 octets)
    else Err (drop 3 octets)

-- the kind that an octet stands for
abbrev pub kind_from : ℕ → Option Kind
kind_from code =
    if code == 1 then Some kinds.Start else if code == 2 then Some kinds.Path else if code == 3 then Some kinds.File
    else if code == 4 then Some kinds.Hold else if code == 5 then Some kinds.Seal else if code == 6 then Some kinds.Release
    else if code == 7 then Some kinds.Cancel else if code == 8 then Some kinds.Tick else if code == 9 then Some kinds.Close
    else None

-- whether an entry of this kind can be so long
abbrev pub fits_length : ℕ → Kind → Bool
fits_length n kinds.Start = n == 25
fits_length n kinds.Path = n == 32
fits_length n kinds.File = nat_le 37 n
fits_length n kinds.Hold = nat_le 37 n
fits_length n kinds.Seal = n == 37
fits_length n kinds.Release = nat_le 33 n && ((n - 33) % 8 == 0)
fits_length n kinds.Cancel = nat_le 33 n && ((n - 33) % 8 == 0)
fits_length n kinds.Tick = n == 25
fits_length n kinds.Close = n == 25

abbrev pub kind_if : ℕ → Option Kind → List ℕ → List ℕ → Read Kind
kind_if n None octets behind = Err octets
kind_if n (Some kind) octets behind = if fits_length n kind then Ok (kind, behind) else Err octets

-- the kind of an entry that is so long
abbrev pub kind_at : ℕ → List ℕ → Read Kind
kind_at n [] = Err []
kind_at n (code ∷ octets) = kind_if n (kind_from code) (code ∷ octets) octets

-- the octets of the last moment, 4,102,444,799
abbrev pub last_moment_octets : List ℕ
last_moment_octets = 0 ∷ 0 ∷ 0 ∷ 0 ∷ 0xF4 ∷ 0x86 ∷ 0x56 ∷ 0xFF ∷ []

unfoldable pub moment_at : List ℕ → Read ℕ
moment_at octets = do
  rest ← at_most last_moment_octets octets
  Ok (big_number 8 octets, rest)

-- a node's address, a port and a counter
unfoldable pub path_at : List ℕ → Read (ℕ × ℕ × ℕ)
path_at octets = do
  node ← number_at 4 octets
  port ← number_at 2 node.1
  counter ← number_at 1 port.1
  Ok ((node.0, port.0, counter.0), counter.1)

-- a node's address and a number
unfoldable pub key_at : List ℕ → Read (ℕ × ℕ)
key_at octets = do
  node ← number_at 4 octets
  number ← number_at 8 node.1
  Ok ((node.0, number.0), number.1)

-- a node's address, a number and a packet
unfoldable pub packet_at : ℕ → List ℕ → Read (ℕ × ℕ × List ℕ)
packet_at n octets = do
  key ← key_at octets
  packet ← octets_at (n - 37) key.1
  Ok ((key.0.0, key.0.1, packet.0), packet.1)

-- how many numbers an entry of so many octets lists
abbrev pub number_count : ℕ → ℕ
number_count n = (n - 33) / 8

-- a node's address, and numbers behind their count
unfoldable pub list_at : ℕ → List ℕ → Read (ℕ × List ℕ)
list_at n octets = do
  node ← number_at 4 octets
  counted ← exactly (big_bytes 4 (number_count n)) node.1
  numbers ← numbers_at (number_count n) counted
  Ok ((node.0, numbers.0), numbers.1)

-- what an entry of this kind that is so long records
abbrev pub act_at : ℕ → Kind → List ℕ → Read HistoryAct
act_at n kinds.Start octets = Ok (Start, octets)
act_at n kinds.Path octets = path_at octets >>= λ x. Ok (Path (record { 0 = x.0.0 }) x.0.1 x.0.2, x.1)
act_at n kinds.File octets = packet_at n octets >>= λ x. Ok (File (record { 0 = x.0.0 }) x.0.1 x.0.2, x.1)
act_at n kinds.Hold octets = packet_at n octets >>= λ x. Ok (Hold (record { 0 = x.0.0 }) x.0.1 x.0.2, x.1)
act_at n kinds.Seal octets = key_at octets >>= λ x. Ok (Seal (record { 0 = x.0.0 }) x.0.1, x.1)
act_at n kinds.Release octets = list_at n octets >>= λ x. Ok (Release (record { 0 = x.0.0 }) x.0.1, x.1)
act_at n kinds.Cancel octets = list_at n octets >>= λ x. Ok (Cancel (record { 0 = x.0.0 }) x.0.1, x.1)
act_at n kinds.Tick octets = Ok (Tick, octets)
act_at n kinds.Close octets = Ok (Close, octets)

unfoldable pub entry_at : List ℕ → Read HistoryEntry
entry_at octets = do
  n ← length_at octets
  kind ← kind_at n.0 n.1
  moment ← moment_at kind.1
  session ← number_at 4 moment.1
  serial ← number_at 8 session.1
  act ← act_at n.0 kind.0 serial.1
  Ok (record { moment = moment.0; caller = record { session = session.0; serial = serial.0 }; act = act.0 }, act.1)
