-- Entries of a history as octets of a journal. All numbers stand with their highest octet first.
use Rattle.std.specs.Prelude.{ℕ, ◌+◌, ◌<◌, ◌≤◌, ◌^◌, List, [], ◌∷◌, ◌++◌, length}
use Rattle.std.specs.List.{flat_map}
use Rattle.byteorder.specs.Endian.{big_bytes}
use Rattle.gw_base.specs.declared.history.HistoryAct.{HistoryAct}
use Rattle.gw_base.specs.declared.history.HistoryAct.TheVariants.{Start, Path, File, Hold, Seal, Release, Cancel, Tick, Close}
use Rattle.gw_base.specs.declared.history.HistoryEntry.{HistoryEntry}
use Rattle.entry_codec.specs.declared.kind.Kind.{Kind}
use Rattle.entry_codec.specs.declared.kind.Kind.TheVariants as kinds

-- the kind of an act
abbrev pub kind_of : HistoryAct → Kind
kind_of Start = kinds.Start
kind_of (Path n port counter) = kinds.Path
kind_of (File n x packet) = kinds.File
kind_of (Hold n x packet) = kinds.Hold
kind_of (Seal n x) = kinds.Seal
kind_of (Release n xs) = kinds.Release
kind_of (Cancel n xs) = kinds.Cancel
kind_of Tick = kinds.Tick
kind_of Close = kinds.Close

-- the octet of a kind
abbrev pub code_of : Kind → ℕ
code_of kinds.Start = 1
code_of kinds.Path = 2
code_of kinds.File = 3
code_of kinds.Hold = 4
code_of kinds.Seal = 5
code_of kinds.Release = 6
code_of kinds.Cancel = 7
code_of kinds.Tick = 8
code_of kinds.Close = 9

-- what follows the head of an entry: the node's address in four octets, the port in two and the counter in one, or
-- the number in eight and the packet, or how many numbers there are in four and each of them in eight
abbrev pub body : HistoryAct → List ℕ
body Start = []
body (Path n port counter) = big_bytes 4 n.0 ++ (big_bytes 2 port ++ big_bytes 1 counter)
body (File n x packet) = big_bytes 4 n.0 ++ (big_bytes 8 x ++ packet)
body (Hold n x packet) = big_bytes 4 n.0 ++ (big_bytes 8 x ++ packet)
body (Seal n x) = big_bytes 4 n.0 ++ big_bytes 8 x
body (Release n xs) = big_bytes 4 n.0 ++ (big_bytes 4 (length xs) ++ flat_map (big_bytes 8) xs)
body (Cancel n xs) = big_bytes 4 n.0 ++ (big_bytes 4 (length xs) ++ flat_map (big_bytes 8) xs)
body Tick = []
body Close = []

-- how many octets the whole entry has: 25 of the head, and the body
abbrev pub entry_length : HistoryEntry → ℕ
entry_length e = 25 + length (body e.act)

-- the octets of an entry: its length in four, its kind in one, its moment in eight, the session in four and the
-- serial in eight, and the body
abbrev pub spelling : HistoryEntry → List ℕ
spelling e =
    big_bytes 4 (entry_length e)
    ++ (code_of (kind_of e.act) ∷ (big_bytes 8 e.moment ++ (big_bytes 4 e.caller.session ++ (big_bytes 8 e.caller.serial ++ body e.act))))

-- what an entry costs of a journal: its octets, and the five that begin a batch
abbrev pub cost_of : HistoryEntry → ℕ
cost_of e = entry_length e + 5

-- numbers below a bound, each
abbrev pub AreBelow : ℕ → List ℕ → Type 0
AreBelow bound [] = Unit {0}
AreBelow bound (x ∷ xs) = (x < bound) × AreBelow bound xs

-- the numbers of an act fit their fields
abbrev pub IsAct : HistoryAct → Type 0
IsAct Start = Unit {0}
IsAct (Path n port counter) = (n.0 < 2 ^ 32) × (port < 2 ^ 16) × (counter < 2 ^ 8)
IsAct (File n x packet) = (n.0 < 2 ^ 32) × (x < 2 ^ 64) × AreBelow 256 packet
IsAct (Hold n x packet) = (n.0 < 2 ^ 32) × (x < 2 ^ 64) × AreBelow 256 packet
IsAct (Seal n x) = (n.0 < 2 ^ 32) × (x < 2 ^ 64)
IsAct (Release n xs) = (n.0 < 2 ^ 32) × AreBelow (2 ^ 64) xs
IsAct (Cancel n xs) = (n.0 < 2 ^ 32) × AreBelow (2 ^ 64) xs
IsAct Tick = Unit {0}
IsAct Close = Unit {0}

-- what has a spelling
pub record HasSpelling (e : HistoryEntry) : Type 0 where
  pub moment : e.moment ≤ 4102444799
  pub session : e.caller.session < 2 ^ 32
  pub serial : e.caller.serial < 2 ^ 64
  pub act : IsAct e.act
  pub short : entry_length e < 2 ^ 32
