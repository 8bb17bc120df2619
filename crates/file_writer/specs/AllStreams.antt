-- What is kept of all streams, and the shelf, after items.
use Rattle.std.specs.Prelude.{◌≡◌, ◌≢◌, ℕ, ◌+◌, ◌-◌, ◌^◌, ◌<◌, ◌≤◌, Bool, true, false, nat_lt, IsTrue, List, [], ◌∷◌, ◌++◌, length, take, slice_index_or, Option, Result, OnOk}
use Rattle.cdr_file.specs.CdrFile.{FileSettings}
use Rattle.cdr_shelf.specs.Files.{UnsealedFile}
use Rattle.cdr_shelf.specs.declared.shelf.Shelf.{Ghosts}
use Rattle.file_rotate.specs.Items.{Filed, Record}
use Rattle.gw_base.specs.CdrKind.{IsCdrKind}
use Rattle.gw_base.specs.declared.kind.CdrKind.{CdrKind}
use Rattle.gw_base.specs.declared.tag.Tag.{Tag}
use Rattle.gw_base.specs.declared.item.Item.{Item}
use Rattle.gw_base.specs.declared.item.Item.TheVariants as item
use Rattle.route_filter.specs.declared.rule.Rule.{Rule}
use Rattle.file_writer.specs.Calls.{Call, calls_below, calls_of}
use Rattle.file_writer.specs.Following.{IsBehind, IsLeft, IsSafe}
use Rattle.file_writer.specs.Leaving.{begun_after}
use Rattle.file_writer.specs.Making.{Makes, Went, ending_of}
use Rattle.file_writer.specs.Shutting.{IsShut, StaysShut}
use Rattle.file_writer.specs.Streams.{Settings, closed_of, stream_count, stream_division, stream_item}
use Rattle.file_writer.specs.Writing.{weight_of}
use Rattle.file_writer.specs.declared.fault.ShelfFault.{ShelfFault}
use Rattle.file_writer.specs.declared.stream.Stream.{Stream}

-- a Close, or else a Tick
abbrev pub mark_told : Bool → ℕ → Item
mark_told true moment = item.Close moment
mark_told false moment = item.Tick moment

-- Each stream can take an item.
abbrev pub EachSafe : {A : Type 0} → Ghosts A → List Stream → A → Type 0
EachSafe tells streams shelf =
    (s : ℕ) (d : Stream) → s < stream_count → IsSafe tells s (slice_index_or streams s d) shelf

-- Each stream has at most so many files.
abbrev pub EachBelow : ℕ → List Stream → Type 0
EachBelow most streams = (s : ℕ) (d : Stream) → s < stream_count → weight_of (slice_index_or streams s d).file ≤ most

-- Of each stream this is unsealed, where so many files were closed and this was unsealed before.
pub record AreLeft {A : Type 0} (tells : Ghosts A) (start : ℕ → ℕ) (stale : ℕ → Option UnsealedFile)
    (streams : List Stream) (shelf : A) : Type 0 where
  pub each : (s : ℕ) (d : Stream) → s < stream_count
      → IsLeft (start s) (stale s) (slice_index_or streams s d).file (tells.unsealed shelf s)
  pub beyond : (s : ℕ) → stream_count ≤ s → tells.unsealed shelf s ≡ stale s

-- what is unsealed goes on so
abbrev pub StillLeft : {A : Type 0} → Ghosts A → List Stream → List Stream → A → A → Type 0
StillLeft tells first streams old new =
    IsTrue tells.tells_files → (start : ℕ → ℕ) (stale : ℕ → Option UnsealedFile)
    → AreLeft tells start stale first old → AreLeft tells start stale streams new

-- A stream, of which so many files were closed before the first item and files up to a number were sealed, has taken
-- these items.
pub record StreamAt {A : Type 0} (tells : Ghosts A) (settings : Settings) (closed sealed : ℕ → ℕ) (items : List Item)
    (s : ℕ) (stream : Stream) (shelf : A) : Type 0 where
  pub behind : IsBehind tells s (stream_division settings s items).left_open stream shelf
  pub has_closed : stream.file.closed ≡ closed s + closed_of settings s items
  pub has_sealed : stream.file.sealed ≡ sealed s
  pub limits : stream.cutter.limits ≡ settings.limits
  pub profile : stream.cutter.profile ≡ settings.profile

abbrev pub EachAt : {A : Type 0} → Ghosts A → Settings → (ℕ → ℕ) → (ℕ → ℕ) → (ℕ → List Item) → List Stream → A → Type 0
EachAt tells settings closed sealed items streams shelf =
    (s : ℕ) (d : Stream) → s < stream_count
    → StreamAt tells settings closed sealed (items s) s (slice_index_or streams s d) shelf

abbrev pub AllAt : {A : Type 0} → Ghosts A → Settings → (ℕ → ℕ) → (ℕ → ℕ) → List Item → List Stream → A → Type 0
AllAt tells settings closed sealed items streams shelf = EachAt tells settings closed sealed (λ s. items) streams shelf

-- the items of a stream where the first streams have one more than the others
abbrev pub with_item : Bool → List Item → Item → List Item
with_item true before item = before ++ item ∷ []
with_item false before item = before

abbrev pub up_to : ℕ → List Item → Item → ℕ → List Item
up_to n before item s = with_item (nat_lt s n) before item

-- Streams that are shut stay so, where of each so many files are begun as its items begin.
abbrev pub GoesShut : {A : Type 0} → Ghosts A → Settings → (ℕ → ℕ) → (ℕ → List Item) → A → A → Type 0
GoesShut tells settings closed items old new =
    IsTrue tells.tells_files → IsTrue tells.tells_plan → (most : ℕ → ℕ)
    → ((s : ℕ) → s < stream_count → begun_after settings closed (items s) s ≤ most s)
    → IsShut tells most old → IsShut tells most new

-- Calls are made, and where they all ran the streams have taken items.
pub record Goes {A : Type 0} {T : Type 0} (tells : Ghosts A) (settings : Settings) (closed sealed : ℕ → ℕ)
    (calls : List Call) (items : ℕ → List Item)
    (streams : List Stream) (old new : A) (result : Result T ShelfFault) : Type 0 where
  pub makes : Makes tells calls (ending_of result) old new
  pub at : OnOk result (EachAt tells settings closed sealed items streams new)
  pub shut : GoesShut tells settings closed items old new

-- an item goes to one stream, as this record, and to no other
pub record GoesTo (profile : ℕ) (rules : List Rule) (item : Item) (s : ℕ) (filed : Filed (List ℕ)) : Type 0 where
  pub here : stream_item profile rules s item ≡ Record filed ∷ []
  pub others : (t : ℕ) → t ≢ s → stream_item profile rules t item ≡ []

-- The first streams have taken an item, and the others haven't yet.
pub record HasMarked {A : Type 0} (tells : Ghosts A) (file : FileSettings) (item : Item) (n : ℕ)
    (first streams : List Stream) (old new : A) : Type 0 where
  pub safe : EachSafe tells streams new
  pub few : EachBelow (2 ^ 32 - 2) streams
  pub sixteen : length streams ≡ stream_count
  pub below : (most : ℕ) → EachBelow most first → EachBelow most streams
  pub left : StillLeft tells first streams old new
  pub shut : StaysShut tells old new
  pub takes : (settings : Settings) (closed sealed : ℕ → ℕ) (before : List Item) → settings.file ≡ file
      → AllAt tells settings closed sealed before first old
      → Makes tells (calls_below n settings closed sealed before item) Went old new
      × EachAt tells settings closed sealed (up_to n before item) streams new

-- a record that is filed
abbrev pub part_of : CdrKind → Option Tag → List ℕ → ℕ → Item
part_of kind tag octets moment = item.Part kind tag octets moment

-- A record has a kind that a header can say, and a length that its CDR's header can say.
abbrev pub IsFit : Item → Type 0
IsFit (item.Part kind tag octets moment) = IsCdrKind kind × (length octets < 2 ^ 16)
IsFit (item.Tick moment) = Unit {0}
IsFit (item.Close moment) = Unit {0}

-- So many items were taken.
pub record HasTakenSome {A : Type 0} (tells : Ghosts A) (file : FileSettings) (rules : List Rule) (items : List Item)
    (n : ℕ) (first streams : List Stream) (old new : A) : Type 0 where
  pub safe : EachSafe tells streams new
  pub sixteen : length streams ≡ stream_count
  pub below : (most : ℕ) → EachBelow most first → EachBelow (most + n) streams
  pub left : StillLeft tells first streams old new
  pub takes : (settings : Settings) (closed sealed : ℕ → ℕ) (before : List Item) → settings.file ≡ file
      → settings.rules ≡ rules → AllAt tells settings closed sealed before first old
      → Makes tells (calls_of settings closed sealed before (take n items)) Went old new
      × AllAt tells settings closed sealed (before ++ take n items) streams new
      × GoesShut tells settings closed (λ s. before ++ take n items) old new
