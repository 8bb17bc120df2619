-- Where each filed record stands: its stream, its file's number in the sequence of the stream, and how many records
-- stand before it in the file. Records of a file that is still open have places too.
use Rattle.std.specs.Prelude.{◌≡◌, ℕ, zero, suc, ◌+◌, ◌-◌, nat_lt, if◌then◌else◌, List, [], ◌∷◌, ◌++◌, length, map, take, slice_get, Option, None, Some}
use Rattle.file_rotate.specs.Division.{Division}
use Rattle.file_rotate.specs.Items.{Filed, records_of}
use Rattle.gw_base.specs.declared.item.Item.{Item}
use Rattle.gw_base.specs.declared.item.Item.TheVariants as item
use Rattle.gw_base.specs.declared.kind.CdrKind.{CdrKind}
use Rattle.gw_base.specs.declared.tag.Tag.{Tag}
use Rattle.route_filter.specs.Rules.{stream_of}
use Rattle.file_writer.specs.Streams.{Settings, stream_division, stream_items, stream_record}

pub record FilePlace : Type 0 where
  pub stream : ℕ
  pub sequence : ℕ
  pub index : ℕ

-- the runs of a division, the open one last
abbrev pub runs_of : {P : Type 0} → Division P → List (List (Filed P))
runs_of division = map (λ closed. closed.run) division.closed ++ division.left_open ∷ []

-- the place of the record before which so many stand in runs, the first of which has this number
abbrev pub nth_place : {P : Type 0} → ℕ → ℕ → List (List (Filed P)) → ℕ → Option FilePlace
nth_place s sequence [] n = None
nth_place s sequence (run ∷ later) n =
    if nat_lt n (length run) then Some (record { stream = s; sequence = sequence; index = n })
    else nth_place s (sequence + 1) later (n - length run)

-- how many records a stream has of some items
abbrev pub records_to : Settings → ℕ → List Item → ℕ
records_to settings s items = length (records_of (stream_items settings.profile settings.rules s items))

-- the place of the record of a stream before which it has so many
abbrev pub place_after : Settings → List Item → ℕ → ℕ → Option FilePlace
place_after settings items s n = nth_place s 1 (runs_of (stream_division settings s items)) n

abbrev pub place_of_item : Settings → List Item → ℕ → Option Item → Option FilePlace
place_of_item settings items k None = None
place_of_item settings items k (Some (item.Part kind tag octets moment)) =
    let s = stream_of settings.rules tag kind.format in
    place_after settings items s (records_to settings s (take k items))
place_of_item settings items k (Some (item.Tick moment)) = None
place_of_item settings items k (Some (item.Close moment)) = None

-- the place of the item with this number, from 0, where it is a record
abbrev pub place_in : Settings → List Item → ℕ → Option FilePlace
place_in settings items k = place_of_item settings items k (slice_get items k)

-- the record that stands so far behind the first one of runs
abbrev pub in_run : {P : Type 0} → ℕ → Option (List (Filed P)) → Option (Filed P)
in_run index None = None
in_run index (Some run) = slice_get run index

-- the run of the file with this number in the sequence of its stream, which counts from 1
abbrev pub run_with : {P : Type 0} → ℕ → List (List (Filed P)) → Option (List (Filed P))
run_with zero runs = None
run_with (suc before) runs = slice_get runs before

-- the record at a place
abbrev pub record_at : Settings → List Item → FilePlace → Option (Filed (List ℕ))
record_at settings items place =
    in_run place.index (run_with place.sequence (runs_of (stream_division settings place.stream items)))

-- the record that is the item with this number has a place, in the stream that the rules choose, and stands there
pub record HasPlace (settings : Settings) (items : List Item) (k : ℕ) (kind : CdrKind) (tag : Option Tag)
    (octets : List ℕ) (moment : ℕ) : Type 0 where
  pub place : FilePlace
  pub found : place_in settings items k ≡ Some place
  pub stream : place.stream ≡ stream_of settings.rules tag kind.format
  pub there : record_at settings items place ≡ Some (stream_record settings.profile kind octets moment)
