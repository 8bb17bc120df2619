-- What `stream` is asked for: `stream IP NODE LENGTH AREA FOLDER FILE`.
use Rattle.std.specs.Prelude.{ℕ, ◌≤◌, ◌||◌, if◌then◌else◌, List, [], ◌∷◌, Option, Some, None, option_map, codes}
use Rattle.std.specs.Str.{bytes_eq}
use Rattle.gate_journal.specs.Format.{fewest_octets, most_octets}
use Rattle.gw_base.specs.declared.address.Addr.{Addr}
use Rattle.route_filter.specs.Words.{◌>>=◌}
use Rattle.world_script.specs.Values.{address_of, ip_of, number_between}
use Rattle.cgf_jobs.specs.Words.{is_option}
use Rattle.cgf_service.specs.declared.streaming.StreamPlaces.{StreamPlaces}
use Rattle.cgf_service.specs.declared.streaming.Streaming.{Streaming}

-- what these words say, where each is an address or a number in its range
abbrev pub streaming_by : List ℕ → List ℕ → List ℕ → Option Streaming
streaming_by ip node length = do
  i ← ip_of ip
  n ← address_of node
  l ← number_between fewest_octets most_octets length
  Some (record { ip = i; node = n; length = l })

-- what the words ask, where they are those of `stream`: its name, its numbers and three paths, which are no options
abbrev pub streaming_of : List (List ℕ) → Option Streaming
streaming_of (name ∷ ip ∷ node ∷ length ∷ area ∷ folder ∷ file ∷ []) =
    if is_option area || (is_option folder || is_option file) then None
    else if bytes_eq name (codes "stream") then streaming_by ip node length
    else None
streaming_of _ = None

-- The number is in its range.
pub record IsStreamingWithin (of : Streaming) : Type 0 where
  pub long : fewest_octets ≤ of.length
  pub short : of.length ≤ most_octets

-- The outside of a gateway that answers a stream: the length of its journal's area, the path of the area's file, that of
-- the folder of its files, and the stream's own.
pub record StreamPlacesValue : Type 0 where
  pub length : ℕ
  pub area : List ℕ
  pub folder : List ℕ
  pub file : List ℕ

abbrev pub stream_places_in : List (List ℕ) → Streaming → StreamPlacesValue
stream_places_in (name ∷ ip ∷ node ∷ length ∷ area ∷ folder ∷ file ∷ words) of =
    record { length = of.length; area = area; folder = folder; file = file }
stream_places_in words of = record { length = of.length; area = []; folder = []; file = [] }

-- the outside that the words ask for, where they are those of `stream`
abbrev pub stream_places_of : List (List ℕ) → Option StreamPlacesValue
stream_places_of words = option_map (stream_places_in words) (streaming_of words)

abbrev pub stream_places_seen : Option StreamPlaces → Option StreamPlacesValue
stream_places_seen found =
    option_map (λ p. record { length = p.length; area = p.area.now; folder = p.folder.now; file = p.file.now }) found

-- A path of the form `tcp:IP:PORT` names an address: the stream is the one connection that is accepted there.
abbrev pub tcp_of : List ℕ → Option Addr
tcp_of (t ∷ c ∷ p ∷ colon ∷ address) =
    if bytes_eq (t ∷ c ∷ p ∷ colon ∷ []) (codes "tcp:") then address_of address else None
tcp_of _ = None
