-- What `serve` is asked for: `serve IP PORT TURNS LENGTH AREA FOLDER`.
use Rattle.std.specs.Prelude.{ℕ, ◌≤◌, ◌||◌, ◌^◌, if◌then◌else◌, List, [], ◌∷◌, Option, Some, None, option_map, codes}
use Rattle.std.specs.Str.{bytes_eq}
use Rattle.gate_journal.specs.Format.{fewest_octets, most_octets}
use Rattle.gw_base.specs.declared.address.Addr.{Addr}
use Rattle.route_filter.specs.Words.{number_up_to, ◌>>=◌}
use Rattle.world_script.specs.Values.{ip_of, number_between}
use Rattle.cgf_jobs.specs.Words.{is_option}
use Rattle.cgf_service.specs.declared.serving.ServePlaces.{ServePlaces}
use Rattle.cgf_service.specs.declared.serving.Serving.{Serving}

-- the most turns that a gateway may be asked to serve for
abbrev pub most_turns : ℕ
most_turns = 2 ^ 40

-- what these numbers say, where each is one in its range
abbrev pub serving_by : List ℕ → List ℕ → List ℕ → List ℕ → Option Serving
serving_by ip port turns length = do
  i ← ip_of ip
  p ← number_up_to 65535 port
  t ← number_between 1 most_turns turns
  l ← number_between fewest_octets most_octets length
  Some (record { ip = i; port = p; turns = t; length = l })

-- what the words ask, where they are those of `serve`: its name, its numbers and two paths, which are no options
abbrev pub serving_of : List (List ℕ) → Option Serving
serving_of (name ∷ ip ∷ port ∷ turns ∷ length ∷ area ∷ folder ∷ []) =
    if is_option area || is_option folder then None
    else if bytes_eq name (codes "serve") then serving_by ip port turns length
    else None
serving_of _ = None

-- the address that a gateway serves at
abbrev pub address_in : Serving → Addr
address_in of = record { ip = of.ip; port = of.port }

-- Which numbers are in their ranges.
pub record IsServingWithin (of : Serving) : Type 0 where
  pub some : 1 ≤ of.turns
  pub most : of.turns ≤ most_turns
  pub long : fewest_octets ≤ of.length
  pub short : of.length ≤ most_octets

-- The outside of a gateway that serves: the length of its journal's area, the path of the area's file, and that of the
-- folder of its files.
pub record ServePlacesValue : Type 0 where
  pub length : ℕ
  pub area : List ℕ
  pub folder : List ℕ

abbrev pub serve_places_in : List (List ℕ) → Serving → ServePlacesValue
serve_places_in (name ∷ ip ∷ port ∷ turns ∷ length ∷ area ∷ folder ∷ words) of =
    record { length = of.length; area = area; folder = folder }
serve_places_in words of = record { length = of.length; area = []; folder = [] }

-- the outside that the words ask for, where they are those of `serve`
abbrev pub serve_places_of : List (List ℕ) → Option ServePlacesValue
serve_places_of words = option_map (serve_places_in words) (serving_of words)

abbrev pub serve_places_seen : Option ServePlaces → Option ServePlacesValue
serve_places_seen found = option_map (λ p. record { length = p.length; area = p.area.now; folder = p.folder.now }) found
