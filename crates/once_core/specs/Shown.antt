-- What a world is by what its messages mean: its gateways, what its nodes did, and the requests and answers among all
-- messages ever sent.
use Rattle.std.specs.Prelude.{◌≡◌, ℕ, ◌-◌, Bool, true, false, List, [], ◌∷◌, ◌++◌, Contains, slice_get}
use Rattle.std.specs.List.{flat_map}
use Rattle.std.specs.Option.{option_map_or}
use Rattle.gtpp_message.specs.Packet.{PacketForm}
use Rattle.node_core.specs.Drafts.{value_octets}
use Rattle.node_core.specs.Log.{LogEntry, Submitted}
use Rattle.once_core.specs.Addresses.{node_ip}
use Rattle.once_core.specs.Deeds.{deeds_of}
use Rattle.once_core.specs.Gateway.{Gateway}
use Rattle.once_core.specs.Happenings.{Happening, Post, Scene}
use Rattle.once_core.specs.Happenings as did
use Rattle.once_core.specs.Meaning.{letter_of, speaks}
use Rattle.once_core.specs.Scenes.{scene_after}
use Rattle.once_core.specs.World.{World, log_at}
use Rattle.once_core.specs.declared.message.Message.{Message}
use Rattle.once_core.specs.declared.message.Waiting.{Waiting}

-- the answers among the messages that wait; the others mean nothing here
abbrev pub waiting_if : Bool → Waiting → List did.WaitingLetter
waiting_if true w = record { front = w.front; letter = letter_of w.message } ∷ []
waiting_if false w = []

abbrev pub waiting_letters : List Waiting → List did.WaitingLetter
waiting_letters waiting = flat_map (λ (w : Waiting). waiting_if (speaks w.message) w) waiting

abbrev pub post_of : Gateway → Post
post_of g = record { firm = g.book.firm; rest = g.book.rest; waiting = waiting_letters g.waiting }

-- the gateway in this place, and nothing where there is none
abbrev pub post_at : World → ℕ → Post
post_at w place = option_map_or post_of (slice_get w.gateways place) (record { firm = []; rest = []; waiting = [] })

-- all packets that were submitted to a node over all its starts, in order, and the octets of each by its number
abbrev pub forms_ever : List LogEntry → List PacketForm
forms_ever [] = []
forms_ever (Submitted form ∷ log) = forms_ever log ++ form ∷ []
forms_ever (_ ∷ log) = forms_ever log

abbrev pub values_of : List LogEntry → ℕ → List ℕ
values_of log number = option_map_or value_octets (slice_get (forms_ever log) (number - 1)) []

-- A scene shows a world, where packets have these octets: the gateways are the same, the nodes did what their logs say,
-- and each request and each answer among the messages was sent.
pub record Shows (values : ℕ → ℕ → List ℕ) (w : World) (scene : Scene) : Type 0 where
  pub posts : (place : ℕ) → scene.posts place ≡ post_at w place
  pub deeds : (place : ℕ) → scene.deeds (node_ip place) ≡ deeds_of (node_ip place) (values place) (log_at w place)
  pub letters : (m : Message) → Contains w.messages m → speaks m ≡ true → Contains scene.letters (letter_of m)

-- some happenings make the world what it is
pub record IsMade (w : World) : Type 0 where
  pub happenings : List Happening
  pub shows : Shows (λ place. values_of (log_at w place)) w (scene_after happenings)
