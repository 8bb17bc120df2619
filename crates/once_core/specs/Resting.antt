-- What the entries of a gateway's history and its answers rest on.
use Rattle.std.specs.Prelude.{◌≡◌, ℕ, ◌<◌, true, false, Contains, List, [], ◌∷◌, Some}
use Rattle.gw_base.specs.History.{present_state, state_of}
use Rattle.gw_base.specs.Starts.{start_of}
use Rattle.gw_base.specs.declared.history.HistoryAct.{HistoryAct}
use Rattle.gw_base.specs.declared.history.HistoryAct.TheVariants.{Path, File, Hold, Seal, Release, Cancel}
use Rattle.gw_base.specs.declared.history.HistoryEntry.{HistoryEntry}
use Rattle.gw_base.specs.declared.cause.TheConstants.{ACCEPTED, ALREADY_FULFILLED}
use Rattle.gw_base.specs.declared.key_state.KeyState.{KeyState}
use Rattle.gw_base.specs.declared.key_state.KeyState.TheVariants.{Fresh, Filed, Sealed, Held, Released}
use Rattle.gateway_answer.specs.Fit.{is_fresh}
use Rattle.node_core.specs.Copies.{is_filing, is_fulfilled}
use Rattle.node_core.specs.declared.copy.Order.TheVariants as order
use Rattle.node_core.specs.declared.port.Port.{Port}
use Rattle.once_core.specs.Epochs.{EachBehind, epoch_with, key_in}
use Rattle.once_core.specs.Happenings.{Answers, Asks, Deed, Else, Heard, Letter, Meaning, Orders, Post, Request, Scene, Sends, Sent, Tests, WaitingLetter, about, history}
use Rattle.once_core.specs.Scenes.{is_answer, is_telling}

-- a request of a node in a start to a gateway is among these messages
pub record IsAsked (letters : List Letter) (node start gateway number : ℕ) (request : Request) : Type 0 where
  pub port : Port
  pub kept : Contains letters
      (record { node = node; start = start; gateway = gateway; port = port; number = number; says = Asks request })

-- a list names one number, which is held
pub record NamesHeld (node : ℕ) (before : List HistoryEntry) (numbers : List ℕ) : Type 0 where
  pub number : ℕ
  pub alone : numbers ≡ number ∷ []
  pub held : present_state node number before ≡ Held

-- it is released by a request with a number of its own
pub record IsReleased (letters : List Letter) (gateway node : ℕ) (before : List HistoryEntry) (numbers : List ℕ) : Type 0 where
  pub names : NamesHeld node before numbers
  pub own : ℕ
  pub asked : IsAsked letters node (start_of node before) gateway own (Orders order.Release names.number)

-- an act behind these entries keeps to the table of answers, and the request for it is among the messages; the starts of
-- a node rise
abbrev pub RestsBy : List Letter → ℕ → List HistoryEntry → HistoryAct → Type 0
RestsBy letters gateway before (Path n port counter) = start_of n.0 before < counter
RestsBy letters gateway before (File n x packet) =
    (present_state n.0 x before ≡ Fresh) × IsAsked letters n.0 (start_of n.0 before) gateway x (Sends true packet)
RestsBy letters gateway before (Hold n x packet) =
    (present_state n.0 x before ≡ Fresh) × IsAsked letters n.0 (start_of n.0 before) gateway x (Sends false packet)
RestsBy letters gateway before (Seal n x) =
    (present_state n.0 x before ≡ Fresh) × IsAsked letters n.0 (start_of n.0 before) gateway x Tests
RestsBy letters gateway before (Release n xs) = IsReleased letters gateway n.0 before xs
RestsBy letters gateway before (Cancel n xs) = NamesHeld n.0 before xs
RestsBy letters gateway before _ = Unit {0}

-- each entry of a history does
abbrev pub Rests : List Letter → ℕ → List HistoryEntry → Type 0
Rests letters gateway h = EachBehind (λ before e. RestsBy letters gateway before e.act) [] h

-- a node's number has a state in the epoch with a start
pub record IsState (h : List HistoryEntry) (node start number : ℕ) (state : KeyState) : Type 0 where
  pub epoch : ℕ
  pub begun : epoch_with node start h ≡ Some epoch
  pub state_is : state_of (key_in node number epoch) h ≡ state

-- a node's number isn't fresh in the epoch with a start
pub record IsKnown (h : List HistoryEntry) (node start number : ℕ) : Type 0 where
  pub epoch : ℕ
  pub begun : epoch_with node start h ≡ Some epoch
  pub state_is : is_fresh (state_of (key_in node number epoch) h) ≡ false

-- what an answer of this cause to a request means: of a plain copy that it is filed; of a test the same, or that the number
-- is sealed; of a release that the copy is released. All else is of no use here.
abbrev pub Tells : List HistoryEntry → Letter → Request → ℕ → Type 0
Tells h letter (Sends true packet) cause =
    is_filing cause ≡ true → IsState h letter.node letter.start letter.number Filed
Tells h letter (Sends false packet) cause = Unit {0}
Tells h letter Tests cause =
    (cause ≡ ALREADY_FULFILLED → IsState h letter.node letter.start letter.number Filed)
    × (cause ≡ ACCEPTED → IsState h letter.node letter.start letter.number Sealed)
Tells h letter (Orders order.Release named) cause =
    is_fulfilled cause ≡ true → IsState h letter.node letter.start named Released
Tells h letter (Orders order.Cancel named) cause = Unit {0}

-- the request that an answer answers, which is among the messages, and what the answer means of it; the number that the
-- request is about is fresh no more
pub record IsAnswerTo (letters : List Letter) (h : List HistoryEntry) (letter : Letter) (cause : ℕ) : Type 0 where
  pub request : Request
  pub asked : Contains letters (record letter { says = Asks request })
  pub tells : Tells h letter request cause
  pub known : IsKnown h letter.node letter.start (about request letter.number)

-- what an answer tells a node of a copy is so in this history
abbrev pub IsBorneOut : List Letter → List HistoryEntry → Letter → Meaning → Type 0
IsBorneOut letters h letter (Asks request) = Unit {0}
IsBorneOut letters h letter (Answers cause) = is_telling cause ≡ true → IsAnswerTo letters h letter cause
IsBorneOut letters h letter Else = Unit {0}

-- a request was sent by its node
abbrev pub IsSent : (ℕ → List Deed) → Letter → Meaning → Type 0
IsSent deeds letter (Asks request) = Contains (deeds letter.node) (Sent letter)
IsSent deeds letter (Answers cause) = Unit {0}
IsSent deeds letter Else = Unit {0}

-- an answer that waits is the gateway's, and means what it says in the whole history
pub record Waits (letters : List Letter) (gateway : ℕ) (h : List HistoryEntry) (letter : Letter) : Type 0 where
  pub gateway_is : letter.gateway ≡ gateway
  pub answers : is_answer letter.says ≡ true
  pub told : IsBorneOut letters h letter letter.says

pub record PostHolds (letters : List Letter) (gateway : ℕ) (post : Post) : Type 0 where
  pub rests : Rests letters gateway (history post)
  pub waits : (w : WaitingLetter) → Contains post.waiting w → Waits letters gateway (history post) w.letter

-- What holds of all gateways and nodes, whatever happened: each entry keeps to the table and rests on a message; each
-- answer that was sent means what it says in the firm part of its gateway's history, and one that waits in all of it; each
-- request was sent by its node; and what a node heard was sent.
pub record SceneHolds (scene : Scene) : Type 0 where
  pub posts : (gateway : ℕ) → PostHolds scene.letters gateway (scene.posts gateway)
  pub told : (letter : Letter) → Contains scene.letters letter →
      IsBorneOut scene.letters (scene.posts letter.gateway).firm letter letter.says
  pub sent : (letter : Letter) → Contains scene.letters letter → IsSent scene.deeds letter letter.says
  pub heard : (node : ℕ) (letter : Letter) → Contains (scene.deeds node) (Heard letter) →
      (letter.node ≡ node) × Contains scene.letters letter
