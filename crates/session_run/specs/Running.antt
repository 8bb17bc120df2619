-- What a gateway that served hands back.
use Rattle.std.specs.Prelude.{◌≡◌, ◌⊎◌, ℕ, ◌≤◌, ◌<◌, ◌^◌, List, [], ◌∷◌, All, Option, None, Some, IfSome, length, ⊤}
use Rattle.gw_base.specs.Facts.{Facts}
use Rattle.gw_base.specs.Faults.{Rose}
use Rattle.gw_base.specs.declared.address.Addr.{Addr}
use Rattle.net_link.specs.Datagrams.{Datagram, IsEmpty, IsNewAt, LinkState, joined}
use Rattle.net_link.specs.declared.link.Link.{Ghosts}
use Rattle.session_run.specs.Desks.{HearsNothing}
use Rattle.session_run.specs.History.{IsReply, ReplyInTurn}
use Rattle.session_run.specs.declared.stop.Stop.{Stop}
use Rattle.session_run.specs.declared.stop.Stop.TheVariants as stop
use Rattle.session_run.specs.declared.until.Until.{Until}
use Rattle.session_run.specs.declared.until.Until.TheVariants as until

-- a gateway has a link to receive by, and one for each of four sessions
abbrev pub link_count : ℕ
link_count = 5

-- of turns that are counted there are few enough
abbrev pub IsFew : Until → Type 0
IsFew (until.Turns n) = n < 2 ^ 63
IsFew (until.QuietAfter count all) = ⊤

-- what stays of a book that served: its size and its name, and the count of faults doesn't fall
pub record StaysAs (start now : Facts) : Type 0 where
  pub size : now.size ≡ start.size
  pub name : now.name ≡ start.name
  pub later : start.faults ≤ now.faults

-- it holds of one of a list
abbrev pub AnyOf : {X : Type 0} → (X → Type 0) → List X → Type 0
AnyOf P [] = ⊥
AnyOf P (x ∷ xs) = P x ⊎ AnyOf P xs

-- a link of the address that has sent nothing
pub record IsReceiverAt (at : Addr) (link : LinkState) : Type 0 where
  pub address : link.address ≡ at
  pub sent : IsEmpty link.sent

module _ {L : Type 0} (tells : Ghosts L) where
  -- five new links of an address
  pub record AreNewAt (at : Addr) (links : List L) : Type 0 where
    pub count : length links ≡ link_count
    pub new : All (λ link. IsNewAt at (tells.state link)) links

  -- what the first link tells that it received, and how many turns it took
  abbrev pub heard_by : List L → Option (List Datagram)
  heard_by [] = None
  heard_by (link ∷ links) = (tells.state link).received

  abbrev pub turns_by : List L → ℕ
  turns_by [] = 0
  turns_by (link ∷ links) = (tells.state link).turns

  -- the first link took no more turns than so many, and unless something stopped it all of them
  abbrev pub TakesAtMost : List L → Option Stop → ℕ → Type 0
  TakesAtMost links stops n = (turns_by links ≤ n) × (stops ≡ None → turns_by links ≡ n)

  -- five links of the address: the first has sent nothing, and the others have taken no turn and heard nothing
  abbrev pub AreFiveOf : Addr → List L → Type 0
  AreFiveOf at [] = ⊥
  AreFiveOf at (link ∷ links) = (length links ≡ 4) × IsReceiverAt at (tells.state link)
      × All (λ other. HearsNothing at (tells.state other)) links

  -- what each of the links tells that it sent are replies
  abbrev pub AreReplies : Option (List Datagram) → Facts → Facts → List L → Type 0
  AreReplies heard start now links =
      All (λ link. IfSome (tells.state link).sent (All (IsReply heard start.size now.firm start.faults now.faults))) links

  -- what the links tell that they sent, all together, the first of them last
  abbrev pub sent_by : List L → Option (List Datagram)
  sent_by [] = Some []
  sent_by (link ∷ links) = joined (sent_by links) (tells.state link).sent

  -- Each of the links sent replies alone, and all together they replied in turn.
  pub record HaveReplied (heard : Option (List Datagram)) (start now : Facts) (links : List L) : Type 0 where
    pub each : AreReplies heard start now links
    pub in_turn : ReplyInTurn start.size now.firm start.faults now.faults heard (sent_by links)

  -- the count of a link's faults rose since it was made
  abbrev pub HasFailed : L → Type 0
  HasFailed link = Rose 0 (tells.state link).faults

  -- none of the links failed since it was made
  abbrev pub NoneFailed : List L → Type 0
  NoneFailed links = All (λ link. (tells.state link).faults ≡ 0) links

  -- why it stopped: a link that failed, the clock, whose count rose, or want of memory; where nothing stopped it,
  -- neither the clock nor a link failed
  abbrev pub HasStopCause : ℕ → ℕ → List L → Option Stop → Type 0
  HasStopCause clock_old clock_new links None = (clock_new ≡ clock_old) × NoneFailed links
  HasStopCause clock_old clock_new links (Some stop.Link) = AnyOf HasFailed links
  HasStopCause clock_old clock_new links (Some stop.Clock) = Rose clock_old clock_new
  HasStopCause clock_old clock_new links (Some stop.NoMemory) = ⊤
