-- What `serve` hands back: the journal's area, the shelf and the links of a gateway that served, and what it wrote.
use Rattle.std.specs.Prelude.{◌≡◌, ℕ, ◌<◌, IsTrue, List, [], ◌∷◌, ◌++◌, All, IfSome, Option, None, Some}
use Rattle.area_disk.specs.Disk.{Rose}
use Rattle.area_disk.specs.declared.area.Area as areas
use Rattle.cdr_shelf.specs.Files.{SealedFile, in_stream}
use Rattle.cdr_shelf.specs.declared.shelf.Shelf as shelves
use Rattle.file_writer.specs.Files.{stream_files}
use Rattle.file_writer.specs.Holding.{IsBegun}
use Rattle.file_writer.specs.Streams.{Settings, stream_count}
use Rattle.gate_journal.specs.Format.{header}
use Rattle.gate_journal.specs.Moments.{Told}
use Rattle.gateway_answer.specs.Answered.{entry_by, no_caller}
use Rattle.gateway_answer.specs.FitHistory.{StandsFitFor}
use Rattle.gateway_answer.specs.Items.{items_of}
use Rattle.gateway_book.specs.Opened.{StandsOrStarts}
use Rattle.gateway_answer.specs.Value.{standing_for}
use Rattle.gw_base.specs.Owes.{Begins}
use Rattle.gw_base.specs.declared.address.Addr.{Addr}
use Rattle.gw_base.specs.declared.history.HistoryAct.TheVariants as act
use Rattle.gw_base.specs.declared.history.HistoryEntry.{HistoryEntry}
use Rattle.net_link.specs.Datagrams.{Datagram}
use Rattle.net_link.specs.Making.{GrowsBy, LinksState}
use Rattle.node_session.specs.Writing.{none_closed, none_stood}
use Rattle.replay_gateway.specs.GatewayReport.{counts_line}
use Rattle.replay_gateway.specs.AtRest.{AreShut}
use Rattle.replay_gateway.specs.Setup.{Setup}
use Rattle.session_run.specs.History.{AnswerInTurn, IsReply, ReplyInTurn}
use Rattle.session_run.specs.Latest.{Jobs, latest_of}
use Rattle.turn_cell.specs.Placed.{placed}
use Rattle.cgf_service.specs.Serving.{address_in}
use Rattle.cgf_service.specs.declared.serving.Serving.{Serving}

-- there is at most this entry
abbrev pub IsAtMost : HistoryEntry → List HistoryEntry → Type 0
IsAtMost entry entries = Begins entries (entry ∷ [])

-- the moment of a Close behind jobs of which this is the latest moment
abbrev pub moment_of : Option ℕ → ℕ
moment_of None = 0
moment_of (Some moment) = moment

-- A history is another with at most the Start of the opening behind it, then entries that answer datagrams in turn, and
-- then at most one Close, of the latest moment of the jobs that were made of these. No session made the Start or the
-- Close.
pub record HasGrown (size : ℕ) (heard : Option (List Datagram)) (start history : List HistoryEntry) : Type 0 where
  pub opened : List HistoryEntry
  pub answered : List HistoryEntry
  pub closed : List HistoryEntry
  pub whole : history ≡ ((start ++ opened) ++ answered) ++ closed
  pub one_start : IsAtMost (entry_by start 0 no_caller act.Start) opened
  pub jobs : Jobs
  pub answers : AnswerInTurn size heard jobs (placed (start ++ opened) answered)
  pub one_close : IsAtMost
      (entry_by ((start ++ opened) ++ answered) (moment_of (latest_of jobs)) no_caller act.Close) closed

-- the settings of the files of a gateway that serves, by those of its script
abbrev pub files_at : Serving → Setup → Settings
files_at of s = record {
  rules = s.rules;
  limits = s.limits;
  profile = s.profile;
  file = record { offset = s.offset; address = of.ip };
}

-- Of each of the sixteen streams the first ones of the files stand that a history closes, and no others.
abbrev pub HasFirstFiles : Settings → List HistoryEntry → List SealedFile → Type 0
HasFirstFiles settings h sealed = IsBegun settings none_closed none_stood (items_of h) sealed

-- Of each of the sixteen streams just the files stand that a history closes.
abbrev pub HasAllFiles : Settings → List HistoryEntry → List SealedFile → Type 0
HasAllFiles settings h sealed =
    (s : ℕ) → s < stream_count → in_stream s sealed ≡ stream_files settings s (items_of h)

-- What was sent from an address since, where that is told, are replies to datagrams that it received, one to each at most
-- and in turn. They rest on a history on so many octets, or tell that the device failed, whose count of faults rose.
pub record HasReplied (size : ℕ) (history : List HistoryEntry) (before now : ℕ) (at : Addr) (links links' : LinksState)
    : Type 0 where
  pub sent : Option (List Datagram)
  pub is_sent : GrowsBy (links.sent at) sent (links'.sent at)
  pub each : IfSome sent (All (IsReply (links'.received at) size history before now))
  pub in_turn : ReplyInTurn size history before now (links'.received at) sent

-- the header of the journal on this area of a gateway at this address
abbrev pub header_at : {A : Type 0} (tells : areas.Ghosts A) → A → ℕ → List ℕ
header_at tells area ip = header (tells.size area) ip 0

module _ {A : Type 0} (tells : areas.Ghosts A) (of : Serving) (area area' : A) (links links' : LinksState) where
  -- The area handed in stood for a history, or started, and had none; the one handed back stands for one that has grown
  -- from it, now and after any crash. What was sent are replies that rest on it, and no record of it stands in a file
  -- that is open.
  pub record LeavesClosed (history : List HistoryEntry) : Type 0 where
    pub start : List HistoryEntry
    pub found : StandsOrStarts (header_at tells area of.ip) (tells.octets area) start
    pub stands : StandsFitFor (header_at tells area of.ip) (tells.octets area') history
    pub crash : (c : List ℕ) → tells.may_leave area' c → StandsFitFor (header_at tells area of.ip) c history
    pub grown : HasGrown (tells.size area) (links'.received (address_in of)) start history
    pub replies : HasReplied (tells.size area) history (tells.faults area) (tells.faults area') (address_in of) links links'
    pub shut : AreShut (items_of history)

  -- The area was the gateway's own, and where its device didn't fail the gateway was settled.
  abbrev pub SettlesStill : Type 0
  SettlesStill = Told tells →
      ((start : List HistoryEntry) × StandsOrStarts (header_at tells area of.ip) (tells.octets area) start)
      × (¬ (Rose (tells.faults area) (tells.faults area')) → (history : List HistoryEntry) × LeavesClosed history)

module _ {A F : Type 0} (tells : areas.Ghosts A) (files : shelves.Ghosts F) (of : Serving) (setup : Setup)
    (area area' : A) (shelf shelf' : F) (links links' : LinksState) where
  -- The gateway was settled. Where the shelf had the first ones of the files that the handed-in history closes, it has
  -- just those that this one closes; and these have all records of the history.
  pub record HasServed (history : List HistoryEntry) : Type 0 where
    pub closed : LeavesClosed tells of area area' links links' history
    pub sealed : IsTrue files.tells_files → HasFirstFiles (files_at of setup) closed.start (files.files shelf)
        → HasAllFiles (files_at of setup) history (files.files shelf')

-- An area stands for a history, or starts, and it has none; so it does after any crash.
pub record HoldsHistory {A : Type 0} (tells : areas.Ghosts A) (name : List ℕ) (area : A) (h : List HistoryEntry) : Type 0 where
  pub now : StandsOrStarts name (tells.octets area) h
  pub crash : (c : List ℕ) → tells.may_leave area c → StandsOrStarts name c h

module _ {A : Type 0} (tells : areas.Ghosts A) (of : Serving) (area area' : A) (links links' : LinksState) where
  -- These octets stand for a history that begins with this one, or start, where it has no entry. Each datagram that was
  -- sent is a reply that rests on the history for which they stand.
  pub record GoesOnIn (start : List HistoryEntry) (octets : List ℕ) : Type 0 where
    pub history : List HistoryEntry
    pub stands : StandsOrStarts (header_at tells area of.ip) octets history
    pub begins : Begins start history
    pub replies : HasReplied (tells.size area) history (tells.faults area) (tells.faults area') (address_in of) links links'

  -- A history goes on in the area that is handed back, and in what any crash leaves of it.
  pub record KeepsHistory (start : List HistoryEntry) : Type 0 where
    pub now : GoesOnIn start (tells.octets area')
    pub crash : (c : List ℕ) → tells.may_leave area' c → GoesOnIn start c

  -- Nothing is lost, however the gateway ends: neither the history that the area held, nor what was answered.
  abbrev pub LosesNothing : Type 0
  LosesNothing = Told tells → (start : List HistoryEntry) → HoldsHistory tells (header_at tells area of.ip) area start
      → KeepsHistory start

-- what is written of a history: its counts
abbrev pub served_line : List HistoryEntry → List ℕ
served_line history = counts_line 0 (standing_for history)
