-- Words for the code of a gateway that serves. No contract of a public call cites them.
use Rattle.std.specs.Prelude.{◌≡◌, ◌≢◌, ◌⊎◌, ℕ, ◌+◌, ◌≤◌, List, Option, Some, None, IfErr, IfOk, Result, Ok, Err, ⊤}
use Rattle.std.specs.Io.KnownBytes.{Appends}
use Rattle.area_disk.specs.Disk as disk
use Rattle.area_disk.specs.declared.area.Area as areas
use Rattle.cdr_shelf.specs.declared.shelf.Shelf as shelves
use Rattle.file_writer.specs.Writer.{settings_in, shelf_of}
use Rattle.file_writer.specs.declared.writer.Writer.{Writer}
use Rattle.gate_journal.specs.Moments.{Told}
use Rattle.gateway_book.specs.Book.{Stays, area_of, size_of, value_of}
use Rattle.gateway_answer.specs.Answered.{no_caller}
use Rattle.gateway_book.specs.Opened.{IsNotOurs}
use Rattle.gateway_book.specs.Turning.{facts_of, tells_lists}
use Rattle.gateway_book.specs.declared.book.Book.{Book}
use Rattle.gateway_book.specs.declared.outcome.BookFault.{BookFault}
use Rattle.gateway_book.specs.declared.outcome.BookFault.TheVariants as of_book
use Rattle.gw_base.specs.Facts.{WhereTold}
use Rattle.gw_base.specs.Faults.{Rose}
use Rattle.gw_base.specs.Written.{AppendsFront}
use Rattle.net_link.specs.Making.{Keeps, LinksState}
use Rattle.node_session.specs.Settling.{Grows, HasTakenAll, IsSettled}
use Rattle.node_session.specs.Writing.{KeepsFiles}
use Rattle.replay_gateway.specs.Settings.{AreSet, AreSound}
use Rattle.replay_gateway.specs.Setup.{Setup, setup_of}
use Rattle.session_run.specs.Filing.{KeepsWriter}
use Rattle.session_run.specs.History.{GoesOnUntil}
use Rattle.session_run.specs.Running.{StaysAs}
use Rattle.session_run.specs.declared.stop.Stop.TheVariants as stop
use Rattle.world_script.specs.Script.{Refusal, most_text, script_in}
use Rattle.world_script.specs.declared.kind.ScriptKind.TheVariants as kind
use Rattle.world_script.specs.declared.line.Line.{Line}
use Rattle.cgf_jobs.specs.Kinds.{of_line}
use Rattle.cgf_service.specs.Linked.{StandStill, UsesLinks}
use Rattle.cgf_jobs.specs.Run.{IsRead}
use Rattle.cgf_service.specs.Served.{HasReplied, header_at, moment_of, served_line}
use Rattle.cgf_service.specs.Serving.{address_in}
use Rattle.cgf_service.specs.declared.serve.FileSettings.{FileSettings}
use Rattle.cgf_service.specs.declared.serving.Serving.{Serving}
use Rattle.cgf_service.specs.declared.settling.Service.{Service}
use Rattle.cgf_jobs.specs.declared.status.Status.{Status}
use Rattle.cgf_jobs.specs.declared.status.Status.TheVariants as status
use Rattle.cgf_jobs.specs.declared.status.StoreFault.TheVariants as fault

-- Settings.

-- these are the settings of a setup
pub record AreOf (setup : Setup) (by : FileSettings) : Type 0 where
  pub set : AreSet setup by.settings
  pub rules : setup.rules ≡ by.rules
  pub sound : AreSound by.settings

-- the lines of a text set them
abbrev pub IsSetBy : List ℕ → FileSettings → Type 0
IsSetBy text by = (lines : List Line) × (script_in kind.Serve text ≡ Ok lines) × AreOf (setup_of lines) by

-- the grammar refuses a line of the text, or there is no memory
abbrev pub RefusesText : List ℕ → Status → Type 0
RefusesText text ended = (ended ≡ status.Memory) ⊎ ((refusal : Refusal)
    × (script_in kind.Serve text ≡ Err refusal) × (ended ≡ status.Input refusal.place (of_line refusal.kind)))

-- the source failed, or what was read of it is refused
abbrev pub RefusesSettings : Option (List ℕ) → Option (List ℕ) → Status → Type 0
RefusesSettings left rest ended = (ended ≡ status.Read) ⊎ ((ended ≡ status.Memory)
    ⊎ ((text : List ℕ) × IsRead (most_text + 1) left rest text × RefusesText text ended))

-- the count of the source's faults rose where it ends as `Read`, and nowhere else
abbrev pub CausesRead : {X : Type 0} → ℕ → ℕ → Result X Status → Type 0
CausesRead before after result = (result ≡ Err status.Read → Rose before after)
    × (result ≢ Err status.Read → after ≡ before)

-- a line is written, or a front of it, and then the sink has failed
abbrev pub WritesLine : List ℕ → Option (List ℕ) → Option (List ℕ) → ℕ → ℕ → Status → Type 0
WritesLine line before after faults faults' ended =
    ((ended ≡ status.Done) × Appends before after line × (faults' ≡ faults))
    ⊎ ((ended ≡ status.Write) × AppendsFront before after line × Rose faults faults')

-- A gateway.

abbrev pub status_by : BookFault → Status
status_by of_book.Device = status.Store fault.Device
status_by (of_book.NotOurs at) = status.Store (fault.NotOurs at)
status_by of_book.NoMemory = status.Memory

-- a read of the book failed, as the count of its device shows, or there was no memory
abbrev pub FailsBy : {A : Type 0} (tells : areas.Ghosts A) → Book A tells → Book A tells → Status → Type 0
FailsBy tells old new ended = (ended ≡ status.Memory)
    ⊎ ((ended ≡ status.Store fault.Device) × disk.Rose (tells.faults (area_of old)) (tells.faults (area_of new)))

module _ {A F : Type 0} (tells : areas.Ghosts A) (files : shelves.Ghosts F) where
  -- A gateway served, and what it served with came back.
  pub record HasServedAt (of : Serving) (book book' : Book A tells) (writer writer' : Writer F files)
      (links links' : LinksState) (clock clock' : ℕ) (service : Service) : Type 0 where
    pub goes_on : WhereTold (tells_lists tells)
        (GoesOnUntil (links'.received (address_in of)) (facts_of book) (facts_of book') service.last)
    pub replies : WhereTold (tells_lists tells) (HasReplied (size_of book) (value_of book').firm
        (tells.faults (area_of book)) (tells.faults (area_of book')) (address_in of) links links')
    pub stays : StaysAs (facts_of book) (facts_of book')
    pub kept : KeepsWriter files (tells_lists tells) (value_of book').firm writer writer'
    pub turns : service.stop ≡ None → links'.turns (address_in of) ≡ links.turns (address_in of) + of.turns
    pub uses : UsesLinks of links links'
    pub later : (links.faults ≤ links'.faults) × (clock ≤ clock')
    pub link : service.stop ≡ Some stop.Link → Rose links.faults links'.faults
    pub time : service.stop ≡ Some stop.Clock → Rose clock clock'
    pub link_stood : service.stop ≡ None → links'.faults ≡ links.faults
    pub time_stood : service.stop ≡ None → clock' ≡ clock

  -- A gateway was settled behind its service, and the line is that of its history: all of it is firm, and its writer has
  -- taken all its items.
  pub record HasLine (service : Service) (book book' : Book A tells) (writer' : Writer F files) (line : List ℕ)
      : Type 0 where
    pub runs : service.stop ≡ None
    pub settled : IsSettled book book' (moment_of service.last) no_caller
    pub line_is : Told tells → line ≡ served_line (value_of book').firm
    pub taken : Told tells → HasTakenAll (value_of book').firm writer'

  -- Why there is no line: what stopped the service, a device that failed as the gateway settled, or want of memory.
  abbrev pub HasNoLine : Service → Book A tells → Book A tells → Writer F files → Writer F files → Status → Type 0
  HasNoLine service book book' writer writer' status.Link =
      (service.stop ≡ Some stop.Link) ⊎ (service.stop ≡ Some stop.Clock)
  HasNoLine service book book' writer writer' (status.Store fault.Device) = (service.stop ≡ None)
      × (disk.Rose (tells.faults (area_of book)) (tells.faults (area_of book'))
      ⊎ disk.Rose (files.faults (shelf_of writer)) (files.faults (shelf_of writer')))
  HasNoLine service book book' writer writer' status.Memory = ⊤
  HasNoLine service book book' writer writer' _ = ⊥

  pub record HasSettledAll {X : Type 0} (octets : X → List ℕ) (service : Service) (book book' : Book A tells)
      (writer writer' : Writer F files) (result : Result X Status) : Type 0 where
    pub stays : Stays book book' × (settings_in writer' ≡ settings_in writer)
    pub grows : Grows book book'
    pub later : (tells.faults (area_of book) ≤ tells.faults (area_of book'))
        × (files.faults (shelf_of writer) ≤ files.faults (shelf_of writer'))
    pub files_stay : WhereTold (tells_lists tells) (KeepsFiles files (value_of book').firm writer writer')
    pub ok : IfOk result (λ line. HasLine service book book' writer' (octets line))
    pub err : IfErr result (HasNoLine service book book' writer writer')

-- How a job ends whose gateway has no line to write.
module _ {A F : Type 0} (tells : areas.Ghosts A) (files : shelves.Ghosts F) (of : Serving) (area area' : A)
    (shelf shelf' : F) (links links' : LinksState) (clock clock' : ℕ) where
  abbrev pub StopsServing : Status → Type 0
  StopsServing (status.Store fault.Device) = StandStill links links' clock clock'
      × (disk.Rose (tells.faults area) (tells.faults area') ⊎ disk.Rose (files.faults shelf) (files.faults shelf'))
  StopsServing (status.Store (fault.NotOurs at)) = Keeps links links' × StandStill links links' clock clock'
      × (files.files shelf' ≡ files.files shelf) × (Told tells →
      IsNotOurs (header_at tells area of.ip) (tells.octets area) at × (tells.octets area' ≡ tells.octets area))
  StopsServing status.Link = Rose links.faults links'.faults ⊎ Rose clock clock'
  StopsServing status.Memory = ⊤
  StopsServing _ = ⊥

  -- no count falls, the area keeps its length, and no more turns are taken than were asked for
  pub record NeverFalls : Type 0 where
    pub device : tells.faults area ≤ tells.faults area'
    pub shelf_too : files.faults shelf ≤ files.faults shelf'
    pub link : links.faults ≤ links'.faults
    pub time : clock ≤ clock'
    pub size : tells.size area' ≡ tells.size area
    pub uses : UsesLinks of links links'

-- an area that is another's is refused at its place, unless its device fails or memory runs out
abbrev pub RefusesAsForeign : {A X : Type 0} (tells : areas.Ghosts A) → Serving → A → Result X Status → Type 0
RefusesAsForeign tells of area result = (at : ℕ) → IsNotOurs (header_at tells area of.ip) (tells.octets area) at
    → (result ≡ Err (status.Store (fault.NotOurs at)))
    ⊎ ((result ≡ Err (status.Store fault.Device)) ⊎ (result ≡ Err status.Memory))
