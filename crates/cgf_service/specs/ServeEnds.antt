-- How `serve` ends, and why.
use Rattle.std.specs.Prelude.{◌≡◌, ◌⊎◌, ℕ, ◌+◌, Bool, true, false, List, take, Option, Some, None, Result, Ok, Err, ⊤}
use Rattle.std.specs.Io.KnownBytes.{Appends}
use Rattle.area_disk.specs.Disk as disk
use Rattle.area_disk.specs.declared.area.Area as areas
use Rattle.cdr_shelf.specs.declared.shelf.Shelf as shelves
use Rattle.gate_journal.specs.Moments.{Told}
use Rattle.gateway_book.specs.Opened.{IsNotOurs, StandsOrStarts}
use Rattle.gw_base.specs.Faults.{Rose}
use Rattle.gw_base.specs.Written.{AppendsFront}
use Rattle.gw_base.specs.declared.history.HistoryEntry.{HistoryEntry}
use Rattle.net_link.specs.Making.{Keeps, LinksState}
use Rattle.replay_gateway.specs.Setup.{setup_of}
use Rattle.replay_world.specs.declared.replay.Played.{Played}
use Rattle.world_script.specs.Script.{Refusal, most_text, script_in}
use Rattle.world_script.specs.declared.kind.ScriptKind.TheVariants as kind
use Rattle.world_script.specs.declared.line.Line.{Line}
use Rattle.cgf_jobs.specs.Ending.{HasCause}
use Rattle.cgf_jobs.specs.Job.{Job}
use Rattle.cgf_jobs.specs.Kinds.{of_line}
use Rattle.cgf_service.specs.Linked.{StandStill, TakesAllTurns, UsesLinks}
use Rattle.cgf_jobs.specs.Run.{IsRead, TakesUpTo}
use Rattle.cgf_service.specs.Served.{HasServed, LosesNothing, SettlesStill, header_at, served_line}
use Rattle.cgf_service.specs.Shelved.{KeepsShelf}
use Rattle.cgf_jobs.specs.declared.input_kind.InputKind.{InputKind}
use Rattle.cgf_service.specs.declared.serving.Serving.{Serving}
use Rattle.cgf_jobs.specs.declared.status.Status.{Status}
use Rattle.cgf_jobs.specs.declared.status.Status.TheVariants as status
use Rattle.cgf_jobs.specs.declared.status.StoreFault.{StoreFault}
use Rattle.cgf_jobs.specs.declared.status.StoreFault.TheVariants as fault

-- what the settings say decides whether the gateway serves: the first line that the grammar refuses is named
abbrev pub IsRefusedAt : Result (List Line) Refusal → Status → Type 0
IsRefusedAt (Ok lines) ended = ⊥
IsRefusedAt (Err refusal) ended = ended ≡ status.Input refusal.place (of_line refusal.kind)

-- whether a gateway that ends so was opened on its area, or tried to be
abbrev pub may_have_opened : Status → Bool
may_have_opened status.Done = true
may_have_opened status.Words = false
may_have_opened (status.Input place why) = false
may_have_opened status.Read = false
may_have_opened status.Write = true
may_have_opened status.Memory = true
may_have_opened (status.Store why) = true
may_have_opened status.Link = true
may_have_opened (status.Audit packet places wanted) = false
may_have_opened (status.Unfinished turns packet count) = false

-- the ways in which a job ends that serves, or answers a stream
abbrev pub IsGatewayEnd : Status → Type 0
IsGatewayEnd status.Done = ⊤
IsGatewayEnd status.Words = ⊥
IsGatewayEnd (status.Input place why) = ⊤
IsGatewayEnd status.Read = ⊤
IsGatewayEnd status.Write = ⊤
IsGatewayEnd status.Memory = ⊤
IsGatewayEnd (status.Store why) = ⊤
IsGatewayEnd status.Link = ⊤
IsGatewayEnd (status.Audit packet places wanted) = ⊥
IsGatewayEnd (status.Unfinished turns packet count) = ⊥

-- The area, the shelf, the links and the clock are as they were.
pub record IsUntouched {A F L C : Type 0} (area area' : A) (shelf shelf' : F) (links links' : L) (clock clock' : C)
    : Type 0 where
  pub same_area : area' ≡ area
  pub same_shelf : shelf' ≡ shelf
  pub same_links : links' ≡ links
  pub same_clock : clock' ≡ clock

module _ {A F : Type 0} (tells : areas.Ghosts A) (files : shelves.Ghosts F) (of : Serving) (job : Job)
    (area area' : A) (shelf shelf' : F) (links links' : LinksState) (clock clock' : ℕ) (ended : Status) where
  -- The gateway served by the settings that were read, and of the history that its area stands for this was written.
  pub record ServedBy (wrote : List ℕ → Type 0) : Type 0 where
    pub text : List ℕ
    pub read : IsRead (most_text + 1) job.left job.rest text
    pub lines : List Line
    pub settings : script_in kind.Serve text ≡ Ok lines
    pub served : Told tells → (history : List HistoryEntry)
        × HasServed tells files of (setup_of lines) area area' shelf shelf' links links' history
        × wrote (served_line history)

  -- Nothing failed: not the device of the area, that of the shelf, a link, the clock, the source or the sink.
  pub record IsCalm : Type 0 where
    pub device : ¬ (disk.Rose (tells.faults area) (tells.faults area'))
    pub shelf_runs : ¬ (disk.Rose (files.faults shelf) (files.faults shelf'))
    pub link : ¬ (Rose links.faults links'.faults)
    pub time : ¬ (Rose clock clock')
    pub source : ¬ (Rose job.read_before job.read_after)
    pub sink : ¬ (Rose job.written_before job.written_after)

  -- How it ends where nothing fails, by its settings and its area, unless memory runs out.
  abbrev pub EndsBy : Result (List Line) Refusal → Type 0
  EndsBy (Err refusal) =
      (ended ≡ status.Memory) ⊎ (ended ≡ status.Input refusal.place (of_line refusal.kind))
  EndsBy (Ok lines) =
      ((h : List HistoryEntry) → StandsOrStarts (header_at tells area of.ip) (tells.octets area) h →
      (ended ≡ status.Memory) ⊎ (ended ≡ status.Done))
      × ((at : ℕ) → IsNotOurs (header_at tells area of.ip) (tells.octets area) at →
      (ended ≡ status.Memory) ⊎ (ended ≡ status.Store (fault.NotOurs at)))

  -- What a gateway that serves does, as a whole.
  pub record Serves (played : Option Played) : Type 0 where
    -- At `Done` the gateway took so many turns of its link, and the counts of its history are written, and nothing else.
    pub done : ended ≡ status.Done → ServedBy (λ line. Appends job.before job.after line)
        × TakesAllTurns of links links' clock clock'
    -- At `Write` it did too, and a front of these is written.
    pub front : ended ≡ status.Write → ServedBy (λ line. AppendsFront job.before job.after line)
        × TakesAllTurns of links links' clock clock'
    -- However it ends, nothing is lost of the history that its area held, nor of what it answered.
    pub keeps : LosesNothing tells of area area' links links'
    -- So it is of the files, by the settings that are read: the shelf has the first ones of a history that goes on.
    pub shelved : (text : List ℕ) (lines : List Line) → job.left ≡ Some text →
        script_in kind.Serve (take (most_text + 1) text) ≡ Ok lines →
        KeepsShelf tells files of (setup_of lines) area area' shelf shelf'
    -- At `Input` the line is the first of what was read that the grammar of settings refuses.
    pub refused : (place : ℕ) (why : InputKind) → ended ≡ status.Input place why →
        (text : List ℕ) × IsRead (most_text + 1) job.left job.rest text × IsRefusedAt (script_in kind.Serve text) ended
    -- At `Store` and `Link` the settings were read, and the grammar takes them.
    pub accepted : (ended ≡ status.Link) ⊎ ((why : StoreFault) × (ended ≡ status.Store why)) →
        (text : List ℕ) × IsRead (most_text + 1) job.left job.rest text
        × ((lines : List Line) × (script_in kind.Serve text ≡ Ok lines))
    -- At `Store` a device failed, and neither a link nor the clock; or the area is another's, at the place that shows
    -- it. Then it stays as it was, as the files and the links do, and the clock didn't fail.
    pub device : ended ≡ status.Store fault.Device → StandStill links links' clock clock'
        × (disk.Rose (tells.faults area) (tells.faults area') ⊎ disk.Rose (files.faults shelf) (files.faults shelf'))
    pub foreign : (at : ℕ) → ended ≡ status.Store (fault.NotOurs at) → Keeps links links'
        × StandStill links links' clock clock' × (files.files shelf' ≡ files.files shelf) × (Told tells →
        IsNotOurs (header_at tells area of.ip) (tells.octets area) at × (tells.octets area' ≡ tells.octets area))
    -- At `Link` a link failed, or the clock. The area was the gateway's own, and it settled all the same, unless the
    -- area's device failed.
    pub link : ended ≡ status.Link → Rose links.faults links'.faults ⊎ Rose clock clock'
    pub closed : ended ≡ status.Link → SettlesStill tells of area area' links links'
    -- However it ends, it takes no more turns than were asked for, at its own address alone.
    pub uses : UsesLinks of links links'
    -- At `Read` the source failed, at `Write` the sink, and at no other end did these.
    pub cause : HasCause ended job.read_before job.read_after job.written_before job.written_after
    -- It ends in one of these ways, takes no octet of settings past the first 16,777,217, and hands no network back.
    pub known : IsGatewayEnd ended
    pub bound : TakesUpTo (most_text + 1) job.left job.rest
    pub none : played ≡ None
    -- Where nothing fails, the settings and the area decide how it ends, unless memory runs out: of what the source has,
    -- the first 16,777,217 octets.
    pub complete : IsCalm → Told tells → (text : List ℕ) → job.left ≡ Some text →
        EndsBy (script_in kind.Serve (take (most_text + 1) text))
