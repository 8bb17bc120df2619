-- Four sessions, two on a thread, and who writes the files, as they go on.
use Rattle.std.specs.Prelude.{ℕ, Bool, List, [], ◌∷◌, Option}
use Rattle.std.specs.Option.{option_or}
use Rattle.cdr_shelf.specs.declared.shelf.Shelf as shelf
use Rattle.file_writer.specs.declared.writer.Writer.{Writer}
use Rattle.gw_base.specs.Facts.{Facts}
use Rattle.gw_base.specs.declared.address.Addr.{Addr}
use Rattle.job_inbox.specs.declared.inbox.Inbox.{Inbox}
use Rattle.net_link.specs.declared.link.Link as link
use Rattle.node_session.specs.Writing.{IsActorOf, IsWriterOf, knowledge_of, writer_of}
use Rattle.node_session.specs.declared.actor.FileActor.{FileActor}
use Rattle.turn_cell.specs.declared.cell.TurnCell.{TurnCell}
use Rattle.session_run.specs.Desks.{Began, HasWorked, IsDeskOf, began_at}
use Rattle.session_run.specs.Filing.{HasWritten}
use Rattle.session_run.specs.Latest.{later_of}
use Rattle.session_run.specs.Reception.{HasDispatched}
use Rattle.session_run.specs.declared.desk.Desk.{Desk}
use Rattle.session_run.specs.declared.reception.Reception.{Reception}
use Rattle.session_run.specs.declared.round.Team.{Team}
use Rattle.session_run.specs.declared.stop.Stop.{Stop}

abbrev pub Pair : Type 0 → Type 0
Pair L = Desk L × Desk L

module _ {L : Type 0} where
  abbrev pub ArePairOf : {V : Type 0} → TurnCell V → Inbox → Inbox → Pair L → Type 0
  ArePairOf cell one two pair = IsDeskOf cell one pair.0 × IsDeskOf cell two pair.1

  -- each desk is one of a session of the cell, with a pass of its inbox
  abbrev pub AreDesksOf : {V : Type 0} → TurnCell V → List Inbox → Pair L → Pair L → Type 0
  AreDesksOf cell (one ∷ two ∷ three ∷ four ∷ []) first second =
      ArePairOf cell one two first × ArePairOf cell three four second
  AreDesksOf cell _ first second = ⊥

-- whatever a session has done since it began, it has done so still
abbrev pub WorksOn : {L : Type 0} (tells : link.Ghosts L) → Bool → Desk L → Desk L → Type 0
WorksOn tells told old new =
    (at : Addr) (began : Began) → HasWorked tells told at began old → HasWorked tells told at began new

abbrev pub PairWorksOn : {L : Type 0} (tells : link.Ghosts L) → Bool → Pair L → Pair L → Type 0
PairWorksOn tells told old new = WorksOn tells told old.0 new.0 × WorksOn tells told old.1 new.1

module _ {F : Type 0} (tells : shelf.Ghosts F) (told : Bool) where
  -- whatever who writes has done since it began, it has done so still
  abbrev pub WritesOn : FileActor F tells → FileActor F tells → Type 0
  WritesOn old new = (began : Began) (first : Writer F tells) → HasWritten tells told began first old
      → HasWritten tells told began first new

-- the writer of who writes is broken, or has taken items of the history that it knows
abbrev pub IsReady : {F : Type 0} {tells : shelf.Ghosts F} → Bool → FileActor F tells → Type 0
IsReady told actor = IsWriterOf told (knowledge_of actor).known (writer_of actor)

module _ {F L : Type 0} {files : shelf.Ghosts F} where
  abbrev pub stop_among : Team F L files → Option Stop
  stop_among team =
      option_or (option_or (option_or team.first.0.stop team.first.1.stop) team.second.0.stop) team.second.1.stop

  abbrev pub last_among : Team F L files → Option ℕ
  last_among team =
      later_of (later_of team.first.0.last team.first.1.last) (later_of team.second.0.last team.second.1.last)

  pub record IsTeamOf {V : Type 0} (cell : TurnCell V) (inboxes : List Inbox) (team : Team F L files)
      : Type 0 where
    pub desks : AreDesksOf cell inboxes team.first team.second
    pub actor : IsActorOf cell team.actor

-- what each has done since it began it has done still
pub record TeamWorksOn {F L : Type 0} (files : shelf.Ghosts F) (tells : link.Ghosts L) (told : Bool)
    (old new : Team F L files) : Type 0 where
  pub one : WorksOn tells told old.first.0 new.first.0
  pub two : WorksOn tells told old.first.1 new.first.1
  pub three : WorksOn tells told old.second.0 new.second.0
  pub four : WorksOn tells told old.second.1 new.second.1
  pub writes : WritesOn files told old.actor new.actor

-- What all have done since they began, with a book of these facts and this writer, at an address.
pub record HaveServed {F L : Type 0} (files : shelf.Ghosts F) (tells : link.Ghosts L) (told : Bool) (at : Addr)
    (start : Facts) (writer : Writer F files) (reception : Reception L) (team : Team F L files) : Type 0 where
  pub dispatched : HasDispatched tells at reception
  pub one : HasWorked tells told at (began_at start 0) team.first.0
  pub two : HasWorked tells told at (began_at start 1) team.first.1
  pub three : HasWorked tells told at (began_at start 2) team.second.0
  pub four : HasWorked tells told at (began_at start 3) team.second.1
  pub written : HasWritten files told (began_at start 4) writer team.actor
