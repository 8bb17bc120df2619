-- What who writes the files has done: it added nothing, and its writer has taken items of the history that it knows.
use Rattle.std.specs.Prelude.{◌≡◌, ◌≤◌, Bool, List, []}
use Rattle.cdr_shelf.specs.declared.shelf.Shelf.{Ghosts}
use Rattle.file_writer.specs.Writer.{settings_in, shelf_of}
use Rattle.file_writer.specs.declared.writer.Writer.{Writer}
use Rattle.gw_base.specs.Facts.{WhereTold}
use Rattle.gw_base.specs.declared.history.HistoryEntry.{HistoryEntry}
use Rattle.node_session.specs.Answering.{AddsAnswers}
use Rattle.node_session.specs.Writing.{IsWriterOf, KeepsFiles, knowledge_of, writer_of}
use Rattle.node_session.specs.declared.actor.FileActor.{FileActor}
use Rattle.session_run.specs.Desks.{Began}

-- From one writer to another: its settings stay, the count of its shelf's faults doesn't fall, and the files of the shelf
-- stay the first ones of those that the items of a history, and more, are divided into.
module _ {F : Type 0} (tells : Ghosts F) where
  pub record KeepsWriter (told : Bool) (firm : List HistoryEntry) (old new : Writer F tells) : Type 0 where
    pub settings : settings_in new ≡ settings_in old
    pub later : tells.faults (shelf_of old) ≤ tells.faults (shelf_of new)
    pub taken : IsWriterOf told firm new
    pub files : WhereTold told (KeepsFiles tells firm old new)

  pub record HasWritten (told : Bool) (began : Began) (first : Writer F tells) (actor : FileActor F tells)
      : Type 0 where
    pub number : (knowledge_of actor).number ≡ began.number
    pub size : (knowledge_of actor).size ≡ began.size
    pub adds : AddsAnswers [] (knowledge_of actor)
    pub keeps : KeepsWriter told (knowledge_of actor).known first (writer_of actor)
