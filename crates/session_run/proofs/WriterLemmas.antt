-- What who writes the files has done behind one more step, and of a history that went on.
use Rattle.std.proofs.Common.{◌≡◌, ◌≤◌, Bool, List, [], ◌++◌, inl, ap, ◌∙◌, arith}
use Rattle.session_run.proofs.Names.{AddsAnswers, All-append, All-weaker, Began, HasWritten, HistoryEntry, IsAnswerTo, KeepsWriter, Knowledge, WhereTold, Writer}
use Rattle.cdr_shelf.specs.declared.shelf.Shelf as shelves
use Rattle.file_writer.specs.Writer.{settings_in, shelf_of}
use Rattle.gateway_answer.specs.Filed.{along}
use Rattle.gateway_answer.specs.Items.{items_by, items_of}
use Rattle.gw_base.specs.Owes as owes
use Rattle.node_session.specs.Writing as writing
use Rattle.node_session.specs.declared.actor.FileActor.{FileActor}
use Rattle.session_run.proofs.DeskLemmas.{begins_then}

-- the items of a history begin those of a longer one
abbrev pub Stays : Type 0
Stays = (h g : List HistoryEntry) → items_of (h ++ g) ≡ items_of h ++ along items_by h g

items_begin : Stays → (h g : List HistoryEntry) → owes.Begins h g → writing.Begins (items_of h) (items_of g)
items_begin stays h g b = (along items_by h b.0, ap items_of b.1 ∙ stays h b.0)

-- a writer that took items of a history took items of a longer one, and its files stay the first ones of the files of that
pub writer_on : Stays → {F : Type 0} (files : shelves.Ghosts F) (told : Bool) (h g : List HistoryEntry) (old new : Writer F files)
    → WhereTold told (owes.Begins h g) → KeepsWriter files told h old new → KeepsWriter files told g old new
writer_on stays files told h g old new grows k = record {
  settings = k.settings;
  later = k.later;
  taken = λ ready.
      let has = k.taken ready in
      record {
        items = has.items;
        at = has.at;
        count = has.count;
        begins = λ y. begins_then has.items (items_of h) (items_of g) (has.begins y) (items_begin stays h g (grows y));
      };
  files = λ y shown all begins holds.
      k.files y shown all (begins_then (items_of h) (items_of g) all (items_begin stays h g (grows y)) begins) holds;
}

-- a turn more that added nothing answers no job
adds_none : (before after : Knowledge) → writing.KeepsListing before after → AddsAnswers [] before → AddsAnswers [] after
adds_none before after keeps adds =
    rw (keeps.number.1, keeps.number.0, keeps.turns)
    (All-append (IsAnswerTo before.size before.number []) before.turns keeps.later adds
    (All-weaker (λ t. t.added ≡ []) (IsAnswerTo before.size before.number [])
    (λ t none. inl none) keeps.later keeps.adds_none))

module _ {F : Type 0} (files : shelves.Ghosts F) (told : Bool) (stays : Stays) (old new : FileActor F files)
    (ready : writing.IsWriterOf told (writing.knowledge_of new).known (writing.writer_of new))
    (settings : settings_in (writing.writer_of new) ≡ settings_in (writing.writer_of old))
    (later : files.faults (shelf_of (writing.writer_of old)) ≤ files.faults (shelf_of (writing.writer_of new)))
    (grows : WhereTold told (owes.Begins (writing.knowledge_of old).known (writing.knowledge_of new).known))
    (turns : writing.KeepsListing (writing.knowledge_of old) (writing.knowledge_of new))
    (keeps : WhereTold told (writing.KeepsFiles files (writing.knowledge_of new).known (writing.writer_of old) (writing.writer_of new))) where
  -- who writes, behind one more step
  pub written_on : (began : Began) (first : Writer F files) → HasWritten files told began first old → HasWritten files told began first new
  written_on began first w =
      let k = writer_on stays files told (writing.knowledge_of old).known (writing.knowledge_of new).known first (writing.writer_of old) grows w.keeps in
      record {
        number = turns.number.0 ∙ w.number;
        size = turns.number.1 ∙ w.size;
        adds = adds_none (writing.knowledge_of old) (writing.knowledge_of new) turns w.adds;
        keeps = record {
          settings = settings ∙ k.settings;
          later = omega (arith, k.later, later);
          taken = ready;
          files = λ y shown all begins holds. keeps y shown all begins (k.files y shown all begins holds);
        };
      }
