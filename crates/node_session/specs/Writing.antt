-- How the firm items of a book go to a writer of files.
use Rattle.std.specs.Prelude.{◌≡◌, ℕ, ◌-◌, ◌+◌, ◌≤◌, drop, min, take, if◌then◌else◌, Bool, true, false, List, [], ◌∷◌, ◌++◌, All, length, Option, IsTrue, ⊤}
use Rattle.area_disk.specs.Disk.{Rose}
use Rattle.cdr_shelf.specs.Files.{SealedFile}
use Rattle.cdr_shelf.specs.declared.shelf.Shelf.{Ghosts}
use Rattle.gw_base.specs.Facts.{WhereTold}
use Rattle.gw_base.specs.declared.history.HistoryEntry.{HistoryEntry}
use Rattle.gw_base.specs.declared.item.Item.{Item}
use Rattle.gateway_answer.specs.Items.{items_of}
use Rattle.file_writer.specs.Holding.{IsBegun}
use Rattle.file_writer.specs.Writer.{Holds, IsAt, is_broken, settings_in, shelf_of, taken_of}
use Rattle.file_writer.specs.declared.writer.Writer.{Writer}
use Rattle.turn_cell.specs.Knowing.{IsLegal, facts_of}
use Rattle.turn_cell.specs.declared.cell.Pass.{Pass}
use Rattle.turn_cell.specs.declared.cell.TurnCell.{TurnCell}
use Rattle.turn_cell.specs.declared.knowing.KeptTurn.{KeptTurn}
use Rattle.turn_cell.specs.declared.knowing.Knowledge.{Knowledge}
use Rattle.node_session.specs.Passes.{IsOf, known_by}
use Rattle.node_session.specs.declared.actor.FileActor.{FileActor}
use Rattle.node_session.specs.declared.filing.Filing.{Filing}
use Rattle.node_session.specs.declared.filing.Filing.TheVariants as filing

-- a list begins with another
abbrev pub Begins : List Item → List Item → Type 0
Begins first whole = (rest : List Item) × (whole ≡ first ++ rest)

-- no file was closed before the first item
abbrev pub none_closed : ℕ → ℕ
none_closed s = 0

-- no file stood before
abbrev pub none_stood : ℕ → List SealedFile
none_stood s = []

-- how many items a step takes at most
abbrev pub most_items : ℕ
most_items = 64

module _ {F : Type 0} {tells : Ghosts F} where
  -- The items that a writer has taken since it recovered are the first ones of a history.
  pub record HasTakenOf (told : Bool) (h : List HistoryEntry) (writer : Writer F tells) : Type 0 where
    pub items : List Item
    pub at : IsAt writer none_closed items
    pub count : length items ≡ taken_of writer
    pub begins : WhereTold told (Begins items (items_of h))

  -- A writer is broken, or it has taken items of this history.
  abbrev pub IsWriterOf : Bool → List HistoryEntry → Writer F tells → Type 0
  IsWriterOf told h writer = is_broken writer ≡ false → HasTakenOf told h writer

  -- The files of its shelf are the first ones of those that these items are divided into; where it isn't broken, all
  -- those that are closed by the items that it took, which are the first of these.
  pub record HoldsFilesOf (all : List Item) (writer : Writer F tells) : Type 0 where
    pub begun : is_broken writer ≡ true
        → IsBegun (settings_in writer) none_closed none_stood all (tells.files (shelf_of writer))
    pub held : is_broken writer ≡ false → Holds writer none_closed none_stood all (take (taken_of writer) all)

  abbrev pub writer_of : FileActor F tells → Writer F tells
  writer_of actor = actor.writer

  abbrev pub pass_of : FileActor F tells → Option Pass
  pass_of actor = actor.pass

  abbrev pub knowledge_of : FileActor F tells → Knowledge
  knowledge_of actor = known_by actor.pass

  abbrev pub IsActorOf : {V : Type 0} → TurnCell V → FileActor F tells → Type 0
  IsActorOf cell actor = IsOf cell actor.pass

  -- how many items a writer has that is to go on: a broken one begins anew
  abbrev pub taken_before : Writer F tells → ℕ
  taken_before writer = if is_broken writer then 0 else taken_of writer

-- The pass keeps at most one turn more, which added nothing.
pub record KeepsListing (before after : Knowledge) : Type 0 where
  pub later : List KeptTurn
  pub turns : after.turns ≡ before.turns ++ later
  pub number : (after.number ≡ before.number) × (after.size ≡ before.size)
  pub one : length later ≤ 1
  pub adds_none : All (λ t. t.added ≡ []) later

-- The pass keeps one turn more, this one: it was legal for what the pass knew, and behind it the pass knows the firm
-- entries, as the turn found them.
pub record HasListedIn (told : Bool) (before after : Knowledge) (turn : KeptTurn) : Type 0 where
  pub turns : after.turns ≡ before.turns ++ turn ∷ []
  pub legal : IsLegal told before (facts_of turn.found)
  pub known : WhereTold told (after.known ≡ (facts_of turn.found).firm)

-- The turn failed: the count of the device rose in it.
pub record HasFailedIn (told : Bool) (before after : Knowledge) : Type 0 where
  pub turn : KeptTurn
  pub listed : HasListedIn told before after turn
  pub rose : Rose turn.found.faults turn.left.faults

module _ {F : Type 0} (tells : Ghosts F) (told : Bool) (before after : Knowledge) (old new : Writer F tells) where
  -- So many items were taken: the lesser of 64 and the firm items past those that were taken before.
  pub record HasTakenItems (n : ℕ) : Type 0 where
    pub turn : KeptTurn
    pub listed : HasListedIn told before after turn
    pub count : WhereTold told (n ≡ min most_items (length (items_of after.known) - taken_before old))
    pub taken : taken_of new ≡ taken_before old + n
    pub ready : is_broken new ≡ false

  -- what each answer of a step tells
  abbrev pub TellsOf : Filing → Type 0
  TellsOf (filing.Took items) = HasTakenItems items
  TellsOf filing.Area = HasFailedIn told before after
  TellsOf filing.Shelf = Rose (tells.faults (shelf_of old)) (tells.faults (shelf_of new))
  TellsOf filing.NoMemory = ⊤

-- A step of a writer: the files of its shelf stay the first ones of those that the items of a history, and any more
-- behind them, are divided into.
abbrev pub KeepsFiles : {F : Type 0} (tells : Ghosts F) → List HistoryEntry → Writer F tells → Writer F tells → Type 0
KeepsFiles tells h old new = IsTrue tells.tells_files → (all : List Item)
    → Begins (items_of h) all → HoldsFilesOf all old → HoldsFilesOf all new

-- these items are the next ones of a history behind so many
abbrev pub AreNext : Bool → List HistoryEntry → ℕ → List Item → Type 0
AreNext told h from items = WhereTold told ((rest : List Item) × (drop from (items_of h) ≡ items ++ rest))
