-- How what is kept of a stream, and its file on the shelf, follow the items of the stream.
use Rattle.std.specs.Prelude.{◌≡◌, ℕ, ◌+◌, ◌<◌, ◌≤◌, max, Bool, true, false, IsTrue, IfOk, List, Option, None, Some, Result}
use Rattle.cdr_file.specs.CdrFile.{FileSettings, header_length, run_octets}
use Rattle.cdr_file.specs.Profile.{IsFiledKind}
use Rattle.cdr_file.specs.declared.run.RunFacts.{RunFacts}
use Rattle.cdr_shelf.specs.Files.{UnsealedFile, greatest_in}
use Rattle.cdr_shelf.specs.declared.shelf.Shelf.{Ghosts}
use Rattle.file_rotate.specs.Cutting.{file_of}
use Rattle.file_rotate.specs.Division.{cuts_at, run_after}
use Rattle.file_rotate.specs.Items.{AreLimits, Close, Filed, Tick}
use Rattle.file_rotate.specs.Items as stream
use Rattle.file_rotate.specs.declared.open_file.OpenFile.{OpenFile}
use Rattle.file_writer.specs.Calls.{calls_at, closed_by}
use Rattle.file_writer.specs.Files.{run_records}
use Rattle.file_writer.specs.Making.{Makes, ending_of}
use Rattle.file_writer.specs.Writing.{IsReady, body_behind, growing_of, is_sealed, weight_of}
use Rattle.file_writer.specs.declared.fault.ShelfFault.{ShelfFault}
use Rattle.file_writer.specs.declared.progress.Progress.{Progress}
use Rattle.file_writer.specs.declared.stream.Stream.{Stream}

-- What a cutter keeps of the open file, and what its header is to say, agree.
abbrev pub Pairs : Option OpenFile → Option RunFacts → Type 0
Pairs None None = Unit {0}
Pairs None (Some run) = ⊥
Pairs (Some file) None = ⊥
Pairs (Some file) (Some run) =
    (file.octets ≡ header_length run.kind + run.octets) × (file.count ≡ run.count) × IsFiledKind run.kind

-- No later file of the stream is sealed, and the open one stands as it is kept.
pub record IsUp {A : Type 0} (tells : Ghosts A) (s : ℕ) (file : Progress) (shelf : A) : Type 0 where
  pub fresh : IsTrue tells.tells_files → greatest_in s (tells.files shelf) ≤ max file.closed file.sealed
  pub ready : IsTrue tells.tells_files → IsReady s file (tells.unsealed shelf s)

-- A stream can take an item.
pub record IsSafe {A : Type 0} (tells : Ghosts A) (s : ℕ) (stream : Stream) (shelf : A) : Type 0 where
  pub limits : AreLimits stream.cutter.limits
  pub pairs : Pairs stream.cutter.file stream.file.growing
  pub up : IsUp tells s stream.file shelf

-- What is unsealed of a stream: what was, where it has no file that is neither sealed before nor one of the first so
-- many; else none, where none is open.
pub record IsLeft (start : ℕ) (stale : Option UnsealedFile) (file : Progress) (u : Option UnsealedFile) : Type 0 where
  pub from : start ≤ file.closed
  pub same : weight_of file ≤ max start file.sealed → u ≡ stale
  pub none : max start file.sealed < weight_of file → file.growing ≡ None → u ≡ None

-- what is unsealed of a stream goes on so
abbrev pub StaysLeft : {A : Type 0} → Ghosts A → ℕ → Progress → Progress → A → A → Type 0
StaysLeft tells s file later old new =
    IsTrue tells.tells_files → (start : ℕ) (stale : Option UnsealedFile)
    → IsLeft start stale file (tells.unsealed old s) → IsLeft start stale later (tells.unsealed new s)

-- A shelf is the same for a stream.
pub record Stays {A : Type 0} (tells : Ghosts A) (s : ℕ) (old new : A) : Type 0 where
  pub unsealed : tells.unsealed new s ≡ tells.unsealed old s
  pub greatest : greatest_in s (tells.files new) ≡ greatest_in s (tells.files old)

-- the octets behind the header, where the file isn't sealed already
abbrev pub BodyWhere : Bool → Option RunFacts → List ℕ → Option UnsealedFile → Type 0
BodyWhere true growing octets u = Unit {0}
BodyWhere false growing octets u = body_behind growing u ≡ octets

-- What is kept, and the file on the shelf, are those of a run.
pub record Follows {A : Type 0} (tells : Ghosts A) (s : ℕ) (run : List (Filed (List ℕ))) (file : Progress) (shelf : A)
    : Type 0 where
  pub kept : file.growing ≡ growing_of (run_records run)
  pub body : IsTrue tells.tells_files
      → BodyWhere (is_sealed file) file.growing (run_octets (run_records run)) (tells.unsealed shelf s)

pub record IsBehind {A : Type 0} (tells : Ghosts A) (s : ℕ) (run : List (Filed (List ℕ))) (stream : Stream) (shelf : A)
    : Type 0 where
  pub cut : stream.cutter.file ≡ file_of run
  pub follows : Follows tells s run stream.file shelf

-- A stream has taken an item: this is its run then, and so many files are closed.
pub record HasTaken {A : Type 0} (tells : Ghosts A) (s : ℕ) (run : List (Filed (List ℕ))) (item : stream.Item (List ℕ))
    (old new : Stream) (shelf : A) : Type 0 where
  pub behind : IsBehind tells s (run_after (cuts_at old.cutter.limits run item) run item) new shelf
  pub closed : new.file.closed
      ≡ closed_by (cuts_at old.cutter.limits run item).after
      (closed_by (cuts_at old.cutter.limits run item).before old.file.closed)
  pub sealed : new.file.sealed ≡ old.file.sealed
  pub limits : new.cutter.limits ≡ old.cutter.limits
  pub profile : new.cutter.profile ≡ old.cutter.profile

-- A stream takes an item by its calls.
pub record Takes {A : Type 0} (tells : Ghosts A) (settings : FileSettings) (s : ℕ) (run : List (Filed (List ℕ)))
    (item : stream.Item (List ℕ))
    (stream : Stream) (old new : A) (result : Result Stream ShelfFault) : Type 0 where
  pub makes : Makes tells (calls_at settings s stream.file.sealed (cuts_at stream.cutter.limits run item)
      stream.file.closed run item) (ending_of result) old new
  pub after : IfOk result (λ later. HasTaken tells s run item stream later new)

-- a Close, or else a Tick
abbrev pub mark_item : Bool → ℕ → stream.Item (List ℕ)
mark_item true moment = Close moment
mark_item false moment = Tick moment
