-- What is kept of the file of a stream that is being written, and what calls for it do.
use Rattle.std.specs.Prelude.{◌≡◌, ◌≢◌, ℕ, ◌+◌, ◌-◌, ◌^◌, ◌<◌, Bool, true, false, nat_le, List, [], ◌∷◌, ◌++◌, length, drop, Option, None, Some}
use Rattle.cdr_file.specs.CdrFile.{FileSettings, FiledRecord, cdr_octets, facts_of, facts_of_one, facts_with, header_length, header_of}
use Rattle.cdr_file.specs.FileHeader.{header_octets}
use Rattle.cdr_file.specs.Profile.{IsFiledKind}
use Rattle.cdr_file.specs.declared.closure.ClosureReason.{ClosureReason}
use Rattle.cdr_file.specs.declared.filed_kind.FiledKind.{FiledKind}
use Rattle.cdr_file.specs.declared.run.RunFacts.{RunFacts}
use Rattle.cdr_shelf.specs.Files.{SealedFile, UnsealedFile}
use Rattle.cdr_shelf.specs.declared.file_name.FileName.{FileName}
use Rattle.file_writer.specs.Calls.{Call, Writes, Seals, unless_sealed}
use Rattle.file_writer.specs.declared.gateway.Gateway.{Gateway}
use Rattle.file_writer.specs.declared.progress.Progress.{Progress}

-- what a gateway's headers say of it
abbrev pub settings_of : Gateway → FileSettings
settings_of gateway = record { offset = gateway.offset; address = gateway.address }

-- the octets behind the header of a file that is being written, of records of this kind
abbrev pub body_of : FiledKind → Option UnsealedFile → List ℕ
body_of kind None = []
body_of kind (Some f) = drop (header_length kind) f.octets

-- a file with this name is being written, of records of this kind, and has so many octets behind its header
abbrev pub IsOpenAt : FileName → FiledKind → ℕ → Option UnsealedFile → Type 0
IsOpenAt name kind n None = ⊥
IsOpenAt name kind n (Some f) = (f.name ≡ name) × (length f.octets ≡ header_length kind + n)

-- a file is being written, and has so many octets
abbrev pub HasLength : ℕ → Option UnsealedFile → Type 0
HasLength n None = ⊥
HasLength n (Some f) = length f.octets ≡ n

-- the other streams' files stay
abbrev pub OthersStay : ℕ → (ℕ → Option UnsealedFile) → (ℕ → Option UnsealedFile) → Type 0
OthersStay stream old new = (s : ℕ) → s ≢ stream → new s ≡ old s

-- octets more at the end of the file
abbrev pub appended : List ℕ → Option UnsealedFile → Option UnsealedFile
appended octets None = None
appended octets (Some f) = Some (record { name = f.name; octets = f.octets ++ octets; is_synced = false })

-- the file of records that are said to be these, closed for a reason
abbrev pub closed_file : FileSettings → FileName → ClosureReason → Option RunFacts → Option UnsealedFile → SealedFile
closed_file settings name reason None u = record { name = name; octets = [] }
closed_file settings name reason (Some run) u =
    record { name = name; octets = header_octets (header_of run name.sequence reason settings) ++ body_of run.kind u }

-- the name of the file that is open, or is the next one
abbrev pub name_in : ℕ → Progress → FileName
name_in s file = record { stream = s; sequence = file.closed + 1 }

-- it is sealed already
abbrev pub is_sealed : Progress → Bool
is_sealed file = nat_le (file.closed + 1) file.sealed

-- What is written stands as it is kept.

abbrev pub ReadyWhere : Bool → FileName → Option RunFacts → Option UnsealedFile → Type 0
ReadyWhere true name growing u = Unit {0}
ReadyWhere false name None u = Unit {0}
ReadyWhere false name (Some run) u = IsOpenAt name run.kind run.octets u

abbrev pub IsReady : ℕ → Progress → Option UnsealedFile → Type 0
IsReady s file u = ReadyWhere (is_sealed file) (name_in s file) file.growing u

-- Closing.

abbrev pub ClosesOpen : Option ClosureReason → Option RunFacts → Type 0
ClosesOpen None growing = Unit {0}
ClosesOpen (Some reason) None = ⊥
ClosesOpen (Some reason) (Some run) = Unit {0}

abbrev pub closing_of : FileSettings → ℕ → Progress → Option UnsealedFile → Option ClosureReason → List Call
closing_of settings s file u None = []
closing_of settings s file u (Some reason) =
    unless_sealed file.sealed (file.closed + 1)
    (Writes ∷ Writes ∷ Seals (closed_file settings (name_in s file) reason file.growing u) ∷ [])

abbrev pub closed_progress : Option ClosureReason → Progress → Progress
closed_progress None file = file
closed_progress (Some reason) file = record { growing = None; closed = file.closed + 1; sealed = file.sealed }

-- a file that was sealed before stays as it is, and one that is sealed now is gone
abbrev pub GoneWhere : Bool → Option UnsealedFile → Option UnsealedFile → Type 0
GoneWhere true old new = new ≡ old
GoneWhere false old new = new ≡ None

abbrev pub StillOpen : Option ClosureReason → Progress → Option UnsealedFile → Option UnsealedFile → Type 0
StillOpen None file old new = new ≡ old
StillOpen (Some reason) file old new = GoneWhere (is_sealed file) old new

-- A record more.

abbrev pub beginning_of : Option RunFacts → List Call
beginning_of None = Writes ∷ Writes ∷ []
beginning_of (Some run) = []

abbrev pub appending_of : Progress → List Call
appending_of file = unless_sealed file.sealed (file.closed + 1) (beginning_of file.growing ++ Writes ∷ Writes ∷ [])

abbrev pub grown_facts : Option RunFacts → FiledRecord → RunFacts
grown_facts None filed = facts_of_one filed
grown_facts (Some run) filed = facts_with run filed

abbrev pub grown : Progress → FiledRecord → Progress
grown file filed = record {
  growing = Some (grown_facts file.growing filed);
  closed = file.closed;
  sealed = file.sealed;
}

-- the octets behind the header so far: none where no file is open
abbrev pub body_behind : Option RunFacts → Option UnsealedFile → List ℕ
body_behind None u = []
body_behind (Some run) u = body_of run.kind u

-- how many octets they are
abbrev pub body_length : Option RunFacts → ℕ
body_length None = 0
body_length (Some run) = run.octets

-- the kind of the records of the open file, or of the file that a record of a kind begins where none is open
abbrev pub kind_with : Option RunFacts → FiledKind → FiledKind
kind_with None kind = kind
kind_with (Some run) kind = run.kind

-- what is kept of the file of a run
abbrev pub growing_of : List FiledRecord → Option RunFacts
growing_of [] = None
growing_of (first ∷ later) = Some (facts_of (first ∷ later))

abbrev pub open_count : Option RunFacts → ℕ
open_count None = 0
open_count (Some run) = 1

-- how many files are closed or open
abbrev pub weight_of : Progress → ℕ
weight_of file = file.closed + open_count file.growing

-- a record
abbrev pub filed_of : FiledKind → List ℕ → ℕ → FiledRecord
filed_of kind octets moment = record { kind = kind; octets = octets; moment = moment }

abbrev pub HasKind : Option RunFacts → Type 0
HasKind None = Unit {0}
HasKind (Some run) = IsFiledKind run.kind

-- What is kept of an open file is within its bounds: its size is below the greatest limit.
abbrev pub IsBounded : Option RunFacts → Type 0
IsBounded None = Unit {0}
IsBounded (Some run) = IsFiledKind run.kind × (run.octets < 2 ^ 32 - 2 ^ 17) × (run.count < 2 ^ 32)

-- A record more stands at the end of the file that is written; one that was sealed before stays as it is.
abbrev pub GrownWhere : Bool → FileName → Option RunFacts → FiledRecord → Option UnsealedFile → Option UnsealedFile
    → Type 0
GrownWhere true name growing filed old new = new ≡ old
GrownWhere false name growing filed old new =
    IsOpenAt name (grown_facts growing filed).kind (grown_facts growing filed).octets new
    × (body_of (grown_facts growing filed).kind new ≡ body_behind growing old ++ cdr_octets filed)

abbrev pub IsGrown : ℕ → Progress → FiledRecord → Option UnsealedFile → Option UnsealedFile → Type 0
IsGrown s file filed old new = GrownWhere (is_sealed file) (name_in s file) file.growing filed old new

-- A file is open, begun for a record of this kind where none was, with what was behind its header.
abbrev pub IsBegun : FileName → FiledKind → Option RunFacts → Option UnsealedFile → Option UnsealedFile → Type 0
IsBegun name kind growing old new =
    IsOpenAt name (kind_with growing kind) (body_length growing) new
    × (body_of (kind_with growing kind) new ≡ body_behind growing old)
