-- What a cutter keeps of an open file, how an item changes it, and the division that a cutter's answers mark.
use Rattle.std.specs.Prelude.{ℕ, ◌+◌, ◌<◌, Bool, true, false, nat_le, if◌then◌else◌, List, [], ◌∷◌, length, Option, Some, None, option_map}
use Rattle.std.specs.Option.{ForSome}
use Rattle.cdr_file.specs.CdrFile.{cdr_header_length, header_length}
use Rattle.cdr_file.specs.ClosureReason.{code_of}
use Rattle.cdr_file.specs.Profile.{IsProfile}
use Rattle.cdr_file.specs.declared.closure.ClosureReason.{ClosureReason}
use Rattle.cdr_file.specs.declared.closure.ClosureReason.TheVariants.{SizeLimit, OpenTimeLimit, CountLimit, Manual, KindChange}
use Rattle.cdr_file.specs.declared.filed_kind.FiledKind.{FiledKind}
use Rattle.gw_base.specs.TickDue.{is_long_ago}
use Rattle.file_rotate.specs.declared.cut.Cut.{Cut}
use Rattle.file_rotate.specs.declared.limits.Limits.{Limits}
use Rattle.file_rotate.specs.declared.open_file.OpenFile.{OpenFile}
use Rattle.file_rotate.specs.Division.{Cuts, Division, run_after, run_length, still, with_cuts}
use Rattle.file_rotate.specs.Items.{AreLimits, Filed, Item, Record, Tick, Close, same_kind}

-- a cutter: its limits, the profile of its files, and what it keeps of the open file, if there is one
pub record Cutting : Type 0 where
  pub limits : Limits
  pub profile : ℕ
  pub file : Option OpenFile

-- an open file hasn't reached a limit
pub record IsBelow (limits : Limits) (file : OpenFile) : Type 0 where
  pub size : file.octets < limits.size
  pub count : file.count < limits.count

pub record IsSound (limits : Limits) (profile : ℕ) (file : Option OpenFile) : Type 0 where
  pub are_limits : AreLimits limits
  pub is_profile : IsProfile profile
  pub below : ForSome file (λ f. IsBelow limits f)

-- what is kept of the file of a run
abbrev pub file_of : {P : Type 0} → List (Filed P) → Option OpenFile
file_of [] = None
file_of (first ∷ later) = Some (record {
  kind = first.kind;
  opened = first.moment;
  count = length (first ∷ later);
  octets = run_length (first ∷ later);
})

-- A record.

-- why the open file is closed before a record of this kind
abbrev pub kind_change : Option OpenFile → FiledKind → Option ClosureReason
kind_change None kind = None
kind_change (Some file) kind = if same_kind file.kind kind then None else Some KindChange

-- the file with one more record, which opens it where none is open
abbrev pub with_record : Option OpenFile → FiledKind → ℕ → ℕ → OpenFile
with_record None kind octets moment = record {
  kind = kind;
  opened = moment;
  count = 1;
  octets = header_length kind + (cdr_header_length kind + octets);
}
with_record (Some file) kind octets moment = record {
  kind = file.kind;
  opened = file.opened;
  count = file.count + 1;
  octets = file.octets + (cdr_header_length kind + octets);
}

-- why a file is closed after its last record
abbrev pub limit_reached : Limits → OpenFile → Option ClosureReason
limit_reached limits file =
    if nat_le limits.size file.octets then Some SizeLimit
    else if nat_le limits.count file.count then Some CountLimit
    else None

-- the file that has the record
abbrev pub file_with : Option OpenFile → FiledKind → ℕ → ℕ → OpenFile
file_with file kind octets moment = with_record (still (kind_change file kind) file None) kind octets moment

abbrev pub record_cuts : Limits → Option OpenFile → FiledKind → ℕ → ℕ → Cuts
record_cuts limits file kind octets moment = record {
  before = kind_change file kind;
  after = limit_reached limits (file_with file kind octets moment);
}

-- what is kept after the record
abbrev pub record_file : Limits → Option OpenFile → FiledKind → ℕ → ℕ → Option OpenFile
record_file limits file kind octets moment =
    still (limit_reached limits (file_with file kind octets moment)) (Some (file_with file kind octets moment)) None

-- A Tick or a Close.

-- why the open file is closed at a Close, or else at a Tick
abbrev pub mark_reason : Limits → Option OpenFile → Bool → ℕ → Option ClosureReason
mark_reason limits None closes moment = None
mark_reason limits (Some file) true moment = Some Manual
mark_reason limits (Some file) false moment = if is_long_ago limits.open_time moment file.opened then Some OpenTimeLimit else None

abbrev pub mark_cuts : Limits → Option OpenFile → Bool → ℕ → Cuts
mark_cuts limits file closes moment = record { before = mark_reason limits file closes moment; after = None }

-- what is kept after it
abbrev pub mark_file : Limits → Option OpenFile → Bool → ℕ → Option OpenFile
mark_file limits file closes moment = still (mark_reason limits file closes moment) file None

-- A list of items.

abbrev pub item_cuts : {P : Type 0} → Limits → Option OpenFile → Item P → Cuts
item_cuts limits file (Record filed) = record_cuts limits file filed.kind filed.octets filed.moment
item_cuts limits file (Tick moment) = mark_cuts limits file false moment
item_cuts limits file (Close moment) = mark_cuts limits file true moment

abbrev pub item_file : {P : Type 0} → Limits → Option OpenFile → Item P → Option OpenFile
item_file limits file (Record filed) = record_file limits file filed.kind filed.octets filed.moment
item_file limits file (Tick moment) = mark_file limits file false moment
item_file limits file (Close moment) = mark_file limits file true moment

-- what is kept after a list of items
abbrev pub file_after : {P : Type 0} → Limits → Option OpenFile → List (Item P) → Option OpenFile
file_after limits file [] = file
file_after limits file (item ∷ items) = file_after limits (item_file limits file item) items

-- an item and what a cutter answered to it
pub record Answered (P : Type 0) : Type 0 where
  pub item : Item P
  pub cuts : Cuts

-- the answers to a list of items, one after the other
abbrev pub answers_from : {P : Type 0} → Limits → Option OpenFile → List (Item P) → List (Answered P)
answers_from limits file [] = []
answers_from limits file (item ∷ items) =
    (record { item = item; cuts = item_cuts limits file item }) ∷ answers_from limits (item_file limits file item) items

-- the answers of a cutter that is made anew
abbrev pub answers : {P : Type 0} → Limits → List (Item P) → List (Answered P)
answers limits items = answers_from limits None items

-- the division that answers mark: a file is closed before an item, and after it, where its answer says so
abbrev pub marked_from : {P : Type 0} → List (Filed P) → List (Answered P) → Division P
marked_from run [] = record { closed = []; left_open = run }
marked_from run (answered ∷ later) =
    with_cuts answered.cuts run answered.item (marked_from (run_after answered.cuts run answered.item) later)

abbrev pub marked : {P : Type 0} → List (Answered P) → Division P
marked answered = marked_from [] answered

-- an answer as it is given: each reason is its code
abbrev pub cut_of : Cuts → Cut
cut_of cuts = record { before = option_map code_of cuts.before; after = option_map code_of cuts.after }
