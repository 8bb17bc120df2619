-- How the records of a stream are cut into runs, each of which is the records of one CDR file, and why each file is
-- closed (3GPP TS 32.297, clause 6.1.1). A run has at least one record; [] stands for no open file.
use Rattle.std.specs.Prelude.{◌≡◌, ℕ, ◌+◌, ◌⊎◌, nat_le, if◌then◌else◌, List, [], ◌∷◌, ◌++◌, length, sum_by, Option, Some, None}
use Rattle.cdr_file.specs.CdrFile.{cdr_header_length, header_length}
use Rattle.cdr_file.specs.declared.closure.ClosureReason.{ClosureReason}
use Rattle.cdr_file.specs.declared.closure.ClosureReason.TheVariants.{SizeLimit, OpenTimeLimit, CountLimit, Manual, KindChange}
use Rattle.gw_base.specs.TickDue.{is_long_ago}
use Rattle.file_rotate.specs.declared.limits.Limits.{Limits}
use Rattle.file_rotate.specs.Items.{Filed, Item, Record, Tick, Close, record_in, records_of, same_kind}

-- How long a file is.

-- how many octets the CDR of a record has
abbrev pub cdr_length : {P : Type 0} → Filed P → ℕ
cdr_length filed = cdr_header_length filed.kind + filed.octets

-- how many octets the file of a run has
abbrev pub run_length : {P : Type 0} → List (Filed P) → ℕ
run_length [] = 0
run_length (first ∷ later) = header_length first.kind + sum_by cdr_length (first ∷ later)

-- When a file ends.

-- the reason for which the file of a run is closed after its last record: its length has reached the size, or else
-- its count has reached the limit
unfoldable pub run_limit_reached : {P : Type 0} → Limits → List (Filed P) → Option ClosureReason
run_limit_reached limits run =
    if nat_le limits.size (run_length run) then Some SizeLimit
    else if nat_le limits.count (length run) then Some CountLimit
    else None

-- the reason for which the open file of a run is closed before an item: a record of another kind, a Tick when the
-- first record lies at least the open time back, a Close
unfoldable pub ends_before : {P : Type 0} → Limits → List (Filed P) → Item P → Option ClosureReason
ends_before limits [] item = None
ends_before limits (first ∷ later) (Record filed) = if same_kind first.kind filed.kind then None else Some KindChange
ends_before limits (first ∷ later) (Tick moment) = if is_long_ago limits.open_time moment first.moment then Some OpenTimeLimit else None
ends_before limits (first ∷ later) (Close moment) = Some Manual

-- the reason for which the file of a run is closed after its last item: none but after a record
unfoldable pub ends_after : {P : Type 0} → Limits → List (Filed P) → Item P → Option ClosureReason
ends_after limits run (Record filed) = run_limit_reached limits run
ends_after limits run (Tick moment) = None
ends_after limits run (Close moment) = None

-- The division.

-- the reasons for which a file is closed before an item, and after it
pub record Cuts : Type 0 where
  pub before : Option ClosureReason
  pub after : Option ClosureReason

-- what is still there where nothing was closed, and what is there otherwise
abbrev pub still : {A : Type 0} → Option ClosureReason → A → A → A
still None there otherwise = there
still (Some reason) there otherwise = otherwise

-- the run that an item belongs to, up to this item
abbrev pub joined : {P : Type 0} → Option ClosureReason → List (Filed P) → Item P → List (Filed P)
joined before run item = still before run [] ++ record_in item

-- where files are closed at an item that comes in after an open run
abbrev pub cuts_at : {P : Type 0} → Limits → List (Filed P) → Item P → Cuts
cuts_at limits run item = record {
  before = ends_before limits run item;
  after = ends_after limits (joined (ends_before limits run item) run item) item;
}

-- the records of a file that is closed, and why it is
pub record ClosedRun (P : Type 0) : Type 0 where
  pub run : List (Filed P)
  pub reason : ClosureReason

-- the runs of closed files, and that of the open one
pub record Division (P : Type 0) : Type 0 where
  pub closed : List (ClosedRun P)
  pub left_open : List (Filed P)

-- a division with one more closed run in front, if there is a reason
abbrev pub closed_first : {P : Type 0} → Option ClosureReason → List (Filed P) → Division P → Division P
closed_first None run division = division
closed_first (Some reason) run division = record {
  closed = (record { run = run; reason = reason }) ∷ division.closed;
  left_open = division.left_open;
}

-- the open run after an item
abbrev pub run_after : {P : Type 0} → Cuts → List (Filed P) → Item P → List (Filed P)
run_after cuts run item = still cuts.after (joined cuts.before run item) []

-- the division of what begins with an open run and an item, by that of what follows
abbrev pub with_cuts : {P : Type 0} → Cuts → List (Filed P) → Item P → Division P → Division P
with_cuts cuts run item division = closed_first cuts.before run (closed_first cuts.after (joined cuts.before run item) division)

abbrev pub divided_from : {P : Type 0} → Limits → List (Filed P) → List (Item P) → Division P
divided_from limits run [] = record { closed = []; left_open = run }
divided_from limits run (item ∷ items) =
    with_cuts (cuts_at limits run item) run item (divided_from limits (run_after (cuts_at limits run item) run item) items)

-- the division of a list of items: each file is closed as soon as it ends
abbrev pub division_of : {P : Type 0} → Limits → List (Item P) → Division P
division_of limits items = divided_from limits [] items

-- a division, and what its open run and more items divide into: what was closed stays in front
abbrev pub goes_on : {P : Type 0} → Limits → Division P → List (Item P) → Division P
goes_on limits division items = record {
  closed = division.closed ++ (divided_from limits division.left_open items).closed;
  left_open = (divided_from limits division.left_open items).left_open;
}

-- What makes it the division.

-- no file ends at any of these items, which come in after an open run
pub record IsQuiet {P : Type 0} (limits : Limits) (run : List (Filed P)) (items : List (Item P)) : Type 0 where
  pub before : (front : List (Item P)) (item : Item P) (rest : List (Item P)) → items ≡ front ++ item ∷ rest
      → ends_before limits (run ++ records_of front) item ≡ None
  pub after : (front : List (Item P)) (item : Item P) (rest : List (Item P)) → items ≡ front ++ item ∷ rest
      → ends_after limits ((run ++ records_of front) ++ record_in item) item ≡ None

-- the file of a run and the records of these items ends before the item that comes next, and no sooner
pub record EndsBefore {P : Type 0} (limits : Limits) (run : List (Filed P)) (items rest : List (Item P)) (reason : ClosureReason) : Type 0 where
  pub item : Item P
  pub later : List (Item P)
  pub next : rest ≡ item ∷ later
  pub quiet : IsQuiet limits run items
  pub ends : ends_before limits (run ++ records_of items) item ≡ Some reason

-- it ends after the last of these items, and no sooner
pub record EndsAfter {P : Type 0} (limits : Limits) (run : List (Filed P)) (items : List (Item P)) (reason : ClosureReason) : Type 0 where
  pub front : List (Item P)
  pub last : Item P
  pub joined : items ≡ front ++ last ∷ []
  pub quiet : IsQuiet limits run front
  pub goes_on : ends_before limits (run ++ records_of front) last ≡ None
  pub ends : ends_after limits ((run ++ records_of front) ++ record_in last) last ≡ Some reason

-- a file's records are an open run and those of these items, and it ends after them and no sooner
pub record IsRun {P : Type 0} (limits : Limits) (run : List (Filed P)) (items rest : List (Item P)) (closed : ClosedRun P) : Type 0 where
  pub records : closed.run ≡ run ++ records_of items
  pub ends : EndsBefore limits run items rest closed.reason ⊎ EndsAfter limits run items closed.reason

-- these are the closed runs and the open one of an open run and a list of items: the records are those of the items in
-- order, each closed run ends where its file first ends, and none ends within the open one
abbrev pub AreRuns : {P : Type 0} → Limits → List (Filed P) → List (Item P) → List (ClosedRun P) → List (Filed P) → Type 0
AreRuns limits run items [] left_open = IsQuiet limits run items × (left_open ≡ run ++ records_of items)
AreRuns {P} limits run items (closed ∷ others) left_open =
    (front : List (Item P)) × (rest : List (Item P)) × (items ≡ front ++ rest) × IsRun limits run front rest closed × AreRuns limits [] rest others left_open

abbrev pub IsDivision : {P : Type 0} → Limits → List (Item P) → Division P → Type 0
IsDivision limits items division = AreRuns limits [] items division.closed division.left_open
