-- What a writer makes of items, by what is armed for its shelf.
use Rattle.std.proofs.Common.{◌≡◌, ◌∙◌, refl, sym, ap, subst, ℕ, ◌+◌, ◌-◌, ◌^◌, ◌<◌, ◌≤◌, ◌==◌, max, true, false, List, [], ◌∷◌, ◌++◌, length, take, drop, Result, Ok, Err, Option, Some, None, All, arith, append-nil, length-append, length-drop, length-take}
use Rattle.replay_gateway.proofs.Names.{All-append, All-nil, All-weaker, AreOfStreams, AreOpenFiles, AreSealed, Armed, begun_after, BreaksOff, calls_under, closed_of, ClosedRun, Files, files_from, FileSettings, FilesStand, Filing, filter-append, greatest_in, HasTaken, HasWritten, in_stream, IsArmed, IsOn, IsWritable, Item, later_files, LeavesUnsealed, MemoryShelf, Nothing, NothingIsLeft, resting, same_Some, SealedFile, Settings, shelf_tells, ShelfHolds, stream_count, stream_files, take-append-drop, take-append-le, take_all, UnsealedFile, WriterStands, wrote_by}
use Rattle.area_disk.specs.Armed.{Came}
use Rattle.area_disk.specs.Armed.Came.{Ran, FailedAt, StoppedAt}
use Rattle.file_writer.specs.Advancing.{Advances, HasRecovered, calls}
use Rattle.file_writer.specs.AllStreams.{IsFit}
use Rattle.file_writer.specs.Asking.{IsAsked}
use Rattle.file_writer.specs.Calls.{Call, calls_of, seals}
use Rattle.file_writer.specs.Holding.{files_after}
use Rattle.file_writer.specs.Leaving.{AreShut}
use Rattle.file_writer.specs.Making.{Comes, Failed, Went, done_at}
use Rattle.file_writer.specs.Writer as writer
use Rattle.file_writer.specs.declared.fault.ShelfFault.{ShelfFault}
use Rattle.file_writer.specs.declared.fault.ShelfFault.TheVariants.{Device, NoMemory}
use Rattle.file_writer.specs.declared.writer.Writer.{Writer}
use Rattle.replay_gateway.specs.Filing.{all_filed, filed_by, filing_after, items_given, items_taken, shelf_calls, shelf_came}
use Rattle.replay_gateway.specs.declared.files.Wrote.{Wrote}
use Rattle.replay_gateway.specs.declared.files.Wrote.TheVariants as wrote

-- Laws of files.

abbrev pub FilesCounted : Type 0
FilesCounted = (settings : Settings) (s m : ℕ) (items : List Item) (files : List SealedFile) →
    in_stream s files ≡ take m (stream_files settings s items) → m ≤ closed_of settings s items → greatest_in s files ≡ m

abbrev pub SealOfStreams : Type 0
SealOfStreams = (settings : Settings) (closed sealed : ℕ → ℕ) (before items : List Item) (k : ℕ) →
    AreOfStreams (seals (take k (calls_of settings closed sealed before items)))

abbrev pub SameCalls : Type 0
SameCalls = (settings : Settings) (closed sealed other : ℕ → ℕ) (before items : List Item) →
    ((s : ℕ) → s < stream_count →
    max (sealed s) (closed s + closed_of settings s before) ≡ max (other s) (closed s + closed_of settings s before)) →
    calls_of settings closed sealed before items ≡ calls_of settings closed other before items

abbrev pub OpenGoOn : Type 0
OpenGoOn = (settings : Settings) (closed sealed : ℕ → ℕ) (before front rest : List Item)
    (old new : ℕ → Option UnsealedFile) →
    ((s : ℕ) → s < stream_count → sealed s ≤ closed s + closed_of settings s (before ++ front)) →
    AreOpenFiles settings closed (before ++ front) old →
    LeavesUnsealed settings closed sealed before ((before ++ front) ++ rest) old new →
    AreOpenFiles settings closed ((before ++ front) ++ rest) new

abbrev pub ShutComeOpen : Type 0
ShutComeOpen = (settings : Settings) (closed sealed : ℕ → ℕ) (items : List Item) (files : List SealedFile)
    (old new : ℕ → Option UnsealedFile) →
    ((s : ℕ) → s < stream_count → (closed s ≤ sealed s) × (sealed s ≤ closed s + closed_of settings s items)
    × (sealed s ≡ greatest_in s files)) →
    AreShut (begun_after settings closed items) files old →
    LeavesUnsealed settings closed sealed [] items old new → AreOpenFiles settings closed items new

pub files_length : (file : FileSettings) (s first : ℕ) (closed : List (ClosedRun (List ℕ))) →
    length (files_from file s first closed) ≡ length closed
files_length file s first [] = refl
files_length file s first (run ∷ closed) = cc (files_length file s (first + 1) closed)

pub files_count : (settings : Settings) (s : ℕ) (items : List Item) →
    length (stream_files settings s items) ≡ closed_of settings s items
files_count settings s items = files_length _ s 1 _

-- of items that are written more may be taken
pub all_fit : (items : List Item) → All IsWritable items → All IsFit items
all_fit items are = All-weaker IsWritable IsFit (λ i is. grind arith) items are

abbrev files_in : Writer MemoryShelf shelf_tells → List SealedFile
files_in w = shelf_tells.files (writer.shelf_of w)

abbrev unsealed_in : Writer MemoryShelf shelf_tells → ℕ → Option UnsealedFile
unsealed_in w = shelf_tells.unsealed (writer.shelf_of w)

-- What a shelf holds is kept where something else is armed for it, and where it is asked for its files.
pub kept_holds : {settings sealed items old : _} (new : Writer MemoryShelf shelf_tells) →
    writer.settings_in new ≡ writer.settings_in old → files_in new ≡ files_in old →
    ((s : ℕ) → unsealed_in new s ≡ unsealed_in old s) → ShelfHolds shelf_tells settings sealed items old →
    ShelfHolds shelf_tells settings sealed items new
kept_holds new set files unsealed holds = record {
  settings_are = set ∙ holds.settings_are;
  files = rw files holds.files;
  shut = record {
    each = λ s small all. unsealed s ∙ holds.shut.each s small (rw files at all);
    beyond = λ s far. unsealed s ∙ holds.shut.beyond s far;
  };
  numbered = holds.numbered;
}

pub kept_stands : {settings : Settings} (f : Filing) {a : Armed} {items : List Item} {old : Files} (new : Files) →
    writer.settings_in new.writer ≡ writer.settings_in old.writer → files_in new.writer ≡ files_in old.writer →
    ((s : ℕ) → unsealed_in new.writer s ≡ unsealed_in old.writer s) →
    ((s : ℕ) → writer.sealed_in new.writer s ≡ writer.sealed_in old.writer s) →
    ((closed : ℕ → ℕ) (items : List Item) → writer.IsAt old.writer closed items → writer.IsAt new.writer closed items) →
    new.taken ≡ old.taken → IsArmed a (shelf_tells.plan (writer.shelf_of new.writer)) →
    FilesStand settings f items old → FilesStand settings (record f { armed = a }) items new
kept_stands f {items} new set files unsealed sealed at taken armed stands = record {
  writes = record {
    holds = kept_holds _ set files unsealed stands.writes.holds;
    is_armed = armed;
    on = λ n has. let on = stands.writes.on n has in record {
      some = on.some;
      closed = on.closed;
      unsealed = record {
        each = λ s small. rw (unsealed s) (on.unsealed.each s small);
        beyond = λ s far. unsealed s ∙ on.unsealed.beyond s far;
      };
    };
  };
  taken = taken ∙ stands.taken;
  few = stands.few;
  goes_on = λ n has. let goes = stands.goes_on n has in record {
    at = at (λ s. 0) (take n items) goes.at;
    sealed = λ s small. rw (sealed s) (goes.sealed s small);
  };
}

-- A writer that has to recover, and for which nothing is armed.
pub rests : {settings sealed items w : _} (r : Files) →
    r.writer ≡ w → r.taken ≡ None → IsArmed Nothing (shelf_tells.plan (writer.shelf_of w)) →
    ShelfHolds shelf_tells settings sealed items w → FilesStand settings (resting sealed) items r
rests r is taken armed holds = record {
  writes = rw is (record { holds = holds; is_armed = armed; on = λ n has. cc });
  taken = taken;
  few = λ n has. cc;
  goes_on = λ n has. cc;
}

-- the settings are named otherwise
pub by_settings : {p q items f w r : _} → p ≡ q → HasWritten p items f w r → HasWritten q items f w r
by_settings is written = rw is at written

-- what is seen of what came of a write, and what it makes
abbrev EndsBy : Settings → List Item → Filing → Came → Wrote → Files → Type 0
EndsBy settings items f came ended r =
    (ended ≡ wrote_by came) × FilesStand settings (filing_after settings items f came) items r

abbrev pub stopped_by : ShelfFault → Result ℕ ShelfFault
stopped_by fault = Err fault

-- A writer takes items behind those that it has taken, and something is armed for its shelf.
module _ (within : SealOfStreams) (items before later : List Item) (f : Filing)
    (old new : Writer MemoryShelf shelf_tells) (joined : before ++ later ≡ items)
    (armed : IsArmed f.armed (shelf_tells.plan (writer.shelf_of old)))
    (holds : ShelfHolds shelf_tells (writer.settings_in old) f.sealed items old)
    (same : (s : ℕ) → s < stream_count →
    max (writer.sealed_in old s) (0 + closed_of (writer.settings_in old) s before) ≡ f.sealed s)
    (named : calls shelf_tells (λ s. 0) before later old new ≡ shelf_calls (writer.settings_in old) items f)
    (stays : writer.settings_in new ≡ writer.settings_in old)
    (fits : (s : ℕ) → s < stream_count → closed_of (writer.settings_in old) s items < 4294967295) where
  abbrev q : Settings
  q = writer.settings_in old

  abbrev made : List Call
  made = calls shelf_tells (λ s. 0) before later old new

  whole : (before ++ later) ++ [] ≡ items
  whole = append-nil (before ++ later) ∙ joined

  held : (s : ℕ) → s < stream_count → in_stream s (files_in old)
      ≡ take (max (writer.sealed_in old s) (0 + closed_of q s before) - 0) (stream_files q s ((before ++ later) ++ []))
  held s small =
      let number : f.sealed s ≡ max (writer.sealed_in old s) (0 + closed_of q s before) - 0 =
      omega (arith, same s small) in
      cc (holds.files.each s small, whole)

  held_before : writer.Holds old (λ s. 0) (λ s. []) ((before ++ later) ++ []) before
  held_before = held

  module _ (result : Result ℕ ShelfFault) (done : Advances shelf_tells (λ s. 0) before later old new result) where
    -- after so many of the calls
    each_after : (k s : ℕ) → s < stream_count → files_in new ≡ files_in old ++ seals (take k made) →
        in_stream s (files_in new)
        ≡ take (f.sealed s + length (in_stream s (seals (take k made)))) (stream_files q s items)
    each_after k s small are =
        let number : max (writer.sealed_in old s) (0 + closed_of q s before) - 0
        + length (in_stream s (seals (take k made))) ≡ f.sealed s + length (in_stream s (seals (take k made))) =
        omega (arith, same s small) in
        cc ((done.keeps refl (λ s. []) [] held_before).at_any_moment k s small, whole)

    most_after : (k s : ℕ) → s < stream_count → files_in new ≡ files_in old ++ seals (take k made) →
        f.sealed s + length (in_stream s (seals (take k made))) ≤ closed_of q s items
    most_after k s small are =
        let more = in_stream s (seals (take k made)) in
        let all = stream_files q s items in
        let parts : length (in_stream s (files_in new)) ≡ length (in_stream s (files_in old)) + length more =
        ap (λ fs. length (in_stream s fs)) are
        ∙ ap length (filter-append (λ (file : SealedFile). file.name.stream == s) (files_in old) (seals (take k made)))
        ∙ length-append (in_stream s (files_in old)) more in
        let before = ap length (holds.files.each s small) in
        let after = ap length (each_after k s small are) in
        let most = holds.files.most s small in
        omega (arith, length-take (f.sealed s) all, length-take (f.sealed s + length more) all, files_count q s items)

    only_after : (k : ℕ) → files_in new ≡ files_in old ++ seals (take k made) → AreOfStreams (files_in new)
    only_after k are =
        subst AreOfStreams (sym are) (All-append (λ (file : SealedFile). file.name.stream < stream_count) (files_in old)
        (seals (take k made)) holds.files.only (within q (λ s. 0) (writer.sealed_in old) before later k))

    left_shut : NothingIsLeft shelf_tells q items (writer.shelf_of new)
    left_shut =
        rw joined at
        (done.shut refl refl (begun_after q (λ s. 0) (before ++ later)) (λ s small. omega arith) (rw joined holds.shut))

    -- what is on the shelf then
    pub held_after : (k : ℕ) → files_in new ≡ files_in old ++ seals (take k made) →
        ShelfHolds shelf_tells q (filed_by q items f k).sealed items new
    held_after k are =
        rw (← named) (record {
          settings_are = stays;
          files = record {
            each = λ s small. each_after k s small are;
            most = λ s small. most_after k s small are;
            only = only_after k are;
          };
          shut = left_shut;
          numbered = λ s small. omega (arith, most_after k s small are, fits s small);
        })

  -- All calls ran.
  module _ (n : ℕ) (done : Advances shelf_tells (λ s. 0) before later old new (Ok n))
      (opens : AreOpenFiles q (λ s. 0) items (unsealed_in new)) where
    later_sealed : (s : ℕ) → s < stream_count → writer.sealed_in new s ≤ closed_of q s items
    later_sealed s small = omega (arith, done.sealed s small, same s small, holds.files.most s small)

    all_sealed : (s : ℕ) → s < stream_count →
        in_stream s (files_in new) ≡ take (closed_of q s items) (stream_files q s items)
    all_sealed s small =
        let after : writer.Holds new (λ s. 0) (λ s. []) ((before ++ later) ++ []) (before ++ later) =
        done.holds refl (λ s. []) [] held_before in
        after s small
        ∙ ap
        (λ p. take (max (writer.sealed_in new s) (0 + closed_of p s (before ++ later)) - 0)
        (files_after p (λ s. 0) s ((before ++ later) ++ []))) stays
        ∙ ap (λ xs. take (max (writer.sealed_in new s) (0 + closed_of q s xs) - 0) (stream_files q s (xs ++ []))) joined
        ∙ ap (λ k. take k (stream_files q s (items ++ [])))
        (omega (arith, (later_sealed s small), later_sealed s small))
        ∙ ap (λ xs. take (closed_of q s items) (stream_files q s xs)) (append-nil items)

    all_taken : items ≡ take (length items) items
    all_taken = sym (take_all (length items) items (omega arith))

    pub all_stands : (a : Armed) → IsArmed a (shelf_tells.plan (writer.shelf_of new)) →
        WriterStands shelf_tells q (all_filed q items a) items new
    all_stands a is = record {
      holds = record {
        settings_are = stays;
        files = record {
          each = all_sealed;
          most = λ s small. omega arith;
          only = only_after _ done _ (done.makes.sealed refl).files;
        };
        shut = left_shut _ done;
        numbered = fits;
      };
      is_armed = is;
      on = λ k has. rw (← (same_Some (length items) k has))
          (record { some = omega arith; closed = λ s small. cc all_taken; unsealed = rw all_taken at opens });
    }

    pub all_gone_on : (k : ℕ) → Some (length items) ≡ Some k → HasTaken q (take k items) new
    all_gone_on k has =
        rw (same_Some (length items) k has) at
        (subst (λ xs. HasTaken q xs new) all_taken (record { at = rw joined at done.at; sealed = later_sealed }))

    ended_all : (r : Files) → r.writer ≡ new → r.taken ≡ Some (length items) → length items < 2 ^ 31 → (c : Came) →
        Comes shelf_tells made Went done.makes.tried (writer.shelf_of old) (writer.shelf_of new) c →
        EndsBy q items f c wrote.All r
    ended_all r is taken few (Ran a) comes = (
      refl,
      record {
        writes = rw is (all_stands a comes.is_armed);
        taken = taken;
        few = λ k has. omega (arith, same_Some (length items) k has);
        goes_on = λ k has. rw is (all_gone_on k has);
      },
    )
    ended_all r is taken few _ comes = cc (comes.fails)

    pub all_written : (r : Files) → r.writer ≡ new → r.taken ≡ Some (length items) → length items < 2 ^ 31 →
        HasWritten q items f wrote.All r
    all_written r is taken few =
        let ends = ended_all r is taken few _
        (subst (λ cs. Comes shelf_tells made Went done.makes.tried (writer.shelf_of old) (writer.shelf_of new)
        (calls_under f.armed (length cs))) named (done.makes.planned refl refl f.armed armed)) in
        record { ends = ends.0; stands = ends.1 }

  -- A call failed, and what is armed says which, and how.
  module _ (done : Advances shelf_tells (λ s. 0) before later old new (stopped_by Device)) where
    ended_at : (before r : Files) (w : Wrote) → before.writer ≡ new → before.taken ≡ None →
        BreaksOff Device before w r → (c : Came) →
        Comes shelf_tells made Failed done.makes.tried (writer.shelf_of old) (writer.shelf_of new) c → EndsBy q items f c w r
    ended_at first r w is taken breaks (Ran a) comes = cc (comes.runs)
    ended_at first r w is taken breaks (FailedAt k) comes =
        let armed = comes.is_armed in
        let so = breaks.failed (cc armed.running) in
        (so.0, rw so.1 (rests _ is taken armed (held_after _ done _ (comes.sealed refl))))
    ended_at first r w is taken breaks (StoppedAt k outcome) comes =
        let stopped = ap (λ v. (shelf_tells.plan (writer.shelf_of v)).stopped) is ∙ comes.stopped in
        let sealed : ℕ → ℕ = (filed_by q items f (done_at k outcome)).sealed in (
          breaks.stopped stopped,
          breaks.rests q sealed items stopped (rw is (held_after _ done _ (comes.sealed refl))),
        )

    broken_there : {first : Files} (r : Files) (w : Wrote) → first.writer ≡ new → first.taken ≡ None →
        BreaksOff Device first w r → HasWritten q items f w r
    broken_there {first} r w is taken breaks =
        let came = done.makes.planned refl refl f.armed armed in
        let ends = ended_at first r w is taken breaks (shelf_came q items f)
        (subst (λ cs. Comes shelf_tells made Failed done.makes.tried (writer.shelf_of old)
        (writer.shelf_of new) (calls_under f.armed (length cs))) named came) in
        record { ends = ends.0; stands = ends.1 }

  pub broken_off : (fault : ShelfFault) → Advances shelf_tells (λ s. 0) before later old new (stopped_by fault) →
      {first : Files} (r : Files) (w : Wrote) → first.writer ≡ new → first.taken ≡ None → BreaksOff fault first w r →
      HasWritten q items f w r
  broken_off Device done r w is taken breaks = broken_there done r w is taken breaks
  broken_off NoMemory done r w is taken breaks = cc (breaks.cause)

-- One that recovers, and one that goes on.
module _ (counted : FilesCounted) (items : List Item) (f : Filing) (old mid : Writer MemoryShelf shelf_tells)
    (holds : ShelfHolds shelf_tells (writer.settings_in mid) f.sealed items old)
    (asked : IsAsked shelf_tells false (writer.shelf_of old) (writer.shelf_of mid))
    (recovered : HasRecovered shelf_tells (λ s. 0) 0 old mid) where
  abbrev p : Settings
  p = writer.settings_in mid

  pub greatest_is : (s : ℕ) → s < stream_count → greatest_in s (files_in mid) ≡ f.sealed s
  greatest_is s small =
      counted p s (f.sealed s) items (files_in mid) (cc (asked.files, holds.files.each s small))
      (holds.files.most s small)

  pub sealed_is : (s : ℕ) → s < stream_count → writer.sealed_in mid s ≡ f.sealed s
  sealed_is s small = recovered.sealed refl s small ∙ greatest_is s small

  pub recovered_holds : ShelfHolds shelf_tells p f.sealed items mid
  recovered_holds = kept_holds mid (sym holds.settings_are) asked.files asked.unsealed holds

  pub opens_anew : ShutComeOpen → {new : _} (n : ℕ) →
      Advances shelf_tells (λ s. 0) [] items mid new (Ok n) → AreOpenFiles p (λ s. 0) items (unsealed_in new)
  opens_anew law {new} n done =
      law p (λ s. 0) (writer.sealed_in mid) items (files_in mid) (unsealed_in mid) (unsealed_in new)
      (λ s small. (
        omega arith,
        omega (arith, sealed_is s small, holds.files.most s small),
        recovered.sealed refl s small,
      )) recovered_holds.shut (done.leaves refl)

module _ (goes : OpenGoOn) (items : List Item) (f : Filing) (n : ℕ) (old : Writer MemoryShelf shelf_tells)
    (on : IsOn shelf_tells (writer.settings_in old) items f.sealed n old)
    (taken : HasTaken (writer.settings_in old) (take n items) old) where
  abbrev o : Settings
  o = writer.settings_in old

  pub sealed_there : (s : ℕ) → s < stream_count → max (writer.sealed_in old s) (0 + closed_of o s (take n items)) ≡ f.sealed s
  sealed_there s small = omega (arith, taken.sealed s small, on.closed s small)

  pub opens_behind : {new : _} (k : ℕ) → Advances shelf_tells (λ s. 0) (take n items) (drop n items) old new (Ok k) →
      AreOpenFiles o (λ s. 0) items (unsealed_in new)
  opens_behind {new} k done =
      let front = take n items in
      let behind = drop n items in
      let none = append-nil front in
      rw (ap (λ xs. xs ++ behind) none ∙ take-append-drop n items) at
      (goes o (λ s. 0) (writer.sealed_in old) front [] behind (unsealed_in old) (unsealed_in new)
      (λ s small. rw none (omega (arith, taken.sealed s small))) (rw none on.unsealed) (rw none (done.leaves refl)))

-- A writer that goes on takes the items behind those that it has taken.
module _ (within : SealOfStreams) (beyond : SameCalls) (goes : OpenGoOn) (items later : List Item) (f : Filing) (n : ℕ)
    (first : Files) (new : Writer MemoryShelf shelf_tells)
    (fits : (s : ℕ) → s < stream_count → closed_of (writer.settings_in first.writer) s items < 4294967295)
    (stands : FilesStand (writer.settings_in first.writer) f items first) (has : first.taken ≡ Some n)
    (are : later ≡ drop n items) (stays : writer.settings_in new ≡ writer.settings_in first.writer) where
  abbrev u : Settings
  u = writer.settings_in first.writer

  goes_on : f.taken ≡ Some n
  goes_on = sym stands.taken ∙ has

  on : IsOn shelf_tells u items f.sealed n first.writer
  on = stands.writes.on n goes_on

  taken_first : HasTaken u (take n items) first.writer
  taken_first = stands.goes_on n goes_on

  named_behind : calls shelf_tells (λ s. 0) (take n items) (drop n items) first.writer new ≡ shelf_calls u items f
  named_behind =
      beyond u (λ s. 0) (writer.sealed_in first.writer) f.sealed (take n items) (drop n items)
      (λ s small. omega (arith, taken_first.sealed s small, on.closed s small))
      ∙ ap (λ t. calls_of u (λ s. 0) f.sealed (items_taken t items) (items_given t items)) (sym goes_on)

  pub gone_on : (k : ℕ) → Advances shelf_tells (λ s. 0) (take n items) later first.writer new (Ok k) → (r : Files) →
      r.writer ≡ new → r.taken ≡ Some (n + length later) → n + length later < 2 ^ 31 → HasWritten u items f wrote.All r
  gone_on k done r is taken few =
      let all : n + length later ≡ length items = omega (arith, ap length are, length-drop n items, on.some) in
      let behind = rw are at done in
      all_written within _ _ _ f _ new (take-append-drop n items) stands.writes.is_armed stands.writes.holds
      (sealed_there goes _ f n _ on taken_first) named_behind stays fits k behind
      (opens_behind goes _ f n _ on taken_first k behind) r is (cc) (omega arith)

  pub broken_behind : {fault : _} →
      Advances shelf_tells (λ s. 0) (take n items) later first.writer new (stopped_by fault) → (mid : Files) {r w : _} →
      mid.writer ≡ new → mid.taken ≡ None → BreaksOff fault mid w r → HasWritten u items f w r
  broken_behind done mid {r} {w} is taken breaks =
      broken_off within _ _ _ f _ new (take-append-drop n items) stands.writes.is_armed stands.writes.holds
      (sealed_there goes _ f n _ on taken_first) named_behind stays fits _ (rw are at done) r w is taken breaks

-- One that recovered takes all items.
module _ (counted : FilesCounted) (within : SealOfStreams) (beyond : SameCalls) (come : ShutComeOpen) (items : List Item) (f : Filing)
    (first : Files) (mid new : Writer MemoryShelf shelf_tells)
    (fits : (s : ℕ) → s < stream_count → closed_of (writer.settings_in mid) s items < 4294967295)
    (stands : FilesStand (writer.settings_in mid) f items first) (has : first.taken ≡ None)
    (asked : IsAsked shelf_tells false (writer.shelf_of first.writer) (writer.shelf_of mid))
    (recovered : HasRecovered shelf_tells (λ s. 0) 0 first.writer mid)
    (stays : writer.settings_in new ≡ writer.settings_in mid) where
  abbrev v : Settings
  v = writer.settings_in mid

  starts : f.taken ≡ None
  starts = sym stands.taken ∙ has

  armed_still : IsArmed f.armed (shelf_tells.plan (writer.shelf_of mid))
  armed_still = (asked.planned refl f.armed stands.writes.is_armed).1

  holds_still : ShelfHolds shelf_tells v f.sealed items mid
  holds_still = recovered_holds counted _ f _ mid stands.writes.holds asked recovered

  sealed_still : (s : ℕ) → s < stream_count → writer.sealed_in mid s ≡ f.sealed s
  sealed_still = sealed_is counted _ f _ mid stands.writes.holds asked recovered

  -- of no items no file is closed
  sealed_first : (s : ℕ) → s < stream_count → max (writer.sealed_in mid s) (0 + closed_of v s []) ≡ f.sealed s
  sealed_first s small = let none : closed_of v s [] ≡ 0 = refl in omega (arith, sealed_still s small)

  named_all : calls shelf_tells (λ s. 0) [] items mid new ≡ shelf_calls v items f
  named_all =
      beyond v (λ s. 0) (writer.sealed_in mid) f.sealed [] items (λ s small. cc (sealed_still s small))
      ∙ ap (λ t. calls_of v (λ s. 0) f.sealed (items_taken t items) (items_given t items)) (sym starts)

  pub begun_all : (k : ℕ) → Advances shelf_tells (λ s. 0) [] items mid new (Ok k) → (r : Files) →
      r.writer ≡ new → r.taken ≡ Some (length items) → length items < 2 ^ 31 → HasWritten v items f wrote.All r
  begun_all k done r is taken few =
      all_written within _ [] _ f mid new refl armed_still holds_still sealed_first named_all stays fits k done
      (opens_anew counted _ f _ mid stands.writes.holds asked recovered come k done) r is taken few

  pub broken_anew : {fault : _} → Advances shelf_tells (λ s. 0) [] items mid new (stopped_by fault) → (late : Files)
      {r w : _} → late.writer ≡ new → late.taken ≡ None → BreaksOff fault late w r → HasWritten v items f w r
  broken_anew done late {r} {w} is taken breaks =
      broken_off within _ [] _ f mid new refl armed_still holds_still sealed_first named_all stays fits _ done r w is
      taken breaks

-- More items change nothing of what was written.

abbrev pub FilesGrow : Type 0
FilesGrow = (settings : Settings) (s : ℕ) (items more : List Item) →
    stream_files settings s (items ++ more) ≡ stream_files settings s items ++ later_files settings s items more

abbrev pub ShutStay : Type 0
ShutStay = (settings : Settings) (closed : ℕ → ℕ) (items more : List Item) (files : List SealedFile)
    (unsealed : ℕ → Option UnsealedFile) → AreShut (begun_after settings closed items) files unsealed →
    AreShut (begun_after settings closed (items ++ more)) files unsealed

module _ (grow : FilesGrow) (stay : ShutStay) (settings : Settings) (items more : List Item) where
  more_closed : (s : ℕ) → closed_of settings s items ≤ closed_of settings s (items ++ more)
  more_closed s =
      let fewer = files_count settings s items in
      let all = files_count settings s (items ++ more) in
      let grown = ap length (grow settings s items more) in
      omega (arith, length-append (stream_files settings s items) (later_files settings s items more))

  more_sealed : {sealed files : _} → AreSealed settings items sealed files →
      AreSealed settings (items ++ more) sealed files
  more_sealed {sealed} are = record {
    each = λ s small. are.each s small
        ∙ sym (take-append-le (sealed s) (stream_files settings s items) (later_files settings s items more)
        (omega (arith, are.most s small, files_count settings s items)))
        ∙ ap (take (sealed s)) (sym (grow settings s items more));
    most = λ s small. omega (arith, are.most s small, more_closed s);
    only = are.only;
  }

  more_holds : {sealed w : _} → ShelfHolds shelf_tells settings sealed items w →
      ShelfHolds shelf_tells settings sealed (items ++ more) w
  more_holds {w} holds = record {
    settings_are = holds.settings_are;
    files = more_sealed holds.files;
    shut = stay settings (λ s. 0) items more (files_in w) (unsealed_in w) holds.shut;
    numbered = holds.numbered;
  }

  -- of items that were taken already it takes the same
  same_front : (n : ℕ) → n ≤ length items → take n items ≡ take n (items ++ more)
  same_front n some = sym (take-append-le n items more some)

  more_on : {sealed : _} (n : ℕ) {w : _} → IsOn shelf_tells settings items sealed n w →
      IsOn shelf_tells settings (items ++ more) sealed n w
  more_on n on = record {
    some = omega (arith, length-append items more);
    closed = λ s small. cc (on.closed s small, same_front n on.some);
    unsealed = rw (same_front n on.some) at on.unsealed;
  }

  pub more_stands : (f : Filing) (r : Files) → FilesStand settings f items r → FilesStand settings f (items ++ more) r
  more_stands f r stands = record {
    writes = record {
      holds = more_holds stands.writes.holds;
      is_armed = stands.writes.is_armed;
      on = λ n has. more_on n (stands.writes.on n has);
    };
    taken = stands.taken;
    few = stands.few;
    goes_on = λ n has. rw (same_front n (stands.writes.on n has).some) at (stands.goes_on n has);
  }

-- no read fails, whatever is armed for the calls
pub asks_all : {a old new failed : _} → IsArmed a (shelf_tells.plan old) →
    IsAsked shelf_tells failed old new → failed ≡ true → ⊥
asks_all {a} {failed} armed asked is =
    let none : failed ≡ false = (asked.planned refl a armed).0 in cc

-- One that is made has an empty shelf.
pub made_stands : {settings : _} (w : Writer MemoryShelf shelf_tells) →
    writer.settings_in w ≡ settings → shelf_tells.files (writer.shelf_of w) ≡ [] → ((s : ℕ) → unsealed_in w s ≡ None) →
    (items : List Item) → ShelfHolds shelf_tells settings (λ s. 0) items w
made_stands w settings_is empty none items = record {
  settings_are = settings_is;
  files = record {
    each = λ s small. cc;
    most = λ s small. omega arith;
    only = subst AreOfStreams (sym empty) (All-nil (λ (file : SealedFile). file.name.stream < stream_count));
  };
  shut = record { each = λ s small all. none s; beyond = λ s far. none s };
  numbered = λ s small. omega arith;
}
