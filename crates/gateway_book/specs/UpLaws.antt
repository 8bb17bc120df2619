-- What a call makes of a gateway that is up, by what is armed for the calls of its device.
use Rattle.std.proofs.Common.{◌≡◌, ℕ, ◌≤◌, Bool, true, false, ◌&&◌, if◌then◌else◌, List, [], ◌∷◌, ◌++◌, Option, Some, None, Result, refl, sym, ap, subst, ◌∙◌}
use Rattle.std.specs.Prelude.{◌==◌, IsTrue, nat_le}
use Rattle.std.proofs.lemmas.Bool.{true≢false}
use Rattle.area_disk.specs.Armed.{Armed, Came, IsArmed, ReadsRun, calls_under}
use Rattle.area_disk.specs.Armed.Armed.{Nothing}
use Rattle.area_disk.specs.Armed.Came.{Ran, FailedAt, StoppedAt}
use Rattle.area_disk.specs.ArmedLaws.{armed_reads}
use Rattle.area_disk.specs.Course.{IsTied, course_of}
use Rattle.area_disk.specs.Plan.{Schedule}
use Rattle.area_disk.specs.declared.area.Area.{Ghosts}
use Rattle.area_disk.specs.declared.plan.Outcome3.{Outcome3}
use Rattle.area_disk.specs.declared.plan.Outcome3.TheVariants.{New}
use Rattle.gate_journal.specs.Moments.{Kept, Told}
use Rattle.gate_journal.specs.Planned.{is_new}
use Rattle.cgf_journal.specs.Comes.{CommitComes, ReopenComes}
use Rattle.cgf_journal.specs.Trail.{is_closed, stop_stands, torn_stands}
use Rattle.gw_base.specs.declared.address.Addr.{Addr}
use Rattle.gw_base.specs.declared.history.Caller.{Caller}
use Rattle.gw_base.specs.declared.history.HistoryAct.{HistoryAct}
use Rattle.gw_base.specs.declared.history.HistoryEntry.{HistoryEntry}
use Rattle.gateway_answer.specs.Answer.{decided}
use Rattle.gateway_answer.specs.Answered.{act_decided}
use Rattle.gateway_book.specs.Book.{IsLeft, area_of, fortune_of, header_of, reopening_of, value_of}
use Rattle.gateway_book.specs.Calls.{Left, commit_answer, commit_left, given_at, left_by, marked_at, marked_if_ready}
use Rattle.gateway_book.specs.Comes.{Asked, AsksCommit, AsksNothing, AsksReopening, AsPlanned, CommitsAsPlanned, LeavesFit, ReopensAsPlanned, asked_to_commit, asked_to_ready, asked_with, left_by_stop, plan_of}
use Rattle.gateway_answer.specs.Marks.{Mark, Makes, NoRoom, NotDue}
use Rattle.gateway_book.specs.Opened.{IsOpened, StandsFitFor}
use Rattle.gateway_answer.specs.Preparing.{PreparedValue}
use Rattle.gateway_book.specs.Read.{IsUnchanged}
use Rattle.gateway_book.specs.Up.{Breaks, HasLeft, HoldsHistory, IsCut, IsUp, StandsAfter, Stops, commit_sequel, fortune_by, reopening_sequel, sequel_of}
use Rattle.gateway_answer.specs.Value.{BookValue, Fortune, Gone, Refused, Reopening, Whole, after_commit, is_batch_full, readied, recorded_if, reopened, tried, tried_with}
use Rattle.gateway_book.specs.declared.book.Book.{Book}
use Rattle.gateway_book.specs.declared.outcome.Broken.{Broken}
use Rattle.gateway_book.specs.declared.outcome.Marked.{Marked}
use Rattle.gateway_book.specs.declared.outcome.Marked.TheVariants as marked

and_true : (b : Bool) → (b && true) ≡ b
and_true true = refl
and_true false = refl

found_as : (at_last : Bool) → reopening_of false at_last ≡ (if at_last then Whole else Gone)
found_as true = refl
found_as false = refl

-- what is asked of a book of this value
module _ (v : BookValue) where
  reopening_asked : (other : Asked) → v.is_broken ≡ true → (if v.is_broken then AsksReopening else other) ≡ AsksReopening
  reopening_asked other broken = ap (λ b. if b then AsksReopening else other) broken

  other_asked : (other : Asked) → v.is_broken ≡ false → (if v.is_broken then AsksReopening else other) ≡ other
  other_asked other whole = ap (λ b. if b then AsksReopening else other) whole

  full_asked : (b : Bool) → is_batch_full v ≡ b → (if is_batch_full v then AsksCommit else AsksNothing) ≡ (if b then AsksCommit else AsksNothing)
  full_asked b is = ap (λ c. if c then AsksCommit else AsksNothing) is

  -- and what that makes of it
  module _ (f : Fortune) where
    readied_broken : v.is_broken ≡ true → readied f v ≡ reopened v f.reopening
    readied_broken broken = ap (λ b. if b then reopened v f.reopening else (if is_batch_full v then tried f v else v)) broken

    readied_whole : v.is_broken ≡ false → (b : Bool) → is_batch_full v ≡ b → readied f v ≡ (if b then tried f v else v)
    readied_whole whole b is = ap (λ c. if c then reopened v f.reopening else (if is_batch_full v then tried f v else v)) whole ∙ ap (λ c. if c then tried f v else v) is

    after_broken : v.is_broken ≡ true → after_commit f v ≡ reopened v f.reopening
    after_broken broken = ap (λ b. if b then reopened v f.reopening else tried_with f v v.rest) broken

    after_whole : v.is_broken ≡ false → (h : List HistoryEntry) → v.rest ≡ h → after_commit f v ≡ tried_with f v h
    after_whole whole h is = ap (λ b. if b then reopened v f.reopening else tried_with f v v.rest) whole ∙ ap (λ (g : List HistoryEntry). tried_with f v g) is

-- a gateway that isn't broken, by what its device goes on with
goes_on : {A : Type 0} {tells : Ghosts A} (header : List ℕ) (book : Book A tells) (w : BookValue) (armed : Armed) → value_of book ≡ w → header_of book ≡ header → w.is_broken ≡ false
    → IsTied armed (plan_of book) → (w.is_broken ≡ false) × IsUp header w armed false book
goes_on header book w armed value named still tied = (
  still,
  record {
    value = value;
    named = named;
    is_armed = tied.is_armed;
    has_spare = λ whole. tied.has_spare;
    torn = λ broken. absurd (true≢false (sym broken ∙ still));
  },
)

module _ {A : Type 0} {tells : Ghosts A} (told : Told tells) (fate : IsTrue tells.tells_fate) (header : List ℕ) (v : BookValue) (armed : Armed) (at_last : Bool) (old new : Book A tells) (up : IsUp header v armed at_last old) where
  commit_fails : (came : Came) → CommitComes new.trail (is_closed new.trail) came → is_closed new.trail ≡ (fortune_by at_last (commit_sequel came)).fails
  commit_fails (Ran b) goes = goes.runs
  commit_fails (FailedAt call) failed = failed.fails
  commit_fails (StoppedAt call outcome) stopped = stopped.fails

  finds : (came : Came) → torn_stands old.trail ≡ at_last → ReopenComes old.trail new.trail (is_closed new.trail) came → (fortune_of old new).reopening ≡ (fortune_by at_last (reopening_sequel at_last came)).reopening
  finds (Ran b) torn goes = (λ i. reopening_of (goes.runs i) (torn i)) ∙ found_as at_last
  finds (FailedAt call) torn failed = ap (λ b. reopening_of b (torn_stands old.trail)) failed.fails
  finds (StoppedAt call outcome) torn stopped = ap (λ b. reopening_of b (torn_stands old.trail)) stopped.fails

  -- where a commit was asked, or an opening again
  module _ (whole : v.is_broken ≡ false) (planned : CommitsAsPlanned old new) where
    commit_came : CommitComes new.trail (is_closed new.trail) (calls_under armed 4)
    commit_came = planned.comes fate told armed (record { is_armed = up.is_armed; has_spare = up.has_spare whole })

    tried_is : tried (fortune_of old new) v ≡ tried (fortune_by at_last (sequel_of AsksCommit armed at_last)) v
    tried_is = ap (λ b. tried (record { fails = b; reopening = Refused }) v) (commit_fails (calls_under armed 4) commit_came)

  module _ (broken : v.is_broken ≡ true) (planned : ReopensAsPlanned old new) where
    opening_came : ReopenComes old.trail new.trail (is_closed new.trail) (calls_under armed 1)
    opening_came = planned.comes fate armed up.is_armed

    torn_is : torn_stands old.trail ≡ at_last
    torn_is = planned.finds fate ∙ up.torn broken New ∙ and_true at_last

    reopened_is : reopened v (fortune_of old new).reopening ≡ reopened v (fortune_by at_last (sequel_of AsksReopening armed at_last)).reopening
    reopened_is = ap (λ (r : Reopening). reopened v r) (finds (calls_under armed 1) torn_is opening_came)

  -- the gateway afterwards
  module _ (w : BookValue) (value : value_of new ≡ w) (named : header_of new ≡ header_of old) where
    w_broken : (b : Bool) → is_closed new.trail ≡ b → w.is_broken ≡ b
    w_broken b is = sym (ap (λ (u : BookValue). u.is_broken) value) ∙ is

    name : header_of new ≡ header
    name = named ∙ up.named

    left_is : (outcome : Outcome3) (stands : Bool) → is_closed new.trail ≡ true → stop_stands outcome new.trail ≡ stands → left_by_stop outcome new ≡ (if stands then w.firm ++ w.rest else w.firm)
    left_is outcome stands broken is =
        ap (λ b. if b && stop_stands outcome new.trail then (value_of new).firm ++ (value_of new).rest else (value_of new).firm) broken
        ∙ ap (λ b. if b then (value_of new).firm ++ (value_of new).rest else (value_of new).firm) is
        ∙ ap (λ (u : BookValue). if stands then u.firm ++ u.rest else u.firm) value

    none_stands : v.is_broken ≡ false → w.is_broken ≡ false → area_of new ≡ area_of old → StandsAfter header (sequel_of AsksNothing armed at_last) w new
    none_stands whole still area =
        goes_on header new w armed value name still
        (subst (λ (x : A). IsTied armed (course_of (tells.fate x))) (sym area) (record { is_armed = up.is_armed; has_spare = up.has_spare whole }))

    failed_stands : (last : Bool) → is_closed new.trail ≡ true → IsArmed Nothing (plan_of new).schedule → ((outcome : Outcome3) → stop_stands outcome new.trail ≡ (last && is_new outcome))
        → StandsAfter header (Breaks last) w new
    failed_stands last fails none torn =
        let breaks = w_broken true fails in (
          breaks,
          record {
            value = value;
            named = name;
            is_armed = none;
            has_spare = λ whole. absurd (true≢false (sym breaks ∙ whole));
            torn = λ broken. torn;
          },
        )

    stopped_stands : (stands : Bool) → is_closed new.trail ≡ true → (plan_of new).schedule.stopped ≡ true → ((outcome : Outcome3) → stop_stands outcome new.trail ≡ stands)
        → StandsAfter header (Stops stands) w new
    stopped_stands stands fails stopped left = record { named = name; stopped = stopped; leaves = λ o. left_is o stands fails (left o) }

    commit_stands : (came : Came) → CommitComes new.trail (is_closed new.trail) came → StandsAfter header (commit_sequel came) w new
    commit_stands (Ran b) goes = goes_on header new w b value name (w_broken false goes.runs) goes.tied
    commit_stands (FailedAt call) failed = failed_stands (call == 4) failed.fails failed.armed failed.left
    commit_stands (StoppedAt call outcome) stopped = stopped_stands (nat_le 3 call && is_new outcome) stopped.fails stopped.stopped stopped.left

    opening_stands : v.is_broken ≡ true → (came : Came) → ReopenComes old.trail new.trail (is_closed new.trail) came → StandsAfter header (reopening_sequel at_last came) w new
    opening_stands broken (Ran b) goes = goes_on header new w b value name (w_broken false goes.runs) goes.tied
    opening_stands broken (FailedAt call) failed =
        failed_stands at_last failed.fails failed.armed (λ outcome. failed.left outcome ∙ up.torn broken outcome)
    opening_stands broken (StoppedAt call outcome) stopped =
        stopped_stands (at_last && is_new outcome) stopped.fails stopped.stopped (λ o. stopped.left o ∙ up.torn broken outcome)

  -- what came before an answer or a mark
  readied_as : (b : Bool) → v.is_broken ≡ b → (c : Bool) → is_batch_full v ≡ c → AsPlanned old new (asked_to_ready v)
      → readied (fortune_of old new) v ≡ readied (fortune_by at_last (sequel_of (asked_to_ready v) armed at_last)) v
  readied_as true broken c full planned =
      let asks = reopening_asked v (if is_batch_full v then AsksCommit else AsksNothing) broken in
      readied_broken v (fortune_of old new) broken
      ∙ reopened_is broken (subst (λ (a : Asked). AsPlanned old new a) asks planned)
      ∙ sym (readied_broken v (fortune_by at_last (sequel_of AsksReopening armed at_last)) broken)
      ∙ sym (ap (λ (a : Asked). readied (fortune_by at_last (sequel_of a armed at_last)) v) asks)
  readied_as false whole true full planned =
      let asks = other_asked v (if is_batch_full v then AsksCommit else AsksNothing) whole ∙ full_asked v true full in
      readied_whole v (fortune_of old new) whole true full
      ∙ tried_is whole (subst (λ (a : Asked). AsPlanned old new a) asks planned)
      ∙ sym (readied_whole v (fortune_by at_last (sequel_of AsksCommit armed at_last)) whole true full)
      ∙ sym (ap (λ (a : Asked). readied (fortune_by at_last (sequel_of a armed at_last)) v) asks)
  readied_as false whole false full planned =
      readied_whole v (fortune_of old new) whole false full
      ∙ sym (readied_whole v (fortune_by at_last (sequel_of (asked_to_ready v) armed at_last)) whole false full)

  -- the book after a call whose answer and value go by what it is readied to, and which breaks it no further
  module _ {R : Type 0} (leaves : BookValue → Left R) (keeps : (r : BookValue) → (leaves r).value.is_broken ≡ r.is_broken) where
    ready_stands : (b : Bool) → v.is_broken ≡ b → (c : Bool) → is_batch_full v ≡ c → AsPlanned old new (asked_to_ready v) → header_of new ≡ header_of old → (w : BookValue) → value_of new ≡ w
        → w ≡ (leaves (readied (fortune_by at_last (sequel_of (asked_to_ready v) armed at_last)) v)).value → StandsAfter header (sequel_of (asked_to_ready v) armed at_last) w new
    ready_stands true broken c full planned named w value is =
        let asks = reopening_asked v (if is_batch_full v then AsksCommit else AsksNothing) broken in
        subst (λ (a : Asked). StandsAfter header (sequel_of a armed at_last) w new) (sym asks)
        (opening_stands w value named broken (calls_under armed 1) (opening_came broken (subst (λ (a : Asked). AsPlanned old new a) asks planned)))
    ready_stands false whole true full planned named w value is =
        let asks = other_asked v (if is_batch_full v then AsksCommit else AsksNothing) whole ∙ full_asked v true full in
        subst (λ (a : Asked). StandsAfter header (sequel_of a armed at_last) w new) (sym asks)
        (commit_stands w value named (calls_under armed 4) (commit_came whole (subst (λ (a : Asked). AsPlanned old new a) asks planned)))
    ready_stands false whole false full planned named w value is =
        let asks = other_asked v (if is_batch_full v then AsksCommit else AsksNothing) whole ∙ full_asked v false full in
        let still : w.is_broken ≡ false =
        ap (λ (u : BookValue). u.is_broken) is
        ∙ keeps (readied (fortune_by at_last (sequel_of (asked_to_ready v) armed at_last)) v)
        ∙ ap (λ (u : BookValue). u.is_broken) (readied_whole v (fortune_by at_last (sequel_of (asked_to_ready v) armed at_last)) whole false full)
        ∙ whole in
        subst (λ (a : Asked). StandsAfter header (sequel_of a armed at_last) w new) (sym asks)
        (none_stands w value named whole still (subst (λ (a : Asked). AsPlanned old new a) asks planned))

    pub has_readied : (result : R) → IsLeft old new (leaves (readied (fortune_of old new) (value_of old))) result → header_of new ≡ header_of old → AsPlanned old new (asked_to_ready (value_of old))
        → HasLeft header (sequel_of (asked_to_ready v) armed at_last) (leaves (readied (fortune_by at_last (sequel_of (asked_to_ready v) armed at_last)) v)) new result
    has_readied result left named planned =
        let asked = subst (λ (u : BookValue). AsPlanned old new (asked_to_ready u)) up.value planned in
        let ready = ap (λ (u : BookValue). readied (fortune_of old new) u) up.value ∙ readied_as v.is_broken refl (is_batch_full v) refl asked in
        let value = left.value ∙ ap (λ (r : BookValue). (leaves r).value) ready in
        record {
          answer = left.answer ∙ ap (λ (r : BookValue). (leaves r).answer) ready;
          stands = ready_stands v.is_broken refl (is_batch_full v) refl asked named (leaves (readied (fortune_by at_last (sequel_of (asked_to_ready v) armed at_last)) v)).value value refl;
        }

  -- a commit
  committed_as : (b : Bool) → v.is_broken ≡ b → (h : List HistoryEntry) → v.rest ≡ h → AsPlanned old new (asked_to_commit v)
      → after_commit (fortune_of old new) v ≡ after_commit (fortune_by at_last (sequel_of (asked_to_commit v) armed at_last)) v
  committed_as true broken h rest planned =
      let asks = reopening_asked v (asked_with v.rest) broken in
      after_broken v (fortune_of old new) broken
      ∙ reopened_is broken (subst (λ (a : Asked). AsPlanned old new a) asks planned)
      ∙ sym (after_broken v (fortune_by at_last (sequel_of AsksReopening armed at_last)) broken)
      ∙ sym (ap (λ (a : Asked). after_commit (fortune_by at_last (sequel_of a armed at_last)) v) asks)
  committed_as false whole [] rest planned =
      after_whole v (fortune_of old new) whole [] rest
      ∙ sym (after_whole v (fortune_by at_last (sequel_of (asked_to_commit v) armed at_last)) whole [] rest)
  committed_as false whole (e ∷ h) rest planned =
      let asks = other_asked v (asked_with v.rest) whole ∙ ap asked_with rest in
      after_whole v (fortune_of old new) whole (e ∷ h) rest
      ∙ tried_is whole (subst (λ (a : Asked). AsPlanned old new a) asks planned)
      ∙ sym (after_whole v (fortune_by at_last (sequel_of AsksCommit armed at_last)) whole (e ∷ h) rest)
      ∙ sym (ap (λ (a : Asked). after_commit (fortune_by at_last (sequel_of a armed at_last)) v) asks)

  committed_stands : (b : Bool) → v.is_broken ≡ b → (h : List HistoryEntry) → v.rest ≡ h → AsPlanned old new (asked_to_commit v) → header_of new ≡ header_of old → (w : BookValue) → value_of new ≡ w
      → w ≡ after_commit (fortune_by at_last (sequel_of (asked_to_commit v) armed at_last)) v → StandsAfter header (sequel_of (asked_to_commit v) armed at_last) w new
  committed_stands true broken h rest planned named w value is =
      let asks = reopening_asked v (asked_with v.rest) broken in
      subst (λ (a : Asked). StandsAfter header (sequel_of a armed at_last) w new) (sym asks)
      (opening_stands w value named broken (calls_under armed 1) (opening_came broken (subst (λ (a : Asked). AsPlanned old new a) asks planned)))
  committed_stands false whole [] rest planned named w value is =
      let asks = other_asked v (asked_with v.rest) whole ∙ ap asked_with rest in
      let still : w.is_broken ≡ false =
      ap (λ (u : BookValue). u.is_broken) (is ∙ after_whole v (fortune_by at_last (sequel_of (asked_to_commit v) armed at_last)) whole [] rest) ∙ whole in
      subst (λ (a : Asked). StandsAfter header (sequel_of a armed at_last) w new) (sym asks)
      (none_stands w value named whole still (subst (λ (a : Asked). AsPlanned old new a) asks planned))
  committed_stands false whole (e ∷ h) rest planned named w value is =
      let asks = other_asked v (asked_with v.rest) whole ∙ ap asked_with rest in
      subst (λ (a : Asked). StandsAfter header (sequel_of a armed at_last) w new) (sym asks)
      (commit_stands w value named (calls_under armed 4) (commit_came whole (subst (λ (a : Asked). AsPlanned old new a) asks planned)))

  pub has_committed : (result : Result ℕ Broken) → IsLeft old new (commit_left (fortune_of old new) (value_of old)) result → header_of new ≡ header_of old → AsPlanned old new (asked_to_commit (value_of old))
      → HasLeft header (sequel_of (asked_to_commit v) armed at_last) (commit_left (fortune_by at_last (sequel_of (asked_to_commit v) armed at_last)) v) new result
  has_committed result left named planned =
      let asked = subst (λ (u : BookValue). AsPlanned old new (asked_to_commit u)) up.value planned in
      let after = ap (λ (u : BookValue). after_commit (fortune_of old new) u) up.value ∙ committed_as v.is_broken refl v.rest refl asked in
      record {
        answer = left.answer ∙ ap commit_answer after;
        stands = committed_stands v.is_broken refl v.rest refl asked named (after_commit (fortune_by at_last (sequel_of (asked_to_commit v) armed at_last)) v) (left.value ∙ after) refl;
      }

-- an answer, and a mark, leave a book broken or not as it was readied
recorded_keeps : (r : BookValue) (now : ℕ) (who : Caller) (act : Option HistoryAct) → (recorded_if r now who act).is_broken ≡ r.is_broken
recorded_keeps r now who None = refl
recorded_keeps r now who (Some act) = refl

pub taken_keeps : (from : Addr) (datagram : PreparedValue) (size now : ℕ) (who : Caller) (r : BookValue) → (left_by r now who (decided (given_at r from datagram size))).value.is_broken ≡ r.is_broken
taken_keeps from datagram size now who r = recorded_keeps r now who (act_decided (decided (given_at r from datagram size)))

marked_keeps : (r : BookValue) (now : ℕ) (who : Caller) (mark : Mark) → (marked_at r now who mark).value.is_broken ≡ r.is_broken
marked_keeps r now who NotDue = refl
marked_keeps r now who NoRoom = refl
marked_keeps r now who (Makes act) = refl

pub mark_keeps : (r : BookValue) (now : ℕ) (who : Caller) (mark : Mark) → (marked_if_ready r now who mark).value.is_broken ≡ r.is_broken
mark_keeps r now who mark = by_state r.is_broken refl
  where
    by_state : (b : Bool) → r.is_broken ≡ b → (marked_if_ready r now who mark).value.is_broken ≡ r.is_broken
    by_state true broken = ap (λ (l : Left Marked). l.value.is_broken) (ap (λ c. if c then record { value = r; answer = marked.Device } else marked_at r now who mark) broken)
    by_state false whole = ap (λ (l : Left Marked). l.value.is_broken) (ap (λ c. if c then record { value = r; answer = marked.Device } else marked_at r now who mark) whole) ∙ marked_keeps r now who mark

-- the area of a gateway that is up, and of one that is cut
module _ {A : Type 0} {tells : Ghosts A} (told : Told tells) (fate : IsTrue tells.tells_fate) (header : List ℕ) (book : Book A tells) (leaves : LeavesFit book) where
  pub cut_holds_history : (h : List HistoryEntry) → IsCut header h book → HoldsHistory tells header h (area_of book)
  cut_holds_history h cut = record {
    stands = subst (λ (x : List ℕ). StandsFitFor x (tells.octets (area_of book)) h) cut.named
        (subst (λ (g : List HistoryEntry). StandsFitFor (header_of book) (tells.octets (area_of book)) g) (cut.leaves New) (leaves.reads fate told));
  }

  module _ (v : BookValue) (armed : Armed) (at_last : Bool) (up : IsUp header v armed at_last book) (outcome : Outcome3) where
    stop_is : (b : Bool) → v.is_broken ≡ b → left_by_stop outcome book ≡ (if b && (at_last && is_new outcome) then v.firm ++ v.rest else v.firm)
    stop_is true broken =
        ap (λ b. if b && stop_stands outcome book.trail then (value_of book).firm ++ (value_of book).rest else (value_of book).firm) (ap (λ (u : BookValue). u.is_broken) up.value ∙ broken)
        ∙ ap (λ b. if b then (value_of book).firm ++ (value_of book).rest else (value_of book).firm) (up.torn broken outcome)
        ∙ ap (λ (u : BookValue). if at_last && is_new outcome then u.firm ++ u.rest else u.firm) up.value
    stop_is false whole =
        ap (λ b. if b && stop_stands outcome book.trail then (value_of book).firm ++ (value_of book).rest else (value_of book).firm) (ap (λ (u : BookValue). u.is_broken) up.value ∙ whole)
        ∙ ap (λ (u : BookValue). u.firm) up.value

    pub up_leaves : StandsFitFor header ((tells.fate (area_of book)).leaves outcome) (if v.is_broken && (at_last && is_new outcome) then v.firm ++ v.rest else v.firm)
    up_leaves = subst (λ (x : List ℕ). StandsFitFor x ((tells.fate (area_of book)).leaves outcome) (if v.is_broken && (at_last && is_new outcome) then v.firm ++ v.rest else v.firm)) up.named
        (subst (λ (g : List HistoryEntry). StandsFitFor (header_of book) ((tells.fate (area_of book)).leaves outcome) g) (stop_is v.is_broken refl) (leaves.stop fate told outcome))

-- a gateway that was opened is up
pub opened_is_up : {A : Type 0} {tells : Ghosts A} (header : List ℕ) (area : A) (open_time : ℕ) (book : Book A tells) (w : BookValue) (armed : Armed) → IsOpened header area open_time book → value_of book ≡ w
    → IsTied armed (plan_of book) → (w.is_broken ≡ false) × IsUp header w armed false book
opened_is_up header area open_time book w armed opened value tied =
    goes_on header book w armed value opened.named (sym (ap (λ (u : BookValue). u.is_broken) value) ∙ opened.whole) tied

-- a gateway whose items were read
module _ {A : Type 0} {tells : Ghosts A} (fate : IsTrue tells.tells_fate) (header : List ℕ) (v : BookValue) (armed : Armed) (at_last : Bool) where
  pub up_reads : (book : Book A tells) → IsUp header v armed at_last book → ReadsRun (tells.fate (area_of book)).schedule
  up_reads book up = record { running = up.is_armed.running; reads = up.is_armed.reads }

  pub up_stays : (old new : Book A tells) → Told tells → IsUp header v armed at_last old → IsUnchanged old new → Kept tells (area_of old) (area_of new)
      → ((outcome : Outcome3) → stop_stands outcome new.trail ≡ stop_stands outcome old.trail) → IsUp header v armed at_last new
  up_stays old new told up same kept stands =
      let plan = kept.planned fate in
      record {
        value = same.value told ∙ up.value;
        named = same.stays.header ∙ up.named;
        is_armed = subst (λ (s : Schedule). IsArmed armed s) (sym plan.schedule) (armed_reads armed (plan_of old).schedule (plan_of new).schedule.reads up.is_armed);
        has_spare = λ whole. subst (λ (n : ℕ). 1 ≤ n) (sym plan.spare) (up.has_spare whole);
        torn = λ broken outcome. stands outcome ∙ up.torn broken outcome;
      }
