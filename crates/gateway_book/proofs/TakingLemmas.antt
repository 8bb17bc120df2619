-- What an answer leaves of a book.
use Rattle.std.proofs.Common.{◌≡◌, ℕ, ◌≤◌, Bool, false, if◌then◌else◌, List, [], ◌∷◌, ◌++◌, Option, Some, None, refl, sym, ap, subst, ◌∙◌, append_assoc, arith, true, rules}
use Rattle.gateway_book.proofs.Names.{act_decided, Addr, AddsIf, all_entries, AllFit, answer_to, answer_within, area_of, BookValue, Caller, Close, close_mark, Decided, decided, Done, entries, entry_by, entry_of, firm_entries, FirmStays, fit_more, Follows, Fortune, Ghosts, Given, has_room, history_of, HistoryAct, HistoryEntry, IfRecords, Index, is_close_due, is_closed, IsAdded, IsFit, IsFollowed, IsSame, IsWhole, last_is_in_range, latest_moment, left_by, length_of, made_if, marked_at, MayCome, moment_after, node_of, observed, observed_by, Outcome, outcome_at, PreparedValue, readied, recorded, recorded_if, room_for, room_told, Says, Silent, tick_mark, ticked, Told, Trail, waiting, Why}
use Rattle.gateway_answer.specs.FitLaws.{answer_fits, room_is_for_each}
use Rattle.gateway_book.specs.Taking.{IsDone}
use Rattle.gateway_book.specs.declared.adding.Done.TheVariants as done
use Rattle.gateway_book.proofs.Openings.{fit_may_grow}
use Rattle.gateway_book.specs.Marking.{IsMark, with_entry}

-- what a step did with an answer, by its trails and indices
abbrev pub IfSilent : {A : Type 0} {tells : Ghosts A} → Trail A tells → Trail A tells → Index → Index → Decided → Done → Type 0
IfSilent old new before after decision finished = (why : Why) → finished ≡ done.Silent why → (decision ≡ Silent why) × IsSame old new before after

abbrev pub IfSaid : {A : Type 0} {tells : Ghosts A} → Trail A tells → Trail A tells → Index → Index → ℕ → Caller → Decided → Done → Type 0
IfSaid old new before after moment who decision finished =
    (reply : List ℕ) → finished ≡ done.Said reply → (a : Option HistoryAct) × (decision ≡ Says reply a) × AddsIf old new before after moment who a

module _ {A : Type 0} {tells : Ghosts A} {old new : Trail A tells} {before after : Index} where
  pub followed_added : {e : HistoryEntry} → IsFollowed old before → IsAdded old new before after e
      → (Told tells → IsFit (tells.size (area_of old)) (all_entries old) e) → IsFollowed new after
  followed_added {e} followed added fits = record {
    short = rw (ap tells.size added.stays.area) followed.short;
    firm = λ told. rw added.stays.listed (added.firm (firm_entries old) (followed.firm told));
    live = λ told. subst (λ (h : List HistoryEntry). Follows false after h) (sym all)
        (added.live (all_entries old) (fit_may_grow (tells.size (area_of old)) (all_entries old) followed.short (followed.fit told)) (followed.live told));
    fit = λ told. rw (ap tells.size added.stays.area) (subst (λ (h : List HistoryEntry). AllFit (tells.size (area_of old)) h) (sym all)
        (fit_more (tells.size (area_of old)) [] (all_entries old) e (followed.fit told) (fits told)));
  }
    where
      all : all_entries new ≡ all_entries old ++ e ∷ []
      all = (λ i. added.stays.listed i ++ added.pushed.waits i) ∙ sym (append_assoc (firm_entries old) (waiting old) (e ∷ []))

  pub followed_same : IsFollowed old before → IsSame old new before after → IsFollowed new after
  followed_same followed same = rw (same.trail, same.index) followed

  -- whatever an answer did, the index follows the trail
  pub followed_answer : {moment : ℕ} {who : Caller} {decision : Decided} (finished : Done) → IsFollowed old before
      → IfSilent old new before after decision finished → IfSaid old new before after moment who decision finished
      → (Told tells → (reply : List ℕ) (a : HistoryAct) → finished ≡ done.Said reply → decision ≡ Says reply (Some a)
      → IsFit (tells.size (area_of old)) (all_entries old) (entry_of moment who a)) → IsFollowed new after
  followed_answer {moment} {who} {decision} (done.Silent why) followed silent said fits = followed_same followed (silent why refl).1
  followed_answer {moment} {who} {decision} (done.Said reply) followed silent said fits = by_act (said reply refl).0 (said reply refl).1 (said reply refl).2
    where
      by_act : (a : Option HistoryAct) → decision ≡ Says reply a → AddsIf old new before after moment who a → IsFollowed new after
      by_act None is same = followed_same followed same
      by_act (Some a) is added = followed_added followed added (λ told. fits told reply a refl is)

-- ---- what was answered, as the area tells

same_room : {A : Type 0} {tells : Ghosts A} (trail : Trail A tells) (now moment : ℕ) (who : Caller) → is_closed trail ≡ false
    → moment ≡ moment_after (all_entries trail) now → room_told trail moment who ≡ room_for (all_entries trail) (tells.size (area_of trail))
same_room {tells = tells} trail now moment who open_now at = λ i a. (by_parts a ∙ room_is_for_each (all_entries trail) (tells.size (area_of trail)) now who a) i
  where
    by_parts : (a : HistoryAct) → has_room (entries trail) (entry_of moment who a) (tells.size (area_of trail))
        ≡ has_room (all_entries trail) (entry_by (all_entries trail) now who a) (tells.size (area_of trail))
    by_parts a = λ i. has_room (if open_now i then firm_entries trail else all_entries trail) (entry_of (at i) who a) (tells.size (area_of trail))

pub answered_is : {A : Type 0} {tells : Ghosts A} (trail : Trail A tells) (index : Index) (from : Addr) (datagram : PreparedValue) (now moment : ℕ)
    (who : Caller) → is_closed trail ≡ false → moment ≡ moment_after (all_entries trail) now
    → ((room : HistoryAct → Bool) → answer_within (observed_by false index (node_of from)) from datagram room
    ≡ answer_within (observed (all_entries trail) (node_of from)) from datagram room)
    → decided (answer_within (observed_by false index (node_of from)) from datagram (room_told trail moment who))
    ≡ decided (answer_to (all_entries trail) from datagram (tells.size (area_of trail)))
answered_is trail index from datagram now moment who open_now at answers =
    ap decided (answers (room_told trail moment who))
    ∙ ap (λ (room : HistoryAct → Bool). decided (answer_within (observed (all_entries trail) (node_of from)) from datagram room)) (same_room trail now moment who open_now at)

-- what is recorded is fit
pub fit_of : (size : ℕ) (h : List HistoryEntry) (now : ℕ) (who : Caller) (given : Given) (reply : List ℕ) (a : HistoryAct)
    → IfRecords (λ number message b. IsFit size h (entry_by h now who b)) given → decided given ≡ Says reply (Some a) → IsFit size h (entry_by h now who a)
fit_of size h now who given reply a fits e = search rules

-- ---- what a book stands for afterwards

-- what a book with this trail and so many cuts stands for
abbrev pub standing : {A : Type 0} {tells : Ghosts A} → Trail A tells → ℕ → BookValue
standing trail cuts = record { firm = firm_entries trail; rest = waiting trail; cuts = cuts; is_broken = is_closed trail }

pub history_is : {A : Type 0} {tells : Ghosts A} (trail : Trail A tells) (cuts : ℕ) → is_closed trail ≡ false → history_of (standing trail cuts) ≡ all_entries trail
history_is trail cuts open_now = λ i. if open_now i then firm_entries trail else all_entries trail

pub stands_same : {A : Type 0} {tells : Ghosts A} {old new : Trail A tells} (cuts : ℕ) → new ≡ old → standing new cuts ≡ standing old cuts
stands_same {A} {tells} cuts e = ap (λ (t : Trail A tells). standing t cuts) e

pub stands_after : {A : Type 0} {tells : Ghosts A} (old new : Trail A tells) (before after : Index) (cuts now moment : ℕ) (who : Caller)
    (a : Option HistoryAct) → is_closed old ≡ false → moment ≡ moment_after (all_entries old) now → AddsIf old new before after moment who a
    → standing new cuts ≡ recorded_if (standing old cuts) now who a
stands_after old new before after cuts now moment who a open_now at same = grind (arith, stands_same, history_is)

-- ---- the whole of an answer

module _ {A : Type 0} {tells : Ghosts A} {old new : Trail A tells} {before after : Index} (moment : ℕ) (who : Caller) where
  -- what is so where nothing changed, and where an entry was added, is so whatever an answer did
  adds_hold : (P : Trail A tells → Trail A tells → Type 0) → P old old → ((e : HistoryEntry) → IsAdded old new before after e → P old new)
      → (a : Option HistoryAct) → AddsIf old new before after moment who a → P old new
  adds_hold P same added a is = search rules

  done_holds : {decision : Decided} (P : Trail A tells → Trail A tells → Type 0) → P old old → ((e : HistoryEntry) → IsAdded old new before after e → P old new)
      → (finished : Done) → IfSilent old new before after decision finished → IfSaid old new before after moment who decision finished → P old new
  done_holds P same added (done.Silent why) silent said = rw (silent why refl).1.trail same
  done_holds P same added (done.Said reply) silent said = adds_hold P same added (said reply refl).0 (said reply refl).2

  -- the firm entries stay
  pub firm_stays : {decision : Decided} (finished : Done) → IfSilent old new before after decision finished → IfSaid old new before after moment who decision finished → FirmStays old new
  firm_stays finished silent said =
      done_holds (λ (one : Trail A tells) (other : Trail A tells). FirmStays one other)
      (record { listed = refl; count = refl; places = λ k place is. is; opened = refl; area = refl; header = refl }) (λ e added. added.stays) finished silent said

  -- and no entry is lost
  pub none_is_lost : {decision : Decided} (finished : Done) → IfSilent old new before after decision finished → IfSaid old new before after moment who decision finished
      → length_of old ≤ length_of new
  none_is_lost finished silent said =
      done_holds (λ (one : Trail A tells) (other : Trail A tells). length_of one ≤ length_of other) (omega arith) (λ e added. omega (arith, added.pushed.count))
      finished silent said

  -- what was done is what was decided
  pub done_is : (now cuts : ℕ) {decision told_decision : Decided} (finished : Done) → is_closed old ≡ false → moment ≡ moment_after (all_entries old) now
      → decision ≡ told_decision → IfSilent old new before after decision finished → IfSaid old new before after moment who decision finished
      → IsDone finished (standing old cuts) (standing new cuts) now who told_decision
  done_is now cuts finished open_now at is silent said = search (rules, stands_same, stands_after)

-- what an answer records is fit
pub recorded_is_fit : {size : ℕ} {h : List HistoryEntry} (from : Addr) (datagram : PreparedValue) {now moment : ℕ} (who : Caller) {decision : Decided}
    {reply : List ℕ} {a : HistoryAct} → AllFit size h → IsWhole datagram → now ≤ latest_moment → moment ≡ moment_after h now
    → decision ≡ decided (answer_to h from datagram size) → decision ≡ Says reply (Some a) → IsFit size h (entry_of moment who a)
recorded_is_fit {size} {h} from datagram {now} {moment} who {decision} {reply} {a} fit whole here at is says =
    subst (λ (m : ℕ). IsFit size h (entry_of m who a)) (sym at)
    (fit_of size h now who (answer_to h from datagram size) reply a (answer_fits h from datagram size now who whole (last_is_in_range size h fit) here) (sym is ∙ says))

-- ---- what a call leaves

module _ (old new : BookValue) (now : ℕ) (who : Caller) (decision : Decided) where
  pub left_value : (other : Decided) → decision ≡ other → new ≡ recorded_if old now who (act_decided other) → new ≡ (left_by old now who decision).value
  left_value other same is = is ∙ ap (λ (d : Decided). recorded_if old now who (act_decided d)) (sym same)

  pub left_answer : (result : Outcome) → new ≡ (left_by old now who decision).value → result ≡ outcome_at new decision → result ≡ (left_by old now who decision).answer
  left_answer result value is = is ∙ ap (λ (v : BookValue). outcome_at v decision) value

-- ---- how a mark is added to a book

-- a mark may always come
pub mark_may_come : (index : Index) (act : HistoryAct) → IsMark act → MayCome act index
mark_may_come index act is = search rules

-- the room for an entry of an open trail
pub room_of_open : {A : Type 0} {tells : Ghosts A} (trail : Trail A tells) (e : HistoryEntry) → is_closed trail ≡ false
    → has_room (entries trail) e (tells.size (area_of trail)) ≡ has_room (all_entries trail) e (tells.size (area_of trail))
room_of_open trail e open_now = rw open_now refl

pub room_of_mark : (size : ℕ) (h : List HistoryEntry) (now moment : ℕ) (who : Caller) (act : HistoryAct) → moment ≡ moment_after h now → has_room h (entry_of moment who act) size ≡ room_for h size act
room_of_mark size h now moment who act at = ap (λ (m : ℕ). has_room h (entry_of m who act) size) at ∙ room_is_for_each h size now who act

-- the entry of a mark is the one that is recorded
pub put_is_recorded : (v : BookValue) (h : List HistoryEntry) (now moment : ℕ) (who : Caller) (act : HistoryAct) → history_of v ≡ h → moment ≡ moment_after h now → with_entry v (entry_of moment who act) ≡ recorded v now who act
put_is_recorded v h now moment who act is at = ap (λ (m : ℕ). with_entry v (entry_of m who act)) (at ∙ ap (λ (g : List HistoryEntry). moment_after g now) (sym is))

-- ---- which mark is made

pub close_made : (h all : List HistoryEntry) → h ≡ all → (size : ℕ) → is_close_due all ≡ true → room_for all size Close ≡ true
    → made_if (room_for all size Close) Close ≡ close_mark h
close_made h all is size due room = rw (room, is, due) refl

-- a Tick of a book that is ready is the one that was asked for
pub tick_of_ready : (f : Fortune) (v ready : BookValue) (open_time size time_then size_then now : ℕ) (who : Caller) → ready ≡ readied f v
    → ready.is_broken ≡ false → time_then ≡ open_time → size_then ≡ size
    → marked_at ready now who (tick_mark time_then now (history_of ready) size_then) ≡ ticked f open_time size now who v
tick_of_ready f v ready open_time size time_then size_then now who is goes times sizes = grind arith
