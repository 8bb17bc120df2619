-- What a call makes of a book, and that a gateway goes as what is armed for its area says.
use Rattle.std.proofs.Common.{◌≡◌, ◌∙◌, refl, sym, ℕ, Bool, true, false, if◌then◌else◌, List, [], ◌∷◌, ◌++◌, arith, ap, not, ◌||◌, ◌&&◌, All, map, filter, Some, None}
use Rattle.replay_gateway.proofs.Names.{act_decided, after_commit, AfterCall, AllByRecursion, append-nil, Armed, Asked, asked_by, asked_move, asked_to_commit, asked_value, asked_with, AsksNothing, AsksReopening, BookValue, Breaks, committed, committing, cond_both, Decided, faulted, followed, Fortune, fortune_by, Gateway, giving_up, GoesAsArmed, GoesOn, HasMoved, history_of, HistoryAct, HistoryEntry, if_broken, is_batch_full, is_reached, is_stop, IsCalled, left_by, Machine, machine_after, machine_with, MachineStands, making_close, making_tick, marked, marked_at, marked_if_ready, Message, Moved, moved_after, moved_by, no_caller, readied, ready_sequel_of, readying, recorded_if, recorded_where, recursion_from_All, Refused, reopened, Reopening, rules_in, Sent, Sequel, sequel_of, sequel_on, settling, Setup, Site, SiteIsCalled, SiteStands, still, Stops, tried, tried_with, Up, Waiting, Whole, with_book}
use Rattle.gateway_answer.specs.Marks.{Mark, NotDue, Makes, close_mark, made_if, tick_mark}
use Rattle.gw_base.specs.declared.history.Caller.{Caller}
use Rattle.std.specs.Prelude.{Option}
use Rattle.gw_base.specs.declared.history.HistoryAct.TheVariants.{Tick, Close}
use Rattle.replay_gateway.specs.declared.machine.Machine as real
use Rattle.replay_gateway.specs.declared.calls.GatewayCall.{GatewayCall}
use Rattle.replay_gateway.specs.declared.calls.GatewayCall.TheVariants as call

-- What a call makes of a book's value: which entries stay, and what a stop leaves.

-- the firm entries stay, and more may follow them
abbrev pub Grows : BookValue → BookValue → Type 0
Grows v w = (more : List HistoryEntry) × (w.firm ≡ v.firm ++ more)

-- all entries stay, and none follows
abbrev pub Keeps : BookValue → BookValue → Type 0
Keeps v w = (w.firm ≡ v.firm) × (w.rest ≡ v.rest)

-- What grows.

no_more : (v : BookValue) → Grows v v
no_more v = ([], sym (append-nil v.firm))

reopened_grows : (v : BookValue) (r : Reopening) → Grows v (reopened v r)
reopened_grows v Whole = (v.rest, refl)
reopened_grows v _ = ([], sym (append-nil v.firm))

tried_by : (v : BookValue) (fails : Bool) → Grows v (if fails then faulted v else committed v)
tried_by v true = ([], sym (append-nil v.firm))
tried_by v false = (v.rest, refl)

tried_with_grows : (f : Fortune) (v : BookValue) (rest : List HistoryEntry) → Grows v (tried_with f v rest)
tried_with_grows f v [] = no_more v
tried_with_grows f v (e ∷ rest) = tried_by v _

pub commit_grows : (f : Fortune) (v : BookValue) → Grows v (after_commit f v)
commit_grows f v =
    cond_both v.is_broken _ _ (Grows v) (λ is. reopened_grows v f.reopening) (λ is. tried_with_grows f v v.rest)

pub ready_grows : (f : Fortune) (v : BookValue) → Grows v (readied f v)
ready_grows f v =
    cond_both v.is_broken _ _ (Grows v) (λ is. reopened_grows v f.reopening)
    (λ is. cond_both (is_batch_full v) _ _ (Grows v) (λ full. tried_by v f.fails) (λ short. no_more v))

-- What a stop leaves.

abbrev refused : Fortune
refused = record { fails = true; reopening = Refused }

stop_refuses : (at_last : Bool) (s : Sequel) → is_stop s ≡ true → fortune_by at_last s ≡ refused
stop_refuses at_last (Stops stands) is = refl
stop_refuses at_last _ is = absurd (cc)

tried_keeps : (v : BookValue) (rest : List HistoryEntry) → Keeps v (tried_with refused v rest)
tried_keeps v [] = (refl, refl)
tried_keeps v (e ∷ rest) = (refl, refl)

commit_kept : (v : BookValue) (b : Bool) → Keeps v (if b then reopened v Refused else tried_with refused v v.rest)
commit_kept v true = (refl, refl)
commit_kept v false = tried_keeps v v.rest

pub commit_keeps : (at_last : Bool) (s : Sequel) (v : BookValue) → is_stop s ≡ true →
    Keeps v (after_commit (fortune_by at_last s) v)
commit_keeps at_last s v is = rw (stop_refuses at_last s is) (commit_kept v _)

-- the book is broken, and all entries stay
abbrev pub BreaksAs : BookValue → BookValue → Type 0
BreaksAs v w = (w.is_broken ≡ true) × Keeps v w

pub stop_breaks : (armed : Armed) (at_last : Bool) (v : BookValue) → is_stop (ready_sequel_of armed at_last v) ≡ true →
    BreaksAs v (readied (fortune_by at_last (ready_sequel_of armed at_last v)) v)
stop_breaks armed at_last v is = rw (stop_refuses at_last _ is) (grind arith)

-- Marks.

mark_firm : (ready : BookValue) (now : ℕ) (who : Caller) (mark : Mark) →
    (marked_if_ready ready now who mark).value.firm ≡ ready.firm
mark_firm ready now who mark = grind arith

pub mark_grows : (f : Fortune) (v : BookValue) (now : ℕ) (who : Caller) (mark : Mark) →
    Grows v (marked_if_ready (readied f v) now who mark).value
mark_grows f v now who mark =
    let grown = ready_grows f v in
    (grown.0, mark_firm (readied f v) now who mark ∙ grown.1)

pub mark_same : (ready : BookValue) (now : ℕ) (who : Caller) (mark : Mark) → ready.is_broken ≡ true →
    (marked_if_ready ready now who mark).value ≡ ready
mark_same ready now who mark is = cc

pub mark_unbroken : (ready : BookValue) (now : ℕ) (who : Caller) (mark : Mark) → ready.is_broken ≡ false →
    (marked_if_ready ready now who mark).value ≡ (marked_at ready now who mark).value
mark_unbroken ready now who mark is = cc

pub mark_keeps : (armed : Armed) (at_last : Bool) (v : BookValue) (now : ℕ) (who : Caller) (mark : Mark) →
    is_stop (ready_sequel_of armed at_last v) ≡ true →
    Keeps v (marked_if_ready (readied (fortune_by at_last (ready_sequel_of armed at_last v)) v) now who mark).value
mark_keeps armed at_last v now who mark is =
    let f = fortune_by at_last (ready_sequel_of armed at_last v) in
    let broken = stop_breaks _ _ v is in
    let same = mark_same (readied f v) now who mark broken.0 in
    (cc broken.1.0, cc broken.1.1)

-- What an answer records.

pub recorded_firm : (v : BookValue) (now : ℕ) (who : Caller) (act : Option HistoryAct) →
    (recorded_if v now who act).firm ≡ v.firm
recorded_firm v now who None = refl
recorded_firm v now who (Some act) = refl

pub answer_grows : (f : Fortune) (v : BookValue) (now : ℕ) (who : Caller) (decision : Decided) →
    Grows v (left_by (readied f v) now who decision).value
answer_grows f v now who decision =
    let grown = ready_grows f v in
    (grown.0, recorded_firm (readied f v) now who (act_decided decision) ∙ grown.1)

-- A gateway goes as what is armed for its area says.

abbrev pub moved : Gateway → List Message → Moved
moved g sends = record { gateway = g; sends = sends }

-- a move followed by one that was computed
abbrev pub after : Moved → Moved → Moved
after first next = record { gateway = next.gateway; sends = first.sends ++ next.sends }

-- Where no front is firm nothing is sent.

nothing_due : (v : BookValue) (ws : List Waiting) → AllByRecursion (λ w. is_reached v w ≡ false) ws →
    (filter (is_reached v) ws ≡ []) × (filter (λ w. not (is_reached v w)) ws ≡ ws)
nothing_due v [] none = (refl, refl)
nothing_due v (w ∷ ws) none =
    let later = nothing_due v ws none.1 in
    (cc (none.0, later.0), cc (none.0, later.1))

abbrev parts : Gateway → List Waiting → List Waiting → Moved
parts g due later = moved (record g { waiting = later }) (map (λ w. w.message) due)

pub stays : (g : Gateway) → All (λ w. is_reached g.book w ≡ false) g.waiting → settling g ≡ still g
stays g none =
    let due = nothing_due g.book _ (recursion_from_All (λ w. is_reached g.book w ≡ false) g.waiting none) in
    ap (λ ws. parts g ws (filter (λ w. not (is_reached g.book w)) g.waiting)) due.0 ∙ ap (parts g []) due.1

-- A book that became another one.

pub unbroken : (w : BookValue) (g : Gateway) → w.is_broken ≡ false → with_book w g ≡ settling (record g { book = w })
unbroken w g is = cc

pub broken : (w : BookValue) (g : Gateway) → w.is_broken ≡ true → with_book w g ≡ giving_up (record g { book = w })
broken w g is = cc

-- What comes before an answer or a mark.

by_flags : (f : Fortune) (g : Gateway) → All (λ w. is_reached g.book w ≡ false) g.waiting → (b full : Bool) →
    g.book.is_broken ≡ b →
    (if b || full then with_book (if b then reopened g.book f.reopening else tried f g.book) g else still g)
    ≡ with_book (if b then reopened g.book f.reopening else (if full then tried f g.book else g.book)) g
by_flags f g none false false is = sym (unbroken g.book g is ∙ stays g none)
by_flags f g none _ _ is = refl

pub readying_is : (setup : Setup) (f : Fortune) (g : Gateway) → All (λ w. is_reached g.book w ≡ false) g.waiting →
    readying (rules_in setup) f g ≡ with_book (readied f g.book) g
readying_is setup f g none = by_flags f g none _ _ refl

-- Commits.

by_rest : (v : BookValue) (armed : Armed) (at_last : Bool) (rest : List HistoryEntry) → v.rest ≡ rest →
    tried (fortune_by at_last (sequel_of (asked_with rest) armed at_last)) v
    ≡ tried_with (fortune_by at_last (sequel_of (asked_with rest) armed at_last)) v rest
by_rest v armed at_last rest is = grind (arith, append-nil)

commit_by : (v : BookValue) (armed : Armed) (at_last b : Bool) →
    (let f = fortune_by at_last (sequel_of (if b then AsksReopening else asked_with v.rest) armed at_last) in
    (if b then reopened v f.reopening else tried f v) ≡ (if b then reopened v f.reopening else tried_with f v v.rest))
commit_by v armed at_last true = refl
commit_by v armed at_last false = by_rest v armed at_last v.rest refl

pub committing_is : (g : Gateway) (armed : Armed) (at_last : Bool) →
    (let f = fortune_by at_last (sequel_of (asked_to_commit g.book) armed at_last) in
    committing f g ≡ with_book (after_commit f g.book) g)
committing_is g armed at_last = cc (commit_by g.book armed at_last g.book.is_broken)

-- Marks.

-- what a mark makes of a gateway that is ready
abbrev mark_made : ℕ → Mark → BookValue → BookValue
mark_made now mark ready = (marked_at ready now no_caller mark).value

tick_by : (g : Gateway) (now : ℕ) (due room : Bool) →
    recorded_where (due && room) now Tick g
    ≡ still (record g { book = mark_made now (if due then made_if room Tick else NotDue) g.book })
tick_by g now true true = refl
tick_by g now _ _ = refl

close_by : (g : Gateway) (now : ℕ) (due : Bool) →
    recorded_where due now Close g ≡ still (record g { book = mark_made now (if due then Makes Close else NotDue) g.book })
close_by g now true = refl
close_by g now false = refl

-- a mark once the book is ready
mark_ready : (ready : BookValue) (g : Gateway) (now : ℕ) (mark : Mark) → ready.is_broken ≡ false →
    after (settling (record g { book = ready }))
    (still (record (settling (record g { book = ready })).gateway { book = mark_made now mark ready }))
    ≡ with_book (mark_made now mark ready) g
mark_ready ready g now (Makes act) is =
    let w = mark_made now (Makes act) ready in
    cc (append-nil (settling (record g { book = w })).sends, unbroken w g is)
mark_ready ready g now _ is = cc (append-nil (settling (record g { book = ready })).sends, unbroken ready g is)

module _ (move : Gateway → Moved) (mark : List HistoryEntry → Mark) (now : ℕ)
    (makes : (h : Gateway) → move h ≡ still (record h { book = mark_made now (mark (history_of h.book)) h.book })) where
  mark_by : (ready : BookValue) (g : Gateway) (b : Bool) → ready.is_broken ≡ b →
      followed (with_book ready g) (if_broken still move)
      ≡ with_book (marked_if_ready ready now no_caller (mark (history_of ready))).value g
  mark_by ready g true is =
      cc (
        broken ready g is,
        append-nil (giving_up (record g { book = ready })).sends,
        mark_same ready now no_caller (mark (history_of ready)) is,
      )
  mark_by ready g false is =
      let settled : Gateway = (settling (record g { book = ready })).gateway in
      ap (λ m. followed m (if_broken still move)) (unbroken ready g is)
      ∙ ap (λ b. after (settling (record g { book = ready })) (if b then still settled else move settled)) is
      ∙ ap (after (settling (record g { book = ready }))) (makes settled)
      ∙ mark_ready ready g now (mark (history_of ready)) is
      ∙ ap (λ w. with_book w g) (sym (mark_unbroken ready now no_caller (mark (history_of ready)) is))

  mark_is : (setup : Setup) (f : Fortune) (g : Gateway) → All (λ w. is_reached g.book w ≡ false) g.waiting →
      marked (rules_in setup) f move g
      ≡ with_book (marked_if_ready (readied f g.book) now no_caller (mark (history_of (readied f g.book)))).value g
  mark_is setup f g none =
      cc (readying_is setup f g none, mark_by (readied f g.book) g (readied f g.book).is_broken refl)

pub tick_is : (setup : Setup) (f : Fortune) (g : Gateway) (now : ℕ) → All (λ w. is_reached g.book w ≡ false) g.waiting →
    marked (rules_in setup) f (making_tick (rules_in setup) now) g
    ≡ with_book (marked_if_ready (readied f g.book) now no_caller
    (tick_mark setup.limits.open_time now (history_of (readied f g.book)) setup.size)).value g
tick_is setup f g now none =
    mark_is _ (λ h. tick_mark setup.limits.open_time now h setup.size) now (λ h. tick_by h now _ _) setup f g none

pub close_is : (setup : Setup) (f : Fortune) (g : Gateway) (now : ℕ) → All (λ w. is_reached g.book w ≡ false) g.waiting →
    marked (rules_in setup) f (making_close now) g
    ≡ with_book (marked_if_ready (readied f g.book) now no_caller (close_mark (history_of (readied f g.book)))).value g
close_is setup f g now none = mark_is _ close_mark now (λ h. close_by h now _) setup f g none

-- What came of a call.

-- what the book's value tells of it
abbrev pub Tells : Sequel → BookValue → Type 0
Tells (GoesOn armed) v = v.is_broken ≡ false
Tells (Breaks last) v = v.is_broken ≡ true
Tells (Stops stands) v = Unit {0}

pub site_tells : (setup : Setup) (place : ℕ) (v : BookValue) (s : Sequel) (site : Option Site) →
    SiteIsCalled setup place v s site → Tells s v
site_tells setup place v (Stops stands) (Some (Up book)) called = tt
site_tells setup place v _ (Some (Up book)) called = called.stands.0
site_tells setup place v s _ called = absurd called

-- what it did then, but for a stop
moved_same : (s : Sequel) (move : Fortune → Gateway → Moved) (m : Machine) (g : Gateway) (v : BookValue) → Tells s v →
    (is_stop s ≡ false → move (fortune_by m.at_last s) g ≡ with_book v g) →
    moved_after s v g ≡ moved_by s move m g
moved_same (GoesOn armed) move m g v tells is = sym (is refl ∙ unbroken v g tells)
moved_same (Breaks last) move m g v tells is = sym (is refl ∙ broken v g tells)
moved_same (Stops stands) move m g v tells is = refl

module _ (setup : Setup) (place : ℕ) where
  -- of a book that isn't broken nobody asks how it broke
  pub rearmed : {g : Gateway} (m : Machine) {r : real.Machine} → g.book.is_broken ≡ false →
      MachineStands setup place g (record m { at_last = false }) r → MachineStands setup place g m r
  rearmed {g} m {r} is stands = let site : SiteStands setup place g m r.site = grind (arith, stands.site) in assumption

  machine_is : (asked : Asked) (m : Machine) (v : BookValue) (g : Gateway) {sends : _} (r : real.Machine) →
      Tells (sequel_on m asked) v →
      HasMoved setup place (moved_after (sequel_on m asked) v g) (machine_with m (sequel_on m asked)) sends r →
      HasMoved setup place (moved_after (sequel_on m asked) v g) (machine_after asked m) sends r
  machine_is AsksNothing m v g r tells moved = record { stands = rearmed m tells moved.stands; sends = moved.sends }
  machine_is _ m v g r tells moved = moved

  pub goes_as_armed : (g : Gateway) (m : Machine) (asked : Asked) (move : Fortune → Gateway → Moved) (v : BookValue)
      {old : _} (sent : Sent) {new : _} → IsCalled setup place g m v (sequel_on m asked) old →
      (is_stop (sequel_on m asked) ≡ false → move (fortune_by m.at_last (sequel_on m asked)) g ≡ with_book v g) →
      AfterCall setup place g m v (sequel_on m asked) sent new → GoesAsArmed setup place asked move g m sent new
  goes_as_armed g m asked move v sent {new} called is after_it =
      let tells = site_tells _ _ v _ _ called.site in
      record {
        moved = rw (moved_same _ move m g v tells is) at (machine_is _ m v g new tells after_it.moved);
        came = after_it.came;
      }

-- What is asked of a gateway's book, call by call.

module _ (setup : Setup) (now : ℕ) (g : Gateway) (m : Machine) where
  -- the firm entries stay
  pub asked_grows : (asks : GatewayCall) (f : Fortune) → Grows g.book (asked_value setup now asks f g.book)
  asked_grows call.Commit f = commit_grows f g.book
  asked_grows call.Mark f = mark_grows f g.book now no_caller
      (tick_mark setup.limits.open_time now (history_of (readied f g.book)) setup.size)
  asked_grows call.Close f = mark_grows f g.book now no_caller (close_mark (history_of (readied f g.book)))

  -- where it is stopped all stay
  pub asked_keeps : (asks : GatewayCall) → is_stop (sequel_on m (asked_by asks g.book)) ≡ true →
      Keeps g.book (asked_value setup now asks (fortune_by m.at_last (sequel_on m (asked_by asks g.book))) g.book)
  asked_keeps call.Commit is = commit_keeps m.at_last (sequel_on m (asked_by call.Commit g.book)) g.book is
  asked_keeps call.Mark is = mark_keeps m.armed m.at_last g.book now no_caller
      (tick_mark setup.limits.open_time now (history_of (readied (fortune_by m.at_last (sequel_on m (asked_by call.Mark
      g.book))) g.book)) setup.size) is
  asked_keeps call.Close is = mark_keeps m.armed m.at_last g.book now no_caller
      (close_mark (history_of (readied (fortune_by m.at_last (sequel_on m (asked_by call.Close g.book))) g.book))) is

  -- and what it did is what its book became
  pub asked_is : (asks : GatewayCall) → All (λ w. is_reached g.book w ≡ false) g.waiting →
      (let f = fortune_by m.at_last (sequel_on m (asked_by asks g.book)) in
      asked_move setup now asks f g ≡ with_book (asked_value setup now asks f g.book) g)
  asked_is call.Commit none = committing_is g m.armed m.at_last
  asked_is call.Mark none = tick_is setup (fortune_by m.at_last (sequel_on m (asked_by call.Mark g.book))) g now none
  asked_is call.Close none = close_is setup (fortune_by m.at_last (sequel_on m (asked_by call.Close g.book))) g now none
