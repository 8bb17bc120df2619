-- Gateways and nodes in their places, and what a failed commit or a stop leaves. What the parts of a gateway's moves keep,
-- each move keeps; and what the moves and the calls of nodes keep, each turn keeps, and so all turns.
use Rattle.std.proofs.Common.{◌≡◌, ℕ, List, [], ◌∷◌, Option, Some, slice_get, refl, ap, ◌-◌, ◌≤◌, Bool, false, if◌then◌else◌, ◌++◌, length, take, sym, ◌∙◌, append-nil, length-append, take_all, arith, Contains, None, not, subst, suc, true, ◌&&◌, ◌||◌, option_map}
use Rattle.once_core.proofs.Names.{act_noted, answered, at_gateway, at_node, BookValue, called, Closes, closing, committed, committing, cut, delivered, delivered_to_node, delivering, Event, failed, false≢true, faulted, firm_in, first_gateway, followed, Fortune, Gateway, giving_up, Gone, history_of, HistoryAct, HistoryEntry, HoldSame, if_broken, is_close_due, is_expired, is_mark, log_at, log_in, LogEntry, lost_if, making_tick, marked, Message, Moved, nat_tests, no_caller, no_node, Note, opened, opened_holding, option_map_or, option_or, readying, recorded, redirected, refusal_of, refusal_to_start, Refused, refusing, reopened, Reopening, ruled_turns, RuledTurn, Rules, runs, settling, standing_for, Starts, starts_in, still, submitting, ticking, Ticks, Turn, turn, turn_by, unless_expired, unless_refused, Whole, with_book, World, WorldKind}
use Rattle.gw_base.specs.declared.history.HistoryAct.TheVariants as act
use Rattle.node_core.specs.Reached as call
use Rattle.gw_base.specs.TickDue.{is_tick_due}
use Rattle.once_core.specs.declared.event.WorldKind.TheVariants.{Halted}
use Rattle.once_core.proofs.CaseLemmas.{by_bool, by_option, if_both, if_known, map_known}
use Rattle.once_core.specs.declared.event.Event.TheVariants as event
use Rattle.once_core.proofs.ListLemmas.{get_contains}

-- the log that is there, or none, and so the firm part of a gateway's history
abbrev pub log_or : Option (List LogEntry) → List LogEntry
log_or o = option_map_or (λ log. log) o []

abbrev pub firm_or : Option Gateway → List HistoryEntry
firm_or o = option_map_or (λ (g : Gateway). g.book.firm) o []

pub log_there : (w : World) (place : ℕ) (log : List LogEntry) → slice_get w.nodes place ≡ Some log → log_at w place ≡ log
log_there w place log there = ap log_or there

pub firm_there : (w : World) (place : ℕ) (g : Gateway) → slice_get w.gateways place ≡ Some g → firm_in w place ≡ g.book.firm
firm_there w place g there = ap firm_or there

pub turns_hold : (P : World → Type 0) (w : World) (later : List RuledTurn)
    → ((v : World) (t : RuledTurn) (after : List RuledTurn) → ruled_turns v (t ∷ after) ≡ ruled_turns w later → P v → P (turn t.rules v t.turn)) → P w → P (ruled_turns w later)
turns_hold P w [] step holds = holds
turns_hold P w (t ∷ later) step holds = turns_hold P (turn t.rules w t.turn) later step (step w t later refl holds)

pub history_is : (v : BookValue) → v.is_broken ≡ false → history_of v ≡ v.firm ++ v.rest
history_is v e = ap (λ (b : Bool). if b then v.firm else v.firm ++ v.rest) e

all_left : (xs ys : List HistoryEntry) → take (length (xs ++ ys) - length xs) ys ≡ ys
all_left xs ys = take_all (length (xs ++ ys) - length xs) ys (omega (arith, length-append xs ys))

none_left : (keep : ℕ) (xs ys : List HistoryEntry) → keep ≤ length xs → take (keep - length xs) ys ≡ []
none_left keep xs ys le = ap (λ (n : ℕ). take n ys) {y = 0} (omega (arith, le))

-- what a crash leaves

pub crash_to_firm : (g : Gateway) → history_of (cut 0 g).book ≡ g.book.firm
crash_to_firm g = ap (λ (xs : List HistoryEntry). g.book.firm ++ xs) (none_left 0 g.book.firm g.book.rest (omega arith)) ∙ append-nil g.book.firm

pub crash_to_all : (g : Gateway) → history_of (cut (length (g.book.firm ++ g.book.rest)) g).book ≡ g.book.firm ++ g.book.rest
crash_to_all g = ap (λ (xs : List HistoryEntry). g.book.firm ++ xs) (all_left g.book.firm g.book.rest)

-- what is found whole is what a stop leaves that keeps all; and what is found gone, what one leaves that keeps the firm
-- part alone

pub torn_kept : (g : Gateway) → HoldSame (reopened g.book Whole) (standing_for (history_of (cut (length (g.book.firm ++ g.book.rest)) g).book))
torn_kept g = record { firm = sym (crash_to_all g); rest = refl; broken = refl }

pub torn_dropped : (g : Gateway) → HoldSame (reopened g.book Gone) (standing_for (history_of (cut (length g.book.firm) g).book))
torn_dropped g = record {
  firm = sym (append-nil g.book.firm) ∙ ap (λ (xs : List HistoryEntry). g.book.firm ++ xs) (sym (none_left (length g.book.firm) g.book.firm g.book.rest (omega arith)));
  rest = refl;
  broken = refl;
}

pub kept_whole : (g : Gateway) → g.book.is_broken ≡ false
    → HoldSame (reopened (faulted g.book) Whole) (standing_for (history_of (cut (length (history_of g.book)) g).book))
kept_whole g e = record {
  firm = sym (crash_to_all g) ∙ ap (λ (h : List HistoryEntry). history_of (cut (length h) g).book) (sym (history_is g.book e));
  rest = refl;
  broken = refl;
}

pub kept_firm : (g : Gateway) → HoldSame (reopened (faulted g.book) Gone) (standing_for (history_of (cut (length g.book.firm) g).book))
kept_firm g = assumption (torn_dropped g)

-- ---- the parts

-- a book whose entries are all firm, one without the torn ones, and one that broke
abbrev pub whole_book : BookValue → ℕ → Bool → BookValue
whole_book v cuts broken = record { firm = v.firm ++ v.rest; rest = []; cuts = cuts; is_broken = broken }

abbrev pub cut_book : BookValue → ℕ → BookValue
cut_book v cuts = record { firm = v.firm; rest = []; cuts = cuts; is_broken = false }

abbrev pub torn_book : BookValue → ℕ → BookValue
torn_book v cuts = record { firm = v.firm; rest = v.rest; cuts = cuts; is_broken = true }

-- a gateway with one entry more, one that opens with this history, and the first one
abbrev pub noted : ℕ → HistoryAct → Gateway → Gateway
noted now a g = record g { book = recorded g.book now no_caller a }

abbrev pub standing : List HistoryEntry → Gateway
standing h = record { book = standing_for h; waiting = []; is_down = false; redirects = 0 }

abbrev pub new_gateway : Gateway
new_gateway = standing []

-- what is to be shown of each part of a move
pub record PartsKeep (Q : Gateway → Moved → Type 0) : Type 0 where
  pub stays : (g : Gateway) → Q g (still g)
  pub follows : (g : Gateway) (first : Moved) (next : Gateway → Moved) → Q g first → Q first.gateway (next first.gateway) → Q g (followed first next)
  pub firm : (g : Gateway) (cuts : ℕ) → Q g (settling (record g { book = whole_book g.book cuts false }))
  pub gone : (g : Gateway) (cuts : ℕ) → g.book.is_broken ≡ true → Q g (settling (record g { book = cut_book g.book cuts }))
  pub torn : (g : Gateway) (cuts : ℕ) → Q g (giving_up (record g { book = torn_book g.book cuts }))
  pub notes : (g : Gateway) (note : Note) (now : ℕ) → g.book.is_broken ≡ false
      → (is_mark (act_noted note) ≡ true → is_close_due (history_of g.book) ≡ true) → Q g (still (noted now (act_noted note) g))
  pub cuts : (g : Gateway) (keep : ℕ) → Q g (still (cut keep g))
  pub stands : (g : Gateway) → Q g (still (standing (history_of g.book)))

pub book_is : (book : BookValue) (g : Gateway) → (with_book book g).gateway.book ≡ book
book_is book g = if_both (λ (m : Moved). m.gateway.book ≡ book) book.is_broken refl refl

-- a full batch that is committed leaves the history as it is
abbrev LeavesWhole : List HistoryEntry → Moved → Type 0
LeavesWhole h moved = moved.gateway.book.is_broken ≡ false → history_of moved.gateway.book ≡ h

pub ready_history : (rules : Rules) (f : Fortune) (g : Gateway) → g.book.is_broken ≡ false → LeavesWhole (history_of g.book) (readying rules f g)
ready_history rules f g sound = grind (arith, append-nil (g.book.firm ++ g.book.rest))

-- a Tick is due only where a Close is
tick_due : (open_time now : ℕ) (h : List HistoryEntry) (room : Bool) → (is_tick_due open_time now h && room) ≡ true → is_close_due h ≡ true
tick_due open_time now h room is = grind arith

-- ---- the moves

module _ {Q : Gateway → Moved → Type 0} (keep : PartsKeep Q) where
  pub committing_keeps : (f : Fortune) (g : Gateway) → Q g (committing f g)
  committing_keeps f g =
      if_known (λ (v : BookValue). Q g (with_book v g)) g.book.is_broken (by f.reopening)
      (λ sound. if_both (λ (v : BookValue). Q g (with_book v g)) f.fails (keep.torn g (faulted g.book).cuts)
      (subst (λ (b : Bool). Q g (with_book (whole_book g.book g.book.cuts b) g)) (sym sound) (keep.firm g g.book.cuts)))
    where
      by : (found : Reopening) → g.book.is_broken ≡ true → Q g (with_book (reopened g.book found) g)
      by Whole broken = keep.firm g g.book.cuts
      by Gone broken = keep.gone g g.book.cuts broken
      by Refused broken = keep.torn g (faulted g.book).cuts

  -- the journal is made ready, and then one of two moves follows
  pub ready_keeps : (rules : Rules) (f : Fortune) (breaks goes_on : Gateway → Moved) (g : Gateway)
      → ((a : Gateway) → a.book.is_broken ≡ true → Q a (breaks a))
      → ((a : Gateway) → a.book.is_broken ≡ false → (g.book.is_broken ≡ false → history_of a.book ≡ history_of g.book) → Q a (goes_on a))
      → Q g (followed (readying rules f g) (if_broken breaks goes_on))
  ready_keeps rules f breaks goes_on g broken sound =
      keep.follows g (readying rules f g) (if_broken breaks goes_on)
      (if_both (Q g) (g.book.is_broken || rules.is_full g.book) (committing_keeps f g) (keep.stays g))
      (if_known (Q (readying rules f g).gateway) (readying rules f g).gateway.book.is_broken (broken (readying rules f g).gateway)
      (λ e. sound (readying rules f g).gateway e (λ was. ready_history rules f g was e)))

  marked_keeps : (rules : Rules) (f : Fortune) (mark : Gateway → Moved) (g : Gateway) → ((a : Gateway) → a.book.is_broken ≡ false → Q a (mark a))
      → Q g (marked rules f mark g)
  marked_keeps rules f mark g marks = ready_keeps rules f still mark g (λ a broken. keep.stays a) (λ a sound whole. marks a sound)

  ticked_keeps : (rules : Rules) (f : Fortune) (now : ℕ) (g : Gateway) → Q g (marked rules f (making_tick rules now) g)
  ticked_keeps rules f now g = marked_keeps rules f (making_tick rules now) g (λ a sound.
      if_known (Q a) (is_tick_due rules.open_time now (history_of a.book) && rules.room (history_of a.book) act.Tick)
      (λ due. keep.notes a Ticks now sound (λ mark. tick_due rules.open_time now (history_of a.book) (rules.room (history_of a.book) act.Tick) due))
      (λ isnt. keep.stays a))

  closed_keeps : (rules : Rules) (f : Fortune) (now : ℕ) (g : Gateway) → Q g (marked rules f (closing rules now) g)
  closed_keeps rules f now g = marked_keeps rules f (closing rules now) g (λ a sound.
      if_both (Q a) (rules.may_close (history_of a.book))
      (if_known (Q a) (is_close_due (history_of a.book)) (λ due. keep.notes a Closes now sound (λ mark. due)) (λ isnt. keep.stays a))
      (keep.stays a))

  opened_keeps : (rules : Rules) (g : Gateway) → Q g (still (opened rules g))
  opened_keeps rules g =
      if_both (λ (v : BookValue). Q g (still (record { book = v; waiting = []; is_down = false; redirects = 0 })))
      (rules.room (history_of (standing_for (history_of g.book))) act.Start)
      (keep.follows g (still (standing (history_of g.book))) (λ a. still (noted 0 act.Start a)) (keep.stands g)
      (keep.notes (standing (history_of g.book)) Starts 0 refl (λ mark. absurd (false≢true mark))))
      (keep.stands g)

  opened_holding_keeps : (rules : Rules) (held : Option ℕ) (g : Gateway) → Q g (still (opened_holding held rules g))
  opened_holding_keeps rules None g = opened_keeps rules g
  opened_holding_keeps rules (Some count) g =
      keep.follows g (still (cut count g)) (λ a. still (opened rules a)) (keep.cuts g count) (opened_keeps rules (cut count g))

  pub first_keeps : (rules : Rules) → Q new_gateway (still (first_gateway rules))
  first_keeps rules =
      if_both (λ (v : BookValue). Q new_gateway (still (record { book = committed v; waiting = []; is_down = false; redirects = 0 })))
      (rules.room (history_of (standing_for [])) act.Start)
      (keep.follows new_gateway (still (noted 0 act.Start new_gateway)) (λ a. settling (record a { book = whole_book a.book 0 false }))
      (keep.notes new_gateway Starts 0 refl (λ mark. absurd (false≢true mark))) (keep.firm (noted 0 act.Start new_gateway) 0))
      (keep.firm new_gateway 0)

  -- a message comes to a gateway, which breaks on the way or answers it
  delivered_keeps : (rules : Rules) (now : ℕ) (f : Fortune) (m : Message) → ((a : Gateway) → Q a (failed m a))
      → ((a : Gateway) → a.book.is_broken ≡ false → is_expired (history_of a.book) m ≡ false → Q a (answered rules now m a))
      → (g : Gateway) → Q g (delivered rules now f m g)
  delivered_keeps rules now f m fails answers g =
      if_both (Q g) g.is_down (keep.stays g)
      (if_known (Q g) g.book.is_broken
      (λ broken. ready_keeps rules f still (unless_expired m (answered rules now m)) g (λ a e. keep.stays a)
      (λ a sound whole. unless a (answered rules now m) (answers a sound)))
      (λ was. unless g (λ a. followed (readying rules f a) (if_broken (failed m) (answered rules now m))) (λ fresh.
      ready_keeps rules f (failed m) (answered rules now m) g (λ a e. fails a)
      (λ a sound whole. answers a sound (ap (λ (h : List HistoryEntry). is_expired h m) (whole was) ∙ fresh)))))
    where
      unless : (a : Gateway) (deliver : Gateway → Moved) → (is_expired (history_of a.book) m ≡ false → Q a (deliver a)) → Q a (unless_expired m deliver a)
      unless a deliver delivers = if_known (Q a) (is_expired (history_of a.book) m) (λ late. keep.stays a) delivers

-- ---- turns

pub or_none : (a b : Option WorldKind) → option_or a b ≡ None → b ≡ None
or_none a b is = grind arith

pub first_none : (a b : Option WorldKind) → option_or a b ≡ None → a ≡ None
first_none a b is = grind arith

pub refusing_none : (b : Bool) (k : WorldKind) → refusing b k ≡ None → b ≡ false
refusing_none b k is = grind arith

pub it_runs : (w : World) (number : ℕ) → option_or (no_node w number) (refusing (not (runs (log_in w number))) Halted) ≡ None → runs (log_in w number) ≡ true
it_runs w number e = grind arith

may_start : (w : World) (number : ℕ) → refusal_to_start w number ≡ None → suc (starts_in (log_in w number)) ≤ 255
may_start w number e = grind (arith, nat_tests)

-- what is to be shown of a turn: of each move of a gateway, with the parts that the rest is made of, and of each call of a node
pub record TurnKeeps (rules : Rules) (w : World) (Q : ℕ → Gateway → Moved → Type 0) (W : World → Type 0) : Type 0 where
  pub parts : (place : ℕ) → PartsKeep (Q place)
  pub redirects : (place cause : ℕ) (to : Option ℕ) (g : Gateway) → Q place g (redirected place cause to g)
  pub fails : (m : Message) → Contains w.messages m → m.to_gateway ≡ true → (g : Gateway) → Q m.gateway g (failed m g)
  pub answers : (m : Message) → Contains w.messages m → m.to_gateway ≡ true → (g : Gateway) → g.book.is_broken ≡ false
      → is_expired (history_of g.book) m ≡ false → Q m.gateway g (answered rules w.now m g)
  pub moves : (place : ℕ) (move : Gateway → Moved) → ((g : Gateway) → Q place g (move g)) → W (at_gateway w place move)
  pub submits : (place : ℕ) (packet : List ℕ) → W (at_node w place (submitting (length w.gateways) place packet))
  pub ticks : (place : ℕ) → runs (log_at w place) ≡ true → W (at_node w place (ticking (length w.gateways) place))
  pub halts : (place : ℕ) → W (at_node w place (called (length w.gateways) place call.Halt))
  pub starts : (place : ℕ) → suc (starts_in (log_at w place)) ≤ 255 → W (at_node w place (called (length w.gateways) place call.Start))
  pub hears : (m : Message) → Contains w.messages m → m.to_gateway ≡ false → W (at_node w m.node (delivered_to_node (length w.gateways) m.node m))
  pub same : W w
  pub lost : (v : World) (count : ℕ) → W v → W (record v { messages = take count v.messages })
  pub later : (now : ℕ) → W (record w { now = now })

module _ {rules : Rules} {w : World} {Q : ℕ → Gateway → Moved → Type 0} {W : World → Type 0} (keep : TurnKeeps rules w Q W) (t : Turn) where
  delivers : (m : Message) → Contains w.messages m → W (delivering rules t.fortune w m)
  delivers m there = if_known W m.to_gateway
      (λ to. keep.moves m.gateway (delivered rules w.now t.fortune m)
      (delivered_keeps (keep.parts m.gateway) rules w.now t.fortune m (keep.fails m there to) (keep.answers m there to)))
      (keep.hears m there)

  event_keeps : (e : Event) → refusal_of w e ≡ None → W (turn_by rules w t e)
  event_keeps (event.Submit node packet) allowed = keep.submits (node - 1) packet
  event_keeps (event.Tick node) allowed = keep.ticks (node - 1) (it_runs w node allowed)
  event_keeps (event.Deliver message) allowed =
      map_known W (slice_get w.messages (message - 1)) (λ none. keep.same) (λ m e. delivers m (get_contains w.messages (message - 1) m e))
  event_keeps (event.Commit gateway) allowed = keep.moves (gateway - 1) (committing t.fortune) (committing_keeps (keep.parts (gateway - 1)) t.fortune)
  event_keeps (event.Cut gateway count) allowed = keep.moves (gateway - 1) (λ g. still (cut count g)) (λ g. (keep.parts (gateway - 1)).cuts g count)
  event_keeps (event.Open gateway) allowed =
      keep.moves (gateway - 1) (λ g. still (opened_holding t.held rules g)) (opened_holding_keeps (keep.parts (gateway - 1)) rules t.held)
  event_keeps (event.Halt node) allowed = keep.halts (node - 1)
  event_keeps (event.Start node) allowed = keep.starts (node - 1) (may_start w node allowed)
  event_keeps (event.Redirect gateway cause to) allowed =
      let other = option_map (λ (number : ℕ). number - 1) to in
      keep.moves (gateway - 1) (redirected (gateway - 1) cause other) (keep.redirects (gateway - 1) cause other)
  event_keeps (event.Moment now) allowed = keep.later now
  event_keeps (event.Mark gateway) allowed =
      keep.moves (gateway - 1) (marked rules t.fortune (making_tick rules w.now)) (ticked_keeps (keep.parts (gateway - 1)) rules t.fortune w.now)
  event_keeps (event.Close gateway) allowed =
      keep.moves (gateway - 1) (marked rules t.fortune (closing rules w.now)) (closed_keeps (keep.parts (gateway - 1)) rules t.fortune w.now)

  pub turn_keeps : W (turn rules w t)
  turn_keeps = by_option (λ (o : Option WorldKind). W (unless_refused o w (lost_if t.is_lost w (turn_by rules w t t.event)))) (refusal_of w t.event)
      (λ allowed. by_bool (λ (b : Bool). W (lost_if b w (turn_by rules w t t.event))) t.is_lost
      (λ lost. keep.lost (turn_by rules w t t.event) (length w.messages) (event_keeps t.event allowed))
      (λ all. event_keeps t.event allowed))
      (λ kind refused. keep.same)
