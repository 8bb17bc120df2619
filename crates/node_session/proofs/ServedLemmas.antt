-- What a session tells of a job, by what it did step by step.
use Rattle.std.proofs.Common.{◌≡◌, ◌⊎◌, inl, inr, ℕ, ◌≤◌, Bool, List, [], ◌∷◌, ◌++◌, length, Option, Some, None, Result, Ok, Err, refl, sym, ap, subst, ◌∙◌, append_assoc, arith}
use Rattle.node_session.proofs.Names.{act_decided, Addr, All, All-cons, All-nil, append-nil, Begins, book_facts, called_at, Caller, caller_of, cause_in, Concludes, Contains, Contains-append_left, Contains-push, Decided, Facts, failure_reply, Ghosts, Go, GoesFrom, GoesOn, HasSent, HasTurnFor, history_at, HistoryAct, HistoryEntry, IfSome, IsAnswerTo, IsAsked, IsCountedBy, IsFaultAt, IsReplyAt, IsServed, Job, KeepsTurns, kept, KeptTurn, Knowledge, knowledge, known_by, Learns, LinkState, MatchOption, MayHave, once_sent, Outcome, Pass, prepared_of, Saw, Says, SendsFor, SendsTo, Served, Settled, Silent, TakesIn, Tells, tells_lists, TellsBehind, WhereTold}
use Rattle.gateway_book.specs.Caller as caller
use Rattle.gateway_book.specs.declared.outcome.Outcome.TheVariants as outcome
use Rattle.gateway_book.specs.declared.outcome.Receipt.{Receipt}
use Rattle.gateway_book.specs.declared.outcome.Settled.TheVariants as settled
use Rattle.net_link.specs.Steps.{Sends}
use Rattle.net_link.specs.declared.link.LinkStop.{LinkStop}
use Rattle.net_link.specs.declared.link.LinkStop.TheVariants as stop
use Rattle.turn_cell.specs.Passes.{Took}
use Rattle.node_session.specs.Turns as turns
use Rattle.node_session.specs.declared.gate.Go.TheVariants as go
use Rattle.node_session.specs.declared.served.Served.TheVariants as served
use Rattle.node_session.proofs.AskingLemmas.{begins_then}

-- what a receipt tells was decided
says_of : (d : Decided) (receipt : Receipt) → turns.Tells d (outcome.Answer receipt)
    → (act : Option HistoryAct) × (d ≡ Says receipt.reply act)
says_of (Silent why) receipt told = absurd (cc told)
says_of (Says octets act) receipt told =
    let same : receipt ≡ told.0 = cc told.1 in
    let reply : receipt.reply ≡ octets = ap (λ (r : Receipt). r.reply) same ∙ told.2 in
    (act, ap (λ (o : List ℕ). Says o act) (sym reply))

-- ---- a pass that knows no less and keeps its turns

module _ {told : Bool} where
  abbrev pub goes_none : {before after : Knowledge} → after ≡ before → GoesFrom told before after
  goes_none {before} is = record {
    number = ap (λ (k : Knowledge). k.number) is;
    size = ap (λ (k : Knowledge). k.size) is;
    faults = ap (λ (k : Knowledge). k.faults) is;
    known = λ it_is. subst (λ (k : Knowledge). Begins before.known k.known) (sym is)
        ([], sym (append-nil before.known));
    later = [];
    turns = ap (λ (k : Knowledge). k.turns) is ∙ sym (append-nil before.turns);
  }

  abbrev pub goes_then : {one two three : Knowledge} → GoesFrom told one two → GoesFrom told two three → GoesFrom told one three
  goes_then {one} {two} {three} p q = record {
    number = q.number ∙ p.number;
    size = q.size ∙ p.size;
    faults = q.faults ∙ p.faults;
    known = λ it_is. begins_then one.known two.known three.known (p.known it_is) (q.known it_is);
    later = p.later ++ q.later;
    turns = q.turns ∙ ap (λ (ts : List KeptTurn). ts ++ q.later) p.turns ∙ append_assoc one.turns p.later q.later;
  }

  abbrev pub goes_turn : {V R : Type 0} {facts : V → Facts} {session : Option ℕ} {does : V → V → R → Bool → List HistoryEntry → Type 0}
      {before : Knowledge} {answer : R} {after : Knowledge} → Took told facts session does before answer after → GoesFrom told before after
  goes_turn {facts = facts} {before = before} took = record {
    number = ap (λ (k : Knowledge). k.number) took.kept;
    size = ap (λ (k : Knowledge). k.size) took.kept;
    faults = ap (λ (k : Knowledge). k.faults) took.kept;
    known = λ it_is. subst (λ (h : List HistoryEntry). Begins before.known h) (sym (ap (λ (k : Knowledge). k.known) took.kept))
        (begins_then before.known (facts took.found).firm (facts took.left).firm (took.legal.known it_is)
        (took.owes.firm it_is));
    later = kept (facts took.found) (facts took.left) took.drops took.added ∷ [];
    turns = ap (λ (k : Knowledge). k.turns) took.kept;
  }

  abbrev goes_saw : {seen : ℕ} {before after : Knowledge} → Saw told seen before after → GoesFrom told before after
  goes_saw {before = before} saw = record {
    number = ap (λ (k : Knowledge). k.number) saw.same;
    size = ap (λ (k : Knowledge). k.size) saw.same;
    faults = ap (λ (k : Knowledge). k.faults) saw.same;
    known = saw.grows;
    later = [];
    turns = ap (λ (k : Knowledge). k.turns) saw.same ∙ sym (append-nil before.turns);
  }

-- what a pass did behind its first turns: so many turns more at most, which added nothing
pub record Laters (told : Bool) (most : ℕ) (taken after : Knowledge) : Type 0 where
  pub goes : GoesFrom told taken after
  pub few : length goes.later ≤ most
  pub adds_none : All (λ t. t.added ≡ []) goes.later

pub later_none : {told : Bool} {taken after : Knowledge} (most : ℕ) → after ≡ taken → Laters told most taken after
later_none most is =
    record { goes = goes_none is; few = omega arith; adds_none = All-nil (λ (t : KeptTurn). t.added ≡ []) }

-- ---- the turn that took a datagram

module _ {A : Type 0} (tells : Ghosts A) where
  counted_by : {from : Addr} {octets : List ℕ} {now : ℕ} {who : Caller} {before taken : Knowledge} {o : Outcome}
      (first : TakesIn tells from octets now who before o taken)
      (receipt : Receipt) → o ≡ outcome.Answer receipt
      → IsCountedBy (tells_lists tells) receipt.front receipt.faults
      (kept (book_facts first.found) (book_facts first.left) first.drops first.added)
  counted_by first receipt is =
      let counts = subst (λ (x : Outcome). turns.IsCountedAt (book_facts first.left) x) is first.does_so.counts in
      record { front_is = counts.0; faults_is = counts.1; long = λ it_is. counts.0 ∙ first.sound.1.counted it_is }

  -- it is kept
  pub own_turn : (from : Addr) (octets : List ℕ) (now : ℕ) (who : Caller) (before taken : Knowledge) (o : Outcome)
      → TakesIn tells from octets now who before o taken → HasTurnFor (tells_lists tells) o taken
  own_turn from octets now who before taken o first receipt is = (
    _,
    subst (λ (k : Knowledge). Contains k.turns
        (kept (book_facts first.found) (book_facts first.left) first.drops first.added)) (sym first.kept)
        (Contains-push before.turns _),
    counted_by first receipt is,
  )

  -- what it added
  pub adds_first : (session : ℕ) (job : Job) {before taken : Knowledge} {o : Outcome}
      (first : TakesIn tells job.from job.octets job.moment (caller_of session job) before o taken)
      → let t = kept (book_facts first.found) (book_facts first.left) first.drops first.added in
      WhereTold (tells_lists tells) ((t.added ≡ []) ⊎ (t.added ≡ called_at (tells_lists tells) session job t))
  adds_first session job first told =
      elim (first.does_so.answers told) [
        | inl taken ↦ inr taken.adds
        | inr failed ↦ inl failed.adds
      ]

-- a turn that asks what has become of an answer adds nothing
none_settled : {told : Bool} {front faults : ℕ} {found left : Facts} {firm_found firm_left : ℕ} {s : Settled} {added : List HistoryEntry}
    → turns.Settles told front faults found left firm_found firm_left s added → added ≡ []
none_settled (inl asked) = asked.adds
none_settled (inr commits) = commits.adds

module _ {A : Type 0} (tells : Ghosts A) where
  later_asked : (front faults : ℕ) (taken after : Knowledge) (s : Settled) → IsAsked tells front faults taken s after → Laters (tells_lists tells) 1 taken after
  later_asked front faults taken after s asked =
      elim asked.ends [
        | inl seen ↦ record {
          goes = goes_then (goes_saw asked.saw) (goes_none seen.2);
          few = omega arith;
          adds_none = All-nil (λ (t : KeptTurn). t.added ≡ []);
        }
        | inr more ↦ record {
          goes = goes_then (goes_saw asked.saw) (goes_turn more.1);
          few = omega arith;
          adds_none = All-cons (λ (t : KeptTurn). t.added ≡ []) _ [] (none_settled more.1.does_so) (All-nil (λ (t : KeptTurn). t.added ≡ []));
        }
      ]

  module _ (may : ℕ → ℕ → Go → Type 0) (session : ℕ) (job : Job) (old new : LinkState) (result : Served) where
    pub later_on : (taken after : Knowledge) (o : Outcome) → GoesOn tells may session job old new result taken after o → Laters (tells_lists tells) 1 taken after
    later_on taken after (outcome.Drop why) goes = later_none 1 goes.1
    later_on taken after (outcome.Answer receipt) (inl over) = later_none 1 over.1.1
    later_on taken after (outcome.Answer receipt) (inr on) =
        later_asked receipt.front receipt.faults taken after on.1.settled on.1.asked

    -- the first turn, as the pass keeps it
    abbrev first_of : {before after : Knowledge} → IsServed tells may session job old new result before after → KeptTurn
    first_of is = kept (book_facts is.first.found) (book_facts is.first.left) is.first.drops is.first.added

    pub keeps_turns : {before after : Knowledge} → IsServed tells may session job old new result before after
        → KeepsTurns (tells_lists tells) session job before after
    keeps_turns {before} {after} is =
        let then = later_on is.taken after is.outcome is.goes_on in
        let goes : GoesFrom (tells_lists tells) before after = goes_then (goes_turn is.first) then.goes in
        record {
          first = first_of is;
          later = then.goes.later;
          turns = goes.turns;
          number = goes.number;
          size = (goes.size, is.first.legal.size);
          adds = adds_first tells session job is.first;
          one_more = then.few;
          adds_none = then.adds_none;
        }

    -- the gate
    may_sent : (answer : Served) (sent : Result Unit LinkStop) → MayHave (may session job.serial) answer → may session job.serial go.On
        → MayHave (may session job.serial) (once_sent answer sent)
    may_sent answer (Ok done) is on = is
    may_sent answer (Err stop.Failed) is on = on
    may_sent answer (Err stop.NoMemory) is on = on

    may_to : (octets : Option (List ℕ)) (answer : Served) → SendsTo job old new result octets answer → MayHave (may session job.serial) answer
        → may session job.serial go.On → MayHave (may session job.serial) result
    may_to None answer sends is on = subst (λ (r : Served). MayHave (may session job.serial) r) (sym sends.0) is
    may_to (Some octets) answer sends is on =
        subst (λ (r : Served). MayHave (may session job.serial) r) (sym sends.2) (may_sent answer sends.0 is on)

    may_for : (receipt : Receipt) (s : Settled) → SendsFor job old new result receipt s → may session job.serial go.On
        → MayHave (may session job.serial) result
    may_for receipt settled.Firm sends on = may_to (Some receipt.reply) (served.Replied receipt.cause receipt.front) sends on on
    may_for receipt (settled.Lost n) sends on = may_to (failure_reply (prepared_of job.octets)) served.Lost sends on on
    may_for receipt (settled.NotYet n) sends on = absurd sends

    pub may_on : (taken after : Knowledge) (o : Outcome) → GoesOn tells may session job old new result taken after o → MayHave (may session job.serial) result
    may_on taken after (outcome.Drop why) goes = subst (λ (r : Served). MayHave (may session job.serial) r) (sym goes.0) tt
    may_on taken after (outcome.Answer receipt) (inl over) = subst (λ (r : Served). MayHave (may session job.serial) r) (sym over.1.0) over.0
    may_on taken after (outcome.Answer receipt) (inr on) = may_for receipt on.1.settled on.1.sends on.0

    pub may_have : {before after : Knowledge} → IsServed tells may session job old new result before after → MayHave (may session job.serial) result
    may_have {after = after} is = may_on is.taken after is.outcome is.goes_on

    -- The session went on with a job behind turns that its pass took for other jobs.
    pub record IsServedBehind (between : List KeptTurn) (before now after : Knowledge) : Type 0 where
      pub outcome : Outcome
      pub taken : Knowledge
      pub first : TakesIn tells job.from job.octets job.moment (caller_of session job) before outcome taken
      pub behind : now.turns ≡ taken.turns ++ between
      pub goes_on : GoesOn tells may session job old new result now after outcome

    -- what each answer tells
    module _ {between : List KeptTurn} {before now after : Knowledge} (is : IsServedBehind between before now after) where
      abbrev told : Bool
      told = tells_lists tells

      abbrev t : KeptTurn
      t = kept (book_facts is.first.found) (book_facts is.first.left) is.first.drops is.first.added

      abbrev TellsSo : Served → Type 0
      TellsSo r = TellsBehind told session job between before after old new r

      taken_turns : is.taken.turns ≡ before.turns ++ t ∷ []
      taken_turns = ap (λ (k : Knowledge). k.turns) is.first.kept

      now_turns : now.turns ≡ before.turns ++ t ∷ between
      now_turns = is.behind ∙ ap (λ (ts : List KeptTurn). ts ++ between) taken_turns ∙ append_assoc before.turns (t ∷ []) between

      turns_behind : (later : List KeptTurn) → after.turns ≡ now.turns ++ later → after.turns ≡ before.turns ++ t ∷ (between ++ later)
      turns_behind later then = then ∙ ap (λ (ts : List KeptTurn). ts ++ later) now_turns ∙ append_assoc before.turns (t ∷ between) later

      has_first : Contains now.turns t
      has_first = subst (λ (ts : List KeptTurn). Contains ts t) (sym is.behind)
          (Contains-append_left is.taken.turns between t
          (subst (λ (ts : List KeptTurn). Contains ts t) (sym taken_turns) (Contains-push before.turns t)))

      counted : (receipt : Receipt) → is.outcome ≡ outcome.Answer receipt → IsCountedBy told receipt.front receipt.faults t
      counted receipt o = counted_by tells is.first receipt o

      said : (receipt : Receipt) → is.outcome ≡ outcome.Answer receipt → {d : Decided} → turns.Tells d is.outcome
          → (act : Option HistoryAct) × (d ≡ Says receipt.reply act)
      said receipt o {d} tells = says_of d receipt (subst (λ (x : Outcome). turns.Tells d x) o tells)

      answers_of : (receipt : Receipt) → is.outcome ≡ outcome.Answer receipt → WhereTold told
          (IsReplyAt told session job t receipt.reply ⊎ IsFaultAt told session job t receipt.reply)
      answers_of receipt o it_is =
          elim (is.first.does_so.answers it_is) [
            | inl taken ↦
                let says = said receipt o taken.tells in
                inl (record {
                  whole = taken.whole;
                  act = says.0;
                  decides = says.1;
                  adds = taken.adds ∙ ap (λ d. turns.entries_of (history_at t) job.moment (caller_of session job) (act_decided d)) says.1;
                  list = taken.list;
                })
            | inr failed ↦
                let says = said receipt o failed.tells in
                inr (record { act = says.0; rose = failed.rose; decides = says.1; adds = failed.adds })
          ]

      cause_of : (receipt : Receipt) → is.outcome ≡ outcome.Answer receipt → receipt.cause ≡ cause_in receipt.reply
      cause_of receipt o =
          (subst (λ (x : Outcome). turns.IsCountedAt (book_facts is.first.left) x) o is.first.does_so.counts).2

      module _ (receipt : Receipt) (o : is.outcome ≡ outcome.Answer receipt) (on : Concludes tells job old new result now after receipt) where
        abbrev learnt : Learns told t now after on.settled
        learnt = on.learns t has_first (counted receipt o)

        abbrev then : GoesFrom told now after
        then = (later_asked receipt.front receipt.faults now after on.settled on.asked).goes

        sent_by : (answer : Served) (octets : List ℕ) (sent : Result Unit LinkStop) → Sends old job.from octets sent new
            → (HasSent told session job old new octets → TellsSo answer) → TellsSo (once_sent answer sent)
        sent_by answer octets (Ok done) sends so = so sends.ok
        sent_by answer octets (Err stop.Failed) sends so = sends.stops.failed refl
        sent_by answer octets (Err stop.NoMemory) sends so = sends.stops.no_memory refl

        replied : on.settled ≡ settled.Firm → HasSent told session job old new receipt.reply
            → TellsSo (served.Replied receipt.cause receipt.front)
        replied firm sent = record {
          first = t;
          later = then.later;
          turns = turns_behind then.later then.turns;
          size = is.first.legal.size;
          reply = receipt.reply;
          sent = sent;
          front_is = (counted receipt o).front_is;
          cause_is = cause_of receipt o;
          answers = answers_of receipt o;
          long = (counted receipt o).long;
          firm = learnt.firm firm;
          fault = λ number is_fault. is.first.does_so.fault (subst (λ (x : Outcome). caller.TellsFault x) (sym o) (inr (number, (receipt, refl, is_fault))));
        }

        lost : (n : ℕ) → on.settled ≡ settled.Lost n
            → MatchOption (failure_reply (prepared_of job.octets)) (new ≡ old) (HasSent told session job old new) → TellsSo served.Lost
        lost n is_lost sent =
            let cut = learnt.lost n is_lost in
            record { first = t; second = cut.second; turns = turns_behind (cut.second ∷ []) cut.turns; cut = cut.cut; rose = cut.rose; sent = sent }

        lost_to : (n : ℕ) → on.settled ≡ settled.Lost n → (octets : Option (List ℕ)) → failure_reply (prepared_of job.octets) ≡ octets
            → SendsTo job old new result octets served.Lost → TellsSo result
        lost_to n is_lost None none sends = subst (λ (r : Served). TellsSo r) (sym sends.0)
            (lost n is_lost (subst (λ x. MatchOption x (new ≡ old) (HasSent told session job old new)) (sym none) sends.1))
        lost_to n is_lost (Some octets) some sends = subst (λ (r : Served). TellsSo r) (sym sends.2) (sent_by served.Lost octets sends.0 sends.1
            (λ sent. lost n is_lost (subst (λ x. MatchOption x (new ≡ old) (HasSent told session job old new)) (sym some) sent)))

        concluded : (s : Settled) → on.settled ≡ s → SendsFor job old new result receipt s → TellsSo result
        concluded settled.Firm firm sends = subst (λ (r : Served). TellsSo r) (sym sends.2)
            (sent_by (served.Replied receipt.cause receipt.front) receipt.reply sends.0 sends.1 (replied firm))
        concluded (settled.Lost n) is_lost sends = lost_to n is_lost (failure_reply (prepared_of job.octets)) refl sends
        concluded (settled.NotYet n) not sends = absurd sends

      tells_on : (o : Outcome) → is.outcome ≡ o → GoesOn tells may session job old new result now after o → TellsSo result
      tells_on (outcome.Drop why) o goes = subst (λ (r : Served). TellsSo r) (sym goes.0) (record {
        first = t;
        turns = ap (λ (k : Knowledge). k.turns) goes.1 ∙ now_turns;
        unsent = goes.2;
        fault = λ device. is.first.does_so.fault (subst (λ (x : Outcome). caller.TellsFault x) (sym o) (inl (ap (λ w. outcome.Drop w) device)));
      })
      tells_on (outcome.Answer receipt) o (inl over) = subst (λ (r : Served). TellsSo r) (sym over.1.0) over.1.2
      tells_on (outcome.Answer receipt) o (inr on) = concluded receipt o on.1 on.1.settled refl on.1.sends

      pub tells_behind : TellsSo result
      tells_behind = tells_on is.outcome refl is.goes_on

    -- a job that is served by itself
    pub tells_so : {before after : Knowledge} → IsServed tells may session job old new result before after
        → Tells (tells_lists tells) session job before after old new result
    tells_so {before = before} {after = after} is = tells_behind {between = []} {before = before} {now = is.taken} {after = after} (record {
      outcome = is.outcome;
      taken = is.taken;
      first = is.first;
      behind = sym (append-nil is.taken.turns);
      goes_on = is.goes_on;
    })

-- the entries that a pass added, with those of more jobs
pub more_jobs : (size session : ℕ) (jobs more : List Job) (t : KeptTurn) → IsAnswerTo size session jobs t → IsAnswerTo size session (jobs ++ more) t
more_jobs size session jobs more t (inl none) = inl none
more_jobs size session jobs more t (inr is) = inr (is.0, Contains-append_left jobs more is.0 is.1, is.2)

pub none_added : (size session : ℕ) (jobs : List Job) (later : List KeptTurn) → All (λ t. t.added ≡ []) later → All (IsAnswerTo size session jobs) later
none_added size session jobs later none k d lt = inl (none k d lt)

-- the same of the pass that a session has
pub at_pass : {A : Type 0} {tells : Ghosts A} {may : ℕ → ℕ → Go → Type 0} {session : ℕ} {job : Job} {old new : LinkState} {result : Served}
    {after : Knowledge} (p : Option Pass) (pass : Pass) → p ≡ Some pass
    → IsServed tells may session job old new result (knowledge pass) after → IsServed tells may session job old new result (known_by p) after
at_pass {tells = tells} {may = may} {session = session} {job = job} {old = old} {new = new} {result = result} {after = after} p pass is served =
    subst (λ (k : Knowledge). IsServed tells may session job old new result k after) (ap known_by (sym is)) served

pub own_number : (session : ℕ) (p : Option Pass) (pass : Pass) → p ≡ Some pass → IfSome p (λ q. session ≡ (knowledge q).number)
    → session ≡ (known_by p).number
own_number session None pass is own = absurd (cc is)
own_number session (Some q) pass is own = own
