-- What a session has done at its desk behind jobs that it served together.
use Rattle.std.proofs.Common.{◌≡◌, ◌⊎◌, ⊎_elim, inl, inr, ℕ, ◌<◌, ◌≤◌, Bool, true, List, [], ◌∷◌, ◌++◌, Option, None, Some, refl, sym, ap, subst, ◌∙◌, append_assoc, arith}
use Rattle.session_run.proofs.Names.{Addr, All, All-contains, All-push, append-nil, AreRepliesTo, AreServed, AreTaken, Began, Begins, caller_of, Contains, Contains-append_left, Contains-append_right, Datagram, datagram_of, decided_at, Desk, EachTells, entries_of, Facts, first_stop, Ghosts, Go, GoesFrom, GoesOn, GoOn, hand_at, HasFailedSince, HasLostBehind, HasRepliedBehind, HasSent, HasWorked, HearsNothing, history_at, HistoryEntry, IfSome_then, IsAnswered, IsFaultAt, IsReplyAt, IsSince, Job, KeepsTurnsOf, kept, KeptTurn, Knowledge, known_at, later_of, latest, link_at, LinkState, MatchOption, option_or, Outcome, RepliesTo, Rose, Served, Stop, stop_of, tells_lists, TellsBehind, TellsFailure, TellTogether, with_all_taken, with_one}
use Rattle.gateway_answer.specs.Answer.{Says as SaysReply, failure_reply, reply_in}
use Rattle.gateway_answer.specs.Preparing.{prepared_of}
use Rattle.gateway_book.specs.declared.outcome.Outcome.TheVariants as outcome
use Rattle.net_link.specs.declared.link.Link as paths
use Rattle.node_session.specs.declared.served.Served.TheVariants as served
use Rattle.turn_cell.specs.Passes.{Took}
use Rattle.session_run.specs.declared.stop.Stop.TheVariants as stop
use Rattle.session_run.proofs.AddedLemmas.{added_on}
use Rattle.session_run.proofs.InTurnLemmas.{in_turn_both, in_turn_more, in_turn_weaker}
use Rattle.session_run.proofs.TakingLemmas.{latest_of_both}
use Rattle.session_run.proofs.StopLemmas.{never_clock, none_of, one_of}

pub begins_then : {X : Type 0} (xs ys zs : List X) → (r : List X) × (ys ≡ xs ++ r) → (r : List X) × (zs ≡ ys ++ r)
    → (r : List X) × (zs ≡ xs ++ r)
begins_then xs ys zs p q = (p.0 ++ q.0, let same = append_assoc xs p.0 q.0 in cc)

-- what was said of a datagram is said still once more is firm
pub says_later : {size size' : ℕ} {firm later : List HistoryEntry} {asked : Datagram} {octets : List ℕ} {P Q : Type 0}
    → size ≡ size' → Begins firm later → (P → Q) → IsAnswered size firm asked octets ⊎ (TellsFailure asked octets × P)
    → IsAnswered size' later asked octets ⊎ (TellsFailure asked octets × Q)
says_later {firm = firm} {later = later} same begins more (inl a) = inl (rw (← same) (record {
  history = a.history;
  act = a.act;
  says = a.says;
  now = a.now;
  who = a.who;
  rests = begins_then (a.history ++ entries_of a.history a.now a.who a.act) firm later a.rests begins;
}))
says_later same begins more (inr f) = inr (f.0, more f.1)

-- a count that rose from a later value rose from an earlier one, and rose to a later one
pub rose_since : (s a b : ℕ) → s ≤ a → Rose a b → Rose s b
rose_since s a b le rose = ⊎_elim (λ (lt : a < b). inl (omega (arith, le, lt))) (λ last. inr last) rose

-- ---- what a pass knows

-- the cell was made with this count of faults, and each turn found it at least so
abbrev IsFrom : ℕ → Knowledge → Type 0
IsFrom n k = (k.faults ≡ n) × All (IsSince n) k.turns

module _ (n : ℕ) where
  -- behind a turn
  from_took : {V A : Type 0} {told : Bool} {facts : V → Facts} {session : Option ℕ}
      {does : V → V → A → Bool → List HistoryEntry → Type 0} {before : Knowledge} {answer : A} {after : Knowledge}
      → Took told facts session does before answer after → IsFrom n before → IsFrom n after
  from_took {facts = facts} {before = before} t from = rw t.kept (
    from.0,
    All-push (IsSince n) before.turns (kept (facts t.found) (facts t.left) t.drops t.added) from.1
        (record { found = omega (arith, t.legal.since, from.0); left = t.owes.faults }),
  )

  module _ {A : Type 0} (tells : Ghosts A) where
    from_taken : (session : ℕ) (jobs : List Job) (outcomes : List Outcome) (before after : Knowledge)
        → AreTaken tells session jobs outcomes before after → IsFrom n before → IsFrom n after
    from_taken session [] [] before after taken from = rw taken from
    from_taken session (job ∷ jobs) (o ∷ outcomes) before after taken from =
        from_taken session jobs outcomes taken.0 after taken.2 (from_took taken.1 from)
    from_taken session _ _ before after taken from = absurd taken

    module _ (may : ℕ → ℕ → Go → Type 0) (session : ℕ) where
      from_goes : (job : Job) (old new : LinkState) (result : Served) (taken after : Knowledge) (o : Outcome)
          → GoesOn tells may session job old new result taken after o → IsFrom n taken → IsFrom n after
      from_goes job old new result taken after (outcome.Drop why) e from = rw e.1 from
      from_goes job old new result taken after (outcome.Answer receipt) (inl over) from = rw over.1.1 from
      from_goes job old new result taken after (outcome.Answer receipt) (inr on) from =
          let a = on.1.asked in
          let looked : IsFrom n a.looked = rw a.saw.same from in
          ⊎_elim (λ firm. rw firm.2 looked) (λ second. from_took second.1 looked) a.ends

      from_gone : (jobs : List Job) (outcomes : List Outcome) (results : List Served) (taken after : Knowledge)
          (old new : LinkState) → GoOn tells may session jobs outcomes results taken after old new
          → IsFrom n taken → IsFrom n after
      from_gone [] outcomes results taken after old new goes from = rw goes.2 from
      from_gone (job ∷ jobs) (o ∷ outcomes) (r ∷ results) taken after old new goes from =
          from_gone jobs outcomes results goes.0 after goes.1 new goes.3
          (from_goes job old goes.1 r taken goes.0 o goes.2 from)
      from_gone (job ∷ jobs) _ _ taken after old new goes from = absurd goes

more_turns : {told : Bool} {before after : Knowledge} → GoesFrom told before after → (t : KeptTurn)
    → Contains before.turns t → Contains after.turns t
more_turns {before = before} goes t has = rw goes.turns (Contains-append_left before.turns goes.later t has)

from_then : {told : Bool} {one two three : Knowledge} → GoesFrom told one two → GoesFrom told two three
    → GoesFrom told one three
from_then {one = one} {two = two} {three = three} p q = record {
  number = q.number ∙ p.number;
  size = q.size ∙ p.size;
  faults = q.faults ∙ p.faults;
  known = λ y. begins_then one.known two.known three.known (p.known y) (q.known y);
  later = p.later ++ q.later;
  turns = rw (q.turns, p.turns) (append_assoc one.turns p.later q.later);
}

-- ---- what was sent

-- replies stay replies
replies_stay : {told : Bool} {before after : Knowledge} → GoesFrom told before after → told ≡ true → (jobs : List Job)
    (sent : Option (List Datagram)) → AreRepliesTo jobs before sent → AreRepliesTo jobs after sent
replies_stay {before = before} {after = after} goes y jobs sent are =
    IfSome_then sent are (λ list p. in_turn_weaker (RepliesTo before) (RepliesTo after) stays jobs list p)
  where
    stays : (job : Job) (d : Datagram) → RepliesTo before job d → RepliesTo after job d
    stays job d r = record {
      peer = r.peer;
      says = says_later (sym goes.size) (goes.known y)
          (λ (f : HasFailedSince before). (f.0, more_turns goes f.0 f.1, rw goes.faults f.2)) r.says;
    }

-- each turn that a pass keeps found the count of faults at least at the one that it began with
abbrev AllSince : Knowledge → Type 0
AllSince k = (t : KeptTurn) → Contains k.turns t → IsSince k.faults t

-- Behind one more job: `before` is in front of its first turn, `taken` in front of what followed, and `after` behind that.
-- What was sent before are replies to the jobs in front of it.
module _ (told : Bool) (session : ℕ) (job : Job) (done : List Job) (between : List KeptTurn)
    (before taken after : Knowledge) (goes : GoesFrom told taken after) (same_size : before.size ≡ after.size)
    (all_at : AllSince after) (old new : LinkState) (y : told ≡ true) (are : AreRepliesTo done taken old.sent) where
  abbrev AreReplies : Type 0
  AreReplies = AreRepliesTo (done ++ job ∷ []) after new.sent

  stay : AreRepliesTo done after old.sent
  stay = replies_stay goes y done old.sent are

  none_sent : new.sent ≡ old.sent → AreReplies
  none_sent same = rw same
      (IfSome_then old.sent stay (λ list p. in_turn_more (RepliesTo after) done list (job ∷ []) p))

  abbrev Says : List ℕ → Type 0
  Says octets = IsAnswered after.size after.known (datagram_of job) octets
      ⊎ (TellsFailure (datagram_of job) octets × HasFailedSince after)

  one_sent : (octets : List ℕ) → Says octets → HasSent told session job old new octets → AreReplies
  one_sent octets says sent = rw sent (by old.sent stay)
    where
      reply : Datagram
      reply = record { peer = job.from; octets = octets }

      by : (o : Option (List Datagram)) → AreRepliesTo done after o
          → AreRepliesTo (done ++ job ∷ []) after (with_one reply o)
      by None were = tt
      by (Some list) were = in_turn_both (RepliesTo after) done list (job ∷ []) (reply ∷ []) were
          (inl (record { peer = refl; says = says }, tt))

  -- a turn of the job that stands in what the pass keeps
  kept_turn : (first : KeptTurn) (later : List KeptTurn) → after.turns ≡ before.turns ++ first ∷ later
      → Contains after.turns first
  kept_turn first later is = rw is (Contains-append_right before.turns (first ∷ later) first (0, omega arith, refl))

  replied_says : {cause : Option ℕ} {front : ℕ}
      → (r : HasRepliedBehind told session job between before after old new cause front) → Says r.reply
  replied_says r =
      let size : r.first.found.size ≡ after.size = r.size ∙ same_size in
      let has = kept_turn r.first (between ++ r.later) r.turns in
      ⊎_elim
      (λ (a : IsReplyAt told session job r.first r.reply). inl (record {
        history = history_at r.first;
        act = a.act;
        says = subst (λ (n : ℕ). decided_at (history_at r.first) n job.from job.octets ≡ SaysReply r.reply a.act) size
            a.decides;
        now = job.moment;
        who = caller_of session job;
        rests = rw (a.list, a.adds) at (r.firm y);
      }))
      (λ (f : IsFaultAt told session job r.first r.reply).
      let since = (all_at r.first has).found in
      inr (ap (λ d. reply_in d) f.decides, (r.first, has, omega (arith, since, f.rose))))
      (r.answers y)

  lost : HasLostBehind told session job between before after old new → AreReplies
  lost l = by (failure_reply (prepared_of job.octets)) refl l.sent
    where
      by : (o : Option (List ℕ)) → failure_reply (prepared_of job.octets) ≡ o
          → MatchOption o (new ≡ old) (HasSent told session job old new) → AreReplies
      by None is same = none_sent (cc)
      by (Some octets) is sent =
          let also : Contains after.turns l.second = rw l.turns
          (Contains-append_right before.turns (l.first ∷ (between ++ l.second ∷ [])) l.second
          (Contains-append_right (l.first ∷ between) (l.second ∷ []) l.second (0, omega arith, refl))) in
          let since = all_at l.first (kept_turn l.first (between ++ l.second ∷ []) l.turns) in
          one_sent octets (inr (is, (l.second, also, omega (arith, since.found, since.left, l.rose)))) sent

  -- what was sent stays replies to jobs in turn
  sent_on : (result : Served) → TellsBehind told session job between before after old new result → AreReplies
  sent_on (served.Replied cause front) r = one_sent r.reply (replied_says r) r.sent
  sent_on served.Lost l = lost l
  sent_on _ t = none_sent (cc)

-- ---- the link

-- From one state of a session's link to another, by why the session stopped between them.
record LinkGoes (stops : Option Stop) (old new : LinkState) : Type 0 where
  pub hears : (at : Addr) → HearsNothing at old → HearsNothing at new
  pub fails : Rose 0 old.faults → Rose 0 new.faults
  pub failed : stops ≡ Some stop.Link → Rose 0 new.faults
  pub calm : stops ≡ None → new.faults ≡ old.faults

link_then : (s t : Option Stop) {one two three : LinkState} → LinkGoes s one two → LinkGoes t two three
    → LinkGoes (option_or s t) one three
link_then s t p q = record {
  hears = λ at h. q.hears at (p.hears at h);
  fails = λ rose. q.fails (p.fails rose);
  failed = λ is. ⊎_elim (λ first. q.fails (p.failed first)) (λ second. q.failed second) (one_of s t stop.Link is);
  calm = λ none. let both = none_of s t none in q.calm both.1 ∙ p.calm both.0;
}

-- it sent something, or nothing
link_sent : {stops : Option Stop} {old new : LinkState} (sent : Option (List Datagram))
    → new ≡ record old { sent = sent }
    → (stops ≡ Some stop.Link → ⊥) → LinkGoes stops old new
link_sent sent is other = rw is (record {
  hears = λ at h. record { address = h.address; turns = h.turns; received = h.received };
  fails = λ rose. rose;
  failed = λ link. absurd (other link);
  calm = λ none. refl;
})

link_goes : (told : Bool) (session : ℕ) (job : Job) (between : List KeptTurn) (before after : Knowledge)
    (old new : LinkState)
    (result : Served) → TellsBehind told session job between before after old new result
    → LinkGoes (stop_of result) old new
link_goes told session job between before after old new (served.Replied cause front) r = link_sent _ r.sent
    (λ is. cc is)
link_goes told session job between before after old new (served.Dropped why) d = link_sent old.sent d.unsent
    (λ is. cc is)
link_goes told session job between before after old new served.Lost l = by
    (failure_reply (prepared_of job.octets)) l.sent
  where
    by : (o : Option (List ℕ)) → MatchOption o (new ≡ old) (HasSent told session job old new) → LinkGoes None old new
    by None same = link_sent old.sent same (λ is. cc is)
    by (Some octets) sent = link_sent _ sent (λ is. cc is)
link_goes told session job between before after old new served.Link f =
    let rose = rose_since 0 old.faults new.faults (omega arith) f.rose in
    record {
      hears = λ at h. rw f.rest (record { address = h.address; turns = h.turns; received = h.received });
      fails = λ first. rose;
      failed = λ is. rose;
      calm = λ none. cc none;
    }
link_goes told session job between before after old new _ same = link_sent old.sent same (λ is. cc is)

-- ---- all jobs

module _ (told : Bool) (session : ℕ) where
  -- Behind all jobs the pass knows no less, and what was sent stays replies to jobs in turn.
  record Walked (jobs : List Job) (results : List Served) (before taken after : Knowledge) (old new : LinkState)
      : Type 0 where
    pub goes : GoesFrom told taken after
    pub link : LinkGoes (first_stop results) old new
    pub sent : (done : List Job) → before.size ≡ after.size → AllSince after → told ≡ true
        → AreRepliesTo done taken old.sent
        → AreRepliesTo (done ++ jobs) after new.sent

  walked : (jobs : List Job) (results : List Served) (before taken after : Knowledge) (old new : LinkState)
      → EachTells told session jobs results before taken after old new → Walked jobs results before taken after old new
  walked [] results before taken after old new each = rw (each.0, each.1, each.2) (record {
    goes = record {
      number = refl;
      size = refl;
      faults = refl;
      known = λ y. ([], sym (append-nil taken.known));
      later = [];
      turns = sym (append-nil taken.turns);
    };
    link = link_sent old.sent refl (λ is. cc is);
    sent = λ done size since y are. rw append-nil are;
  })
  walked (job ∷ jobs) [] before taken after old new each = absurd each
  walked (job ∷ jobs) (r ∷ results) before taken after old new each =
      let now = each.1 in
      let one = each.3 in
      let rest = walked jobs results each.0 now after each.2 new each.4 in
      record {
        goes = from_then one.goes rest.goes;
        link = link_then (stop_of r) (first_stop results)
            (link_goes told session job one.between before now old each.2 r one.tells) rest.link;
        sent = λ done size since y are. rw (← append_assoc done (job ∷ []) jobs)
            (rest.sent (done ++ job ∷ []) (one.size ∙ size) since y
            (sent_on told session job done one.between before taken now one.goes (size ∙ rest.goes.size)
            (λ t has. rw rest.goes.faults at (since t (more_turns rest.goes t has))) old each.2 y are r one.tells));
      }

module _ {A L : Type 0} (device : Ghosts A) (tells : paths.Ghosts L) (may : ℕ → ℕ → Go → Type 0) (session : ℕ)
    (jobs : List Job) (old new : Desk L) (results : List Served)
    (took : hand_at new ≡ with_all_taken jobs (hand_at old))
    (serves : AreServed device may session jobs (link_at tells old) (link_at tells new) results (known_at old) (known_at new))
    (keeps : KeepsTurnsOf (tells_lists device) session jobs (known_at old) (known_at new))
    (told : TellTogether (tells_lists device) session jobs results (known_at old) (known_at new) (link_at tells old) (link_at tells new))
    (own : session ≡ (known_at new).number)
    (stops : new.stop ≡ option_or old.stop (first_stop results)) (lasts : new.last ≡ later_of old.last (latest jobs)) (at : Addr) (began : Began)
    (w : HasWorked tells (tells_lists device) at began old) where
  from : IsFrom began.faults (known_at new)
  from = from_gone began.faults device may session jobs serves.outcomes results serves.taken (known_at new)
      (link_at tells old) (link_at tells new) serves.go_on
      (from_taken began.faults device session jobs serves.outcomes (known_at old) serves.taken serves.first
      (w.faults, w.since))

  all_since : AllSince (known_at new)
  all_since t has = rw from.0 (All-contains (IsSince began.faults) (known_at new).turns t from.1 has)

  all : Walked (tells_lists device) session jobs results (known_at old) told.taken (known_at new) (link_at tells old)
      (link_at tells new)
  all = walked (tells_lists device) session jobs results (known_at old) told.taken (known_at new) (link_at tells old)
      (link_at tells new) told.each

  abbrev before_all : List Job
  before_all = (hand_at old).taken

  session_is : session ≡ began.number
  session_is = own ∙ keeps.number ∙ w.number

  either : (s : Stop) → new.stop ≡ Some s → (old.stop ≡ Some s) ⊎ (first_stop results ≡ Some s)
  either s is = one_of old.stop (first_stop results) s (sym stops ∙ is)

  pub worked_on : HasWorked tells (tells_lists device) at began new
  worked_on = record {
    number = keeps.number ∙ w.number;
    size = keeps.size ∙ w.size;
    faults = from.0;
    since = from.1;
    none_put = cc (took, w.none_put);
    last = rw (took, lasts, w.last) (sym (latest_of_both before_all jobs));
    answers = λ y. rw (took, ← session_is) (added_on (tells_lists device) session before_all jobs (known_at old)
        (known_at new) began.size y w.size keeps (rw session_is (w.answers y)));
    replies = λ y. rw took (all.sent before_all (sym keeps.size) all_since y
        (replies_stay told.goes y before_all (link_at tells old).sent (w.replies y)));
    link = all.link.hears at w.link;
    cause = λ is. ⊎_elim (λ earlier. all.link.fails (w.cause earlier)) (λ now. all.link.failed now)
        (either stop.Link is);
    calm = λ is. let both = none_of old.stop (first_stop results)
        (sym stops ∙ is) in all.link.calm both.1 ∙ w.calm both.0;
    no_clock = λ is. ⊎_elim (λ earlier. w.no_clock earlier) (λ now. never_clock results now) (either stop.Clock is);
  }
