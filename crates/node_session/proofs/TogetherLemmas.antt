-- What a session tells of jobs that it served together, by what it did step by step.
use Rattle.std.proofs.Common.{◌≡◌, ◌⊎◌, inl, inr, ℕ, suc, Bool, true, List, [], ◌∷◌, ◌++◌, ◌+◌, ◌<◌, length, take, Option, Some, refl, sym, ap, subst, ◌∙◌, append_assoc, arith}
use Rattle.node_session.proofs.Names.{AddsAnswers, All, All-append, All-cons, All-nil, append-nil, AreFirstsOf, AreServed, AreTaken, Book, book_facts, called_at, caller_of, Contains, Contains-append_left, Contains-push, EachMayHave, EachTells, Facts, FirstAreTaken, Ghosts, Go, GoesFrom, GoesOn, GoOn, HasTurnFor, HaveTurnsFor, history_at, HistoryEntry, IsAnswerTo, Job, KeepsTurns, KeepsTurnsOf, kept, KeptTurn, Knowledge, knowledge, known_by, length-append, LinkState, Outcome, Pass, Served, slice_index_or, take_more, TakesIn, tells_lists, TellTogether}
use Rattle.turn_cell.specs.Passes.{TookEach, TookMore}
use Rattle.node_session.specs.Turns as turns
use Rattle.node_session.proofs.ServedLemmas.{Laters, adds_first, goes_none, goes_then, goes_turn, later_none, later_on, may_on, more_jobs, none_added, own_turn, tells_behind}

-- the pass keeps the turn of an outcome behind more turns
turn_stays : (told : Bool) (outcome : Outcome) (before after : Knowledge) (more : List KeptTurn)
    → after.turns ≡ before.turns ++ more → HasTurnFor told outcome before → HasTurnFor told outcome after
turn_stays told outcome before after more is have receipt at = let t = have receipt at in (
  t.0,
  subst (λ (ts : List KeptTurn). Contains ts t.0) (sym is) (Contains-append_left before.turns more t.0 t.1),
  t.2,
)

module _ {A : Type 0} (tells : Ghosts A) (session : ℕ) where
  abbrev told : Bool
  told = tells_lists tells

  abbrev Takes : Job → Knowledge → Outcome → Knowledge → Type 0
  Takes job before outcome after = TakesIn tells job.from job.octets job.moment (caller_of session job) before outcome after

  -- what a turn does that takes the datagram of a job
  abbrev DoesTake : Job → Book A tells → Book A tells → Outcome → Bool → List HistoryEntry → Type 0
  DoesTake job found left answer drops added =
      turns.HasTaken job.from job.octets job.moment (caller_of session job) (book_facts found) (book_facts left) added answer told drops

  -- they were taken in turns under one ticket
  pub taken_each : (made : ℕ) (start : Facts) (jobs : List Job) (outcomes : List Outcome) (before after : Knowledge)
      → TookEach told (λ (book : Book A tells). book_facts book) made start (Some session) DoesTake jobs outcomes before after
      → AreTaken tells session jobs outcomes before after
  taken_each made start [] [] before after took = took
  taken_each made start (job ∷ jobs) (o ∷ outcomes) before after took =
      (took.0, took.1.0, taken_each made start jobs outcomes took.0 after took.2)
  taken_each made start _ _ before after took = absurd took

  -- more were taken behind these
  pub taken_then : (earlier jobs : List Job) (old more : List Outcome) (first before after : Knowledge)
      → AreTaken tells session earlier old first before → AreTaken tells session jobs more before after
      → AreTaken tells session (earlier ++ jobs) (old ++ more) first after
  taken_then [] jobs [] more first before after taken then = subst (λ (k : Knowledge). AreTaken tells session jobs more k after) taken then
  taken_then (job ∷ earlier) jobs (o ∷ old) more first before after taken then =
      (taken.0, taken.1, taken_then earlier jobs old more taken.0 before after taken.2 then)
  taken_then _ jobs _ more first before after taken then = absurd taken

  -- the same of turns under one ticket, whose outcomes stand behind others
  pub taken_behind : (made : ℕ) (start : Facts) (earlier jobs : List Job) (old new : List Outcome) (first before after : Knowledge)
      → TookMore told (λ (book : Book A tells). book_facts book) made start (Some session) DoesTake jobs old new before after
      → AreTaken tells session earlier old first before → AreTaken tells session (earlier ++ jobs) new first after
  taken_behind made start earlier jobs old new first before after took taken =
      subst (λ (os : List Outcome). AreTaken tells session (earlier ++ jobs) os first after) (sym took.1)
      (taken_then earlier jobs old took.0 first before after taken (taken_each made start jobs took.0 before after took.2))

  -- each has an outcome
  pub as_many : (jobs : List Job) (outcomes : List Outcome) (before after : Knowledge)
      → AreTaken tells session jobs outcomes before after → length outcomes ≡ length jobs
  as_many [] [] before after taken = refl
  as_many (job ∷ jobs) (o ∷ outcomes) before after taken = ap suc (as_many jobs outcomes taken.0 after taken.2)
  as_many _ _ before after taken = absurd taken

  -- a turn, as the pass keeps it
  abbrev turn_of : {job : Job} {before after : Knowledge} {outcome : Outcome} → Takes job before outcome after → KeptTurn
  turn_of took = kept (book_facts took.found) (book_facts took.left) took.drops took.added

  turns_with : {job : Job} {before after : Knowledge} {outcome : Outcome} (took : Takes job before outcome after)
      → after.turns ≡ before.turns ++ turn_of {job = job} took ∷ []
  turns_with took = ap (λ (k : Knowledge). k.turns) took.kept

  -- the turns that took datagrams, one for each job
  record Firsts (jobs : List Job) (before after : Knowledge) : Type 0 where
    pub goes : GoesFrom told before after
    pub each : AreFirstsOf told session before.size jobs goes.later

  firsts_of : (jobs : List Job) (outcomes : List Outcome) (before after : Knowledge)
      → AreTaken tells session jobs outcomes before after → Firsts jobs before after
  firsts_of [] [] before after taken = record { goes = goes_none taken; each = refl }
  firsts_of (job ∷ jobs) (outcome ∷ outcomes) before after taken =
      let rest : Firsts jobs taken.0 after = firsts_of jobs outcomes taken.0 after taken.2 in
      record {
        goes = goes_then (goes_turn taken.1) rest.goes;
        each = (
          taken.1.legal.size,
          adds_first tells session job taken.1,
          subst (λ (n : ℕ). AreFirstsOf told session n jobs rest.goes.later)
              (ap (λ (k : Knowledge). k.size) taken.1.kept) rest.each,
        );
      }
  firsts_of _ _ before after taken = absurd taken

  -- the pass keeps the turns of all these outcomes
  pub have_turns : (jobs : List Job) (outcomes : List Outcome) (before after : Knowledge) → AreTaken tells session jobs outcomes before after
      → HaveTurnsFor told outcomes after
  have_turns [] [] before after taken = All-nil (λ (o : Outcome). HasTurnFor told o after)
  have_turns (job ∷ jobs) (o ∷ outcomes) before after taken =
      let rest : GoesFrom told taken.0 after = (firsts_of jobs outcomes taken.0 after taken.2).goes in
      All-cons (λ (x : Outcome). HasTurnFor told x after) o outcomes
      (turn_stays told o taken.0 after rest.later rest.turns (own_turn tells job.from job.octets job.moment (caller_of session job) before taken.0 o taken.1))
      (have_turns jobs outcomes taken.0 after taken.2)
  have_turns _ _ before after taken = absurd taken

  -- the same behind other outcomes, whose turns the pass kept
  module _ (made : ℕ) (start : Facts) (jobs : List Job) (old new : List Outcome) (before after : Knowledge)
      (took : TookMore told (λ (book : Book A tells). book_facts book) made start (Some session) DoesTake jobs old new before after) where
    all_took : AreTaken tells session jobs took.0 before after
    all_took = taken_each made start jobs took.0 before after took.2

    pub turns_behind : HaveTurnsFor told old before → HaveTurnsFor told new after
    turns_behind have =
        let goes : GoesFrom told before after = (firsts_of jobs took.0 before after all_took).goes in
        subst (λ (os : List Outcome). HaveTurnsFor told os after) (sym took.1)
        (All-append (λ (o : Outcome). HasTurnFor told o after) old took.0
        (λ k d lt. turn_stays told (slice_index_or old k d) before after goes.later goes.turns (have k d lt))
        (have_turns jobs took.0 before after all_took))

    pub number_behind : after.number ≡ before.number
    number_behind = (firsts_of jobs took.0 before after all_took).goes.number

    pub as_many_behind : length new ≡ length old + length jobs
    as_many_behind =
        ap (λ (os : List Outcome). length os) took.1 ∙ length-append old took.0
        ∙ ap (λ (n : ℕ). length old + n) (as_many jobs took.0 before after all_took)

  module _ (may : ℕ → ℕ → Go → Type 0) where
    abbrev Goes : Job → LinkState → LinkState → Served → Knowledge → Knowledge → Outcome → Type 0
    Goes job old new result now after outcome = GoesOn tells may session job old new result now after outcome

    -- the session went on with one job more
    pub gone_more : (jobs : List Job) (outcomes : List Outcome) (results : List Served) (taken now after : Knowledge)
        (old sent new : LinkState) (job : Job) (outcome : Outcome) (result : Served)
        → GoOn tells may session jobs outcomes results taken now old sent → Goes job sent new result now after outcome
        → GoOn tells may session (jobs ++ job ∷ []) (outcomes ++ outcome ∷ []) (results ++ result ∷ []) taken after old new
    gone_more [] [] [] taken now after old sent new job outcome result goes more = (
      after,
      new,
      subst (λ (k : Knowledge). Goes job old new result k after outcome) goes.2
          (subst (λ (s : LinkState). Goes job s new result now after outcome) goes.3 more),
      (refl, refl, refl, refl),
    )
    gone_more [] (o ∷ outcomes) results taken now after old sent new job outcome result goes more = absurd (cc goes.0)
    gone_more [] [] (r ∷ results) taken now after old sent new job outcome result goes more = absurd (cc goes.1)
    gone_more (j ∷ jobs) (o ∷ outcomes) (r ∷ results) taken now after old sent new job outcome result goes more = (
      goes.0,
      goes.1,
      goes.2,
      gone_more jobs outcomes results goes.0 now after goes.1 sent new job outcome result goes.3 more,
    )
    gone_more (j ∷ jobs) _ _ taken now after old sent new job outcome result goes more = absurd goes

    pub gone_next : (jobs : List Job) (outcomes : List Outcome) (i : ℕ) (job : Job) (outcome : Outcome) (results : List Served)
        (taken now after : Knowledge) (old sent new : LinkState) (result : Served)
        → i < length jobs → i < length outcomes → job ≡ slice_index_or jobs i job → outcome ≡ slice_index_or outcomes i outcome
        → GoOn tells may session (take i jobs) (take i outcomes) results taken now old sent → Goes job sent new result now after outcome
        → GoOn tells may session (take (i + 1) jobs) (take (i + 1) outcomes) (results ++ result ∷ []) taken after old new
    gone_next jobs outcomes i job outcome results taken now after old sent new result within inside read told goes more =
        subst (λ (js : List Job). GoOn tells may session js (take (i + 1) outcomes) (results ++ result ∷ []) taken after old new)
        (sym (take_more jobs i job within ∙ ap (λ (j : Job). take i jobs ++ j ∷ []) (sym read)))
        (subst (λ (os : List Outcome). GoOn tells may session (take i jobs ++ job ∷ []) os (results ++ result ∷ []) taken after old new)
        (sym (take_more outcomes i outcome inside ∙ ap (λ (o : Outcome). take i outcomes ++ o ∷ []) (sym told)))
        (gone_more (take i jobs) (take i outcomes) results taken now after old sent new job outcome result goes more))

    -- the outcomes of turns that the pass keeps stay so while the session goes on
    pub turns_stay : (job : Job) (old new : LinkState) (result : Served) (now after : Knowledge) (outcome : Outcome) (outcomes : List Outcome)
        → Goes job old new result now after outcome → HaveTurnsFor told outcomes now → HaveTurnsFor told outcomes after
    turns_stay job old new result now after outcome outcomes goes have =
        let one : GoesFrom told now after =
        (later_on tells may session job old new result now after outcome goes).goes in
        λ k d lt. turn_stays told (slice_index_or outcomes k d) now after one.later one.turns (have k d lt)

    -- the turns behind those that took the datagrams: at most one for each job, which added nothing
    laters_of : (jobs : List Job) (outcomes : List Outcome) (results : List Served) (taken after : Knowledge) (old new : LinkState)
        → GoOn tells may session jobs outcomes results taken after old new → Laters told (length jobs) taken after
    laters_of [] outcomes results taken after old new goes = later_none 0 goes.2
    laters_of (job ∷ jobs) (o ∷ outcomes) (r ∷ results) taken after old new goes =
        let one : Laters told 1 taken goes.0 = later_on tells may session job old goes.1 r taken goes.0 o goes.2 in
        let rest : Laters told (length jobs) goes.0 after =
        laters_of jobs outcomes results goes.0 after goes.1 new goes.3 in
        record {
          goes = goes_then one.goes rest.goes;
          few = let a = one.few in let b = rest.few in
              omega (arith, a, b, length-append one.goes.later rest.goes.later);
          adds_none = All-append (λ (t : KeptTurn). t.added ≡ []) one.goes.later rest.goes.later one.adds_none rest.adds_none;
        }
    laters_of (job ∷ jobs) _ _ taken after old new goes = absurd goes

    pub number_on : (jobs : List Job) (outcomes : List Outcome) (results : List Served) (taken after : Knowledge) (old new : LinkState)
        → GoOn tells may session jobs outcomes results taken after old new → after.number ≡ taken.number
    number_on jobs outcomes results taken after old new goes = (laters_of jobs outcomes results taken after old new goes).goes.number

    -- what is told of each
    each_tells : (jobs : List Job) (outcomes : List Outcome) (results : List Served) (before taken now after : Knowledge)
        (old new : LinkState) (more : List KeptTurn) → now.turns ≡ taken.turns ++ more
        → AreTaken tells session jobs outcomes before taken → GoOn tells may session jobs outcomes results now after old new
        → EachTells told session jobs results before now after old new
    each_tells [] outcomes results before taken now after old new more is takes goes = (goes.1, goes.2, goes.3)
    each_tells (job ∷ jobs) (o ∷ outcomes) (r ∷ results) before taken now after old new more is takes goes =
        let rest : GoesFrom told takes.0 taken = (firsts_of jobs outcomes takes.0 taken takes.2).goes in
        let between : List KeptTurn = rest.later ++ more in
        let behind : now.turns ≡ takes.0.turns ++ between =
        is ∙ ap (λ (ts : List KeptTurn). ts ++ more) rest.turns ∙ append_assoc takes.0.turns rest.later more in
        let one : GoesFrom told now goes.0 = (later_on tells may session job old goes.1 r now goes.0 o goes.2).goes in (
          takes.0,
          goes.0,
          goes.1,
          record {
            first = turn_of {job = job} takes.1;
            turns = turns_with {job = job} takes.1;
            size = ap (λ (k : Knowledge). k.size) takes.1.kept;
            between = between;
            goes = one;
            tells = tells_behind tells may session job old goes.1 r {between = between} {before = before} {now = now} {after = goes.0}
                (record { outcome = o; taken = takes.0; first = takes.1; behind = behind; goes_on = goes.2 });
          },
          each_tells jobs outcomes results takes.0 taken goes.0 after goes.1 new (more ++ one.later)
              (one.turns ∙ ap (λ (ts : List KeptTurn). ts ++ one.later) is ∙ append_assoc taken.turns more one.later) takes.2 goes.3,
        )
    each_tells (job ∷ jobs) _ _ before taken now after old new more is takes goes = absurd goes

    each_may_have : (jobs : List Job) (outcomes : List Outcome) (results : List Served) (taken after : Knowledge) (old new : LinkState)
        → GoOn tells may session jobs outcomes results taken after old new → EachMayHave may session jobs results
    each_may_have [] outcomes results taken after old new goes = goes.1
    each_may_have (job ∷ jobs) (o ∷ outcomes) (r ∷ results) taken after old new goes = (
      may_on tells may session job old goes.1 r taken goes.0 o goes.2,
      each_may_have jobs outcomes results goes.0 after goes.1 new goes.3,
    )
    each_may_have (job ∷ jobs) _ _ taken after old new goes = absurd goes

    module _ {jobs : List Job} {old new : LinkState} {results : List Served} {before after : Knowledge}
        (is : AreServed tells may session jobs old new results before after) where
      pub tell_together : TellTogether told session jobs results before after old new
      tell_together = record {
        taken = is.taken;
        goes = (firsts_of jobs is.outcomes before is.taken is.first).goes;
        each = each_tells jobs is.outcomes results before is.taken is.taken after old new [] (sym (append-nil is.taken.turns)) is.first is.go_on;
      }

      pub all_may_have : EachMayHave may session jobs results
      all_may_have = each_may_have jobs is.outcomes results is.taken after old new is.go_on

      pub keeps_turns_of : KeepsTurnsOf told session jobs before after
      keeps_turns_of =
          let first : Firsts jobs before is.taken = firsts_of jobs is.outcomes before is.taken is.first in
          let then : Laters told (length jobs) is.taken after = laters_of jobs is.outcomes results is.taken after old new is.go_on in
          record {
            firsts = first.goes.later;
            later = then.goes.later;
            turns = then.goes.turns ∙ ap (λ (ts : List KeptTurn). ts ++ then.goes.later) first.goes.turns
                ∙ append_assoc before.turns first.goes.later then.goes.later;
            number = then.goes.number ∙ first.goes.number;
            size = then.goes.size ∙ first.goes.size;
            each = first.each;
            one_each = then.few;
            adds_none = then.adds_none;
          }

-- the datagrams of the jobs behind these were taken, with the lists as the parts of the call were lent them
pub taken_on : {A : Type 0} (tells : Ghosts A) (session : ℕ) (jobs : List Job) (old new : List Outcome) (p : Option Pass) (pass : Pass)
    (before after : Knowledge) → p ≡ Some pass → (js front back : List Job) (n : ℕ) → js ≡ jobs → n ≡ length old → front ≡ take n js
    → js ≡ front ++ back → FirstAreTaken tells session jobs old before (known_by p)
    → (AreTaken tells session front old before (knowledge pass) → AreTaken tells session (front ++ back) new before after)
    → AreTaken tells session jobs new before after
taken_on tells session jobs old new p pass before after is js front back n lent long first splits taken step =
    rw (← lent, splits) (step (rw (first, long, lent) (rw is at taken)))

-- where all were taken in one call
pub all_taken : {A : Type 0} (tells : Ghosts A) (session : ℕ) (jobs js : List Job) (old new : List Outcome) (before after : Knowledge) → old ≡ []
    → ((k : Knowledge) → FirstAreTaken tells session jobs old k before → AreTaken tells session js new k after)
    → AreTaken tells session js new before after
all_taken tells session jobs js old new before after none step =
    step before (rw none refl)

-- a session went on, with the lists as the parts of the call were lent them
pub gone_on : {A : Type 0} (tells : Ghosts A) (may : ℕ → ℕ → Go → Type 0) (session : ℕ) (jobs : List Job) (outcomes : List Outcome)
    (results : List Served) (p : Option Pass) (pass : Pass) (after : Knowledge) (old new : LinkState) → p ≡ Some pass
    → (js : List Job) (os : List Outcome) → js ≡ jobs → os ≡ outcomes → GoOn tells may session js os results (knowledge pass) after old new
    → GoOn tells may session jobs outcomes results (known_by p) after old new
gone_on tells may session jobs outcomes results p pass after old new is js os first second goes =
    rw (is, ← first, ← second) goes

-- a session that took all datagrams and then went on with each served the jobs
pub both_served : {A : Type 0} (tells : Ghosts A) (may : ℕ → ℕ → Go → Type 0) (session : ℕ) (jobs : List Job) (outcomes : List Outcome)
    (results : List Served) (before taken after : Knowledge) (old new : LinkState) (s : ℕ) (js : List Job) → s ≡ session → js ≡ jobs
    → AreTaken tells session js outcomes before taken → GoOn tells may s js outcomes results taken after old new
    → AreServed tells may session jobs old new results before after
both_served tells may session jobs outcomes results before taken after old new s js own same takes goes = record {
  outcomes = outcomes;
  taken = taken;
  first = rw (← same) takes;
  go_on = rw (← same, ← own) goes;
}

-- what was added to several jobs' answers stands among those to more
module _ (told : Bool) (session size : ℕ) where
  firsts_answer : (earlier jobs later : List Job) (firsts : List KeptTurn) → told ≡ true
      → AreFirstsOf told session size jobs firsts → All (IsAnswerTo size session (earlier ++ (jobs ++ later))) firsts
  firsts_answer earlier [] later firsts it_is each =
      subst (λ (ts : List KeptTurn). All (IsAnswerTo size session (earlier ++ later)) ts) (sym each)
      (All-nil (IsAnswerTo size session (earlier ++ later)))
  firsts_answer earlier (job ∷ jobs) later [] it_is each = absurd each
  firsts_answer earlier (job ∷ jobs) later (t ∷ firsts) it_is each =
      All-cons (IsAnswerTo size session (earlier ++ (job ∷ (jobs ++ later)))) t firsts (by_case (each.1 it_is))
      (subst (λ (js : List Job). All (IsAnswerTo size session js) firsts) (append_assoc earlier (job ∷ []) (jobs ++ later))
      (firsts_answer (earlier ++ job ∷ []) jobs later firsts it_is each.2))
    where
      by_case : (t.added ≡ []) ⊎ (t.added ≡ called_at told session job t)
          → IsAnswerTo size session (earlier ++ (job ∷ (jobs ++ later))) t
      by_case (inl none) = inl none
      by_case (inr is) = inr (
        job,
        subst (λ (js : List Job). Contains js job) (append_assoc earlier (job ∷ []) (jobs ++ later))
            (Contains-append_left (earlier ++ job ∷ []) (jobs ++ later) job (Contains-push earlier job)),
        is ∙ (λ i. turns.called_for (history_at t) (each.0 i) job.from job.octets job.moment (caller_of session job)),
      )

-- a pass that added answers to some jobs added answers to these and the ones behind them
pub adds_answers_of : {told : Bool} {session : ℕ} {jobs : List Job} {before after : Knowledge} → KeepsTurnsOf told session jobs before after
    → told ≡ true → session ≡ before.number → (earlier : List Job) → AddsAnswers earlier before → AddsAnswers (earlier ++ jobs) after
adds_answers_of {told} {session} {jobs} {before} {after} keeps it_is own earlier adds =
    rw (keeps.turns, keeps.size, keeps.number)
    (All-append (IsAnswerTo before.size before.number (earlier ++ jobs)) before.turns (keeps.firsts ++ keeps.later)
    (λ k d lt. more_jobs before.size before.number earlier jobs (slice_index_or before.turns k d) (adds k d lt))
    (All-append (IsAnswerTo before.size before.number (earlier ++ jobs)) keeps.firsts keeps.later
    (subst (λ (js : List Job). All (IsAnswerTo before.size before.number (earlier ++ js)) keeps.firsts) (append-nil jobs)
    (subst (λ (n : ℕ). All (IsAnswerTo before.size n (earlier ++ (jobs ++ []))) keeps.firsts) own
    (firsts_answer told session before.size earlier jobs [] keeps.firsts it_is keeps.each)))
    (none_added before.size before.number (earlier ++ jobs) keeps.later keeps.adds_none)))

pub adds_answers : {told : Bool} {session : ℕ} {job : Job} {before after : Knowledge} → KeepsTurns told session job before after → told ≡ true
    → session ≡ before.number → (jobs : List Job) → AddsAnswers jobs before → AddsAnswers (jobs ++ job ∷ []) after
adds_answers {told} {session} {job} {before} {after} keeps =
    adds_answers_of {jobs = job ∷ []} {before = before} {after = after} (record {
      firsts = keeps.first ∷ [];
      later = keeps.later;
      turns = keeps.turns;
      number = keeps.number;
      size = keeps.size.0;
      each = (keeps.size.1, keeps.adds, refl);
      one_each = keeps.one_more;
      adds_none = keeps.adds_none;
    })
