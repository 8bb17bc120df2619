-- What the turns of a pass added, in turn, and what stands of it in the history.
use Rattle.std.proofs.Common.{◌≡◌, ◌≢◌, ◌⊎◌, ⊎_elim, inl, inr, ℕ, ◌==◌, Bool, true, false, if◌then◌else◌, List, [], ◌∷◌, ◌++◌, Option, None, Some, refl, sym, ap, subst, ◌∙◌, append_assoc, arith}
use Rattle.session_run.proofs.Names.{added_by, AddsAnswers, All, All-cons, All-head, All-nil, All-tail, AnswersJob, append-nil, AreFirstsOf, base, by_session, called_at, called_for, caller_of, cases_eq, decided_at, entries_of, facts_of, HasNumber, history_at, HistoryEntry, InTurn, IsAnswerTo, Job, KeepsTurnsOf, KeptTurn, Knowledge, nat_tests, ne_eqb, Owns, placed, slice_index_or}
use Rattle.gateway_answer.specs.Answered.{act_decided}
use Rattle.gw_base.specs.declared.history.HistoryAct.{HistoryAct}
use Rattle.session_run.proofs.InTurnLemmas.{in_turn_both, in_turn_sub}

abbrev Placed : Type 0
Placed = HistoryEntry × List HistoryEntry

added_append : (ts us : List KeptTurn) → added_by (ts ++ us) ≡ added_by ts ++ added_by us
added_append [] us = refl
added_append (t ∷ ts) us =
    let here = placed (base t.drops (facts_of t.found)) t.added in
    ap (λ (l : List Placed). here ++ l) (added_append ts us) ∙ sym (append_assoc here (added_by ts) (added_by us))

added_none : (ts : List KeptTurn) → All (λ t. t.added ≡ []) ts → added_by ts ≡ []
added_none [] none = refl
added_none (t ∷ ts) none =
    rw (All-head (λ t. t.added ≡ []) t ts none) (added_none ts (All-tail (λ t. t.added ≡ []) t ts none))

-- what a turn added that took the datagram of a job
one_called : (size session : ℕ) (job : Job) (h : List HistoryEntry)
    → InTurn (AnswersJob size session) (job ∷ []) (placed h (called_for h size job.from job.octets job.moment (caller_of session job)))
one_called size session job h = by (act_decided (decided_at h size job.from job.octets)) refl
  where
    by : (o : Option HistoryAct) → act_decided (decided_at h size job.from job.octets) ≡ o
        → InTurn (AnswersJob size session) (job ∷ []) (placed h (entries_of h job.moment (caller_of session job) o))
    by None is = tt
    by (Some act) is = inl (ap (λ (o : Option HistoryAct). entries_of h job.moment (caller_of session job) o) is, tt)

one_added : (told : Bool) (size session : ℕ) (job : Job) (t : KeptTurn) → t.found.size ≡ size
    → (t.added ≡ []) ⊎ (t.added ≡ called_at told session job t)
    → InTurn (AnswersJob size session) (job ∷ []) (placed (base t.drops (facts_of t.found)) t.added)
one_added told size session job t sized (inl none) = rw none tt
one_added told size session job t sized (inr is) = rw (is, ← sized) (one_called t.found.size session job (history_at t))

firsts_added : (told : Bool) (session size : ℕ) (jobs : List Job) (firsts : List KeptTurn) → told ≡ true
    → AreFirstsOf told session size jobs firsts → InTurn (AnswersJob size session) jobs (added_by firsts)
firsts_added told session size [] firsts y are = rw are tt
firsts_added told session size (job ∷ jobs) [] y are = absurd are
firsts_added told session size (job ∷ jobs) (t ∷ firsts) y are =
    in_turn_both (AnswersJob size session) (job ∷ []) (placed (base t.drops (facts_of t.found)) t.added) jobs (added_by firsts)
    (one_added told size session job t are.0 (are.1 y)) (firsts_added told session size jobs firsts y are.2)

-- what a pass added stays in turn behind jobs that its session served together
pub added_on : (told : Bool) (session : ℕ) (earlier jobs : List Job) (before after : Knowledge) (size : ℕ) → told ≡ true
    → before.size ≡ size → KeepsTurnsOf told session jobs before after
    → InTurn (AnswersJob size session) earlier (added_by before.turns)
    → InTurn (AnswersJob size session) (earlier ++ jobs) (added_by after.turns)
added_on told session earlier jobs before after size y sized keeps p =
    rw (keeps.turns, added_append, added_append, added_none keeps.later keeps.adds_none, append-nil)
    (in_turn_both (AnswersJob size session) earlier (added_by before.turns) jobs (added_by keeps.firsts) p
    (firsts_added told session size jobs keeps.firsts y (rw sized at keeps.each)))

-- a pass that answered no job added nothing
pub none_added : (k : Knowledge) → AddsAnswers [] k → added_by k.turns ≡ []
none_added k adds = added_none k.turns (λ n d lt. empty (slice_index_or k.turns n d) (adds n d lt))
  where
    empty : (t : KeptTurn) → IsAnswerTo k.size k.number [] t → t.added ≡ []
    empty t (inl none) = none
    empty t (inr some) = absurd (let lt = some.1.1 in omega (arith, lt))

-- ---- the history

module _ (passes : List Knowledge) (session : ℕ) where
  -- a session has no entry here, or it is that of a pass
  has_or_none : (before tail : List HistoryEntry) → All (λ e. HasNumber e.caller.session passes) tail
      → (by_session session (placed before tail) ≡ []) ⊎ HasNumber session passes
  has_or_none before [] all = inl refl
  has_or_none before (e ∷ tail) all = ⊎_elim
      (λ (is : e.caller.session ≡ session). inr (rw is at (All-head Has e tail all)))
      (λ (apart : e.caller.session ≢ session). rw (ne_eqb e.caller.session session apart)
      (has_or_none (before ++ e ∷ []) tail (All-tail Has e tail all)))
      (cases_eq e.caller.session session)
    where
      Has : HistoryEntry → Type 0
      Has e = HasNumber e.caller.session passes

module _ (size : ℕ) (jobs : ℕ → List Job) (stood tail : List HistoryEntry) where
  -- what a pass added answers jobs of its session in turn
  abbrev pub AddsInTurn : Knowledge → Type 0
  AddsInTurn k = InTurn (AnswersJob size k.number) (jobs k.number) (added_by k.turns)

  abbrev InTurnAt : ℕ → Type 0
  InTurnAt session = InTurn (AnswersJob size session) (jobs session) (by_session session (placed stood tail))

  of_pass : (session : ℕ) (passes : List Knowledge) → All AddsInTurn passes → All (Owns stood tail) passes → HasNumber session passes
      → InTurnAt session
  of_pass session [] adds owns has = absurd has
  of_pass session (k ∷ passes) adds owns (inl is) = subst InTurnAt is
      (in_turn_sub (AnswersJob size k.number) (jobs k.number) (by_session k.number (placed stood tail)) (added_by k.turns)
      (All-head AddsInTurn k passes adds) (All-head (Owns stood tail) k passes owns))
  of_pass session (k ∷ passes) adds owns (inr has) =
      of_pass session passes (All-tail AddsInTurn k passes adds) (All-tail (Owns stood tail) k passes owns) has

  -- what stands of each session answers its jobs in turn
  pub all_in_turn : (passes : List Knowledge) → All AddsInTurn passes → All (λ e. HasNumber e.caller.session passes) tail
      → All (Owns stood tail) passes → (session : ℕ) → InTurnAt session
  all_in_turn passes adds numbers owns session = ⊎_elim
      (λ (none : by_session session (placed stood tail) ≡ []). rw none tt)
      (λ (has : HasNumber session passes). of_pass session passes adds owns has)
      (has_or_none passes session stood tail numbers)

-- what holds of the entries of each session holds of all
pub all_sessions : (P : Placed → Type 0) (ps : List Placed) → ((session : ℕ) → All P (by_session session ps)) → All P ps
all_sessions P [] each = All-nil P
all_sessions P (p ∷ ps) each = All-cons P p ps own (all_sessions P ps rest)
  where
    same : (p.0.caller.session == p.0.caller.session) ≡ true
    same = grind (arith, nat_tests)

    own : P p
    own = All-head P p (by_session p.0.caller.session ps) (rw same at (each p.0.caller.session))

    rest : (session : ℕ) → All P (by_session session ps)
    rest session = by (p.0.caller.session == session) (each session)
      where
        by : (b : Bool) → All P (if b then p ∷ by_session session ps else by_session session ps) → All P (by_session session ps)
        by true all = All-tail P p (by_session session ps) all
        by false all = all
