-- Jobs whose datagrams are taken as they come, and their latest moment.
use Rattle.std.proofs.Common.{◌≡◌, ℕ, List, [], ◌∷◌, ◌++◌, Option, None, Some, refl, sym, ap, arith, Bool, length, append_assoc}
use Rattle.std.proofs.Math.Seq.{take-append_seam}
use Rattle.session_run.proofs.Names.{All-nil, append-nil, AreServed, AreTaken, Desk, FirstAreTaken, Ghosts, Go, GoOn, Hand, HasTaken, Inbox, IsDeskOf, IsTaken, Job, jobs_of, Knowledge, knowledge, knowledge_of, later_of, latest, LinkState, Outcome, outcomes_of, Served, take_all, TurnCell, with_all_taken}
use Rattle.node_session.specs.Learning.{HasTurnFor}

pub later_none : (one : Option ℕ) → later_of one None ≡ one
later_none None = refl
later_none (Some a) = refl

-- of three the first two may come first, or the last two
pub later_assoc : (a b c : Option ℕ) → later_of (later_of a b) c ≡ later_of a (later_of b c)
later_assoc (Some a) (Some b) (Some c) = ap Some (omega arith)
later_assoc _ _ _ = refl

pub latest_of_both : (jobs more : List Job) → latest (jobs ++ more) ≡ later_of (latest jobs) (latest more)
latest_of_both [] more = refl
latest_of_both (job ∷ jobs) more =
    rw (latest_of_both jobs more) (sym (later_assoc (Some job.moment) (latest jobs) (latest more)))

-- one job more is taken
pub latest_push : (before now : Option ℕ) (jobs : List Job) (job : Job) → now ≡ later_of before (latest jobs)
    → later_of now (Some job.moment) ≡ later_of before (latest (jobs ++ job ∷ []))
latest_push before now jobs job is = rw (is, latest_of_both) (later_assoc before (latest jobs) (Some job.moment))

module _ {A : Type 0} (tells : Ghosts A) (session : ℕ) where
  -- the first jobs stay those whose datagrams were taken, whatever jobs come behind them
  pub first_taken : (jobs more all : List Job) (outcomes os : List Outcome) (before now : Knowledge) → all ≡ jobs ++ more → os ≡ outcomes
      → length outcomes ≡ length jobs → AreTaken tells session jobs outcomes before now → FirstAreTaken tells session all os before now
  first_taken jobs more all outcomes os before now is same each taken = rw (same, is, each, take-append_seam) taken

  -- where there are as many outcomes as jobs, the first jobs are all
  pub whole_taken : (all : List Job) (outcomes : List Outcome) (before now : Knowledge) → length outcomes ≡ length all
      → FirstAreTaken tells session all outcomes before now → AreTaken tells session all outcomes before now
  whole_taken all outcomes before now each first = rw (take_all (length outcomes) all (omega (arith, each))) at first

-- no job was taken yet
pub popped_none : (h : Hand) (jobs : List Job) → jobs ≡ [] → h ≡ with_all_taken jobs h
popped_none h jobs none = rw (none, append-nil)

-- more jobs were taken behind these
pub popped_more : (h now after : Hand) (jobs more all : List Job) → now ≡ with_all_taken jobs h → after ≡ with_all_taken more now → all ≡ jobs ++ more
    → after ≡ with_all_taken all h
popped_more h now after jobs more all first then is = rw (then, first, is, append_assoc)

-- and the latest moment of all
pub latest_more : (before now after : Option ℕ) (jobs more all : List Job) → now ≡ later_of before (latest jobs) → after ≡ later_of now (latest more)
    → all ≡ jobs ++ more → after ≡ later_of before (latest all)
latest_more before now after jobs more all first then is =
    rw (then, first, is, latest_of_both) (later_assoc before (latest jobs) (latest more))

-- a session that took all datagrams and then went on with each served the jobs; by the link that it had before
pub both_served : {A : Type 0} (tells : Ghosts A) (may : ℕ → ℕ → Go → Type 0) (session : ℕ) (jobs : List Job) (outcomes : List Outcome)
    (results : List Served) (before taken after : Knowledge) (old link new : LinkState) (s : ℕ) → s ≡ session → link ≡ old
    → AreTaken tells session jobs outcomes before taken → GoOn tells may s jobs outcomes results taken after link new
    → AreServed tells may session jobs old new results before after
both_served tells may session jobs outcomes results before taken after old link new s own same takes goes = record {
  outcomes = outcomes;
  taken = taken;
  first = takes;
  go_on = rw (own, same) at goes;
}

module _ {L : Type 0} (old new : Desk L) (rest : new ≡ record old { batch = new.batch }) (no_jobs : jobs_of new.batch ≡ [])
    (no_outcomes : outcomes_of new.batch ≡ []) where
  -- where a batch has no job, all are taken
  pub none_to_take : (told : Bool) → IsTaken told new
  none_to_take told = record {
    all = cc (no_jobs, no_outcomes);
    turns = rw no_outcomes (All-nil (λ (o : Outcome). HasTurnFor told o (knowledge_of new.worker)));
  }

  -- and a desk that is as it was but for such a batch is one still, and has taken none
  pub is_still : {V : Type 0} (cell : TurnCell V) (inbox : Inbox) → IsDeskOf cell inbox old → IsDeskOf cell inbox new
  is_still cell inbox is = record { worker = rw rest is.worker; pass = rw rest is.pass }

  pub none_taken : {A : Type 0} (device : Ghosts A) → HasTaken device old new
  none_taken device = rw rest (record {
    session = refl;
    popped = popped_none (knowledge old.pass) (jobs_of new.batch) no_jobs;
    last = rw no_jobs (sym (later_none old.last));
    taken = simp (no_jobs, no_outcomes);
    link = refl;
    stop = refl;
  })
