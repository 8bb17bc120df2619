-- How a session serves several jobs together, so that one commit makes all their answers firm: each datagram is taken
-- in a turn of its own, and then the session goes on with each answer as it does with a single one.
use Rattle.std.specs.Prelude.{◌≡◌, ◌⊎◌, ◌≤◌, ℕ, Bool, List, [], ◌∷◌, ◌++◌, All, length, take}
use Rattle.area_disk.specs.declared.area.Area.{Ghosts}
use Rattle.gw_base.specs.Facts.{WhereTold}
use Rattle.gw_base.specs.Owes.{Begins}
use Rattle.gateway_book.specs.declared.outcome.Outcome.{Outcome}
use Rattle.job_inbox.specs.declared.job.Job.{Job}
use Rattle.net_link.specs.Datagrams.{LinkState}
use Rattle.turn_cell.specs.declared.knowing.KeptTurn.{KeptTurn}
use Rattle.turn_cell.specs.declared.knowing.Knowledge.{Knowledge}
use Rattle.node_session.specs.Answering.{MayHave, TellsBehind, called_at}
use Rattle.node_session.specs.Asking.{TakesIn}
use Rattle.node_session.specs.Learning.{HasTurnFor}
use Rattle.node_session.specs.Serving.{GoesOn, caller_of}
use Rattle.node_session.specs.declared.gate.Go.{Go}
use Rattle.node_session.specs.declared.served.Served.{Served}

module _ {A : Type 0} (tells : Ghosts A) where
  -- the datagrams of jobs were taken with these outcomes, each in a turn of its own, in order
  abbrev pub AreTaken : ℕ → List Job → List Outcome → Knowledge → Knowledge → Type 0
  AreTaken session [] [] before after = after ≡ before
  AreTaken session (job ∷ jobs) (outcome ∷ outcomes) before after =
      (taken : Knowledge)
      × TakesIn tells job.from job.octets job.moment (caller_of session job) before outcome taken
      × AreTaken session jobs outcomes taken after
  AreTaken session [] (outcome ∷ outcomes) before after = ⊥
  AreTaken session (job ∷ jobs) [] before after = ⊥

  -- the datagrams of the first of these jobs were taken with these outcomes
  abbrev pub FirstAreTaken : ℕ → List Job → List Outcome → Knowledge → Knowledge → Type 0
  FirstAreTaken session jobs outcomes before after = AreTaken session (take (length outcomes) jobs) outcomes before after

  module _ (may : ℕ → ℕ → Go → Type 0) (session : ℕ) where
    -- the session went on with each of these jobs, by its outcome, in order
    abbrev pub GoOn : List Job → List Outcome → List Served → Knowledge → Knowledge → LinkState → LinkState → Type 0
    GoOn [] outcomes results taken after old new =
        (outcomes ≡ []) × (results ≡ []) × (after ≡ taken) × (new ≡ old)
    GoOn (job ∷ jobs) (outcome ∷ outcomes) (result ∷ results) taken after old new =
        (now : Knowledge) × (sent : LinkState)
        × GoesOn tells may session job old sent result taken now outcome
        × GoOn jobs outcomes results now after sent new
    GoOn (job ∷ jobs) [] results taken after old new = ⊥
    GoOn (job ∷ jobs) (outcome ∷ outcomes) [] taken after old new = ⊥

    -- A session with a pass that knew so much served the jobs: it took all datagrams, and then went on with each.
    pub record AreServed (jobs : List Job) (old new : LinkState) (results : List Served) (before after : Knowledge)
        : Type 0 where
      pub outcomes : List Outcome
      pub taken : Knowledge
      pub first : AreTaken session jobs outcomes before taken
      pub go_on : GoOn jobs outcomes results taken after old new

-- the pass keeps a turn that gave the receipt of each of these outcomes, where it has one
abbrev pub HaveTurnsFor : Bool → List Outcome → Knowledge → Type 0
HaveTurnsFor told outcomes k = All (λ outcome. HasTurnFor told outcome k) outcomes

-- It is the same pass, which knows no less and keeps its turns.
pub record GoesFrom (told : Bool) (before after : Knowledge) : Type 0 where
  pub number : after.number ≡ before.number
  pub size : after.size ≡ before.size
  pub faults : after.faults ≡ before.faults
  pub known : WhereTold told (Begins before.known after.known)
  pub later : List KeptTurn
  pub turns : after.turns ≡ before.turns ++ later

module _ (told : Bool) (session : ℕ) where
  -- these turns took the datagrams of these jobs, on so many octets: each added what the answer calls for, or nothing
  abbrev pub AreFirstsOf : ℕ → List Job → List KeptTurn → Type 0
  AreFirstsOf size [] firsts = firsts ≡ []
  AreFirstsOf size (job ∷ jobs) [] = ⊥
  AreFirstsOf size (job ∷ jobs) (t ∷ firsts) =
      (t.found.size ≡ size) × WhereTold told ((t.added ≡ []) ⊎ (t.added ≡ called_at told session job t))
      × AreFirstsOf size jobs firsts

  -- The pass keeps one turn more for each job, which took its datagram, in order; and behind them at most so many in all,
  -- which added nothing.
  pub record KeepsTurnsOf (jobs : List Job) (before after : Knowledge) : Type 0 where
    pub firsts : List KeptTurn
    pub later : List KeptTurn
    pub turns : after.turns ≡ before.turns ++ (firsts ++ later)
    pub number : after.number ≡ before.number
    pub size : after.size ≡ before.size
    pub each : AreFirstsOf before.size jobs firsts
    pub one_each : length later ≤ length jobs
    pub adds_none : All (λ t. t.added ≡ []) later

  -- What is told of one of the jobs. Its datagram was taken in the turn that leads from the first knowledge to the next
  -- one; what followed for it leads from the third to the last, and from one state of the link to the other. `between`
  -- are the turns between the two.
  pub record TellsNext (job : Job) (result : Served) (before next taken now : Knowledge) (old sent : LinkState)
      : Type 0 where
    pub first : KeptTurn
    pub turns : next.turns ≡ before.turns ++ first ∷ []
    pub size : next.size ≡ before.size
    pub between : List KeptTurn
    pub goes : GoesFrom told taken now
    pub tells : TellsBehind told session job between before now old sent result

  -- What is told of each job. The first knowledge is that in front of the turn that took its datagram, the second that
  -- in front of what followed for it.
  abbrev pub EachTells : List Job → List Served → Knowledge → Knowledge → Knowledge → LinkState → LinkState → Type 0
  EachTells [] results before taken after old new = (results ≡ []) × (after ≡ taken) × (new ≡ old)
  EachTells (job ∷ jobs) [] before taken after old new = ⊥
  EachTells (job ∷ jobs) (result ∷ results) before taken after old new =
      (next : Knowledge) × (now : Knowledge) × (sent : LinkState)
      × TellsNext job result before next taken now old sent
      × EachTells jobs results next now after sent new

  -- What is told of jobs that were served together, whose datagrams were all taken first.
  pub record TellTogether (jobs : List Job) (results : List Served) (before after : Knowledge) (old new : LinkState)
      : Type 0 where
    pub taken : Knowledge
    pub goes : GoesFrom told before taken
    pub each : EachTells jobs results before taken after old new

-- what the gate may have answered for each job, by what became of it
abbrev pub EachMayHave : (ℕ → ℕ → Go → Type 0) → ℕ → List Job → List Served → Type 0
EachMayHave may session [] results = results ≡ []
EachMayHave may session (job ∷ jobs) [] = ⊥
EachMayHave may session (job ∷ jobs) (result ∷ results) =
    MayHave (may session job.serial) result × EachMayHave may session jobs results
