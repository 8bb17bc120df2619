-- What passes to an inbox did, together.
use Rattle.std.specs.Prelude.{◌≡◌, ℕ, ◌+◌, ◌≤◌, List, ◌∷◌, ◌++◌, All, length, sum_by}
use Rattle.turn_cell.specs.Placed.{IsSublist}
use Rattle.job_inbox.specs.declared.hand.Hand.{Hand}
use Rattle.job_inbox.specs.declared.job.Job.{Job}

-- what a hand pushed and took stands, in its order, in what all pushed and in what all took
abbrev pub StandsIn : List Job → List Job → Hand → Type 0
StandsIn put taken hand = IsSublist hand.put put × IsSublist hand.taken taken

-- a sum over the jobs that each hand pushed, or took, by any weights
abbrev pub weight_put : (Job → ℕ) → Hand → ℕ
weight_put weight hand = sum_by weight hand.put

abbrev pub weight_taken : (Job → ℕ) → Hand → ℕ
weight_taken weight hand = sum_by weight hand.taken

-- The jobs that these passes pushed are `put`, in the order of the pushes, and those that they took are `taken`.
-- These are the first of those. Each was pushed and taken as often by the passes as it stands there: so say all
-- weights.
pub record Settled (hands : List Hand) (put taken left : List Job) : Type 0 where
  pub order : put ≡ taken ++ left
  pub stand : All (StandsIn put taken) hands
  pub puts : (weight : Job → ℕ) → sum_by (weight_put weight) hands ≡ sum_by weight put
  pub takes : (weight : Job → ℕ) → sum_by (weight_taken weight) hands ≡ sum_by weight taken

abbrev pub AreSettled : List Hand → Type 0
AreSettled hands = (put taken left : List Job) × Settled hands put taken left

-- each job was taken by these passes at most as often as it was pushed by them: so say all weights
abbrev pub TookWhatWasPushed : List Hand → Type 0
TookWhatWasPushed hands =
    (weight : Job → ℕ) → sum_by (weight_taken weight) hands ≤ sum_by (weight_put weight) hands

-- At a moment the inbox held these jobs, and its passes, so many in all, had done this: the one that asks `hand`, and
-- the others something.
abbrev pub Shows : ℕ → Hand → List Job → Type 0
Shows made hand items =
    (others : List Hand) × (length others + 1 ≡ made)
    × ((put taken : List Job) × Settled (hand ∷ others) put taken items)

-- at a moment this job stood in front of all others that the inbox held
abbrev pub ShowsFirst : ℕ → Hand → Job → Type 0
ShowsFirst made hand job = (others : List Job) × Shows made hand (job ∷ others)
