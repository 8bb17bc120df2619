-- The rule that an inbox and its passes keep at every moment.
use Rattle.std.specs.Prelude.{◌≡◌, ◌⊎◌, ℕ, ◌<◌, ◌≤◌, List, [], ◌∷◌, ◌++◌, All, drop, length, sum_by, take}
use mathlib.Core.Option.{some}
use lib.ListN.{get_elem?, replicate}
use Rattle.job_inbox.specs.declared.hand.Hand.{Hand}
use Rattle.job_inbox.specs.declared.hand.Hands.{Hands}
use Rattle.job_inbox.specs.declared.job.Job.{Job}
use Rattle.job_inbox.specs.Hands.{Settled, StandsIn, weight_put, weight_taken}

abbrev pub hand : List Job → List Job → Hand
hand put taken = record { put = put; taken = taken }

abbrev pub hands_of : ℕ → List Hand → Hands
hands_of made hands = record { made = made; hands = hands }

-- a pass that did nothing yet
abbrev pub idle : Hand
idle = hand [] []

-- a queue that isn't begun; one that is, whose passes are all in one; and who has none of them
abbrev pub unbegun : Hands
unbegun = hands_of 0 []

abbrev pub begun : ℕ → Hands
begun made = hands_of made (replicate made idle)

abbrev pub bystander : Hands
bystander = hands_of 1 []

abbrev pub without_first : Hands → Hands
without_first v = hands_of v.made (drop 1 v.hands)

abbrev pub first_alone : Hands → Hands
first_alone v = hands_of v.made (take 1 v.hands)

abbrev pub both : Hands → Hands → Hands
both v w = hands_of v.made (w.hands ++ v.hands)

abbrev pub first_of : List Hand → Hand
first_of [] = idle
first_of (h ∷ hs) = h

-- the first pass of several did something more
abbrev pub onto_first : (Hand → Hand) → List Hand → List Hand
onto_first f [] = []
onto_first f (h ∷ hs) = f h ∷ hs

abbrev pub with_first : (Hand → Hand) → Hands → Hands
with_first f v = hands_of v.made (onto_first f v.hands)

abbrev pub with_put : Job → Hand → Hand
with_put job h = hand (h.put ++ job ∷ []) h.taken

abbrev pub with_taken : Job → Hand → Hand
with_taken job h = hand h.put (h.taken ++ job ∷ [])

-- how many passes are here, and a sum over them
abbrev pub count : Hands → ℕ
count v = length v.hands

abbrev pub over : (Hand → ℕ) → Hands → ℕ
over f v = sum_by f v.hands

-- what a seat knows fits to what was pushed and taken in all, and to how many passes there are
pub record Knows (n : ℕ) (put taken : List Job) (v : Hands) : Type 0 where
  pub has_begun : 1 ≤ v.made
  pub made : 0 < length v.hands → v.made ≡ n
  pub stand : All (StandsIn put taken) v.hands

-- The jobs that were taken are the first of those that were pushed, and the queue holds the rest. There are so many
-- passes; what each did stands among these in its order, and these are what all did.
pub record AreInOrder (n : ℕ) (put taken items : List Job) (views : List Hands) : Type 0 where
  pub order : put ≡ taken ++ items
  pub passes : sum_by count views ≡ n
  pub each : (port : ℕ) (v : Hands) → get_elem? views port ≡ some v → Knows n put taken v
  pub puts : (weight : Job → ℕ) → sum_by (over (weight_put weight)) views ≡ sum_by weight put
  pub takes : (weight : Job → ℕ) → sum_by (over (weight_taken weight)) views ≡ sum_by weight taken

abbrev pub Begun : List Job → List Hands → Type 0
Begun items views = (n : ℕ) × (put taken : List Job) × AreInOrder n put taken items views

-- before it is begun nobody did anything
abbrev pub Rule : List Job → List Hands → Type 0
Rule items views = ((items ≡ []) × (views ≡ unbegun ∷ [])) ⊎ Begun items views

-- who has as many passes as there are has all, and knows the whole
abbrev pub Ends : Hands → List Job → Type 0
Ends v items = (length v.hands ≡ v.made) × ((put taken : List Job) × Settled v.hands put taken items)
