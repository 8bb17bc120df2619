-- What contracts see of an inbox and its passes.
use Rattle.std.specs.Prelude.{◌≡◌, ℕ, List, [], ◌∷◌, All, map}
use Rattle.crossbeam_queue.specs.Passes.{IsPassOf as IsSeatOf, ruled_capacity, view}
use Rattle.crossbeam_queue.specs.Passes as queue
use Rattle.job_inbox.specs.declared.hand.Hand.{Hand}
use Rattle.job_inbox.specs.declared.hand.Hands.{Hands}
use Rattle.job_inbox.specs.declared.inbox.Inbox.{Inbox}
use Rattle.job_inbox.specs.declared.inbox.InboxPass.{InboxPass}
use Rattle.job_inbox.specs.declared.job.Job.{Job}
use Rattle.job_inbox.specs.Rule.{first_of, hands_of}

-- what a pass pushed and took
abbrev pub knowledge : InboxPass → Hand
knowledge pass = first_of (view pass.seat).hands

abbrev pub known_by : List InboxPass → List Hand
known_by passes = map knowledge passes

-- how many passes an inbox has made, and how many jobs it has room for
abbrev pub made_by : Inbox → ℕ
made_by inbox = inbox.made

abbrev pub capacity_of : Inbox → ℕ
capacity_of inbox = ruled_capacity inbox.queue

-- a seat of the inbox's queue that has these passes
abbrev pub Has : Inbox → queue.Pass Job Hands → List Hand → Type 0
Has inbox seat hands = IsSeatOf inbox.queue seat × (view seat ≡ hands_of inbox.made hands)

-- the pass is one of the inbox
abbrev pub IsPassOf : Inbox → InboxPass → Type 0
IsPassOf inbox pass = Has inbox pass.seat (knowledge pass ∷ [])

abbrev pub ArePassesOf : Inbox → List InboxPass → Type 0
ArePassesOf inbox passes = All (IsPassOf inbox) passes
