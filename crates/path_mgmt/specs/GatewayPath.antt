-- The gateway's end of a path (3GPP TS 32.295, clause 6.2). That a gateway learns a node's restart counter before it
-- tells the node that it is alive is this project's profile.
use Rattle.std.specs.Prelude.{ℕ, Option, Some, None, false, ◌==◌, if◌then◌else◌}
use Rattle.path_mgmt.specs.declared.event.PathAnswer.{PathAnswer}
use Rattle.path_mgmt.specs.declared.event.PathEvent.{PathEvent}
use Rattle.path_mgmt.specs.declared.event.PathEvent.TheVariants.{EchoAsked, EchoTold, AliveAsked, AliveTold}
use Rattle.path_mgmt.specs.Answers.{replying, silence}

-- the counter, where it opens a new epoch: the node's present one has none, or another
abbrev pub opened_by : Option ℕ → ℕ → Option ℕ
opened_by None counter = Some counter
opened_by (Some present) counter = if present == counter then None else Some counter

-- what a gateway with its own counter makes of a message from a node whose present epoch has the known counter
abbrev pub heard_at_gateway : Option ℕ → PathEvent → ℕ → PathAnswer
heard_at_gateway known (EchoAsked number) own = replying (EchoTold number own)
heard_at_gateway known (AliveAsked number) own = replying (EchoAsked number)
heard_at_gateway known (EchoTold number counter) own =
    record { reply = Some (AliveTold number); changed = opened_by known counter; alive = false }
heard_at_gateway known (AliveTold number) own = silence
