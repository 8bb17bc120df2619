use Rattle.std.proofs.Common.{◌≡◌, List, ◌++◌}
use Rattle.crossbeam_queue.specs.Passes.{view}
use Rattle.job_inbox.specs.Inbox.{Has, known_by}
use Rattle.job_inbox.specs.declared.inbox.InboxPass.{InboxPass}
use Rattle.job_inbox.proofs.ending.gather.Given as goal

-- the passes that were taken in stand behind those that are left
abbrev pub invariant-loop-pass : goal.invariant-loop-pass
invariant-loop-pass l =
    (behind : List InboxPass) × (l.initial.passes.items ≡ l.passes.items ++ behind)
    × Has l.inbox l.seat (known_by behind ++ (view l.initial.seat).hands)

abbrev pub decreases-loop-pass : goal.decreases-loop-pass
decreases-loop-pass l = goal.left-loop-pass l
