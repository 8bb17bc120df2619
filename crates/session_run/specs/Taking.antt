-- A desk whose session has taken datagrams and goes on with them later.
use Rattle.std.specs.Prelude.{◌≡◌, Bool}
use Rattle.area_disk.specs.declared.area.Area as area
use Rattle.job_inbox.specs.Inbox.{knowledge}
use Rattle.node_session.specs.Batches.{AreAllTaken, jobs_of, outcomes_of}
use Rattle.node_session.specs.Passes.{knowledge_of, session_of}
use Rattle.node_session.specs.Together.{AreTaken, HaveTurnsFor}
use Rattle.session_run.specs.Desks.{with_all_taken}
use Rattle.session_run.specs.Latest.{later_of, latest}
use Rattle.session_run.specs.declared.desk.Desk.{Desk}

-- The datagram of each job of its batch was taken, in a turn that its pass keeps.
pub record IsTaken {L : Type 0} (told : Bool) (desk : Desk L) : Type 0 where
  pub all : AreAllTaken desk.batch
  pub turns : HaveTurnsFor told (outcomes_of desk.batch) (knowledge_of desk.worker)

-- The session took the jobs that stand in its batch now from its inbox, and the datagram of each, and did nothing else.
pub record HasTaken {A L : Type 0} (device : area.Ghosts A) (old new : Desk L) : Type 0 where
  pub session : session_of new.worker ≡ session_of old.worker
  pub popped : knowledge new.pass ≡ with_all_taken (jobs_of new.batch) (knowledge old.pass)
  pub last : new.last ≡ later_of old.last (latest (jobs_of new.batch))
  pub taken : AreTaken device (session_of old.worker) (jobs_of new.batch) (outcomes_of new.batch)
      (knowledge_of old.worker) (knowledge_of new.worker)
  pub link : new.link ≡ old.link
  pub stop : new.stop ≡ old.stop
