-- What contracts see of a batch of jobs.
use Rattle.std.specs.Prelude.{◌≡◌, ℕ, ◌≤◌, ◌==◌, Bool, List, length, nat_le, vec_capacity, vec_len}
use Rattle.gateway_book.specs.declared.outcome.Outcome.{Outcome}
use Rattle.job_inbox.specs.declared.job.Job.{Job}
use Rattle.node_session.specs.declared.job_batch.JobBatch.{JobBatch}
use Rattle.node_session.specs.declared.served.Served.{Served}

abbrev pub jobs_of : JobBatch → List Job
jobs_of batch = batch.jobs.items

-- with what outcomes the datagrams were taken, those of the first jobs
abbrev pub outcomes_of : JobBatch → List Outcome
outcomes_of batch = batch.outcomes.items

-- the datagram of each job was taken
abbrev pub AreAllTaken : JobBatch → Type 0
AreAllTaken batch = length batch.outcomes.items ≡ length batch.jobs.items

abbrev pub are_all_taken : JobBatch → Bool
are_all_taken batch = length batch.outcomes.items == length batch.jobs.items

-- what became of each, once they were served
abbrev pub served_of : JobBatch → List Served
served_of batch = batch.served.items

abbrev pub HasRoomFor : JobBatch → ℕ → Type 0
HasRoomFor batch n = n ≤ vec_capacity batch.jobs

abbrev pub is_full : JobBatch → Bool
is_full batch = nat_le (vec_capacity batch.jobs) (vec_len batch.jobs)
