-- The latest moment of jobs.
use Rattle.std.specs.Prelude.{ℕ, max, List, [], ◌∷◌, ◌++◌, Option, None, Some}
use Rattle.job_inbox.specs.declared.job.Job.{Job}

-- the later of two moments, where there are any
abbrev pub later_of : Option ℕ → Option ℕ → Option ℕ
later_of None other = other
later_of (Some one) None = Some one
later_of (Some one) (Some other) = Some (max one other)

abbrev pub latest : List Job → Option ℕ
latest [] = None
latest (job ∷ jobs) = later_of (Some job.moment) (latest jobs)

-- what each session took, by its number
abbrev pub Jobs : Type 0
Jobs = ℕ → List Job

-- the same of what four sessions took
abbrev pub latest_of : Jobs → Option ℕ
latest_of jobs = latest ((jobs 0 ++ jobs 1) ++ (jobs 2 ++ jobs 3))
