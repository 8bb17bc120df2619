-- What a job was given and what it did with it: its words, its source and its sink, before it and after it.
use Rattle.std.specs.Prelude.{ℕ, List, Option}
use Rattle.gw_base.specs.declared.sink.Sink as sink
use Rattle.gw_base.specs.declared.source.Source as source

-- What the source has left and what the sink was given are told or not. Of each the faults are counted.
pub record Job : Type 0 where
  pub words : List (List ℕ)
  pub left : Option (List ℕ)
  pub rest : Option (List ℕ)
  pub before : Option (List ℕ)
  pub after : Option (List ℕ)
  pub read_before : ℕ
  pub read_after : ℕ
  pub written_before : ℕ
  pub written_after : ℕ

abbrev pub job_of : {S K : Type 0} → source.Ghosts S → sink.Ghosts K → List (List ℕ) → S → S → K → K → Job
job_of from to words old new given taken = record {
  words = words;
  left = from.left old;
  rest = from.left new;
  before = to.written given;
  after = to.written taken;
  read_before = from.faults old;
  read_after = from.faults new;
  written_before = to.faults given;
  written_after = to.faults taken;
}
