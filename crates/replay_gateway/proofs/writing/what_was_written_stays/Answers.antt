use Rattle.replay_gateway.proofs.WriterLemmas.{more_stands}
use Rattle.replay_gateway.proofs.writing.what_was_written_stays.Goals as goal

pub returns : goal.returns
returns c = λ settings f items more r stands.
    more_stands c.files_only_grow.ensures c.begun_files_only_grow.ensures.shut _ _ _ f r stands
