use Rattle.once_core.proofs.MeantLemmas.{meant}
use Rattle.once_core.proofs.once_laws.open_numbers_are_read_as_meant.Goals as goal

pub returns : goal.returns
returns c = λ happenings setup calls node gateway number values h some inside running.
    meant (assumption) setup calls some running gateway inside happenings node number values h
