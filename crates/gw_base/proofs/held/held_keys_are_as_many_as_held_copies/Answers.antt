use Rattle.gw_base.proofs.HeldLemmas.{length-held_keys}
use Rattle.gw_base.proofs.held.held_keys_are_as_many_as_held_copies.Goals as goal

pub returns : goal.returns
returns c = λ h. length-held_keys h
