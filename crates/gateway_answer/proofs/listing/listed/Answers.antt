use Rattle.std.proofs.Common.{◌∙◌}
use Rattle.gateway_answer.proofs.ListsLemmas.{named_are_few}
use Rattle.gateway_answer.proofs.listing.listed.Goals as goal

pub find_states-requires : goal.find_states-requires
find_states-requires g c = named_are_few c.top-top.result c.args.numbers.now _ (c.deref.ensures.value ∙ c.name_numbers.ensures) c.requires
