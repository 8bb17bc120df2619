use Rattle.gateway_book.specs.UpLaws.{cut_holds_history, opened_is_up, up_leaves}
use Rattle.gateway_book.proofs.laws.what_a_gateway_leaves.Goals as goal

pub returns-clause-cut : goal.returns-clause-cut
returns-clause-cut g c = λ told fate header book h leaves cut. cut_holds_history told fate header book leaves h cut

pub returns-clause-stop : goal.returns-clause-stop
returns-clause-stop g c = λ told fate header book v armed at_last leaves up outcome. up_leaves told fate header book leaves v armed at_last up outcome

pub returns-clause-opened : goal.returns-clause-opened
returns-clause-opened g c = λ header area open_time book w armed opened value tied. opened_is_up header area open_time book w armed opened value tied
