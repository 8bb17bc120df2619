use Rattle.std.proofs.Common.{sym, ap, ◌∙◌}
use Rattle.gateway_book.proofs.Names.{act_view, Decided, Decision, decision_view, option_map, outcome_at, value_of}
use Rattle.gateway_book.proofs.book.Book.fail.Goals as goal

pub returns-in-Reply-clause-answered : goal.returns-in-Reply-clause-answered
returns-in-Reply-clause-answered g c = λ told.
    c.receipt.ensures.answered told (option_map act_view c.in-Reply.act)
    ∙ ap (λ (d : Decided). outcome_at (value_of c.args.self.now) d) (sym (ap (λ (d : Decision). decision_view d) c.in-Reply.is) ∙ c.failure_answer.ensures)
