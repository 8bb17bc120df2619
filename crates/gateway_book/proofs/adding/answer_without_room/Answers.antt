use Rattle.std.proofs.Common.{◌≡◌, List, ℕ, sym, ap, ◌∙◌}
use Rattle.gateway_book.proofs.Names.{act_view, Decision, decision_view, option_map, Says}
use Rattle.gateway_book.proofs.adding.answer_without_room.Goals as goal

pub returns-in-Reply-clause-said : goal.returns-in-Reply-clause-said
returns-in-Reply-clause-said c = λ reply same. (
  option_map act_view c.in-Reply.act,
  sym c.answer_by.ensures ∙ ap (λ (d : Decision). decision_view d) c.in-Reply.is ∙ (let e : ◌≡◌ {A = List ℕ} c.in-Reply.reply reply = cc same in ap (λ (octets : List ℕ). Says octets (option_map act_view c.in-Reply.act)) e),
)
