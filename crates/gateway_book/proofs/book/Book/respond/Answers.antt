use Rattle.std.proofs.Common.{sym, ap, ◌∙◌}
use Rattle.gateway_book.proofs.Names.{answer_to, case_value, Decided, decided, history_of, outcome_at, Says, size_of, value_of}
use Rattle.gateway_book.proofs.TakingLemmas.{left_answer, left_value}
use Rattle.gateway_book.proofs.book.Book.respond.Goals as goal

pub returns-in-Said-clause-left : goal.returns-in-Said-clause-left
returns-in-Said-clause-left g c = λ told.
    let old = value_of c.args.self.now in
    let new = value_of c.add_answer.new.self in
    let decision = decided (answer_to (history_of old) c.args.from (case_value c.args.case.now) (size_of c.args.self.now)) in
    let made = c.in-Said.ensures.moved told in
    let value = left_value old new c.args.now c.args.who decision (Says c.in-Said.reply made.0) made.1 made.2 in
    record {
      value = value;
      answer = left_answer old new c.args.now c.args.who decision c.receipt.result value (c.receipt.ensures.answered told made.0 ∙ ap (λ (d : Decided). outcome_at new d) (sym made.1));
    }
