use Rattle.std.proofs.Common.{ap, ◌∙◌}
use Rattle.gateway_book.proofs.Names.{after_commit, fortune_of, is_err, value_of}
use Rattle.gateway_book.proofs.Committing.{answer_broken, answer_ok}
use Rattle.gateway_book.proofs.book.Book.commit.Goals as goal

pub returns-in-Ok-clause-left : goal.returns-in-Ok-clause-left
returns-in-Ok-clause-left g c = λ told.
    let new = c.firm_up.new.self in
    let moved = c.firm_up.ensures.moved told in
    record {
      value = moved;
      answer = answer_ok (value_of new) (after_commit (fortune_of c.args.self.now new) (value_of c.args.self.now)) moved (c.firm_up.ensures.closed ∙ ap is_err c.in-Ok.is) c.firm.result (c.firm.ensures.length told);
    }

pub returns-in-Err-clause-left : goal.returns-in-Err-clause-left
returns-in-Err-clause-left g c = λ told.
    let new = c.firm_up.new.self in
    let moved = c.firm_up.ensures.moved told in
    record {
      value = moved;
      answer = answer_broken (value_of new) (after_commit (fortune_of c.args.self.now new) (value_of c.args.self.now)) moved (c.firm_up.ensures.closed ∙ ap is_err c.in-Err.is);
    }

pub returns-in-Ok-clause-firm : goal.returns-in-Ok-clause-firm
returns-in-Ok-clause-firm g c = record { crash = λ told o may. c.is_broken-broken.ensures.leaves.whole told (c.firm_up.ensures.closed ∙ ap is_err c.in-Ok.is) o may }
