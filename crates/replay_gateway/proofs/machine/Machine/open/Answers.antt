use Rattle.std.proofs.Common.{◌∙◌, sym, true≢false}
use Rattle.replay_gateway.proofs.OpeningLemmas.{opened_machine}
use Rattle.replay_gateway.proofs.machine.Machine.open.Goals as goal

pub returns-then-not-is_down-clause-opens : goal.returns-then-not-is_down-clause-opens
returns-then-not-is_down-clause-opens c = λ setup place g m stands down.
    absurd (true≢false (sym down ∙ sym (c.is_down.ensures setup place g m stands) ∙ c.if-not-is_down.true))

pub returns-in_err-open_book-clause-up : goal.returns-in_err-open_book-clause-up
returns-in_err-open_book-clause-up c = λ setup place g m stands runs.
    absurd (true≢false (sym c.if-not-is_down.false ∙ c.is_down.ensures setup place g m stands ∙ runs))

pub returns-clause-up : goal.returns-clause-up
returns-clause-up c = λ setup place g m stands runs.
    absurd (true≢false (sym c.if-not-is_down.false ∙ c.is_down.ensures setup place g m stands ∙ runs))

pub returns-clause-opens : goal.returns-clause-opens
returns-clause-opens c = λ setup place g m stands down.
    opened_machine _ _ g m c.filed_records_stay.ensures.items c.what_was_written_stays.ensures stands down
    (c.in_ok-open_book.ensures setup place g m stands down)
