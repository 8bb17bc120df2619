use Rattle.std.proofs.Common.{take, drop, sym, ◌∙◌, ap}
use Rattle.gate_journal.proofs.Names.{batch_before, end_of, length_at, read_runs}
use Rattle.gate_journal.proofs.Turns.{other_bool}
use Rattle.gate_journal.proofs.before.read_before.Goals as goal

pub returns-in-Ok-clause-content : goal.returns-in-Ok-clause-content
returns-in-Ok-clause-content g c = λ tells header end some batch more long before at size.
    let o = g.A.Area.octets c.args.area.now in
    let there = batch_before header long o end some batch more before in
    c.in-Ok.ensures.read tells
    ∙ ap (λ n. take n (drop c.args.at o)) (size ∙ sym there.number)
    ∙ ap (λ n. take (length_at o (end_of some)) (drop n o)) at
    ∙ there.content

pub returns-in-Err-clause-runs : goal.returns-in-Err-clause-runs
returns-in-Err-clause-runs g c = λ told runs. absurd (other_bool (read_runs _ _ _ (c.in-Err.ensures.planned told) runs))
