use Rattle.std.proofs.Common.{sym, arith}
use Rattle.gateway_answer.proofs.FitLemmas.{none_beyond}
use Rattle.gateway_answer.proofs.fit.is_among.Goals as goal

pub returns-then-number-least : goal.returns-then-number-least
returns-then-number-least c = sym (none_beyond c.args.number c.args.numbers.now c.args.least c.args.greatest c.requires (λ b. omega (arith, b.0, c.if-number-least.true)))

pub returns-then-greatest-number : goal.returns-then-greatest-number
returns-then-greatest-number c = sym (none_beyond c.args.number c.args.numbers.now c.args.least c.args.greatest c.requires (λ b. omega (arith, b.1, c.if-greatest-number.true)))
