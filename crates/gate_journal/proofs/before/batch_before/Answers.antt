use Rattle.std.proofs.Common.{◌≡◌, ◌+◌, length, Some, sym, ◌∙◌, subst, arith}
use Rattle.gate_journal.proofs.Names.{content_at, end_of, IsBehind, listed_before, small_before}
use Rattle.gate_journal.proofs.Finding.{content_found}
use Rattle.gate_journal.proofs.before.batch_before.Goals as goal

pub returns-in-Ok-clause-found : goal.returns-in-Ok-clause-found
returns-in-Ok-clause-found g c = λ tells header some batch more long before at.
    let o = g.A.Area.octets c.args.area.now in
    let same : c.min-end.result ≡ c.args.end = omega (arith, c.area_laws.ensures.whole c.args.area.now tells, before.inside) in
    c.content_behind.ensures
    ∙ subst (λ n. content_at c.in-Ok.behind n c.min-end.result ≡ Some (n + 5, length batch)) (sym at)
    (subst (λ n. content_at c.in-Ok.behind (end_of some) n ≡ Some (end_of some + 5, length batch)) (sym same)
    (content_found header long c.args.end o some batch more before.inside (listed_before header long o c.args.end some batch more before) (small_before header long o c.args.end some batch more before) c.in-Ok.behind
    (subst (λ n. IsBehind o n c.in-Ok.behind) at (c.in-Ok.ensures.reads tells))))
