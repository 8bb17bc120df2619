use Rattle.std.proofs.Common.{arith, sym, ◌∙◌, rules}
use Rattle.std.proofs.lemmas.List.{take_all}
use Rattle.gate_journal.proofs.Seen.{unfinished_first, differs}
use Rattle.gate_journal.proofs.reading.judge.Goals as goal
use Rattle.gate_journal.proofs.reading.judge.Goals.{else-at-eq0-via-then-at-eq0+else-not-rest_differs, else-at-eq0-via-else-at-eq0}

pub returns-then-not-rest_differs : goal.returns-then-not-rest_differs
returns-then-not-rest_differs c = search (rules, unfinished_first)

pub returns-in-None : goal.returns-in-None
returns-in-None c = take_all 32 c.args.read.now (omega (arith, c.told-read)) ∙ sym c.in-None.ensures

pub returns-else-at-eq0 : goal.returns-else-at-eq0
returns-else-at-eq0 c = elim c.else-at-eq0.branch [
  | else-at-eq0-via-then-at-eq0+else-not-rest_differs w ↦ differs c.args.header.now c.args.read.now c.in-Some.at c.in-Some.ensures.0 c.in-Some.ensures.1 c.in-Some.ensures.2 c.if-read-eq0.false (λ first. w.rest_differs.ensures.other w.if-not-rest_differs.false) c.told-read
  | else-at-eq0-via-else-at-eq0 w ↦ differs c.args.header.now c.args.read.now c.in-Some.at c.in-Some.ensures.0 c.in-Some.ensures.1 c.in-Some.ensures.2 c.if-read-eq0.false (λ first. absurd (w.if-at-eq0.false first)) c.told-read
]
