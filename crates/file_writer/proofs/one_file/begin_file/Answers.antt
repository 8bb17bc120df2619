use Rattle.std.proofs.Common.{[], ◌∷◌, ℕ, List, length, ap, ◌∙◌}
use Rattle.file_writer.specs.Calls.{Writes}
use Rattle.file_writer.proofs.MakingLemmas.{makes_then, stopped_at}
use Rattle.file_writer.proofs.WritingLemmas.{on_ok, opened_at}
use Rattle.file_writer.proofs.one_file.begin_file.Goals as goal

pub returns-in_err-begin-clause-makes : goal.returns-in_err-begin-clause-makes
returns-in_err-begin-clause-makes g c =
    stopped_at g.F.Shelf (Writes ∷ []) (Writes ∷ []) _ _ _ _ c.from_residual.ensures c.in_err-begin.ensures.makes

pub returns-clause-makes : goal.returns-clause-makes
returns-clause-makes g c = makes_then g.F.Shelf (Writes ∷ []) (Writes ∷ []) _ _ _ _ c.in_ok-begin.ensures.makes
    c.write.ensures.makes

pub returns-clause-open : goal.returns-clause-open
returns-clause-open g c = λ told.
    on_ok c.write.result
    (λ second. opened_at c.args.name c.args.first.now.kind c.octets.result.now
    (g.F.Shelf.unsealed c.args.shelf.now c.args.name.stream) _ _
    (c.in_ok-begin.ensures.begun told).here second.here
    (ap (λ (xs : List ℕ). length xs) c.octets.ensures.octets ∙ c.run_header-header.ensures.length))
    (c.write.ensures.written told)

pub returns-in_err-begin-clause-shut : goal.returns-in_err-begin-clause-shut
returns-in_err-begin-clause-shut g c = c.in_err-begin.ensures.shut

pub returns-clause-shut : goal.returns-clause-shut
returns-clause-shut g c = λ above files plan most within shut.
    c.write.ensures.shut files plan most (c.in_ok-begin.ensures.shut above files plan most within shut)
