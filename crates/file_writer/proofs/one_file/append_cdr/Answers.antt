use Rattle.std.proofs.Common.{◌≡◌, List, [], ◌∷◌, ℕ, length, ◌++◌, sym, subst, ◌∙◌, arith}
use Rattle.file_writer.proofs.Names.{appended, cdr_header_length, StepsAt, Writes}
use Rattle.cdr_file.specs.Laws.{length-cdr_header_octets}
use Rattle.file_writer.proofs.MakingLemmas.{makes_then, stopped_at}
use Rattle.file_writer.proofs.WritingLemmas.{has_longer, on_ok, takes_end, written_both}
use Rattle.file_writer.proofs.one_file.append_cdr.Goals as goal

pub returns-in_err-write-clause-makes : goal.returns-in_err-write-clause-makes
returns-in_err-write-clause-makes g c =
    stopped_at g.F.Shelf (Writes ∷ []) (Writes ∷ []) _ _ _ _ c.from_residual.ensures c.in_err-write.ensures.makes

pub write-requires-2 : goal.write-requires-2
write-requires-2 g c = search (arith, length-cdr_header_octets, takes_end, has_longer)

pub returns-clause-makes : goal.returns-clause-makes
returns-clause-makes g c = makes_then g.F.Shelf (Writes ∷ []) (Writes ∷ []) _ _ _ _ c.in_ok-write.ensures.makes
    c.write-2.ensures.makes

pub returns-clause-appended : goal.returns-clause-appended
returns-clause-appended g c = λ told.
    let long : length c.octets.result.now ≡ cdr_header_length c.args.kind = search (arith, length-cdr_header_octets) in
    let steps : List ℕ
    → Type 0 = λ xs. StepsAt c.args.stream (appended (xs ++ c.args.octets.now))
    (g.F.Shelf.unsealed c.args.shelf.now) (g.F.Shelf.unsealed c.write-2.new.shelf) in
    on_ok c.write-2.result
    (λ second. subst steps (c.octets.ensures.octets ∙ c.write_cdr-header.ensures)
    (written_both c.args.at c.cdr_header_length.result c.octets.result.now c.args.octets.now
    (g.F.Shelf.unsealed c.args.shelf.now) (g.F.Shelf.unsealed c.write.new.shelf)
    (g.F.Shelf.unsealed c.write-2.new.shelf) c.args.stream
    (long ∙ sym c.cdr_header_length.ensures.length) (c.requires.end told) (c.in_ok-write.ensures.written told) second))
    (c.write-2.ensures.written told)

pub returns-in_err-write-clause-shut : goal.returns-in_err-write-clause-shut
returns-in_err-write-clause-shut g c = c.in_err-write.ensures.shut

pub returns-clause-shut : goal.returns-clause-shut
returns-clause-shut g c = λ files plan most shut.
    c.write-2.ensures.shut files plan most (c.in_ok-write.ensures.shut files plan most shut)
