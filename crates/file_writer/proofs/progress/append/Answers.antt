use Rattle.std.proofs.Common.{arith, ◌+◌, Bool, Option, [], ◌∷◌, subst, sym}
use Rattle.file_writer.proofs.Names.{beginning_of, filed_of, FiledRecord, FileName, GrownWhere, IsBegun, lt-leb, name_in, RunFacts, UnsealedFile, Writes}
use Rattle.file_writer.proofs.MakingLemmas.{ended_at, makes_then, stopped_at}
use Rattle.file_writer.proofs.WritingLemmas.{grown_at, is_fresh, makes_unsealed}
use Rattle.file_writer.proofs.progress.append.Goals as goal

pub end_of_file-requires-clause-fresh : goal.end_of_file-requires-clause-fresh
end_of_file-requires-clause-fresh g c = λ told. search (arith, is_fresh, c.requires.fresh)

pub returns-in_err-at-clause-makes : goal.returns-in_err-at-clause-makes
returns-in_err-at-clause-makes g c =
    makes_unsealed g.F.Shelf c.args.file.closed c.args.file.sealed _ _ _ _ c.if-sequence-sealed.false
    (stopped_at g.F.Shelf (beginning_of c.args.file.growing) (Writes ∷ Writes ∷ []) _ _ _ _ c.from_residual.ensures
    c.in_err-at.ensures.makes)

pub returns-in_err-append_cdr-clause-makes : goal.returns-in_err-append_cdr-clause-makes
returns-in_err-append_cdr-clause-makes g c = search (arith, makes_unsealed, makes_then, ended_at)

pub returns-clause-makes : goal.returns-clause-makes
returns-clause-makes g c = search (arith, makes_unsealed, makes_then)

pub returns-clause-stands : goal.returns-clause-stands
returns-clause-stands g c = λ told.
    let name : FileName = name_in c.args.stream c.args.file in
    let filed : FiledRecord = filed_of c.args.next.kind c.args.next.octets.now c.args.next.moment in
    let old : Option UnsealedFile = g.F.Shelf.unsealed c.args.shelf.now c.args.stream in
    let new : Option UnsealedFile = g.F.Shelf.unsealed c.append_cdr.new.shelf c.args.stream in
    let begun =
    subst (λ (run : RunFacts). IsBegun name run.kind c.args.file.growing old
    (g.F.Shelf.unsealed c.end_of_file.new.shelf c.args.stream)) c.with_record-run.ensures (c.in_ok-at.ensures.stands told) in
    subst (λ (b : Bool). GrownWhere b name c.args.file.growing filed old new)
    (sym (lt-leb (c.args.file.closed + 1) c.args.file.sealed c.if-sequence-sealed.false))
    (grown_at name c.args.file.growing filed old _ new begun (c.in_ok-append_cdr.ensures.appended told).here)

pub returns-in_err-at-clause-shut : goal.returns-in_err-at-clause-shut
returns-in_err-at-clause-shut g c = λ files.
    c.in_err-at.ensures.shut (omega (arith, c.requires.fresh files, c.if-sequence-sealed.false)) files

pub returns-in_err-append_cdr-clause-shut : goal.returns-in_err-append_cdr-clause-shut
returns-in_err-append_cdr-clause-shut g c = λ files plan most within shut.
    c.in_err-append_cdr.ensures.shut files plan most (c.in_ok-at.ensures.shut
    (omega (arith, c.requires.fresh files, c.if-sequence-sealed.false)) files plan most within shut)

pub returns-clause-shut : goal.returns-clause-shut
returns-clause-shut g c = λ files plan most within shut.
    c.in_ok-append_cdr.ensures.shut files plan most (c.in_ok-at.ensures.shut
    (omega (arith, c.requires.fresh files, c.if-sequence-sealed.false)) files plan most within shut)
