use Rattle.std.proofs.Common.{◌≡◌, ℕ, List, [], ◌∷◌, ◌++◌, length, Option, refl, ap, ◌∙◌, arith}
use Rattle.file_writer.proofs.Names.{body_of, FiledKind, header_length, header_of, Seals, settings_of, UnsealedFile, Writes}
use Rattle.cdr_file.specs.FileHeader.{header_octets}
use Rattle.file_writer.proofs.WritingLemmas.{named_file, sealed_of}
use Rattle.file_writer.proofs.MakingLemmas.{makes_then, stopped_at}
use Rattle.file_writer.proofs.one_file.close_file.Goals as goal

pub returns-in_err-write-clause-makes : goal.returns-in_err-write-clause-makes
returns-in_err-write-clause-makes g c = stopped_at g.F.Shelf (Writes ∷ []) (Writes ∷ Seals _ ∷ []) _ _ _ _
    c.from_residual.ensures c.in_err-write.ensures.makes

pub returns-in_err-sync-clause-makes : goal.returns-in_err-sync-clause-makes
returns-in_err-sync-clause-makes g c =
    stopped_at g.F.Shelf (Writes ∷ Writes ∷ []) (Seals _ ∷ []) _ _ _ _ c.from_residual-in_err-sync.ensures
    (makes_then g.F.Shelf (Writes ∷ []) (Writes ∷ []) _ _ _ _ c.in_ok-write.ensures.makes c.in_err-sync.ensures.makes)

pub returns-clause-makes : goal.returns-clause-makes
returns-clause-makes g c =
    let long : length c.octets.result.now ≡ header_length c.args.run.kind = search arith in
    let kind : FiledKind = c.args.run.kind in
    let header : List ℕ =
    header_octets (header_of c.args.run c.args.name.sequence c.args.reason (settings_of c.args.gateway.now)) in
    let u : Option UnsealedFile = g.F.Shelf.unsealed c.args.shelf.now c.args.name.stream in
    makes_then g.F.Shelf (Writes ∷ Writes ∷ []) (Seals (record { name = c.args.name; octets = header ++ body_of kind u }) ∷
    []) _ _ _ _
    (makes_then g.F.Shelf (Writes ∷ []) (Writes ∷ []) _ _ _ _ c.in_ok-write.ensures.makes c.in_ok-sync.ensures.makes)
    (c.seal.ensures.makes _ (λ told.
    sealed_of c.args.name kind c.args.run.octets c.octets.result.now u _ _ (c.requires.open told) long
    (c.in_ok-write.ensures.written told).here (c.in_ok-sync.ensures.synced told).here
    ∙ ap (λ (octets : List ℕ). named_file c.args.name (octets ++ body_of kind u) ∷ [])
    (c.octets.ensures.octets ∙ c.run_header-header.ensures.octets)))

pub returns-clause-gone : goal.returns-clause-gone
returns-clause-gone g c = search arith

pub returns-in_err-write-clause-shut : goal.returns-in_err-write-clause-shut
returns-in_err-write-clause-shut g c = c.in_err-write.ensures.shut

pub returns-in_err-sync-clause-shut : goal.returns-in_err-sync-clause-shut
returns-in_err-sync-clause-shut g c = λ files plan most shut.
    c.in_err-sync.ensures.shut files plan most (c.in_ok-write.ensures.shut files plan most shut)

pub returns-clause-shut : goal.returns-clause-shut
returns-clause-shut g c = λ files plan most shut.
    let u : Option UnsealedFile = g.F.Shelf.unsealed c.args.shelf.now c.args.name.stream in
    let long : length c.octets.result.now ≡ header_length c.args.run.kind = cc in
    let stands =
    sealed_of c.args.name c.args.run.kind c.args.run.octets c.octets.result.now u _ _ (c.requires.open files) long
    (c.in_ok-write.ensures.written files).here (c.in_ok-sync.ensures.synced files).here in
    c.seal.ensures.shut _ stands refl files plan most
    (c.in_ok-sync.ensures.shut files plan most (c.in_ok-write.ensures.shut files plan most shut))
