use Rattle.std.proofs.Common.{◌≡◌, ◌⊎◌, ◌∙◌, ◌++◌, List, [], ◌∷◌, if◌then◌else◌, ap, arith}
use Rattle.file_writer.proofs.Names.{is_done, next_fate, SealedFile, Seals}
use Rattle.file_writer.proofs.MakingLemmas.{one_failed, one_went}
use Rattle.file_writer.proofs.ShuttingLemmas.{seals_shut}
use Rattle.file_writer.proofs.shelf_calls.seal.Goals as goal

pub returns-in-Ok-clause-makes : goal.returns-in-Ok-clause-makes
returns-in-Ok-clause-makes g c = λ file as_file.
    let e = (c.in-Ok.ensures {u = tt}).seals in
    one_went g.F.Shelf (Seals file) _ _ (λ told. e.calls told)
    (λ told. e.sealed told ∙ ap (λ (files : List SealedFile). g.F.Shelf.files c.args.shelf.now ++ files)
    (as_file told)) e.cause.ok
    (λ told. e.planned told)

maybe_file : (new old files : List SealedFile) (file : SealedFile) → files ≡ file ∷ [] → (new ≡ old)
    ⊎ (new ≡ old ++ files) → (new ≡ old) ⊎ (new ≡ old ++ file ∷ [])
maybe_file new old files file e h = grind arith

pub returns-in-Err-clause-makes : goal.returns-in-Err-clause-makes
returns-in-Err-clause-makes g c = λ file as_file.
    let e = (c.in-Err.ensures {u = tt}).seals in
    let files : List SealedFile = g.F.Shelf.files c.args.shelf.now in
    one_failed g.F.Shelf (Seals file) _ _ (λ told. e.calls told)
    (λ told. maybe_file _ files _ file (as_file told) (e.any_moment told)) e.cause.later e.cause.failed
    (λ told. e.planned told)
    (λ planned told. (e.leaves told planned).files
    ∙ ap (λ (fs : List SealedFile). if is_done (next_fate (g.F.Shelf.plan c.args.shelf.now)) then files
    ++ fs else files) (as_file told))

pub returns-in-Ok-clause-shut : goal.returns-in-Ok-clause-shut
returns-in-Ok-clause-shut g c = seals_shut g.F.Shelf _ _ _ _ (c.in-Ok.ensures {u = tt}).seals

pub returns-in-Err-clause-shut : goal.returns-in-Err-clause-shut
returns-in-Err-clause-shut g c = seals_shut g.F.Shelf _ _ _ _ (c.in-Err.ensures {u = tt}).seals
