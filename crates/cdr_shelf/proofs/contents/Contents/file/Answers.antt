use Rattle.std.proofs.Common.{◌≡◌, List, ℕ, Option, None, is_some, refl, sym, ◌∙◌, ap}
use Rattle.std.proofs.lemmas.List.{at_drop_all}
use Rattle.cdr_shelf.specs.Files.{SealedFile, file_named}
use Rattle.cdr_shelf.specs.Holding.{Holding}
use Rattle.cdr_shelf.proofs.Names.{none_is_fresh}
use Rattle.cdr_shelf.proofs.contents.Contents.file.Goals as goal

pub returns-clause-none : goal.returns-clause-none
returns-clause-none c =
    let name = c.args.name in
    let items : List SealedFile = c.deref-file-items.result.now in
    let files : List SealedFile = c.args.self.now.files in
    let same : items ≡ files =
    c.deref-file-items.ensures.value ∙ ap (λ (h : Holding). h.files) c.self.view_is in
    let among = λ (l : List SealedFile). file_named name l in
    let over = at_drop_all among items c.files.file-index c.files-test.false in
    let found : file_named name files ≡ None = ap among (sym same) ∙ sym c.files.invariant ∙ over in
    (λ none. none_is_fresh name files (ap (λ (o : Option (List ℕ)). is_some o) found), λ fresh. refl)
