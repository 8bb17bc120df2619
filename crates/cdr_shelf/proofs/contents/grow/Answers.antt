use Rattle.std.proofs.Common.{List, [], ◌∷◌, None, get_or, sum_by, ◌∙◌, ap, arith}
use Rattle.std.proofs.lemmas.List.Sums.{sum_by-append}
use Rattle.cdr_shelf.specs.Files.{Unsealed}
use Rattle.cdr_shelf.specs.Holding.{is_there}
use Rattle.cdr_shelf.proofs.Places.{get_or-none}
use Rattle.cdr_shelf.proofs.contents.grow.Goals as goal

pub places-preserved : goal.places-preserved
places-preserved c =
    let pushed = c.in_ok-push.ensures.items in
    let before = c.places.places.items in
    let sum = ap (λ (l : List Unsealed). sum_by is_there l) pushed in
    record {
      same = λ k.
          ap (λ (l : List Unsealed). get_or l k None) pushed ∙ get_or-none before k ∙ c.places.invariant.same k;
      there = omega (arith, sum, sum_by-append is_there before (None ∷ []), c.places.invariant.there);
      size = omega (arith, c.in_ok-push.ensures.len, c.places.invariant.size);
    }
