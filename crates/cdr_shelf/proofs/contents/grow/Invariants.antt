use Rattle.std.proofs.Common.{◌≡◌, ℕ, None, get_or, sum_by, vec_len}
use Rattle.cdr_shelf.specs.Holding.{is_there}
use Rattle.cdr_shelf.proofs.contents.grow.Given as goal

abbrev pub invariant-places : goal.invariant-places
invariant-places l = record {
  same : (k : ℕ) → get_or l.places.items k None ≡ get_or l.initial.places.items k None;
  there : sum_by is_there l.places.items ≡ sum_by is_there l.initial.places.items;
  size : vec_len l.places ≡ l.counter;
}
