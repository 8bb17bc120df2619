use Rattle.std.proofs.Common.{◌≡◌, ◌+◌, ◌≤◌, get_or, drop, min, max, ap, arith}
use Rattle.std.proofs.lemmas.List.{drop_more}
use Rattle.area_disk.specs.Hull.{low_of_least}
use Rattle.area_disk.specs.Stretch.{low_of, high_of}
use Rattle.area_disk.specs.declared.stretch.Stretch.{Stretch}
use Rattle.area_disk.proofs.stretch.hull.Goals as goal

pub stretches-init : goal.stretches-init
stretches-init c = record { low = omega (arith, low_of_least c.args.stretches.now); high = omega arith; fits = omega arith }

pub stretches-preserved : goal.stretches-preserved
stretches-preserved c =
    let none : Stretch = record { at = 0; count = 0 } in
    let i = c.stretches.stretch-index in
    let rest = c.args.stretches.now in
    let s : Stretch = get_or rest i none in
    let low_more : low_of (drop i rest) ≡ min s.at (low_of (drop (i + 1) rest)) = ap low_of (drop_more rest i none c.stretches-test.true) in
    let high_more : high_of (drop i rest) ≡ max (s.at + s.count) (high_of (drop (i + 1) rest)) = ap high_of (drop_more rest i none c.stretches-test.true) in
    let low_is : c.min-low.result ≡ min c.stretches.low s.at = c.min-low.ensures in
    let high_is : c.max-high.result ≡ max c.stretches.high (s.at + s.count) = c.max-high.ensures in
    let fits : s.at + s.count ≤ c.args.length = c.requires.fit i none c.stretches-test.true in
    let so_far = c.stretches.invariant in
    let low_before : min c.stretches.low (low_of (drop i rest)) ≡ low_of rest = so_far.low in
    let high_before : max c.stretches.high (high_of (drop i rest)) ≡ high_of rest = so_far.high in
    record {
      low = omega (arith, low_more, low_is, low_before);
      high = omega (arith, high_more, high_is, high_before);
      fits = omega (arith, high_is, fits, so_far.fits);
    }
