use Rattle.std.proofs.Common.{ℕ, ◌++◌, ◌∷◌, [], take, drop, true, ◌∙◌, ap}
use Rattle.area_disk.specs.Hull.{hull_of-same}
use Rattle.area_disk.specs.Past.{Past, noted}
use Rattle.area_disk.specs.Stretch.{hull_of}
use Rattle.area_disk.specs.declared.stretch.Stretch.{Stretch}
use Rattle.area_disk.proofs.disk.Disk.stop_between.Goals as goal

pub returns-clause-past : goal.returns-clause-past
returns-clause-past c =
    let old = c.args.self.now in
    let u = old.unsynced.items in
    let present = c.stop.new.self.present.items in
    let N : Stretch → Past = λ (h : Stretch). noted (record { at = h.at; octets = take h.count (drop h.at present); settles = true }) old.past in
    c.stop.ensures.past
    ∙ ap (λ (n : ℕ). N (hull_of (u ++ record { at = n; count = 0 } ∷ []))) c.first_unsynced-at.ensures.first
    ∙ ap N (hull_of-same u)
