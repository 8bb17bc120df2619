use Rattle.std.proofs.Common.{List, ℕ, length, refl, sym, subst, ◌∙◌}
use Rattle.area_disk.specs.Disk.{Torn}
use Rattle.area_disk.specs.Octets.{torn_overwritten}
use Rattle.area_disk.proofs.quiet.QuietAreaArea.write_at.Goals as goal

pub returns-clause-crash : goal.returns-clause-crash
returns-clause-crash c = λ octets left.
    (c.args.self.now, refl, subst (λ (l : List ℕ). Torn c.args.at (length c.args.from.now) c.args.self.now l) (sym (left ∙ c.put.ensures)) (torn_overwritten c.args.self.now c.args.at c.args.from.now c.requires))
