use Rattle.std.proofs.Common.{List, ℕ, length, ap, ◌∙◌, arith}
use Rattle.area_disk.specs.Disk.{overwritten}
use Rattle.area_disk.specs.Quiet.{padded}
use Rattle.area_disk.proofs.Padded.{length_padded, overwritten_padded, length_written}
use Rattle.area_disk.proofs.quiet.QuietArea.put.Goals as goal

pub write-requires : goal.write-requires
write-requires c = omega (arith, c.requires, ap length c.self.view_is, length_padded c.self.inside.size c.self.inside.octets.items c.self.invariant.0, c.self.invariant.1)

pub invariant_of-self : goal.invariant_of-self
invariant_of-self c = (
  omega (arith, ap length c.write.ensures.octets, length_written c.self.inside.size c.args.at c.self.inside.octets.items c.args.from.now (omega (arith, c.requires, ap length c.self.view_is, length_padded c.self.inside.size c.self.inside.octets.items c.self.invariant.0)) c.self.invariant.0),
  omega (arith, c.self.invariant.1, c.write.ensures.capacity),
)

pub returns : goal.returns
returns c =
    ap (padded c.self.inside.size) c.write.ensures.octets
    ∙ overwritten_padded c.self.inside.size c.args.at c.self.inside.octets.items c.args.from.now (omega (arith, c.requires, ap length c.self.view_is, length_padded c.self.inside.size c.self.inside.octets.items c.self.invariant.0)) c.self.invariant.0
    ∙ ap (λ (l : List ℕ). overwritten l c.args.at c.args.from.now) c.self.view_is
