use Rattle.std.proofs.Common.{◌+◌, ◌≤◌, List, length, get_or, subst, arith}
use Rattle.std.proofs.lemmas.List.{drop_all}
use Rattle.area_disk.specs.Stretch.{SameOutside}
use Rattle.area_disk.specs.Outside.{same_everywhere}
use Rattle.area_disk.specs.declared.stretch.Stretch.{Stretch}
use Rattle.area_disk.proofs.Stretches.{copied_step}
use Rattle.area_disk.proofs.stretch.copy_stretches.Goals as goal

pub stretches-preserved : goal.stretches-preserved
stretches-preserved c =
    let none : Stretch = record { at = 0; count = 0 } in
    let fits : (get_or c.args.stretches.now c.stretches.stretch-index none).at + (get_or c.args.stretches.now c.stretches.stretch-index none).count ≤ length c.args.from.now = c.requires.fit c.stretches.stretch-index none c.stretches-test.true in
    copied_step c.args.stretches.now c.stretches.stretch-index none c.args.from.now c.stretches.to c.copy_from_slice.new.self c.stretches-test.true fits c.stretches.invariant c.copy_from_slice.ensures.after

pub returns : goal.returns
returns c =
    same_everywhere _ _ (subst (λ (s : List Stretch). SameOutside s c.args.from.now c.stretches.to) (drop_all c.stretches.stretch-index c.args.stretches.now (omega arith)) c.stretches.invariant)
