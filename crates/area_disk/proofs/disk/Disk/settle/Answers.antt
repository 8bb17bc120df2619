use Rattle.std.proofs.Common.{[], refl, ◌∙◌, arith}
use Rattle.std.proofs.lemmas.List.{with_items_is}
use Rattle.area_disk.specs.Sound.{sound_at, sound_settled}
use Rattle.area_disk.proofs.disk.Disk.settle.Goals as goal

pub invariant_of-self : goal.invariant_of-self
invariant_of-self c =
    let firm_is = with_items_is c.args.self.now.firm c.copy_stretches.new.to (omega arith) ∙ c.copy_stretches.ensures ∙ c.deref.ensures.value in
    record {
      sound = sound_at _ _ _ _ _ _ _ _ _ refl firm_is c.clear.ensures.items c.note.ensures
          (sound_settled c.args.self.now.present.items c.args.self.now.firm.items c.args.self.now.present.items c.args.self.now.unsynced.items _ _ c.args.self.now.past 0 [] c.args.self.now.sound (omega arith) refl (omega (arith, c.clear.ensures.capacity)));
    }
