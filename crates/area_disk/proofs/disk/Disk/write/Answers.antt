use Rattle.std.proofs.Common.{ℕ, List, refl, ◌∙◌, ap, arith}
use Rattle.std.proofs.lemmas.Bool.{cond-true}
use Rattle.std.proofs.lemmas.List.{with_items_is}
use Rattle.area_disk.specs.Disk.{overwritten}
use Rattle.area_disk.specs.Sound.{sound_at, sound_written}
use Rattle.area_disk.proofs.disk.Disk.write.Goals as goal

pub invariant_of-self : goal.invariant_of-self
invariant_of-self c =
    let sound = c.args.self.now.sound in
    let present_is = with_items_is c.args.self.now.present c.overwrite.new.octets (omega arith) ∙ c.overwrite.ensures ∙ ap (λ (l : List ℕ). overwritten l c.args.at c.args.from.now) c.deref_mut.ensures.value in
    let pushed = c.push.ensures.succeeds (omega (arith, sound.few, sound.room)) in
    let unsynced_is = c.push.ensures.items ∙ cond-true _ _ _ pushed in
    record {
      sound = sound_at _ _ _ _ _ _ _ _ _ present_is refl unsynced_is c.note.ensures
          (sound_written c.args.self.now.present.items c.args.self.now.firm.items c.args.self.now.unsynced.items _ _ c.args.self.now.past c.args.at c.args.from.now sound c.requires.fits c.requires.spare c.push.ensures.capacity);
    }
