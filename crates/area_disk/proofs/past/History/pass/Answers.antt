use Rattle.std.proofs.Common.{ℕ, List, [], ◌∷◌, ◌++◌, length, refl, sym, ◌∙◌, ap, arith}
use Rattle.std.proofs.lemmas.Slice.{pushed as after_push}
use Rattle.std.proofs.lemmas.List.{with_items_is}
use Rattle.area_disk.specs.Disk.{overwritten}
use Rattle.area_disk.specs.Past.{Past, Change, unsynced_with, unsynced_after}
use Rattle.area_disk.specs.declared.stretch.Stretch.{Stretch}
use Rattle.area_disk.proofs.Changes.{passed_is}
use Rattle.area_disk.proofs.past.History.pass.Goals as goal

pub returns-then-settles : goal.returns-then-settles
returns-then-settles c =
    let change : Change = record { at = c.args.at; octets = c.args.octets.now; settles = c.args.settles } in
    let written : Stretch = record { at = c.args.at; count = length c.args.octets.now } in
    let old : Past = c.args.self.now in
    let mid_is = c.self.view_is ∙ c.begin_anew.ensures.anew in
    let first_is = ap (λ (p : Past). p.first) mid_is in
    let image_is = with_items_is c.self.inside.base c.overwrite.new.octets (omega arith) ∙ c.overwrite.ensures ∙ ap (λ (l : List ℕ). overwritten l c.args.at c.args.octets.now) (c.deref_mut.ensures.value ∙ ap (λ (p : Past). p.image) mid_is) in
    let unsynced_is = c.clear.ensures.items ∙ sym (ap (λ b. unsynced_with b (unsynced_after old.changes old.unsynced) written) c.if-settles.true) in
    passed_is change old _ _ _ _ (omega (arith, first_is, c.saturating_add-self-inside.ensures)) image_is unsynced_is (ap (λ (p : Past). p.changes) mid_is)

pub returns-else-settles : goal.returns-else-settles
returns-else-settles c =
    let change : Change = record { at = c.args.at; octets = c.args.octets.now; settles = c.args.settles } in
    let written : Stretch = record { at = c.args.at; count = length c.args.octets.now } in
    let old : Past = c.args.self.now in
    let mid_is = c.self.view_is ∙ c.begin_anew.ensures.anew in
    let first_is = ap (λ (p : Past). p.first) mid_is in
    let image_is = with_items_is c.self.inside.base c.overwrite.new.octets (omega arith) ∙ c.overwrite.ensures ∙ ap (λ (l : List ℕ). overwritten l c.args.at c.args.octets.now) (c.deref_mut.ensures.value ∙ ap (λ (p : Past). p.image) mid_is) in
    let pushed_is = after_push (written ∷ []) refl c.unwrap.ensures c.push.ensures.items in
    let unsynced_is = pushed_is ∙ ap (λ (p : Past). p.unsynced ++ written ∷ []) mid_is ∙ sym (ap (λ b. unsynced_with b (unsynced_after old.changes old.unsynced) written) c.if-settles.false) in
    passed_is change old _ _ _ _ (omega (arith, first_is, c.saturating_add-self-inside.ensures)) image_is unsynced_is (ap (λ (p : Past). p.changes) mid_is)
