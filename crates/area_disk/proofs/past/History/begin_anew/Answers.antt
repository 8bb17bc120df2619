use Rattle.std.proofs.Common.{◌≡◌, refl, sym, ◌∙◌, ap, arith, rules}
use Rattle.std.proofs.lemmas.Slice.{pushed as after_push}
use Rattle.std.proofs.lemmas.List.{with_items_is}
use Rattle.area_disk.specs.Past.{Past, changes_of, image_after, unsynced_after}
use Rattle.area_disk.proofs.Changes.{calls_total, same_past}
use Rattle.area_disk.proofs.past.History.begin_anew.Goals as goal

pub returns-clause-anew : goal.returns-clause-anew
returns-clause-anew c =
    let base_is = with_items_is c.self.inside.base c.replay.new.image (omega arith) in
    let image_is : c.replay.new.image ≡ image_after (changes_of c.self.inside.calls.items c.self.inside.octets.items) c.self.inside.base.items = search rules in
    let unsynced_are = after_push c.args.unsynced.now c.clear.ensures.items c.unwrap.ensures c.extend_from_slice.ensures.items in
    let calls_few = calls_total c.self.inside.calls.items c.self.inside.octets.items _ refl in
    rw (← c.self.view_is)
    (same_past _ _ _ _ _ _ _ _ (omega (arith, calls_few)) (base_is ∙ image_is) (unsynced_are ∙ c.requires.unsynced ∙ ap (λ (p : Past). unsynced_after p.changes p.unsynced) (sym c.self.view_is)) (rw c.clear-2.ensures.items refl))
