use Rattle.std.proofs.Common.{[], ◌∷◌, length, refl, ap, arith}
use Rattle.std.proofs.lemmas.Slice.{pushed as after_push}
use Rattle.area_disk.specs.Past.{Past}
use Rattle.area_disk.specs.declared.past.Call.{Call}
use Rattle.area_disk.proofs.Changes.{octets_total, calls_total, changes_of-push, IsKept-push, same_past}
use Rattle.area_disk.proofs.past.History.push.Goals as goal

pub unwrap-requires : goal.unwrap-requires
unwrap-requires c =
    let total = octets_total c.self.inside.calls.items c.self.inside.octets.items c.args.self.now.changes (ap (λ (p : Past). p.changes) c.self.view_is) c.self.invariant.total in
    c.extend_from_slice.ensures.succeeds (omega (arith, total, c.requires.few_octets))

pub unwrap-requires-2 : goal.unwrap-requires-2
unwrap-requires-2 c =
    let total = calls_total c.self.inside.calls.items c.self.inside.octets.items c.args.self.now.changes (ap (λ (p : Past). p.changes) c.self.view_is) in
    c.push.ensures.succeeds (omega (arith, total, c.requires.few_calls))

pub invariant_of-self : goal.invariant_of-self
invariant_of-self c =
    let last : Call = record { at = c.args.at; count = length c.args.octets.now; settles = c.args.settles } in
    let octets_are = after_push c.args.octets.now refl c.unwrap.ensures c.extend_from_slice.ensures.items in
    let calls_are = after_push (last ∷ []) refl c.unwrap-2.ensures c.push.ensures.items in
    let changes_are = ap (λ (p : Past). p.changes) c.self.view_is in
    let calls_few = calls_total c.self.inside.calls.items c.self.inside.octets.items c.args.self.now.changes changes_are in
    let octets_few = octets_total c.self.inside.calls.items c.self.inside.octets.items c.args.self.now.changes changes_are c.self.invariant.total in
    let image_is = ap (λ (p : Past). length p.image) c.self.view_is in
    rw (octets_are, calls_are)
    (IsKept-push _ c.self.inside.calls.items c.self.inside.octets.items c.args.octets.now c.args.at _ _ _ _ _ c.args.settles c.self.invariant (omega (arith, image_is, c.requires.fits)) (omega (arith, calls_few, c.requires.few_calls)) (omega (arith, octets_few, c.requires.few_octets)) c.push.ensures.capacity c.extend_from_slice.ensures.capacity)

pub returns : goal.returns
returns c =
    let last : Call = record { at = c.args.at; count = length c.args.octets.now; settles = c.args.settles } in
    let octets_are = after_push c.args.octets.now refl c.unwrap.ensures c.extend_from_slice.ensures.items in
    let calls_are = after_push (last ∷ []) refl c.unwrap-2.ensures c.push.ensures.items in
    rw (← c.self.view_is, octets_are, calls_are)
    (same_past _ _ _ _ _ _ _ _ refl refl refl (changes_of-push c.self.inside.calls.items c.self.inside.octets.items c.args.octets.now c.args.at c.args.settles c.self.invariant.total))
