use Rattle.std.proofs.Common.{◌≡◌, ◌+◌, ◌-◌, ◌≤◌, ℕ, List, [], ◌∷◌, ◌++◌, length, take, drop, refl, ◌∙◌, ap, subst, arith, true}
use Rattle.std.proofs.lemmas.Slice.{pushed as after_push}
use Rattle.std.proofs.lemmas.List.{with_items_is, length-take}
use Rattle.area_disk.specs.Hull.{hull_covers}
use Rattle.area_disk.specs.Past.{Past, noted}
use Rattle.area_disk.specs.Stretch.{IsBeside, hull_of, left_by}
use Rattle.area_disk.specs.Outside.{same_trans, same_more, overwritten_hull}
use Rattle.area_disk.specs.Sound.{sound_at, sound_settled, left_by_is, same_left}
use Rattle.area_disk.specs.declared.stretch.Stretch.{Stretch}
use Rattle.area_disk.proofs.disk.Disk.stop.Goals as goal

pub leave-requires-clause-agrees : goal.leave-requires-clause-agrees
leave-requires-clause-agrees c =
    let written : Stretch = record { at = c.args.at; count = length c.args.from.now } in
    let unsynced_is = after_push (written ∷ []) refl c.unwrap.ensures c.push.ensures.items in
    rw (c.deref-2.ensures.value, unsynced_is, c.deref_mut.ensures.value, c.deref.ensures.value) (same_more _ written _ _ c.args.self.now.sound.agrees)

pub copy_stretches-requires-clause-same : goal.copy_stretches-requires-clause-same
copy_stretches-requires-clause-same c =
    let written : Stretch = record { at = c.args.at; count = length c.args.from.now } in
    let disk = c.args.self.now in
    let unsynced_is = after_push (written ∷ []) refl c.unwrap.ensures c.push.ensures.items in
    let left : c.leave.new.present ≡ left_by c.args.outcome disk.firm.items disk.present.items (disk.unsynced.items ++ written ∷ []) c.args.at c.args.from.now = rw (c.deref.ensures.value, c.deref_mut.ensures.value, c.deref-2.ensures.value, unsynced_is) at c.leave.ensures in
    let present_is = c.deref-3.ensures.value ∙ with_items_is disk.present c.leave.new.present (omega arith) ∙ left in
    rw (c.deref-4.ensures.value, unsynced_is, present_is, c.deref_mut-2.ensures.value)
    (same_trans _ disk.present.items _ _ (same_left c.args.outcome disk.present.items disk.firm.items disk.unsynced.items c.args.at c.args.from.now disk.sound.fit c.requires disk.sound.agrees) (same_more _ written _ _ disk.sound.agrees))

pub invariant_of-self : goal.invariant_of-self
invariant_of-self c =
    let written : Stretch = record { at = c.args.at; count = length c.args.from.now } in
    let disk = c.args.self.now in
    let whole : Stretch = c.hull-whole.result in
    let all = disk.unsynced.items ++ written ∷ [] in
    let octets = left_by c.args.outcome disk.firm.items disk.present.items all c.args.at c.args.from.now in
    let unsynced_is = after_push (written ∷ []) refl c.unwrap.ensures c.push.ensures.items in
    let left : c.leave.new.present ≡ octets = rw (c.deref.ensures.value, c.deref_mut.ensures.value, c.deref-2.ensures.value, unsynced_is) at c.leave.ensures in
    let present_is = with_items_is disk.present c.leave.new.present (omega arith) ∙ left in
    let firm_is = with_items_is disk.firm c.copy_stretches.new.to (omega arith) ∙ c.copy_stretches.ensures ∙ c.deref-3.ensures.value ∙ present_is in
    let read_is = c.deref-6.ensures.value ∙ present_is in
    let noted_is : c.note.new.self ≡ noted (record { at = whole.at; octets = take (whole.at + whole.count - whole.at) (drop whole.at c.deref-6.result.now); settles = true }) disk.past = c.note.ensures in
    let count_is : whole.at + whole.count - whole.at ≡ whole.count = omega arith in
    let part_is : take (whole.at + whole.count - whole.at) (drop whole.at c.deref-6.result.now) ≡ take whole.count (drop whole.at octets) = ap (λ n. take n (drop whole.at c.deref-6.result.now)) count_is ∙ ap (λ (l : List ℕ). take whole.count (drop whole.at l)) read_is in
    let past_is = noted_is ∙ ap (λ (l : List ℕ). noted (record { at = whole.at; octets = l; settles = true }) disk.past) part_is in
    let whole_is : whole ≡ hull_of all = c.hull-whole.ensures.hull ∙ ap hull_of (c.deref-5.ensures.value ∙ unsynced_is) in
    let fits : whole.at + whole.count ≤ length disk.present.items = omega (arith, c.hull-whole.ensures.fits) in
    let part_fits : whole.at + length (take whole.count (drop whole.at octets)) ≤ length disk.present.items = omega (arith, fits, length-take whole.count (drop whole.at octets)) in
    let covers = λ (k : ℕ) (beside : IsBeside whole k). hull_covers all k (subst (λ (h : Stretch). IsBeside h k) whole_is beside) in
    let same = same_left c.args.outcome disk.present.items disk.firm.items disk.unsynced.items c.args.at c.args.from.now disk.sound.fit c.requires disk.sound.agrees in
    record {
      sound = sound_at _ _ _ _ _ _ _ _ _ present_is firm_is c.clear.ensures.items past_is
          (sound_settled disk.present.items disk.firm.items octets disk.unsynced.items _ _ disk.past whole.at (take whole.count (drop whole.at octets)) disk.sound part_fits (overwritten_hull all whole disk.present.items octets fits covers same) (omega (arith, c.clear.ensures.capacity, c.push.ensures.capacity)));
    }

pub returns-clause-present : goal.returns-clause-present
returns-clause-present c =
    let written : Stretch = record { at = c.args.at; count = length c.args.from.now } in
    let disk = c.args.self.now in
    let unsynced_is = after_push (written ∷ []) refl c.unwrap.ensures c.push.ensures.items in
    let left : c.leave.new.present ≡ left_by c.args.outcome disk.firm.items disk.present.items (disk.unsynced.items ++ written ∷ []) c.args.at c.args.from.now = rw (c.deref.ensures.value, c.deref_mut.ensures.value, c.deref-2.ensures.value, unsynced_is) at c.leave.ensures in
    with_items_is disk.present c.leave.new.present (omega arith) ∙ left ∙ left_by_is c.args.outcome disk.present.items disk.firm.items disk.unsynced.items c.args.at c.args.from.now

pub returns-clause-past : goal.returns-clause-past
returns-clause-past c =
    let written : Stretch = record { at = c.args.at; count = length c.args.from.now } in
    let disk = c.args.self.now in
    let whole : Stretch = c.hull-whole.result in
    let all = disk.unsynced.items ++ written ∷ [] in
    let unsynced_is = after_push (written ∷ []) refl c.unwrap.ensures c.push.ensures.items in
    let whole_is : whole ≡ hull_of all = c.hull-whole.ensures.hull ∙ ap hull_of (c.deref-5.ensures.value ∙ unsynced_is) in
    let count_is : whole.at + whole.count - whole.at ≡ whole.count = omega arith in
    let part_is : take (whole.at + whole.count - whole.at) (drop whole.at c.deref-6.result.now) ≡ take whole.count (drop whole.at c.deref-6.result.now) = ap (λ n. take n (drop whole.at c.deref-6.result.now)) count_is in
    let N : Stretch → List ℕ → Past = λ (h : Stretch) (l : List ℕ). noted (record { at = h.at; octets = take h.count (drop h.at l); settles = true }) disk.past in
    c.note.ensures
    ∙ ap (λ (l : List ℕ). noted (record { at = whole.at; octets = l; settles = true }) disk.past) part_is
    ∙ ap (λ (h : Stretch). N h c.deref-6.result.now) whole_is
    ∙ ap (λ (l : List ℕ). N (hull_of all) l) c.deref-6.ensures.value
