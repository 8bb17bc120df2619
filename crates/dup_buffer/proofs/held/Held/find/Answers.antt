use Rattle.std.proofs.Common.{◌≡◌, ◌∙◌, Bool, List, None, Option, Some, ap, sym}
use Rattle.std.specs.List.{find}
use Rattle.std.specs.Option.{option_map}
use Rattle.gw_base.specs.declared.place.Place.{Place}
use Rattle.dup_buffer.specs.Stored.{held_in, is_copy_of, place_of}
use Rattle.dup_buffer.specs.declared.copy.HeldCopy.{HeldCopy}
use Rattle.dup_buffer.proofs.StepLemmas.{found_kept, found_late}
use Rattle.dup_buffer.proofs.held.Held.find.Goals as goal

pub returns-in-Some : goal.returns-in-Some
returns-in-Some c =
    let kept = c.self.inside.kept.items in
    let late = c.self.inside.late.items in
    let p : HeldCopy → Bool = is_copy_of c.args.node.0 c.args.number in
    let found : find p late ≡ Some c.in-Some.copy = ap (λ (l : List HeldCopy). find p l) (sym c.deref.ensures.value) ∙ sym c.find_in.ensures ∙ c.in-Some.is in
    rw (← c.self.view_is)
    (ap (λ (q : Place). Some q) c.place.ensures
    ∙ sym (ap (λ (o : Option HeldCopy). option_map place_of o) (found_late c.args.node.0 c.args.number (held_in kept) late c.in-Some.copy c.self.invariant.0.once found)))

pub returns-in_err-copy : goal.returns-in_err-copy
returns-in_err-copy c =
    let kept = c.self.inside.kept.items in
    let late = c.self.inside.late.items in
    let p : HeldCopy → Bool = is_copy_of c.args.node.0 c.args.number in
    let none_late : find p late ≡ None = ap (λ (l : List HeldCopy). find p l) (sym c.deref.ensures.value) ∙ sym c.find_in.ensures ∙ c.in_default.is in
    let none_kept : find p (held_in kept) ≡ None = ap (λ (l : List HeldCopy). find p (held_in l)) (sym c.deref-2.ensures.value) ∙ sym c.find_held.ensures ∙ c.in_err-copy.was in
    rw (← c.self.view_is)
    (c.from_residual.ensures ∙ sym (ap (λ (o : Option HeldCopy). option_map place_of o) (found_kept p (held_in kept) late none_late ∙ none_kept)))

pub returns : goal.returns
returns c =
    let kept = c.self.inside.kept.items in
    let late = c.self.inside.late.items in
    let p : HeldCopy → Bool = is_copy_of c.args.node.0 c.args.number in
    let none_late : find p late ≡ None = ap (λ (l : List HeldCopy). find p l) (sym c.deref.ensures.value) ∙ sym c.find_in.ensures ∙ c.in_default.is in
    let found : find p (held_in kept) ≡ Some c.in_ok-copy.copy = ap (λ (l : List HeldCopy). find p (held_in l)) (sym c.deref-2.ensures.value) ∙ sym c.find_held.ensures ∙ c.in_ok-copy.was in
    rw (← c.self.view_is)
    (ap (λ (q : Place). Some q) c.place-2.ensures
    ∙ sym (ap (λ (o : Option HeldCopy). option_map place_of o) (found_kept p (held_in kept) late none_late ∙ found)))
