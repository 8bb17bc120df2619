use Rattle.std.proofs.Common.{◌≡◌, List, length, true, false, ap, ◌∙◌, arith, rules}
use Rattle.cgf_journal.proofs.Names.{KeptKey, length-map, merged, moved_key, moved_keys}
use Rattle.cgf_journal.proofs.KeysLemmas.{counted_le}
use Rattle.cgf_journal.proofs.MergedLemmas.{absorbed_all, absorbed_counted, absorbed_length, absorbed_up, absorbed_up_to, length-merged}
use Rattle.cgf_journal.proofs.sorted.SortedKeys.absorb.Goals as goal

pub overflow_add-self : goal.overflow_add-self
overflow_add-self c = search (rules, counted_le)

pub overflow_add-self-2 : goal.overflow_add-self-2
overflow_add-self-2 c = search (rules, counted_le)

pub replace_from-requires : goal.replace_from-requires
replace_from-requires c =
    let early = c.args.self.now in
    let late = c.args.late.now in
    omega (
      arith,
      ap (λ (l : List KeptKey). length l) c.in_ok-merge.ensures.ok,
      length-merged early.round c.split_at.result.1.now (moved_keys late.round early.round c.deref-4.result.now),
      length-map c.deref-4.result.now (λ (kept : KeptKey). moved_key late.round early.round kept),
      ap (λ (l : List KeptKey). length l) c.deref-4.ensures.value,
      ap (λ (l : List KeptKey). length l) c.deref-3.ensures.value,
      ap (λ (l : List KeptKey). length l) c.deref.ensures.value,
      c.split_at.ensures.back_len,
      c.count_before-at.ensures.inside,
      c.if-saturating_sub-len.false,
      c.saturating_sub.ensures,
      c.len.ensures,
      c.len-2.ensures,
      early.enough,
    )

pub invariant_of-self : goal.invariant_of-self
invariant_of-self c =
    let early = c.args.self.now in
    let late = c.args.late.now in
    let is : c.replace_from.new.keys.items ≡ merged early.round early.keys.items (moved_keys late.round early.round late.keys.items) =
    c.replace_from.ensures.items ∙ rw (c.in_ok-merge.ensures.ok, c.split_at.ensures.back, c.deref-3.ensures.value, c.deref-4.ensures.value)
    (rw (c.deref.ensures.value, c.deref-2.ensures.value) at (c.count_before-at.ensures.stay late.round early.round)) in
    let room = c.replace_from.ensures.capacity early.reserved early.enough (omega (arith, c.requires.spare, c.merge.ensures.capacity)) in
    record {
      enough = room.0;
      ascending = absorbed_up early late c.replace_from.new.keys.items is;
      up_to = absorbed_up_to early late c.replace_from.new.keys.items is;
      firm_counted = absorbed_counted early late c.replace_from.new.keys.items is true c.requires.firm early.firm late.firm early.firm_counted late.firm_counted;
      live_counted = absorbed_counted early late c.replace_from.new.keys.items is false c.requires.live early.live late.live early.live_counted late.live_counted;
    }

pub returns-clause-ok : goal.returns-clause-ok
returns-clause-ok c = search (rules, absorbed_all, absorbed_length)
