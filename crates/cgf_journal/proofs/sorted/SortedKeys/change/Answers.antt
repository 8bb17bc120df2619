use Rattle.std.proofs.Common.{◌≡◌, ℕ, ◌+◌, ◌-◌, ◌<◌, ◌≤◌, Bool, List, length, true, false, refl, sym, ap, ◌∙◌, arith}
use Rattle.cgf_journal.proofs.Names.{All-set, changed_key, counted_keys, counts, HeldKey, KeptKey, key_of, rank, slice_index_or, slice_set, SortedKeys}
use Rattle.cgf_journal.proofs.KeysLemmas.{change_counts, count-changed, firm-changed, one}
use Rattle.cgf_journal.proofs.Orders.{UpTo, ascending-set}
use Rattle.cgf_journal.proofs.sorted.SortedKeys.change.Goals as goal

live : (s : SortedKeys) (at a b : ℕ) (held : Bool) (kept now : KeptKey) → at < length s.keys.items → kept ≡ slice_index_or s.keys.items at kept
    → a ≡ one kept.is_held → b ≡ one held → now ≡ changed_key held s.round kept
    → (a ≤ s.live) × (s.live - a + b ≡ length (counted_keys false s.round (slice_set s.keys.items at now))) × (s.live - a + b ≤ length s.keys.items)
live s at a b held kept now inside here was is changed =
    change_counts s.round s.live a b s.keys.items at now kept inside s.live_counted
    (was ∙ ap (λ (k : KeptKey). one k.is_held) here) (is ∙ sym (ap (λ (k : KeptKey). one k.is_held) changed))

pub overflow_sub-self : goal.overflow_sub-self
overflow_sub-self c = (live c.args.self.now c.args.at c.one_if.result (one c.args.held) c.args.held c.kept_at-kept.result c.changed.result c.requires ((rw c.deref.ensures.value at c.kept_at-kept.ensures) c.kept_at-kept.result) c.one_if.ensures refl c.changed.ensures).0

pub overflow_add-self : goal.overflow_add-self
overflow_add-self c =
    let kept = (rw c.deref.ensures.value at c.kept_at-kept.ensures) c.kept_at-kept.result in
    omega (
      arith,
      c.args.self.now.keys.ok,
      c.args.self.now.keys.small,
      (live c.args.self.now c.args.at c.one_if.result c.one_if-2.result c.args.held c.kept_at-kept.result c.changed.result c.requires kept c.one_if.ensures c.one_if-2.ensures c.changed.ensures).2,
    )

pub invariant_of-self : goal.invariant_of-self
invariant_of-self c =
    let old = c.args.self.now in
    let kept = rw c.deref.ensures.value at c.kept_at-kept.ensures in
    let now = c.changed.ensures in
    record {
      enough = omega (arith, old.enough);
      ascending = ascending-set old.keys.items c.args.at c.changed.result c.requires (λ d. ap (λ (k : KeptKey). rank k) now ∙ ap (λ (k : KeptKey). rank k) (kept d)) old.ascending;
      up_to = All-set (UpTo old.round) old.keys.items c.args.at c.changed.result (
        omega (arith, ap (λ (k : KeptKey). k.round) now),
        omega (arith, ap (λ (k : KeptKey). k.number) now, ap (λ (k : KeptKey). k.number) (kept c.kept_at-kept.result), (old.up_to c.args.at c.kept_at-kept.result c.requires).1),
      ) old.up_to;
      firm_counted = old.firm_counted ∙ ap (λ (l : List HeldKey). length l) (sym (firm-changed old.round old.keys.items c.args.at c.changed.result c.requires
          (λ d. ap (λ (k : KeptKey). key_of k) now ∙ ap (λ (k : KeptKey). key_of k) (kept d))
          (λ d. ap (λ (k : KeptKey). counts true old.round k) now ∙ count-changed c.args.held old.round c.kept_at-kept.result ∙ ap (λ (k : KeptKey). counts true old.round k) (kept d))));
      live_counted = (live old c.args.at c.one_if.result c.one_if-2.result c.args.held c.kept_at-kept.result c.changed.result c.requires (kept c.kept_at-kept.result) c.one_if.ensures c.one_if-2.ensures now).1;
    }
