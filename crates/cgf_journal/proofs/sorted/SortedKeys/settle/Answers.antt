use Rattle.std.proofs.Common.{◌≡◌, ◌+◌, Bool, ℕ, List, length, map, true, false, refl, sym, ap, ◌∙◌, arith, rules}
use Rattle.cgf_journal.proofs.Names.{All-map, counted_keys, HeldKey, KeptKey, length-map, live_keys, settled_key, SortedKeys}
use Rattle.cgf_journal.proofs.KeysLemmas.{counted-settled, firm-next}
use Rattle.cgf_journal.proofs.Orders.{UpTo, ascending-map}
use Rattle.cgf_journal.proofs.sorted.SortedKeys.settle.Goals as goal

-- in the next round, and where that begins anew
next : (old : SortedKeys) (round : ℕ) → round ≡ old.round + 1 → counted_keys true round old.keys.items ≡ live_keys old
next old round is = rw is (firm-next old.round old.keys.items old.up_to)

anew : (s : Bool) (old : SortedKeys) (now : List KeptKey) → now ≡ map (λ (kept : KeptKey). settled_key false old.round kept) old.keys.items → counted_keys s 0 now ≡ live_keys old
anew s old now is = rw is (counted-settled s 0 false old.round old.keys.items)

pub invariant_of-self : goal.invariant_of-self
invariant_of-self c = search (rules, next)

pub returns-in-Some-clause-firm : goal.returns-in-Some-clause-firm
returns-in-Some-clause-firm c = next c.args.self.now c.in-Some.round (search rules)

pub invariant_of-self-in-None : goal.invariant_of-self-in-None
invariant_of-self-in-None c =
    let old = c.args.self.now in
    let now = λ (kept : KeptKey). settled_key false old.round kept in
    record {
      enough = omega (arith, old.enough, c.settle_all.ensures.capacity);
      ascending = rw c.settle_all.ensures.settled (ascending-map now (λ kept. refl) old.keys.items old.ascending);
      up_to = rw c.settle_all.ensures.settled (All-map (UpTo 0) now old.keys.items (λ j d lt. (omega arith, (old.up_to j d lt).1)));
      firm_counted = old.live_counted ∙ ap (λ (l : List HeldKey). length l) (sym (anew true old c.settle_all.new.keys.items c.settle_all.ensures.settled));
      live_counted = old.live_counted ∙ ap (λ (l : List HeldKey). length l) (sym (anew false old c.settle_all.new.keys.items c.settle_all.ensures.settled));
    }

pub returns-in-None-clause-firm : goal.returns-in-None-clause-firm
returns-in-None-clause-firm c = anew true c.args.self.now c.settle_all.new.keys.items c.settle_all.ensures.settled

pub returns-in-None-clause-live : goal.returns-in-None-clause-live
returns-in-None-clause-live c = anew false c.args.self.now c.settle_all.new.keys.items c.settle_all.ensures.settled

pub returns-in-None-clause-count : goal.returns-in-None-clause-count
returns-in-None-clause-count c =
    ap (λ (l : List KeptKey). length l) c.settle_all.ensures.settled
    ∙ length-map c.args.self.now.keys.items (λ (kept : KeptKey). settled_key false c.args.self.now.round kept)
