use Rattle.std.proofs.Common.{◌≡◌, Bool, List, [], ◌∷◌, length, filter, map, true, false, refl, sym, ap, ◌∙◌, arith, inl, inr}
use Rattle.cgf_journal.proofs.Names.{All-filter, All-map, AllPairs-filter, cases_Bool, counted_keys, counts, firm_keys, HeldKey, KeptKey, key_of, length-map, settled_key, SortedKeys}
use Rattle.cgf_journal.proofs.KeysLemmas.{counted-settled}
use Rattle.cgf_journal.proofs.Orders.{Precedes, UpTo, ascending-map}
use Rattle.cgf_journal.proofs.sorted.SortedKeys.revert.Goals as goal

-- the keys that the firm entries hold, settled
abbrev held : SortedKeys → List KeptKey
held old = filter (λ (kept : KeptKey). counts true old.round kept) old.keys.items

abbrev settled : SortedKeys → List KeptKey
settled old = map (λ (kept : KeptKey). settled_key true old.round kept) (held old)

left : (old : SortedKeys) (mid now : List KeptKey) → mid ≡ held old → now ≡ map (λ (kept : KeptKey). settled_key true old.round kept) mid → now ≡ settled old
left old mid now kept is = rw kept at is

again : (p : KeptKey → Bool) (keys : List KeptKey) → filter p (filter p keys) ≡ filter p keys
again p [] = refl
again p (kept ∷ keys) =
    elim (cases_Bool (p kept)) [
      | inl is ↦ rw (is, is) (ap (λ (l : List KeptKey). kept ∷ l) (again p keys))
      | inr isnt ↦ rw isnt (again p keys)
    ]

counted : (s : Bool) (old : SortedKeys) (now : List KeptKey) → now ≡ settled old → counted_keys s old.round now ≡ firm_keys old
counted s old now is =
    rw is (counted-settled s old.round true old.round (held old)
    ∙ ap (λ (l : List KeptKey). map key_of l) (again (λ (kept : KeptKey). counts true old.round kept) old.keys.items))

pub invariant_of-self : goal.invariant_of-self
invariant_of-self c =
    let old = c.args.self.now in
    let is = left old c.keep_firm.new.keys.items c.settle_all.new.keys.items c.keep_firm.ensures.kept c.settle_all.ensures.settled in
    let P = UpTo old.round in
    let firm = λ (kept : KeptKey). counts true old.round kept in
    let now = λ (kept : KeptKey). settled_key true old.round kept in
    record {
      enough = omega (arith, old.enough, c.keep_firm.ensures.capacity, c.settle_all.ensures.capacity);
      ascending = rw is (ascending-map now (λ kept. refl) (held old) (AllPairs-filter Precedes firm old.keys.items old.ascending));
      up_to = rw is (All-map P now (held old) (λ j d lt. (omega arith, (All-filter firm P old.keys.items old.up_to j d lt).1)));
      firm_counted = old.firm_counted ∙ ap (λ (l : List HeldKey). length l) (sym (counted true old c.settle_all.new.keys.items is));
      live_counted = old.firm_counted ∙ ap (λ (l : List HeldKey). length l) (sym (counted false old c.settle_all.new.keys.items is));
    }

pub returns-clause-firm : goal.returns-clause-firm
returns-clause-firm c = counted true c.args.self.now c.settle_all.new.keys.items (left c.args.self.now c.keep_firm.new.keys.items c.settle_all.new.keys.items c.keep_firm.ensures.kept c.settle_all.ensures.settled)

pub returns-clause-live : goal.returns-clause-live
returns-clause-live c = counted false c.args.self.now c.settle_all.new.keys.items (left c.args.self.now c.keep_firm.new.keys.items c.settle_all.new.keys.items c.keep_firm.ensures.kept c.settle_all.ensures.settled)

pub returns-clause-count : goal.returns-clause-count
returns-clause-count c =
    let old = c.args.self.now in
    let is = left old c.keep_firm.new.keys.items c.settle_all.new.keys.items c.keep_firm.ensures.kept c.settle_all.ensures.settled in
    ap (λ (l : List KeptKey). length l) is ∙ length-map (held old) (λ (kept : KeptKey). settled_key true old.round kept) ∙ sym (length-map (held old) key_of)
