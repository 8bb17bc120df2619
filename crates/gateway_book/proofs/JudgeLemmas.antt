-- What a judge finds fit.
use Rattle.std.proofs.Common.{◌≡◌, ℕ, ◌+◌, ◌*◌, ◌≤◌, ◌<◌, ◌^◌, ◌&&◌, true, false, if◌then◌else◌, nat_le, List, [], ◌∷◌, ◌++◌, length, sym, ap, ◌∙◌, arith, rules}
use Rattle.gateway_book.proofs.Names.{and_from, capacity_of, cost_of, costs_of, costs_of-append, FitJudge, Follows, has_room, held_keys, HistoryAct, HistoryEntry, Index, is_act_fit, is_within, IsFit, IsJudging, last_moment, latest_moment, le-leb, leb-true, MayGrow, observed, observed_by, promised_octets, promised_of, side_of, Totals, true≢false}
use Rattle.gateway_index.specs.Tells.{totals_of}

-- ---- lengths

pub costs_at_least : (h : List HistoryEntry) → 30 * length h ≤ costs_of h
costs_at_least [] = omega arith
costs_at_least (e ∷ h) = omega (arith, costs_at_least h)

pub may_grow : (judge : FitJudge) (h : List HistoryEntry) → IsJudging judge h → judge.costs < 2 ^ 64 → MayGrow h
may_grow judge h judging fits = omega (arith, judging.cost, fits, costs_at_least h)

-- one entry more
pub judged : (judge new : FitJudge) (h : List HistoryEntry) (e : HistoryEntry) → IsJudging judge h → (MayGrow h → Follows false new.index (h ++ e ∷ [])) → new.costs ≡ judge.costs + cost_of e → judge.costs < 2 ^ 64
    → IsJudging new (h ++ e ∷ [])
judged judge new h e judging follows sum small = search (rules, may_grow, costs_of-append)

-- ---- the tests of an entry

module _ (same_act : (index : Index) (h : List HistoryEntry) (act : HistoryAct) → Follows false index h → is_act_fit (observed_by false index) act ≡ is_act_fit (observed h) act)
    (totals_are : (index : Index) (h : List HistoryEntry) → Follows false index h → (side_of false index).totals ≡ totals_of h)
    (held_are : (index : Index) (h : List HistoryEntry) → Follows false index h → (side_of false index).held.count ≡ length (held_keys h)) where
  same_moment : (index : Index) (h : List HistoryEntry) → Follows false index h → (side_of false index).totals.moment ≡ last_moment h
  same_moment index h follows = ap (λ (t : Totals). t.moment) (totals_are index h follows)

  -- an entry that isn't fit by its moment or its act
  pub refused : (judge : FitJudge) (h : List HistoryEntry) (size : ℕ) (e : HistoryEntry) → IsJudging judge h
      → (nat_le (side_of false judge.index).totals.moment e.moment && is_act_fit (observed_by false judge.index) e.act) ≡ false → IsFit size h e → ⊥
  refused judge h size e judging refuses fit = grind (arith, and_from, le-leb, same_moment)

  -- what the judge counts after an entry is what room asks
  room_is : (new : FitJudge) (h : List HistoryEntry) (size : ℕ) (e : HistoryEntry) → IsJudging new (h ++ e ∷ []) → is_within new size ≡ has_room h e size
  room_is new h size e judging =
      ap (λ (n : ℕ). nat_le n (capacity_of size)) (same (λ i. 76 * held_are new.index (h ++ e ∷ []) judging.index i + (if (totals_are new.index (h ++ e ∷ []) judging.index i).is_close_due then 30 else 0)))
    where
      same : promised_of (side_of false new.index) ≡ promised_octets (h ++ e ∷ []) → new.costs + promised_of (side_of false new.index) ≡ costs_of h + cost_of e + promised_octets (h ++ e ∷ [])
      same promised = omega (arith, promised, judging.cost, costs_of-append h (e ∷ []))

  -- and one that was taken in
  pub is_fit : (judge new : FitJudge) (h : List HistoryEntry) (size : ℕ) (e : HistoryEntry) → IsJudging judge h → IsJudging new (h ++ e ∷ []) → e.moment ≤ latest_moment
      → (nat_le (side_of false judge.index).totals.moment e.moment && is_act_fit (observed_by false judge.index) e.act) ≡ true → is_within new size ≡ true → IsFit size h e
  is_fit judge new h size e judging now moment may within = search (rules, leb-true, same_moment, room_is)

  pub no_room : (new : FitJudge) (h : List HistoryEntry) (size : ℕ) (e : HistoryEntry) → IsJudging new (h ++ e ∷ []) → is_within new size ≡ false → IsFit size h e → ⊥
  no_room new h size e now past fit = true≢false (sym (room_is new h size e now ∙ fit.room) ∙ past)
