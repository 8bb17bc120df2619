-- What is promised behind an act.
use Rattle.std.proofs.Common.{◌≡◌, ℕ, ◌+◌, ◌*◌, ◌<◌, if◌then◌else◌, List, [], ◌∷◌, ◌++◌, length, length-append, drop, get_or, filter, refl, sym, ap, ◌∙◌}
use Rattle.gateway_answer.proofs.Names.{at_drop_more, cost_of, costs_of, held_by, held_keys, held_keys-append, HeldKey, HistoryAct, HistoryEntry, holds_one, is_close_due, promised_by, promised_octets, stays_held}
use Rattle.gw_base.specs.EntryLaws.{is_close_due-append}
use Rattle.gw_base.specs.declared.history.HistoryAct.TheVariants.{Start}

held_alone : (a : HistoryAct) → length (held_by a []) ≡ holds_one a
held_alone Start = refl
held_alone _ = refl

pub promised_after : (h : List HistoryEntry) (e : HistoryEntry) → promised_octets (h ++ e ∷ []) ≡ promised_by (held_keys h) (is_close_due h) e.act
promised_after h e = λ i. 76 * keys i + (if is_close_due-append h e i then 30 else 0)
  where
    keys : length (held_keys (h ++ e ∷ [])) ≡ length (filter (λ key. stays_held e.act key) (held_keys h)) + holds_one e.act
    keys =
        ap (λ (ks : List HeldKey). length ks) (held_keys-append h e)
        ∙ length-append (filter (λ key. stays_held e.act key) (held_keys h)) (held_by e.act [])
        ∙ ap (λ (n : ℕ). length (filter (λ key. stays_held e.act key) (held_keys h)) + n) (held_alone e.act)

-- what the entries that are left cost, the first of them counted
pub rest_costs : (h : List HistoryEntry) (place : ℕ) (e : HistoryEntry) → place < length h → e ≡ get_or h place e
    → costs_of (drop place h) ≡ cost_of e + costs_of (drop (place + 1) h)
rest_costs h place e lt is =
    at_drop_more costs_of h place e lt ∙ ap (λ (d : HistoryEntry). cost_of d + costs_of (drop (place + 1) h)) (sym is)
