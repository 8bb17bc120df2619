-- A window after a list of calls, and after a history.
use Rattle.std.proofs.Common.{◌≡◌, ℕ, ◌<◌, ◌==◌, ◌&&◌, Bool, true, false, cond, if◌then◌else◌, List, [], ◌∷◌, ◌++◌, fold, filter, map, Option, Some, None, refl, sym, ap, subst, ◌∙◌, append_assoc, arith}
use Rattle.std.specs.List.{last_or, list_any}
use Rattle.std.specs.Option.{option_map_or}
use Rattle.std.proofs.lemmas.Bool.{ne_eqb}
use Rattle.std.proofs.lemmas.List.{append-nil, map-append}
use Rattle.std.proofs.lemmas.List.Elements.{filter-append}
use Rattle.gw_base.specs.EntryLaws.{present_state-append, top_of-append}
use Rattle.gw_base.specs.History.{names, present_state, top_after, top_of}
use Rattle.gw_base.specs.ListLaws.{by_last, fold_is, greatest-push, last_or-append}
use Rattle.gw_base.specs.Lists.{greatest, raised}
use Rattle.gw_base.specs.View.{present_after}
use Rattle.gw_base.specs.declared.history.HistoryAct.{HistoryAct}
use Rattle.gw_base.specs.declared.history.HistoryAct.TheVariants.{Start, Path, File, Hold, Seal, Release, Cancel, Tick, Close}
use Rattle.gw_base.specs.declared.history.HistoryEntry.{HistoryEntry}
use Rattle.gw_base.specs.declared.key_state.KeyState.{KeyState}
use Rattle.gw_base.specs.declared.key_state.KeyState.TheVariants.{Fresh, Filed, Sealed, Held, Released, Cancelled}
use Rattle.seq_window.specs.Histories.{EachNamesHeld, IsFreshAbove, NamesHeld, seen_after, window_of}
use Rattle.seq_window.specs.Seen.{Seen, is_within, nothing_seen, with_state, with_states, within}
use Rattle.seq_window.specs.Sets.{Setting, last_state, seen_by}
use Rattle.seq_window.proofs.SeenLemmas.{IsAbove, same_seen, with_one}

raised_above : (top : Option ℕ) (x n : ℕ) → IsAbove (raised top x) n → IsAbove top n × (x < n)
raised_above None x n a = (tt, a)
raised_above (Some t) x n a = (omega (arith, a), omega (arith, a))

-- ---- calls

greatest-sets : (sets : List Setting) (s : Setting) → greatest (map (λ (t : Setting). t.number) (sets ++ s ∷ [])) ≡ raised (greatest (map (λ (t : Setting). t.number) sets)) s.number
greatest-sets sets s = ap greatest (map-append (λ (t : Setting). t.number) sets (s ∷ [])) ∙ greatest-push (map (λ (t : Setting). t.number) sets) s.number

last_state-push : (n : ℕ) (sets : List Setting) (s : Setting) → last_state n (sets ++ s ∷ []) ≡ (if s.number == n then s.state else last_state n sets)
last_state-push n sets s =
    ap (λ (xs : List Setting). option_map_or (λ (t : Setting). t.state) (last_or None xs) Fresh) (filter-append (λ (t : Setting). t.number == n) sets (s ∷ []))
    ∙ ap (λ (o : Option Setting). option_map_or (λ (t : Setting). t.state) o Fresh) (last_or-append None named (filter (λ (t : Setting). t.number == n) (s ∷ [])))
    ∙ by (s.number == n)
  where
    named : List Setting
    named = filter (λ (t : Setting). t.number == n) sets

    by : (b : Bool) → option_map_or (λ (t : Setting). t.state) (last_or (last_or None named) (cond b (s ∷ []) [])) Fresh ≡ (if b then s.state else last_state n sets)
    by true = refl
    by false = refl

abbrev IsFreshAboveSets : List Setting → Type 0
IsFreshAboveSets sets = (n : ℕ) → IsAbove (greatest (map (λ (s : Setting). s.number) sets)) n → last_state n sets ≡ Fresh

fresh_above_sets : (sets : List Setting) → IsFreshAboveSets sets
fresh_above_sets sets = by_last IsFreshAboveSets (λ n a. refl) more sets
  where
    more : (xs : List Setting) (s : Setting) → IsFreshAboveSets xs → IsFreshAboveSets (xs ++ s ∷ [])
    more xs s before n a =
        let b = raised_above (greatest (map (λ (t : Setting). t.number) xs)) s.number n (subst (λ (o : Option ℕ). IsAbove o n) (greatest-sets xs s) a) in
        last_state-push n xs s ∙ rw (ne_eqb s.number n (λ e. omega (arith, b.1, e))) (before n b.0)

pub one_set_more : (half : ℕ) (sets : List Setting) (s : Setting) → seen_by half (sets ++ s ∷ []) ≡ with_state half s.number s.state (seen_by half sets)
one_set_more half sets s =
    (λ i. within half (greatest-sets sets s i) (λ n. last_state-push n sets s i))
    ∙ with_one half (greatest (map (λ (t : Setting). t.number) sets)) (λ n. last_state n sets) s.number s.state (fresh_above_sets sets)

pub sets_are : (half : ℕ) (sets : List Setting) → fold (λ (seen : Seen) (s : Setting). with_state half s.number s.state seen) nothing_seen sets ≡ seen_by half sets
sets_are half sets = fold_is (λ (seen : Seen) (s : Setting). with_state half s.number s.state seen) (λ (xs : List Setting). seen_by half xs) (one_set_more half) sets

-- ---- histories

with_several : (half : ℕ) (top : Option ℕ) (f : ℕ → KeyState) (xs : List ℕ) (s : KeyState)
    → within half top (λ n. if list_any (λ x. x == n) xs then s else f n) ≡ with_states half xs s (within half top f)
with_several half top f xs s = same_seen _ _ refl (λ n. at n (is_within half top n) (list_any (λ x. x == n) xs))
  where
    at : (n : ℕ) (w a : Bool) → (if w then (if a then s else f n) else Fresh) ≡ (if w then (if a then s else (if w then f n else Fresh)) else Fresh)
    at n true true = refl
    at n true false = refl
    at n false a = refl

pub window_follows : (half node : ℕ) (h : List HistoryEntry) (e : HistoryEntry) → IsFreshAbove node h → window_of half node (h ++ e ∷ []) ≡ seen_after half node e.act (window_of half node h)
window_follows half node h e fresh = (λ i. within half (top_of-append node h e i) (λ n. present_state-append node n h e i)) ∙ by_act e.act
  where
    by_number : (b : Bool) (x : ℕ) (s : KeyState)
        → within half (if b then raised (top_of node h) x else top_of node h) (λ n. if b && (x == n) then s else present_state node n h)
        ≡ (if b then with_state half x s (window_of half node h) else window_of half node h)
    by_number true x s = with_one half (top_of node h) (λ n. present_state node n h) x s fresh
    by_number false x s = refl

    by_list : (b : Bool) (xs : List ℕ) (s : KeyState)
        → within half (top_of node h) (λ n. if b && list_any (λ x. x == n) xs then s else present_state node n h)
        ≡ (if b then with_states half xs s (window_of half node h) else window_of half node h)
    by_list true xs s = with_several half (top_of node h) (λ n. present_state node n h) xs s
    by_list false xs s = refl

    by_path : (b : Bool) → within half (if b then None else top_of node h) (λ n. if b then Fresh else present_state node n h) ≡ (if b then nothing_seen else window_of half node h)
    by_path true = refl
    by_path false = refl

    by_act : (act : HistoryAct) → within half (top_after node (top_of node h) act) (λ n. present_after node n (present_state node n h) act) ≡ seen_after half node act (window_of half node h)
    by_act (Path m port counter) = by_path (m.0 == node)
    by_act (File m x packet) = by_number (m.0 == node) x Filed
    by_act (Hold m x packet) = by_number (m.0 == node) x Held
    by_act (Seal m x) = by_number (m.0 == node) x Sealed
    by_act (Release m xs) = by_list (m.0 == node) xs Released
    by_act (Cancel m xs) = by_list (m.0 == node) xs Cancelled
    by_act Start = refl
    by_act Tick = refl
    by_act Close = refl

pub still_fresh_above : (node : ℕ) (h : List HistoryEntry) (e : HistoryEntry) → IsFreshAbove node h → NamesHeld node h e.act → IsFreshAbove node (h ++ e ∷ [])
still_fresh_above node h e fresh held n above = present_state-append node n h e ∙ by_act e.act held (subst (λ (o : Option ℕ). IsAbove o n) (top_of-append node h e) above)
  where
    by_number : (b : Bool) (x : ℕ) (s : KeyState) → IsAbove (if b then raised (top_of node h) x else top_of node h) n → (if b && (x == n) then s else present_state node n h) ≡ Fresh
    by_number true x s a =
        let b = raised_above (top_of node h) x n a in
        rw (ne_eqb x n (λ q. omega (arith, b.1, q))) (fresh n b.0)
    by_number false x s a = fresh n a

    by_list : (named : Bool) (s : KeyState) → (named ≡ true → present_state node n h ≡ Held) → IsAbove (top_of node h) n → (if named then s else present_state node n h) ≡ Fresh
    by_list true s held a =
        let one : present_state node n h ≡ Held = held refl in
        let other : present_state node n h ≡ Fresh = fresh n a in
        absurd (cc)
    by_list false s held a = fresh n a

    by_path : (b : Bool) → IsAbove (if b then None else top_of node h) n → (if b then Fresh else present_state node n h) ≡ Fresh
    by_path true a = refl
    by_path false a = fresh n a

    by_act : (act : HistoryAct) → NamesHeld node h act → IsAbove (top_after node (top_of node h) act) n → present_after node n (present_state node n h) act ≡ Fresh
    by_act (Path m port counter) held a = by_path (m.0 == node) a
    by_act (File m x packet) held a = by_number (m.0 == node) x Filed a
    by_act (Hold m x packet) held a = by_number (m.0 == node) x Held a
    by_act (Seal m x) held a = by_number (m.0 == node) x Sealed a
    by_act (Release m xs) held a = by_list (names node n (Release m xs)) Released (held n) a
    by_act (Cancel m xs) held a = by_list (names node n (Cancel m xs)) Cancelled (held n) a
    by_act Start held a = fresh n a
    by_act Tick held a = fresh n a
    by_act Close held a = fresh n a

pub history_is : (half node : ℕ) (h : List HistoryEntry) → EachNamesHeld node h → fold (λ (seen : Seen) (e : HistoryEntry). seen_after half node e.act seen) nothing_seen h ≡ window_of half node h
history_is half node h held = from [] h held (λ n a. refl)
  where
    from : (before rest : List HistoryEntry) → EachNamesHeld node (before ++ rest) → IsFreshAbove node before
        → fold (λ (seen : Seen) (e : HistoryEntry). seen_after half node e.act seen) (window_of half node before) rest ≡ window_of half node (before ++ rest)
    from before [] each fresh = ap (λ (es : List HistoryEntry). window_of half node es) (sym (append-nil before))
    from before (e ∷ rest) each fresh =
        let same : (before ++ e ∷ []) ++ rest ≡ before ++ e ∷ rest = append_assoc before (e ∷ []) rest in
        ap (λ (w : Seen). fold (λ (seen : Seen) (d : HistoryEntry). seen_after half node d.act seen) w rest) (sym (window_follows half node before e fresh))
        ∙ from (before ++ e ∷ []) rest (λ b a d q. each b a d (sym same ∙ q)) (still_fresh_above node before e fresh (each before rest e refl))
        ∙ ap (λ (es : List HistoryEntry). window_of half node es) same
