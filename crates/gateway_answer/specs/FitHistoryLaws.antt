-- What holds of fit histories.
use Rattle.std.proofs.Common.{◌≡◌, ℕ, ◌+◌, ◌≤◌, ◌||◌, ◌&&◌, nat_lt, length, length-append, Bool, true, false, if◌then◌else◌, List, [], ◌∷◌, ◌++◌, Some, refl, sym, subst, arith, append_assoc}
use Rattle.std.proofs.lemmas.Bool.{and_parts, false≢true, leb-true, ltb-true}
use Rattle.std.proofs.lemmas.List.{append-nil}
use Rattle.entry_codec.specs.Laws.{costs_of-append}
use Rattle.entry_codec.specs.Room.{IsWithin, capacity_of, costs_of}
use Rattle.entry_codec.specs.Spelling.{cost_of}
use Rattle.gw_base.specs.EntryLaws.{known_nodes-append, last_moment-append}
use Rattle.gw_base.specs.HeldKeys.{promised_octets}
use Rattle.gw_base.specs.History.{last_moment}
use Rattle.gw_base.specs.Known.{is_known, known_nodes, named_node, with_node}
use Rattle.gw_base.specs.ListLaws.{by_last}
use Rattle.gw_base.specs.Observed.{Observed, observed}
use Rattle.gw_base.specs.declared.address.NodeId.{NodeId}
use Rattle.gw_base.specs.declared.history.HistoryAct.{HistoryAct}
use Rattle.gw_base.specs.declared.history.HistoryAct.TheVariants.{Start, Path, File, Hold, Seal, Release, Cancel, Tick, Close}
use Rattle.gw_base.specs.declared.history.HistoryEntry.{HistoryEntry}
use Rattle.gw_base.specs.declared.key_state.KeyState.{KeyState}
use Rattle.gw_base.specs.declared.key_state.KeyState.TheVariants.{Fresh, Filed, Sealed, Held, Released, Cancelled}
use Rattle.gateway_answer.specs.Fit.{IsFit, is_act_fit, is_fresh, is_in_window, is_new, is_packet_fit, latest_moment}
use Rattle.gateway_answer.specs.FitHistory.{AllFit, FitBehind}
use Rattle.gateway_index.specs.Limits.{has_place, is_in_range, may_hold, most_nodes}

-- ---- one entry more

pub fit_parts : (size : ℕ) (before h : List HistoryEntry) (e : HistoryEntry) → FitBehind size before (h ++ e ∷ []) → FitBehind size before h × IsFit size (before ++ h) e
fit_parts size before [] e all = (tt, subst (λ (b : List HistoryEntry). IsFit size b e) (sym (append-nil before)) all.0)
fit_parts size before (x ∷ h) e all =
    let parts = fit_parts size (before ++ x ∷ []) h e all.1 in
    ((all.0, parts.0), subst (λ (b : List HistoryEntry). IsFit size b e) (append_assoc before (x ∷ []) h) parts.1)

pub fit_more : (size : ℕ) (before h : List HistoryEntry) (e : HistoryEntry) → FitBehind size before h → IsFit size (before ++ h) e → FitBehind size before (h ++ e ∷ [])
fit_more size before [] e all one = (subst (λ (b : List HistoryEntry). IsFit size b e) (append-nil before) one, tt)
fit_more size before (x ∷ h) e all one =
    (all.0, fit_more size (before ++ x ∷ []) h e all.1 (subst (λ (b : List HistoryEntry). IsFit size b e) (sym (append_assoc before (x ∷ []) h)) one))

-- the first entries of a fit history are a fit history
pub fit_front : (size : ℕ) (before h more : List HistoryEntry) → FitBehind size before (h ++ more) → FitBehind size before h
fit_front size before [] more fit = tt
fit_front size before (e ∷ h) more fit = (fit.0, fit_front size (before ++ e ∷ []) h more fit.1)

-- what goes on with each fit entry holds of each fit history
pub by_fit : (size : ℕ) (P : List HistoryEntry → Type 0) → P [] → ((h : List HistoryEntry) (e : HistoryEntry) → IsFit size h e → P h → P (h ++ e ∷ []))
    → (h : List HistoryEntry) → AllFit size h → P h
by_fit size P none more =
    by_last (λ (h : List HistoryEntry). AllFit size h → P h) (λ all. none)
    (λ h e rest all. let parts = fit_parts size [] h e all in more h e parts.1 (rest parts.0))

-- ---- moments, costs and nodes

pub last_is_in_range : (size : ℕ) (h : List HistoryEntry) → AllFit size h → last_moment h ≤ latest_moment
last_is_in_range size = by_fit size (λ (h : List HistoryEntry). last_moment h ≤ latest_moment) (omega arith)
    (λ h e fit rest. let is : last_moment (h ++ e ∷ []) ≡ e.moment = last_moment-append h e in omega (arith, is, fit.moment))

pub fit_is_within : (size : ℕ) (h : List HistoryEntry) → AllFit size h → IsWithin h size
fit_is_within size = by_fit size (λ (h : List HistoryEntry). IsWithin h size) (omega arith)
    (λ h e fit rest.
    let room : costs_of h + cost_of e + promised_octets (h ++ e ∷ []) ≤ capacity_of size = leb-true (costs_of h + cost_of e + promised_octets (h ++ e ∷ [])) (capacity_of size) fit.room in
    let costs : costs_of (h ++ e ∷ []) ≡ costs_of h + costs_of (e ∷ []) = costs_of-append h (e ∷ []) in
    omega (arith, room, costs))

placed : (h : List HistoryEntry) (n : NodeId) → has_place (observed h n) ≡ true → length (known_nodes h) ≤ most_nodes → length (with_node (known_nodes h) (Some n)) ≤ most_nodes
placed h n place few = by_test (is_known (known_nodes h) n) place
  where
    by_test : (b : Bool) → (b || nat_lt (length (known_nodes h)) most_nodes) ≡ true → length (if b then known_nodes h else known_nodes h ++ n ∷ []) ≤ most_nodes
    by_test true e = few
    by_test false e =
        let size : length (known_nodes h ++ n ∷ []) ≡ length (known_nodes h) + 1 = length-append (known_nodes h) (n ∷ []) in
        omega (arith, ltb-true (length (known_nodes h)) most_nodes e, size)

-- the place of the node that gets a state
place_of_new : (o : Observed) (x : ℕ) → is_new o x ≡ true → has_place o ≡ true
place_of_new o x new = first (has_place o) (is_fresh (o.state x)) (is_in_range x) (is_in_window o.top x) new
  where
    first : (a b c d : Bool) → (a && b && c && d) ≡ true → a ≡ true
    first true b c d e = refl
    first false b c d e = e

-- the state of a number that gets its first one
pub fresh_of_new : (o : Observed) (x : ℕ) → is_new o x ≡ true → o.state x ≡ Fresh
fresh_of_new o x new = is (o.state x) (second (has_place o) (is_fresh (o.state x)) (is_in_range x) (is_in_window o.top x) new)
  where
    second : (a b c d : Bool) → (a && b && c && d) ≡ true → b ≡ true
    second true true c d e = refl
    second true false c d e = e
    second false b c d e = absurd (false≢true e)

    is : (s : KeyState) → is_fresh s ≡ true → s ≡ Fresh
    is Fresh e = refl
    is Filed e = absurd (false≢true e)
    is Sealed e = absurd (false≢true e)
    is Held e = absurd (false≢true e)
    is Released e = absurd (false≢true e)
    is Cancelled e = absurd (false≢true e)

-- what a Seal names was fresh
pub sealed_was_fresh : (size : ℕ) (h : List HistoryEntry) (e : HistoryEntry) (node : NodeId) (number : ℕ) → AllFit size (h ++ e ∷ [])
    → e.act ≡ Seal node number → (observed h node).state number ≡ Fresh
sealed_was_fresh size h e node number all seal =
    let fit = (fit_parts size [] h e all).1 in
    fresh_of_new (observed h node) number (subst (λ (a : HistoryAct). is_act_fit (observed h) a ≡ true) seal fit.act)

known_by_act : (h : List HistoryEntry) (a : HistoryAct) → is_act_fit (observed h) a ≡ true → length (known_nodes h) ≤ most_nodes
    → length (with_node (known_nodes h) (named_node a)) ≤ most_nodes
known_by_act h Start fit few = few
known_by_act h (Path n port counter) fit few = placed h n fit few
known_by_act h (File n x packet) fit few =
    placed h n (place_of_new (observed h n) x (and_parts (is_new (observed h n) x) (is_packet_fit packet) fit).0) few
known_by_act h (Hold n x packet) fit few = placed h n (place_of_new (observed h n) x (first (is_new (observed h n) x) (is_packet_fit packet) (may_hold (observed h n)) fit)) few
  where
    first : (a b c : Bool) → (a && b && c) ≡ true → a ≡ true
    first true b c e = refl
    first false b c e = e
known_by_act h (Seal n x) fit few = placed h n (place_of_new (observed h n) x fit) few
known_by_act h (Release n xs) fit few = few
known_by_act h (Cancel n xs) fit few = few
known_by_act h Tick fit few = few
known_by_act h Close fit few = few

-- each node that an entry names is among the first 64 known
pub fit_knows_few : (size : ℕ) (h : List HistoryEntry) → AllFit size h → length (known_nodes h) ≤ most_nodes
fit_knows_few size = by_fit size (λ (h : List HistoryEntry). length (known_nodes h) ≤ most_nodes) (omega arith)
    (λ h e fit rest. subst (λ (ns : List NodeId). length ns ≤ most_nodes) (sym (known_nodes-append h e)) (known_by_act h e.act fit.act rest))
