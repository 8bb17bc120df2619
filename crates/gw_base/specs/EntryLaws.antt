-- What one more entry at the end changes of what a history says.
use Rattle.std.proofs.Common.{◌≡◌, ℕ, ◌+◌, ◌-◌, ◌==◌, ◌&&◌, ◌||◌, not, Bool, true, false, cond, if◌then◌else◌, List, [], ◌∷◌, ◌++◌, length, length-append, Option, Some, None, refl, ap, ◌∙◌, arith, slice_get, filter}
use Rattle.std.specs.List.{after_last, cons_option, filter_map, last_or, list_any}
use Rattle.std.specs.Option.{option_map}
use Rattle.std.proofs.lemmas.List.{append-nil}
use Rattle.std.proofs.lemmas.List.Elements.{filter-append, filter_map-append}
use Rattle.std.proofs.lemmas.List.Folds.{list_any-append}
use Rattle.std.proofs.lemmas.Bool.{eqb-true}
use Rattle.gw_base.specs.declared.address.NodeId.{NodeId}
use Rattle.gw_base.specs.declared.history.HistoryAct.{HistoryAct}
use Rattle.gw_base.specs.declared.history.HistoryAct.TheVariants.{Start, Path, File, Hold, Seal, Release, Cancel, Tick, Close}
use Rattle.gw_base.specs.declared.history.HistoryEntry.{HistoryEntry}
use Rattle.gw_base.specs.declared.history.PacketKey.{PacketKey}
use Rattle.gw_base.specs.declared.key_state.KeyState.TheVariants.{Fresh}
use Rattle.gw_base.specs.declared.history.Opening.{Opening}
use Rattle.gw_base.specs.History.{begins_epoch, closes, due_after, epoch_entries, epoch_of, files, given_state, is_close_due, last_moment, last_naming, names, number_of, present_entries, present_state, state_by, state_of, top_after, top_of}
use Rattle.gw_base.specs.Known.{known_nodes, named_node, same_node, with_node}
use Rattle.gw_base.specs.ListLaws.{IsSameness, after_last-push, count-push, greatest-push, last_or-append, once-push, part-last, part-push}
use Rattle.gw_base.specs.Lists.{greatest, once, raised}
use Rattle.gw_base.specs.Starts.{is_start, opening_after, opening_by, opening_of, openings_of, start_count}
use Rattle.gw_base.specs.TickDue.{last_tick, tick_after, ticks}
use Rattle.gw_base.specs.View.{present_after, state_after}

-- ---- counts

pub epoch_of-append : (node : ℕ) (h : List HistoryEntry) (e : HistoryEntry) → epoch_of node (h ++ e ∷ []) ≡ epoch_of node h + (if begins_epoch node e.act then 1 else 0)
epoch_of-append node h e = count-push (λ (d : HistoryEntry). begins_epoch node d.act) h e

pub start_count-append : (h : List HistoryEntry) (e : HistoryEntry) → start_count (h ++ e ∷ []) ≡ start_count h + (if is_start e.act then 1 else 0)
start_count-append h e = count-push (λ (d : HistoryEntry). is_start d.act) h e

-- ---- the last moment

get_last : (h : List HistoryEntry) (e : HistoryEntry) → slice_get (h ++ e ∷ []) (length h) ≡ Some e
get_last [] e = refl
get_last (d ∷ h) e = get_last h e

pub last_moment-append : (h : List HistoryEntry) (e : HistoryEntry) → last_moment (h ++ e ∷ []) ≡ e.moment
last_moment-append h e =
    let at : length (h ++ e ∷ []) - 1 ≡ length h = omega (arith, length-append h (e ∷ [])) in
    rw (at, get_last h e) refl

-- ---- known nodes

is_sameness : IsSameness same_node
is_sameness = record {
  first = λ m n e z. let same : m.0 ≡ n.0 = eqb-true m.0 n.0 e in ap (λ (k : ℕ). k == z.0) same;
  second = λ m n e z. let same : m.0 ≡ n.0 = eqb-true m.0 n.0 e in ap (λ (k : ℕ). z.0 == k) same;
}

pub known_nodes-append : (h : List HistoryEntry) (e : HistoryEntry) → known_nodes (h ++ e ∷ []) ≡ with_node (known_nodes h) (named_node e.act)
known_nodes-append h e = ap (λ (ns : List NodeId). once same_node ns) (filter_map-append (λ (d : HistoryEntry). named_node d.act) h (e ∷ [])) ∙ by_name (named_node e.act)
  where
    named : List NodeId
    named = filter_map (λ (d : HistoryEntry). named_node d.act) h

    by_name : (o : Option NodeId) → once same_node (named ++ cons_option o []) ≡ with_node (once same_node named) o
    by_name None = ap (λ (ns : List NodeId). once same_node ns) (append-nil named)
    by_name (Some n) = once-push same_node is_sameness named n

-- ---- the opening of an epoch

pub opening_of-append : (node : ℕ) (h : List HistoryEntry) (e : HistoryEntry) → opening_of node (h ++ e ∷ []) ≡ opening_after node (opening_of node h) e.act
opening_of-append node h e =
    ap (λ (os : List Opening). last_or None os) (filter_map-append (λ (d : HistoryEntry). opening_by node d.act) h (e ∷ []))
    ∙ last_or-append None (openings_of node h) (cons_option (opening_by node e.act) []) ∙ by_act e.act
  where
    by_act : (act : HistoryAct) → last_or (opening_of node h) (cons_option (opening_by node act) []) ≡ opening_after node (opening_of node h) act
    by_act (Path n port counter) = by_test (n.0 == node)
      where
        by_test : (b : Bool) → last_or (opening_of node h) (cons_option (if b then Some (record { port = port; counter = counter }) else None) []) ≡ (if b then Some (record { port = port; counter = counter }) else opening_of node h)
        by_test true = refl
        by_test false = refl
    by_act Start = refl
    by_act (File n x packet) = refl
    by_act (Hold n x packet) = refl
    by_act (Seal n x) = refl
    by_act (Release n xs) = refl
    by_act (Cancel n xs) = refl
    by_act Tick = refl
    by_act Close = refl

-- ---- the greatest number

pub top_of-append : (node : ℕ) (h : List HistoryEntry) (e : HistoryEntry) → top_of node (h ++ e ∷ []) ≡ top_after node (top_of node h) e.act
top_of-append node h e = ap (λ (es : List HistoryEntry). greatest (numbers es)) (after_last-push (λ (d : HistoryEntry). begins_epoch node d.act) h e) ∙ ap greatest (by_test (begins_epoch node e.act)) ∙ by_act e.act
  where
    numbers : List HistoryEntry → List ℕ
    numbers es = filter_map (λ (d : HistoryEntry). number_of node d.act) es

    before : List ℕ
    before = numbers (present_entries node h)

    by_test : (b : Bool) → numbers (if b then [] else present_entries node h ++ e ∷ []) ≡ (if b then [] else before ++ cons_option (number_of node e.act) [])
    by_test true = refl
    by_test false = filter_map-append (λ (d : HistoryEntry). number_of node d.act) (present_entries node h) (e ∷ [])

    unchanged : greatest (before ++ []) ≡ greatest before
    unchanged = ap greatest (append-nil before)

    by_number : (b : Bool) (x : ℕ) → greatest (before ++ cons_option (if b then Some x else None) []) ≡ (if b then raised (greatest before) x else greatest before)
    by_number true x = greatest-push before x
    by_number false x = unchanged

    by_path : (b : Bool) → greatest (if b then [] else before ++ []) ≡ (if b then None else greatest before)
    by_path true = refl
    by_path false = unchanged

    by_act : (act : HistoryAct) → greatest (if begins_epoch node act then [] else before ++ cons_option (number_of node act) []) ≡ top_after node (greatest before) act
    by_act (Path n port counter) = by_path (n.0 == node)
    by_act (File n x packet) = by_number (n.0 == node) x
    by_act (Hold n x packet) = by_number (n.0 == node) x
    by_act (Seal n x) = by_number (n.0 == node) x
    by_act Start = unchanged
    by_act (Release n xs) = unchanged
    by_act (Cancel n xs) = unchanged
    by_act Tick = unchanged
    by_act Close = unchanged

-- ---- closing

or_true : (b : Bool) → (b || true) ≡ true
or_true true = refl
or_true false = refl

or_false : (b : Bool) → (b || false) ≡ b
or_false true = refl
or_false false = refl

pub is_close_due-append : (h : List HistoryEntry) (e : HistoryEntry) → is_close_due (h ++ e ∷ []) ≡ due_after (is_close_due h) e.act
is_close_due-append h e = ap due (after_last-push (λ (d : HistoryEntry). closes d.act) h e) ∙ by_test (closes e.act) ∙ by_act e.act
  where
    due : List HistoryEntry → Bool
    due es = list_any (λ (d : HistoryEntry). files d.act) es

    by_test : (b : Bool) → due (if b then [] else after_last (λ (d : HistoryEntry). closes d.act) h ++ e ∷ []) ≡ (if b then false else is_close_due h || (files e.act || false))
    by_test true = refl
    by_test false = list_any-append (λ (d : HistoryEntry). files d.act) (after_last (λ (d : HistoryEntry). closes d.act) h) (e ∷ [])

    by_act : (act : HistoryAct) → (if closes act then false else is_close_due h || (files act || false)) ≡ due_after (is_close_due h) act
    by_act (File n x packet) = or_true (is_close_due h)
    by_act (Release n xs) = or_true (is_close_due h)
    by_act Close = refl
    by_act Start = or_false (is_close_due h)
    by_act (Path n port counter) = or_false (is_close_due h)
    by_act (Hold n x packet) = or_false (is_close_due h)
    by_act (Seal n x) = or_false (is_close_due h)
    by_act (Cancel n xs) = or_false (is_close_due h)
    by_act Tick = or_false (is_close_due h)

pub last_tick-append : (h : List HistoryEntry) (e : HistoryEntry) → last_tick (h ++ e ∷ []) ≡ tick_after (last_tick h) e.act e.moment
last_tick-append h e = ap (λ (es : List HistoryEntry). moment_in (ticking es)) (after_last-push (λ (d : HistoryEntry). closes d.act) h e) ∙ ap moment_in (by_test (closes e.act)) ∙ by_act e.act
  where
    ticking : List HistoryEntry → List HistoryEntry
    ticking es = filter (λ (d : HistoryEntry). ticks d.act) es

    moment_in : List HistoryEntry → Option ℕ
    moment_in es = option_map (λ (d : HistoryEntry). d.moment) (last_or None es)

    before : List HistoryEntry
    before = ticking (after_last (λ (d : HistoryEntry). closes d.act) h)

    by_test : (b : Bool) → ticking (if b then [] else after_last (λ (d : HistoryEntry). closes d.act) h ++ e ∷ []) ≡ (if b then [] else before ++ cond (ticks e.act) (e ∷ []) [])
    by_test true = refl
    by_test false = filter-append (λ (d : HistoryEntry). ticks d.act) (after_last (λ (d : HistoryEntry). closes d.act) h) (e ∷ [])

    unchanged : moment_in (before ++ []) ≡ moment_in before
    unchanged = ap moment_in (append-nil before)

    by_act : (act : HistoryAct) → moment_in (if closes act then [] else before ++ cond (ticks act) (e ∷ []) []) ≡ tick_after (moment_in before) act e.moment
    by_act Tick = ap (λ (o : Option HistoryEntry). option_map (λ (d : HistoryEntry). d.moment) o) (last_or-append None before (e ∷ []))
    by_act Close = refl
    by_act Start = unchanged
    by_act (Path n port counter) = unchanged
    by_act (File n x packet) = unchanged
    by_act (Hold n x packet) = unchanged
    by_act (Seal n x) = unchanged
    by_act (Release n xs) = unchanged
    by_act (Cancel n xs) = unchanged

-- ---- key states

-- a Path names no number
pub begins_names_none : (act : HistoryAct) (node number : ℕ) → begins_epoch node act ≡ true → names node number act ≡ false
begins_names_none Start node number e = refl
begins_names_none (Path n port counter) node number e = refl
begins_names_none (File n x packet) node number e = absurd cc
begins_names_none (Hold n x packet) node number e = absurd cc
begins_names_none (Seal n x) node number e = absurd cc
begins_names_none (Release n xs) node number e = absurd cc
begins_names_none (Cancel n xs) node number e = absurd cc
begins_names_none Tick node number e = refl
begins_names_none Close node number e = refl

-- the last entry that names a number, with one more entry
pub last_naming-append : (node number : ℕ) (es : List HistoryEntry) (e : HistoryEntry) → last_naming node number (es ++ e ∷ []) ≡ (if names node number e.act then Some e else last_naming node number es)
last_naming-append node number es e = ap (λ (ns : List HistoryEntry). last_or None ns) (filter-append named es (e ∷ [])) ∙ last_or-append None (filter named es) (filter named (e ∷ [])) ∙ by_test (names node number e.act)
  where
    named : HistoryEntry → Bool
    named d = names node number d.act

    by_test : (b : Bool) → last_or (last_or None (filter named es)) (cond b (e ∷ []) []) ≡ (if b then Some e else last_or None (filter named es))
    by_test true = refl
    by_test false = refl

-- what a choice of entries gives
state_by_if : (b : Bool) (e : HistoryEntry) (o : Option HistoryEntry) → state_by (if b then Some e else o) ≡ (if b then given_state e.act else state_by o)
state_by_if true e o = refl
state_by_if false e o = refl

-- the last entry of a key's epoch that names it
pub key_naming-append : (key : PacketKey) (h : List HistoryEntry) (e : HistoryEntry)
    → last_naming key.node.0 key.number (epoch_entries key.node.0 key.epoch (h ++ e ∷ []))
    ≡ (if (epoch_of key.node.0 h == key.epoch) && names key.node.0 key.number e.act then Some e else last_naming key.node.0 key.number (epoch_entries key.node.0 key.epoch h))
key_naming-append key h e =
    ap (λ (es : List HistoryEntry). last_naming key.node.0 key.number es) (part-push (λ (d : HistoryEntry). begins_epoch key.node.0 d.act) key.epoch h e)
    ∙ by_tests (epoch_of key.node.0 h == key.epoch) (begins_epoch key.node.0 e.act) refl
  where
    before : List HistoryEntry
    before = epoch_entries key.node.0 key.epoch h

    unchanged : last_naming key.node.0 key.number (before ++ []) ≡ last_naming key.node.0 key.number before
    unchanged = ap (λ (es : List HistoryEntry). last_naming key.node.0 key.number es) (append-nil before)

    by_tests : (here begins : Bool) → begins_epoch key.node.0 e.act ≡ begins → last_naming key.node.0 key.number (before ++ (if here && not begins then e ∷ [] else []))
        ≡ (if here && names key.node.0 key.number e.act then Some e else last_naming key.node.0 key.number before)
    by_tests true true is = rw (begins_names_none e.act key.node.0 key.number is) unchanged
    by_tests true false is = last_naming-append key.node.0 key.number before e
    by_tests false begins is = unchanged

pub state_of-append : (key : PacketKey) (h : List HistoryEntry) (e : HistoryEntry) → state_of key (h ++ e ∷ []) ≡ state_after key (epoch_of key.node.0 h) (state_of key h) e.act
state_of-append key h e =
    ap (λ (o : Option HistoryEntry). state_by o) (key_naming-append key h e)
    ∙ state_by_if ((epoch_of key.node.0 h == key.epoch) && names key.node.0 key.number e.act) e (last_naming key.node.0 key.number (epoch_entries key.node.0 key.epoch h))

pub present_state-append : (node number : ℕ) (h : List HistoryEntry) (e : HistoryEntry) → present_state node number (h ++ e ∷ []) ≡ present_after node number (present_state node number h) e.act
present_state-append node number h e =
    ap (λ (es : List HistoryEntry). state_by (last_naming node number es)) (after_last-push (λ (d : HistoryEntry). begins_epoch node d.act) h e) ∙ by_test (begins_epoch node e.act)
  where
    by_test : (b : Bool) → state_by (last_naming node number (if b then [] else present_entries node h ++ e ∷ [])) ≡ (if b then Fresh else (if names node number e.act then given_state e.act else present_state node number h))
    by_test true = refl
    by_test false =
        ap (λ (o : Option HistoryEntry). state_by o) (last_naming-append node number (present_entries node h) e)
        ∙ state_by_if (names node number e.act) e (last_naming node number (present_entries node h))

-- the entries of the present epoch are those of the epoch with its number
pub present_entries_are : (node : ℕ) (h : List HistoryEntry) → epoch_entries node (epoch_of node h) h ≡ present_entries node h
present_entries_are node h = part-last (λ (d : HistoryEntry). begins_epoch node d.act) h

pub present_state_is : (node : NodeId) (number : ℕ) (h : List HistoryEntry) → state_of (record { node = node; epoch = epoch_of node.0 h; number = number }) h ≡ present_state node.0 number h
present_state_is node number h = ap (λ (es : List HistoryEntry). state_by (last_naming node.0 number es)) (present_entries_are node.0 h)
