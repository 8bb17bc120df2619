-- The held keys are as many as the held copies, and are the keys whose state is Held.
use Rattle.std.proofs.Common.{◌≡◌, ℕ, ◌==◌, ◌&&◌, ◌||◌, not, Bool, true, false, cond, if◌then◌else◌, List, [], ◌∷◌, ◌++◌, length, filter, refl, sym, ap, ◌∙◌, arith}
use Rattle.std.proofs.Math.Bool.{and-false, and-true, or-false}
use Rattle.std.proofs.lemmas.Bool.{and_parts, eqb-true}
use Rattle.std.proofs.lemmas.List.Folds.{list_any-append}
use Rattle.gw_base.specs.declared.address.NodeId.{NodeId}
use Rattle.gw_base.specs.declared.held.HeldKey.{HeldKey}
use Rattle.gw_base.specs.declared.history.HistoryAct.{HistoryAct}
use Rattle.gw_base.specs.declared.history.HistoryAct.TheVariants.{File, Hold, Seal, Release, Cancel}
use Rattle.gw_base.specs.declared.history.HistoryEntry.{HistoryEntry}
use Rattle.gw_base.specs.declared.key_state.KeyState.TheVariants.{Fresh}
use Rattle.gw_base.specs.declared.scan.Copies.{Copies}
use Rattle.gw_base.specs.declared.scan.HoldFate.{HoldFate}
use Rattle.gw_base.specs.declared.scan.HoldFate.TheVariants as fate
use Rattle.gw_base.specs.EntryLaws.{begins_names_none, present_state-append, present_state_is}
use Rattle.gw_base.specs.HeldKeys.{held_by, held_if, held_keys, holds, is_held, is_key}
use Rattle.gw_base.specs.HeldLaws.{held_keys-append}
use Rattle.gw_base.specs.History.{begins_epoch, copies_of, epoch_of, fate_of, given_state, names, present_state, state_of, with_entry, with_fate}
use Rattle.gw_base.specs.ListLaws.{by_last}
use Rattle.gw_base.specs.View.{stays_held}

-- ---- as many

more_by_fate : (f : HoldFate) (n : NodeId) (x : ℕ) (keys : List HeldKey) (copies : Copies) → length keys ≡ copies.held → length (held_if f n x ++ keys) ≡ (with_fate f copies).held
more_by_fate fate.Held n x keys copies h = omega arith
more_by_fate _ n x keys copies h = h

more_by_entry : (act : HistoryAct) (later : List HistoryEntry) (keys : List HeldKey) (copies : Copies) → length keys ≡ copies.held → length (held_by act later ++ keys) ≡ (with_entry act later copies).held
more_by_entry (Hold n x packet) later keys copies h = more_by_fate (fate_of n.0 x later) n x keys copies h
more_by_entry _ later keys copies h = h

pub length-held_keys : (h : List HistoryEntry) → length (held_keys h) ≡ (copies_of h).held
length-held_keys [] = refl
length-held_keys (e ∷ h) = more_by_entry e.act h (held_keys h) (copies_of h) (length-held_keys h)

-- ---- the same as the state says

-- whether an entry holds a number, where nothing follows it
held_alone : (act : HistoryAct) (node number : ℕ) → holds node number (held_by act []) ≡ (names node number act && is_held (given_state act))
held_alone (Hold n x packet) node number = or-false ((n.0 == node) && (x == number)) ∙ sym (and-true ((n.0 == node) && (x == number)))
held_alone (File n x packet) node number = sym (and-false (names node number (File n x packet)))
held_alone (Seal n x) node number = sym (and-false (names node number (Seal n x)))
held_alone (Release n xs) node number = sym (and-false (names node number (Release n xs)))
held_alone (Cancel n xs) node number = sym (and-false (names node number (Cancel n xs)))
held_alone _ node number = refl

-- whether a number is among the keys that stay held
held_staying : (act : HistoryAct) (node number : ℕ) (keys : List HeldKey) → holds node number (filter (λ key. stays_held act key) keys) ≡ ((not (begins_epoch node act) && not (names node number act)) && holds node number keys)
held_staying act node number [] = sym (and-false (not (begins_epoch node act) && not (names node number act)))
held_staying act node number (key ∷ keys) = choose (stays_held act key) (is_key node number key) same refl (held_staying act node number keys)
  where
    stay : Bool
    stay = not (begins_epoch node act) && not (names node number act)

    kept : List HeldKey
    kept = filter (λ key. stays_held act key) keys

    same : is_key node number key ≡ true → stay ≡ stays_held act key
    same is =
        let both = and_parts (key.node.0 == node) (key.number == number) is in
        let n : node ≡ key.node.0 = sym (eqb-true key.node.0 node both.0) in
        let x : number ≡ key.number = sym (eqb-true key.number number both.1) in
        λ i. not (begins_epoch (n i) act) && not (names (n i) (x i) act)

    choose : (s is : Bool) → (is ≡ true → stay ≡ s) → is_key node number key ≡ is → holds node number kept ≡ (stay && holds node number keys)
        → holds node number (cond s (key ∷ kept) kept) ≡ (stay && (is || holds node number keys))
    choose true true e k rest = rw (k, e refl) refl
    choose false true e k rest = rest ∙ rw (e refl) refl
    choose true false e k rest = rw k rest
    choose false false e k rest = rest

-- held by the state, after one more entry
pub state_is_held : (node : NodeId) (number : ℕ) (h : List HistoryEntry) → holds node.0 number (held_keys h) ≡ is_held (state_of (record { node = node; epoch = epoch_of node.0 h; number = number }) h)
state_is_held node number h = by_last (λ (k : List HistoryEntry). holds node.0 number (held_keys k) ≡ is_held (present_state node.0 number k)) refl more h ∙ ap is_held (sym (present_state_is node number h))
  where
    more : (k : List HistoryEntry) (e : HistoryEntry) → holds node.0 number (held_keys k) ≡ is_held (present_state node.0 number k) → holds node.0 number (held_keys (k ++ e ∷ [])) ≡ is_held (present_state node.0 number (k ++ e ∷ []))
    more k e rest =
        ap (λ (keys : List HeldKey). holds node.0 number keys) (held_keys-append k e)
        ∙ list_any-append (λ (key : HeldKey). is_key node.0 number key) (filter (λ key. stays_held e.act key) (held_keys k)) (held_by e.act [])
        ∙ (λ i. held_staying e.act node.0 number (held_keys k) i || held_alone e.act node.0 number i)
        ∙ by_tests (begins_epoch node.0 e.act) (names node.0 number e.act) (begins_names_none e.act node.0 number)
        ∙ ap is_held (sym (present_state-append node.0 number k e))
      where
        by_tests : (begins named : Bool) → (begins ≡ true → named ≡ false)
            → (((not begins && not named) && holds node.0 number (held_keys k)) || (named && is_held (given_state e.act)))
            ≡ is_held (if begins then Fresh else (if named then given_state e.act else present_state node.0 number k))
        by_tests true true none = absurd (let f = none refl in cc)
        by_tests true false none = refl
        by_tests false true none = refl
        by_tests false false none = or-false (holds node.0 number (held_keys k)) ∙ rest
