-- Which acts are fit is told by what a window tells; and where one is fit, it is so whatever its packet.
use Rattle.std.proofs.Common.{◌≡◌, ℕ, ◌&&◌, Bool, true, false, if◌then◌else◌, List, [], ◌∷◌, refl, sym, ap, ◌∙◌}
use Rattle.std.proofs.lemmas.Bool.{false≢true}
use Rattle.std.specs.List.{list_all}
use Rattle.gw_base.specs.Observed.{Observed}
use Rattle.gw_base.specs.declared.address.NodeId.{NodeId}
use Rattle.gw_base.specs.declared.history.HistoryAct.{HistoryAct}
use Rattle.gw_base.specs.declared.history.HistoryAct.TheVariants as act
use Rattle.gw_base.specs.declared.key_state.KeyState.{KeyState}
use Rattle.gw_base.specs.declared.key_state.KeyState.TheVariants.{Fresh}
use Rattle.transfer_cmd.specs.Lists.{is_held}
use Rattle.gateway_index.specs.FitActs.{any_packet, are_distinct, fits_with, is_fresh, is_in_window, is_list_fit, is_new}
use Rattle.gateway_index.specs.Limits.{has_place, is_in_range, may_hold}
use Rattle.gateway_index.specs.Windows.{if_held, narrowed}

held_still : (state : KeyState) → is_held (if_held state) ≡ is_held state
held_still Fresh = refl
held_still _ = refl

held_is : (o : Observed) (number : ℕ) → is_held ((narrowed o).state number) ≡ is_held (o.state number)
held_is o number = by_window (is_in_window o.top number)
  where
    by_window : (b : Bool) → is_held (if b then o.state number else if_held (o.state number)) ≡ is_held (o.state number)
    by_window true = refl
    by_window false = held_still (o.state number)

none : (a b c : Bool) → (a && b && c && false) ≡ false
none true true true = refl
none true true false = refl
none true false true = refl
none true false false = refl
none false true true = refl
none false true false = refl
none false false true = refl
none false false false = refl

new_is : (o : Observed) (x : ℕ) → is_new (narrowed o) x ≡ is_new o x
new_is o x = by_window (is_in_window o.top x)
  where
    by_window : (b : Bool) → (has_place o && is_fresh (if b then o.state x else if_held (o.state x)) && is_in_range x && b) ≡ (has_place o && is_fresh (o.state x) && is_in_range x && b)
    by_window true = refl
    by_window false = none (has_place o) (is_fresh (if_held (o.state x))) (is_in_range x) ∙ sym (none (has_place o) (is_fresh (o.state x)) (is_in_range x))

list_is : (o : Observed) (xs : List ℕ) → is_list_fit (narrowed o) xs ≡ is_list_fit o xs
list_is o [] = refl
list_is o (x ∷ xs) = ap (λ (test : ℕ → Bool). list_all test (x ∷ xs) && are_distinct (x ∷ xs)) (λ i y. held_is o y i)

module _ (ok : List ℕ → Bool) (of : NodeId → Observed) where
  -- of the numbers below the window it is enough to know whether they are held
  pub narrowed_fit : (a : HistoryAct) → fits_with ok (λ node. narrowed (of node)) a ≡ fits_with ok of a
  narrowed_fit (act.File n x packet) = ap (λ b. b && ok packet) (new_is (of n) x)
  narrowed_fit (act.Hold n x packet) = ap (λ b. b && ok packet && may_hold (of n)) (new_is (of n) x)
  narrowed_fit (act.Seal n x) = new_is (of n) x
  narrowed_fit (act.Release n xs) = list_is (of n) xs
  narrowed_fit (act.Cancel n xs) = list_is (of n) xs
  narrowed_fit _ = refl

  filed : (new packet : Bool) → (new && packet) ≡ true → (new && true) ≡ true
  filed true packet fit = refl
  filed false packet fit = fit

  held : (new packet may : Bool) → (new && packet && may) ≡ true → (new && true && may) ≡ true
  held true true may fit = fit
  held true false may fit = absurd (false≢true fit)
  held false packet may fit = fit

  -- an act that is fit is so whatever is asked of packets
  pub fits_with_any : (a : HistoryAct) → fits_with ok of a ≡ true → fits_with any_packet of a ≡ true
  fits_with_any (act.File n x packet) fit = filed (is_new (of n) x) (ok packet) fit
  fits_with_any (act.Hold n x packet) fit = held (is_new (of n) x) (ok packet) (may_hold (of n)) fit
  fits_with_any _ fit = fit
