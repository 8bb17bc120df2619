-- There is always room to release or to cancel what is held, and to close files.
use Rattle.std.proofs.Common.{◌≡◌, ◌≢◌, ℕ, ◌==◌, not, All, Bool, true, false, if◌then◌else◌, List, [], ◌∷◌, Some, None, refl, ap, ◌∙◌, map}
use Rattle.std.proofs.lemmas.Bool.{and_parts, false≢true, not-true}
use Rattle.std.proofs.lemmas.List.Elements.{All-cons, All-nil}
use Rattle.std.specs.List.{AllByRecursion, IsDistinct, list_all}
use Rattle.entry_codec.specs.Room.{IsWithin, has_room}
use Rattle.gtpp_message.specs.Message.{Cancel, Release}
use Rattle.gw_base.specs.EntryLaws.{present_state_is}
use Rattle.gw_base.specs.HeldKeys.{held_keys, holds}
use Rattle.gw_base.specs.HeldKeys as keys
use Rattle.gw_base.specs.History.{epoch_of, moment_after, present_state, state_of}
use Rattle.gw_base.specs.Nearest.{nearest}
use Rattle.gw_base.specs.Observed.{Observed, observed}
use Rattle.gw_base.specs.declared.address.Addr.{Addr}
use Rattle.gw_base.specs.declared.address.NodeId.{NodeId}
use Rattle.gw_base.specs.declared.cause.TheConstants.{ACCEPTED, NO_RESOURCES}
use Rattle.gw_base.specs.declared.history.Caller.{Caller}
use Rattle.gw_base.specs.declared.history.HistoryAct.{HistoryAct}
use Rattle.gw_base.specs.declared.history.HistoryAct.TheVariants as act
use Rattle.gw_base.specs.declared.history.HistoryEntry.{HistoryEntry}
use Rattle.transfer_cmd.specs.Lists.{is_held, verdict_cause, verdict_of}
use Rattle.transfer_cmd.specs.declared.verdict.Verdict.{Verdict}
use Rattle.transfer_cmd.specs.declared.verdict.Verdict.TheVariants.{Wrong, Before, Change}
use Rattle.gateway_answer.specs.Answer.{listed, may_record, node_of, responding, tabled}
use Rattle.gateway_answer.specs.Answered.{answer_to, no_caller, room_for}
use Rattle.gateway_answer.specs.Asked.{changes, changing, held_ones}
use Rattle.gateway_answer.specs.Fit.{are_distinct, is_list_fit}
use Rattle.gateway_answer.specs.ListFitLaws.{change_is_held, held_ones_fit}
use Rattle.gateway_answer.specs.Preparing.{Request}
use Rattle.gateway_answer.specs.Recording.{is_without_resources}

-- what the laws of held keys and of room say
abbrev pub HeldKeysAreHeld : Type 0
HeldKeysAreHeld = (node : NodeId) (number : ℕ) (h : List HistoryEntry)
    → holds node.0 number (held_keys h) ≡ keys.is_held (state_of (record { node = node; epoch = epoch_of node.0 h; number = number }) h)

abbrev pub HeldNumbersHaveRoom : (NodeId → List ℕ → HistoryAct) → Type 0
HeldNumbersHaveRoom change = (h : List HistoryEntry) (moment : ℕ) (caller : Caller) (node : NodeId) (numbers : List ℕ) (size : ℕ) → IsWithin h size
    → numbers ≢ [] → IsDistinct (λ x y. x == y) numbers → All (λ x. holds node.0 x (held_keys h) ≡ true) numbers
    → has_room h (record { moment = moment; caller = caller; act = change node numbers }) size ≡ true

-- ---- a fit list in the words of those laws

apart_from : (x : ℕ) (xs : List ℕ) → list_all (λ y. not (x == y)) xs ≡ true → AllByRecursion (λ y. (x == y) ≡ false) xs
apart_from x [] all = tt
apart_from x (y ∷ xs) all = let parts = and_parts (not (x == y)) (list_all (λ z. not (x == z)) xs) all in (not-true (x == y) parts.0, apart_from x xs parts.1)

distinct_is : (xs : List ℕ) → are_distinct xs ≡ true → IsDistinct (λ x y. x == y) xs
unfolding IsDistinct
distinct_is [] all = tt
distinct_is (x ∷ xs) all =
    let parts = and_parts (list_all (λ y. not (x == y)) xs) (are_distinct xs) all in (apart_from x xs parts.0, distinct_is xs parts.1)

held_is : HeldKeysAreHeld → (h : List HistoryEntry) (node : NodeId) (x : ℕ) → is_held (present_state node.0 x h) ≡ true → holds node.0 x (held_keys h) ≡ true
held_is law h node x held = law node x h ∙ ap keys.is_held (present_state_is node x h) ∙ held

all_held : HeldKeysAreHeld → (h : List HistoryEntry) (node : NodeId) (xs : List ℕ) → list_all (λ x. is_held (present_state node.0 x h)) xs ≡ true
    → All (λ x. holds node.0 x (held_keys h) ≡ true) xs
all_held law h node [] all = All-nil (λ (x : ℕ). holds node.0 x (held_keys h) ≡ true)
all_held law h node (x ∷ xs) all =
    let parts = and_parts (is_held (present_state node.0 x h)) (list_all (λ y. is_held (present_state node.0 y h)) xs) all in
    All-cons (λ (y : ℕ). holds node.0 y (held_keys h) ≡ true) x xs (held_is law h node x parts.0) (all_held law h node xs parts.1)

abbrev has_none : List ℕ → Bool
has_none [] = true
has_none (x ∷ xs) = false

fit_list_has_room : (change : NodeId → List ℕ → HistoryAct) → HeldKeysAreHeld → HeldNumbersHaveRoom change
    → (h : List HistoryEntry) (size : ℕ) (node : NodeId) (xs : List ℕ) → IsWithin h size → is_list_fit (observed h node) xs ≡ true → room_for h size (change node xs) ≡ true
fit_list_has_room change law room h size node [] within fit = absurd (false≢true fit)
fit_list_has_room change law room h size node (x ∷ xs) within fit =
    let parts = and_parts (list_all (λ y. is_held (present_state node.0 y h)) (x ∷ xs)) (are_distinct (x ∷ xs)) fit in
    room h (moment_after h 0) no_caller node (x ∷ xs) size within (λ e. false≢true (ap has_none e)) (distinct_is (x ∷ xs) parts.1) (all_held law h node (x ∷ xs) parts.0)

-- ---- the answer to a list

by_verdict : (o : Observed) (room : HistoryAct → Bool) (number : ℕ) (node : NodeId) (release : Bool) (held : List ℕ) (verdict : Verdict)
    → (verdict ≡ Change → room (changing release node held) ≡ true)
    → is_without_resources (tabled (may_record o room) number (verdict_cause verdict) (changes verdict release node held)) ≡ false
by_verdict o room number node release held Wrong has = refl
by_verdict o room number node release held Before has = refl
by_verdict o room number node true held Change has = by_test (room (act.Release node held)) (has refl)
  where
    by_test : (b : Bool) → b ≡ true → is_without_resources (if b then responding number ACCEPTED (Some (act.Release node held)) else responding number NO_RESOURCES None) ≡ false
    by_test true e = refl
    by_test false e = absurd (false≢true e)
by_verdict o room number node false held Change has = by_test (room (act.Cancel node held)) (has refl)
  where
    by_test : (b : Bool) → b ≡ true → is_without_resources (if b then responding number ACCEPTED (Some (act.Cancel node held)) else responding number NO_RESOURCES None) ≡ false
    by_test true e = refl
    by_test false e = absurd (false≢true e)

module _ (law : HeldKeysAreHeld) (release_room : HeldNumbersHaveRoom act.Release) (cancel_room : HeldNumbersHaveRoom act.Cancel) (h : List HistoryEntry) (size : ℕ) (within : IsWithin h size) where
  fit_list : (node : NodeId) (release : Bool) (xs : List ℕ) → is_list_fit (observed h node) xs ≡ true → room_for h size (changing release node xs) ≡ true
  fit_list node true xs fit = fit_list_has_room act.Release law release_room h size node xs within fit
  fit_list node false xs fit = fit_list_has_room act.Cancel law cancel_room h size node xs within fit

  by_list : (node : NodeId) (number : ℕ) (release : Bool) (numbers : List ℕ)
      → is_without_resources (listed (observed h node) (may_record (observed h node) (room_for h size)) node number release numbers) ≡ false
  by_list node number release numbers =
      by_verdict (observed h node) (room_for h size) number node release (held_ones (observed h node) meant) (verdict_of release (map (observed h node).state meant))
      (λ e. fit_list node release (held_ones (observed h node) meant) (held_ones_fit (observed h node) meant (change_is_held release (map (observed h node).state meant) e)))
    where
      meant : List ℕ
      meant = map (nearest (observed h node).top) numbers

  -- a release is never refused for want of resources, and neither is a cancel
  pub release_has_resources : (from : Addr) (number : ℕ) (numbers : List ℕ) → is_without_resources (answer_to h from (Request number (Release numbers)) size) ≡ false
  release_has_resources from number numbers = by_list (node_of from) number true numbers

  pub cancel_has_resources : (from : Addr) (number : ℕ) (numbers : List ℕ) → is_without_resources (answer_to h from (Request number (Cancel numbers)) size) ≡ false
  cancel_has_resources from number numbers = by_list (node_of from) number false numbers
