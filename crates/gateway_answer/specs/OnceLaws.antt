-- In a fit history each record is filed at most once.
use Rattle.std.proofs.Common.{◌≡◌, ℕ, ◌+◌, ◌<◌, ◌≤◌, ◌==◌, ◌&&◌, ◌||◌, not, Bool, true, false, cond, if◌then◌else◌, List, [], ◌∷◌, ◌++◌, filter, Option, Some, None, refl, sym, ap, subst, ◌∙◌, arith}
use Rattle.std.proofs.lemmas.Bool.{and_parts, and_right, eqb-true, false≢true, ne_eqb}
use Rattle.std.proofs.lemmas.List.{append-nil}
use Rattle.std.proofs.lemmas.List.Sums.{sum_by-append, sum_by-cons}
use Rattle.std.specs.List.{list_all, list_any}
use Rattle.std.specs.Option.{option_map_or}
use Rattle.gtpp_message.specs.Packet.{PacketForm, packet_of}
use Rattle.gw_base.specs.EntryLaws.{present_state_is, state_of-append}
use Rattle.gw_base.specs.History.{epoch_entries, epoch_of, last_naming, present_state, state_by, state_of}
use Rattle.gw_base.specs.Lists.{once}
use Rattle.gw_base.specs.Observed.{observed}
use Rattle.gw_base.specs.View.{state_after}
use Rattle.gw_base.specs.declared.address.NodeId.{NodeId}
use Rattle.gw_base.specs.declared.history.HistoryAct.{HistoryAct}
use Rattle.gw_base.specs.declared.history.HistoryAct.TheVariants as act
use Rattle.gw_base.specs.declared.history.HistoryEntry.{HistoryEntry}
use Rattle.gw_base.specs.declared.history.PacketKey.{PacketKey}
use Rattle.gw_base.specs.declared.key_state.KeyState.{KeyState}
use Rattle.gw_base.specs.declared.key_state.KeyState.TheVariants.{Fresh, Filed, Sealed, Held, Released, Cancelled}
use Rattle.transfer_cmd.specs.Lists.{is_held}
use Rattle.gateway_answer.specs.Filed.{filed, filed_by, filed_by_act, filed_record, filed_under, held_packet, present_key, records_from, records_if, released_by, released_records}
use Rattle.gateway_answer.specs.FiledLaws.{along-append}
use Rattle.gateway_answer.specs.Fit.{are_distinct, is_act_fit, is_list_fit, is_new, is_packet_fit}
use Rattle.gateway_answer.specs.FitHistory.{AllFit}
use Rattle.gateway_answer.specs.FitHistoryLaws.{by_fit, fresh_of_new}
use Rattle.gateway_index.specs.Limits.{may_hold}
use Rattle.gateway_answer.specs.ListFitLaws.{distinct_once}
use Rattle.gateway_answer.specs.Once.{is_record_of, same_key, times_filed}
use Rattle.gateway_answer.specs.declared.filing.FiledRecord.{FiledRecord}

-- ---- words of this proof

-- one, where the test passes
abbrev one_if : Bool → ℕ
one_if b = cond b 1 0

none_if_false : (b : Bool) → b ≡ false → one_if b ≡ 0
none_if_false b e = ap one_if e

less_if_both : (a b : Bool) → one_if (a && b) ≤ one_if a
less_if_both true true = omega arith
less_if_both true false = omega arith
less_if_both false b = omega arith

-- how often a record may have been filed, by the state of its packet's key
abbrev filed_yet : KeyState → ℕ
filed_yet Fresh = 0
filed_yet Filed = 1
filed_yet Sealed = 0
filed_yet Held = 0
filed_yet Released = 1
filed_yet Cancelled = 0

most_once : (s : KeyState) → filed_yet s ≤ 1
most_once Fresh = omega arith
most_once Filed = omega arith
most_once Sealed = omega arith
most_once Held = omega arith
most_once Released = omega arith
most_once Cancelled = omega arith

none_if_held : (s : KeyState) → is_held s ≡ true → filed_yet s ≡ 0
none_if_held Fresh e = absurd (false≢true e)
none_if_held Filed e = absurd (false≢true e)
none_if_held Sealed e = absurd (false≢true e)
none_if_held Held e = refl
none_if_held Released e = absurd (false≢true e)
none_if_held Cancelled e = absurd (false≢true e)

first_of_three : (a b c : Bool) → (a && b && c) ≡ true → a ≡ true
first_of_three true b c e = refl
first_of_three false b c e = e

-- ---- numbers of a list

passes : (q : ℕ → Bool) (m : ℕ) (xs : List ℕ) → list_all q xs ≡ true → list_any (λ y. y == m) xs ≡ true → q m ≡ true
passes q m [] all any = absurd (false≢true any)
passes q m (x ∷ xs) all any = let parts = and_parts (q x) (list_all q xs) all in by_test (x == m) refl any parts.0 (passes q m xs parts.1)
  where
    by_test : (b : Bool) → (x == m) ≡ b → (b || list_any (λ y. y == m) xs) ≡ true → q x ≡ true → (list_any (λ y. y == m) xs ≡ true → q m ≡ true) → q m ≡ true
    by_test true e any here rest = subst (λ (n : ℕ). q n ≡ true) (eqb-true x m e) here
    by_test false e any here rest = rest any

pub not_among : (x m : ℕ) (xs : List ℕ) → list_all (λ y. not (x == y)) xs ≡ true → (x == m) ≡ true → list_any (λ y. y == m) xs ≡ false
not_among x m xs all is = by_test (list_any (λ y. y == m) xs) refl
  where
    by_test : (b : Bool) → list_any (λ y. y == m) xs ≡ b → b ≡ false
    by_test true e = let apart : not (x == m) ≡ true = passes (λ y. not (x == y)) m xs all e in absurd (false≢true (ap not (sym is) ∙ apart))
    by_test false e = refl

or_more : (b c d : Bool) → (c ≡ true → d ≡ true) → (b || c) ≡ true → (b || d) ≡ true
or_more true c d more e = refl
or_more false c d more e = more e

or_second : (b d : Bool) → d ≡ true → (b || d) ≡ true
or_second true d e = refl
or_second false d e = e

any_kept : (p q : ℕ → Bool) (xs : List ℕ) → list_any p (filter q xs) ≡ true → list_any p xs ≡ true
any_kept p q [] any = any
any_kept p q (x ∷ xs) any = by_test (q x) any (any_kept p q xs)
  where
    by_test : (keeps : Bool) → list_any p (cond keeps (x ∷ filter q xs) (filter q xs)) ≡ true → (list_any p (filter q xs) ≡ true → list_any p xs ≡ true) → (p x || list_any p xs) ≡ true
    by_test true any rest = or_more (p x) (list_any p (filter q xs)) (list_any p xs) rest any
    by_test false any rest = or_second (p x) (list_any p xs) (rest any)

pub any_once : (p : ℕ → Bool) (xs : List ℕ) → list_any p (once (λ x y. x == y) xs) ≡ true → list_any p xs ≡ true
any_once p [] any = any
any_once p (x ∷ xs) any =
    or_more (p x) (list_any p (filter (λ y. not (x == y)) (once (λ x y. x == y) xs))) (list_any p xs)
    (λ e. any_once p xs (any_kept p (λ y. not (x == y)) (once (λ x y. x == y) xs) e)) any

one_if_less : (here a b : Bool) → (a ≡ true → b ≡ true) → one_if (here && a) ≤ one_if (here && b)
one_if_less here true b more = ap_le here b (more refl)
  where
    ap_le : (here b : Bool) → b ≡ true → one_if (here && true) ≤ one_if (here && b)
    ap_le here true e = omega arith
    ap_le here false e = absurd (false≢true e)
one_if_less true false b more = omega arith
one_if_less false false b more = omega arith

-- ---- the records that are filed under a key

module _ (key : PacketKey) (index : ℕ) where
  abbrev times : List FiledRecord → ℕ
  times records = times_filed key index records

  times-cons : (r : FiledRecord) (rs : List FiledRecord) → times (r ∷ rs) ≡ one_if (is_record_of key index r) + times rs
  times-cons r rs = sum_by-cons (λ (x : FiledRecord). cond (is_record_of key index x) 1 0) r rs

  times-append : (rs more : List FiledRecord) → times (rs ++ more) ≡ times rs + times more
  times-append rs more = sum_by-append (λ (x : FiledRecord). cond (is_record_of key index x) 1 0) rs more

  none_behind : (k : PacketKey) (moment format version j : ℕ) (records : List (List ℕ)) → index < j → times (records_from k moment format version j records) ≡ 0
  none_behind k moment format version j [] lt = refl
  none_behind k moment format version j (r ∷ records) lt =
      let apart : (j == index) ≡ false = ne_eqb j index (λ e. absurd (omega (arith, lt, e))) in
      let head : one_if (same_key k key && (j == index)) ≡ 0 = none_if_false (same_key k key && (j == index)) (and_right (same_key k key) (j == index) apart) in
      let rest = none_behind k moment format version (j + 1) records (omega arith) in
      times-cons (filed_record k moment format version (j, r)) (records_from k moment format version (j + 1) records) ∙ omega (arith, head, rest)

  times_of_records : (k : PacketKey) (moment format version j : ℕ) (records : List (List ℕ)) → times (records_from k moment format version j records) ≤ one_if (same_key k key)
  times_of_records k moment format version j [] = omega arith
  times_of_records k moment format version j (r ∷ records) =
      let is = times-cons (filed_record k moment format version (j, r)) (records_from k moment format version (j + 1) records) in
      by_test (j == index) refl is (times_of_records k moment format version (j + 1) records)
    where
      by_test : (b : Bool) → (j == index) ≡ b
          → times (records_from k moment format version j (r ∷ records)) ≡ one_if (same_key k key && (j == index)) + times (records_from k moment format version (j + 1) records)
          → times (records_from k moment format version (j + 1) records) ≤ one_if (same_key k key)
          → times (records_from k moment format version j (r ∷ records)) ≤ one_if (same_key k key)
      by_test true e is rest =
          let past : index < j + 1 = omega (arith, eqb-true j index e) in
          omega (arith, is, none_behind k moment format version (j + 1) records past, less_if_both (same_key k key) (j == index))
      by_test false e is rest =
          omega (arith, is, rest, none_if_false (same_key k key && (j == index)) (and_right (same_key k key) (j == index) e))

  times_of_form : (k : PacketKey) (moment : ℕ) (form : Option PacketForm) → times (records_if k moment form) ≤ one_if (same_key k key)
  times_of_form k moment None = omega arith
  times_of_form k moment (Some form) = times_of_records k moment form.format form.version 0 form.records

  times_of_packet : (k : PacketKey) (moment : ℕ) (packet : List ℕ) → times (filed_under k moment packet) ≤ one_if (same_key k key)
  times_of_packet k moment packet = times_of_form k moment (packet_of packet)

  times_released : (h : List HistoryEntry) (moment : ℕ) (n : NodeId) (x : ℕ) → times (released_records h moment n x) ≤ one_if (same_key (present_key h n x) key)
  times_released h moment n x = by_held (held_packet n.0 x h)
    where
      by_held : (packet : Option (List ℕ)) → times (option_map_or (filed_under (present_key h n x) moment) packet []) ≤ one_if (same_key (present_key h n x) key)
      by_held None = omega arith
      by_held (Some packet) = times_of_packet (present_key h n x) moment packet

  -- the node's present epoch is the key's
  abbrev here : List HistoryEntry → NodeId → Bool
  here h n = (n.0 == key.node.0) && (epoch_of n.0 h == key.epoch)

  times_of_list : (h : List HistoryEntry) (moment : ℕ) (n : NodeId) (xs : List ℕ) → are_distinct xs ≡ true
      → times (released_by h moment n xs) ≤ one_if (here h n && list_any (λ y. y == key.number) xs)
  times_of_list h moment n [] apart = omega arith
  times_of_list h moment n (x ∷ xs) apart =
      let parts = and_parts (list_all (λ y. not (x == y)) xs) (are_distinct xs) apart in
      let is = times-append (released_records h moment n x) (released_by h moment n xs) in
      let one = times_released h moment n x in
      let rest = times_of_list h moment n xs parts.1 in
      let both = by_tests (here h n) (x == key.number) (list_any (λ y. y == key.number) xs) (not_among x key.number xs parts.0) in
      omega (arith, is, one, rest, both)
    where
      by_tests : (here b any : Bool) → (b ≡ true → any ≡ false) → one_if (here && b) + one_if (here && any) ≤ one_if (here && (b || any))
      by_tests true true true apart = absurd (false≢true (sym (apart refl)))
      by_tests true true false apart = omega arith
      by_tests true false true apart = omega arith
      by_tests true false false apart = omega arith
      by_tests false b any apart = omega arith

  -- ---- the key's state

  -- whether an entry of this node that names this number or not names the key
  abbrev named : List HistoryEntry → NodeId → Bool → Bool
  named h n b = (epoch_of key.node.0 h == key.epoch) && ((n.0 == key.node.0) && b)

  here_is_named : (h : List HistoryEntry) (n : NodeId) (b : Bool) → (here h n && b) ≡ named h n b
  here_is_named h n b = by_test (n.0 == key.node.0) refl
    where
      by_test : (same : Bool) → (n.0 == key.node.0) ≡ same → ((same && (epoch_of n.0 h == key.epoch)) && b) ≡ ((epoch_of key.node.0 h == key.epoch) && (same && b))
      by_test true e = ap (λ (m : ℕ). (epoch_of m h == key.epoch) && b) (eqb-true n.0 key.node.0 e)
      by_test false e = sym (and_right (epoch_of key.node.0 h == key.epoch) false refl)

  -- the state of a number that names the key
  state_here : (h : List HistoryEntry) (n : NodeId) (b : Bool) → named h n b ≡ true → (b ≡ true) × (state_of key h ≡ present_state n.0 key.number h)
  state_here h n b e =
      let epoch = and_parts (epoch_of key.node.0 h == key.epoch) ((n.0 == key.node.0) && b) e in
      let node = and_parts (n.0 == key.node.0) b epoch.1 in
      let at : epoch_of key.node.0 h ≡ key.epoch = eqb-true (epoch_of key.node.0 h) key.epoch epoch.0 in
      let of : key.node.0 ≡ n.0 = sym (eqb-true n.0 key.node.0 node.0) in (
        node.1,
        ap (λ (k : ℕ). state_by (last_naming key.node.0 key.number (epoch_entries key.node.0 k h))) (sym at)
            ∙ present_state_is key.node key.number h ∙ ap (λ (m : ℕ). present_state m key.number h) of,
      )

  none_of_new : (h : List HistoryEntry) (n : NodeId) (x : ℕ) → is_new (observed h n) x ≡ true → named h n (x == key.number) ≡ true → filed_yet (state_of key h) ≡ 0
  none_of_new h n x new e =
      let at = state_here h n (x == key.number) e in
      ap filed_yet (at.1 ∙ ap (λ (m : ℕ). present_state n.0 m h) (sym (eqb-true x key.number at.0)) ∙ fresh_of_new (observed h n) x new)

  all_held : (h : List HistoryEntry) (n : NodeId) (xs : List ℕ) → is_list_fit (observed h n) xs ≡ true → list_all (λ y. is_held (present_state n.0 y h)) xs ≡ true
  all_held h n [] fit = refl
  all_held h n (x ∷ xs) fit = (and_parts (list_all (λ y. is_held (present_state n.0 y h)) (x ∷ xs)) (are_distinct (x ∷ xs)) fit).0

  none_of_held : (h : List HistoryEntry) (n : NodeId) (xs : List ℕ) → is_list_fit (observed h n) xs ≡ true
      → named h n (list_any (λ x. x == key.number) xs) ≡ true → filed_yet (state_of key h) ≡ 0
  none_of_held h n xs fit e =
      let at = state_here h n (list_any (λ x. x == key.number) xs) e in
      none_if_held (state_of key h) (ap is_held at.1 ∙ passes (λ y. is_held (present_state n.0 y h)) key.number xs (all_held h n xs fit) at.0)

  -- ---- one entry more

  by_name : (t more : ℕ) (s g : KeyState) (b : Bool) → t ≤ filed_yet s → (b ≡ true → filed_yet s ≡ 0) → (b ≡ true → more ≤ filed_yet g) → (b ≡ false → more ≡ 0)
      → t + more ≤ filed_yet (if b then g else s)
  by_name t more s g true so_far none given silent = omega (arith, so_far, none refl, given refl)
  by_name t more s g false so_far none given silent = omega (arith, so_far, silent refl)

  not_named : (t : ℕ) (s g : KeyState) (b : Bool) → t ≤ filed_yet s → t + 0 ≤ filed_yet (if b && false then g else s)
  not_named t s g true so_far = omega arith
  not_named t s g false so_far = omega arith

  -- what is filed where the key is named, at most once
  given_one : (more : ℕ) (b : Bool) → more ≤ one_if b → b ≡ true → more ≤ 1
  given_one more true le e = le
  given_one more false le e = omega (arith, le)

  silent_none : (more : ℕ) (b : Bool) → more ≤ one_if b → b ≡ false → more ≡ 0
  silent_none more true le e = absurd (false≢true (sym e))
  silent_none more false le e = omega (arith, le)

  step_file : (h : List HistoryEntry) (moment : ℕ) (n : NodeId) (x : ℕ) (packet : List ℕ) → is_new (observed h n) x ≡ true → times (filed h) ≤ filed_yet (state_of key h)
      → times (filed h) + times (filed_under (present_key h n x) moment packet) ≤ filed_yet (if named h n (x == key.number) then Filed else state_of key h)
  step_file h moment n x packet new so_far =
      let more : times (filed_under (present_key h n x) moment packet) ≤ one_if (named h n (x == key.number)) =
      subst (λ (b : Bool). times (filed_under (present_key h n x) moment packet) ≤ one_if b) (here_is_named h n (x == key.number)) (times_of_packet (present_key h n x) moment packet) in
      by_name (times (filed h)) (times (filed_under (present_key h n x) moment packet)) (state_of key h) Filed (named h n (x == key.number)) so_far
      (none_of_new h n x new) (given_one _ (named h n (x == key.number)) more) (silent_none _ (named h n (x == key.number)) more)

  step_release : (h : List HistoryEntry) (moment : ℕ) (n : NodeId) (xs : List ℕ) → is_list_fit (observed h n) xs ≡ true → times (filed h) ≤ filed_yet (state_of key h)
      → times (filed h) + times (released_by h moment n (once (λ x y. x == y) xs)) ≤ filed_yet (if named h n (list_any (λ x. x == key.number) xs) then Released else state_of key h)
  step_release h moment n xs fit so_far =
      let each = times_of_list h moment n (once (λ x y. x == y) xs) (distinct_once xs) in
      let less = one_if_less (here h n) (list_any (λ y. y == key.number) (once (λ x y. x == y) xs)) (list_any (λ y. y == key.number) xs) (any_once (λ y. y == key.number) xs) in
      let within : times (released_by h moment n (once (λ x y. x == y) xs)) ≤ one_if (here h n && list_any (λ y. y == key.number) xs) = omega (arith, each, less) in
      let more : times (released_by h moment n (once (λ x y. x == y) xs)) ≤ one_if (named h n (list_any (λ y. y == key.number) xs)) =
      subst (λ (b : Bool). times (released_by h moment n (once (λ x y. x == y) xs)) ≤ one_if b) (here_is_named h n (list_any (λ y. y == key.number) xs)) within in
      by_name (times (filed h)) (times (released_by h moment n (once (λ x y. x == y) xs))) (state_of key h) Released (named h n (list_any (λ x. x == key.number) xs)) so_far
      (none_of_held h n xs fit) (given_one _ (named h n (list_any (λ x. x == key.number) xs)) more) (silent_none _ (named h n (list_any (λ x. x == key.number) xs)) more)

  step_act : (h : List HistoryEntry) (moment : ℕ) (a : HistoryAct) → is_act_fit (observed h) a ≡ true → times (filed h) ≤ filed_yet (state_of key h)
      → times (filed h) + times (filed_by_act h moment a) ≤ filed_yet (state_after key (epoch_of key.node.0 h) (state_of key h) a)
  step_act h moment act.Start fit so_far = not_named (times (filed h)) (state_of key h) Fresh (epoch_of key.node.0 h == key.epoch) so_far
  step_act h moment (act.Path n port counter) fit so_far = not_named (times (filed h)) (state_of key h) Fresh (epoch_of key.node.0 h == key.epoch) so_far
  step_act h moment (act.File n x packet) fit so_far = step_file h moment n x packet (and_parts (is_new (observed h n) x) (is_packet_fit packet) fit).0 so_far
  step_act h moment (act.Hold n x packet) fit so_far =
      by_name (times (filed h)) 0 (state_of key h) Held (named h n (x == key.number)) so_far
      (none_of_new h n x (first_of_three (is_new (observed h n) x) (is_packet_fit packet) (may_hold (observed h n)) fit)) (λ e. omega arith) (λ e. refl)
  step_act h moment (act.Seal n x) fit so_far =
      by_name (times (filed h)) 0 (state_of key h) Sealed (named h n (x == key.number)) so_far (none_of_new h n x fit) (λ e. omega arith) (λ e. refl)
  step_act h moment (act.Release n xs) fit so_far = step_release h moment n xs fit so_far
  step_act h moment (act.Cancel n xs) fit so_far =
      by_name (times (filed h)) 0 (state_of key h) Cancelled (named h n (list_any (λ x. x == key.number) xs)) so_far (none_of_held h n xs fit) (λ e. omega arith) (λ e. refl)
  step_act h moment act.Tick fit so_far = not_named (times (filed h)) (state_of key h) Fresh (epoch_of key.node.0 h == key.epoch) so_far
  step_act h moment act.Close fit so_far = not_named (times (filed h)) (state_of key h) Fresh (epoch_of key.node.0 h == key.epoch) so_far

  grown : (h : List HistoryEntry) (e : HistoryEntry) → times (filed (h ++ e ∷ [])) ≡ times (filed h) + times (filed_by h e)
  grown h e =
      ap (λ (rs : List FiledRecord). times rs) (along-append filed_by [] h (e ∷ []))
      ∙ times-append (filed h) (filed_by h e ++ [])
      ∙ ap (λ (rs : List FiledRecord). times (filed h) + times rs) (append-nil (filed_by h e))

  filed_as_far : (size : ℕ) (h : List HistoryEntry) → AllFit size h → times (filed h) ≤ filed_yet (state_of key h)
  filed_as_far size = by_fit size (λ (h : List HistoryEntry). times (filed h) ≤ filed_yet (state_of key h)) (omega arith)
      (λ h e fit so_far.
      let step = step_act h e.moment e.act fit.act so_far in
      let state : filed_yet (state_of key (h ++ e ∷ [])) ≡ filed_yet (state_after key (epoch_of key.node.0 h) (state_of key h) e.act) = ap filed_yet (state_of-append key h e) in
      omega (arith, grown h e, step, state))

  -- each record of the packet under a key is filed at most once
  pub filed_at_most_once : (size : ℕ) (h : List HistoryEntry) → AllFit size h → times_filed key index (filed h) ≤ 1
  filed_at_most_once size h all = omega (arith, filed_as_far size h all, most_once (state_of key h))
