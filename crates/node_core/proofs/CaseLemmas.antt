-- Lists: what holds of each element, which elements there are, and the first that passes a test. What holds of both
-- ends of a choice holds of what is chosen.
use Rattle.std.proofs.Common.{◌≡◌, ◌⊎◌, inl, inr, ℕ, suc, Bool, true, false, List, [], ◌∷◌, ◌++◌, map, Some, None, option_map, refl, ap, ◌∙◌, arith, Option, ◌≢◌}
use Rattle.node_core.proofs.Names.{All-contains, All-contains_itself, All-from_recursion, AllByRecursion, cases_Bool, Command, commanded, cond_both, Contains, copies_after, copy_hearing, copy_hearing_own, eqb_tells, false≢true, find, get_or-map, IfSome, is_done, length-map, list_any, list_any_at, list_any_none, nat_tests, option_map_or, option_or, packet_after, packet_after_all, PacketCopy, PacketState, Port, recursion_from_All, Sending, while_open, with_command}

-- ---- each of a list

module _ {A : Type 0} where
  pub each_append : (P : A → Type 0) (xs ys : List A) → AllByRecursion P xs → AllByRecursion P ys →
      AllByRecursion P (xs ++ ys)
  each_append P [] ys all more = more
  each_append P (x ∷ xs) ys all more = (all.0, each_append P xs ys all.1 more)

  pub each_push : (P : A → Type 0) (xs : List A) (x : A) → AllByRecursion P xs → P x → AllByRecursion P (xs ++ x ∷ [])
  each_push P xs x all p = each_append P xs (x ∷ []) all (p, tt)

  pub each_weaker : (P Q : A → Type 0) → ((x : A) → P x → Q x) → (xs : List A) → AllByRecursion P xs → AllByRecursion Q xs
  each_weaker P Q f [] all = tt
  each_weaker P Q f (x ∷ xs) all = (f x all.0, each_weaker P Q f xs all.1)

  pub each_both : (P Q R : A → Type 0) → ((x : A) → P x → Q x → R x) → (xs : List A) → AllByRecursion P xs →
      AllByRecursion Q xs → AllByRecursion R xs
  each_both P Q R f [] one two = tt
  each_both P Q R f (x ∷ xs) one two = (f x one.0 two.0, each_both P Q R f xs one.1 two.1)

  pub each_map : (P Q : A → Type 0) (f : A → A) → ((x : A) → P x → Q (f x)) → (xs : List A) → AllByRecursion P xs →
      AllByRecursion Q (map f xs)
  each_map P Q f step [] all = tt
  each_map P Q f step (x ∷ xs) all = (step x all.0, each_map P Q f step xs all.1)

  pub each_contains : (P : A → Type 0) (xs : List A) (x : A) → AllByRecursion P xs → Contains xs x → P x
  each_contains P xs x all at = All-contains P xs x (All-from_recursion P xs all) at

  -- ---- elements

  pub in_head : (x : A) (xs : List A) → Contains (x ∷ xs) x
  in_head x xs = (0, omega arith, refl)

  pub each_in : (xs : List A) → AllByRecursion (Contains xs) xs
  each_in xs = recursion_from_All (Contains xs) xs (All-contains_itself xs)

  pub in_none : (x : A) → Contains [] x → ⊥
  in_none x is = absurd (omega (arith, is.1))

  pub contains_more : (xs : List A) (y x : A) → Contains xs x → Contains (y ∷ xs) x
  contains_more xs y x at = (suc at.0, omega (arith, at.1), at.2)

  pub in_cons : (x y : A) (xs : List A) → Contains (x ∷ xs) y → (x ≡ y) ⊎ Contains xs y
  in_cons x y xs is = grind (arith, nat_tests)

  pub in_map : (f : A → A) (xs : List A) (x : A) → Contains xs x → Contains (map f xs) (f x)
  in_map f xs x at = (at.0, omega (arith, at.1, length-map xs f), get_or-map f xs at.0 x (f x) at.1 ∙ ap f at.2)

  -- ---- the first that passes

  pub find_is : (test : A → Bool) (xs : List A) (x : A) → find test xs ≡ Some x → Contains xs x × (test x ≡ true)
  find_is test [] x found = absurd (cc)
  find_is test (y ∷ xs) x found =
      elim (cases_Bool (test y)) [
        | inl passes ↦ search arith
        | inr fails ↦ let later = find_is test xs x (rw fails at found) in (contains_more xs y x later.0, later.1)
      ]

  pub find_none : (test : A → Bool) (xs : List A) → find test xs ≡ None → AllByRecursion (λ (x : A). test x ≡ false) xs
  find_none test [] none = tt
  find_none test (x ∷ xs) none =
      elim (cases_Bool (test x)) [
        | inl passes ↦ let found : Some x ≡ None = rw passes at none in absurd (cc)
        | inr fails ↦ (fails, find_none test xs (rw fails at none))
      ]

  pub none_passes : (test : A → Bool) (xs : List A) → find test xs ≡ None → list_any test xs ≡ false
  none_passes test xs none =
      list_any_none test xs (All-from_recursion (λ (x : A). test x ≡ false) xs (find_none test xs none))

  pub passes_in : (test : A → Bool) (xs : List A) (x : A) → Contains xs x → test x ≡ true → list_any test xs ≡ true
  passes_in test xs x at passes = list_any_at test xs at.0 x at.1 (ap test at.2 ∙ passes)

  pub find_mapped : (test : A → Bool) (f : A → A) (xs : List A) →
      find test (map f xs) ≡ option_map f (find (λ (x : A). test (f x)) xs)
  find_mapped test f [] = refl
  find_mapped test f (x ∷ xs) = search (arith, cases_Bool, (find_mapped test f xs))

  pub find_map : (test : A → Bool) (f : A → A) → ((x : A) → test (f x) ≡ test x) → (xs : List A) →
      find test (map f xs) ≡ option_map f (find test xs)
  find_map test f same xs = find_mapped test f xs ∙ (λ i. option_map f (find (λ (x : A). same x i) xs))

  pub any_map : (test : A → Bool) (f : A → A) → ((x : A) → test (f x) ≡ test x) → (xs : List A) →
      list_any test (map f xs) ≡ list_any test xs
  any_map test f same [] = refl
  any_map test f same (x ∷ xs) = rw (same x, any_map test f same xs) refl

  -- the only one that passes is found
  pub find_only : (test : A → Bool) (c : A) → test c ≡ true → (xs : List A) →
      ((x : A) → Contains xs x → test x ≡ true → x ≡ c) → Contains xs c → find test xs ≡ Some c
  find_only test c passes [] only at = absurd (in_none c at)
  find_only test c passes (x ∷ xs) only at =
      elim (cases_Bool (test x)) [
        | inl is ↦ rw is (ap (λ (y : A). Some y) (only x (in_head x xs) is))
        | inr isnt ↦
            let later : Contains xs c = search (arith, in_cons, false≢true) in
            rw isnt (find_only test c passes xs (λ y there. only y (contains_more xs x y there)) later)
      ]

-- ---- a copy at the gateway or elsewhere, a packet that is open or done

module _ (P : PacketCopy → Type 0) where
  pub either_commanded : (gateway : ℕ) (command : Command) (copy : PacketCopy) → P (with_command command copy) →
      P copy → P (commanded gateway command copy)
  either_commanded gateway command copy there elsewhere = search (arith, cond_both)

  pub either_hears : (port : Port) (gateway cause : ℕ) (numbers : List ℕ) (copy : PacketCopy) →
      P (copy_hearing_own port cause numbers copy) → P copy →
      P (copy_hearing port gateway cause numbers copy)
  either_hears port gateway cause numbers copy there elsewhere = search (arith, cond_both)

module _ (P : PacketState → Type 0) where
  pub either_sent : (sending : Sending) (packet : PacketState) →
      P (record packet { copies = copies_after sending packet.copies }) → P packet →
      P (packet_after sending packet)
  either_sent sending packet its another = search (arith, cond_both)

  pub either_open : (f : PacketState → PacketState) (packet : PacketState) → P packet →
      (is_done packet.copies ≡ false → P (f packet)) → P (while_open f packet)
  either_open f packet done open_yet = cond_both (is_done packet.copies) packet (f packet) P (λ _. done) open_yet

-- what each sending leaves of the copies all of them leave
pub after_all_keeps : (P : List PacketCopy → Type 0) (sendings : List Sending) →
    ((sending : Sending) → Contains sendings sending → (copies : List PacketCopy) → P copies →
    P (copies_after sending copies)) →
    (packet : PacketState) → P packet.copies → P (packet_after_all sendings packet).copies
after_all_keeps P [] keeps packet is = is
after_all_keeps P (sending ∷ sendings) keeps packet is =
    after_all_keeps P sendings (λ later there. keeps later (contains_more sendings sending later there))
    (packet_after sending packet)
    (either_sent (λ (p : PacketState). P p.copies) sending packet
    (keeps sending (in_head sending sendings) packet.copies is) is)

-- ---- an option that is filled, or changed

pub if_or : {A : Type 0} (P : A → Type 0) (o other : Option A) → IfSome o P → IfSome other P →
    IfSome (option_or o other) P
if_or P o other was new = grind arith

pub if_mapped : {A : Type 0} (P : A → Type 0) (f : A → A) (o : Option A) → IfSome o (λ x. P (f x)) →
    IfSome (option_map f o) P
if_mapped P f o was = grind arith

-- a test of what is in it
pub else_fails : {A : Type 0} (test : A → Bool) (o : Option A) (x : A) → test x ≡ false →
    option_map_or test (option_or o (Some x)) false ≡ option_map_or test o false
else_fails test o x fails = grind arith

pub mapped_passes : {A : Type 0} (test : A → Bool) (f : A → A) (o : Option A) →
    option_map_or test (option_map f o) false ≡ option_map_or (λ (x : A). test (f x)) o false
mapped_passes test f o = grind arith

-- ---- what leaves each copy where it is

pub record StaysPut (copy after : PacketCopy) : Type 0 where
  pub gateway : after.gateway ≡ copy.gateway
  pub number : after.number ≡ copy.number
  pub is_plain : after.is_plain ≡ copy.is_plain

pub commanded_puts : (gateway : ℕ) (command : Command) (copy : PacketCopy) →
    StaysPut copy (commanded gateway command copy)
commanded_puts gateway command copy = either_commanded (StaysPut copy) gateway command copy (search) (search)

pub hearing_puts : (port : Port) (gateway cause : ℕ) (numbers : List ℕ) (copy : PacketCopy) →
    StaysPut copy (copy_hearing port gateway cause numbers copy)
hearing_puts port gateway cause numbers copy = either_hears (StaysPut copy) port gateway cause numbers copy (search) (search)

-- ---- at one place or elsewhere

pub at_or_apart : (P : ℕ → Type 0) (place other : ℕ) → P place → (place ≢ other → P other) → P other
at_or_apart P place other there elsewhere = search (arith, nat_tests, eqb_tells)
