-- Each request number of a gateway has one role: two copies that use it are one.
use Rattle.std.proofs.Common.{◌≡◌, ⊎_elim, ℕ, ◌≤◌, true, false, List, [], ◌∷◌, Some, Contains, sum_by, refl, sym, ap, subst, ◌∙◌, arith, eq-zero-or-pos}
use Rattle.once_core.proofs.Names.{All-contains, Command, false≢true, get_or-le-sum_by, is_sum_by, IsPlainFirst, nat_tests, PacketCopy, PacketState, sum_by-cons, uses, uses_by_copies, uses_by_copy}
use Rattle.once_core.proofs.ListLemmas.{in_cons, in_head, in_none, in_tail}

-- ---- how often a copy uses a number

pub own_use : (gateway number : ℕ) (copy : PacketCopy) → copy.gateway ≡ gateway → copy.number ≡ number → 1 ≤ uses_by_copy gateway number copy
own_use gateway number copy same is = grind (arith, nat_tests)

pub command_use : (gateway number : ℕ) (copy : PacketCopy) (command : Command) → copy.gateway ≡ gateway → copy.command ≡ Some command → command.number ≡ number
    → 1 ≤ uses_by_copy gateway number copy
command_use gateway number copy command same e is = grind (arith, nat_tests)

both_uses : (gateway number : ℕ) (copy : PacketCopy) (command : Command) → copy.gateway ≡ gateway → copy.number ≡ number → copy.command ≡ Some command → command.number ≡ number
    → 2 ≤ uses_by_copy gateway number copy
both_uses gateway number copy command same own e is = grind (arith, nat_tests)

-- ---- sums over lists

pub sum_has : {A : Type 0} (w : A → ℕ) (xs : List A) (x : A) → Contains xs x → w x ≤ sum_by w xs
sum_has w xs x is = omega (arith, get_or-le-sum_by w xs is.0 x is.1, ap w is.2)

-- where a sum is one at most, one element alone counts
one_counts : {A : Type 0} (w : A → ℕ) (xs : List A) → sum_by w xs ≤ 1 → (a b : A) → Contains xs a → Contains xs b → 1 ≤ w a → 1 ≤ w b → a ≡ b
one_counts w [] one a b is_a is_b use_a use_b = absurd (in_none a is_a)
one_counts w (x ∷ xs) one a b is_a is_b use_a use_b =
    let all = sum_by-cons w x xs in
    ⊎_elim
    (λ here. ⊎_elim
    (λ there. sym here ∙ there)
    (λ later. absurd (omega (arith, one, all, ap w here, sum_has w xs b later, use_a, use_b)))
    (in_cons x b xs is_b))
    (λ later. ⊎_elim
    (λ there. absurd (omega (arith, one, all, ap w there, sum_has w xs a later, use_a, use_b)))
    (λ behind. one_counts w xs (omega (arith, one, all)) a b later behind use_a use_b)
    (in_cons x b xs is_b))
    (in_cons x a xs is_a)

-- ---- one user

pub copies_sum : (gateway number : ℕ) (copies : List PacketCopy) → uses_by_copies gateway number copies ≡ sum_by (uses_by_copy gateway number) copies
copies_sum gateway number = is_sum_by (uses_by_copies gateway number) (uses_by_copy gateway number) refl (λ copy copies. refl)

pub packets_sum : (gateway number : ℕ) (packets : List PacketState) → uses gateway number packets ≡ sum_by (λ (p : PacketState). uses_by_copies gateway number p.copies) packets
packets_sum gateway number = is_sum_by (uses gateway number) (λ (p : PacketState). uses_by_copies gateway number p.copies) refl (λ packet packets. refl)

pub among_copies : (gateway number : ℕ) (copies : List PacketCopy) (copy : PacketCopy) → Contains copies copy → uses_by_copy gateway number copy ≤ uses_by_copies gateway number copies
among_copies gateway number copies copy is = omega (arith, copies_sum gateway number copies, sum_has (uses_by_copy gateway number) copies copy is)

pub among_packets : (gateway number : ℕ) (packets : List PacketState) (packet : PacketState) → Contains packets packet → uses_by_copies gateway number packet.copies ≤ uses gateway number packets
among_packets gateway number packets packet is = omega (arith, packets_sum gateway number packets, sum_has (λ (p : PacketState). uses_by_copies gateway number p.copies) packets packet is)

pub copies_once : (packets : List PacketState) (packet : PacketState) → ((gateway number : ℕ) → uses gateway number packets ≤ 1) → Contains packets packet
    → (gateway number : ℕ) → uses_by_copies gateway number packet.copies ≤ 1
copies_once packets packet once kept gateway number = omega (arith, among_packets gateway number packets packet kept, once gateway number)

pub sum_none : {A : Type 0} (w : A → ℕ) (xs : List A) → ((x : A) → Contains xs x → w x ≡ 0) → sum_by w xs ≡ 0
sum_none w [] none = refl
sum_none w (x ∷ xs) none = omega (arith, sum_by-cons w x xs, none x (in_head x xs), sum_none w xs (λ y later. none y (in_tail x y xs later)))

pub sum_one : (w : PacketCopy → ℕ) (copies : List PacketCopy) → ((copy : PacketCopy) → Contains copies copy → w copy ≤ 1)
    → ((a b : PacketCopy) → Contains copies a → Contains copies b → 1 ≤ w a → 1 ≤ w b → a ≡ b)
    → ((gateway number : ℕ) → uses_by_copies gateway number copies ≤ 1) → sum_by w copies ≤ 1
sum_one w [] each same once = omega arith
sum_one w (first ∷ copies) each same once = ⊎_elim
    (λ zero_first. omega (
      arith,
      sum_by-cons w first copies,
      zero_first,
      sum_one w copies (λ copy later. each copy (in_tail first copy copies later))
          (λ a b in_a in_b. same a b (in_tail first a copies in_a) (in_tail first b copies in_b)) (λ gateway number. omega (arith, once gateway number)),
    ))
    (λ some_first. omega (
      arith,
      sum_by-cons w first copies,
      each first (in_head first copies),
      sum_none w copies (λ copy later. ⊎_elim
          (λ none. none)
          (λ some.
          let e : first ≡ copy = same first copy (in_head first copies) (in_tail first copy copies later) (omega (arith, some_first)) (omega (arith, some)) in
          absurd (omega (
            arith,
            own_use first.gateway first.number first refl refl,
            among_copies first.gateway first.number copies copy later,
            ap (uses_by_copy first.gateway first.number) e,
            once first.gateway first.number,
          )))
          (eq-zero-or-pos (w copy))),
    ))
    (eq-zero-or-pos (w first))

-- a copy of a packet
pub record IsCopyOf (packets : List PacketState) (packet : PacketState) (copy : PacketCopy) : Type 0 where
  pub kept : Contains packets packet
  pub among : Contains packet.copies copy

pub same_user : (gateway number : ℕ) (packets : List PacketState) → uses gateway number packets ≤ 1 → (p q : PacketState) (a b : PacketCopy) → IsCopyOf packets p a → IsCopyOf packets q b
    → 1 ≤ uses_by_copy gateway number a → 1 ≤ uses_by_copy gateway number b → (p ≡ q) × (a ≡ b)
same_user gateway number packets one p q a b is_a is_b use_a use_b =
    let packet : p ≡ q = one_counts (λ (r : PacketState). uses_by_copies gateway number r.copies) packets (omega (arith, packets_sum gateway number packets, one)) p q is_a.kept is_b.kept
    (omega (arith, among_copies gateway number p.copies a is_a.among, use_a)) (omega (arith, among_copies gateway number q.copies b is_b.among, use_b)) in (
      packet,
      one_counts (uses_by_copy gateway number) p.copies (omega (arith, copies_sum gateway number p.copies, among_packets gateway number packets p is_a.kept, one)) a b is_a.among
          (subst (λ (r : PacketState). Contains r.copies b) (sym packet) is_b.among) use_a use_b,
    )

-- no number is that of a copy and of its release or cancel
pub not_both : (gateway number : ℕ) (packets : List PacketState) → uses gateway number packets ≤ 1 → (p q : PacketState) (a b : PacketCopy) (command : Command)
    → IsCopyOf packets p a → IsCopyOf packets q b → a.gateway ≡ gateway → a.number ≡ number → b.gateway ≡ gateway → b.command ≡ Some command → command.number ≡ number → ⊥
not_both gateway number packets one p q a b command is_a is_b at_a own at_b e is =
    let same = (same_user gateway number packets one p q a b is_a is_b (own_use gateway number a at_a own) (command_use gateway number b command at_b e is)).1 in
    absurd (omega (
      arith,
      both_uses gateway number b command at_b (ap (λ (c : PacketCopy). c.number) (sym same) ∙ own) e is,
      among_copies gateway number q.copies b is_b.among,
      among_packets gateway number packets q is_b.kept,
      one,
    ))

-- ---- the first copy

pub first_is_plain : (copies : List PacketCopy) (first : PacketCopy) (duplicates : List PacketCopy) → copies ≡ first ∷ duplicates → IsPlainFirst copies → first.is_plain ≡ true
first_is_plain copies first duplicates whole is = (subst IsPlainFirst whole is).0

pub plain_is_first : (copies : List PacketCopy) (first : PacketCopy) (duplicates : List PacketCopy) (copy : PacketCopy) → copies ≡ first ∷ duplicates → IsPlainFirst copies
    → Contains copies copy → copy.is_plain ≡ true → copy ≡ first
plain_is_first copies first duplicates copy whole is among plain = ⊎_elim
    (λ e. sym e)
    (λ later. absurd (false≢true (sym (All-contains (λ (c : PacketCopy). c.is_plain ≡ false) duplicates copy (subst IsPlainFirst whole is).1 later) ∙ plain)))
    (in_cons first copy duplicates (subst (λ cs. Contains cs copy) whole among))
