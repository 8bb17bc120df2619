-- What was sent for the copies of a packet: a release for the choice alone, where the first copy is sealed; and while
-- the first copy waits, nothing, or a release among it. Each move and each response leaves it so.
use Rattle.std.proofs.Common.{◌≡◌, ◌≢◌, ◌⊎◌, inl, inr, ℕ, ◌==◌, Bool, true, false, if◌then◌else◌, List, [], ◌∷◌, map, Option, Some, None, option_map, refl, sym, ap, subst, ◌∙◌, arith}
use Rattle.node_core.proofs.Names.{AllByRecursion, Cancel, cases_Bool, chosen, Command, commanded, Contains, copy_hearing, eqb-true, eqb_tells, false≢true, Filed, find, find-append, first_told, Held, IfSome, is_chosen, is_held, is_release, list_any, list_any-append, nat_tests, ne_eqb, next_number, option_map_or, option_or, or_from, or_left, Order, PacketCopy, Peer, Port, Release, Sealed, Verdict}
use Rattle.node_core.proofs.CaseLemmas.{either_commanded, either_hears, else_fails, mapped_passes, any_map, contains_more, each_contains, each_in, each_map, each_push, each_weaker, find_is, find_map, find_mapped, find_none, find_only, in_cons, in_map, in_none, none_passes, passes_in}
use Rattle.node_core.proofs.Moves.{Commanding, CommandsOne, Copying, IsMove, IsRight, MayCancel, Move, are_none, command_with, copies_moved, find_at, is_waiting, waiting}

-- ---- one copy at each gateway

pub own_number : (number : ℕ) → (number == number) ≡ true
own_number number = elim (eqb_tells number number) [ inl is ↦ is.0 | inr isnt ↦ absurd (isnt.1 refl) ]

abbrev pub AreApart : List PacketCopy → Type 0
AreApart [] = Unit {0}
AreApart (copy ∷ copies) = AllByRecursion (λ (other : PacketCopy). copy.gateway ≢ other.gateway) copies × AreApart copies

pub found_at : (copies : List PacketCopy) (copy : PacketCopy) → AreApart copies → Contains copies copy →
    find_at copy.gateway copies ≡ Some copy
found_at [] copy apart there = absurd (in_none copy there)
found_at (first ∷ copies) copy apart there =
    elim (in_cons first copy copies there) [
      | inl same ↦ search (arith, own_number)
      | inr later ↦ rw (ne_eqb first.gateway copy.gateway
          (each_contains (λ (other : PacketCopy). first.gateway ≢ other.gateway) copies copy apart.0 later))
          (found_at copies copy apart.1 later)
    ]

-- ---- the choice

pub chosen_is : (copies : List PacketCopy) (copy : PacketCopy) → chosen copies ≡ Some copy → Contains copies copy
chosen_is copies copy is = grind (arith, nat_tests, find_is)

-- one for which a release was sent is the choice
pub found_chosen : (copies : List PacketCopy) (copy : PacketCopy) → find is_chosen copies ≡ Some copy → chosen copies ≡ Some copy
found_chosen copies copy found = cc

-- who is released is the first that is, and the first copy is sealed
abbrev pub IsFirstChosen : PacketCopy → List PacketCopy → PacketCopy → Type 0
IsFirstChosen plain duplicates copy = is_chosen copy ≡ true → (plain.verdict ≡ Sealed)
    × (find is_chosen duplicates ≡ Some copy)

abbrev pub Chosen : List PacketCopy → Type 0
Chosen [] = Unit {0}
Chosen (plain ∷ duplicates) = (is_chosen plain ≡ false) × AllByRecursion (IsFirstChosen plain duplicates) duplicates

-- nothing was sent for any copy, or a release for one, for as long as the first copy waits for it
abbrev pub Waits : List PacketCopy → Type 0
Waits copies = waiting copies ≡ true →
    AllByRecursion (λ (copy : PacketCopy). copy.command ≡ None) copies ⊎ (list_any is_chosen copies ≡ true)

-- what was sent for a copy, if anything was, has this order
abbrev pub HasOrder : Order → PacketCopy → Type 0
HasOrder order copy = IfSome copy.command (λ (command : Command). command.order ≡ order)

-- what isn't released was cancelled, if anything was sent for it
pub has_order : (copy : PacketCopy) (is : Bool) → is_chosen copy ≡ is → HasOrder (if is then Release else Cancel) copy
has_order copy is = grind (arith, nat_tests)

-- where there is no choice none is held
pub none_held : (copies : List PacketCopy) → chosen copies ≡ None → AllByRecursion (λ (copy : PacketCopy). is_held copy.verdict ≡ false) copies
none_held copies is = by (find is_chosen copies) is
  where
    by : (there : Option PacketCopy) → option_or there (find (λ (c : PacketCopy). is_held c.verdict) copies) ≡ None →
        AllByRecursion (λ (copy : PacketCopy). is_held copy.verdict ≡ false) copies
    by None is = find_none (λ (c : PacketCopy). is_held c.verdict) copies is
    by (Some copy) is = absurd (cc)

-- what was sent for a duplicate is a cancel, but for the choice of a packet whose first copy is sealed
pub cancelled : (plain : PacketCopy) (duplicates : List PacketCopy) → Chosen (plain ∷ duplicates) →
    (copy : PacketCopy) → Contains duplicates copy →
    (plain.verdict ≡ Sealed → chosen duplicates ≡ Some copy → ⊥) → HasOrder Cancel copy
cancelled plain duplicates was copy there other =
    elim (cases_Bool (is_chosen copy)) [
      | inl is ↦
          let first = each_contains (IsFirstChosen plain duplicates) duplicates copy was.1 there is in
          absurd (other first.0 (found_chosen duplicates copy first.1))
      | inr isnt ↦ has_order copy false isnt
    ]

pub choice_released : (plain : PacketCopy) (duplicates : List PacketCopy) → Chosen (plain ∷ duplicates) → Waits (plain ∷ duplicates) →
    plain.verdict ≡ Sealed → (choice : PacketCopy) → chosen duplicates ≡ Some choice → HasOrder Release choice
choice_released plain duplicates was waits sealed choice is = elim (waits (ap is_waiting sealed)) [
  | inl none ↦
      let fresh : choice.command ≡ None =
      each_contains (λ (c : PacketCopy). c.command ≡ None) duplicates choice none.1 (chosen_is duplicates choice is) in
      subst (λ (o : Option Command). IfSome o (λ (c : Command). c.order ≡ Release)) (sym fresh) tt
  | inr any ↦ has_order choice true (by (find is_chosen duplicates) refl any)
]
  where
    by : (there : Option PacketCopy) → find is_chosen duplicates ≡ there → list_any is_chosen (plain ∷ duplicates) ≡ true → is_chosen choice ≡ true
    by None e any = search (arith, false≢true, or_from, none_passes)
    by (Some copy) e any = search (arith, found_chosen, find_is)

-- who is released or cancelled keeps a release among the copies
pub may_still : (order : Order) (copies : List PacketCopy) (copy : PacketCopy) → Contains copies copy →
    IsRight order copies copy →
    HasOrder order copy → (copy.command ≡ None → ⊥) → MayCancel copies
may_still Cancel copies copy there right has sent = right
may_still Release copies copy there right has sent = λ waits. search (arith, nat_tests, passes_in, by)
  where
    by : (command : Option Command) → IfSome command (λ (c : Command). c.order ≡ Release) → (command ≡ None → ⊥) →
        option_map_or (λ (c : Command). is_release c.order) command false ≡ true
    by None has sent = absurd (sent refl)
    by (Some command) has sent = ap is_release has

-- ---- what leaves the choice: each copy is released exactly where it was, and a sealed one stays sealed

pub record KeepsChoice (f : PacketCopy → PacketCopy) : Type 0 where
  pub same : (copy : PacketCopy) → is_chosen (f copy) ≡ is_chosen copy
  pub sealed : (copy : PacketCopy) → copy.verdict ≡ Sealed → (f copy).verdict ≡ Sealed

pub chosen_map : (f : PacketCopy → PacketCopy) → KeepsChoice f → (copies : List PacketCopy) → Chosen copies → Chosen (map f copies)
chosen_map f keeps [] is = tt
chosen_map f keeps (plain ∷ duplicates) is = (
  keeps.same plain ∙ is.0,
  each_map (IsFirstChosen plain duplicates) (IsFirstChosen (f plain) (map f duplicates)) f
      (λ c first is_so. let at = first (sym (keeps.same c) ∙ is_so) in
      (keeps.sealed plain at.0, find_map is_chosen f keeps.same duplicates ∙ ap (option_map f) at.1)) duplicates is.1,
)

cancel_keeps : (gateway number : ℕ) → KeepsChoice (commanded gateway (command_with Cancel number))
cancel_keeps gateway number = search (arith, command_with, else_fails)

pub hearing_keeps : (port : Port) (gateway cause : ℕ) (numbers : List ℕ) → KeepsChoice (copy_hearing port gateway cause numbers)
hearing_keeps port gateway cause numbers = search (arith, mapped_passes)

-- ---- a release

released_now : (copies : List PacketCopy) (gateway number : ℕ) (one : CommandsOne copies gateway Release) →
    is_chosen (commanded gateway (command_with Release number) one.copy) ≡ true
released_now copies gateway number one = search (arith, command_with, find_is)

module _ (plain : PacketCopy) (duplicates : List PacketCopy) (apart : AreApart (plain ∷ duplicates)) (gateway number : ℕ)
    (one : CommandsOne (plain ∷ duplicates) gateway Release) where
  abbrev after_release : PacketCopy → PacketCopy
  after_release copy = commanded gateway (command_with Release number) copy

  among : Contains duplicates one.copy
  among = chosen_is duplicates one.copy one.right.1

  place_is : one.copy.gateway ≡ gateway
  place_is = search (arith, nat_tests, eqb-true, find_is)

  none_yet : AllByRecursion (λ (copy : PacketCopy). is_chosen copy ≡ false) duplicates
  none_yet = find_none is_chosen duplicates (by (find is_chosen duplicates) refl)
    where
      by : (found : Option PacketCopy) → find is_chosen duplicates ≡ found → find is_chosen duplicates ≡ None
      by None e = e
      by (Some copy) e = search (arith, found_chosen, find_is)

  -- who is released now is the one at the gateway
  only : (copy : PacketCopy) → Contains duplicates copy → is_chosen (after_release copy) ≡ true → copy ≡ one.copy
  only copy there is_so = elim (eqb_tells copy.gateway gateway) [
    | inl is ↦
        let found : find_at copy.gateway (plain ∷ duplicates) ≡ Some copy = search (arith, found_at, contains_more) in
        search arith
    | inr isnt ↦
        let chosen_so : is_chosen copy ≡ true = rw isnt.0 at is_so in
        absurd (false≢true
        (sym (each_contains (λ (c : PacketCopy). is_chosen c ≡ false) duplicates copy none_yet there) ∙ chosen_so))
  ]

  plain_stays : after_release plain ≡ plain
  plain_stays =
      let differs : plain.gateway ≢ one.copy.gateway =
      each_contains (λ (other : PacketCopy). plain.gateway ≢ other.gateway) duplicates one.copy apart.0 among in
      rw (ne_eqb plain.gateway gateway (λ e. differs (e ∙ sym place_is))) refl

  chosen_released : is_chosen plain ≡ false → Chosen (map after_release (plain ∷ duplicates))
  chosen_released plain_not = (
    ap is_chosen plain_stays ∙ plain_not,
    each_map (Contains duplicates) (IsFirstChosen (after_release plain) (map after_release duplicates)) after_release
        (λ copy there is_so.
        (ap (λ (c : PacketCopy). c.verdict) plain_stays ∙ one.right.0, found copy (only copy there is_so)))
        duplicates (each_in duplicates),
  )
    where
      found : (copy : PacketCopy) → copy ≡ one.copy →
          find is_chosen (map after_release duplicates) ≡ Some (after_release copy)
      found copy same =
          find_mapped is_chosen after_release duplicates
          ∙ ap (option_map after_release) (find_only (λ (c : PacketCopy). is_chosen (after_release c)) one.copy
          (released_now (plain ∷ duplicates) gateway number one) duplicates only among)
          ∙ ap (λ (c : PacketCopy). Some (after_release c)) (sym same)

-- ---- all moves, and a response

-- a release or a cancel leaves a release among the copies
pub may_commanded : (order : Order) (copies : List PacketCopy) (gateway number : ℕ) → CommandsOne copies gateway order →
    MayCancel (map (commanded gateway (command_with order number)) copies)
may_commanded Release copies gateway number one =
    let f : PacketCopy → PacketCopy = commanded gateway (command_with Release number) in
    λ waits. passes_in is_chosen (map f copies) (f one.copy)
    (in_map f copies one.copy (find_is (λ (c : PacketCopy). c.gateway == gateway) copies one.copy one.found).0)
    (released_now copies gateway number one)
may_commanded Cancel copies gateway number one =
    search (arith, any_map, command_with, cancel_keeps, waiting, either_commanded, is_waiting)

pub chosen_moved : (move : Move) (peers : List Peer) (copies : List PacketCopy) → AreApart copies → IsMove peers copies move → Chosen copies →
    Chosen (copies_moved peers move copies)
chosen_moved (Copying gateway) peers [] apart is was = (refl, tt)
chosen_moved (Copying gateway) peers (plain ∷ duplicates) apart is was =
    search (arith, each_push, each_weaker, find-append)
chosen_moved (Commanding gateway Cancel) peers copies apart is was =
    chosen_map (commanded gateway (command_with Cancel (next_number peers gateway))) (cancel_keeps gateway (next_number peers gateway)) copies was
chosen_moved (Commanding gateway Release) peers [] apart is was = tt
chosen_moved (Commanding gateway Release) peers (plain ∷ duplicates) apart is was =
    chosen_released plain duplicates apart gateway (next_number peers gateway) is.fits was.0

pub waits_moved : (move : Move) (peers : List Peer) (copies : List PacketCopy) → IsMove peers copies move → Waits copies →
    Waits (copies_moved peers move copies)
waits_moved move peers copies is waits =
    grind (arith, each_push, list_any-append, or_left, are_none, waiting, may_commanded)

pub waits_hearing : (port : Port) (gateway cause : ℕ) (numbers : List ℕ) (copies : List PacketCopy) → Waits copies →
    Waits (map (copy_hearing port gateway cause numbers) copies)
waits_hearing port gateway cause numbers copies waits = λ still. elim (waits (before copies still)) [
  | inl none ↦ inl (each_map (λ (c : PacketCopy). c.command ≡ None) (λ (c : PacketCopy). c.command ≡ None)
      (copy_hearing port gateway cause numbers) fresh copies none)
  | inr any ↦ search (arith, any_map, hearing_keeps)
]
  where
    first : (one two : Verdict) → is_waiting (first_told one two) ≡ true → is_waiting one ≡ true
    first Filed two e = e
    first Held two e = e
    first _ two e = refl

    before : (copies : List PacketCopy) → waiting (map (copy_hearing port gateway cause numbers) copies) ≡ true → waiting copies ≡ true
    before [] still = refl
    before (plain ∷ duplicates) still = search (arith, either_hears, is_waiting, first)

    fresh : (copy : PacketCopy) → copy.command ≡ None → (copy_hearing port gateway cause numbers copy).command ≡ None
    fresh copy e = search (arith, either_hears)
