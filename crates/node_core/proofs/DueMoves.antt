-- What is due for a packet makes moves, one for each number that it draws, and is of the packet's copies: each release
-- or cancel is the one that was sent for its copy.
use Rattle.std.proofs.Common.{◌≡◌, ⊎_elim, ℕ, List, [], ◌∷◌, Option, Some, None, refl, subst, ◌∙◌, ◌≢◌, ◌⊎◌, inl, inr, ◌<◌, ◌≤◌, ◌==◌, Bool, true, false, ◌++◌, length, map, sym, ap, arith, if◌then◌else◌}
use Rattle.node_core.proofs.Names.{AllByRecursion, asking, Cancel, chosen, Command, command_by, command_of, command_unless, commanded, cond_both, Contains, Contains-push, copies_after, copy_to, CopyGrows, drawn, due_by_copies, due_by_verdict, eqb_tells, Extends, false≢true, flat_map, HasCopyAt, Held, IfSome, is_answered, is_held, is_of, IsCommandOf, IsSent, list_any, nat_tests, new_copy, next_number, option_map_or, option_or, Order, PacketCopy, PacketState, Peer, Release, releasing, repeating, Sealed, Sending, settling, settling_beside, settling_by, test_of, Unknown, Verdict, with_command}
use Rattle.node_core.specs.declared.sending.Sending.TheVariants as send
use Rattle.node_core.proofs.CaseLemmas.{contains_more, in_cons, in_head, in_none, each_contains, find_is, in_map}
use Rattle.node_core.proofs.ChosenLemmas.{AreApart, HasOrder, cancelled, choice_released, chosen_is, found_at, may_commanded, may_still, none_held, own_number}
use Rattle.node_core.proofs.KeptLemmas.{IsKept, IsPlaced}
use Rattle.node_core.proofs.Moves.{Copying, Commanding, CommandsOne, IsMove, IsRight, MayCancel, Move, are_none, command_with, copies_moved, find_at, find_commanded, is_waiting, length_moved, next_elsewhere, peers_moved}
use Rattle.node_core.proofs.WeightLemmas.{left_at, weight_by, weight_fresh}

-- the packet has this number, and the sending is of one of these copies
abbrev pub Own : ℕ → List PacketCopy → Sending → Type 0
Own number copies (send.Probe gateway path) = Unit {0}
Own number copies (send.Data packet gateway drawn is_plain is_new) =
    (number ≡ packet) × (of : HasCopyAt copies gateway drawn) × (of.copy.is_plain ≡ is_plain)
Own number copies (send.Test packet gateway drawn) = (number ≡ packet) × HasCopyAt copies gateway drawn
Own number copies (send.Command packet gateway named drawn order is_new) =
    (number ≡ packet) × (of : HasCopyAt copies gateway named) × IsCommandOf of.copy order drawn

-- the copy goes on
record GoesOn (copies : List PacketCopy) (copy : PacketCopy) : Type 0 where
  later : PacketCopy
  among : Contains copies later
  grows : CopyGrows copy later

goes_on : (copies after : List PacketCopy) → Extends CopyGrows copies after → (copy : PacketCopy) → Contains copies copy → GoesOn after copy
goes_on [] after grows copy is = absurd (in_none copy is)
goes_on (first ∷ copies) [] grows copy is = absurd grows
goes_on (first ∷ copies) (next ∷ after) grows copy is = ⊎_elim
    (λ e. record { later = next; among = in_head next after; grows = subst (λ (c : PacketCopy). CopyGrows c next) e grows.0 })
    (λ behind.
    let on = goes_on copies after grows.1 copy behind in
    record { later = on.later; among = contains_more after next on.later on.among; grows = on.grows })
    (in_cons first copy copies is)

command_goes_on : (copy later : PacketCopy) (order : Order) (number : ℕ) → CopyGrows copy later → IsCommandOf copy order number → IsCommandOf later order number
command_goes_on copy later order number grows is = grind (arith, nat_tests)

module _ (copies after : List PacketCopy) (grows : Extends CopyGrows copies after) where
  copy_goes_on : (gateway number : ℕ) → HasCopyAt copies gateway number → HasCopyAt after gateway number
  copy_goes_on gateway number is =
      let on = goes_on copies after grows is.copy is.among in
      record { copy = on.later; among = on.among; gateway_is = on.grows.gateway ∙ is.gateway_is; number_is = on.grows.number ∙ is.number_is }

  pub own_goes_on : (number : ℕ) (sending : Sending) → Own number copies sending → Own number after sending
  unfolding copy_goes_on goes_on
  own_goes_on number (send.Probe gateway path) is = tt
  own_goes_on number (send.Data packet gateway drawn is_plain is_new) is =
      (is.0, copy_goes_on gateway drawn is.1, (goes_on copies after grows is.1.copy is.1.among).grows.is_plain ∙ is.2)
  own_goes_on number (send.Test packet gateway drawn) is = (is.0, copy_goes_on gateway drawn is.1)
  own_goes_on number (send.Command packet gateway named drawn order is_new) is =
      let on = goes_on copies after grows is.1.copy is.1.among in
      (is.0, copy_goes_on gateway named is.1, command_goes_on is.1.copy on.later order drawn on.grows is.2)

-- ---- one packet of several

pub sent_here : (number : ℕ) (state : PacketState) (packets : List PacketState) → state.number ≡ number → (sending : Sending) → Own number state.copies sending →
    IsSent (state ∷ packets) sending
sent_here number state packets same (send.Probe gateway path) own = tt
sent_here number state packets same (send.Test packet gateway drawn) own = search (arith, in_head)
sent_here number state packets same _ own =
    (record { state = state; kept = in_head state packets; number_is = same ∙ own.0; holds = own.1 }, own.2)

pub sent_later : (state : PacketState) (packets : List PacketState) (sending : Sending) → IsSent packets sending → IsSent (state ∷ packets) sending
sent_later state packets (send.Probe gateway path) is = tt
sent_later state packets (send.Test packet gateway drawn) is = search (arith, contains_more)
sent_later state packets _ is =
    (record { state = is.0.state; kept = contains_more packets state is.0.state is.0.kept; number_is = is.0.number_is; holds = is.0.holds }, is.1)

-- a sending leaves the copies and the numbers, or makes a move
pub data Step : List Peer → List PacketCopy → List Peer → List PacketCopy → Type 0 where
  idles : {peers : List Peer} {copies : List PacketCopy} → Step peers copies peers copies
  moves : {peers : List Peer} {copies : List PacketCopy} (move : Move) → IsMove peers copies move →
      Step peers copies (peers_moved move peers) (copies_moved peers move copies)

-- the sendings are of this packet, and each of a copy that it has then
pub data Does (number : ℕ) : List Peer → List PacketCopy → List Sending → Type 0 where
  ends : {peers : List Peer} {copies : List PacketCopy} → Does number peers copies []
  sends : {peers : List Peer} {copies : List PacketCopy} {sending : Sending} {sendings : List Sending} → is_of number sending ≡ true →
      Own number (copies_after sending copies) sending →
      Step peers copies (drawn sending peers) (copies_after sending copies) →
      Does number (drawn sending peers) (copies_after sending copies) sendings → Does number peers copies (sending ∷ sendings)

abbrev has_copy : (copies : List PacketCopy) (copy : PacketCopy) → Contains copies copy →
    HasCopyAt copies copy.gateway copy.number
has_copy copies copy among = record { copy = copy; among = among; gateway_is = refl; number_is = refl }

-- ---- what stands before the commands of a tick: the copy as it was, and the next number of its gateway too

record IsReady (first peers : List Peer) (copies : List PacketCopy) (copy : PacketCopy) : Type 0 where
  found : find_at copy.gateway copies ≡ Some copy
  place : copy.gateway < length peers
  same : next_number first copy.gateway ≡ next_number peers copy.gateway
  room : copy.command ≡ None → next_number peers copy.gateway < 9223372036854775808

-- what was ready stays so, but at one gateway
abbrev StaysReady : List Peer → ℕ → List Peer → List PacketCopy → List Peer → List PacketCopy → Type 0
StaysReady first gateway peers copies later_peers later =
    (copy : PacketCopy) → gateway ≢ copy.gateway → IsReady first peers copies copy → IsReady first later_peers later copy

module _ (number : ℕ) (first : List Peer) where
  -- what follows, from any state in which what was ready stays so and a duplicate may be cancelled
  abbrev Goes : List Peer → List PacketCopy → ℕ → List Sending → Type 0
  Goes peers copies gateway sendings = (later_peers : List Peer) (later : List PacketCopy) →
      StaysReady first gateway peers copies later_peers later → MayCancel later → Does number later_peers later sendings

  moved_stays : (peers : List Peer) (copies : List PacketCopy) (gateway : ℕ) (order : Order) →
      StaysReady first gateway peers copies (peers_moved (Commanding gateway order) peers) (copies_moved peers (Commanding gateway order) copies)
  moved_stays peers copies gateway order copy apart ready =
      search (arith, next_elsewhere, find_commanded, command_with, length_moved, ready.room)

  -- a release or a cancel of a copy, and what follows
  command_goes : (peers : List Peer) (copies : List PacketCopy) (order : Order) (copy : PacketCopy)
      (sendings : List Sending) →
      IsReady first peers copies copy → IsRight order copies copy → HasOrder order copy →
      Goes peers copies copy.gateway sendings →
      Does number peers copies (command_of first number order copy ++ sendings)
  command_goes peers copies order copy sendings ready right has goes = unless (is_answered copy) refl
    where
      among : Contains copies copy
      among = (find_is (λ (c : PacketCopy). c.gateway == copy.gateway) copies copy ready.found).0

      unchanged : (copy.command ≡ None → ⊥) → Does number peers copies sendings
      unchanged sent = goes peers copies (λ other apart is. is) (may_still order copies copy among right has sent)

      command : Command
      command = command_with order (next_number peers copy.gateway)

      by : (there : Option Command) → copy.command ≡ there → Does number peers copies (command_by there first number order copy ∷ sendings)
      by (Some before) e = sends (own_number number) (
        refl,
        has_copy copies copy among,
        record {
          command = before;
          sent = e;
          order_is = subst (λ (o : Option Command). IfSome o (λ (c : Command). c.order ≡ order)) e has;
          number_is = refl;
        },
      )
          idles (unchanged (λ none. absurd (cc)))
      by None e =
          let one : CommandsOne copies copy.gateway order = record { copy = copy; found = ready.found; fresh = e; right = right } in
          let same : commanded copy.gateway command copy ≡ with_command command copy =
          ap (λ (b : Bool). if b then with_command command copy else copy) (own_number copy.gateway) in
          let there : Contains (map (commanded copy.gateway command) copies) (with_command command copy) =
          subst (Contains (map (commanded copy.gateway command) copies)) same
          (in_map (commanded copy.gateway command) copies copy among) in
          subst (λ (n : ℕ). Does number peers copies
          (send.Command number copy.gateway copy.number n order true ∷ sendings)) (sym ready.same)
          (sends (own_number number) (
            refl,
            has_copy (map (commanded copy.gateway command) copies) (with_command command copy) there,
            record { command = command; sent = ap (λ (o : Option Command). option_or o (Some command)) e; order_is = refl; number_is = refl },
          )
          (moves (Commanding copy.gateway order) (record { within = ready.place; room = ready.room e; fits = one }))
          (goes _ _ (moved_stays peers copies copy.gateway order) (may_commanded order copies copy.gateway _ one)))

      unless : (answered : Bool) → is_answered copy ≡ answered → Does number peers copies (command_unless answered first number order copy ++ sendings)
      unless true e = unchanged (λ none. let is_not : is_answered copy ≡ false =
          ap (λ (o : Option Command). option_map_or (λ (c : Command). c.is_answered) o false) none in absurd (cc))
      unless false e = by copy.command refl

  settling_goes : (peers : List Peer) (copies : List PacketCopy) (verdict : Verdict) (copy : PacketCopy)
      (sendings : List Sending) →
      IsReady first peers copies copy → MayCancel copies → HasOrder Cancel copy →
      Goes peers copies copy.gateway sendings →
      Does number peers copies (settling_by verdict first number copy ++ sendings)
  settling_goes peers copies Unknown copy sendings ready may has goes =
      sends (own_number number)
      (refl, has_copy copies copy (find_is (λ (c : PacketCopy). c.gateway == copy.gateway) copies copy ready.found).0)
      idles (goes peers copies (λ other apart is. is) may)
  settling_goes peers copies Held copy sendings ready may has goes =
      command_goes peers copies Cancel copy sendings ready may has goes
  settling_goes peers copies _ copy sendings ready may has goes = goes peers copies (λ other apart is. is) may

  -- each duplicate is let be, or put out of the way
  abbrev Settles : (PacketCopy → List Sending) → List Peer → List PacketCopy → PacketCopy → Type 0
  Settles f peers copies copy =
      (f copy ≡ []) ⊎ ((f copy ≡ settling first number copy) × IsReady first peers copies copy × HasOrder Cancel copy)

  settles : (f : PacketCopy → List Sending) (duplicates : List PacketCopy) → AreApart duplicates →
      (peers : List Peer) (copies : List PacketCopy) →
      MayCancel copies → ((copy : PacketCopy) → Contains duplicates copy → Settles f peers copies copy) →
      Does number peers copies (flat_map f duplicates)
  settles f [] apart peers copies may each = ends
  settles f (copy ∷ duplicates) apart peers copies may each =
      elim (each copy (in_head copy duplicates)) [
        | inl none ↦ subst (λ (xs : List Sending). Does number peers copies (xs ++ flat_map f duplicates)) (sym none)
            (settles f duplicates apart.1 peers copies may
            (λ other there. each other (contains_more duplicates copy other there)))
        | inr is ↦ subst (λ (xs : List Sending). Does number peers copies (xs ++ flat_map f duplicates)) (sym is.0)
            (settling_goes peers copies copy.verdict copy (flat_map f duplicates) is.1 may is.2
            (λ later_peers later stays may_later. settles f duplicates apart.1 later_peers later may_later
            (λ other there. elim (each other (contains_more duplicates copy other there)) [
              | inl none ↦ inl none
              | inr its ↦ inr (
                its.0,
                stays other
                    (each_contains (λ (o : PacketCopy). copy.gateway ≢ o.gateway) duplicates other apart.0 there)
                    its.1,
                its.2,
              )
            ])))
      ]

-- ---- at the start of a tick

-- there is a number left wherever the packet may draw one
abbrev pub HasRoom : List Peer → List PacketCopy → Type 0
HasRoom peers copies = (gateway : ℕ) → gateway < length peers → 1 ≤ left_at 2 gateway copies → next_number peers gateway < 9223372036854775808

is_ready : (peers : List Peer) (copies : List PacketCopy) → IsKept peers copies → HasRoom peers copies → (copy : PacketCopy) → Contains copies copy →
    IsReady peers peers copies copy
is_ready peers copies kept room copy there =
    let found : find_at copy.gateway copies ≡ Some copy = found_at copies copy kept.apart there in
    let place : copy.gateway < length peers = each_contains (IsPlaced peers) copies copy kept.places there in
    search (arith, weight_fresh)

module _ (number favourite : ℕ) (up : Bool) (peers : List Peer) (within : favourite < length peers) where
  copy_does : (alive : Bool) (copies : List PacketCopy) (is_plain : Bool) → HasRoom peers copies → are_none copies ≡ is_plain → find_at favourite copies ≡ None →
      Does number peers copies (copy_to favourite alive peers number is_plain)
  copy_does false copies is_plain room plain absent = ends
  copy_does true copies is_plain room plain absent =
      let copy : PacketCopy = new_copy favourite (next_number peers favourite) (are_none copies) in
      subst (λ (b : Bool). Does number peers copies
      (send.Data number favourite (next_number peers favourite) b true ∷ [])) plain
      (sends (own_number number) (refl, has_copy (copies ++ copy ∷ []) copy (Contains-push copies copy), refl)
      (moves (Copying favourite) (record {
        within = within;
        room = room favourite within (omega (arith, ap (weight_by 2) absent));
        fits = absent;
      })) ends)

  asking_does : (plain : PacketCopy) (duplicates : List PacketCopy) → HasRoom peers (plain ∷ duplicates) → Does number peers (plain ∷ duplicates) (asking favourite up peers number plain duplicates)
  asking_does plain duplicates room =
      cond_both (list_any (λ (copy : PacketCopy). is_held copy.verdict) duplicates) (test_of number plain ∷ [])
      (repeating (find_at favourite (plain ∷ duplicates)) favourite up peers number)
      (Does number peers (plain ∷ duplicates))
      (λ _. sends (own_number number) (refl, has_copy (plain ∷ duplicates) plain (in_head plain duplicates)) idles ends)
      (λ _. repeats (find_at favourite (plain ∷ duplicates)) refl)
    where
      repeats : (there : Option PacketCopy) → find_at favourite (plain ∷ duplicates) ≡ there →
          Does number peers (plain ∷ duplicates) (repeating there favourite up peers number)
      repeats (Some copy) e = sends (own_number number) (
        refl,
        has_copy (plain ∷ duplicates) copy
            (find_is (λ (c : PacketCopy). c.gateway == favourite) (plain ∷ duplicates) copy e).0,
        refl,
      ) idles ends
      repeats None e = copy_does up (plain ∷ duplicates) false room refl e

  -- where no duplicate is held there are only tests
  tests_do : (copies duplicates : List PacketCopy) →
      ((copy : PacketCopy) → Contains duplicates copy → Contains copies copy) →
      AllByRecursion (λ (copy : PacketCopy). is_held copy.verdict ≡ false) duplicates →
      Does number peers copies (flat_map (settling peers number) duplicates)
  tests_do copies [] there held = ends
  tests_do copies (copy ∷ duplicates) there held =
      by copy.verdict held.0
      (tests_do copies duplicates (λ other at. there other (contains_more duplicates copy other at)) held.1)
    where
      by : (verdict : Verdict) → is_held verdict ≡ false → Does number peers copies (flat_map (settling peers number) duplicates) →
          Does number peers copies (settling_by verdict peers number copy ++ flat_map (settling peers number) duplicates)
      by Unknown e rest = sends (own_number number)
          (refl, has_copy copies copy (there copy (in_head copy duplicates))) idles rest
      by Held e rest = absurd (cc)
      by _ e rest = rest

  module _ (plain : PacketCopy) (duplicates : List PacketCopy) (kept : IsKept peers (plain ∷ duplicates)) (room : HasRoom peers (plain ∷ duplicates)) where
    ready : (copy : PacketCopy) → Contains duplicates copy → IsReady peers peers (plain ∷ duplicates) copy
    ready copy there = is_ready peers (plain ∷ duplicates) kept room copy (contains_more duplicates plain copy there)

    all_settle : is_waiting plain.verdict ≡ false →
        Does number peers (plain ∷ duplicates) (flat_map (settling peers number) duplicates)
    all_settle settled = search (arith, settles, false≢true, ready, cancelled, is_waiting)

    releasing_does : plain.verdict ≡ Sealed → (choice : Option PacketCopy) → chosen duplicates ≡ choice →
        Does number peers (plain ∷ duplicates) (releasing choice peers number duplicates)
    releasing_does sealed None is =
        tests_do (plain ∷ duplicates) duplicates (λ copy there. contains_more duplicates plain copy there)
        (none_held duplicates is)
    releasing_does sealed (Some choice) is =
        command_goes number peers peers (plain ∷ duplicates) Release choice (flat_map (settling_beside choice peers number) duplicates)
        (ready choice (chosen_is duplicates choice is)) (sealed, is)
        (choice_released plain duplicates kept.chosen kept.waits sealed choice is)
        (λ later_peers later stays may. settles number peers
        (settling_beside choice peers number) duplicates kept.apart.1 later_peers later may
        (λ copy there. elim (eqb_tells copy.gateway choice.gateway) [
          | inl same ↦ inl (rw same.0 refl)
          | inr differs ↦ inr (
            rw differs.0 refl,
            stays copy (λ e. differs.1 (sym e)) (ready copy there),
            cancelled plain duplicates kept.chosen copy there (λ _ its.
                let both : Some copy ≡ Some choice = sym its ∙ is in
                let same : copy ≡ choice = cc in
                differs.1 (ap (λ (c : PacketCopy). c.gateway) same)),
          )
        ]))

    verdict_does : (verdict : Verdict) → plain.verdict ≡ verdict →
        Does number peers (plain ∷ duplicates) (due_by_verdict verdict favourite up peers number plain duplicates)
    verdict_does verdict is = grind (arith, asking_does, releasing_does, all_settle, is_waiting)

  pub due_does : (copies : List PacketCopy) → IsKept peers copies → HasRoom peers copies → Does number peers copies (due_by_copies favourite up peers number copies)
  due_does copies kept room = grind (arith, copy_does, verdict_does)
