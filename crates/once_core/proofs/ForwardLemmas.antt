-- States move as the table of answers says: those that end stay, and what an answer tells stays true.
use Rattle.std.proofs.Common.{◌≡◌, ℕ, Bool, true, false, List, [], ◌∷◌, ◌++◌, Contains, refl, sym, ap, subst, ◌∙◌, append_assoc, append-nil, arith, ◌==◌, ◌&&◌}
use Rattle.once_core.proofs.Names.{AllAdmitted, and_parts, are_distinct, by_last, epoch_of, false≢true, Filed, Fresh, given_state, Held, HistoryAct, HistoryEntry, is_act_lawful, is_fresh, is_held, is_list_fit, IsAdmitted, IsAsked, IsKnown, IsState, key_in, KeyState, Letter, list_all, list_any, moves_on, names, nat_tests, NodeId, observed, Orders, PacketKey, present_state, present_state_is, Released, Request, Rests, RestsBy, Sealed, Sends, start_of, StartsRise, state_of, state_of-append, Tells, Tests}
use Rattle.gw_base.specs.declared.history.HistoryAct.TheVariants as act
use Rattle.node_core.specs.declared.copy.Order.TheVariants as order
use Rattle.once_core.proofs.EachLemmas.{by_each_from, each_also}
use Rattle.once_core.proofs.EpochLemmas.{epoch_stays, present_epoch}
use Rattle.gw_base.specs.View.{state_after}
use Rattle.once_core.proofs.StateLemmas.{moves_further, stays, held_is_released, held_is_cancelled}
use Rattle.once_core.proofs.CaseLemmas.{if_known}

-- no request changes a state that ends
abbrev pub is_final : KeyState → Bool
is_final Fresh = false
is_final Held = false
is_final _ = true

-- the state of a key of the present epoch is that of its number
pub in_epoch : (key : PacketKey) (h : List HistoryEntry) → epoch_of key.node.0 h ≡ key.epoch
    → state_of key h ≡ present_state key.node.0 key.number h
in_epoch key h at = cc (present_state_is key.node key.number h)

module _ (letters : List Letter) (gateway : ℕ) where
  -- a key whose state ends isn't named by an entry that keeps to the table
  end_stays : (key : PacketKey) (h : List HistoryEntry) (e : HistoryEntry) → RestsBy letters gateway h e.act
      → is_final (state_of key h) ≡ true → state_of key (h ++ e ∷ []) ≡ state_of key h
  end_stays key h e rests ends = grind (arith, nat_tests, in_epoch key h, state_of-append key h e)

  pub state_stays : (h g : List HistoryEntry) (node start number : ℕ) (state : KeyState) → is_final state ≡ true → Rests letters gateway (h ++ g)
      → IsState h node start number state → IsState (h ++ g) node start number state
  state_stays h g node start number state ends rests is = record {
    epoch = is.epoch;
    begun = epoch_stays node start is.epoch h g is.begun;
    state_is =
        by_each_from (λ before e. RestsBy letters gateway before e.act) (λ k. state_of (key_in node number is.epoch) k ≡ state)
        (λ k e all one at. end_stays (key_in node number is.epoch) k e one (ap is_final at ∙ ends) ∙ at)
        h g rests is.state_is;
  }

  pub tells_on : (h g : List HistoryEntry) (letter : Letter) (request : Request) (cause : ℕ) → Rests letters gateway (h ++ g)
      → Tells h letter request cause → Tells (h ++ g) letter request cause
  tells_on h g letter (Sends true packet) cause rests told = λ filing. state_stays h g letter.node letter.start letter.number Filed refl rests (told filing)
  tells_on h g letter Tests cause rests told = (
    λ is. state_stays h g letter.node letter.start letter.number Filed refl rests (told.0 is),
    λ is. state_stays h g letter.node letter.start letter.number Sealed refl rests (told.1 is),
  )
  tells_on h g letter (Orders order.Release named) cause rests told = λ is. state_stays h g letter.node letter.start named Released refl rests (told is)
  tells_on h g letter _ cause rests told = tt

-- ---- a number that is fresh no more stays so

gives_none : (node number : ℕ) (a : HistoryAct) → names node number a ≡ true → is_fresh (given_state a) ≡ false
gives_none node number a named = grind arith

known_more : (key : PacketKey) (h : List HistoryEntry) (e : HistoryEntry) → is_fresh (state_of key h) ≡ false → is_fresh (state_of key (h ++ e ∷ [])) ≡ false
known_more key h e known = grind (arith, gives_none key.node.0 key.number, state_of-append key h e)

pub known_on : (h g : List HistoryEntry) (node start number : ℕ) → IsKnown h node start number → IsKnown (h ++ g) node start number
known_on h g node start number is = record {
  epoch = is.epoch;
  begun = epoch_stays node start is.epoch h g is.begun;
  state_is = by_last (λ (k : List HistoryEntry). is_fresh (state_of (key_in node number is.epoch) (h ++ k)) ≡ false)
      (subst (λ (k : List HistoryEntry). is_fresh (state_of (key_in node number is.epoch) k) ≡ false) (sym (append-nil h)) is.state_is)
      (λ k e rest. subst (λ (l : List HistoryEntry). is_fresh (state_of (key_in node number is.epoch) l) ≡ false) (append_assoc h k (e ∷ [])) (known_more (key_in node number is.epoch) (h ++ k) e rest)) g;
}

-- ---- more messages

abbrev pub Grows : List Letter → List Letter → Type 0
Grows letters more = (letter : Letter) → Contains letters letter → Contains more letter

asked_on : {letters more : List Letter} → Grows letters more → {node start gateway number : ℕ} {request : Request}
    → IsAsked letters node start gateway number request → IsAsked more node start gateway number request
asked_on grows is = record { port = is.port; kept = grows _ is.kept }

pub rests_on : (letters more : List Letter) → Grows letters more → (gateway : ℕ) (h : List HistoryEntry) → Rests letters gateway h → Rests more gateway h
rests_on letters more grows gateway =
    each_also (λ before e. RestsBy letters gateway before e.act) (λ before e. RestsBy more gateway before e.act) (λ h e rests. by_act h e.act rests) []
  where
    by_act : (h : List HistoryEntry) (a : HistoryAct) → RestsBy letters gateway h a → RestsBy more gateway h a
    by_act h (act.File n x packet) rests = (rests.0, asked_on grows rests.1)
    by_act h (act.Hold n x packet) rests = (rests.0, asked_on grows rests.1)
    by_act h (act.Seal n x) rests = (rests.0, asked_on grows rests.1)
    by_act h (act.Release n xs) rests =
        record { names = rests.names; own = rests.own; asked = asked_on grows rests.asked }
    by_act h _ rests = rests

-- ---- the present epoch

pub state_now : (h : List HistoryEntry) (node number : ℕ) (state : KeyState) → StartsRise h → present_state node number h ≡ state
    → IsState h node (start_of node h) number state
state_now h node number state rise is = record {
  epoch = epoch_of node h;
  begun = present_epoch node h rise;
  state_is = present_state_is (record { 0 = node }) number h ∙ is;
}

pub state_given_now : (h : List HistoryEntry) (e : HistoryEntry) (node number : ℕ) → StartsRise h → names node number e.act ≡ true
    → IsState (h ++ e ∷ []) node (start_of node h) number (given_state e.act)
state_given_now h e node number rise named = record {
  epoch = epoch_of node h;
  begun = epoch_stays node (start_of node h) (epoch_of node h) h (e ∷ []) (present_epoch node h rise);
  state_is = grind (arith, nat_tests, state_of-append (key_in node number (epoch_of node h)) h e);
}

-- a state that isn't fresh is one of a number that is known
known_of : {h : List HistoryEntry} {node start number : ℕ} {state : KeyState} → is_fresh state ≡ false
    → IsState h node start number state
    → IsKnown h node start number
known_of known is = record { epoch = is.epoch; begun = is.begun; state_is = ap is_fresh is.state_is ∙ known }

pub known_now : (h : List HistoryEntry) (node number : ℕ) (state : KeyState) → StartsRise h → present_state node number h ≡ state → is_fresh state ≡ false
    → IsKnown h node (start_of node h) number
known_now h node number state rise is known = known_of known (state_now h node number state rise is)

pub known_given_now : (h : List HistoryEntry) (e : HistoryEntry) (node number : ℕ) → StartsRise h → names node number e.act ≡ true → IsKnown (h ++ e ∷ []) node (start_of node h) number
known_given_now h e node number rise named = known_of (gives_none node number e.act named)
    (state_given_now h e node number rise named)

passes : (q : ℕ → Bool) (m : ℕ) (xs : List ℕ) → list_all q xs ≡ true → list_any (λ y. y == m) xs ≡ true → q m ≡ true
passes q m [] all any = absurd (false≢true any)
passes q m (x ∷ xs) all any = grind (arith, nat_tests, passes q m xs)

all_held : (h : List HistoryEntry) (n : NodeId) (xs : List ℕ) → is_list_fit (observed h n) xs ≡ true
    → list_all (λ y. is_held (present_state n.0 y h)) xs ≡ true
all_held h n [] fit = refl
all_held h n (x ∷ xs) fit = (and_parts (list_all (λ y. is_held (present_state n.0 y h)) (x ∷ xs)) (are_distinct (x ∷ xs)) fit).0

all_three : (a b c d : ℕ) (e : Bool) → ((a == b) && ((c == d) && e)) ≡ true → (a ≡ b) × (c ≡ d) × (e ≡ true)
all_three a b c d e is = grind (arith, nat_tests)

module _ (key : PacketKey) where
  held_here : (h : List HistoryEntry) (n : NodeId) (xs : List ℕ) → is_list_fit (observed h n) xs ≡ true
      → ((epoch_of key.node.0 h == key.epoch) && ((n.0 == key.node.0) && list_any (λ x. x == key.number) xs)) ≡ true
      → is_held (state_of key h) ≡ true
  held_here h n xs fit e =
      let at = all_three (epoch_of key.node.0 h) key.epoch n.0 key.node.0 (list_any (λ x. x == key.number) xs) e in
      ap is_held (in_epoch key h at.0) ∙ ap (λ (m : ℕ). is_held (present_state m key.number h)) (sym at.1)
      ∙ passes (λ y. is_held (present_state n.0 y h)) key.number xs (all_held h n xs fit) at.2

  act_moves : (h : List HistoryEntry) (a : HistoryAct) → is_act_lawful (observed h) a ≡ true
      → moves_on (state_of key h) (state_after key (epoch_of key.node.0 h) (state_of key h) a) ≡ true
  act_moves h (act.File n x packet) fit = grind (arith, nat_tests, in_epoch key h)
  act_moves h (act.Hold n x packet) fit = grind (arith, nat_tests, in_epoch key h)
  act_moves h (act.Seal n x) fit = grind (arith, nat_tests, in_epoch key h)
  act_moves h (act.Release n xs) fit = if_known (λ t. moves_on (state_of key h) t ≡ true)
      ((epoch_of key.node.0 h == key.epoch) && ((n.0 == key.node.0) && list_any (λ x. x == key.number) xs))
      (λ e. held_is_released (state_of key h) (held_here h n xs fit e)) (λ isnt. stays (state_of key h))
  act_moves h (act.Cancel n xs) fit = if_known (λ t. moves_on (state_of key h) t ≡ true)
      ((epoch_of key.node.0 h == key.epoch) && ((n.0 == key.node.0) && list_any (λ x. x == key.number) xs))
      (λ e. held_is_cancelled (state_of key h) (held_here h n xs fit e)) (λ isnt. stays (state_of key h))
  act_moves h a fit = grind arith

  -- the state moves on with what follows a history
  pub states_move : (h g : List HistoryEntry) → AllAdmitted (h ++ g) → moves_on (state_of key h) (state_of key (h ++ g)) ≡ true
  states_move h g all =
      by_each_from IsAdmitted (λ (h' : List HistoryEntry). moves_on (state_of key h) (state_of key h') ≡ true)
      (λ k e admitted fit so_far.
      moves_further (state_of key h) (state_of key k) (state_of key (k ++ e ∷ [])) so_far
      (subst (λ (t : KeyState). moves_on (state_of key k) t ≡ true) (sym (state_of-append key k e)) (act_moves k e.act fit)))
      h g all (stays (state_of key h))
