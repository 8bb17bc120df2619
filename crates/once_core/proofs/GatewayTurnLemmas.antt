-- Moves of a gateway whose journal never fails, one after the other.
use Rattle.std.proofs.Common.{◌≡◌, ℕ, ◌+◌, ◌-◌, ◌≤◌, max, min, Bool, true, false, List, [], ◌++◌, length, take, drop, ap, sym, ◌∙◌, subst, arith, append_assoc, OnOk, Result, Ok, Err}
use Rattle.once_core.proofs.Names.{Addr, answer, answer_at, answered, BookValue, common_steps, cond-false, cut, decided, default_rules, delivered, drop-take, drop_all, failed, followed, Gateway, history_of, HistoryEntry, if_broken, is_expired, length-drop, length-take-le, Message, Moved, node_address, opened, quiet, readying, standing_for, take-append-drop, take-take, take_all, Waiting}
use Rattle.once_core.specs.GatewayFields.{gateway_value}
use Rattle.once_core.specs.declared.gateway.KeptGateway.TheInside.{Inside}
use Rattle.once_core.specs.Moves.{HasMoved, once_started}

pub ok_maps : {A E P Q : Type 0} (r : Result A E) → (P → Q) → OnOk r P → OnOk r Q
ok_maps (Ok a) f is = f is
ok_maps (Err e) f is = is

-- ---- what the history answers

-- the history that a gateway stores is that of its book
pub stored : (i : Inside) {g : Gateway} {h : List HistoryEntry} → gateway_value i ≡ g → h ≡ i.history.items → h ≡ history_of g.book
stored i is same = same ∙ sym (take-append-drop i.firm i.history.items) ∙ ap (λ (g : Gateway). history_of g.book) is

pub decided_at : (g : Gateway) (h : List HistoryEntry) (from : Addr) (octets : List ℕ) (m : Message)
    → h ≡ history_of g.book → from ≡ node_address m.node m.port → octets ≡ m.octets
    → decided (answer h from octets 16777216) ≡ answer_at default_rules (history_of g.book) m
decided_at g h from octets m hs fs os = λ i. decided (answer (hs i) (fs i) (os i) 16777216)

-- ---- a journal stays sound

ready_sound : (g : Gateway) → g.book.is_broken ≡ false → (readying default_rules quiet g).gateway.book.is_broken ≡ false
ready_sound g sound = grind arith

-- ---- two moves, of which the second is asked only of a sound journal

pub then_moves : (breaks goes : Gateway → Moved) (g g1 g2 : Gateway) (s0 s1 s2 : List Message) → g.book.is_broken ≡ false
    → HasMoved (readying default_rules quiet g) g1 s0 s1 → HasMoved (goes g1) g2 s1 s2
    → HasMoved (followed (readying default_rules quiet g) (if_broken breaks goes)) g2 s0 s2
then_moves breaks goes g g1 g2 s0 s1 s2 sound first second = moves (readying default_rules quiet g)
    (ready_sound g sound) first
  where
    moves : (ready : Moved) → ready.gateway.book.is_broken ≡ false → HasMoved ready g1 s0 s1
        → HasMoved (followed ready (if_broken breaks goes)) g2 s0 s2
    moves ready still_sound was = grind (arith, append_assoc s0 ready.sends (goes g1).sends)

pub delivers : (now : ℕ) (m : Message) (g g1 g2 : Gateway) (s0 s1 s2 : List Message) → g.book.is_broken ≡ false → g.is_down ≡ false
    → is_expired (history_of g.book) m ≡ false → HasMoved (readying default_rules quiet g) g1 s0 s1
    → HasMoved (answered default_rules now m g1) g2 s1 s2 → HasMoved (delivered default_rules now quiet m g) g2 s0 s2
delivers now m g g1 g2 s0 s1 s2 sound up fresh first second =
    let is : delivered default_rules now quiet m g ≡ followed (readying default_rules quiet g) (if_broken (failed m) (answered default_rules now m)) =
    cond-false g.is_down _ _ up ∙ cond-false g.book.is_broken _ _ sound ∙ cond-false (is_expired (history_of g.book) m) _ _ fresh in
    subst (λ (x : Moved). HasMoved x g2 s0 s2) (sym is)
    (then_moves (failed m) (answered default_rules now m) g g1 g2 s0 s1 s2 sound first second)

-- ---- stopping and opening

abbrev pub book_at : ℕ → List HistoryEntry → BookValue
book_at firm h = record { firm = take firm h; rest = drop firm h; cuts = 0; is_broken = false }

abbrev pub gateway_of : ℕ → List HistoryEntry → List Waiting → Bool → ℕ → Gateway
gateway_of firm h waiting down redirects = record { book = book_at firm h; waiting = waiting; is_down = down; redirects = redirects }

-- all of a history is firm
pub all_firm : (h : List HistoryEntry) (firm all : ℕ) → length h ≤ all
    → book_at all h ≡ standing_for (take firm h ++ drop firm h)
all_firm h firm all le =
    let front : take all h ≡ take firm h ++ drop firm h = take_all all h le ∙ sym (take-append-drop firm h) in
    let rest : drop all h ≡ [] = drop_all all h le in
    λ i. record { firm = front i; rest = rest i; cuts = 0; is_broken = false }

pub opens : (g : Gateway) (book : BookValue) (new : Gateway) → book ≡ standing_for (history_of g.book)
    → new ≡ once_started (record { book = book; waiting = []; is_down = false; redirects = 0 }) → new ≡ opened default_rules g
opens g book new is e = e ∙ ap (λ (b : BookValue). once_started (record { book = b; waiting = []; is_down = false; redirects = 0 })) is

-- so many entries are left of a history
pub record AreLeft (h : List HistoryEntry) (firm keep left : ℕ) : Type 0 where
  pub front : take firm (take left h) ≡ take firm h
  pub rest : drop firm (take left h) ≡ take (keep - length (take firm h)) (drop firm h)

pub are_left : (h : List HistoryEntry) (firm keep left : ℕ) → firm ≤ length h → left ≡ max firm (min keep (length h)) → AreLeft h firm keep left
are_left h firm keep left le is =
    let sum : left ≡ firm + (left - firm) = omega (arith, is) in
    record {
      front = grind (arith, common_steps, take-take {A = HistoryEntry});
      rest = grind (
        arith,
        common_steps,
        sum,
        drop-take firm (left - firm) h,
        length-take-le firm h le,
        take_all {A = HistoryEntry},
        length-drop {A = HistoryEntry},
      );
    }

pub cuts : (h new : List HistoryEntry) (firm keep left : ℕ) (wait waiting : List Waiting) (down : Bool) (redirects : ℕ)
    → new ≡ take left h → wait ≡ [] → AreLeft h firm keep left
    → gateway_of firm new wait true redirects ≡ cut keep (gateway_of firm h waiting down redirects)
cuts h new firm keep left wait waiting down redirects is none left_is =
    let front : take firm new ≡ take firm h = ap (take firm) is ∙ left_is.front in
    let rest : drop firm new ≡ take (keep - length (take firm h)) (drop firm h) = ap (drop firm) is ∙ left_is.rest in
    λ i. record { book = record { firm = front i; rest = rest i; cuts = 0; is_broken = false }; waiting = none i; is_down = true; redirects = redirects }
