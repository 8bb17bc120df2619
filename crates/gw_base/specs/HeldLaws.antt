-- What one more entry at the end changes of the copies that a gateway holds.
use Rattle.std.proofs.Common.{◌≡◌, ℕ, ◌+◌, ◌&&◌, Bool, true, false, not, if◌then◌else◌, List, [], ◌∷◌, ◌++◌, refl, sym, ap, ◌∙◌, append_assoc, arith, filter, count_by}
use Rattle.std.proofs.lemmas.List.{append-nil}
use Rattle.std.proofs.lemmas.List.Elements.{filter-append}
use Rattle.std.proofs.lemmas.List.Sums.{sum_by-append}
use Rattle.gw_base.specs.declared.address.NodeId.{NodeId}
use Rattle.gw_base.specs.declared.held.HeldKey.{HeldKey}
use Rattle.gw_base.specs.declared.history.HistoryAct.{HistoryAct}
use Rattle.gw_base.specs.declared.history.HistoryAct.TheVariants.{Start, Path, File, Hold, Seal, Release, Cancel, Tick, Close}
use Rattle.gw_base.specs.declared.history.HistoryEntry.{HistoryEntry}
use Rattle.gw_base.specs.declared.scan.Copies.{Copies}
use Rattle.gw_base.specs.declared.scan.HoldFate.{HoldFate}
use Rattle.gw_base.specs.declared.scan.HoldFate.TheVariants as fate
use Rattle.gw_base.specs.HeldKeys.{held_by, held_if, held_keys}
use Rattle.gw_base.specs.History.{begins_epoch, copies_of, fate_of, names, with_entry, with_fate}
use Rattle.gw_base.specs.View.{stays_held, strands}

-- what became of a held number after one more entry
abbrev fate_after : HoldFate → Bool → Bool → HoldFate
fate_after fate.Held begins named = if begins then fate.Stranded else (if named then fate.Settled else fate.Held)
fate_after fate.Stranded begins named = fate.Stranded
fate_after fate.Settled begins named = fate.Settled

fate_of-append : (node number : ℕ) (h : List HistoryEntry) (e : HistoryEntry) → fate_of node number (h ++ e ∷ []) ≡ fate_after (fate_of node number h) (begins_epoch node e.act) (names node number e.act)
fate_of-append node number [] e = refl
fate_of-append node number (d ∷ h) e = by_tests (begins_epoch node d.act) (names node number d.act) (fate_of-append node number h e)
  where
    by_tests : (begins named : Bool) → fate_of node number (h ++ e ∷ []) ≡ fate_after (fate_of node number h) (begins_epoch node e.act) (names node number e.act)
        → (if begins then fate.Stranded else (if named then fate.Settled else fate_of node number (h ++ e ∷ []))) ≡ fate_after (if begins then fate.Stranded else (if named then fate.Settled else fate_of node number h)) (begins_epoch node e.act) (names node number e.act)
    by_tests true named rest = refl
    by_tests false true rest = refl
    by_tests false false rest = rest

held_if-after : (f : HoldFate) (n : NodeId) (x : ℕ) (begins named : Bool) → held_if (fate_after f begins named) n x ≡ filter (λ (key : HeldKey). not begins && not named) (held_if f n x)
held_if-after fate.Held n x true named = refl
held_if-after fate.Held n x false true = refl
held_if-after fate.Held n x false false = refl
held_if-after fate.Stranded n x begins named = refl
held_if-after fate.Settled n x begins named = refl

held_if-stays : (f : HoldFate) (n : NodeId) (x : ℕ) (act : HistoryAct) → filter (λ (key : HeldKey). not (begins_epoch n.0 act) && not (names n.0 x act)) (held_if f n x) ≡ filter (λ (key : HeldKey). stays_held act key) (held_if f n x)
held_if-stays fate.Held n x act = refl
held_if-stays fate.Stranded n x act = refl
held_if-stays fate.Settled n x act = refl

held_by-append : (act : HistoryAct) (h : List HistoryEntry) (e : HistoryEntry) → held_by act (h ++ e ∷ []) ≡ filter (λ (key : HeldKey). stays_held e.act key) (held_by act h)
held_by-append (Hold n x packet) h e =
    ap (λ (f : HoldFate). held_if f n x) (fate_of-append n.0 x h e) ∙ held_if-after (fate_of n.0 x h) n x (begins_epoch n.0 e.act) (names n.0 x e.act) ∙ held_if-stays (fate_of n.0 x h) n x e.act
held_by-append Start h e = refl
held_by-append (Path n port counter) h e = refl
held_by-append (File n x packet) h e = refl
held_by-append (Seal n x) h e = refl
held_by-append (Release n xs) h e = refl
held_by-append (Cancel n xs) h e = refl
held_by-append Tick h e = refl
held_by-append Close h e = refl

pub held_keys-append : (h : List HistoryEntry) (e : HistoryEntry) → held_keys (h ++ e ∷ []) ≡ filter (λ (key : HeldKey). stays_held e.act key) (held_keys h) ++ held_by e.act []
held_keys-append [] e = append-nil (held_by e.act [])
held_keys-append (d ∷ h) e =
    rw (held_by-append d.act h e, held_keys-append h e, filter-append (λ (key : HeldKey). stays_held e.act key) (held_by d.act h) (held_keys h), append_assoc) refl

-- ---- stranded copies

stranded_alone : (act : HistoryAct) → (with_entry act [] (record { held = 0; stranded = 0 })).stranded ≡ 0
stranded_alone (Hold n x packet) = refl
stranded_alone Start = refl
stranded_alone (Path n port counter) = refl
stranded_alone (File n x packet) = refl
stranded_alone (Seal n x) = refl
stranded_alone (Release n xs) = refl
stranded_alone (Cancel n xs) = refl
stranded_alone Tick = refl
stranded_alone Close = refl

stranded_by_fate : (f : HoldFate) (n : NodeId) (x : ℕ) (act : HistoryAct) (named : Bool) (old new : Copies) (keys : List HeldKey)
    → new.stranded ≡ old.stranded + count_by (λ (key : HeldKey). strands act key) keys
    → (with_fate (fate_after f (begins_epoch n.0 act) named) new).stranded ≡ (with_fate f old).stranded + count_by (λ (key : HeldKey). strands act key) (held_if f n x ++ keys)
stranded_by_fate fate.Held n x act named old new keys h = by_tests (begins_epoch n.0 act) named ∙ ap (λ (k : ℕ). old.stranded + k) (sym first)
  where
    first : count_by (λ (key : HeldKey). strands act key) (held_if fate.Held n x ++ keys) ≡ (if begins_epoch n.0 act then 1 else 0) + count_by (λ (key : HeldKey). strands act key) keys
    first = sum_by-append (λ (key : HeldKey). if strands act key then 1 else 0) (held_if fate.Held n x) keys ∙ omega arith

    by_tests : (begins named : Bool) → (with_fate (fate_after fate.Held begins named) new).stranded ≡ old.stranded + ((if begins then 1 else 0) + count_by (λ (key : HeldKey). strands act key) keys)
    by_tests true named = omega (arith, h)
    by_tests false true = omega (arith, h)
    by_tests false false = omega (arith, h)
stranded_by_fate fate.Stranded n x act named old new keys h = omega (arith, h)
stranded_by_fate fate.Settled n x act named old new keys h = h

stranded_by_entry : (d : HistoryAct) (h : List HistoryEntry) (e : HistoryEntry) (old new : Copies) (keys : List HeldKey)
    → new.stranded ≡ old.stranded + count_by (λ (key : HeldKey). strands e.act key) keys
    → (with_entry d (h ++ e ∷ []) new).stranded ≡ (with_entry d h old).stranded + count_by (λ (key : HeldKey). strands e.act key) (held_by d h ++ keys)
stranded_by_entry (Hold n x packet) h e old new keys r = rw (fate_of-append n.0 x h e) (stranded_by_fate (fate_of n.0 x h) n x e.act (names n.0 x e.act) old new keys r)
stranded_by_entry Start h e old new keys r = r
stranded_by_entry (Path n port counter) h e old new keys r = r
stranded_by_entry (File n x packet) h e old new keys r = r
stranded_by_entry (Seal n x) h e old new keys r = r
stranded_by_entry (Release n xs) h e old new keys r = r
stranded_by_entry (Cancel n xs) h e old new keys r = r
stranded_by_entry Tick h e old new keys r = r
stranded_by_entry Close h e old new keys r = r

pub stranded-append : (h : List HistoryEntry) (e : HistoryEntry) → (copies_of (h ++ e ∷ [])).stranded ≡ (copies_of h).stranded + count_by (λ (key : HeldKey). strands e.act key) (held_keys h)
stranded-append [] e = stranded_alone e.act
stranded-append (d ∷ h) e = stranded_by_entry d.act h e (copies_of h) (copies_of (h ++ e ∷ [])) (held_keys h) (stranded-append h e)
