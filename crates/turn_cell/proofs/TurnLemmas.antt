-- What a turn keeps of what passes know, on plain lists.
use Rattle.std.proofs.Common.{◌≡◌, ◌≢◌, ◌⊎◌, inl, inr, ⊎_elim, ℕ, ◌<◌, ◌≤◌, Bool, true, false, [], ◌∷◌, ◌++◌, length, take, refl, sym, ap, ◌∙◌, subst, append_assoc, arith, Option, Some, None}
use Rattle.turn_cell.proofs.Names.{added_by, Adds, after_turn, All, All-append, All-nil, All-push, All-weaker, append-nil, AreAligned, AreBy, AreSound, base, Begins, by_session, dite, Facts, facts_of, Follows, front, HistoryEntry, IsLegal, IsSublist, joined, kept, KeptTurn, Knowledge, length-take-le, Owes, Owns, placed, Saw, Stands, ℕ_discrete}
use Rattle.gw_base.specs.Faults.{Stood}
use Rattle.turn_cell.proofs.Lists.{Entries, Pairs, added_by-append, after_same, all_first, begins_more, begins_self, begins_take, begins_then, begins_whole, by_other, by_own, by_session-append, placed-append, sub_append, sub_first, sub_nil, take_begun, two_beginnings}

module _ (told : Bool) where
  -- the front of sound facts begins their list
  front_begins : (f : Facts) → AreSound told f → told ≡ true → Begins (front f) f.list
  front_begins f s t = begins_then (front f) f.firm f.list (begins_take f.length f.firm) (s.begins t)

  -- the front stays where it is once something was cut
  front_stays : (found left : Facts) → left.length ≡ found.length → found.length ≤ length found.firm → Begins found.firm left.firm → front left ≡ front found
  front_stays found left same within more = ap (λ (n : ℕ). take n left.firm) same ∙ take_begun found.length found.firm left.firm more within

  -- a count that stood all along stood in each part of the way
  stood_first : (a b c : ℕ) → a ≤ b → b ≤ c → Stood a c → Stood a b
  stood_first a b c ab bc s = let x = s.0 in let y = s.1 in (omega arith, omega arith)

  stood_then : (a b c : ℕ) → a ≤ b → b ≤ c → Stood a c → Stood b c
  stood_then a b c ab bc s = let x = s.0 in let y = s.1 in (omega arith, omega arith)

  -- what follows a turn follows it behind a turn more
  pub follows_on : (l found left : Facts) → Follows told l found → Owes told found left → AreSound told found → Follows told l left
  follows_on l found left f o sound = record {
    faults = let a = f.faults in let b = o.faults in omega arith;
    cuts = let a = f.cuts in let b = o.cuts in omega arith;
    calm = λ (s : Stood l.faults left.faults).
        o.cause (stood_then l.faults found.faults left.faults f.faults o.faults s) ∙ f.calm (stood_first l.faults found.faults left.faults f.faults o.faults s);
    goes_on = λ t. λ (s : Stood l.cuts left.cuts).
        begins_then l.list found.list left.list (f.goes_on t (stood_first l.cuts found.cuts left.cuts f.cuts o.cuts s)) (o.list t (stood_then l.cuts found.cuts left.cuts f.cuts o.cuts s));
    entries = λ (s : Stood l.cuts left.cuts).
        let a = f.entries (stood_first l.cuts found.cuts left.cuts f.cuts o.cuts s) in let b = o.entries (stood_then l.cuts found.cuts left.cuts f.cuts o.cuts s) in omega arith;
    grows = let a = f.grows in let b = o.grows in omega arith;
    aligned = λ t. dite (ℕ_discrete found.cuts 0)
        (λ (none_cut : found.cuts ≡ 0). let a = f.cuts in let first : Stood l.cuts found.cuts = (omega arith, omega arith) in
        let goes = f.goes_on t first in
        ⊎_elim
        (λ (b : Begins (front left) found.list). two_beginnings (front left) l.list found.list b goes)
        (λ (b : Begins found.list (front left)). inr (begins_then l.list found.list (front left) goes b))
        (o.aligned t none_cut))
        (λ (some_cut : found.cuts ≢ 0). subst (λ (xs : Entries). AreAligned xs l.list)
        (sym (front_stays found left (o.still (omega arith)) (sound.firm t) (o.firm t))) (f.aligned t));
  }

  -- what a turn left follows it
  pub follows_own : (left : Facts) → AreSound told left → Follows told left left
  follows_own left sound = record {
    faults = omega arith;
    cuts = omega arith;
    calm = λ _. refl;
    goes_on = λ t _. begins_self left.list;
    entries = λ _. omega arith;
    grows = omega arith;
    aligned = λ t. inl (front_begins left sound t);
  }

  pub legal_on : (k : Knowledge) (found left : Facts) → IsLegal told k found → Owes told found left → AreSound told found → IsLegal told k left
  legal_on k found left l o sound = record {
    size = o.size ∙ l.size;
    since = let a = l.since in let b = o.faults in omega arith;
    seen = let a = l.seen in let b = o.grows in omega arith;
    known = λ t. begins_then k.known found.firm left.firm (l.known t) (o.firm t);
    turns = All-weaker (λ (t : KeptTurn). Follows told (facts_of t.left) found) (λ (t : KeptTurn). Follows told (facts_of t.left) left)
        (λ (t : KeptTurn) f. follows_on (facts_of t.left) found left f o sound) k.turns l.turns;
  }

  pub legal_own : (k : Knowledge) (found left : Facts) (drops : Bool) (added : Entries) → IsLegal told k found → Owes told found left → AreSound told found → AreSound told left
      → IsLegal told (after_turn k found left drops added) left
  legal_own k found left drops added l o sound leaves = record {
    size = o.size ∙ l.size;
    since = let a = l.since in let b = o.faults in omega arith;
    seen = omega arith;
    known = λ t. begins_self left.firm;
    turns = All-push (λ (t : KeptTurn). Follows told (facts_of t.left) left) k.turns (kept found left drops added)
        (legal_on k found left l o sound).turns (follows_own left leaves);
  }

  -- what is seen
  list_seen : (l now : Facts) → AreSound told now → Follows told l now → told ≡ true → length l.list ≤ now.length → Begins l.list now.firm
  list_seen l now s f t short =
      let long : length (front now) ≡ now.length = length-take-le now.length now.firm (s.firm t) in
      ⊎_elim
      (λ (b : Begins (front now) l.list).
      subst (λ (xs : Entries). Begins xs now.firm) (sym (begins_whole (front now) l.list b (omega arith))) (begins_take now.length now.firm))
      (λ (b : Begins l.list (front now)). begins_then l.list (front now) now.firm b (begins_take now.length now.firm))
      (f.aligned t)

  abbrev pub knowing : Knowledge → Facts → Knowledge
  knowing k now = record k { seen = now.length; known = now.firm }

  pub saw : (k : Knowledge) (now : Facts) → IsLegal told k now → AreSound told now → Saw told now.length k (knowing k now)
  saw k now l sound = record {
    same = refl;
    later = l.seen;
    grows = l.known;
    reaches = λ t. sound.firm t;
    lists = λ t. All-weaker (λ (u : KeptTurn). Follows told (facts_of u.left) now)
        (λ (u : KeptTurn). length (facts_of u.left).list ≤ now.length → Begins (facts_of u.left).list now.firm)
        (λ (u : KeptTurn) f short. list_seen (facts_of u.left) now sound f t short) k.turns l.turns;
  }

  pub legal_seen : (k : Knowledge) (now : Facts) → IsLegal told k now → IsLegal told (knowing k now) now
  legal_seen k now l = record { size = l.size; since = l.since; seen = omega arith; known = λ t. begins_self now.firm; turns = l.turns }

-- ---- which entries stand

-- of entries that begin with another list, those that stand and those behind
pub record Cut (stood tail kept_part : Entries) : Type 0 where
  pub stood' : Entries
  pub tail' : Entries
  pub whole : kept_part ≡ stood' ++ tail'
  pub stood_is : Begins stood' stood
  pub tail_is : Begins tail' tail
  pub either : (stood' ≡ stood) ⊎ (tail' ≡ [])
  pub at_least : (stood' ≡ stood) ⊎ (stood' ≡ kept_part)

uncut : (stood tail : Entries) → Cut stood tail (stood ++ tail)
uncut stood tail = record {
  stood' = stood;
  tail' = tail;
  whole = refl;
  stood_is = begins_self stood;
  tail_is = begins_self tail;
  either = inl refl;
  at_least = inl refl;
}

cut : (stood tail part : Entries) → Begins part (stood ++ tail) → Cut stood tail part
cut stood tail part b = ⊎_elim
    (λ (p : Begins part stood). record {
      stood' = part;
      tail' = [];
      whole = sym (append-nil part);
      stood_is = p;
      tail_is = (tail, refl);
      either = inr refl;
      at_least = inr refl;
    })
    (λ (p : Begins stood part). record {
      stood' = stood;
      tail' = p.0;
      whole = p.1;
      stood_is = begins_self stood;
      tail_is = (b.0, after_same stood tail (p.0 ++ b.0) (b.1 ∙ ap (λ (l : Entries). l ++ b.0) p.1 ∙ append_assoc stood p.0 b.0));
      either = inl refl;
      at_least = inl refl;
    })
    (two_beginnings part stood (stood ++ tail) b (begins_more stood tail))

module _ (made : ℕ) (start found : Facts) (stood tail : Entries) (s : Stands made start found stood tail) where
  -- what a turn adds its entries behind
  pub cut_at : (drops : Bool) → Begins found.firm found.list → Cut stood tail (base drops found)
  cut_at false b = subst (Cut stood tail) (sym s.whole) (uncut stood tail)
  cut_at true b = cut stood tail found.firm
      (b.0 ++ found.torn, sym s.whole ∙ ap (λ (l : Entries). l ++ found.torn) b.1 ∙ append_assoc found.firm b.0 found.torn)

  begins_base : (drops : Bool) → Begins found.firm found.list → Begins start.firm (base drops found)
  begins_base true b = s.begins
  begins_base false b = begins_then start.firm found.firm (joined found) s.begins
      (begins_then found.firm found.list (joined found) b (found.torn, refl))

  made_by_these : (session : Option ℕ) (n : ℕ) (added : Entries) → AreBy session added → ((m : ℕ) → session ≡ Some m → m ≡ n) → n < made
      → All (λ (e : HistoryEntry). e.caller.session < made) added
  made_by_these None n added by own below = subst (All (λ (e : HistoryEntry). e.caller.session < made)) (sym by) (All-nil (λ (e : HistoryEntry). e.caller.session < made))
  made_by_these (Some m) n added by own below = All-weaker (λ (e : HistoryEntry). e.caller.session ≡ m) (λ (e : HistoryEntry). e.caller.session < made)
      (λ (e : HistoryEntry) (is : e.caller.session ≡ m). let at = own m refl in omega arith) added by

  pub stands_on : (left : Facts) (session : Option ℕ) (n : ℕ) (drops : Bool) (added : Entries) → Begins found.firm found.list → Adds session found left drops added
      → Begins found.firm left.firm → ((m : ℕ) → session ≡ Some m → m ≡ n) → n < made
      → (c : Cut stood tail (base drops found)) → Stands made start left c.stood' (c.tail' ++ added)
  stands_on left session n drops added sound a firm own below c = record {
    whole = a.stands ∙ ap (λ (l : Entries). l ++ added) c.whole ∙ append_assoc c.stood' c.tail' added;
    stood_is = begins_then c.stood' stood (joined start) c.stood_is s.stood_is;
    firm = ⊎_elim (λ (e : c.stood' ≡ stood). subst (Begins start.firm) (sym e) s.firm)
        (λ (e : c.stood' ≡ base drops found). subst (Begins start.firm) (sym e) (begins_base drops sound)) c.at_least;
    begins = begins_then start.firm found.firm left.firm s.begins firm;
    made_by = All-append (λ (e : HistoryEntry). e.caller.session < made) c.tail' added
        (let b = c.tail_is in all_first (λ (e : HistoryEntry). e.caller.session < made) c.tail' b.0 (subst (All (λ (e : HistoryEntry). e.caller.session < made)) b.1 s.made_by))
        (made_by_these session n added a.owned own below);
  }

-- what is left of the entries of a pass
owns_cut : (stood tail part : Entries) (c : Cut stood tail part) (k : Knowledge) → Owns stood tail k → Owns c.stood' c.tail' k
owns_cut stood tail part c k o = ⊎_elim
    (λ (e : c.stood' ≡ stood). let b = c.tail_is in
    let split : by_session k.number (placed stood tail) ≡ by_session k.number (placed stood c.tail') ++ by_session k.number (placed (stood ++ c.tail') b.0) =
    ap (λ (l : Entries). by_session k.number (placed stood l)) b.1 ∙ ap (by_session k.number) (placed-append stood c.tail' b.0)
    ∙ by_session-append k.number (placed stood c.tail') (placed (stood ++ c.tail') b.0) in
    subst (λ (l : Entries). Owns l c.tail' k) (sym e)
    (sub_first (by_session k.number (placed stood c.tail')) (by_session k.number (placed (stood ++ c.tail') b.0)) (added_by k.turns)
    (subst (λ (l : Pairs). IsSublist l (added_by k.turns)) split o)))
    (λ (e : c.tail' ≡ []). subst (λ (l : Entries). Owns c.stood' l k) (sym e) (sub_nil (added_by k.turns)))
    c.either

-- none of the entries that a turn adds is another pass's
none_of : (session : Option ℕ) (n m : ℕ) (before added : Entries) → AreBy session added → ((x : ℕ) → session ≡ Some x → x ≡ n) → n ≢ m
    → by_session m (placed before added) ≡ []
none_of None n m before added by own apart = ap (λ (l : Entries). by_session m (placed before l)) by
none_of (Some x) n m before added by own apart = by_other m before added
    (All-weaker (λ (e : HistoryEntry). e.caller.session ≡ x) (λ (e : HistoryEntry). e.caller.session ≢ m)
    (λ (e : HistoryEntry) (is : e.caller.session ≡ x) (at : e.caller.session ≡ m). apart (sym (own x refl) ∙ sym is ∙ at)) added by)

all_of : (session : Option ℕ) (n : ℕ) (before added : Entries) → AreBy session added → ((x : ℕ) → session ≡ Some x → x ≡ n)
    → by_session n (placed before added) ≡ placed before added
all_of None n before added by own = ap (λ (l : Entries). by_session n (placed before l)) by ∙ ap (λ (l : Entries). placed before l) (sym by)
all_of (Some x) n before added by own = by_own n before added (subst (λ (y : ℕ). All (λ (e : HistoryEntry). e.caller.session ≡ y) added) (own x refl) by)

two_parts : (stood tail added : Entries) (n : ℕ)
    → by_session n (placed stood (tail ++ added)) ≡ by_session n (placed stood tail) ++ by_session n (placed (stood ++ tail) added)
two_parts stood tail added n = ap (by_session n) (placed-append stood tail added) ∙ by_session-append n (placed stood tail) (placed (stood ++ tail) added)

module _ (stood tail : Entries) (found left : Facts) (session : Option ℕ) (n : ℕ) (drops : Bool) (added : Entries) (a : Adds session found left drops added)
    (own : (x : ℕ) → session ≡ Some x → x ≡ n) (c : Cut stood tail (base drops found)) where
  pub owns_on : (k : Knowledge) → n ≢ k.number → Owns stood tail k → Owns c.stood' (c.tail' ++ added) k
  owns_on k apart o = subst (λ (l : Pairs). IsSublist l (added_by k.turns))
      (sym (two_parts c.stood' c.tail' added k.number
      ∙ ap (λ (l : Pairs). by_session k.number (placed c.stood' c.tail') ++ l) (none_of session n k.number (c.stood' ++ c.tail') added a.owned own apart)
      ∙ append-nil (by_session k.number (placed c.stood' c.tail'))))
      (owns_cut stood tail (base drops found) c k o)

  pub owns_own : (k : Knowledge) → n ≡ k.number → Owns stood tail k → Owns c.stood' (c.tail' ++ added) (after_turn k found left drops added)
  owns_own k same o =
      let own' : (x : ℕ) → session ≡ Some x → x ≡ k.number = λ x e. own x e ∙ same in
      let mine : by_session k.number (placed c.stood' (c.tail' ++ added)) ≡ by_session k.number (placed c.stood' c.tail') ++ placed (base drops found) added =
      two_parts c.stood' c.tail' added k.number
      ∙ ap (λ (l : Pairs). by_session k.number (placed c.stood' c.tail') ++ l) (all_of session k.number (c.stood' ++ c.tail') added a.owned own')
      ∙ ap (λ (b : Entries). by_session k.number (placed c.stood' c.tail') ++ placed b added) (sym c.whole) in
      subst (λ (l : Pairs). IsSublist l (added_by (k.turns ++ kept found left drops added ∷ []))) (sym mine)
      (subst (λ (l : Pairs). IsSublist (by_session k.number (placed c.stood' c.tail') ++ placed (base drops found) added) l)
      (sym (added_by-append k.turns (kept found left drops added)))
      (sub_append (by_session k.number (placed c.stood' c.tail')) (added_by k.turns) (placed (base drops found) added)
      (owns_cut stood tail (base drops found) c k o)))
