-- Why an answer isn't pending behind a turn that commits where it has to, and is lost only where the device failed.
use Rattle.std.proofs.Common.{◌≡◌, ◌≢◌, ℕ, ◌<◌, ◌≤◌, ◌^◌, ◌-◌, ◌==◌, Bool, true, false, if◌then◌else◌, List, [], ◌∷◌, ◌++◌, length, refl, sym, ap, subst, ◌∙◌, append_assoc, arith, inl, inr}
use Rattle.node_session.proofs.Names.{after_turn, All-contains, AreSound, Begins, book_facts, cases_lt, Contains, eqb-false, eqb-true, Facts, false_from_ne_true, Firm, firm_length, Follows, Ghosts, HasCommitted, HistoryEntry, is_above, IsCountedBy, IsToldAt, kept, KeptTurn, Knowledge, last_count, Learns, Lost, ltb-false, ltb-true, nat_lt, NotYet, or_cases, or_parts, Owes, Rose, Saw, Settled, settled_by, Settles, SettlesIn, tells_lists}
use Rattle.gw_base.specs.Faults.{Stood}
use Rattle.turn_cell.specs.Knowing.{facts_of}

pub begins_then : (xs ys zs : List HistoryEntry) → Begins xs ys → Begins ys zs → Begins xs zs
begins_then xs ys zs a b = (a.0 ++ b.0, b.1 ∙ ap (λ (h : List HistoryEntry). h ++ b.0) a.1 ∙ append_assoc xs a.0 b.0)

-- a count that isn't above another is no greater, and isn't the last one
no_greater : (count other : ℕ) → is_above count other ≡ false → count ≤ other
no_greater count other is = ltb-false other count (or_parts (count == last_count) (nat_lt other count) is).1

not_last : (count other : ℕ) → is_above count other ≡ false → count ≢ last_count
not_last count other is = eqb-false count last_count (or_parts (count == last_count) (nat_lt other count) is).0

-- a count that is above another is greater, or the last one
is_greater : (count other : ℕ) → is_above count other ≡ true → count ≤ other → count ≡ last_count
is_greater count other is most =
    elim (or_cases (count == last_count) (nat_lt other count) is) [
      | inl at ↦ eqb-true count last_count at
      | inr lt ↦ absurd (omega (arith, ltb-true other count lt, most))
    ]

-- a count that never falls and didn't stand rose
risen_by : (before after : ℕ) → before ≤ after → ¬ (Stood before after) → Rose before after
risen_by before after later moved =
    elim (cases_lt before after) [
      | inl more ↦ omega (arith, more)
      | inr most ↦
          elim (cases_lt before (2 ^ 64 - 1)) [
            | inl low ↦ absurd (moved (omega (arith, later, most), low))
            | inr high ↦ omega (arith, high, later)
          ]
    ]

-- of two beginnings of one list the shorter one begins the other
begins_shorter : (xs ys rest : List HistoryEntry) → Begins xs (ys ++ rest) → length xs ≤ length ys → Begins xs ys
begins_shorter [] ys rest begins short = (ys, refl)
begins_shorter (x ∷ xs) [] rest begins short = absurd (omega (arith, short))
begins_shorter (x ∷ xs) (y ∷ ys) rest begins short =
    let is : y ∷ (ys ++ rest) ≡ x ∷ (xs ++ begins.0) = begins.1 in
    let first : y ≡ x = cc is in
    let later : ys ++ rest ≡ xs ++ begins.0 = cc is in
    let more = begins_shorter xs ys rest (begins.0, later) (omega (arith, short)) in
    (more.0, λ i. first i ∷ more.1 i)

-- where an answer is told to be firm, so many entries are firm
firm_reaches : (cuts firm front faults : ℕ) → settled_by cuts firm front faults ≡ Firm → front ≤ firm
firm_reaches cuts firm front faults is = by_tests (is_above cuts faults) (nat_lt firm front) refl refl
  where
    by_tests : (a b : Bool) → is_above cuts faults ≡ a → nat_lt firm front ≡ b → front ≤ firm
    by_tests true b above short = absurd (cc ((λ i. if sym above i then Lost cuts else (if nat_lt firm front then NotYet firm else Firm)) ∙ is))
    by_tests false true above short =
        absurd (cc ((λ i. if sym above i then Lost cuts else (if sym short i then NotYet firm else Firm)) ∙ is))
    by_tests false false above short = ltb-false firm front short

-- where nothing failed and too few entries are firm, it is told so
told_by : (settled : Settled) (cuts firm front faults : ℕ) → settled ≡ settled_by cuts firm front faults
    → is_above cuts faults ≡ false → nat_lt firm front ≡ true → settled ≡ NotYet firm
told_by settled cuts firm front faults is above short = is ∙ (λ i. if above i then Lost cuts else (if short i then NotYet firm else Firm))

module _ (told : Bool) (front faults : ℕ) (t : KeptTurn) (found left : Facts) (firm_found firm_left : ℕ) (settled : Settled) (drops : Bool)
    (added : List HistoryEntry) (few : faults < 2 ^ 64) (is : IsCountedBy told front faults t)
    (follows : Follows told (facts_of t.left) found) (owes : Owes told found left) (sound : AreSound told left)
    (settles : Settles told front faults found left firm_found firm_left settled added) where
  -- where no commit and no opening again failed since, both counts stood
  stood_first : is_above left.cuts faults ≡ false → Stood t.left.cuts found.cuts
  stood_first not =
      let most = no_greater left.cuts faults not in let low = not_last left.cuts faults not in
      (omega (arith, follows.cuts, owes.cuts, is.faults_is), omega (arith, follows.cuts, owes.cuts, is.faults_is))

  stood_then : is_above left.cuts faults ≡ false → Stood found.cuts left.cuts
  stood_then not =
      let most = no_greater left.cuts faults not in let low = not_last left.cuts faults not in
      (omega (arith, follows.cuts, owes.cuts, is.faults_is), omega (arith, follows.cuts, owes.cuts, is.faults_is))

  goes_on : (commits : HasCommitted told front faults found left firm_found firm_left settled added) → is_above left.cuts faults ≡ false
      → commits.is_broken ≡ false
  goes_on commits not =
      false_from_ne_true commits.is_broken (λ broken.
      omega (arith, commits.cut broken, stood_then not))

  -- a commit made all that the answer rests on firm
  long_enough : (commits : HasCommitted told front faults found left firm_found firm_left settled added) → is_above left.cuts faults ≡ false
      → front ≤ firm_left
  long_enough commits not =
      let firm = (commits.all (goes_on commits not)).0 in
      omega (arith, firm, owes.entries (stood_then not), follows.entries (stood_first not), is.front_is)

  -- what was told, of what is firm now
  abbrev tells_of : Settles told front faults found left firm_found firm_left settled added → IsToldAt told front faults left firm_left settled
  tells_of (inl asked) = asked.tells
  tells_of (inr commits) = commits.tells

  abbrev tells : IsToldAt told front faults left firm_left settled
  tells = tells_of settles

  -- an answer isn't pending behind the turn
  not_short : (s : Settles told front faults found left firm_found firm_left settled added) → is_above left.cuts faults ≡ false
      → nat_lt firm_left front ≡ true → ⊥
  not_short (inl asked) not short =
      asked.sure firm_left (told_by settled left.cuts firm_left front faults asked.tells.is not short)
  not_short (inr commits) not short = omega (arith, long_enough commits not, ltb-true firm_left front short)

  begins_firm : told ≡ true → is_above left.cuts faults ≡ false → settled ≡ Firm → Begins t.left.list left.firm
  begins_firm it_is not firm =
      begins_shorter t.left.list left.firm (sound.begins it_is).0
      (let whole = begins_then t.left.list found.list left.list (follows.goes_on it_is (stood_first not)) (owes.list it_is (stood_then not)) in
      (whole.0, sym (sound.begins it_is).1 ∙ whole.1))
      (let at = is.long it_is in
      let long = firm_reaches left.cuts (length left.firm) front faults (sym (tells.counts it_is) ∙ firm) in
      omega (arith, at, long))

  -- where the device didn't fail since, nothing is lost
  no_loss : is_above left.cuts faults ≡ true → ¬ (Stood t.left.faults left.faults)
  no_loss above stood =
      let a = follows.faults in let b = owes.faults in
      let first = follows.calm (omega (arith, a, b, stood), omega (arith, stood)) in
      let second = owes.cause (omega (arith, a, b, stood), omega (arith, a, b, stood)) in
      let last = is_greater left.cuts faults above (omega (arith, first, second, is.faults_is)) in
      absurd (omega (arith, last, sound.cut, stood))

  -- what the pass learns, once it keeps the turn
  pub learns_then : (before after : Knowledge) → after ≡ after_turn before found left drops added
      → Learns told t before after settled
  learns_then before after is_after = by_state (is_above left.cuts faults) (nat_lt firm_left front) refl refl
    where
      answered : (a b : Bool) → is_above left.cuts faults ≡ a → nat_lt firm_left front ≡ b
          → settled ≡ (if a then Lost left.cuts else (if b then NotYet firm_left else Firm))
      answered a b above short = tells.is ∙ (λ i. if above i then Lost left.cuts else (if short i then NotYet firm_left else Firm))

      later : t.left.faults ≤ left.faults
      later = let a = follows.faults in let b = owes.faults in omega (arith, a, b)

      u : KeptTurn
      u = kept found left drops added

      by_state : (a b : Bool) → is_above left.cuts faults ≡ a → nat_lt firm_left front ≡ b → Learns told t before after settled
      by_state true b above short =
          let is_lost : settled ≡ Lost left.cuts = answered true b above short in
          record {
            firm = λ firm it_is. absurd (cc (sym is_lost ∙ firm));
            never = λ n not. absurd (cc (sym is_lost ∙ not));
            lost = λ n lost. record {
              second = u;
              turns = ap (λ (k : Knowledge). k.turns) is_after;
              cut = subst (λ (n : ℕ). is_above left.cuts n ≡ true) is.faults_is above;
              rose = risen_by t.left.faults left.faults later (no_loss above);
            };
          }
      by_state false true above short = absurd (not_short settles above short)
      by_state false false above short =
          let is_firm : settled ≡ Firm = answered false false above short in
          record {
            firm = λ firm it_is. subst (λ (k : Knowledge). Begins t.left.list k.known) (sym is_after) (begins_firm it_is above firm);
            never = λ n not. absurd (cc (sym is_firm ∙ not));
            lost = λ n lost. absurd (cc (sym is_firm ∙ lost));
          }

-- a pass that has seen so long a length knows all that the answer rests on
pub learns_at_once : (told : Bool) (front faults seen : ℕ) (t : KeptTurn) (before after : Knowledge) → IsCountedBy told front faults t
    → front ≤ seen → Saw told seen before after → Contains before.turns t
    → Learns told t before after Firm
learns_at_once told front faults seen t before after is le saw has = record {
  firm = λ firm it_is. let at = is.long it_is in
      All-contains (λ (u : KeptTurn). length (facts_of u.left).list ≤ seen → Begins (facts_of u.left).list after.known) before.turns t (saw.lists it_is) has
      (omega (arith, at, le));
  never = λ n not. absurd (cc not);
  lost = λ n lost. absurd (cc lost);
}

-- a pass that takes a turn that asks, and commits where it has to, learns what has become of the answer
pub learns_asked : {A : Type 0} (tells : Ghosts A) (front faults seen : ℕ) (t : KeptTurn) (before looked after : Knowledge) (settled : Settled)
    → faults < 2 ^ 64 → IsCountedBy (tells_lists tells) front faults t → Saw (tells_lists tells) seen before looked → Contains before.turns t
    → SettlesIn tells front faults looked settled after → Learns (tells_lists tells) t before after settled
learns_asked tells front faults seen t before looked after settled few is saw has took =
    let told = tells_lists tells in
    let same : looked.turns ≡ before.turns = ap (λ (k : Knowledge). k.turns) saw.same in
    let has_still : Contains looked.turns t = subst (λ (ts : List KeptTurn). Contains ts t) (sym same) has in
    let follows : Follows told (facts_of t.left) (book_facts took.found) =
    All-contains (λ (u : KeptTurn). Follows told (facts_of u.left) (book_facts took.found)) looked.turns t took.legal.turns has_still in
    let learnt : Learns told t looked after settled =
    learns_then told front faults t (book_facts took.found) (book_facts took.left) (firm_length took.found.trail)
    (firm_length took.left.trail) settled took.drops took.added few is follows took.owes took.sound.1 took.does_so
    looked after took.kept in
    record {
      firm = learnt.firm;
      never = learnt.never;
      lost = λ n lost. let cut = learnt.lost n lost in
          record { second = cut.second; turns = cut.turns ∙ ap (λ (ts : List KeptTurn). ts ++ cut.second ∷ []) same; cut = cut.cut; rose = cut.rose };
    }
