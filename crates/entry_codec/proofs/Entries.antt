-- Entries as a part: what is read is spelled so, what is spelled so is read, and a fault is the first wrong octet.
use Rattle.std.proofs.Common.{◌≡◌, ℕ, ◌+◌, ◌-◌, ◌≤◌, ◌==◌, ◌||◌, nat_le, Bool, true, false, List, [], ◌∷◌, ◌++◌, length, take, drop, Ok, Err, refl, sym, ap, subst, ◌∙◌, inl, inr, append_assoc, arith}
use Rattle.std.proofs.lemmas.Bool.{eqb-true, leb-true, cases_lt}
use Rattle.std.proofs.lemmas.List.{length-append, length-take, take-append-drop, take_at}
use Rattle.byteorder.specs.Endian.{big_bytes}
use Rattle.gw_base.specs.declared.history.HistoryAct.{HistoryAct}
use Rattle.gw_base.specs.declared.history.HistoryEntry.{HistoryEntry}
use Rattle.entry_codec.specs.declared.kind.Kind.{Kind}
use Rattle.entry_codec.specs.declared.kind.Kind.TheVariants as kinds
use Rattle.entry_codec.specs.Fault.{BeginsAnEntry, BeginsWith, IsFirstWrong}
use Rattle.entry_codec.specs.Reading.{entry_at, fits_length, is_length}
use Rattle.entry_codec.specs.Spelling.{AreBelow, HasSpelling, body, code_of, entry_length, kind_of, spelling}
use Rattle.entry_codec.proofs.Acts.{IsKind, act_length, act_part, kind_part, list_test}
use Rattle.entry_codec.proofs.Fields.{number_part, wide4, wide8}
use Rattle.entry_codec.proofs.Heads.{is_length_long, length_part, moment_part}
use Rattle.entry_codec.proofs.Lists.{fronts}
use Rattle.entry_codec.proofs.Parts.{IsPart, bind_assoc, not_both, ok_is, onto_part, pair_part}
pub use Rattle.entry_codec.specs.Laws.{length_of_spelling}

-- ---- lengths and kinds

-- a list's entry has a length
list_is_length : (n : ℕ) → IsKind n kinds.Release → is_length n ≡ true
list_is_length n fits =
    let test = list_test n fits in
    elim (cases_lt n 37) [
      | inl lt ↦ let same : n ≡ 33 = omega (arith, test.0, test.1, lt) in ap is_length same
      | inr le ↦ is_length_long n le
    ]

kind_for : (n : ℕ) → is_length n ≡ true → (kind : Kind) × IsKind n kind
kind_for n e = by_tests (n == 25) refl (n == 32) refl (n == 33) refl (nat_le 37 n) refl e
  where
    by_tests : (a : Bool) → (n == 25) ≡ a → (b : Bool) → (n == 32) ≡ b → (c : Bool) → (n == 33) ≡ c → (d : Bool) → nat_le 37 n ≡ d → (a || (b || (c || d))) ≡ true → (kind : Kind) × IsKind n kind
    by_tests true a b is-b c is-c d is-d e = (kinds.Start, a)
    by_tests false a true is-b c is-c d is-d e = (kinds.Path, is-b)
    by_tests false a false is-b true is-c d is-d e =
        (kinds.Release, (let same : n ≡ 33 = eqb-true n 33 is-c in ap (λ (k : ℕ). fits_length k kinds.Release) same))
    by_tests false a false is-b false is-c true is-d e = (kinds.File, is-d)
    by_tests false a false is-b false is-c false is-d e = absurd cc

is_length_of : (n : ℕ) (kind : Kind) → IsKind n kind → is_length n ≡ true
is_length_of n kinds.Path fits = ap is_length (eqb-true n 32 fits)
is_length_of n kinds.File fits = is_length_long n (leb-true 37 n fits)
is_length_of n kinds.Hold fits = is_length_long n (leb-true 37 n fits)
is_length_of n kinds.Seal fits = ap is_length (eqb-true n 37 fits)
is_length_of n kinds.Release fits = list_is_length n fits
is_length_of n kinds.Cancel fits = list_is_length n fits
is_length_of n _ fits = ap is_length (eqb-true n 25 fits)

-- ---- entries

-- an entry that begins so
abbrev entry_of : ℕ → ℕ → ℕ → HistoryAct → HistoryEntry
entry_of moment session serial act = record { moment = moment; caller = record { session = session; serial = serial }; act = act }

abbrev Parts : Type 0
Parts = ℕ × (Kind × (ℕ × (ℕ × (ℕ × HistoryAct))))

pub entry_part : IsPart HasSpelling spelling entry_at
unfolding entry_at
entry_part =
    onto_part (λ (t : Parts). entry_of t.1.1.0 t.1.1.1.0 t.1.1.1.1.0 t.1.1.1.1.1)
    (pair_part length_part (λ n fn. let k = kind_for n fn.0 in pair_part (kind_part n k.0 k.1) (λ kind fk.
    pair_part moment_part (λ m fm. pair_part (number_part 4 wide4) (λ s fs. pair_part (number_part 8 wide8) (λ r fr.
    act_part n kind fk))))))
    (record {
      fits = λ t f.
          let act = f.1.1.1.1.1 in
          record {
            moment = f.1.1.0;
            session = f.1.1.1.0;
            serial = f.1.1.1.1.0;
            act = act.0;
            short = omega (arith, act.2, f.0.1);
          };
      spelled = λ t f. let act = f.1.1.1.1.1 in
          λ i. big_bytes 4 (act.2 i) ++ (code_of (act.1 i) ∷ (big_bytes 8 t.1.1.0
          ++ (big_bytes 4 t.1.1.1.0 ++ (big_bytes 8 t.1.1.1.1.0 ++ body t.1.1.1.1.1))));
      from = λ e f. (
        (entry_length e, (kind_of e.act, (e.moment, (e.caller.session, (e.caller.serial, e.act))))),
        (
          (is_length_of (entry_length e) (kind_of e.act) (act_length e.act), f.short),
          (act_length e.act, (f.moment, (f.session, (f.serial, (f.act, refl, refl))))),
        ),
        refl,
      );
    })
    (λ octets. simp bind_assoc)

-- ---- what follows from it

-- no entry begins with the front and one octet more
none_longer : (octets rest front : List ℕ) → octets ≡ front ++ rest → ((h : ℕ) (t : List ℕ) → rest ≡ h ∷ t → (c : HistoryEntry) (z : List ℕ) → HasSpelling c → spelling c ≡ front ++ h ∷ z → ⊥)
    → (n : ℕ) → n ≤ length octets → BeginsAnEntry (take n octets) → n ≤ length front
none_longer octets [] front parts refused n le b = omega (arith, ap (λ (o : List ℕ). length o) parts, length-append front [])
none_longer octets (h ∷ t) front parts refused n le b =
    elim (fronts (take n octets) (drop n octets) front h t (take-append-drop n octets ∙ parts)) [
      | inl p ↦ omega (
        arith,
        ap (λ (o : List ℕ). length o) p.1,
        length-append (take n octets) p.0,
        length-take n octets,
        le,
      )
      | inr p ↦
          absurd (refused h t refl b.0 (p.0 ++ b.1) b.2 (b.3 ∙ ap (λ (o : List ℕ). o ++ b.1) p.1 ∙
          append_assoc front (h ∷ p.0) b.1))
    ]

-- the first octet of the rest is the first wrong one
pub first_wrong : (octets rest : List ℕ) → AreBelow 256 octets → entry_at octets ≡ Err rest → IsFirstWrong octets (length octets - length rest)
first_wrong octets rest small e =
    let s = entry_part.stops octets rest small e in
    let lengths : length octets ≡ length s.front + length rest = ap (λ (o : List ℕ). length o) s.parts ∙ length-append s.front rest in
    let at : length octets - length rest ≡ length s.front = omega arith in
    let front : take (length s.front) octets ≡ s.front = ap (take (length s.front)) s.parts ∙ take_at s.front rest (length s.front) refl in
    let begins : BeginsAnEntry (take (length s.front) octets) = (s.value, s.more, s.fits, s.begins ∙ ap (λ (o : List ℕ). o ++ s.more) (sym front)) in
    let longest : (n : ℕ) → n ≤ length octets → BeginsAnEntry (take n octets) → n ≤ length s.front = λ n le b. none_longer octets rest s.front s.parts s.refused n le b in
    subst (λ (k : ℕ). IsFirstWrong octets k) (sym at) (record { within = omega arith; begins = begins; longest = longest })

-- the count of octets that were read
pub entry_taken : (octets rest : List ℕ) (e : HistoryEntry) → AreBelow 256 octets → entry_at octets ≡ Ok (e, rest) → HasSpelling e × (take (length octets - length rest) octets ≡ spelling e) × (length octets - length rest ≡ entry_length e)
entry_taken octets rest e small read =
    let t = entry_part.takes octets e rest small read in
    let lengths : length octets ≡ length (spelling e) + length rest = ap (λ (o : List ℕ). length o) t.1 ∙ length-append (spelling e) rest in
    let at : length octets - length rest ≡ length (spelling e) = omega arith in
    (t.0, rw at (ap (take (length (spelling e))) t.1 ∙ take_at (spelling e) rest (length (spelling e)) refl), at ∙ length_of_spelling e)

pub entry_only : (octets rest : List ℕ) (e : HistoryEntry) → AreBelow 256 octets → entry_at octets ≡ Ok (e, rest) → (other : HistoryEntry) → BeginsWith octets other → other ≡ e
entry_only octets rest e small read other b =
    let again : entry_at octets ≡ Ok (other, b.1.0) = ap entry_at b.1.1 ∙ entry_part.again other b.1.0 b.0 in
    ap (λ (p : HistoryEntry × List ℕ). p.0) (ok_is (other, b.1.0) (e, rest) (sym again ∙ read))

pub entry_none : (octets rest : List ℕ) → entry_at octets ≡ Err rest → (other : HistoryEntry) → BeginsWith octets other → ⊥
entry_none octets rest read other b = not_both (other, b.1.0) rest (sym (entry_part.again other b.1.0 b.0) ∙ ap entry_at (sym b.1.1) ∙ read)

pub entry_shorter : (octets rest : List ℕ) (e : HistoryEntry) → AreBelow 256 octets → entry_at octets ≡ Ok (e, rest) → length rest ≤ length octets
entry_shorter octets rest e small read =
    let t = entry_part.takes octets e rest small read in
    omega (arith, ap (λ (o : List ℕ). length o) t.1, length-append (spelling e) rest)

pub fault_shorter : (octets rest : List ℕ) → AreBelow 256 octets → entry_at octets ≡ Err rest → length rest ≤ length octets
fault_shorter octets rest small read =
    let s = entry_part.stops octets rest small read in
    omega (arith, ap (λ (o : List ℕ). length o) s.parts, length-append s.front rest)
