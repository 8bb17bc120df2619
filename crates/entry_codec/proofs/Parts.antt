-- What is shown of each part of an entry, and how parts that follow one another make a larger one.
use Rattle.std.proofs.Common.{◌≡◌, ℕ, ◌<◌, List, [], ◌∷◌, ◌++◌, Result, Ok, Err, refl, sym, ap, subst, ◌∙◌, ◌⊎◌, inl, inr, append_assoc}
use Rattle.entry_codec.specs.Reading.{◌>>=◌, Read}
use Rattle.entry_codec.specs.Spelling.{AreBelow}
use Rattle.entry_codec.proofs.Lists.{AreBelow-back, fronts}

-- some value is spelled with this front, and none with the front and the first octet of the rest
pub record Stops {C : Type 0} (Fits : C → Type 0) (spell : C → List ℕ) (octets rest : List ℕ) : Type 0 where
  pub front : List ℕ
  pub parts : octets ≡ front ++ rest
  pub value : C
  pub fits : Fits value
  pub more : List ℕ
  pub begins : spell value ≡ front ++ more
  pub refused : (h : ℕ) (t : List ℕ) → rest ≡ h ∷ t → (c : C) (z : List ℕ) → Fits c → spell c ≡ front ++ h ∷ z → ⊥

-- some value fits, values that fit are read back, what is read is a value that fits, and a fault is the first octet of
-- no value
pub record IsPart {C : Type 0} (Fits : C → Type 0) (spell : C → List ℕ) (read : List ℕ → Read C) : Type 0 where
  pub some : (c : C) × Fits c
  pub takes : (octets : List ℕ) (c : C) (rest : List ℕ) → AreBelow 256 octets → read octets ≡ Ok (c, rest) → Fits c × (octets ≡ spell c ++ rest)
  pub again : (c : C) (rest : List ℕ) → Fits c → read (spell c ++ rest) ≡ Ok (c, rest)
  pub stops : (octets rest : List ℕ) → AreBelow 256 octets → read octets ≡ Err rest → Stops Fits spell octets rest

abbrev pub ok : {A : Type 0} → A → Result A (List ℕ)
ok x = Ok x

abbrev pub err : {A : Type 0} → List ℕ → Result A (List ℕ)
err rest = Err rest

pub ok_is : {A : Type 0} (x y : A) → ok x ≡ ok y → x ≡ y
ok_is x y e = cc

pub not_both : {A : Type 0} (x : A) (rest : List ℕ) → ok x ≡ err rest → ⊥
not_both x rest e = cc

pub err_is : {A : Type 0} (a b : List ℕ) → err {A = A} a ≡ err b → a ≡ b
err_is a b e = cc

-- ---- one step after another

bind_ok : {A B : Type 0} (r : Result A (List ℕ)) (f : A → Result B (List ℕ)) (y : B) → (r >>= f) ≡ ok y →
    (x : A) × (r ≡ ok x) × (f x ≡ ok y)
bind_ok (Ok x) f y e = (x, refl, e)
bind_ok (Err d) f y e = absurd (not_both y d (sym e))

bind_err : {A B : Type 0} (r : Result A (List ℕ)) (f : A → Result B (List ℕ)) (d : List ℕ) → (r >>= f) ≡ err d →
    ((x : A) × (r ≡ ok x) × (f x ≡ err d)) ⊎ (r ≡ err d)
bind_err (Ok x) f d e = inl (x, refl, e)
bind_err {B = B} (Err rest) f d e = inr (ap err (err_is {A = B} rest d e))

pub bind_assoc : {A B C : Type 0} (r : Result A (List ℕ)) (f : A → Result B (List ℕ)) (g : B → Result C (List ℕ)) →
    (r >>= f >>= g) ≡ (r >>= λ x. f x >>= g)
bind_assoc (Ok x) f g = refl
bind_assoc (Err d) f g = refl

-- ---- no octets, and one

pub nothing_part : IsPart (λ u. Unit {0}) (λ u. []) (λ octets. let r : Read (Unit {0}) = Ok (tt, octets) in r)
nothing_part = record {
  some = (tt, tt);
  takes = λ octets u rest small e. (tt, ap (λ (p : Unit {0} × List ℕ). p.1) (ok_is (tt, octets) (u, rest) e));
  again = λ u rest fits. refl;
  stops = λ octets rest small e. absurd (not_both {A = Unit {0} × List ℕ} (tt, octets) rest e);
}

-- a value of one octet, where an octet is of no value or a value's
pub one_part : {A : Type 0} {Fits : A → Type 0} {read : List ℕ → Read A} (code : A → ℕ) → (a : A) × Fits a
    → read [] ≡ Err [] → ((a : A) (x : ℕ) (octets : List ℕ) → Fits a → x ≡ code a → read (x ∷ octets) ≡ Ok (a, octets))
    → ((x : ℕ) (octets : List ℕ) → x < 256 → ((a : A) × Fits a × (x ≡ code a)) ⊎ (read (x ∷ octets) ≡ Err (x ∷ octets)))
    → IsPart Fits (λ a. code a ∷ []) read
one_part {A} {Fits} {read} code some none again decides = record {
  some = some;
  takes = λ octets a rest small e. takes octets a rest small e;
  again = λ a rest fits. again a (code a) rest fits refl;
  stops = λ octets rest small e. stops octets rest (all octets rest small e) e;
}
  where
    takes : (octets : List ℕ) (a : A) (rest : List ℕ) → AreBelow 256 octets → read octets ≡ Ok (a, rest) →
        Fits a × (octets ≡ code a ∷ rest)
    takes [] a rest small e = absurd (not_both (a, rest) [] (sym e ∙ none))
    takes (x ∷ octets) a rest small e = elim (decides x octets small.0) [
      | inl is ↦
          let same = ok_is (is.0, octets) (a, rest) (sym (again is.0 x octets is.1 is.2) ∙ e) in
          subst (λ (p : A × List ℕ). Fits p.0 × (x ∷ octets ≡ code p.0 ∷ p.1)) same
          (is.1, ap (λ (y : ℕ). y ∷ octets) is.2)
      | inr bad ↦ absurd (not_both (a, rest) (x ∷ octets) (sym e ∙ bad))
    ]

    all : (octets rest : List ℕ) → AreBelow 256 octets → read octets ≡ Err rest → octets ≡ rest
    all [] rest small e = err_is {A = A × List ℕ} [] rest (sym none ∙ e)
    all (x ∷ octets) rest small e = elim (decides x octets small.0) [
      | inl is ↦ absurd (not_both (is.0, octets) rest (sym (again is.0 x octets is.1 is.2) ∙ e))
      | inr bad ↦ err_is {A = A × List ℕ} (x ∷ octets) rest (sym bad ∙ e)
    ]

    stops : (octets rest : List ℕ) → octets ≡ rest → read octets ≡ Err rest → Stops Fits (λ a. code a ∷ []) octets rest
    stops octets rest all e = record {
      front = [];
      parts = all;
      value = some.0;
      fits = some.1;
      more = code some.0 ∷ [];
      begins = refl;
      refused = λ h t at a z fits begins.
          not_both (a, t) rest (sym (again a h t fits (let b = begins in cc)) ∙ ap read (sym (all ∙ at)) ∙ e);
    }

-- ---- a part, and what follows it

-- the first part is the same where its spelling goes on as another's does
pub same_first : {A : Type 0} {FitsA : A → Type 0} {spellA : A → List ℕ} {readA : List ℕ → Read A} →
    IsPart FitsA spellA readA
    → (a b : A) (u v : List ℕ) → FitsA a → FitsA b → spellA a ++ u ≡ spellA b ++ v → (a ≡ b) × (u ≡ v)
same_first {A} {readA = readA} p a b u v fa fb e =
    let both = ok_is (a, u) (b, v) (sym (p.again a u fa) ∙ ap readA e ∙ p.again b v fb) in
    (ap (λ (q : A × List ℕ). q.0) both, ap (λ (q : A × List ℕ). q.1) both)

-- a part, and one that its value tells
pub pair_part : {A B : Type 0} {FitsA : A → Type 0} {spellA : A → List ℕ} {readA : List ℕ → Read A}
    {FitsB : A → B → Type 0}
    {spellB : B → List ℕ} {readB : A → List ℕ → Read B} → IsPart FitsA spellA readA
    → ((a : A) → FitsA a → IsPart (FitsB a) spellB (readB a))
    → IsPart (λ (t : A × B). FitsA t.0 × FitsB t.0 t.1) (λ t. spellA t.0 ++ spellB t.1)
    (λ octets. readA octets >>= λ x. readB x.0 x.1 >>= λ y. Ok ((x.0, y.0), y.1))
pair_part {A} {B} {FitsA} {spellA} {readA} {FitsB} {spellB} {readB} p q = record {
  some = let a = p.some in let b = (q a.0 a.1).some in ((a.0, b.0), (a.1, b.1));
  takes = λ octets c rest small e.
      let x = bind_ok (readA octets) _ _ e in
      let a = p.takes octets x.0.0 x.0.1 small x.1 in
      let y = bind_ok (readB x.0.0 x.0.1) _ _ x.2 in
      let b = (q x.0.0 a.0).takes x.0.1 y.0.0 y.0.1 (behind x.0.0 x.0.1 small a.1) y.1 in
      let same = ok_is ((x.0.0, y.0.0), y.0.1) (c, rest) y.2 in
      subst (λ (r : (A × B) × List ℕ). (FitsA r.0.0 × FitsB r.0.0 r.0.1)
      × (octets ≡ (spellA r.0.0 ++ spellB r.0.1) ++ r.1))
      same ((a.0, b.0), rw append_assoc (a.1 ∙ ap (λ (o : List ℕ). spellA x.0.0 ++ o) b.1));
  again = λ c rest fits. rw (
    append_assoc,
    p.again c.0 (spellB c.1 ++ rest) fits.0,
    (q c.0 fits.0).again c.1 rest fits.1,
  ) refl;
  stops = λ octets rest small e. elim (bind_err (readA octets) _ _ e) [
    | inl x ↦
        let a = p.takes octets x.0.0 x.0.1 small x.1 in
        let s = (q x.0.0 a.0).stops x.0.1 rest (behind x.0.0 x.0.1 small a.1)
        (second (readB x.0.0 x.0.1) x.0.0 rest x.2) in
        record {
          front = spellA x.0.0 ++ s.front;
          parts = rw append_assoc (a.1 ∙ ap (λ (o : List ℕ). spellA x.0.0 ++ o) s.parts);
          value = (x.0.0, s.value);
          fits = (a.0, s.fits);
          more = s.more;
          begins = rw append_assoc (ap (λ (o : List ℕ). spellA x.0.0 ++ o) s.begins);
          refused = λ h t at c z fits begins.
              let both = same_first p c.0 x.0.0 (spellB c.1) _ fits.0 a.0
              (begins ∙ append_assoc (spellA x.0.0) s.front (h ∷ z)) in
              s.refused h t at c.1 z (subst (λ (a : A). FitsB a c.1) both.0 fits.1) both.1;
        }
    | inr bad ↦
        let s = p.stops octets rest small bad in
        let b = (q s.value s.fits).some in
        record {
          front = s.front;
          parts = s.parts;
          value = (s.value, b.0);
          fits = (s.fits, b.1);
          more = s.more ++ spellB b.0;
          begins = ap (λ (o : List ℕ). o ++ spellB b.0) s.begins ∙ append_assoc s.front s.more (spellB b.0);
          refused = λ h t at c z fits begins. elim (fronts (spellA c.0) (spellB c.1) s.front h z begins) [
            | inl r ↦
                let whole : octets ≡ spellA c.0 ++ (r.0 ++ rest) = s.parts ∙ ap (λ (o : List ℕ). o ++ rest) r.1 ∙
                append_assoc (spellA c.0) r.0 rest in
                not_both (c.0, r.0 ++ rest) rest (sym (p.again c.0 (r.0 ++ rest) fits.0) ∙ ap readA (sym whole) ∙ bad)
            | inr r ↦ s.refused h t at c.0 r.0 fits.0 r.1
          ];
        }
  ];
}
  where
    behind : {octets : List ℕ} (a : A) (rest : List ℕ) → AreBelow 256 octets → octets ≡ spellA a ++ rest →
        AreBelow 256 rest
    behind a rest small is = AreBelow-back 256 (spellA a) rest (subst (λ (o : List ℕ). AreBelow 256 o) is small)

    second : (r : Read B) (a : A) (rest : List ℕ) → (r >>= λ y. let s : Read (A × B) = Ok ((a, y.0), y.1) in s)
        ≡ Err rest → r ≡ Err rest
    second r a rest e = elim (bind_err r _ _ e) [ inl y ↦ absurd (not_both _ rest y.2) | inr bad ↦ bad ]

-- ---- the same spellings, of other values

pub record IsOnto {A C : Type 0} (FitsA : A → Type 0) (spellA : A → List ℕ) (Fits : C → Type 0) (spell : C → List ℕ) (to : A → C) : Type 0 where
  pub fits : (a : A) → FitsA a → Fits (to a)
  pub spelled : (a : A) → FitsA a → spell (to a) ≡ spellA a
  pub from : (c : C) → Fits c → (a : A) × FitsA a × (to a ≡ c)

pub onto_part : {A C : Type 0} {FitsA : A → Type 0} {spellA : A → List ℕ} {readA : List ℕ → Read A} {Fits : C → Type 0}
    {spell : C → List ℕ}
    {read : List ℕ → Read C} (to : A → C) → IsPart FitsA spellA readA → IsOnto FitsA spellA Fits spell to
    → ((octets : List ℕ) → read octets ≡ (readA octets >>= λ x. Ok (to x.0, x.1))) → IsPart Fits spell read
onto_part {C = C} {spellA = spellA} {readA = readA} {Fits = Fits} {spell = spell} to p o same = record {
  some = (to p.some.0, o.fits p.some.0 p.some.1);
  takes = λ octets c rest small e.
      let x = bind_ok (readA octets) _ _ (sym (same octets) ∙ e) in
      let a = p.takes octets x.0.0 x.0.1 small x.1 in
      subst (λ (q : C × List ℕ). Fits q.0 × (octets ≡ spell q.0 ++ q.1)) (ok_is (to x.0.0, x.0.1) (c, rest) x.2)
      (o.fits x.0.0 a.0, rw (o.spelled x.0.0 a.0) a.1);
  again = λ c rest fits.
      let a = o.from c fits in
      let spelled : spell c ≡ spellA a.0 = ap spell (sym a.2) ∙ o.spelled a.0 a.1 in
      same (spell c ++ rest) ∙ rw (spelled, p.again a.0 rest a.1) (ap (λ (x : C). ok (x, rest)) a.2);
  stops = λ octets rest small e. elim (bind_err (readA octets) _ _ (sym (same octets) ∙ e)) [
    | inl x ↦ absurd (not_both _ rest x.2)
    | inr bad ↦
        let s = p.stops octets rest small bad in
        record {
          front = s.front;
          parts = s.parts;
          value = to s.value;
          fits = o.fits s.value s.fits;
          more = s.more;
          begins = o.spelled s.value s.fits ∙ s.begins;
          refused = λ h t at c z fits begins.
              let a = o.from c fits in
              s.refused h t at a.0 z a.1 (sym (o.spelled a.0 a.1) ∙ ap spell a.2 ∙ begins);
        }
  ];
}
