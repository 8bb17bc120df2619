-- The kind of an entry and what it records, each as a part.
use Rattle.std.proofs.Common.{◌≡◌, ℕ, ◌+◌, ◌-◌, ◌*◌, ◌%◌, ◌≤◌, ◌==◌, ◌&&◌, nat_le, true, List, [], ◌∷◌, ◌++◌, length, Option, Some, None, Ok, Err, refl, sym, ap, arith, ◌⊎◌, inl, inr}
use Rattle.std.specs.List.{flat_map}
use Rattle.std.proofs.lemmas.Bool.{and_parts, cases_Bool, eq-eqb, eqb-true, le-leb, leb-true}
use Rattle.std.proofs.lemmas.Bool.Decides.{nat_tests}
use Rattle.byteorder.specs.Endian.{big_bytes}
use Rattle.gw_base.specs.declared.history.HistoryAct.{HistoryAct}
use Rattle.gw_base.specs.declared.history.HistoryAct.TheVariants.{Start, Path, File, Hold, Seal, Release, Cancel, Tick, Close}
use Rattle.entry_codec.specs.declared.kind.Kind.{Kind}
use Rattle.entry_codec.specs.declared.kind.Kind.TheVariants as kinds
use Rattle.entry_codec.specs.Reading.{act_at, fits_length, key_at, kind_at, kind_from, kind_if, list_at, number_count, packet_at, path_at}
use Rattle.entry_codec.specs.Spelling.{IsAct, body, code_of, kind_of}
use Rattle.entry_codec.proofs.Fields.{AreNumbers, AreOctets, IsNumber, length_numbers, number_part, numbers_part, octets_part, wide1, wide2, wide4, wide8}
use Rattle.entry_codec.proofs.Heads.{given_part}
use Rattle.entry_codec.proofs.Parts.{IsPart, bind_assoc, nothing_part, one_part, onto_part, pair_part}

-- ---- the kind

abbrev pub IsKind : ℕ → Kind → Type 0
IsKind n kind = fits_length n kind ≡ true

kind_from_code : (kind : Kind) → kind_from (code_of kind) ≡ Some kind
kind_from_code kinds.Start = refl
kind_from_code _ = refl

code_from_kind : (code : ℕ) (kind : Kind) → kind_from code ≡ Some kind → code ≡ code_of kind
code_from_kind code kind e = grind (arith, nat_tests)

pub kind_part : (n : ℕ) (kind : Kind) → IsKind n kind → IsPart (IsKind n) (λ k. code_of k ∷ []) (kind_at n)
kind_part n kind fits =
    one_part code_of (kind, fits) refl (λ k x octets good is. rw (is, kind_from_code k, good) refl)
    (λ x octets small. decide x octets (kind_from x) refl)
  where
    decide : (x : ℕ) (octets : List ℕ) (o : Option Kind) → kind_from x ≡ o →
        ((k : Kind) × IsKind n k × (x ≡ code_of k)) ⊎ (kind_if n o (x ∷ octets) octets ≡ Err (x ∷ octets))
    decide x octets None is = inr refl
    decide x octets (Some k) is = elim (cases_Bool (fits_length n k)) [
      | inl good ↦ inl (k, good, code_from_kind x k is)
      | inr bad ↦ inr (rw bad refl)
    ]

-- ---- fields one after the other

abbrev Key : Type 0
Key = ℕ × ℕ

abbrev IsKey : Key → Type 0
IsKey t = IsNumber 4 t.0 × IsNumber 8 t.1

key_part : IsPart IsKey (λ t. big_bytes 4 t.0 ++ big_bytes 8 t.1) key_at
unfolding key_at
key_part = pair_part (number_part 4 wide4) (λ a f. number_part 8 wide8)

abbrev Route : Type 0
Route = ℕ × (ℕ × ℕ)

abbrev IsRoute : Route → Type 0
IsRoute t = IsNumber 4 t.0 × (IsNumber 2 t.1.0 × IsNumber 1 t.1.1)

abbrev Packet : Type 0
Packet = Key × List ℕ

abbrev IsPacket : ℕ → Packet → Type 0
IsPacket n t = IsKey t.0 × AreOctets (n - 37) t.1

abbrev Listed : Type 0
Listed = ℕ × (Unit {0} × List ℕ)

abbrev IsListed : ℕ → Listed → Type 0
IsListed n t = IsNumber 4 t.0 × (Unit {0} × AreNumbers (number_count n) t.1.1)

-- ---- what an entry records

-- an act of this kind, whose entry is so long
abbrev pub IsActOf : ℕ → Kind → HistoryAct → Type 0
IsActOf n kind act = IsAct act × (kind_of act ≡ kind) × (25 + length (body act) ≡ n)

length_list : (node : ℕ) (xs : List ℕ) → length (big_bytes 4 node ++ (big_bytes 4 (length xs) ++ flat_map (big_bytes 8) xs)) ≡ 8 + 8 * length xs
length_list node xs = omega (arith, length_numbers xs)

pub list_test : (n : ℕ) → (nat_le 33 n && ((n - 33) % 8 == 0)) ≡ true → (33 ≤ n) × ((n - 33) % 8 ≡ 0)
list_test n e =
    let parts = and_parts (nat_le 33 n) ((n - 33) % 8 == 0) e in
    (leb-true 33 n parts.0, eqb-true ((n - 33) % 8) 0 parts.1)

-- what an act is made of
abbrev Made : {A : Type 0} → (A → Type 0) → (A → HistoryAct) → HistoryAct → Type 0
Made {A = A} Fits to act = (t : A) × Fits t × (to t ≡ act)

bare_part : (n : ℕ) (bare : HistoryAct) → IsActOf n (kind_of bare) bare → body bare ≡ []
    → ((act : HistoryAct) → kind_of act ≡ kind_of bare → bare ≡ act)
    → IsPart (IsActOf n (kind_of bare)) body (λ octets. Ok (bare, octets))
bare_part n bare fits none only =
    onto_part (λ u. bare) nothing_part
    (record { fits = λ u f. fits; spelled = λ u f. none; from = λ act f. (tt, tt, only act f.1) }) (λ octets. refl)

only_start : (act : HistoryAct) → kind_of act ≡ kinds.Start → Start ≡ act
only_start act e = grind arith

only_tick : (act : HistoryAct) → kind_of act ≡ kinds.Tick → Tick ≡ act
only_tick act e = grind arith

only_close : (act : HistoryAct) → kind_of act ≡ kinds.Close → Close ≡ act
only_close act e = grind arith

path_part : (n : ℕ) → IsKind n kinds.Path → IsPart (IsActOf n kinds.Path) body (act_at n kinds.Path)
unfolding path_at
path_part n fits =
    onto_part (λ t. Path (record { 0 = t.0 }) t.1.0 t.1.1) (pair_part (number_part 4 wide4)
    (λ a f. pair_part (number_part 2 wide2) (λ b g. number_part 1 wide1)))
    (record {
      fits = λ t f. ((f.0, f.1.0, f.1.1), refl, sym (eqb-true n 32 fits));
      spelled = λ t f. refl;
      from = λ act f. from act f;
    })
    (λ octets. simp bind_assoc)
  where
    from : (act : HistoryAct) → IsActOf n kinds.Path act → Made IsRoute (λ t. Path (record { 0 = t.0 }) t.1.0 t.1.1) act
    from (Path node port counter) f = ((node.0, (port, counter)), (f.0.0, (f.0.1, f.0.2)), refl)
    from act f = absurd (let e = f.1 in cc)

seal_part : (n : ℕ) → IsKind n kinds.Seal → IsPart (IsActOf n kinds.Seal) body (act_at n kinds.Seal)
unfolding key_at
seal_part n fits =
    onto_part (λ t. Seal (record { 0 = t.0 }) t.1) key_part
    (record { fits = λ t f. (f, refl, sym (eqb-true n 37 fits)); spelled = λ t f. refl; from = λ act f. from act f })
    (λ octets. simp bind_assoc)
  where
    from : (act : HistoryAct) → IsActOf n kinds.Seal act → Made IsKey (λ t. Seal (record { 0 = t.0 }) t.1) act
    from (Seal node number) f = ((node.0, number), f.0, refl)
    from act f = absurd (let e = f.1 in cc)

file_part : (n : ℕ) → IsKind n kinds.File → IsPart (IsActOf n kinds.File) body (act_at n kinds.File)
unfolding packet_at
file_part n fits =
    onto_part (λ t. File (record { 0 = t.0.0 }) t.0.1 t.1) (pair_part key_part (λ key f. octets_part (n - 37)))
    (record {
      fits = λ t f. ((f.0.0, f.0.1, f.1.1), refl, omega (arith, f.1.0, leb-true 37 n fits));
      spelled = λ t f. refl;
      from = λ act f. from act f;
    })
    (λ octets. simp bind_assoc)
  where
    from : (act : HistoryAct) → IsActOf n kinds.File act → Made (IsPacket n)
        (λ t. File (record { 0 = t.0.0 }) t.0.1 t.1) act
    from (File node number packet) f = (((node.0, number), packet), ((f.0.0, f.0.1), (omega (arith, f.2), f.0.2)), refl)
    from act f = absurd (let e = f.1 in cc)

hold_part : (n : ℕ) → IsKind n kinds.Hold → IsPart (IsActOf n kinds.Hold) body (act_at n kinds.Hold)
unfolding packet_at
hold_part n fits =
    onto_part (λ t. Hold (record { 0 = t.0.0 }) t.0.1 t.1) (pair_part key_part (λ key f. octets_part (n - 37)))
    (record {
      fits = λ t f. ((f.0.0, f.0.1, f.1.1), refl, omega (arith, f.1.0, leb-true 37 n fits));
      spelled = λ t f. refl;
      from = λ act f. from act f;
    })
    (λ octets. simp bind_assoc)
  where
    from : (act : HistoryAct) → IsActOf n kinds.Hold act → Made (IsPacket n)
        (λ t. Hold (record { 0 = t.0.0 }) t.0.1 t.1) act
    from (Hold node number packet) f = (((node.0, number), packet), ((f.0.0, f.0.1), (omega (arith, f.2), f.0.2)), refl)
    from act f = absurd (let e = f.1 in cc)

release_part : (n : ℕ) → IsKind n kinds.Release → IsPart (IsActOf n kinds.Release) body (act_at n kinds.Release)
unfolding list_at
release_part n fits =
    let test = list_test n fits in
    onto_part (λ t. Release (record { 0 = t.0 }) t.1.1)
    (pair_part (number_part 4 wide4)
    (λ a f. pair_part (given_part (big_bytes 4 (number_count n))) (λ u g. numbers_part (number_count n))))
    (record {
      fits = λ t f. ((f.0, f.1.1.1), refl, omega (arith, f.1.1.0, length_list t.0 t.1.1, test.0, test.1));
      spelled = λ t f. ap (λ (k : ℕ). big_bytes 4 t.0 ++ (big_bytes 4 k ++ flat_map (big_bytes 8) t.1.1)) f.1.1.0;
      from = λ act f. from act f;
    })
    (λ octets. simp bind_assoc)
  where
    from : (act : HistoryAct) → IsActOf n kinds.Release act →
        Made (IsListed n) (λ t. Release (record { 0 = t.0 }) t.1.1) act
    from (Release node numbers) f = (
      (node.0, (tt, numbers)),
      (f.0.0, (tt, (omega (arith, f.2, length_list node.0 numbers), f.0.1))),
      refl,
    )
    from act f = absurd (let e = f.1 in cc)

cancel_part : (n : ℕ) → IsKind n kinds.Cancel → IsPart (IsActOf n kinds.Cancel) body (act_at n kinds.Cancel)
unfolding list_at
cancel_part n fits =
    let test = list_test n fits in
    onto_part (λ t. Cancel (record { 0 = t.0 }) t.1.1)
    (pair_part (number_part 4 wide4)
    (λ a f. pair_part (given_part (big_bytes 4 (number_count n))) (λ u g. numbers_part (number_count n))))
    (record {
      fits = λ t f. ((f.0, f.1.1.1), refl, omega (arith, f.1.1.0, length_list t.0 t.1.1, test.0, test.1));
      spelled = λ t f. ap (λ (k : ℕ). big_bytes 4 t.0 ++ (big_bytes 4 k ++ flat_map (big_bytes 8) t.1.1)) f.1.1.0;
      from = λ act f. from act f;
    })
    (λ octets. simp bind_assoc)
  where
    from : (act : HistoryAct) → IsActOf n kinds.Cancel act →
        Made (IsListed n) (λ t. Cancel (record { 0 = t.0 }) t.1.1) act
    from (Cancel node numbers) f = (
      (node.0, (tt, numbers)),
      (f.0.0, (tt, (omega (arith, f.2, length_list node.0 numbers), f.0.1))),
      refl,
    )
    from act f = absurd (let e = f.1 in cc)

pub act_part : (n : ℕ) (kind : Kind) → IsKind n kind → IsPart (IsActOf n kind) body (act_at n kind)
act_part n kinds.Start fits = bare_part n Start (tt, refl, sym (eqb-true n 25 fits)) refl only_start
act_part n kinds.Path fits = path_part n fits
act_part n kinds.File fits = file_part n fits
act_part n kinds.Hold fits = hold_part n fits
act_part n kinds.Seal fits = seal_part n fits
act_part n kinds.Release fits = release_part n fits
act_part n kinds.Cancel fits = cancel_part n fits
act_part n kinds.Tick fits = bare_part n Tick (tt, refl, sym (eqb-true n 25 fits)) refl only_tick
act_part n kinds.Close fits = bare_part n Close (tt, refl, sym (eqb-true n 25 fits)) refl only_close

list_length : (node : ℕ) (xs : List ℕ) → let n : ℕ = 25 + length (big_bytes 4 node ++ (big_bytes 4 (length xs) ++ flat_map (big_bytes 8) xs)) in (nat_le 33 n && ((n - 33) % 8 == 0)) ≡ true
list_length node xs =
    let is : 25 + length (big_bytes 4 node ++ (big_bytes 4 (length xs) ++ flat_map (big_bytes 8) xs)) ≡ 33 + 8 * length xs = omega (arith, length_list node xs) in
    let le : nat_le 33 (33 + 8 * length xs) ≡ true = le-leb 33 _ (omega arith) in
    let even : ((33 + 8 * length xs - 33) % 8 == 0) ≡ true = eq-eqb _ _ (omega arith) in
    rw (is, le, even) refl

-- an act has a length that its kind can have, and some kind has a length
pub act_length : (act : HistoryAct) → fits_length (25 + length (body act)) (kind_of act) ≡ true
act_length (File node number packet) = le-leb 37 _ (omega arith)
act_length (Hold node number packet) = le-leb 37 _ (omega arith)
act_length (Release node numbers) = list_length node.0 numbers
act_length (Cancel node numbers) = list_length node.0 numbers
act_length _ = refl
