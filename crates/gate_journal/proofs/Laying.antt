-- What the making of an area leaves.
use Rattle.std.proofs.Common.{◌≡◌, inl, ℕ, ◌+◌, ◌<◌, List, [], ◌∷◌, ◌++◌, length, get_or, take, drop, sym, ◌∙◌, ap, arith, append_assoc, Result, OnOk, ◌≢◌, ◌≤◌, length-append, rules}
use Rattle.gate_journal.proofs.Names.{added, at_front, closed_gate, drop-take, drop_at, front_of_front, gate_at, get_or-take, get_or_at, IsAdding, IsLaid, IsUnfinished, length-drop, length-take-le, open_gate, overwritten, Starts, take_at, Torn}
use Rattle.gate_journal.proofs.Turns.{length-rest}

module _ (header : List ℕ) (long : length header ≡ 32) (begins : get_or header 0 0 ≡ 67) where
  -- an area whose octet 0 is 0
  pub laid_blank : (octets : List ℕ) → 33 < length octets → get_or octets 0 0 ≡ 0 → IsLaid header (overwritten octets 1 (drop 1 header ++ closed_gate ∷ []))
  laid_blank [] inside blank = absurd (omega arith)
  laid_blank (x ∷ octets) inside blank =
      let r : length (drop 1 header) ≡ 31 = length-rest header long in
      let after : List ℕ = drop {A = ℕ} (1 + length (drop 1 header ++ closed_gate ∷ [])) (x ∷ octets) in
      let split : drop 1 header ++ closed_gate ∷ [] ++ after ≡ drop 1 header ++ closed_gate ∷ after = append_assoc (drop 1 header) (closed_gate ∷ []) after in
      record {
        rest = ap (λ (l : List ℕ). take 31 l) split ∙ take_at (drop 1 header) (closed_gate ∷ after) 31 r;
        first = λ e. omega arith;
        shut = λ e. let is = sym (ap (λ (l : List ℕ). get_or l 31 open_gate) split ∙ get_or_at (drop 1 header) closed_gate after open_gate 31 r) ∙ e in omega arith;
      }

  pub torn_blank : (octets c : List ℕ) → get_or octets 0 0 ≡ 0 → Torn 1 32 octets c → Starts header c
  torn_blank octets c blank torn = inl (at_front 0 1 0 c octets (omega arith) torn.before ∙ blank)

  -- an area with all of the header but octet 0
  module _ (octets : List ℕ) (inside : 33 < length octets) (unfinished : IsUnfinished header octets) where
    front_is : length (take 32 octets) ≡ 32
    front_is = length-take-le 32 octets (omega arith)

    whole_is : overwritten octets 32 (closed_gate ∷ []) ≡ take 32 octets ++ closed_gate ∷ drop 33 octets
    whole_is = append_assoc (take 32 octets) (closed_gate ∷ []) (drop 33 octets)

    pub laid_gate : IsLaid header (overwritten octets 32 (closed_gate ∷ []))
    laid_gate = record {
      rest = ap (λ (l : List ℕ). drop 1 (take 32 l)) whole_is ∙ ap (λ (l : List ℕ). drop 1 l) (take_at (take 32 octets) (closed_gate ∷ drop 33 octets) 32 front_is) ∙ drop-take 1 31 octets ∙ unfinished.rest;
      first = λ e.
          unfinished.first
          (sym (get_or-take 32 octets 0 0 (omega arith)) ∙ ap (λ (l : List ℕ). get_or l 0 0) (sym (take_at (take 32 octets) (closed_gate ∷ drop 33 octets) 32 front_is) ∙ ap (λ (l : List ℕ). take 32 l) (sym whole_is))
          ∙ get_or-take 32 (overwritten octets 32 (closed_gate ∷ [])) 0 0 (omega arith) ∙ e);
      shut = λ e.
          let is = sym (ap (λ (l : List ℕ). get_or l 32 open_gate) whole_is ∙ get_or_at (take 32 octets) closed_gate (drop 33 octets) open_gate 32 front_is) ∙ e in
          omega arith;
    }

    pub torn_gate : (c : List ℕ) → Torn 32 1 octets c → Starts header c
    torn_gate c torn = search (rules, drop-take, at_front)

pub on_ok : {T E : Type 0} (result : Result T E) (P Q : Type 0) → (P → Q) → OnOk result P → OnOk result Q
on_ok result P Q f p = search rules

-- ---- what each of the two writes leaves that add a batch

module _ (gate : ℕ) (framed octets : List ℕ) (fits : gate + 1 + length framed ≤ length octets) where
  -- the frame behind the gate
  abbrev pub staged : List ℕ
  staged = overwritten octets (gate + 1) framed

  length-front : length (take (gate + 1) octets) ≡ gate + 1
  length-front = length-take-le (gate + 1) octets (omega arith)

  pub length-staged : length staged ≡ length octets
  length-staged = grind (arith, length-front, length-append, length-drop)

  staged-split : staged ≡ take (gate + 1) octets ++ (framed ++ drop (gate + 1 + length framed) octets)
  staged-split = append_assoc (take (gate + 1) octets) framed (drop (gate + 1 + length framed) octets)

  staged-front : take (gate + 1) staged ≡ take (gate + 1) octets
  staged-front = ap (λ (l : List ℕ). take (gate + 1) l) staged-split ∙ take_at (take (gate + 1) octets) _ (gate + 1) length-front

  staged-back : drop (gate + 1) staged ≡ framed ++ drop (gate + 1 + length framed) octets
  staged-back = ap (λ (l : List ℕ). drop (gate + 1) l) staged-split ∙ drop_at (take (gate + 1) octets) _ (gate + 1) length-front

  -- while the frame is written the gate stays closed
  pub behind_gate : gate_at octets gate ≢ open_gate → (c : List ℕ) → Torn (gate + 1) (length framed) octets c → IsAdding gate framed octets c
  behind_gate shut c torn = search (rules, front_of_front, at_front)

  -- when the gate is opened the frame stands behind it
  pub at_gate : (c : List ℕ) → Torn gate 1 staged c → IsAdding gate framed octets c
  at_gate c torn = search (rules, length-staged, front_of_front, staged-front, staged-back, take_at)

  pub gate_opened : overwritten staged gate (open_gate ∷ []) ≡ added gate framed octets
  gate_opened =
      append_assoc (take gate staged) (open_gate ∷ []) (drop (gate + 1) staged)
      ∙ ap (λ (l : List ℕ). l ++ open_gate ∷ drop (gate + 1) staged) (front_of_front gate (gate + 1) staged octets (omega arith) staged-front)
      ∙ ap (λ (l : List ℕ). take gate octets ++ open_gate ∷ l) staged-back
