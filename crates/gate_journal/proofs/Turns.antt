-- What the octets of a journal stand for.
use Rattle.std.proofs.Common.{◌≡◌, ◌≢◌, ◌⊎◌, inl, inr, ⊎_elim, ℕ, ◌+◌, ◌<◌, ◌≤◌, Bool, true, false, List, [], ◌∷◌, ◌++◌, length, get_or, take, drop, refl, sym, ◌∙◌, ap, subst, arith, zero, suc, ◌-◌, length-append, append_assoc, rules}
use Rattle.gate_journal.proofs.Names.{added, All, All-push, at_front, batches_below, batches_below-is, big_bytes, cases_eq, closed_gate, Content, Draft, drop-append-le, drop_around, drop_more, end_of, eqb_tells, Founded, Founding, frame, frame-is, Front, front_after, front_but_first, gate_after, gate_at, get_or-drop, get_or-take, get_or_at, if◌then◌else◌, IsAdding, IsSmall, Keeps, later_but_first, length-drop, length-frame, length-spelled, length-take-le, open_gate, spelled, spelled-append, spelled-one, Stands, Starts, take-add, take-take, take_around, take_at, Torn, ◌&&◌, ◌==◌}
use Rattle.byteorder.specs.Numbers.{length-bytes_high_first}

-- a front with its first octet apart
pub front-cons : (place : ℕ) (octets : List ℕ) → 1 ≤ place → 1 ≤ length octets → take place octets ≡ get_or octets 0 0 ∷ drop 1 (take place octets)
front-cons place octets low long = grind arith

pub list-cons : (octets : List ℕ) → 1 ≤ length octets → octets ≡ get_or octets 0 0 ∷ drop 1 octets
list-cons octets long = grind arith

pub length-tail : (octets : List ℕ) → length (drop 1 octets) ≡ length octets - 1
length-tail octets = length-drop 1 octets

module _ (header : List ℕ) (long : length header ≡ 32) where
  pub length-rest : length (drop 1 header) ≡ 31
  length-rest = omega (arith, length-tail header)

  -- the place says how much is listed
  pub place_is : (place : ℕ) (octets : List ℕ) (batches : List (List ℕ)) → 32 ≤ place → place ≤ length octets → drop 1 (take place octets) ≡ drop 1 header ++ spelled batches → place ≡ end_of batches
  place_is place octets batches low high listed = omega (
    arith,
    length-rest,
    length-spelled batches,
    length-append (drop 1 header) (spelled batches),
    ap length listed,
    length-tail (take place octets),
    length-take-le place octets high,
  )

  pub listed_below : (place : ℕ) (octets : List ℕ) (batches : List (List ℕ)) → drop 1 (take place octets) ≡ drop 1 header ++ spelled batches → All IsSmall batches → batches_below place octets ≡ batches
  listed_below place octets batches listed small = batches_below-is place octets (drop 1 header) batches length-rest listed small

  module _ (place : ℕ) (octets : List ℕ) (batches : List (List ℕ)) (low : 32 ≤ place) (high : place < length octets) (small : All IsSmall batches) where
    -- a header, batches and a closed gate
    pub stands_for : drop 1 (take place octets) ≡ drop 1 header ++ spelled batches → get_or octets 0 0 ≡ get_or header 0 0 → gate_at octets place ≢ open_gate → Stands header octets batches
    stands_for listed first shut =
        let is : place ≡ end_of batches = place_is place octets batches low (omega arith) listed in
        let front : take place octets ≡ header ++ spelled batches =
        front-cons place octets (omega arith) (omega arith)
        ∙ ap (λ x. x ∷ drop 1 (take place octets)) first
        ∙ ap (λ (l : List ℕ). get_or header 0 0 ∷ l) listed
        ∙ ap (λ (l : List ℕ). l ++ spelled batches) (sym (list-cons header (omega arith))) in
        record {
          front = subst (λ p. take p octets ≡ header ++ spelled batches) is front;
          shut = subst (λ p. gate_at octets p ≢ open_gate) is shut;
          small = small;
        }

    -- all of a header but its first octet
    pub unfinished : drop 1 (take place octets) ≡ drop 1 header ++ spelled batches → get_or octets 0 0 ≢ get_or header 0 0 → Starts header octets
    unfinished listed first = inr (record { rest = rest_of octets place low (omega arith) listed; first = first })
      where
        rest_of : (o : List ℕ) (p : ℕ) → 32 ≤ p → p ≤ length o → drop 1 (take p o) ≡ drop 1 header ++ spelled batches → take 31 (drop 1 o) ≡ drop 1 header
        rest_of [] p l h e = absurd (omega arith)
        rest_of (x ∷ o) zero l h e = absurd (omega arith)
        rest_of (x ∷ o) (suc p) l h e = sym (take-take 31 p o (omega arith)) ∙ ap (λ (k : List ℕ). take 31 k) e ∙ take_at (drop 1 header) (spelled batches) 31 length-rest

    -- what a journal's octets stand for, as far as its area is made
    pub keeps : (front : Front) → drop 1 (take place octets) ≡ drop 1 header ++ spelled batches
        → (front ≡ Founded → get_or octets 0 0 ≡ get_or header 0 0)
        → (front ≡ Draft → get_or octets 0 0 ≢ get_or header 0 0)
        → gate_at octets place ≢ open_gate → Keeps front header batches octets
    keeps front listed founded drafted shut = search (rules, stands_for, unfinished)

  -- a gate that is open, and the frame of a batch behind it
  module _ (place : ℕ) (octets batch : List ℕ) (low : 32 ≤ place) (high : place + 5 + length batch < length octets) (framed : take (length batch + 5) (drop (place + 1) octets) ≡ frame batch) where
    length-behind : length (big_bytes 4 (length batch) ++ batch) ≡ 4 + length batch
    length-behind = omega (arith, length-append (big_bytes 4 (length batch)) batch, length-bytes_high_first 4 (length batch))

    take_behind : take (4 + length batch) (drop (place + 1) octets) ≡ big_bytes 4 (length batch) ++ batch
    take_behind =
        sym (take-take (4 + length batch) (length batch + 5) (drop (place + 1) octets) (omega arith))
        ∙ ap (λ (l : List ℕ). take (4 + length batch) l) (framed ∙ frame-is batch)
        ∙ take_at (big_bytes 4 (length batch) ++ batch) (closed_gate ∷ []) (4 + length batch) length-behind

    pub next_shut : gate_at octets (place + 5 + length batch) ≢ open_gate
    next_shut opened =
        let at : place + 1 + (4 + length batch) ≡ place + 5 + length batch = omega arith in
        let is : get_or octets (place + 5 + length batch) open_gate ≡ closed_gate =
        ap (λ i. get_or octets i open_gate) (sym at)
        ∙ sym (get_or-drop (place + 1) octets (4 + length batch) open_gate)
        ∙ sym (get_or-take (length batch + 5) (drop (place + 1) octets) (4 + length batch) open_gate (omega arith))
        ∙ ap (λ (l : List ℕ). get_or l (4 + length batch) open_gate) (framed ∙ frame-is batch)
        ∙ get_or_at (big_bytes 4 (length batch) ++ batch) closed_gate [] open_gate (4 + length batch) length-behind in
        omega arith

    pub joined : (batches : List (List ℕ)) → gate_at octets place ≡ open_gate → drop 1 (take place octets) ≡ drop 1 header ++ spelled batches
        → drop 1 (take (place + 5 + length batch) octets) ≡ drop 1 header ++ spelled (batches ++ batch ∷ [])
    joined batches opened listed =
        let at : place + suc (4 + length batch) ≡ place + 5 + length batch = omega arith in
        let here : drop place octets ≡ open_gate ∷ drop (place + 1) octets = drop_more octets place open_gate (omega arith) ∙ ap (λ x. x ∷ drop (place + 1) octets) opened in
        let split : take (place + 5 + length batch) octets ≡ take place octets ++ open_gate ∷ (big_bytes 4 (length batch) ++ batch) =
        ap (λ i. take i octets) (sym at)
        ∙ take-add place (suc (4 + length batch)) octets
        ∙ ap (λ (l : List ℕ). take place octets ++ take (suc (4 + length batch)) l) here
        ∙ ap (λ (l : List ℕ). take place octets ++ open_gate ∷ l) take_behind in
        ap (λ (l : List ℕ). drop 1 l) split
        ∙ drop-append-le 1 (take place octets) (open_gate ∷ (big_bytes 4 (length batch) ++ batch)) (omega (arith, length-take-le place octets (omega arith)))
        ∙ ap (λ (l : List ℕ). l ++ open_gate ∷ (big_bytes 4 (length batch) ++ batch)) listed
        ∙ append_assoc (drop 1 header) (spelled batches) (open_gate ∷ (big_bytes 4 (length batch) ++ batch))
        ∙ ap (λ (l : List ℕ). drop 1 header ++ (spelled batches ++ l)) (sym (spelled-one batch))
        ∙ ap (λ (l : List ℕ). drop 1 header ++ l) (sym (spelled-append batches (batch ∷ [])))

-- ---- how what a crash leaves of a journal turns with its calls

pub other_bool : true ≡ false → ⊥
other_bool e = cc

-- the octets with a batch added are a step of adding it
pub is_adding : (gate : ℕ) (framed octets : List ℕ) → gate + 1 + length framed ≤ length octets → IsAdding gate framed octets (added gate framed octets)
is_adding gate framed octets fits =
    search (rules, length-take-le, length-append, length-drop, take_around, drop_around, take_at)

pub added_open : (gate : ℕ) (framed octets : List ℕ) → gate ≤ length octets → gate_at (added gate framed octets) gate ≡ open_gate
added_open gate framed octets le = get_or_at (take gate octets) open_gate (framed ++ drop (gate + 1 + length framed) octets) open_gate gate (length-take-le gate octets le)

module _ (header : List ℕ) (front : Front) (batches : List (List ℕ)) (place : ℕ) (low : 32 ≤ place) where
  -- a batch is being added
  pub adding : (batch framed before octets c : List ℕ) → framed ≡ frame batch → Content header front false batches before place octets → IsAdding place framed octets c → Content header front true batches batch place c
  adding batch framed before octets c is content step = search (rules, at_front, other_bool, length-frame)

  -- a closed gate leaves it out
  pub left_out : (is_torn : Bool) (batch before c : List ℕ) → Content header front is_torn batches batch place c
      → gate_at c place ≢ open_gate → Content header front false batches before place c
  left_out is_torn batch before c content shut = search (rules, other_bool)

  -- an open gate takes it in
  pub taken_in : (long : length header ≡ 32) (batch before c : List ℕ) → place + 5 + length batch < length c → Content header front true batches batch place c → gate_at c place ≡ open_gate
      → Content header front false (batches ++ batch ∷ []) before (place + 5 + length batch) c
  taken_in long batch before c inside content opened = search (rules, joined, next_shut, other_bool)

  -- octet 0 is being written
  pub founding : (before octets c : List ℕ) → place < length octets → Content header front false batches before place octets → Torn 0 1 octets c → Content header Founding false batches before place c
  founding before octets c inside content torn = search (rules, front_but_first, later_but_first, other_bool)

module _ (header : List ℕ) (long : length header ≡ 32) (front : Front) (batches : List (List ℕ)) (place : ℕ)
    (low : 32 ≤ place) (small : All IsSmall batches) where
  pub content_keeps : (before c : List ℕ) → place < length c → Content header front false batches before place c
      → Keeps front header batches c
  content_keeps before c inside content = search (rules, keeps)

-- what a crash leaves of a journal, whether a batch may stand or not
module _ (header : List ℕ) (long : length header ≡ 32) (front : Front) (batches : List (List ℕ)) (place : ℕ)
    (low : 32 ≤ place) (small : All IsSmall batches) (batch c : List ℕ) (short : IsSmall batch) where
  pub content_keeps_or : place + 5 + length batch < length c → Content header front true batches batch place c
      → Keeps front header batches c ⊎ Keeps front header (batches ++ batch ∷ []) c
  content_keeps_or inside content =
      ⊎_elim (λ opened.
      inr (content_keeps header long front (batches ++ batch ∷ []) (place + 5 + length batch) (omega arith)
      (All-push IsSmall batches batch small short) [] c inside
      (taken_in header front batches place low long batch [] c inside content opened)))
      (λ shut.
      inl (content_keeps header long front batches place low small [] c (omega arith)
      (left_out header front batches place low true batch [] c content shut)))
      (cases_eq (gate_at c place) open_gate)

  pub content_keeps_any : (is_torn : Bool) → place < length c → (is_torn ≡ true → place + 5 + length batch < length c)
      → Content header front is_torn batches batch place c
      → Keeps front header batches c ⊎ Keeps front header (batches ++ batch ∷ []) c
  content_keeps_any false inside fits content =
      inl (content_keeps header long front batches place low small batch c inside content)
  content_keeps_any true inside fits content = content_keeps_or (fits refl) content

-- the journal is opened again, and its gate read: the batch behind it is taken in or left out
pub after_gate : (header : List ℕ) (long : length header ≡ 32) (front : Front) (batches : List (List ℕ))
    → (batch before : List ℕ) (place : ℕ) (low : 32 ≤ place) (octets : List ℕ) (is_torn : Bool) (octet : ℕ)
    → (is_torn ≡ true → place + 5 + length batch < length octets) → octet ≡ gate_at octets place
    → Content header front is_torn batches batch place octets
    → Content header front false (if is_torn && (octet == open_gate) then batches ++ batch ∷ [] else batches) before
    (gate_after is_torn place (length batch) octet) octets
after_gate header long front batches batch before place low octets false octet inside is content =
    left_out header front batches place low false batch before octets content (content.shut refl)
after_gate header long front batches batch before place low octets true octet inside is content =
    elim (eqb_tells octet open_gate) [
      | inl equal ↦ rw equal.0
          (taken_in header front batches place low long batch before octets (inside refl) content (sym is ∙ equal.1))
      | inr other ↦ rw other.0
          (left_out header front batches place low true batch before octets content (λ opened. other.1 (is ∙ opened)))
    ]

-- and octet 0 read
pub after_first : (header : List ℕ) (begins : get_or header 0 0 ≡ 67) (front : Front) (batches : List (List ℕ)) (batch : List ℕ) (place : ℕ) (octets : List ℕ) (first : ℕ) → first ≡ get_or octets 0 0
    → Content header front false batches batch place octets → Content header (front_after front first) false batches batch place octets
after_first header begins front batches batch place octets first is content = search (rules, eqb_tells)
