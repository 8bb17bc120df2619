-- What is true of a journal, and how its calls keep it.
use Rattle.std.proofs.Common.{◌≡◌, ◌≢◌, ◌⊎◌, ℕ, ◌+◌, ◌-◌, ◌<◌, ◌≤◌, Bool, true, false, List, [], ◌∷◌, ◌++◌, length, get_or, take, drop, refl, sym, ◌∙◌, ap, subst, arith, rules}
use Rattle.gate_journal.proofs.Names.{added, All, All-push, AreaLaws, batches, batches_below, closed_by, Content, Draft, end_of, first-header, Founded, Founding, frame, Front, front_after, front_of, gate_after, gate_at, Ghosts, header_of, if◌then◌else◌, is_closed, IsAdding, IsReady, IsSettled, IsSmall, IsSound, IsTrue, Journal, Keeps, KeepsOr, Leaves, length-drop, length-frame, length-header, length-take-le, longest_batch, New, Only, open_gate, overwritten, Rests, stop_stands, Told, Torn, torn, torn_stands, widen, Within, ◌&&◌, ◌==◌}
use Rattle.gate_journal.proofs.Turns.{listed_below, place_is, other_bool, is_adding, added_open, adding, taken_in, founding, content_keeps, content_keeps_or, content_keeps_any, after_gate, after_first}

-- a journal that isn't closed may be added to
pub ready_of : (front : Front) (is_torn : Bool) → closed_by front is_torn ≡ false → IsReady front is_torn
ready_of front is_torn open' = search (rules, other_bool)

pub closed_when_ready : (front : Front) (is_torn : Bool) → IsReady front is_torn → closed_by front is_torn ≡ false
closed_when_ready front is_torn ready = grind arith

pub closed_when_torn : (front : Front) → closed_by front true ≡ true
closed_when_torn front = grind arith

pub closed_as_torn : (front : Front) (is_torn : Bool) → (front ≡ Founded) ⊎ (front ≡ Draft) → is_torn ≡ closed_by front is_torn
closed_as_torn front is_torn is = grind arith

pub open_after : (front : Front) (first : ℕ) → closed_by (front_after front first) false ≡ false
open_after front first = grind arith

place_after : (is_torn : Bool) (gate n octet size : ℕ) → 32 ≤ gate → gate < size →
    (is_torn ≡ true → gate + 5 + n < size)
    → (32 ≤ gate_after is_torn gate n octet) × (gate_after is_torn gate n octet < size)
place_after is_torn gate n octet size low high fits = grind arith

-- the gate of a journal that is opened again moves where it is open behind a batch that may stand
pub gate_moves : (is_torn : Bool) (gate n octet : ℕ) → gate_after is_torn gate n octet ≡ (if is_torn && (octet == open_gate) then gate + 5 + n else gate)
gate_moves is_torn gate n octet = grind arith

pub moves_or_stays : (moves : Bool) (gate n : ℕ) → ((if moves then gate + 5 + n else gate) ≡ gate) ⊎ ((if moves then gate + 5 + n else gate) ≡ gate + 5 + n)
moves_or_stays moves gate n = grind arith

module _ {A : Type 0} (g : Ghosts A) (laws : AreaLaws g) (j : Journal A g) where
  abbrev below : List (List ℕ)
  below = batches_below j.gate (g.octets j.area)

  abbrev last : List ℕ
  last = take j.torn_length (drop 4 j.buffer.items)

  -- its batches with the torn one behind them, or without
  abbrev with_last : Bool → List (List ℕ)
  with_last stands = if stands then below ++ last ∷ [] else below

  head_long : length (header_of j) ≡ 32
  head_long = length-header (g.size j.area) j.address j.generation

  pub length-last : length last ≡ j.torn_length
  length-last = grind (arith, length-take-le, length-drop)

  pub inside : Told g → j.gate < length (g.octets j.area)
  inside told = omega (arith, laws.whole j.area told.0, j.sound.high)

  inside_left : Told g → (c : List ℕ) → g.may_leave j.area c → j.gate < length c
  inside_left told c left = omega (arith, laws.same_size j.area c told.1 left, j.sound.high)

  fits_left : Told g → (c : List ℕ) → g.may_leave j.area c → j.is_torn ≡ true → j.gate + 5 + length last < length c
  fits_left told c left torn = omega (arith, j.sound.torn_fits torn, laws.same_size j.area c told.1 left, length-last)

  small_last : length last ≤ longest_batch
  small_last = omega (arith, j.sound.torn_size, length-last)

  small_with : Told g → (stands : Bool) → All IsSmall (with_last stands)
  small_with told true = All-push IsSmall below last (j.sound.small told) small_last
  small_with told false = j.sound.small told

  pub now : Told g → Content (header_of j) j.front j.is_torn below last j.gate (g.octets j.area)
  now told = j.sound.content told (g.octets j.area) (laws.holds j.area)

  -- sound over this area with this state, and it has these batches
  abbrev IsOver : A → List ℕ → ℕ → ℕ → Bool → Front → List (List ℕ) → Type 0
  IsOver new buffer gate torn_length is_torn front some =
      IsSound g new buffer gate torn_length is_torn front j.address j.generation
      × (Told g → batches_below gate (g.octets new) ≡ some)

  -- so it is over an area of the same size, of which this is left
  over : (new : A) (size : g.size new ≡ g.size j.area) (buffer : List ℕ) (gate torn_length : ℕ) (is_torn : Bool)
      (front : Front) (some : List (List ℕ)) → (Told g → All IsSmall some) → (Told g → (c : List ℕ)
      → g.may_leave new c → Content (header_of j) front is_torn some (take torn_length (drop 4 buffer)) gate c)
      → 32 ≤ gate → gate + 1 ≤ g.size j.area → torn_length ≤ longest_batch → torn_length ≤ length buffer - 4
      → (is_torn ≡ true → gate + torn_length + 6 ≤ g.size j.area) → (front ≡ Founding → is_torn ≡ false)
      → (Told g → IsReady front is_torn → Only (g.octets new) (g.may_leave new))
      → IsOver new buffer gate torn_length is_torn front some
  over new size buffer gate torn_length is_torn front some small leaves low high torn_size torn_held torn_fits whole
      durable = search (rules, listed_below, head_long)

  -- a call after which a crash leaves no more than before
  pub kept : (new : A) → g.size new ≡ g.size j.area → Within (g.may_leave j.area) (g.may_leave new)
      → IsOver new j.buffer.items j.gate j.torn_length j.is_torn j.front below
  kept new size within =
      over new size j.buffer.items j.gate j.torn_length j.is_torn j.front below j.sound.small
      (λ told c left. j.sound.content told c (within c left))
      j.sound.low j.sound.high j.sound.torn_size j.sound.torn_held j.sound.torn_fits j.sound.founding_whole
      (λ told yes c left. j.sound.durable told yes c (within c left)
      ∙ sym (j.sound.durable told yes (g.octets new) (within (g.octets new) (laws.holds new))))

  -- the journal is opened again
  module _ (new : A) (size : g.size new ≡ g.size j.area) (same : IsTrue g.tells_octets → g.octets new ≡ g.octets j.area)
      (durable : IsTrue g.tells_crash → Only (g.octets new) (g.may_leave new)) (first octet : ℕ)
      (seen : IsTrue g.tells_octets → (first ≡ get_or (g.octets j.area) 0 0) ×
      (octet ≡ gate_at (g.octets j.area) j.gate)) where
    abbrev reopened : List (List ℕ)
    reopened = with_last (j.is_torn && (octet == open_gate))

    abbrev moved : ℕ
    moved = gate_after j.is_torn j.gate j.torn_length octet

    reopened_content : Told g → (c : List ℕ) → g.may_leave new c
        → Content (header_of j) (front_after j.front first) false reopened last moved c
    reopened_content told c left =
        rw (durable told.1 c left ∙ same told.0)
        (after_first (header_of j) (first-header (g.size j.area) j.address j.generation) j.front reopened last moved
        (g.octets j.area) first (seen told.0).0
        (subst (λ n. Content (header_of j) j.front false reopened last (gate_after j.is_torn j.gate n octet)
        (g.octets j.area))
        length-last
        (after_gate (header_of j) head_long j.front below last last j.gate j.sound.low (g.octets j.area) j.is_torn octet
        (fits_left told (g.octets j.area) (laws.holds j.area)) (seen told.0).1 (now told))))

    pub reopened_over : IsOver new j.buffer.items moved j.torn_length false (front_after j.front first) reopened
    reopened_over =
        let gates = place_after j.is_torn j.gate j.torn_length octet
        (g.size j.area) j.sound.low (omega (arith, j.sound.high))
        (λ e. omega (arith, j.sound.torn_fits e)) in
        over new size j.buffer.items moved j.torn_length false (front_after j.front first) reopened
        (λ told. small_with told (j.is_torn && (octet == open_gate))) reopened_content
        gates.0 (omega (arith, gates.1)) j.sound.torn_size j.sound.torn_held
        (λ e. absurd (other_bool (sym e))) (λ e. refl) (λ told yes. durable told.1)

  -- what a crash leaves of it, open or closed
  pub keeps_any : Told g → (c : List ℕ) → g.may_leave j.area c →
      KeepsOr (front_of j) (header_of j) (batches j) (torn j) c
  unfolding batches torn
  keeps_any told c left =
      content_keeps_any (header_of j) head_long j.front below j.gate j.sound.low (j.sound.small told) last c small_last
      j.is_torn (inside_left told c left) (fits_left told c left) (j.sound.content told c left)

  -- the first closed gate stands behind the batches
  pub place_told : Told g → j.gate ≡ end_of (batches j)
  unfolding batches
  place_told told =
      place_is (header_of j) head_long j.gate (g.octets j.area) below j.sound.low (omega (arith, inside told))
      (now told).listed

  -- what a crash leaves of it, by the gate that it leaves
  pub keeps_by_gate : Told g → (c : List ℕ) → g.may_leave j.area c
      → Keeps (front_of j) (header_of j) (if j.is_torn && (gate_at c j.gate == open_gate) then batches j ++ torn j
      ∷ [] else batches j) c
  unfolding batches torn
  keeps_by_gate told c left =
      let octet = gate_at c j.gate in
      let stands = j.is_torn && (octet == open_gate) in
      let gates = place_after j.is_torn j.gate (length last) octet (length c) j.sound.low (inside_left told c left)
      (fits_left told c left) in
      content_keeps (header_of j) head_long j.front (with_last stands) (gate_after j.is_torn j.gate (length last) octet)
      gates.0 (small_with told stands) [] c gates.1
      (after_gate (header_of j) head_long j.front below last [] j.gate j.sound.low c j.is_torn octet
      (fits_left told c left) refl (j.sound.content told c left))

  -- at rest, open or closed
  pub rests : Rests j
  rests = search (rules, keeps_any, place_told)

  -- a stop that keeps what was written leaves the torn batch where a read finds it
  pub stands_as_new : (g.fate j.area).leaves New ≡ g.octets j.area → torn_stands j ≡ stop_stands New j
  unfolding torn_stands stop_stands
  stands_as_new is = ap (λ (o : List ℕ). j.is_torn && (gate_at o j.gate == open_gate)) (sym is)

  -- it isn't closed
  module _ (open' : is_closed j ≡ false) where
    pub ready : IsReady j.front j.is_torn
    ready = ready_of j.front j.is_torn open'

    -- what a crash leaves of a journal that may be added to
    content_of : Told g → (c : List ℕ) → g.may_leave j.area c → Content (header_of j) j.front false below last j.gate c
    content_of told c left = search rules

    now_of : Told g → Content (header_of j) j.front false below last j.gate (g.octets j.area)
    now_of told = content_of told (g.octets j.area) (laws.holds j.area)

    crash_keeps : Told g → (c : List ℕ) → g.may_leave j.area c → Keeps j.front (header_of j) below c
    crash_keeps told c left =
        content_keeps (header_of j) head_long j.front below j.gate j.sound.low (j.sound.small told) last c
        (inside_left told c left) (content_of told c left)

    pub settled : IsSettled j
    unfolding batches
    settled = search (rules, crash_keeps, place_told)

    pub shut_gate : Told g → gate_at (g.octets j.area) j.gate ≢ open_gate
    shut_gate told = (now_of told).shut refl

    pub only_octets : Told g → Only (g.octets j.area) (g.may_leave j.area)
    only_octets told = j.sound.durable told ready

    -- still not closed over an area of the same size
    whole_over : (new : A) (buffer : List ℕ) (gate torn_length : ℕ) (front : Front) (some : List (List ℕ))
        → IsOver new buffer gate torn_length false front some
        → IsOver new buffer gate torn_length j.is_torn front some
    whole_over new buffer gate torn_length front some over = rw ready.whole over

    -- a batch is being added
    module _ (batch framed later : List ℕ) (new : A) (short : length batch ≤ longest_batch) (is : framed ≡ frame batch)
        (held : take (length batch) (drop 4 later) ≡ batch) (long : length later ≡ length batch + 5)
        (fits : length batch + 5 ≤ g.size j.area - 1 - j.gate) (size : g.size new ≡ g.size j.area) where
      -- what a crash leaves of it while the batch is being added
      still_adding : Told g → (c : List ℕ) → IsAdding j.gate framed (g.octets j.area) c
          → Content (header_of j) j.front true below batch j.gate c
      still_adding told c step =
          adding (header_of j) j.front below j.gate j.sound.low batch framed last (g.octets j.area) c is (now_of told)
          step

      fits_adding : Told g → (c : List ℕ) → IsAdding j.gate framed (g.octets j.area) c →
          j.gate + 5 + length batch < length c
      fits_adding told c step = omega (arith, step.size, laws.whole j.area told.0, j.sound.high)

      -- where the batch stands
      module _ (octets_are : IsTrue g.tells_octets → g.octets new ≡ added j.gate framed (g.octets j.area))
          (durable : IsTrue g.tells_crash → Only (g.octets new) (g.may_leave new)) where
        abbrev more : List (List ℕ)
        more = below ++ batch ∷ []

        stood : Told g → (c : List ℕ) → g.may_leave new c
            → Content (header_of j) j.front false more (take (length batch) (drop 4 later)) (j.gate + 5 + length batch) c
        stood told c left =
            let step : IsAdding j.gate framed (g.octets j.area) (added j.gate framed (g.octets j.area)) =
            is_adding j.gate framed (g.octets j.area)
            (omega (arith, ap length is, length-frame batch, laws.whole j.area told.0, j.sound.high)) in
            rw (durable told.1 c left ∙ octets_are told.0)
            (taken_in (header_of j) j.front below j.gate j.sound.low head_long batch
            (take (length batch) (drop 4 later))
            (added j.gate framed (g.octets j.area)) (fits_adding told (added j.gate framed (g.octets j.area)) step)
            (still_adding told (added j.gate framed (g.octets j.area)) step)
            (added_open j.gate framed (g.octets j.area) (omega (arith, inside told))))

        pub grown : IsOver new later (j.gate + 5 + length batch) (length batch) j.is_torn j.front more
        grown =
            whole_over new later (j.gate + 5 + length batch) (length batch) j.front more
            (over new size later (j.gate + 5 + length batch) (length batch) false j.front more
            (λ told. All-push IsSmall below batch (j.sound.small told) short) stood
            (omega (arith, j.sound.low)) (omega (arith, j.sound.high, fits)) short (omega (arith, long))
            (λ e. absurd (other_bool (sym e))) (λ e. refl) (λ told yes. durable told.1))

      -- where it may stand
      module _ (leaves : Told g → gate_at (g.octets j.area) j.gate ≢ open_gate
          → Only (g.octets j.area) (g.may_leave j.area)
          → Leaves g j.area new (IsAdding j.gate framed (g.octets j.area))) where
        adds : Told g → Leaves g j.area new (IsAdding j.gate framed (g.octets j.area))
        adds told = leaves told (shut_gate told) (only_octets told)

        pub left_or : Told g → Leaves g j.area new (KeepsOr j.front (header_of j) (batches j) batch)
        unfolding batches
        left_or told =
            widen g j.area new _ _ (λ c step.
            content_keeps_or (header_of j) head_long j.front below j.gate j.sound.low (j.sound.small told) batch c short
            (fits_adding told c step) (still_adding told c step)) (adds told)

        may_stand : Told g → (c : List ℕ) → g.may_leave new c
            → Content (header_of j) j.front true below (take (length batch) (drop 4 later)) j.gate c
        may_stand told c may = search (rules, still_adding, adds)

        pub torn_over : IsOver new later j.gate (length batch) true j.front below
        torn_over =
            over new size later j.gate (length batch) true j.front below j.sound.small may_stand
            j.sound.low j.sound.high short (omega (arith, long)) (λ e. omega (arith, j.sound.high, fits))
            (λ e. absurd (ready.founded e)) (λ told yes. absurd (other_bool yes.whole))

    -- octet 0 is written
    module _ (new : A) (size : g.size new ≡ g.size j.area)
        (leaves : Only (g.octets j.area) (g.may_leave j.area) → Leaves g j.area new (Torn 0 1 (g.octets j.area))) where
      founding_content : Told g → (c : List ℕ) → Torn 0 1 (g.octets j.area) c
          → Content (header_of j) Founding false below last j.gate c
      founding_content told c torn = search (rules, founding, inside, now_of)

      founding_left : Told g → (c : List ℕ) → g.may_leave new c →
          Content (header_of j) Founding false below last j.gate c
      founding_left told c left = founding_content told c ((leaves (only_octets told)).now c left)

      pub founding_leaves : Told g → Leaves g j.area new (Keeps Founding (header_of j) (batches j))
      unfolding batches
      founding_leaves told =
          widen g j.area new _ _ (λ c torn.
          content_keeps (header_of j) head_long Founding below j.gate j.sound.low (j.sound.small told) last c
          (omega (arith, torn.size, inside told)) (founding_content told c torn)) (leaves (only_octets told))

      -- so it is over the area then, founded or being founded
      written : (front : Front) → (Told g → (c : List ℕ) → g.may_leave new c
          → Content (header_of j) front false below last j.gate c)
          → (Told g → IsReady front false → Only (g.octets new) (g.may_leave new))
          → IsOver new j.buffer.items j.gate j.torn_length j.is_torn front below
      written front left durable =
          whole_over new j.buffer.items j.gate j.torn_length front below
          (over new size j.buffer.items j.gate j.torn_length false front below j.sound.small left
          j.sound.low j.sound.high j.sound.torn_size j.sound.torn_held
          (λ e. absurd (other_bool (sym e))) (λ e. refl) durable)

      pub founding_over : IsOver new j.buffer.items j.gate j.torn_length j.is_torn Founding below
      founding_over = written Founding founding_left (λ told yes. absurd (yes.founded refl))

      -- and stands
      module _ (octets_are : IsTrue g.tells_octets → g.octets new ≡ overwritten (g.octets j.area) 0 (67 ∷ []))
          (durable : IsTrue g.tells_crash → Only (g.octets new) (g.may_leave new)) where
        founded_left : Told g → (c : List ℕ) → g.may_leave new c →
            Content (header_of j) Founded false below last j.gate c
        founded_left told c left = search (rules, after_first, first-header, founding_left)

        pub founded_over : IsOver new j.buffer.items j.gate j.torn_length j.is_torn Founded below
        founded_over = written Founded founded_left (λ told yes. durable told.1)
