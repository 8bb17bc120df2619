-- What a trail tells of its entries.
use Rattle.std.proofs.Common.{◌≡◌, ◌≢◌, inl, inr, ℕ, ◌+◌, ◌-◌, ◌*◌, ◌<◌, ◌≤◌, true, false, List, [], ◌∷◌, ◌++◌, length, take, drop, refl, sym, ◌∙◌, ap, subst, arith, length-append, rules}
use Rattle.cgf_journal.proofs.Names.{append-nil, area_of, AreaLaws, AreBatches, begin, both, both_ways, by_batches, capacity_of, cases_Bool, cases_lt, cheapest_entry, cond_both, cost_of, costs_of, costs_of-spelled, each_spelled, EndsBy, entries, entries_in, entries_of, entries_of-nil, entry_length, false_from_ne_true, firm_entries, Founded, free_beside, free_of, Front, get_or_from_slice_get, Ghosts, has_room_behind, has_room_of, HasSpelling, header_length, header_of, HistoryEntry, if◌then◌else◌, is_closed, is_founded, IsAtRest, IsFirmPlaceOf, IsPlaceOf, IsSettled, IsTrue, Leaves, leb-true, left_by_stop, length-take-le, length_of, nil_from_length, OnErr, Outcome3, Place, Result, slice_get, slice_get_within, Some, spelled, StandsFor, StandsForOr, stop_stands, take-append-drop, tally, tally_of, TallyValue, Told, Trail, true_from_ne_false, waiting, waiting_octets, widen}
use Rattle.gate_journal.specs.Journal as journal
use Rattle.gate_journal.specs.State.{Keeps}
use Rattle.cgf_journal.specs.Outcomes.{IsKept}
use Rattle.cgf_journal.proofs.Tallies.{entries_in-push, tally_of-costs}
use Rattle.cgf_journal.proofs.Placing.{IsAmong, IsFound, behind_is, from_is, get_left, get_right, length-places_behind}
use Rattle.cgf_journal.proofs.Sounds.{dear_places, live_costs, live_is, one_more_batch, waiting_count}

pub founded_is : (front : Front) → is_founded front ≡ true → front ≡ Founded
founded_is front e = grind arith

pub on_err : {T E Q : Type 0} (r : Result T E) → Q → OnErr r Q
on_err r q = search rules

-- what has room has it beside what all entries cost
pub room_costs : (t : TallyValue) (e : HistoryEntry) (size : ℕ) → has_room_behind t e size ≡ true → t.costs + cost_of e ≤ capacity_of size
room_costs t e size room = grind (arith, leb-true)

-- what has room has it where the tallies are the same
pub same_room : {A : Type 0} {tells : Ghosts A} (old new : Trail A tells) → tells.size (area_of new) ≡ tells.size (area_of old) → tally new ≡ tally old → (e : HistoryEntry) → has_room_of new e ≡ has_room_of old e
unfolding has_room_of
same_room old new size same e i = has_room_behind (same i) e (size i)

pub same_free : {A : Type 0} {tells : Ghosts A} (old new : Trail A tells) → tells.size (area_of new) ≡ tells.size (area_of old) → tally new ≡ tally old → free_of new ≡ free_of old
unfolding free_of
same_free old new size same i = free_beside (same i) (size i)

-- what a crash leaves at any moment of calls has as many octets as the area
leaves_sized : {A : Type 0} (tells : Ghosts A) → AreaLaws tells → (old new : A) → tells.size new ≡ tells.size old → IsTrue tells.tells_crash
    → {P : List ℕ → Type 0} → Leaves tells old new P → Leaves tells old new (λ c. length c ≡ tells.size old)
leaves_sized tells laws old new same told leaves = grind arith

-- what a trail holds stays where its journal lists the same
pub kept : {A : Type 0} {tells : Ghosts A} (old new : Trail A tells) → tells.size (area_of new) ≡ tells.size (area_of old) → header_of new ≡ header_of old → is_closed new ≡ is_closed old
    → (Told tells → journal.batches new.journal ≡ journal.batches old.journal) → new.waiting ≡ old.waiting → new.places.items ≡ old.places.items → new.firm ≡ old.firm → new.tally ≡ old.tally → IsKept old new
unfolding firm_entries waiting
kept old new size header closed list waits places firm tallies = search (rules, same_room, same_free)

module _ {A : Type 0} {tells : Ghosts A} (trail : Trail A tells) where
  pub waiting_octets-none : waiting trail ≡ [] → waiting_octets trail ≡ 0
  unfolding waiting
  waiting_octets-none none = ap length (trail.sound.are_entries.spelling ∙ ap spelled none)

  pub waiting-none : waiting_octets trail ≡ 0 → waiting trail ≡ []
  unfolding waiting
  waiting-none none = ap entries_of (nil_from_length trail.waiting.octets none) ∙ entries_of-nil

  pub entries_open : is_closed trail ≡ false → entries trail ≡ firm_entries trail ++ waiting trail
  entries_open opened = ap (λ b. if b then firm_entries trail else firm_entries trail ++ waiting trail) opened

  -- where no octet waits, all entries are firm
  pub entries_firm : waiting_octets trail ≡ 0 → entries trail ≡ firm_entries trail
  entries_firm none =
      cond_both (is_closed trail) (firm_entries trail) (firm_entries trail ++ waiting trail)
      (λ (h : List HistoryEntry). h ≡ firm_entries trail) (λ _. refl)
      (λ _. ap (λ (h : List HistoryEntry). firm_entries trail ++ h) (waiting-none none)
      ∙ append-nil (firm_entries trail))

  -- as the trail counts them
  pub firm_count : Told tells → trail.firm ≡ length (firm_entries trail)
  unfolding firm_entries
  firm_count told = omega (arith, length-take-le trail.firm trail.places.items trail.sound.firm_places, ap length (trail.sound.firm_placed told), length-places_behind header_length (journal.batches trail.journal))

  pub places_count : length trail.places.items ≡ trail.firm + length (waiting trail)
  unfolding waiting
  places_count = waiting_count trail

  pub length_firm : waiting_octets trail ≡ 0 → length_of trail ≡ trail.firm
  length_firm none = grind (arith, cond_both, places_count, waiting-none)

  pub count : Told tells → length_of trail ≡ length (entries trail)
  count told = grind (arith, firm_count, places_count, length-append)

  pub tally_is : Told tells → tally trail ≡ tally_of (entries trail)
  unfolding firm_entries waiting
  tally_is told = grind (arith, live_is)

  -- a firm place is among the firm ones
  pub get_firm : (k : ℕ) (place : Place) → IsFirmPlaceOf trail k place → slice_get (take trail.firm trail.places.items) k ≡ Some place
  get_firm k place is =
      let low : k < length (take trail.firm trail.places.items) = omega (arith, is.0, length-take-le trail.firm trail.places.items trail.sound.firm_places) in
      sym (get_left (take trail.firm trail.places.items) (drop trail.firm trail.places.items) k low) ∙ ap (λ (l : List Place). slice_get l k) (take-append-drop trail.firm trail.places.items) ∙ is.1

  pub place_ends : (k : ℕ) (place : Place) → IsFirmPlaceOf trail k place → place.at + place.length ≤ journal.end trail.journal
  place_ends k place is =
      let found = get_firm k place is in
      subst (EndsBy (journal.end trail.journal)) (get_or_from_slice_get (take trail.firm trail.places.items) k place place found)
      (trail.sound.firm_ends k place (slice_get_within (take trail.firm trail.places.items) k place found))

  pub place_is : Told tells → (k : ℕ) (place : Place) → IsFirmPlaceOf trail k place → IsFound header_length (journal.batches trail.journal) k place
  place_is told k place is = search (rules, behind_is, get_firm)

  pub entry_is : Told tells → (k : ℕ) (place : Place) (e : HistoryEntry) → IsFirmPlaceOf trail k place → slice_get (firm_entries trail) k ≡ Some e → IsAmong header_length (journal.batches trail.journal) place e
  unfolding firm_entries
  entry_is told k place e is get =
      let found = place_is told k place is in
      let some : Some found.0 ≡ Some e = sym found.1 ∙ get in
      let same : found.0 ≡ e = cc in
      subst (λ (x : HistoryEntry). IsAmong header_length (journal.batches trail.journal) place x) same found.2

  -- a firm entry has its spelling
  pub spelling_is : Told tells → (k : ℕ) (e : HistoryEntry) → slice_get (firm_entries trail) k ≡ Some e → HasSpelling e
  unfolding firm_entries
  spelling_is told k e get =
      let each = each_spelled (journal.batches trail.journal) (trail.sound.are_batches told).contents in
      subst HasSpelling (get_or_from_slice_get (firm_entries trail) k e e get) (each k e (slice_get_within (firm_entries trail) k e get))

  pub firm_costs_fit : trail.tally.firm.costs ≤ trail.size
  firm_costs_fit = omega (arith, live_costs trail, trail.sound.within, trail.sound.sized)

  pub bound : cheapest_entry * length trail.places.items ≤ trail.size
  bound = omega (arith, dear_places trail, trail.sound.within, ap capacity_of trail.sound.sized)

  firm_costs_are : Told tells → trail.tally.firm.costs ≡ costs_of (firm_entries trail)
  unfolding firm_entries
  firm_costs_are told = ap (λ (t : TallyValue). t.costs) (trail.sound.firm_tally told) ∙ tally_of-costs (firm_entries trail)

  -- how many octets spell the firm entries
  pub firm_spelled : Told tells → trail.tally.firm.costs ≡ length (spelled (firm_entries trail)) + 5 * trail.firm
  firm_spelled told = omega (arith, firm_costs_are told, costs_of-spelled (firm_entries trail), firm_count told)

  -- the k-th place has the length of the k-th entry, firm or not
  later_length : (j : ℕ) (place : Place) (e : HistoryEntry) → slice_get (drop trail.firm trail.places.items) j ≡ Some place → slice_get (waiting trail) j ≡ Some e → place.length ≡ entry_length e
  unfolding waiting
  later_length j place e there get = grind (arith, from_is)

  later_place : (j : ℕ) (place : Place) → IsPlaceOf trail (trail.firm + j) place → slice_get (drop trail.firm trail.places.items) j ≡ Some place
  later_place j place is =
      let front : length (take trail.firm trail.places.items) ≡ trail.firm = length-take-le trail.firm trail.places.items trail.sound.firm_places in
      sym (get_right (take trail.firm trail.places.items) (drop trail.firm trail.places.items) j)
      ∙ ap (λ n. slice_get (take trail.firm trail.places.items ++ drop trail.firm trail.places.items) (n + j)) front
      ∙ ap (λ (l : List Place). slice_get l (trail.firm + j)) (take-append-drop trail.firm trail.places.items) ∙ is

  pub length_is : Told tells → (k : ℕ) (place : Place) (e : HistoryEntry) → k < length_of trail → IsPlaceOf trail k place → slice_get (entries trail) k ≡ Some e → place.length ≡ entry_length e
  length_is told k place e inside is get = elim (cases_lt k trail.firm) [
    | inl low ↦
        let firm : slice_get (firm_entries trail) k ≡ Some e = elim (cases_Bool (is_closed trail)) [
          | inl closed ↦ rw closed at get
          | inr opened ↦ sym (get_left (firm_entries trail) (waiting trail) k (omega (arith, low, firm_count told))) ∙ (rw opened at get)
        ] in
        (entry_is told k place e (low, is) firm).here.size
    | inr high ↦
        let opened = false_from_ne_true (is_closed trail) (λ closed. omega (arith, high, rw closed at inside)) in
        let later : length (firm_entries trail) + (k - trail.firm) ≡ k = omega (arith, high, firm_count told) in
        let at : trail.firm + (k - trail.firm) ≡ k = omega (arith, high) in
        later_length (k - trail.firm) place e (later_place (k - trail.firm) place (ap (λ n. slice_get trail.places.items n) at ∙ is))
        (sym (get_right (firm_entries trail) (waiting trail) (k - trail.firm))
        ∙ ap (λ n. slice_get (firm_entries trail ++ waiting trail) n) later ∙ (rw opened at get))
  ]

  -- what octets stand for that its journal keeps: its batches, and one more
  module _ (told : Told tells) (c : List ℕ) (sized : length c ≡ tells.size (area_of trail)) where
    stands_by : (batches : List (List ℕ)) → AreBatches (tells.size (area_of trail)) batches → Keeps (journal.front_of trail.journal) (header_of trail) batches c → StandsFor (header_of trail) c (entries_in batches)
    stands_by batches are keeps = search (rules, by_batches, founded_is)

    firm_stand : Keeps (journal.front_of trail.journal) (header_of trail) (journal.batches trail.journal) c → StandsFor (header_of trail) c (firm_entries trail)
    unfolding firm_entries
    firm_stand keeps = stands_by (journal.batches trail.journal) (trail.sound.are_batches told) keeps

    all_stand : (batch : List ℕ) → batch ≡ trail.waiting.octets → trail.waiting.octets ≢ [] → Keeps (journal.front_of trail.journal) (header_of trail) (journal.batches trail.journal ++ batch ∷ []) c
        → StandsFor (header_of trail) c (firm_entries trail ++ waiting trail)
    unfolding firm_entries waiting
    all_stand batch is some keeps = grind (arith, entries_in-push, stands_by, one_more_batch)

    either_stands : (batch : List ℕ) → batch ≡ trail.waiting.octets → trail.waiting.octets ≢ [] → journal.KeepsOr (journal.front_of trail.journal) (header_of trail) (journal.batches trail.journal) batch c
        → StandsForOr (header_of trail) (firm_entries trail) (firm_entries trail ++ waiting trail) c
    either_stands batch is some holds = search (rules, firm_stand, all_stand)

  -- with the laws of the area
  module _ (laws : AreaLaws tells) where
    pub settled : journal.IsSettled trail.journal → IsSettled trail
    settled is = record {
      reads = λ told. firm_stand told (tells.octets (area_of trail)) (laws.whole (area_of trail) told.0) (is.reads told);
      crash = crash;
      still = λ told. begin tells laws.only_now (area_of trail) _ (crash told);
    }
      where
        crash : Told tells → (c : List ℕ) → tells.may_leave (area_of trail) c → StandsFor (header_of trail) c (firm_entries trail)
        crash told c left = firm_stand told c (laws.same_size (area_of trail) c told.1 left) (is.crash told c left)

    -- closed or not
    pub at_rest : (is_closed trail ≡ false → journal.IsSettled trail.journal) → journal.Rests trail.journal → IsAtRest trail
    at_rest opened rests = elim (cases_Bool (is_closed trail)) [
      | inl closed ↦ record {
        reads = λ told. either_stands told (tells.octets (area_of trail)) (laws.whole (area_of trail) told.0) (journal.torn trail.journal) (trail.sound.torn_waits closed) (trail.sound.some_torn closed) (rests.reads told);
        still = λ told. begin tells laws.only_now (area_of trail) _ (λ c left.
            either_stands told c (laws.same_size (area_of trail) c told.1 left) (journal.torn trail.journal) (trail.sound.torn_waits closed) (trail.sound.some_torn closed) (rests.crash told c left));
      }
      | inr free ↦
          let is = settled (opened free) in
          record { reads = λ told. inl (is.reads told); still = λ told. begin tells laws.only_now (area_of trail) _ (λ c left. inl (is.crash told c left)) }
    ]

  -- what the journal leaves in a call, stands for the firm entries, or with those that wait
  pub leaves_either : (new : A) (batch : List ℕ) → Told tells → batch ≡ trail.waiting.octets → trail.waiting.octets ≢ []
      → AreaLaws tells → tells.size new ≡ tells.size (area_of trail)
      → Leaves tells (area_of trail) new (journal.KeepsOr (journal.front_of trail.journal) (header_of trail) (journal.batches trail.journal) batch)
      → Leaves tells (area_of trail) new (StandsForOr (header_of trail) (firm_entries trail) (firm_entries trail ++ waiting trail))
  leaves_either new batch told is some laws same keeps = search (rules, widen, either_stands, both, leaves_sized)

  -- what a stop leaves
  pub stop_is : (told : Told tells) → (is_closed trail ≡ false → (outcome : Outcome3) → stop_stands outcome trail ≡ false) → (c : List ℕ) → length c ≡ tells.size (area_of trail)
      → (outcome : Outcome3) → Keeps (journal.front_of trail.journal) (header_of trail) (journal.left_by_stop outcome trail.journal) c → StandsFor (header_of trail) c (left_by_stop outcome trail)
  stop_is told none_torn c sized outcome keeps = search (rules, true_from_ne_false, both_ways, all_stand, firm_stand)
