-- What stays true of a trail over its calls.
use Rattle.std.proofs.Common.{◌≡◌, ◌≢◌, ℕ, ◌+◌, ◌*◌, ◌≤◌, true, false, List, [], ◌∷◌, ◌++◌, length, take, drop, refl, sym, ◌∙◌, ap, subst, arith, length-append, rules}
use Rattle.cgf_journal.proofs.Names.{All, All-append, All-head, All-nil, All-tail, All-weaker, AreBatches, AreEntries, AreListed, batches, both_ways, capacity_of, cheapest_entry, cost_of, costs_of, costs_of-append, costs_of-spelled, drop-append-le, drop_all, end, end_of, EndsBy, entries_in, entries_of, entries_of-nil, EntriesAreReadBack, entry_length, Founded, front_of, Ghosts, HasSpelling, header_length, HistoryEntry, is_founded, IsContent, IsSound, IsTakenUpTo, Journal, length-drop, length-take-le, length_of_spelling, longest_batch, more_entries, nil_from_length, no_entries, one_entry, Place, Placed, places_behind, places_from, spelling, take-append-drop, take-append-le, take_all, taken, taken-append, Tallies, tally_behind, tally_behind_all, tally_of, TallyValue, Told, Trail}
use Rattle.gate_journal.specs.Journal.{area_of, is_closed}
use Rattle.cgf_journal.proofs.Tallies.{are_batches-push, costs_at_least, entries_in-push, tally_all, tally_all-append, tally_all-costs, tally_of-costs}
use Rattle.cgf_journal.proofs.Placing.{length-places_from, places_behind-push, places_from-append, places_from-ends, length-places_behind}
use Rattle.cgf_journal.proofs.Listings.{no_more}

-- where nothing waits: all entries of the journal are firm, and have these places and this tally
pub none_wait : {A : Type 0} {tells : Ghosts A} (journal : Journal A tells) (size firm reserved : ℕ) (places : List Place) (held : TallyValue)
    → is_founded (front_of journal) ≡ true → is_closed journal ≡ false → size ≡ tells.size (area_of journal) → firm ≡ length places
    → All (EndsBy (end journal)) places → end journal ≤ header_length + held.costs → cheapest_entry * length places ≤ held.costs
    → held.costs ≤ capacity_of size → (Told tells → AreBatches size (batches journal))
    → (Told tells → held ≡ tally_of (entries_in (batches journal))) → (Told tells → places ≡ places_behind header_length (batches journal))
    → IsSound journal size (record { octets = []; capacity = longest_batch }) places firm (record { firm = held; live = held; reserved = reserved })
none_wait journal size firm reserved places held founded opened sized counted ends low dear within are tallied placed =
    search (rules, take_all, entries_of-nil, no_entries, drop_all, both_ways)

module _ {A : Type 0} {tells : Ghosts A} (t : Trail A tells) where
  -- the entries that wait
  abbrev pending : List HistoryEntry
  pending = entries_of t.waiting.octets

  pub live_costs : t.tally.live.costs ≡ t.tally.firm.costs + length t.waiting.octets + 5 * length pending
  live_costs = omega (arith, ap (λ (v : TallyValue). v.costs) t.sound.live_tally, tally_all-costs t.tally.firm pending, costs_of-spelled pending, ap length t.sound.are_entries.spelling)

  pub waiting_count : length t.places.items ≡ t.firm + length pending
  waiting_count = omega (arith, t.sound.firm_places, length-drop t.firm t.places.items, ap length t.sound.waiting_placed, length-places_from (end t.journal + 5) pending)

  -- and no entry costs less than 30
  pub dear_places : cheapest_entry * length t.places.items ≤ t.tally.live.costs
  dear_places = omega (arith, t.sound.dear, waiting_count, ap (λ (v : TallyValue). v.costs) t.sound.live_tally, tally_all-costs t.tally.firm pending, costs_at_least pending)

  some_wait : t.waiting.octets ≢ [] → 1 ≤ length pending
  some_wait some = grind (arith, nil_from_length)

  -- there is room for what waits
  pub fits : t.waiting.octets ≢ [] → end t.journal + 5 + length t.waiting.octets + 1 ≤ tells.size (area_of t.journal)
  fits some = omega (arith, some_wait some, live_costs, t.sound.taken, t.sound.within)

  pub live_is : Told tells → t.tally.live ≡ tally_of (entries_in (batches t.journal) ++ pending)
  live_is told = t.sound.live_tally ∙ ap (λ (v : TallyValue). tally_behind_all v pending) (t.sound.firm_tally told) ∙ tally_all (entries_in (batches t.journal)) pending

  pub one_more_batch : Told tells → t.waiting.octets ≢ [] → AreBatches (tells.size (area_of t.journal)) (batches t.journal ++ t.waiting.octets ∷ [])
  one_more_batch told some =
      let costs : costs_of (entries_in (batches t.journal) ++ pending) ≤ capacity_of (tells.size (area_of t.journal)) = omega (arith, ap (λ (v : TallyValue). v.costs) (live_is told), tally_of-costs (entries_in (batches t.journal) ++ pending), t.sound.within) in
      are_batches-push (tells.size (area_of t.journal)) (batches t.journal) t.waiting.octets (t.sound.are_batches told) (record { some = some; are_entries = t.sound.are_entries }) costs

  -- a journal that takes batches goes on
  module _ (new : Journal A tells) (founded : is_founded (front_of new) ≡ true) (opened : is_closed new ≡ false) (same_size : tells.size (area_of new) ≡ tells.size (area_of t.journal)) where
    -- without a batch more: what waited is dropped
    pub dropped : end new ≡ end t.journal → (Told tells → batches new ≡ batches t.journal)
        → IsSound new t.size (record { octets = []; capacity = longest_batch }) (take t.firm t.places.items) t.firm (record { firm = t.tally.firm; live = t.tally.firm; reserved = t.tally.reserved })
    dropped same_end list =
        let left : length (take t.firm t.places.items) ≡ t.firm = length-take-le t.firm t.places.items t.sound.firm_places in
        none_wait new t.size t.firm t.tally.reserved (take t.firm t.places.items) t.tally.firm founded opened (t.sound.sized ∙ sym same_size)
        (sym left) (rw same_end t.sound.firm_ends) (omega (arith, t.sound.taken, same_end)) (omega (arith, t.sound.dear, left))
        (omega (arith, t.sound.within, live_costs, t.sound.sized)) (λ told. rw (list told, t.sound.sized) (t.sound.are_batches told))
        (λ told. rw (list told) (t.sound.firm_tally told)) (λ told. rw (list told) (t.sound.firm_placed told))

    -- with what waited as its last batch
    module _ (end_is : end new ≡ end t.journal + 5 + length t.waiting.octets) (place : Told tells → end new ≡ end_of (batches new))
        (list : Told tells → batches new ≡ batches t.journal ++ t.waiting.octets ∷ []) (some : t.waiting.octets ≢ []) where
      placed : Told tells → t.places.items ≡ places_behind header_length (batches new)
      placed told = grind (arith, taken-append, take-append-drop, places_behind-push)

      all_end : All (EndsBy (end new)) t.places.items
      all_end =
          subst (All (EndsBy (end new))) (take-append-drop t.firm t.places.items)
          (All-append (EndsBy (end new)) (take t.firm t.places.items) (drop t.firm t.places.items)
          (All-weaker (EndsBy (end t.journal)) (EndsBy (end new)) (λ place ends. omega (arith, ends, end_is)) (take t.firm t.places.items) t.sound.firm_ends)
          (rw t.sound.waiting_placed (places_from-ends (end t.journal + 5) pending (end new) (omega (arith, end_is, ap length t.sound.are_entries.spelling)))))

      pub settled : IsSound new t.size (record { octets = []; capacity = longest_batch }) t.places.items (length t.places.items) (record { firm = t.tally.live; live = t.tally.live; reserved = t.tally.reserved })
      settled =
          none_wait new t.size (length t.places.items) t.tally.reserved t.places.items t.tally.live founded opened (t.sound.sized ∙ sym same_size) refl
          all_end (omega (arith, t.sound.taken, end_is, live_costs, some_wait some)) dear_places (omega (arith, t.sound.within, t.sound.sized))
          (λ told. rw (list told, t.sound.sized) (one_more_batch told some))
          (λ told. rw (list told) (live_is told ∙ ap (λ (h : List HistoryEntry). tally_of h) (sym (entries_in-push (batches t.journal) t.waiting.octets)))) placed

  -- one more entry waits
  module _ (back : EntriesAreReadBack) (e : HistoryEntry) (has : HasSpelling e) where
    grown : AreEntries (t.waiting.octets ++ spelling e) (pending ++ e ∷ [])
    grown = more_entries t.waiting.octets (spelling e) pending (e ∷ []) t.sound.are_entries (one_entry e has)

    pub pending-push : entries_of (t.waiting.octets ++ spelling e) ≡ pending ++ e ∷ []
    pending-push = back (t.waiting.octets ++ spelling e) (pending ++ e ∷ []) grown

    module _ (place : Place) (at_is : place.at ≡ end t.journal + 5 + length t.waiting.octets) (length_is : place.length ≡ entry_length e) where
      placed_last : drop t.firm (t.places.items ++ place ∷ []) ≡ places_from (end t.journal + 5) (pending ++ e ∷ [])
      placed_last = grind (arith, drop-append-le, places_from-append)

      pub pushed : is_closed t.journal ≡ false → length t.waiting.octets + entry_length e ≤ longest_batch → t.tally.live.costs + cost_of e ≤ capacity_of (tells.size (area_of t.journal))
          → IsSound t.journal t.size (record { octets = t.waiting.octets ++ spelling e; capacity = t.waiting.capacity }) (t.places.items ++ place ∷ []) t.firm (record { firm = t.tally.firm; live = tally_behind t.tally.live e; reserved = t.tally.reserved })
      pushed opened short costs =
          let front : take t.firm (t.places.items ++ place ∷ []) ≡ take t.firm t.places.items = take-append-le t.firm t.places.items (place ∷ []) t.sound.firm_places in
          record {
            founded = t.sound.founded;
            sized = t.sound.sized;
            room = t.sound.room;
            short = omega (arith, short, length-append t.waiting.octets (spelling e), length_of_spelling e);
            are_entries = subst (λ (h : List HistoryEntry). AreEntries (t.waiting.octets ++ spelling e) h) (sym pending-push) grown;
            live_tally = ap (λ (v : TallyValue). tally_behind v e) t.sound.live_tally ∙ sym (tally_all-append t.tally.firm pending (e ∷ [])) ∙ ap (λ (h : List HistoryEntry). tally_behind_all t.tally.firm h) (sym pending-push);
            waiting_placed = placed_last ∙ ap (λ (h : List HistoryEntry). places_from (end t.journal + 5) h) (sym pending-push);
            torn_waits = λ closed. absurd (both_ways (is_closed t.journal) opened closed);
            some_torn = λ closed. absurd (both_ways (is_closed t.journal) opened closed);
            firm_places = omega (arith, t.sound.firm_places, length-append t.places.items (place ∷ []));
            firm_ends = rw front t.sound.firm_ends;
            taken = t.sound.taken;
            dear = t.sound.dear;
            within = omega (arith, costs);
            are_batches = t.sound.are_batches;
            firm_tally = t.sound.firm_tally;
            firm_placed = λ told. front ∙ t.sound.firm_placed told;
          }

-- ---- a trail whose batches were all taken in is sound

-- a batch costs its octets and its gate and length at least
batch_costs : (batch : List ℕ) → IsContent batch → length batch + 5 ≤ costs_of (entries_of batch)
batch_costs batch content = grind (arith, costs_of-spelled, nil_from_length)

-- so batches take no more octets than their entries cost
taken_costs : (some : List (List ℕ)) → All IsContent some → taken some ≤ costs_of (entries_in some)
taken_costs [] contents = omega arith
taken_costs (batch ∷ some) contents = omega (
  arith,
  batch_costs batch (All-head IsContent batch some contents),
  taken_costs some (All-tail IsContent batch some contents),
  costs_of-append (entries_of batch) (entries_in some),
)

-- and all their entries end where they do
places_end : (gate : ℕ) (some : List (List ℕ)) (end : ℕ) → All IsContent some → gate + taken some ≤ end → All (EndsBy end) (places_behind gate some)
places_end gate [] end contents le = All-nil (EndsBy end)
places_end gate (batch ∷ some) end contents le =
    let content : IsContent batch = All-head IsContent batch some contents in
    All-append (EndsBy end) (places_from (gate + 5) (entries_of batch)) (places_behind (gate + 5 + length batch) some)
    (places_from-ends (gate + 5) (entries_of batch) end (omega (arith, le, ap length content.are_entries.spelling)))
    (places_end (gate + 5 + length batch) some end (All-tail IsContent batch some contents) (omega (arith, le)))

module _ {A : Type 0} {tells : Ghosts A} (journal : Journal A tells) (size : ℕ) (held : Placed) (tally : Tallies) (sized : size ≡ tells.size (area_of journal))
    (ends : Told tells → end journal ≡ end_of (batches journal)) {Judged : List HistoryEntry → Type 0} (taken_in : IsTakenUpTo (AreListed tells (batches journal)) Judged size (end journal) held tally) where
  abbrev places : List Place
  places = held.items

  pub all_taken : Told tells → batches journal ≡ taken_in.some
  all_taken told =
      let begins = taken_in.begins (batches journal) (record { told = told; same = refl }) in
      no_more taken_in.some begins.0 (batches journal) (end journal) begins.1 taken_in.taken_in.gate_is (ends told)

  pub all_batches : Told tells → AreBatches size (batches journal)
  all_batches told = subst (λ (l : List (List ℕ)). AreBatches size l) (sym (all_taken told)) taken_in.taken_in.are_batches

  pub all_judged : Told tells → Judged (entries_in (batches journal))
  all_judged told = subst (λ (l : List (List ℕ)). Judged (entries_in l)) (sym (all_taken told)) taken_in.judged

  costs_are : tally.live.costs ≡ costs_of (entries_in taken_in.some)
  costs_are = ap (λ (t : TallyValue). t.costs) taken_in.taken_in.live ∙ tally_of-costs (entries_in taken_in.some)

  pub made : front_of journal ≡ Founded → is_closed journal ≡ false
      → IsSound journal size (record { octets = []; capacity = longest_batch }) places (length places) (record { firm = tally.live; live = tally.live; reserved = tally.reserved })
  made founded opened =
      let are = taken_in.taken_in.are_batches in
      let count : length places ≡ length (entries_in taken_in.some) = ap (λ (l : List Place). length l) taken_in.taken_in.placed ∙ length-places_behind header_length taken_in.some in
      none_wait journal size (length places) tally.reserved places tally.live (ap is_founded founded) opened sized refl
      (rw taken_in.taken_in.placed (places_end header_length taken_in.some (end journal) are.contents (omega (arith, taken_in.taken_in.gate_is))))
      (omega (arith, taken_in.taken_in.gate_is, costs_are, taken_costs taken_in.some are.contents)) (omega (arith, costs_are, count, costs_at_least (entries_in taken_in.some)))
      (omega (arith, costs_are, are.costs)) all_batches
      (λ told. rw (all_taken told) taken_in.taken_in.live) (λ told. rw (all_taken told) taken_in.taken_in.placed)
