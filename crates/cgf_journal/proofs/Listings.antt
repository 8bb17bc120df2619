-- Batches that an opening takes in, one after the other.
use Rattle.std.proofs.Common.{◌≡◌, ℕ, ◌+◌, ◌<◌, ◌≤◌, List, [], ◌∷◌, ◌++◌, Result, Ok, Err, length, take, drop, refl, sym, ◌∙◌, ap, subst, arith, append_assoc, ◌≢◌, ◌*◌, ◌==◌, true, false, rules}
use Rattle.cgf_journal.proofs.Names.{All, All-drop, All-head, append-nil, AreBatches, AreEntries, AreFit, AreTakenIn, BreaksAt, capacity_of, costs_of, drop_at, end_of, entries_in, entries_of, EntriesAreReadBack, entry_length, eqb-false, eqb-true, HistoryEntry, IfOk, IsContent, IsJudged, IsTakenUpTo, length-append, length_of_spelling, more_entries, nil_from_length, no_entries, one_entry, OnOk, OpenFault, Option, Place, Placed, places_from, Some, some_pair_parts, spelled, spelling, take-append-drop, take_all, taken, taken-append, Tallies, tally_behind_all, tally_of, TallyValue}
use Rattle.cgf_journal.specs.declared.judge.Judge.{Ghosts}
use Rattle.cgf_journal.specs.Contents.{IsTakenIn}
use Rattle.cgf_journal.proofs.Tallies.{are_batches-push, entries_in-push, tally_all, tally_of-costs, tally_all-append, tally_all-costs}
use Rattle.cgf_journal.proofs.Placing.{places_behind-push, places_from-append}

-- the last of some batches is entries
pub last_content : (some : List (List ℕ)) (batch : List ℕ) → All IsContent (some ++ batch ∷ []) → IsContent batch
last_content some batch all =
    All-head IsContent batch [] (subst (λ (l : List (List ℕ)). All IsContent l) (drop_at some (batch ∷ []) (length some) refl) (All-drop IsContent (length some) (some ++ batch ∷ []) all))

module _ (size gate : ℕ) (some : List (List ℕ)) (places : Placed) (tally : Tallies) (taken_in : AreTakenIn size gate some places tally) (batch : List ℕ) where
  live_behind : tally_behind_all tally.live (entries_of batch) ≡ tally_of (entries_in (some ++ batch ∷ []))
  live_behind = grind (arith, tally_all, entries_in-push)

  costs_are : (tally_behind_all tally.live (entries_of batch)).costs ≡ costs_of (entries_in (some ++ batch ∷ []))
  costs_are = ap (λ (t : TallyValue). t.costs) live_behind ∙ tally_of-costs (entries_in (some ++ batch ∷ []))

  -- one more is taken in
  pub one_more : (more : Placed) (new : Tallies) → IsContent batch → more.items ≡ places.items ++ places_from (gate + 5) (entries_of batch) → more.reserved ≡ places.reserved
      → new ≡ record { firm = tally.firm; live = tally_behind_all tally.live (entries_of batch); reserved = tally.reserved } → new.live.costs ≤ capacity_of size
      → AreTakenIn size (gate + 5 + length batch) (some ++ batch ∷ []) more new
  one_more more new content placed same counted within =
      search (rules, costs_are, are_batches-push, entries_in-push, taken-append, places_behind-push, live_behind)

  -- one that costs too much is none to take in
  pub too_dear : (new : Tallies) → new ≡ record { firm = tally.firm; live = tally_behind_all tally.live (entries_of batch); reserved = tally.reserved } → capacity_of size < new.live.costs → AreBatches size (some ++ batch ∷ []) → ⊥
  too_dear new counted past are = grind (arith, costs_are)

-- a list that begins with batches before its end goes on behind them
pub goes_on : (some more all : List (List ℕ)) (gate end : ℕ) → all ≡ some ++ more → gate ≡ end_of some → end ≡ end_of all → gate < end → (batch : List ℕ) × (rest : List (List ℕ)) × (all ≡ some ++ batch ∷ rest)
goes_on some [] all gate end is at last before = absurd (omega (arith, at, last, before, ap taken (is ∙ append-nil some)))
goes_on some (batch ∷ rest) all gate end is at last before = (batch, rest, is)

-- and one that ends there is these
pub no_more : (some more all : List (List ℕ)) (gate : ℕ) → all ≡ some ++ more → gate ≡ end_of some → gate ≡ end_of all → all ≡ some
no_more some [] all gate is at last = is ∙ append-nil some
no_more some (batch ∷ rest) all gate is at last = absurd (omega (arith, at, last, ap taken is, taken-append some (batch ∷ rest)))

-- a batch that was read whole
pub whole_read : (batch into : List ℕ) (n start : ℕ) → n ≡ length batch → start ≡ 0 → into ≡ take n (drop start batch) → into ≡ batch
whole_read batch into n start size none is = grind (arith, take_all)

-- what was found and read behind a gate before the end of a list is its next batch
pub read_next : (all some more : List (List ℕ)) (gate end : ℕ) → all ≡ some ++ more → gate ≡ end_of some → end ≡ end_of all → gate < end
    → (found : Option (ℕ × ℕ)) (place n : ℕ) (into : List ℕ) → found ≡ Some (place, n)
    → ((batch : List ℕ) (rest : List (List ℕ)) → all ≡ some ++ batch ∷ rest → found ≡ Some (gate + 5, length batch))
    → ((batch : List ℕ) (rest : List (List ℕ)) → all ≡ some ++ batch ∷ rest → place ≡ gate + 5 → n ≡ length batch → into ≡ batch)
    → (rest : List (List ℕ)) × (all ≡ some ++ into ∷ rest)
read_next all some more gate end is at last before found place n into answer finds reads =
    let next = goes_on some more all gate end is at last before in
    let there = some_pair_parts place (gate + 5) n (length next.0) (sym answer ∙ finds next.0 next.1 next.2) in
    (next.1, next.2 ∙ ap (λ (b : List ℕ). some ++ b ∷ next.1) (sym (reads next.0 next.1 next.2 there.0 there.1)))

-- behind what was taken in
module _ {J : Type 0} {asks : Ghosts J} {Listed : List (List ℕ) → Type 0} {size gate : ℕ} {old : J} {held : Placed} {tally : Tallies} (taken : IsTakenUpTo Listed (IsJudged asks size old) size gate held tally) where
  -- which costs at most the capacity
  pub costs_within : tally.live.costs ≤ capacity_of size
  costs_within = omega (arith, ap (λ (t : TallyValue). t.costs) taken.taken_in.live, tally_of-costs (entries_in taken.some), taken.taken_in.are_batches.costs)

  -- where each list goes on with a batch, one more of it is taken in, or it breaks there
  module _ (batch : List ℕ) (goes : (all : List (List ℕ)) → Listed all → (rest : List (List ℕ)) × (all ≡ taken.some ++ batch ∷ rest)) where
    pub taken_next : (new : J) (result : Result ℕ OpenFault) (more : Placed) (grown : Tallies) → IfOk result (λ next. next ≡ gate + 5 + length batch)
        → OnOk result (AreTakenIn size (gate + 5 + length batch) (taken.some ++ batch ∷ []) more grown × IsJudged asks size new (entries_in (taken.some ++ batch ∷ [])))
        → IfOk result (λ next. IsTakenUpTo Listed (IsJudged asks size new) size next more grown)
    taken_next new (Ok next) more grown is took = record {
      some = taken.some ++ batch ∷ [];
      taken_in = rw is took.0;
      judged = took.1;
      begins = λ all listed. let found = goes all listed in (found.0, found.1 ∙ sym (append_assoc taken.some (batch ∷ []) found.0));
    }
    taken_next new (Err e) more grown is took = tt

    pub breaks_next : (at : ℕ) → (at ≡ gate) × (AreFit asks.fits size (taken.some ++ batch ∷ []) → ⊥) → (all : List (List ℕ)) → Listed all → BreaksAt (AreFit asks.fits size) all at
    breaks_next at unfit all listed = search rules

-- ---- a content that is taken in entry by entry, from its front on

-- an entry has 25 octets at least
pub costs_at_most : (h : List HistoryEntry) → costs_of h ≤ 2 * length (spelled h)
costs_at_most [] = omega arith
costs_at_most (e ∷ h) = omega (arith, costs_at_most h, length-append (spelling e) (spelled h), length_of_spelling e)

-- ---- so far

-- a front of the content is entries that were taken in, and this is the rest
pub record AreTaken (content rest : List ℕ) (start at : ℕ) (before places : List Place) (old tally : Tallies) : Type 0 where
  pub front : List ℕ
  pub entries : List HistoryEntry
  pub parts : content ≡ front ++ rest
  pub are_entries : AreEntries front entries
  pub place : at ≡ start + length front
  pub placed : places ≡ before ++ places_from start entries
  pub counted : tally ≡ record { firm = old.firm; live = tally_behind_all old.live entries; reserved = old.reserved }

pub none_taken : (content : List ℕ) (start : ℕ) (places : List Place) (tally : Tallies) → AreTaken content content start start places places tally tally
none_taken content start places tally = record {
  front = [];
  entries = [];
  parts = refl;
  are_entries = no_entries;
  place = omega arith;
  placed = sym (append-nil places);
  counted = refl;
}

module _ {content rest : List ℕ} {start at : ℕ} {before : List Place} {old tally : Tallies} where
  pub one_taken : {count : ℕ} {places grown : Placed} {counted : Tallies} → AreTaken content rest start at before places.items old tally → IsTakenIn rest at count places grown tally counted
      → AreTaken content (drop count rest) start (at + count) before grown.items old counted
  one_taken {count} so_far one =
      let split : rest ≡ spelling one.entry ++ drop count rest = sym (take-append-drop count rest) ∙ ap (λ (o : List ℕ). o ++ drop count rest) one.front in
      let front_length : length so_far.front ≡ length (spelled so_far.entries) = ap (λ (o : List ℕ). length o) so_far.are_entries.spelling in
      let here : at ≡ start + length (spelled so_far.entries) = omega (arith, so_far.place, front_length) in
      let place : List Place = record { at = at; length = entry_length one.entry } ∷ [] in
      record {
        front = so_far.front ++ spelling one.entry;
        entries = so_far.entries ++ one.entry ∷ [];
        parts = so_far.parts ∙ ap (λ (o : List ℕ). so_far.front ++ o) split ∙ sym (append_assoc so_far.front (spelling one.entry) (drop count rest));
        are_entries = more_entries so_far.front (spelling one.entry) so_far.entries (one.entry ∷ []) so_far.are_entries (one_entry one.entry one.fits);
        place = omega (arith, so_far.place, length-append so_far.front (spelling one.entry), length_of_spelling one.entry, one.size);
        placed = one.placed ∙ ap (λ (ps : List Place). ps ++ place) so_far.placed ∙ append_assoc before (places_from start so_far.entries) place
            ∙ ap (λ (ps : List Place). before ++ ps) (ap (λ (k : ℕ). places_from start so_far.entries ++ places_from k (one.entry ∷ [])) here ∙ sym (places_from-append start so_far.entries (one.entry ∷ [])));
        counted = one.added ∙ ap (λ (t : Tallies). let r : Tallies = record { firm = t.firm; live = tally_behind_all t.live (one.entry ∷ []); reserved = t.reserved } in r) so_far.counted
            ∙ λ i. record { firm = old.firm; live = sym (tally_all-append old.live so_far.entries (one.entry ∷ [])) i; reserved = old.reserved };
      }

  -- what was taken in costs at most twice its octets, so that the rest can be counted too
  pub costs_so_far : {places : List Place} → AreTaken content rest start at before places old tally → tally.live.costs + 2 * length rest ≤ old.live.costs + 2 * length content
  costs_so_far so_far = grind (arith, tally_all-costs, costs_at_most, length-append)

-- ---- at the end

-- what was taken in is all
pub record IsAllTaken (content : List ℕ) (start : ℕ) (before places : List Place) (old tally : Tallies) : Type 0 where
  pub are_entries : AreEntries content (entries_of content)
  pub placed : places ≡ before ++ places_from start (entries_of content)
  pub counted : tally ≡ record { firm = old.firm; live = tally_behind_all old.live (entries_of content); reserved = old.reserved }

pub all_taken : EntriesAreReadBack → {content rest : List ℕ} {start at : ℕ} {before places : List Place} {old tally : Tallies} → AreTaken content rest start at before places old tally
    → rest ≡ [] → IsAllTaken content start before places old tally
all_taken back {content} {rest} {start} {at} {before} {places} {old} so_far end =
    let whole : content ≡ so_far.front = so_far.parts ∙ ap (λ (o : List ℕ). so_far.front ++ o) end ∙ append-nil so_far.front in
    let are : AreEntries content so_far.entries = subst (λ (o : List ℕ). AreEntries o so_far.entries) (sym whole) so_far.are_entries in
    let those : so_far.entries ≡ entries_of content = sym (back content so_far.entries are) in
    record {
      are_entries = subst (λ (h : List HistoryEntry). AreEntries content h) those are;
      placed = so_far.placed ∙ ap (λ (h : List HistoryEntry). before ++ places_from start h) those;
      counted = so_far.counted ∙ λ i. record { firm = old.firm; live = tally_behind_all old.live (those i); reserved = old.reserved };
    }

-- ---- tests of emptiness

pub is_end : (octets : List ℕ) → (length octets == 0) ≡ true → octets ≡ []
is_end octets e = nil_from_length octets (eqb-true (length octets) 0 e)

pub not_end : (octets : List ℕ) → (length octets == 0) ≡ false → octets ≢ []
not_end octets e same = eqb-false (length octets) 0 e (ap (λ (l : List ℕ). length l) same)
