-- What octets stand for, by the batches that a journal lists: laws for the layers above, with their proofs.
use Rattle.std.proofs.Common.{◌≡◌, ◌≢◌, ℕ, ◌≤◌, List, [], ◌∷◌, ◌++◌, length, map, refl, sym, ◌∙◌, ap, subst, arith}
use Rattle.std.specs.Prelude.{All}
use Rattle.std.proofs.lemmas.List.Elements.{All-append, All-cons, All-head, All-nil, All-tail}
use Rattle.gw_base.specs.declared.history.HistoryEntry.{HistoryEntry}
use Rattle.gate_journal.specs.Format.{Stands}
use Rattle.entry_codec.specs.Content.{AreEntries, IsContent, entries_of, spelled}
use Rattle.entry_codec.specs.LawTypes.{EntriesAreReadBack}
use Rattle.entry_codec.specs.Room.{capacity_of, costs_of}
use Rattle.entry_codec.specs.Spelling.{HasSpelling}
use Rattle.cgf_journal.specs.Format.{AreBatches, StandsFor, entries_in, joined}

-- The octets stand for this history: behind the header they are batches of its entries.
pub record StandsByBatches (header octets : List ℕ) (h : List HistoryEntry) : Type 0 where
  pub batches : List (List ℕ)
  pub stands : Stands header octets batches
  pub are_batches : AreBatches (length octets) batches
  pub history : h ≡ entries_in batches

-- each entry of batches has a spelling
pub each_spelled : (batches : List (List ℕ)) → All IsContent batches → All HasSpelling (entries_in batches)
each_spelled [] contents = All-nil HasSpelling
each_spelled (batch ∷ batches) contents =
    let content : IsContent batch = All-head IsContent batch batches contents in
    All-append HasSpelling (entries_of batch) (entries_in batches) content.are_entries.each (each_spelled batches (All-tail IsContent batch batches contents))

-- ---- from batches to parts

-- the parts that batches hold
parts_of : List (List ℕ) → List (List HistoryEntry)
parts_of batches = map entries_of batches

parts_joined : (batches : List (List ℕ)) → entries_in batches ≡ joined (parts_of batches)
unfolding parts_of
parts_joined [] = refl
parts_joined (batch ∷ batches) = ap (λ (h : List HistoryEntry). entries_of batch ++ h) (parts_joined batches)

parts_spelled : (batches : List (List ℕ)) → All IsContent batches → batches ≡ map spelled (parts_of batches)
unfolding parts_of
parts_spelled [] contents = refl
parts_spelled (batch ∷ batches) contents =
    let content : IsContent batch = All-head IsContent batch batches contents in
    λ i. content.are_entries.spelling i ∷ parts_spelled batches (All-tail IsContent batch batches contents) i

parts_some : (batches : List (List ℕ)) → All IsContent batches → All (λ part. part ≢ []) (parts_of batches)
unfolding parts_of
parts_some [] contents = All-nil (λ part. part ≢ [])
parts_some (batch ∷ batches) contents =
    let content : IsContent batch = All-head IsContent batch batches contents in
    All-cons (λ part. part ≢ []) (entries_of batch) (parts_of batches)
    (λ (none : entries_of batch ≡ []). content.some (content.are_entries.spelling ∙ ap spelled none))
    (parts_some batches (All-tail IsContent batch batches contents))

-- batches of entries stand for these entries
pub by_batches : (header octets : List ℕ) (batches : List (List ℕ)) → Stands header octets batches → AreBatches (length octets) batches → StandsFor header octets (entries_in batches)
by_batches header octets batches stands are = record {
  parts = parts_of batches;
  history = parts_joined batches;
  some = parts_some batches are.contents;
  stands = subst (λ (l : List (List ℕ)). Stands header octets l) (parts_spelled batches are.contents) stands;
  each = each_spelled batches are.contents;
  costs = are.costs;
}

-- ---- from parts to batches

all_front : (h g : List HistoryEntry) → All HasSpelling (h ++ g) → All HasSpelling h
all_front [] g all = All-nil HasSpelling
all_front (e ∷ h) g all = All-cons HasSpelling e h (All-head HasSpelling e (h ++ g) all) (all_front h g (All-tail HasSpelling e (h ++ g) all))

all_rest : (h g : List HistoryEntry) → All HasSpelling (h ++ g) → All HasSpelling g
all_rest [] g all = all
all_rest (e ∷ h) g all = all_rest h g (All-tail HasSpelling e (h ++ g) all)

spelled_some : (part : List HistoryEntry) → part ≢ [] → spelled part ≢ []
spelled_some [] some = absurd (some refl)
spelled_some (e ∷ part) some = λ none. omega (arith, ap length none)

-- (what is spelled is read back: a law of the entries)
module _ (back : EntriesAreReadBack) where
  part_is : (part : List HistoryEntry) → All HasSpelling part → entries_of (spelled part) ≡ part
  part_is part each = back (spelled part) part (record { spelling = refl; each = each })

  content_is : (part : List HistoryEntry) → part ≢ [] → All HasSpelling part → IsContent (spelled part)
  content_is part some each = record {
    some = spelled_some part some;
    are_entries = subst (λ (h : List HistoryEntry). AreEntries (spelled part) h) (sym (part_is part each)) (record { spelling = refl; each = each });
  }

  contents_are : (parts : List (List HistoryEntry)) → All (λ part. part ≢ []) parts → All HasSpelling (joined parts) → All IsContent (map spelled parts)
  contents_are [] some each = All-nil IsContent
  contents_are (part ∷ parts) some each =
      All-cons IsContent (spelled part) (map spelled parts)
      (content_is part (All-head (λ part. part ≢ []) part parts some) (all_front part (joined parts) each))
      (contents_are parts (All-tail (λ part. part ≢ []) part parts some) (all_rest part (joined parts) each))

  entries_are : (parts : List (List HistoryEntry)) → All HasSpelling (joined parts) → joined parts ≡ entries_in (map spelled parts)
  entries_are [] each = refl
  entries_are (part ∷ parts) each = λ i. sym (part_is part (all_front part (joined parts) each)) i ++ entries_are parts (all_rest part (joined parts) each) i

  -- what stands for a history is batches of its entries
  pub in_batches : (header octets : List ℕ) (h : List HistoryEntry) → StandsFor header octets h → StandsByBatches header octets h
  in_batches header octets h is =
      let each : All HasSpelling (joined is.parts) = subst (λ (g : List HistoryEntry). All HasSpelling g) is.history is.each in
      let same : h ≡ entries_in (map spelled is.parts) = is.history ∙ entries_are is.parts each in
      record {
        batches = map spelled is.parts;
        stands = is.stands;
        are_batches = record {
          contents = contents_are is.parts is.some each;
          costs = subst (λ (g : List HistoryEntry). costs_of g ≤ capacity_of (length octets)) same is.costs;
        };
        history = same;
      }
