-- Laws of entries and of what they cost, for proofs above.
use Rattle.std.proofs.Common.{◌≡◌, ℕ, ◌+◌, ◌*◌, List, [], ◌∷◌, ◌++◌, length, refl, sym, ◌∙◌, arith}
use Rattle.std.proofs.lemmas.List.{append-nil, length-append}
use Rattle.std.proofs.lemmas.List.Concat.{flat_map-append}
use Rattle.std.proofs.lemmas.List.Elements.{All-append, All-cons, All-nil}
use Rattle.gw_base.specs.declared.history.HistoryEntry.{HistoryEntry}
use Rattle.entry_codec.specs.Content.{AreEntries, entries_of, entries_up_to, spelled}
use Rattle.entry_codec.specs.Room.{costs_of}
use Rattle.entry_codec.specs.Spelling.{HasSpelling, entry_length, spelling}

-- an entry's spelling has as many octets as its length says
pub length_of_spelling : (e : HistoryEntry) → length (spelling e) ≡ entry_length e
length_of_spelling e = omega arith

-- ---- entries one after the other

pub no_entries : AreEntries [] []
no_entries = record { spelling = refl; each = All-nil HasSpelling }

-- no octets are no entries
pub entries_of-nil : entries_of [] ≡ []
unfolding entries_up_to
entries_of-nil = refl

pub one_entry : (e : HistoryEntry) → HasSpelling e → AreEntries (spelling e) (e ∷ [])
one_entry e fits = record {
  spelling = sym (append-nil (spelling e));
  each = All-cons HasSpelling e [] fits (All-nil HasSpelling);
}

pub more_entries : (a b : List ℕ) (h g : List HistoryEntry) → AreEntries a h → AreEntries b g → AreEntries (a ++ b) (h ++ g)
more_entries a b h g p q = record {
  spelling = (λ i. p.spelling i ++ q.spelling i) ∙ sym (flat_map-append spelling h g);
  each = All-append HasSpelling h g p.each q.each;
}

-- ---- what they cost

pub costs_of-append : (h g : List HistoryEntry) → costs_of (h ++ g) ≡ costs_of h + costs_of g
costs_of-append [] g = omega arith
costs_of-append (e ∷ h) g = omega (arith, costs_of-append h g)

pub costs_of-spelled : (h : List HistoryEntry) → costs_of h ≡ length (spelled h) + 5 * length h
costs_of-spelled [] = refl
costs_of-spelled (e ∷ h) = omega (arith, costs_of-spelled h, length-append (spelling e) (spelled h), length_of_spelling e)
