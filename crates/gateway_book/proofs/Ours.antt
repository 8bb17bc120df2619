-- Octets that stand for a fit history are ours at every place.
use Rattle.std.proofs.Common.{◌≡◌, inl, inr, ℕ, List, [], ◌∷◌, ◌++◌, length, get_or, refl, sym, ◌∙◌, ap, subst, arith, append_assoc}
use Rattle.gateway_book.proofs.Names.{All, AllFit, costs_of, costs_of-append, end_of, entries_in, fit_front, gate_at, HistoryEntry, IsFit, IsNotOurs, IsSpoiledBy, Stands, StandsFitFor, Starts, take_at}
use Rattle.std.proofs.lemmas.Grind.{flat_map-append}
use Rattle.std.proofs.lemmas.List.Elements.{All-take}
use Rattle.gate_journal.specs.Before.{AreBefore, batch_at}
use Rattle.gate_journal.specs.Format.{IsWhole}
use Rattle.gate_journal.specs.Agreeing.{Compared, equal, longer, shorter, batch_before, compare, front_before, place_of, same_not_differs, same_not_starts, stands_before}
use Rattle.entry_codec.specs.Content.{IsContent, entries_of}
use Rattle.entry_codec.specs.LawTypes.{EntriesAreReadBack}
use Rattle.cgf_journal.specs.BatchLaws.{in_batches}
use Rattle.cgf_journal.specs.Fit.{AreFit}

-- the first of fit batches are fit
fit_first : (size : ℕ) (some more : List (List ℕ)) → AreFit IsFit size (some ++ more) → AreFit IsFit size some
fit_first size some more are = record {
  are_batches = record {
    contents = subst (λ (l : List (List ℕ)). All IsContent l) (take_at some more (length some) refl) (All-take IsContent (length some) (some ++ more) are.are_batches.contents);
    costs = omega (arith, are.are_batches.costs, ap (λ (h : List HistoryEntry). costs_of h) (flat_map-append entries_of some more), costs_of-append (entries_in some) (entries_in more));
  };
  fit = fit_front size [] (entries_in some) (entries_in more) (subst (λ (h : List HistoryEntry). AllFit size h) (flat_map-append entries_of some more) are.fit);
}

module _ (header : List ℕ) (long : length header ≡ 32) (octets : List ℕ) (batches : List (List ℕ)) (stands : Stands header octets batches) (fit : AreFit IsFit (length octets) batches) where
  stands_or_spoiled : (at : ℕ) → IsSpoiledBy (AreFit IsFit (length octets)) header octets at → ⊥
  stands_or_spoiled at spoiled = decide (compare header long octets (end_of batches) at batches spoiled.batches (stands_before header long octets batches stands) spoiled.before)
    where
      decide : Compared batches spoiled.batches → ⊥
      decide (equal e) = stands.shut (ap (λ n. gate_at octets n) (ap end_of e ∙ sym (place_of header long octets at spoiled.batches spoiled.before)) ∙ spoiled.opened)
      decide (longer b m e) = stands.shut (batch_before header long octets at batches b m (subst (λ (l : List (List ℕ)). AreBefore header octets at l) e spoiled.before)).opened
      decide (shorter b m e) =
          let next = batch_before header long octets (end_of batches) spoiled.batches b m (subst (λ (l : List (List ℕ)). AreBefore header octets (end_of batches) l) e (stands_before header long octets batches stands)) in
          let at_is : at ≡ end_of spoiled.batches = place_of header long octets at spoiled.batches spoiled.before in
          let these = fit_first (length octets) (spoiled.batches ++ b ∷ []) m
          (subst (λ (l : List (List ℕ)). AreFit IsFit (length octets) l) (e ∙ sym (append_assoc spoiled.batches (b ∷ []) m)) fit) in
          let content : b ≡ batch_at octets at = sym (ap (λ n. batch_at octets n) at_is ∙ next.content) in
          spoiled.unwhole (subst (λ n. IsWhole octets n) (sym at_is) next.whole) (subst (λ (x : List ℕ). AreFit IsFit (length octets) (spoiled.batches ++ x ∷ [])) content these)

-- what stands is no area of another
pub stands_or_not_ours : EntriesAreReadBack → (header octets : List ℕ) (h : List HistoryEntry) (at : ℕ) → length header ≡ 32 → StandsFitFor header octets h → IsNotOurs header octets at → ⊥
stands_or_not_ours back header octets h at long is (inl differs) =
    let list = in_batches back header octets h is.stands in
    same_not_differs header long octets (front_before header long octets (end_of list.batches) list.batches (stands_before header long octets list.batches list.stands)) at differs
stands_or_not_ours back header octets h at long is (inr spoiled) =
    let list = in_batches back header octets h is.stands in
    let fit : AreFit IsFit (length octets) list.batches = record { are_batches = list.are_batches; fit = subst (λ (g : List HistoryEntry). AllFit (length octets) g) list.history is.fit } in
    stands_or_spoiled header long octets list.batches list.stands fit at spoiled

-- what isn't ours doesn't start
pub not_ours_or_starts : (header octets : List ℕ) (at : ℕ) → length header ≡ 32 → get_or header 0 0 ≡ 67 → IsNotOurs header octets at → Starts header octets → ⊥
not_ours_or_starts header octets at long begins is starts = grind (arith, same_not_starts, front_before)
