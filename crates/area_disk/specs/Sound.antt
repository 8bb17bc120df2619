-- What holds between the octets of an area in memory and its past.
use Rattle.std.proofs.Common.{◌≡◌, ℕ, ◌+◌, ◌≤◌, ◌<◌, true, false, List, [], ◌∷◌, ◌++◌, length, take, drop, refl, sym, ◌∙◌, ap, subst, arith}
use Rattle.std.specs.Prelude.{All}
use Rattle.std.proofs.lemmas.List.{length_push, take-append-drop, append-nil}
use Rattle.area_disk.specs.Disk.{overwritten}
use Rattle.area_disk.specs.Octets.{length-overwritten}
use Rattle.area_disk.specs.Plan.{most_unsynced, rot, written_as}
use Rattle.area_disk.specs.Stretch.{SameOutside, EachFits, left_as, left_by}
use Rattle.area_disk.specs.Outside.{same_refl, same_trans, same_more, same_written, same_filled, EachFits-push, filled-push}
use Rattle.area_disk.specs.Past.{Change, Past, IsWithin, image_after, unsynced_after, noted, octets_in, most_octets}
use Rattle.area_disk.specs.PastLaws.{noted_image, noted_unsynced, noted_size, noted_within, noted_few}
use Rattle.area_disk.specs.declared.plan.Outcome3.{Outcome3}
use Rattle.area_disk.specs.declared.plan.Outcome3.TheVariants.{Old, New, Rot}
use Rattle.area_disk.specs.declared.stretch.Stretch.{Stretch}

-- What a read gives and what stood at the last sync differ in the unsynced stretches alone, and the past has led here.
pub record IsSound (present firm : List ℕ) (unsynced : List Stretch) (capacity : ℕ) (past : Past) : Type 0 where
  pub firm_size : length firm ≡ length present
  pub first_size : length past.image ≡ length present
  pub fit : EachFits (length present) unsynced
  pub agrees : SameOutside unsynced present firm
  pub image_is : image_after past.changes past.image ≡ present
  pub unsynced_is : unsynced_after past.changes past.unsynced ≡ unsynced
  pub changes_fit : All (IsWithin (length present)) past.changes
  pub few_octets : octets_in past.changes ≤ most_octets
  pub few : length unsynced ≤ most_unsynced
  pub room : most_unsynced + 1 ≤ capacity

no_fit : (n : ℕ) → EachFits n []
no_fit n k s below = absurd (omega (arith, below))

-- after a write
pub sound_written : (present firm : List ℕ) (unsynced : List Stretch) (capacity later : ℕ) (past : Past) (at : ℕ) (from : List ℕ) → IsSound present firm unsynced capacity past
    → at + length from ≤ length present → length unsynced < most_unsynced → capacity ≤ later
    → IsSound (overwritten present at from) firm (unsynced ++ record { at = at; count = length from } ∷ []) later (noted (record { at = at; octets = from; settles = false }) past)
sound_written present firm unsynced capacity later past at from sound fits spare grows =
    let s : Stretch = record { at = at; count = length from } in
    let change : Change = record { at = at; octets = from; settles = false } in
    let size = length-overwritten present at from fits in
    record {
      firm_size = sound.firm_size ∙ sym size;
      first_size = noted_size change past (length present) sound.first_size (ap length sound.image_is) fits ∙ sym size;
      fit = subst (λ n. EachFits n (unsynced ++ s ∷ [])) (sym size) (EachFits-push (length present) unsynced s sound.fit fits);
      agrees = same_trans (unsynced ++ s ∷ []) present (overwritten present at from) firm (same_written unsynced present at from fits) (same_more unsynced s present firm sound.agrees);
      image_is = noted_image change past ∙ ap (λ (l : List ℕ). overwritten l at from) sound.image_is;
      unsynced_is = noted_unsynced change past ∙ ap (λ (l : List Stretch). l ++ s ∷ []) sound.unsynced_is;
      changes_fit = subst (λ n. All (IsWithin n) (noted change past).changes) (sym size) (noted_within change past (length present) sound.changes_fit fits);
      few_octets = noted_few change past sound.few_octets;
      few = omega (arith, length_push unsynced s, spare);
      room = omega (arith, sound.room, grows);
    }

-- after all that is unsynced was settled, as these octets, which are written as one stretch
pub sound_settled : (present firm octets : List ℕ) (unsynced : List Stretch) (capacity later : ℕ) (past : Past) (at : ℕ) (part : List ℕ) → IsSound present firm unsynced capacity past
    → at + length part ≤ length present → overwritten present at part ≡ octets → capacity ≤ later
    → IsSound octets octets [] later (noted (record { at = at; octets = part; settles = true }) past)
sound_settled present firm octets unsynced capacity later past at part sound fits is grows =
    let change : Change = record { at = at; octets = part; settles = true } in
    let size : length octets ≡ length present = ap length (sym is) ∙ length-overwritten present at part fits in
    record {
      firm_size = refl;
      first_size = noted_size change past (length present) sound.first_size (ap length sound.image_is) fits ∙ sym size;
      fit = no_fit (length octets);
      agrees = same_refl [] octets;
      image_is = noted_image change past ∙ ap (λ (l : List ℕ). overwritten l at part) sound.image_is ∙ is;
      unsynced_is = noted_unsynced change past;
      changes_fit = subst (λ n. All (IsWithin n) (noted change past).changes) (sym size) (noted_within change past (length present) sound.changes_fit fits);
      few_octets = noted_few change past sound.few_octets;
      few = omega arith;
      room = omega (arith, sound.room, grows);
    }

-- the same of equal octets
pub sound_at : (present present' firm firm' : List ℕ) (unsynced unsynced' : List Stretch) (capacity : ℕ) (past past' : Past) → present' ≡ present → firm' ≡ firm → unsynced' ≡ unsynced → past' ≡ past
    → IsSound present firm unsynced capacity past → IsSound present' firm' unsynced' capacity past'
sound_at present present' firm firm' unsynced unsynced' capacity past past' p f u h sound =
    subst (λ (l : List ℕ). IsSound l firm' unsynced' capacity past') (sym p)
    (subst (λ (l : List ℕ). IsSound present l unsynced' capacity past') (sym f) (subst (λ (l : List Stretch). IsSound present firm l capacity past') (sym u) (subst (λ (l : Past). IsSound present firm unsynced capacity l) (sym h) sound)))

-- what a stop in a write leaves, with its range among the stretches and without
pub left_by_is : (outcome : Outcome3) (present firm : List ℕ) (unsynced : List Stretch) (at : ℕ) (from : List ℕ)
    → left_by outcome firm present (unsynced ++ record { at = at; count = length from } ∷ []) at from ≡ written_as outcome (left_as outcome firm present unsynced) at from
left_by_is Old present firm unsynced at from = refl
left_by_is New present firm unsynced at from = refl
left_by_is Rot present firm unsynced at from = filled-push rot unsynced (record { at = at; count = length from }) present

-- a stop changes nothing outside what is unsynced and its write's range
pub same_left : (outcome : Outcome3) (present firm : List ℕ) (unsynced : List Stretch) (at : ℕ) (from : List ℕ) → EachFits (length present) unsynced → at + length from ≤ length present → SameOutside unsynced present firm
    → SameOutside (unsynced ++ record { at = at; count = length from } ∷ []) present (left_by outcome firm present (unsynced ++ record { at = at; count = length from } ∷ []) at from)
same_left Old present firm unsynced at from fit fits agrees = same_more unsynced (record { at = at; count = length from }) present firm agrees
same_left New present firm unsynced at from fit fits agrees = same_written unsynced present at from fits
same_left Rot present firm unsynced at from fit fits agrees = same_filled rot (unsynced ++ record { at = at; count = length from } ∷ []) present (EachFits-push (length present) unsynced (record { at = at; count = length from }) fit fits)

nothing_written : (octets : List ℕ) (at : ℕ) → overwritten octets at [] ≡ octets
nothing_written octets at =
    ap (λ (l : List ℕ). l ++ drop (at + 0) octets) (append-nil (take at octets))
    ∙ ap (λ n. take at octets ++ drop n octets) (omega arith)
    ∙ take-append-drop at octets

-- a stop in no write
pub written_as_none : (o : Outcome3) (octets : List ℕ) (at : ℕ) → written_as o octets at [] ≡ octets
written_as_none Old octets at = refl
written_as_none New octets at = nothing_written octets at
written_as_none Rot octets at = nothing_written octets at
