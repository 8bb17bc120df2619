-- What one change more makes of a past.
use Rattle.std.proofs.Common.{◌≡◌, ◌⊎◌, inl, inr, ℕ, zero, suc, ◌+◌, ◌≤◌, ◌<◌, Bool, true, false, ◌&&◌, nat_lt, nat_le, List, [], ◌∷◌, ◌++◌, length, take, refl, sym, ◌∙◌, ap, subst, arith}
use Rattle.std.proofs.lemmas.List.{take-append-le, take_all, length_push}
use Rattle.std.specs.Prelude.{All}
use Rattle.std.proofs.lemmas.List.Elements.{All-nil, All-cons, All-push, All-take, All-head, All-tail}
use Rattle.std.proofs.lemmas.Bool.{cases_lt}
use Rattle.std.proofs.lemmas.Bool.Decides.{nat_tests}
use Rattle.area_disk.specs.Disk.{overwritten, last_count}
use Rattle.area_disk.specs.Record.{Elapses}
use Rattle.area_disk.specs.Octets.{length-overwritten}
use Rattle.area_disk.specs.Stretch.{SameOutside}
use Rattle.area_disk.specs.Past.{Change, Past, IsWithin, image_after, unsynced_with, unsynced_after, IsOutcome, up_to, LeftSince, moment_of, first_told, told_of, anew, pushed, pushed_where, noted_where, noted, most_calls, most_octets, octets_in, room_for_calls, room_for_octets, all_room, moments_of}
use Rattle.area_disk.specs.declared.stretch.Stretch.{Stretch}

pub image_after-push : (changes : List Change) (c : Change) (image : List ℕ) → image_after (changes ++ c ∷ []) image ≡ overwritten (image_after changes image) c.at c.octets
image_after-push [] c image = refl
image_after-push (x ∷ changes) c image = image_after-push changes c (overwritten image x.at x.octets)

pub unsynced_after-push : (changes : List Change) (c : Change) (unsynced : List Stretch) → unsynced_after (changes ++ c ∷ []) unsynced ≡ unsynced_with c.settles (unsynced_after changes unsynced) (record { at = c.at; count = length c.octets })
unsynced_after-push [] c unsynced = refl
unsynced_after-push (x ∷ changes) c unsynced = unsynced_after-push changes c (unsynced_with x.settles unsynced (record { at = x.at; count = length x.octets }))

-- the octets after one change more
pub noted_image : (c : Change) (p : Past) → image_after (noted c p).changes (noted c p).image ≡ overwritten (image_after p.changes p.image) c.at c.octets
noted_image c p = by_size (nat_lt most_octets (length c.octets))
  where
    by_room : (b : Bool) → image_after (pushed_where b c p).changes (pushed_where b c p).image ≡ overwritten (image_after p.changes p.image) c.at c.octets
    by_room true = image_after-push p.changes c p.image
    by_room false = refl

    by_size : (b : Bool) → image_after (noted_where b c p).changes (noted_where b c p).image ≡ overwritten (image_after p.changes p.image) c.at c.octets
    by_size true = image_after-push p.changes c p.image
    by_size false = by_room (nat_lt (length p.changes) most_calls && nat_le (octets_in p.changes + length c.octets) most_octets)

-- what is unsynced after one change more
pub noted_unsynced : (c : Change) (p : Past) → unsynced_after (noted c p).changes (noted c p).unsynced ≡ unsynced_with c.settles (unsynced_after p.changes p.unsynced) (record { at = c.at; count = length c.octets })
noted_unsynced c p = by_size (nat_lt most_octets (length c.octets))
  where
    by_room : (b : Bool) → unsynced_after (pushed_where b c p).changes (pushed_where b c p).unsynced ≡ unsynced_with c.settles (unsynced_after p.changes p.unsynced) (record { at = c.at; count = length c.octets })
    by_room true = unsynced_after-push p.changes c p.unsynced
    by_room false = refl

    by_size : (b : Bool) → unsynced_after (noted_where b c p).changes (noted_where b c p).unsynced ≡ unsynced_with c.settles (unsynced_after p.changes p.unsynced) (record { at = c.at; count = length c.octets })
    by_size true = unsynced_after-push p.changes c p.unsynced
    by_size false = by_room (nat_lt (length p.changes) most_calls && nat_le (octets_in p.changes + length c.octets) most_octets)

-- the number of octets stays
pub noted_size : (c : Change) (p : Past) (n : ℕ) → length p.image ≡ n → length (image_after p.changes p.image) ≡ n → c.at + length c.octets ≤ n → length (noted c p).image ≡ n
noted_size c p n first now fits = by_size (nat_lt most_octets (length c.octets))
  where
    by_room : (b : Bool) → length (pushed_where b c p).image ≡ n
    by_room true = first
    by_room false = now

    by_size : (b : Bool) → length (noted_where b c p).image ≡ n
    by_size true = ap length (image_after-push p.changes c p.image) ∙ length-overwritten (image_after p.changes p.image) c.at c.octets (omega (arith, now, fits)) ∙ now
    by_size false = by_room (nat_lt (length p.changes) most_calls && nat_le (octets_in p.changes + length c.octets) most_octets)

-- each change lies in the area
pub noted_within : (c : Change) (p : Past) (n : ℕ) → All (IsWithin n) p.changes → IsWithin n c → All (IsWithin n) (noted c p).changes
noted_within c p n all fits = by_size (nat_lt most_octets (length c.octets))
  where
    by_room : (b : Bool) → All (IsWithin n) (pushed_where b c p).changes
    by_room true = All-push (IsWithin n) p.changes c all fits
    by_room false = All-cons (IsWithin n) c [] fits (All-nil (IsWithin n))

    by_size : (b : Bool) → All (IsWithin n) (noted_where b c p).changes
    by_size true = All-nil (IsWithin n)
    by_size false = by_room (nat_lt (length p.changes) most_calls && nat_le (octets_in p.changes + length c.octets) most_octets)

image_size : (n : ℕ) (changes : List Change) (image : List ℕ) → All (IsWithin n) changes → length image ≡ n → length (image_after changes image) ≡ n
image_size n [] image all size = size
image_size n (c ∷ changes) image all size =
    let fits = All-head (IsWithin n) c changes all in
    image_size n changes (overwritten image c.at c.octets) (All-tail (IsWithin n) c changes all) (length-overwritten image c.at c.octets (omega (arith, fits, size)) ∙ size)

-- at each moment a crash left as many octets
pub past_same_size : (p : Past) (n t : ℕ) (octets : List ℕ) → length p.image ≡ n → All (IsWithin n) p.changes → LeftSince p t octets → length octets ≡ n
past_same_size p n t octets size all left = left.3.size ∙ image_size n (take left.0 p.changes) p.image (All-take (IsWithin n) left.0 p.changes all) size

-- a told moment is one before the numbers end
told_when : (n first t : ℕ) (b : Bool) → nat_lt n last_count ≡ b → first_told b first ≤ t → t ≤ last_count → (n < last_count) × (first ≤ t)
told_when n first t true is le end = (grind (arith, nat_tests), le)
told_when n first t false is le end = absurd (omega (arith, le, end))

pub told_is : (p : Past) (t : ℕ) → told_of p ≤ t → t ≤ last_count → (p.first + length p.changes < last_count) × (p.first ≤ t)
told_is p t le end = told_when (p.first + length p.changes) p.first t (nat_lt (p.first + length p.changes) last_count) refl le end

first_told_up : (n first m later : ℕ) (b d : Bool) → nat_lt n last_count ≡ b → nat_lt m last_count ≡ d → (m < last_count → n < last_count)
    → (n < last_count → first ≤ later) → first ≤ n → first_told b first ≤ first_told d later
first_told_up n first m later true true is is' back up le = up (grind (arith, nat_tests))
first_told_up n first m later true false is is' back up le =
    let below : n < last_count = grind (arith, nat_tests) in
    omega (arith, below, le)
first_told_up n first m later false true is is' back up le =
    let below : m < last_count = grind (arith, nat_tests) in
    let below' : n < last_count = back below in
    absurd (grind (arith, nat_tests))
first_told_up n first m later false false is is' back up le = omega arith

-- what a crash leaves after so many changes
abbrev LeftAfter : Past → List Change → List ℕ → Type 0
LeftAfter p changes octets = SameOutside (unsynced_after changes p.unsynced) (image_after changes p.image) octets

all_changes : (p : Past) (k : ℕ) → length p.changes ≤ k → take k p.changes ≡ p.changes
all_changes p k le = take_all k p.changes le

-- this moment is one of those since an earlier one
pub past_counts_now : (p : Past) (t : ℕ) (octets : List ℕ) → t ≤ moment_of p → IsOutcome p octets → LeftSince p t octets
past_counts_now p t octets le out = (length p.changes, omega (arith, le), omega arith, subst (λ (l : List Change). LeftAfter p l octets) (sym (all_changes p (length p.changes) (omega arith))) out)

-- since this moment there is no other
pub past_only_now : (p : Past) (octets : List ℕ) → told_of p ≤ moment_of p → LeftSince p (moment_of p) octets → IsOutcome p octets
past_only_now p octets told left =
    let at_end = told_is p (moment_of p) told (omega arith) in
    let here : length p.changes ≤ left.0 = omega (arith, at_end.0, left.1) in
    subst (λ (l : List Change). LeftAfter p l octets) (all_changes p left.0 here) left.3

-- how time goes on from one past to another
abbrev pub Goes : Past → Past → Type 0
Goes p q = Elapses (moments_of all_room p) (moments_of all_room q) (IsOutcome q)

goes_pushed : (c : Change) (p : Past) → Goes p (pushed c p)
goes_pushed c p = record {
  later = omega (arith, more);
  told_later = first_told_up (p.first + length p.changes) p.first (p.first + length (p.changes ++ c ∷ [])) p.first _ _ refl refl (λ below. omega (arith, more, below)) (λ below. omega arith) (omega arith);
  nothing_else = λ t octets told le left. by_place t octets left (cases_lt (length p.changes) left.0);
  keeps = λ t octets told le left.
      (left.0, left.1, omega (arith, more, left.2), subst (λ (l : List Change). LeftAfter p l octets) (sym (take-append-le left.0 p.changes (c ∷ []) left.2)) left.3);
}
  where
    more : length (p.changes ++ c ∷ []) ≡ length p.changes + 1
    more = length_push p.changes c

    by_place : (t : ℕ) (octets : List ℕ) (left : LeftSince (pushed c p) t octets) → (length p.changes < left.0) ⊎ (left.0 ≤ length p.changes) → LeftSince p t octets ⊎ IsOutcome (pushed c p) octets
    by_place t octets left (inl last) = inr (subst (λ (l : List Change). LeftAfter p l octets) (take_all left.0 (p.changes ++ c ∷ []) (omega (arith, more, last))) left.3)
    by_place t octets left (inr front) = inl (left.0, left.1, front, subst (λ (l : List Change). LeftAfter p l octets) (take-append-le left.0 p.changes (c ∷ []) front) left.3)

only_first : (p : Past) (k : ℕ) (octets : List ℕ) → k ≤ 0 → IsOutcome (up_to k (anew p)) octets → IsOutcome p octets
only_first p zero octets le out = out
only_first p (suc k) octets le out = absurd (omega (arith, le))

goes_anew : (p : Past) → Goes p (anew p)
goes_anew p = record {
  later = omega arith;
  told_later = first_told_up (p.first + length p.changes) p.first (moment_of p + 0) (moment_of p) _ _ refl refl (λ below. omega (arith, below)) (λ below. omega (arith, below)) (omega arith);
  nothing_else = λ t octets told le left. inr (only_first p left.0 octets left.2 left.3);
  keeps = λ t octets told le left.
      let here = told_is (anew p) t told (omega (arith, le)) in
      let last : length p.changes ≤ left.0 = omega (arith, here.0, here.1, left.1) in (
        0,
        omega (arith, le),
        omega arith,
        subst (λ (l : List Change). LeftAfter p l octets) (all_changes p left.0 last) left.3,
      );
}

goes_pushed_anew : (c : Change) (p : Past) → Goes p (pushed c (anew p))
goes_pushed_anew c p = record {
  later = omega (arith, one.later, two.later);
  told_later = omega (arith, one.told_later, two.told_later);
  nothing_else = λ t octets told le left.
      first_of_two t octets le (omega (arith, told, two.told_later)) (two.nothing_else t octets told (omega (arith, le, one.later)) left);
  keeps = λ t octets told le left. two.keeps t octets told (omega (arith, le, one.later)) (one.keeps t octets (omega (arith, told, two.told_later)) le left);
}
  where
    one : Goes p (anew p)
    one = goes_anew p

    two : Goes (anew p) (pushed c (anew p))
    two = goes_pushed c (anew p)

    before : (t : ℕ) (octets : List ℕ) → t ≤ moment_of p → LeftSince p t octets ⊎ IsOutcome (anew p) octets → LeftSince p t octets
    before t octets le (inl past) = past
    before t octets le (inr out) = past_counts_now p t octets le out

    first_of_two : (t : ℕ) (octets : List ℕ) → t ≤ moment_of p → told_of (anew p) ≤ t → LeftSince (anew p) t octets ⊎ IsOutcome (pushed c (anew p)) octets → LeftSince p t octets ⊎ IsOutcome (pushed c (anew p)) octets
    first_of_two t octets le told (inl left) = inl (before t octets le (one.nothing_else t octets told le left))
    first_of_two t octets le told (inr out) = inr out

goes_passed : (c : Change) (p : Past) → Goes p (anew (pushed c p))
goes_passed c p = record {
  later = omega (arith, one.later, two.later);
  told_later = omega (arith, one.told_later, two.told_later);
  nothing_else = λ t octets told le left. absurd (none t told le);
  keeps = λ t octets told le left. absurd (none t told le);
}
  where
    one : Goes p (pushed c p)
    one = goes_pushed c p

    two : Goes (pushed c p) (anew (pushed c p))
    two = goes_anew (pushed c p)

    none : (t : ℕ) → told_of (anew (pushed c p)) ≤ t → t ≤ moment_of p → ⊥
    none t told le =
        let here = told_is (anew (pushed c p)) t told (omega (arith, le)) in
        omega (arith, here.0, here.1, le, length_push p.changes c)

-- one change more is one step of time
pub goes_noted : (c : Change) (p : Past) → Goes p (noted c p)
goes_noted c p = by_size (nat_lt most_octets (length c.octets))
  where
    by_room : (b : Bool) → Goes p (pushed_where b c p)
    by_room true = goes_pushed c p
    by_room false = goes_pushed_anew c p

    by_size : (b : Bool) → Goes p (noted_where b c p)
    by_size true = goes_passed c p
    by_size false = by_room (nat_lt (length p.changes) most_calls && nat_le (octets_in p.changes + length c.octets) most_octets)

-- where nothing changes, no time passes
pub goes_same : (p : Past) → Goes p p
goes_same p = record { later = omega arith; told_later = omega arith; nothing_else = λ t octets told le left. inl left; keeps = λ t octets told le left. left }

octets_in-push : (changes : List Change) (c : Change) → octets_in (changes ++ c ∷ []) ≡ octets_in changes + length c.octets
octets_in-push [] c = omega arith
octets_in-push (x ∷ changes) c = omega (arith, octets_in-push changes c)

-- what a past holds stays within its room
pub noted_few : (c : Change) (p : Past) → octets_in p.changes ≤ most_octets → octets_in (noted c p).changes ≤ most_octets
noted_few c p held = by_size (nat_lt most_octets (length c.octets)) refl
  where
    by_octets : (a b : Bool) → nat_lt most_octets (length c.octets) ≡ false → nat_le (octets_in p.changes + length c.octets) most_octets ≡ b → octets_in (pushed_where (a && b) c p).changes ≤ most_octets
    by_octets true true short fits =
        let le : octets_in p.changes + length c.octets ≤ most_octets = grind (arith, nat_tests) in
        omega (arith, octets_in-push p.changes c, le)
    by_octets true false short fits =
        let le : length c.octets ≤ most_octets = grind (arith, nat_tests) in
        omega (arith, le)
    by_octets false b short fits =
        let le : length c.octets ≤ most_octets = grind (arith, nat_tests) in
        omega (arith, le)

    by_size : (b : Bool) → nat_lt most_octets (length c.octets) ≡ b → octets_in (noted_where b c p).changes ≤ most_octets
    by_size true is = omega arith
    by_size false is = by_octets (nat_lt (length p.changes) most_calls) (nat_le (octets_in p.changes + length c.octets) most_octets) is refl

-- where a past has room for one change more, what was told stays told
pub noted_stays : (c : Change) (p : Past) → octets_in p.changes ≤ most_octets → 1 ≤ room_for_calls p → length c.octets ≤ room_for_octets p
    → (told_of (noted c p) ≡ told_of p) × (room_for_calls p ≤ room_for_calls (noted c p) + 1) × (room_for_octets p ≤ room_for_octets (noted c p) + length c.octets)
noted_stays c p held calls octets = subst (λ (q : Past). (told_of q ≡ told_of p) × (room_for_calls p ≤ room_for_calls q + 1) × (room_for_octets p ≤ room_for_octets q + length c.octets)) (sym is) here
  where
    small : nat_lt most_octets (length c.octets) ≡ false
    small = grind (arith, nat_tests)

    few : nat_lt (length p.changes) most_calls ≡ true
    few = grind (arith, nat_tests)

    fits : nat_le (octets_in p.changes + length c.octets) most_octets ≡ true
    fits = grind (arith, nat_tests)

    is : noted c p ≡ pushed c p
    is = ap (λ b. noted_where b c p) small ∙ ap (λ b. pushed_where (b && nat_le (octets_in p.changes + length c.octets) most_octets) c p) few ∙ ap (λ b. pushed_where b c p) fits

    more : length (p.changes ++ c ∷ []) ≡ length p.changes + 1
    more = length_push p.changes c

    before : nat_lt (p.first + length p.changes) last_count ≡ true
    before = grind (arith, nat_tests)

    after : nat_lt (p.first + length (p.changes ++ c ∷ [])) last_count ≡ true
    after = ap (λ n. nat_lt (p.first + n) last_count) more ∙ grind (arith, nat_tests)

    here : (told_of (pushed c p) ≡ told_of p) × (room_for_calls p ≤ room_for_calls (pushed c p) + 1) × (room_for_octets p ≤ room_for_octets (pushed c p) + length c.octets)
    here = (
      ap (λ b. first_told b p.first) after ∙ sym (ap (λ b. first_told b p.first) before),
      omega (arith, more),
      omega (arith, octets_in-push p.changes c),
    )

-- a past of which so much is told as of one before it, and that has taken one change more, with n octets
abbrev pub Keeps : ℕ → Past → Past → Type 0
Keeps n p q = (told_of q ≡ told_of p) × (room_for_calls p ≤ room_for_calls q + 1) × (room_for_octets p ≤ room_for_octets q + n)

-- a past that began anew at this moment, and has taken so many changes and octets since
abbrev pub Began : ℕ → ℕ → ℕ → Past → Type 0
Began at calls octets q = (told_of q ≡ at) × (most_calls ≤ room_for_calls q + calls) × (most_octets ≤ room_for_octets q + octets)

-- before the numbers of moments end all moments since the first are told
told_numbered : (p : Past) → p.first + length p.changes < last_count → told_of p ≡ p.first
told_numbered p below =
    let is : nat_lt (p.first + length p.changes) last_count ≡ true = grind (arith, nat_tests) in
    ap (λ b. first_told b p.first) is

-- how a past stands to one before it that took a change more: the change went behind those before it, or the past began
-- anew with it, or, where it alone is too large, behind it
abbrev pub Begins : Change → Past → Past → Type 0
Begins c p q = moment_of q + most_calls < last_count → Keeps (length c.octets) p q
    ⊎ (Began (moment_of p) 1 (length c.octets) q ⊎ ((most_octets < length c.octets) × Began (moment_of q) 0 0 q))

pub noted_begins : (c : Change) (p : Past) → Begins c p (noted c p)
noted_begins c p = by_size (nat_lt most_octets (length c.octets)) refl
  where
    by_room : (b : Bool) → Begins c p (pushed_where b c p)
    by_room true below =
        let more = length_push p.changes c in
        inl (
          told_numbered (pushed c p) (omega (arith, below)) ∙ sym (told_numbered p (omega (arith, below, more))),
          omega (arith, more),
          omega (arith, octets_in-push p.changes c),
        )
    by_room false below = inr (inl (told_numbered (pushed c (anew p)) (omega (arith, below)), omega (arith, below), omega arith))

    by_size : (b : Bool) → nat_lt most_octets (length c.octets) ≡ b → Begins c p (noted_where b c p)
    by_size true is below =
        let large : most_octets < length c.octets = grind (arith, nat_tests) in
        inr (inr (large, (told_numbered (anew (pushed c p)) (omega (arith, below)) ∙ omega (arith, below), omega (arith, below), omega arith)))
    by_size false is below = by_room (nat_lt (length p.changes) most_calls && nat_le (octets_in p.changes + length c.octets) most_octets) below
