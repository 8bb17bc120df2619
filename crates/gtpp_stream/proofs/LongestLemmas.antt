-- The messages of a stream are the longest list of whole messages with which it begins.
use Rattle.std.proofs.Common.{◌≡◌, ℕ, zero, suc, ◌+◌, ◌-◌, ◌≤◌, ◌==◌, not, Bool, true, false, if◌then◌else◌, nat_lt, List, [], ◌∷◌, ◌++◌, length, take, drop, Option, None, Some, Ok, Err, refl, sym, ap, subst, ◌∙◌, append_assoc, arith}
use Rattle.std.specs.List.{concat}
use Rattle.std.proofs.Math.Seq.{drop-append_seam, take-append_seam}
use Rattle.std.proofs.lemmas.Bool.{le-ltb, ltb-false}
use Rattle.std.proofs.lemmas.List.{length-drop, length-take, take-append-drop}
use Rattle.std.proofs.lemmas.List.Elements.{All-cons}
use Rattle.gtpp_header.specs.Header.{protocol_type_of, two_octets, version_of}
use Rattle.gtpp_header.specs.declared.fault.HeadFault.TheVariants.{Cut, NotPrime, Version}
use Rattle.gtpp_stream.specs.Frames.{AreFrames, IsWhole, frames, length_of, rest_of, whole_length}
use Rattle.gtpp_stream.proofs.FrameLemmas.{Further, frames_none, frames_some, whole_bounds, whole_more}
use Rattle.gtpp_stream.proofs.TakingLemmas.{reads}

-- ---- a whole message stands alone

taken_alone : (a b c d x y : ℕ) (rest : List ℕ) → (protocol_type_of a == 1) ≡ false → (version_of a == 2) ≡ true → two_octets c d ≤ length rest
    → whole_length (take (6 + two_octets c d) (a ∷ b ∷ c ∷ d ∷ x ∷ y ∷ rest)) ≡ Some (6 + two_octets c d)
unfolding whole_length
taken_alone a b c d x y rest e f fits =
    let six : 6 + two_octets c d ≡ suc (suc (suc (suc (suc (suc (two_octets c d)))))) = omega arith in
    let len : length (take (two_octets c d) rest) ≡ two_octets c d = omega (arith, length-take (two_octets c d) rest, fits) in
    (λ i. whole_length (take (six i) (a ∷ b ∷ c ∷ d ∷ x ∷ y ∷ rest)))
    ∙ ap length_of (reads a b c d x y (take (two_octets c d) rest) false true false e f (le-ltb (length (take (two_octets c d) rest)) (two_octets c d) (omega (arith, len))))

whole_alone : (octets : List ℕ) (k : ℕ) → whole_length octets ≡ Some k → whole_length (take k octets) ≡ Some k
unfolding whole_length
whole_alone (a ∷ b ∷ c ∷ d ∷ x ∷ y ∷ rest) k e = by (protocol_type_of a == 1) (version_of a == 2) (nat_lt (length rest) (two_octets c d)) refl refl refl e
  where
    by : (p v s : Bool) → (protocol_type_of a == 1) ≡ p → (version_of a == 2) ≡ v → nat_lt (length rest) (two_octets c d) ≡ s
        → length_of (if p then Err NotPrime else (if not v then Err (Version (version_of a) b (two_octets x y)) else (if s then Err (Cut (two_octets c d)) else Ok (record { kind = b; length = two_octets c d; number = two_octets x y })))) ≡ Some k
        → whole_length (take k (a ∷ b ∷ c ∷ d ∷ x ∷ y ∷ rest)) ≡ Some k
    by true v s f g h e = absurd (cc)
    by false false s f g h e = absurd (cc)
    by false true true f g h e = absurd (cc)
    by false true false f g h e =
        let is : 6 + two_octets c d ≡ k = cc in
        subst (λ (j : ℕ). whole_length (take j (a ∷ b ∷ c ∷ d ∷ x ∷ y ∷ rest)) ≡ Some j) is (taken_alone a b c d x y rest f g (ltb-false (length rest) (two_octets c d) h))
whole_alone _ k e = absurd (cc)

pub is_whole_alone : (octets : List ℕ) (k : ℕ) → whole_length octets ≡ Some k → IsWhole (take k octets)
is_whole_alone octets k e =
    let b = whole_bounds octets k e in
    let len : k ≡ length (take k octets) = omega (arith, length-take k octets, b.1) in
    whole_alone octets k e ∙ (λ i. Some (len i))

-- ---- they are

moved : (octets : List ℕ) (ms ns : List (List ℕ)) (rest other : List ℕ) → ms ≡ ns → rest ≡ other → AreFrames octets ms rest → AreFrames octets ns other
moved octets ms ns rest other e f are = subst (λ (r : List ℕ). AreFrames octets ns r) f (subst (λ (l : List (List ℕ)). AreFrames octets l rest) e are)

none_are : Further → (octets : List ℕ) → whole_length octets ≡ None → AreFrames octets [] octets
none_are further octets e = record {
  joined = refl;
  whole = λ k d lt. absurd (omega (arith, lt));
  longest = λ message after is whole.
      let there : whole_length octets ≡ Some (length message) = ap (λ (l : List ℕ). whole_length l) is ∙ whole_more further message after (length message) whole in
      let wrong : ◌≡◌ {A = Option ℕ} None (Some (length message)) = sym e ∙ there in
      cc;
}

one_more : (octets : List ℕ) (k : ℕ) (ms : List (List ℕ)) (rest : List ℕ) → whole_length octets ≡ Some k → AreFrames (drop k octets) ms rest → AreFrames octets (take k octets ∷ ms) rest
one_more octets k ms rest e are = record {
  joined = append_assoc (take k octets) (concat ms) rest ∙ ap (λ (l : List ℕ). take k octets ++ l) are.joined ∙ take-append-drop k octets;
  whole = All-cons IsWhole (take k octets) ms (is_whole_alone octets k e) are.whole;
  longest = are.longest;
}

are_within : Further → (n : ℕ) (octets : List ℕ) → length octets ≤ n → AreFrames octets (frames octets) (rest_of octets)
are_within further zero octets le = by (whole_length octets) refl
  where
    by : (o : Option ℕ) → whole_length octets ≡ o → AreFrames octets (frames octets) (rest_of octets)
    by None e = let f = frames_none octets e in moved octets [] (frames octets) octets (rest_of octets) (sym f.0) (sym f.1) (none_are further octets e)
    by (Some k) e = let b = whole_bounds octets k e in absurd (omega (arith, b.0, b.1, le))
are_within further (suc n) octets le = by (whole_length octets) refl (λ k fits. are_within further n (drop k octets) fits)
  where
    by : (o : Option ℕ) → whole_length octets ≡ o → ((k : ℕ) → length (drop k octets) ≤ n → AreFrames (drop k octets) (frames (drop k octets)) (rest_of (drop k octets)))
        → AreFrames octets (frames octets) (rest_of octets)
    by None e next = let f = frames_none octets e in moved octets [] (frames octets) octets (rest_of octets) (sym f.0) (sym f.1) (none_are further octets e)
    by (Some k) e next =
        let b = whole_bounds octets k e in
        let less : length (drop k octets) ≡ length octets - k = length-drop k octets in
        let f = frames_some octets k e in
        moved octets (take k octets ∷ frames (drop k octets)) (frames octets) (rest_of (drop k octets)) (rest_of octets) (sym f.0) (sym f.1)
        (one_more octets k (frames (drop k octets)) (rest_of (drop k octets)) e (next k (omega (arith, less, b.0, le))))

pub frames_are : Further → (octets : List ℕ) → AreFrames octets (frames octets) (rest_of octets)
frames_are further octets = are_within further (length octets) octets (omega arith)

-- ---- and no other list is

pub only_frames : Further → (messages : List (List ℕ)) (octets rest : List ℕ) → AreFrames octets messages rest → (messages ≡ frames octets) × (rest ≡ rest_of octets)
only_frames further [] octets rest are = by (whole_length octets) refl
  where
    by : (o : Option ℕ) → whole_length octets ≡ o → ([] ≡ frames octets) × (rest ≡ rest_of octets)
    by None e = let f = frames_none octets e in (sym f.0, are.joined ∙ sym f.1)
    by (Some k) e = absurd (are.longest (take k octets) (drop k octets) (are.joined ∙ sym (take-append-drop k octets)) (is_whole_alone octets k e))
only_frames further (message ∷ messages) octets rest are =
    let first : IsWhole message = are.whole 0 message (omega arith) in
    let is : octets ≡ message ++ (concat messages ++ rest) = sym are.joined ∙ append_assoc message (concat messages) rest in
    let whole : whole_length octets ≡ Some (length message) =
    ap (λ (l : List ℕ). whole_length l) is ∙ whole_more further message (concat messages ++ rest) (length message) first in
    let f = frames_some octets (length message) whole in
    let taken : take (length message) octets ≡ message = ap (λ (l : List ℕ). take (length message) l) is ∙ take-append_seam message (concat messages ++ rest) in
    let left : drop (length message) octets ≡ concat messages ++ rest = ap (λ (l : List ℕ). drop (length message) l) is ∙ drop-append_seam message (concat messages ++ rest) in
    let next = only_frames further messages (concat messages ++ rest) rest
    (record { joined = refl; whole = λ k d lt. are.whole (suc k) d (omega (arith, lt)); longest = are.longest }) in (
      (λ i. message ∷ next.0 i) ∙ sym (f.0 ∙ (λ i. taken i ∷ frames (left i))),
      next.1 ∙ sym (f.1 ∙ ap rest_of left),
    )
