-- A deframer follows its stream.
use Rattle.std.proofs.Common.{◌≡◌, ℕ, ◌+◌, ◌≤◌, Bool, true, false, if◌then◌else◌, List, [], ◌∷◌, ◌++◌, length, length-append, take, drop, Option, None, Some, Result, Ok, Err, is_ok, refl, sym, ap, ◌∙◌, arith}
use Rattle.std.proofs.lemmas.List.{append-nil, drop_all, length-take, take_all}
use Rattle.gtpp_header.specs.Reading.{header_reading}
use Rattle.gtpp_header.specs.declared.Header.{Header}
use Rattle.gtpp_header.specs.declared.fault.HeadFault.{HeadFault}
use Rattle.gtpp_stream.specs.Frames.{first_fault, frames, length_of, rest_of, whole_length}
use Rattle.gtpp_stream.specs.Kept.{IsKept, IsPart}
use Rattle.gtpp_stream.specs.Stream.{Follows, Stream, earlier_fault, no_stream, pending, standing}
use Rattle.gtpp_stream.specs.Taking.{Takes}
use Rattle.gtpp_stream.specs.declared.frame.FrameKind.{FrameKind}
use Rattle.gtpp_stream.proofs.FrameLemmas.{frames_none, frames_some}
use Rattle.gtpp_stream.proofs.TakingLemmas.{fault_front}

-- The messages of a stream are those of its part and of what follows.
abbrev pub FramesCut : Type 0
FramesCut = (part more : List ℕ) → frames (part ++ more) ≡ frames part ++ frames (rest_of part ++ more)

abbrev pub RestCut : Type 0
RestCut = (part more : List ℕ) → rest_of (part ++ more) ≡ rest_of (rest_of part ++ more)

-- ---- what is kept

pub kept_nothing : (used : ℕ) → IsKept used [] false
unfolding whole_length
kept_nothing used = record { part = record { none = refl; good = refl }; small = omega arith; among = omega arith }

part_of : (octets : List ℕ) (r : Result Header HeadFault) → whole_length octets ≡ length_of r → ((k : ℕ) → whole_length octets ≡ Some k → k ≡ length octets) → first_fault octets ≡ None
    → IsPart (is_ok r) octets
part_of octets (Ok header) e exact good = e ∙ ap (λ (k : ℕ). Some k) (exact (6 + header.length) e)
part_of octets (Err fault) e exact good = record { none = e; good = good }

read_is : (octets : List ℕ) → whole_length octets ≡ length_of (header_reading octets)
unfolding whole_length
read_is octets = refl

pub kept_after : (used n : ℕ) (old new piece : List ℕ) → Takes piece n old new → first_fault (old ++ piece) ≡ None → length new ≤ 65541 → length old ≤ used
    → IsKept (used + n) new (is_ok (header_reading new))
kept_after used n old new piece takes good small among = record {
  part = part_of new (header_reading new) (read_is new) takes.whole ((λ i. first_fault (takes.octets i)) ∙ fault_front old piece n good);
  small = small;
  among = omega (arith, among, takes.inside, ap (λ (l : List ℕ). length l) takes.octets, length-append old (take n piece), length-take n piece);
}

pub no_fault_now : (bad other : Option FrameKind) → earlier_fault bad other ≡ None → other ≡ None
no_fault_now None other e = e
no_fault_now (Some kind) other e = absurd (cc)

-- ---- the stream goes on

pub follows_nothing : Follows [] [] no_stream
unfolding frames rest_of
follows_nothing = record { used = refl; frames = refl; rest = refl }

-- the messages of what is taken in of one
one_message : (octets : List ℕ) (is_whole : Bool) → IsPart is_whole octets
    → (frames octets ≡ (if is_whole then octets ∷ [] else [])) × (rest_of octets ≡ (if is_whole then [] else octets))
one_message octets true part =
    let f = frames_some octets (length octets) part in
    let nothing : drop (length octets) octets ≡ [] = drop_all (length octets) octets (omega arith) in
    let all : take (length octets) octets ≡ octets = take_all (length octets) octets (omega arith) in (
      f.0 ∙ (λ i. all i ∷ frames (nothing i)) ∙ ap (λ (l : List (List ℕ)). octets ∷ l) follows_nothing.frames,
      f.1 ∙ ap rest_of nothing ∙ follows_nothing.rest,
    )
one_message octets false part = frames_none octets part.none

pub follows_on : FramesCut → RestCut → (given : List ℕ) (messages : List (List ℕ)) (piece : List ℕ) (n : ℕ) (old new : Stream) → old.is_whole ≡ false → Follows given messages old
    → n ≤ length piece → new.octets ≡ old.octets ++ take n piece → new.used ≡ old.used + n → IsPart new.is_whole new.octets → Follows (given ++ take n piece) messages new
follows_on frames_cut rest_cut given messages piece n old new begun f inside octets used part = record {
  used = omega (arith, used, f.used, length-append given (take n piece), length-take n piece, inside);
  frames =
      frames_cut given (take n piece)
      ∙ (λ i. handed i ++ frames (rest i ++ take n piece))
      ∙ ap (λ (l : List ℕ). messages ++ frames l) (sym octets)
      ∙ ap (λ (l : List (List ℕ)). messages ++ l) one.0;
  rest = rest_cut given (take n piece) ∙ (λ i. rest_of (rest i ++ take n piece)) ∙ ap rest_of (sym octets) ∙ one.1;
}
  where
    handed : frames given ≡ messages
    handed = f.frames ∙ ap (λ (b : Bool). messages ++ (if b then old.octets ∷ [] else [])) begun ∙ append-nil messages

    rest : rest_of given ≡ old.octets
    rest = f.rest ∙ ap (λ (b : Bool). if b then [] else old.octets) begun

    one : (frames new.octets ≡ standing new) × (rest_of new.octets ≡ pending new)
    one = one_message new.octets new.is_whole part
