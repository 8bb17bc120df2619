-- Identifier and length in front of octets: either they are there, or one fault is; and the readers tell which.
use Rattle.std.proofs.Common.{◌≡◌, ℕ, min, ◌+◌, ◌-◌, ◌*◌, ◌%◌, ◌^◌, ◌<◌, ◌≤◌, ◌⊎◌, Bool, true, false, ltb, eqb, List, [], ◌∷◌, ◌++◌, length, map, take, drop, Option, Some, None, Ok, Err, refl, sym, ap, subst, ◌∙◌, append_assoc, arith, inl, inr}
use Rattle.std.specs.Prelude.{fold}
use Rattle.std.specs.List.{AllByRecursion}
use Rattle.std.proofs.lemmas.Bool.{cases_lt, lt-ltb, le-ltb, ne_eqb}
use Rattle.std.proofs.lemmas.List.{take_at, drop_at, take-append-drop, length-append, length-take-le}
use Rattle.gw_base.specs.declared.tag.Tag.{Tag}
use Rattle.ber_frame.specs.declared.fault.BerKind.{BerKind}
use Rattle.ber_frame.specs.declared.fault.BerKind.TheVariants.{Cut, Indefinite, LengthTooBig, TagTooBig}
use Rattle.ber_frame.specs.Head.{number_in, low_bits, AreGroups, IsTagNumber, tag_of, IsIdentifier, IsLengthForm, IsInReach}
use Rattle.ber_frame.specs.Faults.{IsIdentifierCut, IdentifierFails, IsLengthCut, IsLengthTooBig, LengthFails, AfterIdentifier, HeadFails, IsAllowed, AfterHead}
use Rattle.ber_frame.specs.Reading.{◌>>=◌, next_digit, groups_at, identifier_at, octets_number, long_length, length_at, allowed_head, head_at}

-- ---- octets

abbrev pub IsOctets : List ℕ → Type 0
IsOctets octets = AllByRecursion (λ octet. octet < 256) octets

pub IsOctets-back : (front rest : List ℕ) → IsOctets (front ++ rest) → IsOctets rest
IsOctets-back [] rest h = h
IsOctets-back (a ∷ front) rest h = IsOctets-back front rest h.1

pub IsOctets-front : (front rest : List ℕ) → IsOctets (front ++ rest) → IsOctets front
IsOctets-front [] rest h = tt
IsOctets-front (a ∷ front) rest h = (h.0, IsOctets-front front rest h.1)

-- ---- numbers

abbrev pub capped : ℕ → ℕ
capped number = min number (2 ^ 32)

abbrev pub spelled : ℕ → ℕ → List ℕ → ℕ
spelled base high digits = fold (λ h d. h * base + d) high digits

capped_128 : (high digit : ℕ) → next_digit 128 (capped high) digit ≡ capped (high * 128 + digit)
capped_128 high digit = omega arith

capped_256 : (high digit : ℕ) → next_digit 256 (capped high) digit ≡ capped (high * 256 + digit)
capped_256 high digit = omega arith

pub capped_number : (octets : List ℕ) (high : ℕ) → fold (next_digit 256) (capped high) octets ≡ capped (spelled 256 high octets)
capped_number [] high = refl
capped_number (o ∷ octets) high = rw (capped_256 high o) (capped_number octets (high * 256 + o))

pub octets_number_is : (octets : List ℕ) → octets_number octets ≡ capped (number_in 256 octets)
unfolding octets_number
octets_number_is octets = capped_number octets 0

-- ---- groups

pub groups_last : (high octet : ℕ) (rest : List ℕ) → octet < 128 → groups_at high (octet ∷ rest) ≡ Some (next_digit 128 high (octet % 128), rest)
unfolding groups_at
groups_last high octet rest lt = rw (lt-ltb octet 128 lt) refl

pub groups_more : (high octet : ℕ) (rest : List ℕ) → 128 ≤ octet → groups_at high (octet ∷ rest) ≡ groups_at (next_digit 128 high (octet % 128)) rest
unfolding groups_at
groups_more high octet rest le = rw (le-ltb octet 128 le) refl

groups_read : (groups rest : List ℕ) (high : ℕ) → AreGroups groups → groups_at (capped high) (groups ++ rest) ≡ Some (capped (spelled 128 high (map low_bits groups)), rest)
groups_read [] rest high h = absurd h
groups_read (a ∷ []) rest high h =
    groups_last (capped high) a rest h ∙ ap (λ (n : ℕ). Some (n, rest)) (capped_128 high (a % 128))
groups_read (a ∷ b ∷ groups) rest high h =
    groups_more (capped high) a (b ∷ groups ++ rest) h.0
    ∙ ap (λ (n : ℕ). groups_at n (b ∷ groups ++ rest)) (capped_128 high (a % 128))
    ∙ groups_read (b ∷ groups) rest (high * 128 + a % 128) h.1

groups_cut : (octets : List ℕ) (high : ℕ) → AllByRecursion (λ octet. 128 ≤ octet) octets → groups_at high octets ≡ None
unfolding groups_at
groups_cut [] high h = refl
groups_cut (a ∷ octets) high h = groups_more high a octets h.0 ∙ groups_cut octets (next_digit 128 high (a % 128)) h.1

record Grouped (octets : List ℕ) : Type 0 where
  groups : List ℕ
  rest : List ℕ
  joined : octets ≡ groups ++ rest
  are_groups : AreGroups groups

one_more : (a : ℕ) (octets : List ℕ) → 128 ≤ a → Grouped octets → Grouped (a ∷ octets)
one_more a octets le g = record {
  groups = a ∷ g.groups;
  rest = g.rest;
  joined = ap (λ (x : List ℕ). a ∷ x) g.joined;
  are_groups = longer a g.groups le g.are_groups;
}
  where
    longer : (a : ℕ) (groups : List ℕ) → 128 ≤ a → AreGroups groups → AreGroups (a ∷ groups)
    longer a [] le h = absurd h
    longer a (b ∷ groups) le h = (le, h)

groups_decide : (octets : List ℕ) → Grouped octets ⊎ AllByRecursion (λ octet. 128 ≤ octet) octets
groups_decide [] = inr tt
groups_decide (a ∷ octets) =
    elim (cases_lt a 128) [
      | inl lt ↦ inl (record { groups = a ∷ []; rest = octets; joined = refl; are_groups = lt })
      | inr le ↦ elim (groups_decide octets) [
        | inl g ↦ inl (one_more a octets le g)
        | inr cut ↦ inr (le, cut)
      ]
    ]

-- ---- identifiers

number_read : (leading : ℕ) (groups rest : List ℕ) (n : ℕ) → IsTagNumber leading groups n → n < 2 ^ 32 → identifier_at (leading ∷ groups ++ rest) ≡ Ok (tag_of leading n, rest)
unfolding identifier_at
number_read leading groups rest n (inl s) lt =
    let small : leading % 32 < 31 = s.0 in
    rw (lt-ltb (leading % 32) 31 small, s.1, s.2) refl
number_read leading groups rest n (inr l) lt =
    let big : 31 ≤ leading % 32 = omega (arith, l.0) in
    let small : capped (number_in 128 (map low_bits groups)) ≡ n = omega (arith, l.2) in
    rw (le-ltb (leading % 32) 31 big, groups_read groups rest 0 l.1, small, lt-ltb n (2 ^ 32) lt) refl

identifier_in_front : (identifier rest : List ℕ) (tag : Tag) → IsIdentifier identifier tag → identifier_at (identifier ++ rest) ≡ Ok (tag, rest)
identifier_in_front [] rest tag h = absurd h
identifier_in_front (leading ∷ groups) rest tag h =
    number_read leading groups rest h.0 h.1 h.2 ∙ ap (λ (t : Tag). Ok (t, rest)) (sym h.3)

pub identifier_reads : (octets : List ℕ) (tag : Tag) (rest : List ℕ) → AfterIdentifier octets tag rest → identifier_at octets ≡ Ok (tag, rest)
identifier_reads octets tag rest h = ap identifier_at h.joined ∙ identifier_in_front h.identifier rest tag h.is_identifier

identifier_cut : (octets : List ℕ) → IsIdentifierCut octets → identifier_at octets ≡ Err Cut
unfolding identifier_at
identifier_cut [] h = refl
identifier_cut (leading ∷ groups) h =
    let big : 31 ≤ leading % 32 = omega (arith, h.0) in
    rw (le-ltb (leading % 32) 31 big, groups_cut groups 0 h.1) refl

number_too_big : (leading : ℕ) (groups rest : List ℕ) (n : ℕ) → IsTagNumber leading groups n → 2 ^ 32 ≤ n → identifier_at (leading ∷ groups ++ rest) ≡ Err TagTooBig
unfolding identifier_at
number_too_big leading groups rest n (inl s) le = absurd (omega (arith, s.0, s.2))
number_too_big leading groups rest n (inr l) le =
    let big : 31 ≤ leading % 32 = omega (arith, l.0) in
    let top : capped (number_in 128 (map low_bits groups)) ≡ 2 ^ 32 = omega (arith, l.2) in
    rw (le-ltb (leading % 32) 31 big, groups_read groups rest 0 l.1, top) refl

pub identifier_fails : (octets : List ℕ) (kind : BerKind) → IdentifierFails octets kind → identifier_at octets ≡ Err kind
identifier_fails octets Cut h = identifier_cut octets h
identifier_fails octets TagTooBig h = ap identifier_at h.joined ∙ number_too_big h.leading h.groups h.rest h.number h.is_number h.too_big
identifier_fails octets _ h = absurd h

pub record Identified (octets : List ℕ) : Type 0 where
  pub tag : Tag
  pub rest : List ℕ
  pub after : AfterIdentifier octets tag rest

pub record Unidentified (octets : List ℕ) : Type 0 where
  pub kind : BerKind
  pub fails : IdentifierFails octets kind

short_tag : (leading : ℕ) (octets : List ℕ) → leading % 32 < 31 → Identified (leading ∷ octets)
short_tag leading octets lt = record {
  tag = tag_of leading (leading % 32);
  rest = octets;
  after = record {
    identifier = leading ∷ [];
    joined = refl;
    is_identifier = (leading % 32, inl (lt, refl, refl), omega arith, refl);
  };
}

long_tag_found : (leading : ℕ) (octets : List ℕ) → leading % 32 ≡ 31 → Grouped octets → Identified (leading ∷ octets) ⊎ Unidentified (leading ∷ octets)
long_tag_found leading octets all g =
    let number : ℕ = number_in 128 (map low_bits g.groups) in
    let is_number : IsTagNumber leading g.groups (number_in 128 (map low_bits g.groups)) = inr (all, g.are_groups, refl) in
    elim (cases_lt (number_in 128 (map low_bits g.groups)) (2 ^ 32)) [
      | inl lt ↦ inl (record {
        tag = tag_of leading (number_in 128 (map low_bits g.groups));
        rest = g.rest;
        after = record {
          identifier = leading ∷ g.groups;
          joined = ap (λ (x : List ℕ). leading ∷ x) g.joined;
          is_identifier = (number_in 128 (map low_bits g.groups), is_number, lt, refl);
        };
      })
      | inr le ↦ inr (record {
        kind = TagTooBig;
        fails = record {
          leading = leading;
          groups = g.groups;
          rest = g.rest;
          number = number_in 128 (map low_bits g.groups);
          joined = ap (λ (x : List ℕ). leading ∷ x) g.joined;
          is_number = is_number;
          too_big = le;
        };
      })
    ]

pub identifier_decide : (octets : List ℕ) → Identified octets ⊎ Unidentified octets
identifier_decide [] = inr (record { kind = Cut; fails = tt })
identifier_decide (leading ∷ octets) =
    elim (cases_lt (leading % 32) 31) [
      | inl lt ↦ inl (short_tag leading octets lt)
      | inr le ↦
          let all : leading % 32 ≡ 31 = omega arith in
          elim (groups_decide octets) [
            | inl g ↦ long_tag_found leading octets all g
            | inr cut ↦ inr (record { kind = Cut; fails = (all, cut) })
          ]
    ]

-- ---- lengths

long_length_read : (octets rest : List ℕ) (size : ℕ) → size ≡ number_in 256 octets → size < 2 ^ 32 → long_length (length octets) (octets ++ rest) ≡ Ok (Some size, rest)
unfolding long_length
long_length_read octets rest size e lt =
    let there : length octets ≤ length (octets ++ rest) = omega (arith, length-append octets rest) in
    let small : capped (number_in 256 octets) ≡ size = omega (arith, e) in
    rw (le-ltb (length (octets ++ rest)) (length octets) there, take_at octets rest (length octets) refl, drop_at octets rest (length octets) refl, octets_number_is octets, small, lt-ltb size (2 ^ 32) lt) refl

long_length_too_big : (octets rest : List ℕ) (size : ℕ) → size ≡ number_in 256 octets → 2 ^ 32 ≤ size → long_length (length octets) (octets ++ rest) ≡ Err LengthTooBig
unfolding long_length
long_length_too_big octets rest size e le =
    let there : length octets ≤ length (octets ++ rest) = omega (arith, length-append octets rest) in
    let top : capped (number_in 256 octets) ≡ 2 ^ 32 = omega (arith, e) in
    rw (le-ltb (length (octets ++ rest)) (length octets) there, take_at octets rest (length octets) refl, octets_number_is octets, top) refl

-- what is read after a first octet from 81 to FE
long_form : (first : ℕ) (octets : List ℕ) → 128 < first → first < 255 → length_at (first ∷ octets) ≡ long_length (first - 128) octets
unfolding length_at
long_form first octets above below =
    let short : ltb first 128 ≡ false = le-ltb first 128 (omega arith) in
    let endless : eqb first 128 ≡ false = ne_eqb first 128 (λ e. omega arith) in
    rw (short, endless, lt-ltb first 255 below) refl

counted : (first count : ℕ) → first ≡ 128 + count → first - 128 ≡ count
counted first count e = omega arith

length_in_front : (lengths rest : List ℕ) (size : Option ℕ) → IsLengthForm lengths size → IsInReach size → length_at (lengths ++ rest) ≡ Ok (size, rest)
unfolding length_at
length_in_front [] rest size h within = absurd h
length_in_front (first ∷ octets) rest None h within = rw (h.1, h.0) refl
length_in_front (first ∷ octets) rest (Some size) (inl s) within =
    let lt : first < 128 = s.0 in
    rw (lt-ltb first 128 lt, s.1, s.2) refl
length_in_front (first ∷ octets) rest (Some size) (inr l) within =
    long_form first (octets ++ rest) l.0 l.1
    ∙ ap (λ (n : ℕ). long_length n (octets ++ rest)) (counted first (length octets) l.2)
    ∙ long_length_read octets rest size l.3 within

size_too_big : (lengths rest : List ℕ) (size : ℕ) → IsLengthForm lengths (Some size) → 2 ^ 32 ≤ size → length_at (lengths ++ rest) ≡ Err LengthTooBig
size_too_big [] rest size h le = absurd h
size_too_big (first ∷ octets) rest size (inl s) le = absurd (omega (arith, s.0, s.2))
size_too_big (first ∷ octets) rest size (inr l) le =
    long_form first (octets ++ rest) l.0 l.1
    ∙ ap (λ (n : ℕ). long_length n (octets ++ rest)) (counted first (length octets) l.2)
    ∙ long_length_too_big octets rest size l.3 le

length_cut : (octets : List ℕ) → IsLengthCut octets → length_at octets ≡ Err Cut
unfolding length_at long_length
length_cut [] h = refl
length_cut (first ∷ octets) h =
    let short : length octets < first - 128 = omega (arith, h.2) in
    long_form first octets h.0 h.1 ∙ rw (lt-ltb (length octets) (first - 128) short) refl

length_too_big : (octets : List ℕ) → IsLengthTooBig octets → length_at octets ≡ Err LengthTooBig
unfolding length_at
length_too_big octets (inl h) = ap length_at h.1
length_too_big octets (inr h) = ap length_at h.3 ∙ size_too_big h.0 h.1 h.2 h.4 h.5

-- a length in front of these octets
pub record Measured (constructed : Bool) (octets : List ℕ) : Type 0 where
  pub size : Option ℕ
  pub lengths : List ℕ
  pub rest : List ℕ
  pub joined : octets ≡ lengths ++ rest
  pub is_length : IsLengthForm lengths size
  pub in_reach : IsInReach size
  pub is_allowed : IsAllowed constructed size

pub record Unmeasured (constructed : Bool) (octets : List ℕ) : Type 0 where
  pub kind : BerKind
  pub fails : LengthFails constructed octets kind

long_decide : (constructed : Bool) (first : ℕ) (octets : List ℕ) → 128 < first → first < 255 → Measured constructed (first ∷ octets) ⊎ Unmeasured constructed (first ∷ octets)
long_decide constructed first octets above below =
    elim (cases_lt (length octets) (first - 128)) [
      | inl short ↦ inr (record { kind = Cut; fails = (above, below, omega arith) })
      | inr there ↦
          let front : List ℕ = take (first - 128) octets in
          let count : first ≡ 128 + length (take (first - 128) octets) = omega (arith, length-take-le (first - 128) octets there) in
          let parts : first ∷ octets ≡ (first ∷ take (first - 128) octets) ++ drop (first - 128) octets = ap (λ (x : List ℕ). first ∷ x) (sym (take-append-drop (first - 128) octets)) in
          let form : IsLengthForm (first ∷ take (first - 128) octets) (Some (number_in 256 (take (first - 128) octets))) = inr (above, below, count, refl) in
          elim (cases_lt (number_in 256 (take (first - 128) octets)) (2 ^ 32)) [
            | inl lt ↦ inl (record {
              size = Some (number_in 256 (take (first - 128) octets));
              lengths = first ∷ take (first - 128) octets;
              rest = drop (first - 128) octets;
              joined = parts;
              is_length = form;
              in_reach = lt;
              is_allowed = tt;
            })
            | inr le ↦ inr (record {
              kind = LengthTooBig;
              fails = inr (first ∷ take (first - 128) octets, drop (first - 128) octets, number_in 256 (take (first - 128) octets), parts, form, le);
            })
          ]
    ]

endless_decide : (constructed : Bool) (octets : List ℕ) → Measured constructed (128 ∷ octets) ⊎ Unmeasured constructed (128 ∷ octets)
endless_decide true octets = inl (record { size = None; lengths = 128 ∷ []; rest = octets; joined = refl; is_length = (refl, refl); in_reach = tt; is_allowed = refl })
endless_decide false octets = inr (record { kind = Indefinite; fails = (refl, octets, refl) })

short_length : (constructed : Bool) (first : ℕ) (octets : List ℕ) → first < 128 → Measured constructed (first ∷ octets)
short_length constructed first octets lt = record {
  size = Some first;
  lengths = first ∷ [];
  rest = octets;
  joined = refl;
  is_length = inl (lt, refl, refl);
  in_reach = omega arith;
  is_allowed = tt;
}

-- octets are below 256
pub length_decide : (constructed : Bool) (octets : List ℕ) → IsOctets octets → Measured constructed octets ⊎ Unmeasured constructed octets
length_decide constructed [] small = inr (record { kind = Cut; fails = tt })
length_decide constructed (first ∷ octets) small =
    let below : first < 256 = small.0 in
    elim (cases_lt first 128) [
      | inl lt ↦ inl (short_length constructed first octets lt)
      | inr le ↦ elim (cases_lt 128 first) [
        | inl above ↦ elim (cases_lt first 255) [
          | inl lt ↦ long_decide constructed first octets above lt
          | inr top ↦
              let is : 255 ≡ first = omega arith in
              subst (λ (f : ℕ). Measured constructed (f ∷ octets) ⊎ Unmeasured constructed (f ∷ octets)) is
              (inr (record { kind = LengthTooBig; fails = inl (octets, refl) }))
        ]
        | inr not_above ↦
            let is : 128 ≡ first = omega arith in
            subst (λ (f : ℕ). Measured constructed (f ∷ octets) ⊎ Unmeasured constructed (f ∷ octets)) is (endless_decide constructed octets)
      ]
    ]

-- ---- heads

allowed_is : (tag : Tag) (constructed : Bool) (size : Option ℕ) (rest : List ℕ) → IsAllowed constructed size → allowed_head tag constructed (size, rest) ≡ Ok (tag, size, rest)
allowed_is tag constructed (Some size) rest h = refl
allowed_is tag true None rest h = refl
allowed_is tag false None rest h = absurd cc

pub head_reads : (octets : List ℕ) (tag : Tag) (size : Option ℕ) (head rest : List ℕ) → AfterHead octets tag size head rest → head_at octets ≡ Ok (tag, size, rest)
unfolding head_at
head_reads octets tag size head rest h =
    let parts : octets ≡ h.is_head.identifier ++ (h.is_head.lengths ++ rest) =
    h.joined ∙ ap (λ (x : List ℕ). x ++ rest) h.is_head.joined ∙ append_assoc h.is_head.identifier h.is_head.lengths rest in
    let one : identifier_at octets ≡ Ok (tag, h.is_head.lengths ++ rest) = ap identifier_at parts ∙ identifier_in_front h.is_head.identifier (h.is_head.lengths ++ rest) tag h.is_head.is_identifier in
    let two : length_at (h.is_head.lengths ++ rest) ≡ Ok (size, rest) = length_in_front h.is_head.lengths rest size h.is_head.is_length h.is_head.in_reach in
    rw (one, two) (allowed_is tag tag.constructed size rest h.is_allowed)

indefinite : (tag : Tag) (constructed : Bool) (octets : List ℕ) → (constructed ≡ false) × (rest : List ℕ) × (octets ≡ 128 ∷ rest) → (length_at octets >>= λ l. allowed_head tag constructed l) ≡ Err Indefinite
indefinite tag constructed octets h =
    let read : length_at octets ≡ Ok (None, h.1) = ap length_at h.2 ∙ length_in_front (128 ∷ []) h.1 None (refl, refl) tt in
    rw (read, h.0) refl

length_fails : (tag : Tag) (constructed : Bool) (octets : List ℕ) (kind : BerKind) → LengthFails constructed octets kind → (length_at octets >>= λ l. allowed_head tag constructed l) ≡ Err kind
length_fails tag constructed octets Cut h = rw (length_cut octets h) refl
length_fails tag constructed octets LengthTooBig h = rw (length_too_big octets h) refl
length_fails tag constructed octets Indefinite h = indefinite tag constructed octets h
length_fails tag constructed octets _ h = absurd h

pub head_fails : (octets : List ℕ) (kind : BerKind) → HeadFails octets kind → head_at octets ≡ Err kind
unfolding head_at
head_fails octets kind (inl h) = rw (identifier_fails octets kind h) refl
head_fails octets kind (inr h) =
    rw (identifier_reads octets h.0 h.1 h.2) (length_fails h.0 h.0.constructed h.1 kind h.3)

-- a head in front of these octets, or what is wrong with it
pub record Headed (octets : List ℕ) : Type 0 where
  pub tag : Tag
  pub size : Option ℕ
  pub head : List ℕ
  pub rest : List ℕ
  pub after : AfterHead octets tag size head rest

pub record Unheaded (octets : List ℕ) : Type 0 where
  pub kind : BerKind
  pub fails : HeadFails octets kind

headed : (octets : List ℕ) (i : Identified octets) → Measured i.tag.constructed i.rest → Headed octets
headed octets i m = record {
  tag = i.tag;
  size = m.size;
  head = i.after.identifier ++ m.lengths;
  rest = m.rest;
  after = record {
    joined = i.after.joined ∙ ap (λ (x : List ℕ). i.after.identifier ++ x) m.joined ∙ sym (append_assoc i.after.identifier m.lengths m.rest);
    is_head = record { identifier = i.after.identifier; lengths = m.lengths; joined = refl; is_identifier = i.after.is_identifier; is_length = m.is_length; in_reach = m.in_reach };
    is_allowed = m.is_allowed;
  };
}

pub head_decide : (octets : List ℕ) → IsOctets octets → Headed octets ⊎ Unheaded octets
head_decide octets small =
    elim (identifier_decide octets) [
      | inl i ↦ elim (length_decide i.tag.constructed i.rest (IsOctets-back i.after.identifier i.rest (subst IsOctets i.after.joined small))) [
        | inl m ↦ inl (headed octets i m)
        | inr u ↦ inr (record { kind = u.kind; fails = inr (i.tag, i.rest, i.after, u.fails) })
      ]
      | inr u ↦ inr (record { kind = u.kind; fails = inl u.fails })
    ]
