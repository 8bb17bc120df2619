-- From which rule on a record's tag is sought.
use Rattle.std.proofs.Common.{◌≡◌, ℕ, zero, suc, ◌+◌, ◌%◌, ◌<◌, ◌≤◌, ◌==◌, ◌&&◌, not, Bool, true, false, if◌then◌else◌, List, [], ◌∷◌, ◌++◌, length, drop, find, replicate, slice_index, slice_index_or, slice_set, ◌⊎◌, inl, inr, ◌≢◌, Option, Some, None, refl, ap, sym, ◌∙◌, subst, arith, length-append}
use Rattle.std.proofs.lemmas.Bool.{and_parts, eqb-true}
use Rattle.std.proofs.lemmas.List.Elements.{All-push}
use Rattle.std.proofs.lemmas.Nat.{mod_below}
use Rattle.std.proofs.Math.Seq.{get_or-append_seam}
use Rattle.std.proofs.lemmas.List.{get_or-replicate, get_or-set_other, get_or-set_same, get_or_append_left, length-replicate}
use Rattle.std.specs.List.{All}
use Rattle.std.specs.Option.{option_map_or}
use Rattle.gw_base.specs.declared.tag.Tag.{Tag}
use Rattle.route_filter.specs.Rules.{AreRules, last_stream, matches, matches_format, matches_tag, most_rules, same_tag, stream_of}
use Rattle.route_filter.specs.Starts.{AreStarts, group_count, group_of, may_match, start_after, start_of}
use Rattle.route_filter.specs.declared.rule.Rule.{Rule}

-- Rules that don't match are passed over.

pub find_from : (p : Rule → Bool) (s : ℕ) (rules : List Rule) → ((k : ℕ) (d : Rule) → k < s → k < length rules → p (slice_index_or rules k d) ≡ false) →
    find p (drop s rules) ≡ find p rules
find_from p zero rules h = refl
find_from p (suc s) [] h = refl
find_from p (suc s) (rule ∷ rules) h =
    rw (h 0 rule (omega arith) (omega arith)) (find_from p s rules (λ k d low here. h (suc k) d (omega arith) (omega arith)))

same_bits : (a b : Bool) → (if a then b else not b) ≡ true → a ≡ b
same_bits true true h = refl
same_bits true false h = absurd (cc)
same_bits false true h = absurd (cc)
same_bits false false h = refl

both_last : (p q r : Bool) → (p && q && r) ≡ true → (q ≡ true) × (r ≡ true)
both_last true true true h = (refl, refl)
both_last true true false h = absurd (cc)
both_last true false true h = absurd (cc)
both_last true false false h = absurd (cc)
both_last false true true h = absurd (cc)
both_last false true false h = absurd (cc)
both_last false false true h = absurd (cc)
both_last false false false h = absurd (cc)

-- the same tags are of one group
one_group : (a b : Tag) → same_tag a b ≡ true → group_of a ≡ group_of b
one_group a b h =
    let same = both_last (a.class == b.class) (if a.constructed then b.constructed else not b.constructed) (a.number == b.number) h in
    ap (λ (c : Bool). (if c then 32 else 0) + a.number % 32) (same_bits a.constructed b.constructed same.0)
    ∙ ap (λ (n : ℕ). (if b.constructed then 32 else 0) + n % 32) (eqb-true a.number b.number same.1)

and_false : (b : Bool) → (b && false) ≡ false
and_false true = refl
and_false false = refl

tag_passed : (wanted : Option Tag) (tag : Tag) (format : ℕ) → option_map_or (λ other. group_of other == group_of tag) wanted true ≡ false →
    matches_tag wanted (Some tag) format ≡ false
tag_passed None tag format h = absurd (cc)
tag_passed (Some wanted) tag format h = by (same_tag wanted tag) refl
  where
    by : (same : Bool) → same_tag wanted tag ≡ same → ((format == 1) && same_tag wanted tag) ≡ false
    by true e = let group = one_group wanted tag e in absurd (grind (arith, group, h))
    by false e = rw e (and_false (format == 1))

-- a rule that may match no tag of the group doesn't match this one
pub not_matched : (rule : Rule) (tag : Tag) (format : ℕ) → may_match (group_of tag) rule ≡ false → matches rule (Some tag) format ≡ false
not_matched rule tag format h = ap (λ (b : Bool). b && matches_format rule.format format) (tag_passed rule.tag tag format h)

below_all : (constructed : Bool) (number : ℕ) → (if constructed then 32 else 0) + number % 32 < group_count
below_all true number = omega (arith, mod_below number 32 (omega arith))
below_all false number = omega (arith, mod_below number 32 (omega arith))

pub group_within : (tag : Tag) → group_of tag < group_count
group_within tag = below_all tag.constructed tag.number

pub start_within : (starts : List ℕ) (rules : List Rule) (tag : Option Tag) → AreStarts starts rules → start_of starts tag ≤ length rules
start_within starts rules None are = omega arith
start_within starts rules (Some tag) are = are.within (group_of tag) (group_within tag)

-- the first rule that matches stands behind the start
pub found_from : (starts : List ℕ) (rules : List Rule) (tag : Option Tag) (format : ℕ) → AreStarts starts rules →
    find (λ rule. matches rule tag format) (drop (start_of starts tag) rules) ≡ find (λ rule. matches rule tag format) rules
found_from starts rules None format are = refl
found_from starts rules (Some tag) format are =
    find_from (λ rule. matches rule (Some tag) format) (slice_index starts (group_of tag)) rules
    (λ k d low here. not_matched (slice_index_or rules k d) tag format (are.passed (group_of tag) k d (group_within tag) low))

-- and its stream is that of the record
pub found_stream : (starts : List ℕ) (rules lent later now : List Rule) (start format : ℕ) (tag : Option Tag) (found said : Option Rule) →
    AreStarts starts rules → start ≡ start_of starts tag → lent ≡ rules → later ≡ drop start lent →
    found ≡ find (λ rule. matches rule tag format) later → rules ≡ now → found ≡ said →
    option_map_or (λ (rule : Rule). rule.stream) said 0 ≡ stream_of now tag format
found_stream starts rules lent later now start format tag found said are start_is lent_is later_is found_is now_is said_is =
    ap (λ (rule : Option Rule). option_map_or (λ (r : Rule). r.stream) rule 0)
    (sym said_is ∙ found_is
    ∙ ap (find (λ (rule : Rule). matches rule tag format)) (later_is ∙ ap (drop start) lent_is ∙ ap (λ (n : ℕ). drop n rules) start_is)
    ∙ found_from starts rules tag format are
    ∙ ap (find (λ (rule : Rule). matches rule tag format)) now_is)

-- One more rule.

not_so : (b : Bool) → not b ≡ true → b ≡ false
not_so true h = absurd (cc)
not_so false h = refl

after_within : (moved : Bool) (count start : ℕ) → start ≤ count → (if moved then count + 1 else start) ≤ count + 1
after_within true count start h = omega arith
after_within false count start h = omega (arith, h)

passed_after : (moved : Bool) (g k : ℕ) (d rule : Rule) (rules : List Rule) (start : ℕ) →
    ((start == length rules) && not (may_match g rule)) ≡ moved → start ≤ length rules →
    ((j : ℕ) → j < start → may_match g (slice_index_or rules j d) ≡ false) → k < (if moved then length rules + 1 else start) →
    may_match g (slice_index_or (rules ++ rule ∷ []) k d) ≡ false
passed_after false g k d rule rules start e within before low =
    ap (may_match g) (get_or_append_left rules (rule ∷ []) d k (omega (arith, within, low))) ∙ before k low
passed_after true g k d rule rules start e within before low = by (k == length rules) refl
  where
    both : ((start == length rules) ≡ true) × (not (may_match g rule) ≡ true)
    both = and_parts (start == length rules) (not (may_match g rule)) e

    by : (last : Bool) → (k == length rules) ≡ last → may_match g (slice_index_or (rules ++ rule ∷ []) k d) ≡ false
    by true f =
        ap (λ (j : ℕ). may_match g (slice_index_or (rules ++ rule ∷ []) j d)) (eqb-true k (length rules) f)
        ∙ ap (may_match g) (get_or-append_seam rules rule [] d) ∙ not_so (may_match g rule) both.1
    by false f =
        let stood : start ≡ length rules = eqb-true start (length rules) both.0 in
        let earlier : k < length rules = grind (arith, f, low) in
        ap (may_match g) (get_or_append_left rules (rule ∷ []) d k earlier) ∙ before k (omega (arith, stood, earlier))

must_be : (last met : Bool) → last ≡ true → (last && not met) ≡ false → met ≡ true
must_be true true h e = refl
must_be true false h e = absurd (cc)
must_be false true h e = refl
must_be false false h e = absurd (cc)

met_after : (moved : Bool) (g : ℕ) (d rule : Rule) (rules : List Rule) (start : ℕ) →
    ((start == length rules) && not (may_match g rule)) ≡ moved → start ≤ length rules →
    (start < length rules → may_match g (slice_index_or rules start d) ≡ true) →
    (if moved then length rules + 1 else start) < length (rules ++ rule ∷ []) →
    may_match g (slice_index_or (rules ++ rule ∷ []) (if moved then length rules + 1 else start) d) ≡ true
met_after true g d rule rules start e within met low = absurd (omega (arith, length-append rules (rule ∷ []), low))
met_after false g d rule rules start e within met low = by (start == length rules) refl
  where
    by : (last : Bool) → (start == length rules) ≡ last → may_match g (slice_index_or (rules ++ rule ∷ []) start d) ≡ true
    by true f =
        ap (λ (j : ℕ). may_match g (slice_index_or (rules ++ rule ∷ []) j d)) (eqb-true start (length rules) f)
        ∙ ap (may_match g) (get_or-append_seam rules rule [] d) ∙ must_be (start == length rules) (may_match g rule) f e
    by false f =
        let earlier : start < length rules = grind (arith, f, within) in
        ap (may_match g) (get_or_append_left rules (rule ∷ []) d start earlier) ∙ met earlier

pub starts_after : (old new : List ℕ) (rules : List Rule) (rule : Rule) → AreStarts old rules → length new ≡ group_count →
    ((g : ℕ) → g < group_count → slice_index new g ≡ start_after g rule (length rules) (slice_index old g)) →
    AreStarts new (rules ++ rule ∷ [])
starts_after old new rules rule are long moved = record {
  groups = long;
  within = λ g h. omega (
    arith,
    length-append rules (rule ∷ []),
    moved g h,
    after_within ((slice_index old g == length rules) && not (may_match g rule)) (length rules) (slice_index old g) (are.within g h),
  );
  passed = λ g k d h low. passed_after ((slice_index old g == length rules) && not (may_match g rule)) g k d rule rules (slice_index old g) refl
      (are.within g h) (λ j lower. are.passed g j d h lower) (subst (λ (n : ℕ). k < n) (moved g h) low);
  met = λ g d h. subst (λ (n : ℕ). n < length (rules ++ rule ∷ []) → may_match g (slice_index_or (rules ++ rule ∷ []) n d) ≡ true) (sym (moved g h))
      (met_after ((slice_index old g == length rules) && not (may_match g rule)) g d rule rules (slice_index old g) refl (are.within g h) (are.met g d h));
}

pub kept_after : (old new : List Rule) (rule : Rule) → AreRules old → new ≡ old ++ rule ∷ [] → length old < most_rules →
    rule.stream ≤ last_stream → AreRules new
kept_after old new rule are grown room within = record {
  most = omega (arith, ap length grown, length-append old (rule ∷ []), room);
  streams = subst (λ (rules : List Rule). All (λ (r : Rule). r.stream ≤ last_stream) rules) (sym grown)
      (All-push (λ (r : Rule). r.stream ≤ last_stream) old rule are.streams within);
}

pub starts_kept : (old new : List ℕ) (rules grown : List Rule) (rule : Rule) (count : ℕ) → AreStarts old rules → length new ≡ group_count →
    ((g : ℕ) → g < group_count → slice_index new g ≡ start_after g rule count (slice_index old g)) →
    count ≡ length rules → grown ≡ rules ++ rule ∷ [] → AreStarts new grown
starts_kept old new rules grown rule count are long moved count_is grown_is =
    subst (AreStarts new) (sym grown_is)
    (starts_after old new rules rule are long (λ g h. moved g h ∙ ap (λ (n : ℕ). start_after g rule n (slice_index old g)) count_is))

same_or_not : (a b : ℕ) → (a ≡ b) ⊎ (a ≢ b)
same_or_not a b = grind arith

-- the start of one more group was moved
pub one_moved : (old starts : List ℕ) (rule : Rule) (count group read start : ℕ) → group < length starts →
    start ≡ start_after group rule count read → read ≡ slice_index starts group →
    ((g : ℕ) → g < group → slice_index starts g ≡ start_after g rule count (slice_index old g)) →
    ((g : ℕ) → group ≤ g → slice_index starts g ≡ slice_index old g) → (g : ℕ) → g < group + 1 →
    slice_index (slice_set starts group start) g ≡ start_after g rule count (slice_index old g)
one_moved old starts rule count group read start here start_is read_is before left g low =
    elim (same_or_not g group) [
      | inl same ↦ subst (λ (k : ℕ). slice_index (slice_set starts group start) k ≡ start_after k rule count (slice_index old k)) (sym same)
          (get_or-set_same starts group start 0 here ∙ start_is
          ∙ ap (start_after group rule count) (read_is ∙ left group (omega arith)))
      | inr other ↦ get_or-set_other starts group g start 0 other ∙ before g (grind (arith, low, other))
    ]

pub others_left : (old starts : List ℕ) (group start : ℕ) → ((g : ℕ) → group ≤ g → slice_index starts g ≡ slice_index old g) →
    (g : ℕ) → group + 1 ≤ g → slice_index (slice_set starts group start) g ≡ slice_index old g
others_left old starts group start left g high =
    get_or-set_other starts group g start 0 (λ same. absurd (omega (arith, same, high))) ∙ left g (omega (arith, high))

-- before the first rule
within_none : (n g : ℕ) → g < n → slice_index (replicate n 0) g ≤ 0
within_none n g h = omega (arith, get_or-replicate {A = ℕ} n g 0 0 h)

passed_none : (n g k : ℕ) (d : Rule) → g < n → k < slice_index (replicate n 0) g → may_match g (slice_index_or [] k d) ≡ false
passed_none n g k d h low = absurd (omega (arith, get_or-replicate {A = ℕ} n g 0 0 h, low))

met_none : (start g : ℕ) (d : Rule) → start < 0 → may_match g (slice_index_or [] start d) ≡ true
met_none start g d low = absurd (omega (arith, low))

starts_none : AreStarts (replicate group_count 0) []
starts_none = record {
  groups = length-replicate {A = ℕ} group_count 0;
  within = within_none group_count;
  passed = λ g k d h low. passed_none group_count g k d h low;
  met = λ g d h low. met_none (slice_index (replicate group_count 0) g) g d low;
}

rules_none : AreRules []
rules_none = record {
  most = omega arith;
  streams = λ k d h. absurd (omega (arith, h));
}

pub none_yet : (rules : List Rule) → rules ≡ [] → AreRules rules × AreStarts (replicate group_count 0) rules
none_yet rules e = (subst AreRules (sym e) rules_none, subst (AreStarts (replicate group_count 0)) (sym e) starts_none)
