-- What `flat` tells: a value that is primitive, or has primitive inner values alone, is read,
-- and so it is walked through.
use Rattle.std.proofs.Common.{◌≡◌, ℕ, zero, suc, ◌+◌, ◌-◌, ◌<◌, ◌==◌, Bool, true, false, if◌then◌else◌, nat_lt, List, [], ◌∷◌, length, drop, Option, Some, None, Result, Ok, Err, refl, sym, ap, subst, ◌∙◌, arith}
use Rattle.std.proofs.lemmas.Bool.{eqb-true, le-ltb}
use Rattle.std.proofs.lemmas.List.{take_all, drop_all}
use Rattle.gw_base.specs.declared.tag.Tag.{Tag}
use Rattle.ber_frame.specs.declared.fault.BerKind.{BerKind}
use Rattle.ber_frame.specs.Checked.{◌>>=◌, checked, contents_at, inner_values_at, value_at}
use Rattle.ber_frame.specs.Reading.{head_at, behind_value, behind_primitive, go_behind, from_here, fewer_primitive, are_primitive, flat_value, flat}
use Rattle.ber_frame.specs.Value.{are_over}
use Rattle.ber_frame.specs.Walk.{Walks}
use Rattle.ber_frame.proofs.Checks.{ok, read, rest_is}
use Rattle.ber_frame.proofs.Heads.{IsOctets}
use Rattle.ber_frame.proofs.Walks.{walks_checked}

abbrev some_octets : List ℕ → Option (List ℕ)
some_octets rest = Some rest

abbrev some_tag : Tag → Option Tag
some_tag tag = Some tag

-- a primitive value in front is read
sized_read : (levels at : ℕ) (octets rest : List ℕ) (tag : Tag) (size : ℕ) (more : List ℕ) (constructed cut : Bool)
    → head_at octets ≡ Ok (tag, Some size, more) → tag.constructed ≡ constructed → nat_lt (length more) size ≡ cut
    → (if constructed then None else (if cut then None else Some (drop size more))) ≡ some_octets rest
    → value_at (suc levels) at octets ≡ read tag rest
unfolding value_at
sized_read levels at octets rest tag size more true cut head form fits is = absurd cc
sized_read levels at octets rest tag size more false true head form fits is = absurd cc
sized_read levels at octets rest tag size more false false head form fits is =
    let same : drop size more ≡ rest = cc in
    rw head
    (ap (λ (b : Bool). contents_at (value_at levels) at (at + (length octets - length more)) b (Some size) more
    >>= λ behind. read tag behind) form
    ∙ rw fits (ap (λ (o : List ℕ). read tag o) same))

primitive_read : (levels at : ℕ) (octets rest : List ℕ) (h : Result (Tag × Option ℕ × List ℕ) BerKind)
    → head_at octets ≡ h → behind_value h ≡ some_octets rest →
    (tag : Tag) × (value_at (suc levels) at octets ≡ read tag rest)
primitive_read levels at octets rest (Err kind) head is = absurd cc
primitive_read levels at octets rest (Ok (tag, None, more)) head is = absurd cc
primitive_read levels at octets rest (Ok (tag, Some size, more)) head is =
    (tag, sized_read levels at octets rest tag size more tag.constructed (nat_lt (length more) size) head refl refl is)

read_behind : (levels count at : ℕ) (octets : List ℕ)
    → ((n : ℕ) (rest : List ℕ) → fewer_primitive count rest ≡ true →
    inner_values_at (value_at (suc levels)) false count n rest ≡ rest_is [])
    → are_over false octets ≡ false → (behind : Option (List ℕ)) → behind_primitive octets ≡ behind
    → go_behind (fewer_primitive count) behind ≡ true → inner_values_at (value_at (suc levels)) false (suc count) at
    octets ≡ rest_is []
unfolding inner_values_at behind_primitive
read_behind levels count at octets again goes_on None is go = absurd cc
read_behind levels count at octets again goes_on (Some rest) is go =
    let first = primitive_read levels at octets rest (head_at octets) refl is in
    rw (goes_on, first.1) (again (at + (length octets - length rest)) rest go)

-- primitive values one after the other are read
all_read : (levels count at : ℕ) (octets : List ℕ) → fewer_primitive count octets ≡ true
    → inner_values_at (value_at (suc levels)) false count at octets ≡ rest_is []
unfolding fewer_primitive inner_values_at
all_read levels zero at octets are = absurd cc
all_read levels (suc count) at [] are = refl
all_read levels (suc count) at (a ∷ octets) are =
    read_behind levels count at (a ∷ octets) (λ n rest fewer. all_read levels count n rest fewer) refl
    (behind_primitive (a ∷ octets)) refl are

-- ---- what `flat` tells

flat_read : (levels : ℕ) (octets : List ℕ) (tag t : Tag) (size : ℕ) (rest : List ℕ)
    (whole constructed primitive : Bool) → head_at octets ≡ Ok (t, Some size, rest)
    → (size == length rest) ≡ whole → t.constructed ≡ constructed → are_primitive rest ≡ primitive
    → (if whole then (if constructed then (if primitive then Some t else None) else Some t) else None) ≡ some_tag tag
    → value_at (suc (suc levels)) 0 octets ≡ read tag []
unfolding value_at are_primitive
flat_read levels octets tag t size rest false constructed primitive head ends form are is = absurd cc
flat_read levels octets tag t size rest true true false head ends form are is = absurd cc
flat_read levels octets tag t size rest true false primitive head ends form are is =
    let same : t ≡ tag = cc in
    let size_is = eqb-true size (length rest) ends in
    rw (head, size_is) (ap (λ (b : Bool). contents_at (value_at (suc levels)) 0 (0 + (length octets - length rest)) b
    (Some (length rest)) rest >>= λ behind. read t behind) form
    ∙ rw (le-ltb (length rest) (length rest) (omega arith), drop_all (length rest) rest (omega arith))
    (ap (λ (x : Tag). read x []) same))
flat_read levels octets tag t size rest true true true head ends form are is =
    let same : t ≡ tag = cc in
    let size_is = eqb-true size (length rest) ends in
    rw (head, size_is) (ap (λ (b : Bool). contents_at (value_at (suc levels)) 0 (0 + (length octets - length rest)) b
    (Some (length rest)) rest >>= λ behind. read t behind) form
    ∙ rw (
      le-ltb (length rest) (length rest) (omega arith),
      take_all (length rest) rest (omega arith),
      all_read levels (suc (length rest)) (0 + (length octets - length rest)) rest are,
      drop_all (length rest) rest (omega arith),
    ) (ap (λ (x : Tag). read x []) same))

flat_head : (octets : List ℕ) (tag : Tag) (h : Result (Tag × Option ℕ × List ℕ) BerKind) → head_at octets ≡ h →
    flat_value h ≡ some_tag tag → checked octets ≡ ok tag
unfolding checked
flat_head octets tag (Err kind) head is = absurd cc
flat_head octets tag (Ok (t, None, rest)) head is = absurd cc
flat_head octets tag (Ok (t, Some size, rest)) head is =
    rw (flat_read 30 octets tag t size rest (size == length rest) t.constructed (are_primitive rest) head refl refl
    refl is) refl

pub flat_walks : (octets : List ℕ) (tag : Tag) → IsOctets octets → flat octets ≡ Some tag → Walks octets (Ok tag)
unfolding flat
flat_walks octets tag small is = subst (Walks octets) (flat_head octets tag (head_at octets) refl is)
    (walks_checked octets small)

-- ---- the loop of `are_primitive`

-- what so many tell of the octets that are left
pub record Tells (octets : List ℕ) (told : Bool) : Type 0 where
  pub count : ℕ
  pub enough : length octets < count
  pub tells : fewer_primitive count octets ≡ told

tells_behind : (count : ℕ) (octets rest : List ℕ) (told : Bool) → behind_primitive octets ≡ Some rest → 0 < length octets → from_here (fewer_primitive count) octets ≡ told → fewer_primitive count rest ≡ told
tells_behind count [] rest told is some tells = absurd (omega arith)
tells_behind count (a ∷ octets) rest told is some tells = sym (ap (go_behind (fewer_primitive count)) is) ∙ tells

tells_less : (count : ℕ) (octets rest : List ℕ) (told : Bool) → length octets < count → fewer_primitive count octets ≡ told → behind_primitive octets ≡ Some rest → 0 < length octets → length rest < length octets → Tells rest told
unfolding fewer_primitive
tells_less zero octets rest told enough tells is some shorter = absurd (omega (arith, enough))
tells_less (suc count) octets rest told enough tells is some shorter =
    record { count = count; enough = omega (arith, enough, shorter); tells = tells_behind count octets rest told is some tells }

pub tells_first : (octets : List ℕ) → Tells octets (are_primitive octets)
unfolding are_primitive
tells_first octets = record { count = suc (length octets); enough = omega arith; tells = refl }

some_left : (octets : List ℕ) → (length octets == 0) ≡ false → 0 < length octets
some_left [] left = absurd cc
some_left (a ∷ octets) left = omega arith

pub tells_on : (octets rest : List ℕ) (told : Bool) → Tells octets told → behind_primitive octets ≡ Some rest → (length octets == 0) ≡ false → length rest < length octets → Tells rest told
tells_on octets rest told t is left shorter = tells_less t.count octets rest told t.enough t.tells is (some_left octets left) shorter

off_here : (go : List ℕ → Bool) (octets : List ℕ) → behind_primitive octets ≡ None → 0 < length octets → from_here go octets ≡ false
off_here go [] is some = absurd (omega arith)
off_here go (a ∷ octets) is some = ap (go_behind go) is

off_less : (count : ℕ) (octets : List ℕ) → behind_primitive octets ≡ None → 0 < length octets → fewer_primitive count octets ≡ false
unfolding fewer_primitive
off_less zero octets is some = refl
off_less (suc count) octets is some = off_here (fewer_primitive count) octets is some

pub tells_off : (octets : List ℕ) (told : Bool) → Tells octets told → behind_primitive octets ≡ None → (length octets == 0) ≡ false → false ≡ told
tells_off octets told t is left = sym (off_less t.count octets is (some_left octets left)) ∙ t.tells

out_less : (count : ℕ) (octets : List ℕ) → length octets < count → (length octets == 0) ≡ true → fewer_primitive count octets ≡ true
unfolding fewer_primitive
out_less zero octets enough none = absurd (omega (arith, enough))
out_less (suc count) [] enough none = refl
out_less (suc count) (a ∷ octets) enough none = absurd (omega (arith, eqb-true (length (a ∷ octets)) 0 none))

pub tells_out : (octets : List ℕ) (told : Bool) → Tells octets told → (length octets == 0) ≡ true → true ≡ told
tells_out octets told t none = sym (out_less t.count octets t.enough none) ∙ t.tells
