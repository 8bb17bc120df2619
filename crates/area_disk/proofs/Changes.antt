-- Calls and the changes that they made.
use Rattle.std.proofs.Common.{◌≡◌, ℕ, suc, min, ◌+◌, ◌≤◌, ◌<◌, Bool, true, false, ◌&&◌, nat_lt, nat_le, List, [], ◌∷◌, ◌++◌, length, take, drop, refl, sym, ◌∙◌, ap, subst, inl, inr, arith, length-append, length-drop}
use Rattle.std.proofs.lemmas.List.{length-take-le, take-append-le, drop-append-le, take_all, nil_from_length, get_or_append_left, get_or_push, length_push}
use Rattle.std.proofs.lemmas.Bool.{cases_lt}
use Rattle.std.proofs.lemmas.Bool.Decides.{nat_tests}
use Rattle.area_disk.specs.Disk.{overwritten, last_count}
use Rattle.area_disk.specs.PastLaws.{image_after-push, unsynced_after-push}
use Rattle.area_disk.specs.Past.{Change, Past, IsKept, moment_of, anew, pushed, image_after, unsynced_with, unsynced_after, written_by, changes_of, octets_in, EachWithin, most_calls, most_octets}
use Rattle.area_disk.specs.declared.past.Call.{Call}
use Rattle.area_disk.specs.declared.stretch.Stretch.{Stretch}

pub length-changes_of : (calls : List Call) (octets : List ℕ) → length (changes_of calls octets) ≡ length calls
length-changes_of [] octets = refl
length-changes_of (c ∷ calls) octets = ap suc (length-changes_of calls (drop c.count octets))

pub octets_in-changes_of : (calls : List Call) (octets : List ℕ) → written_by calls ≤ length octets → octets_in (changes_of calls octets) ≡ written_by calls
octets_in-changes_of [] octets le = refl
octets_in-changes_of (c ∷ calls) octets le =
    let taken : length (take c.count octets) ≡ c.count = length-take-le c.count octets (omega (arith, le)) in
    let rest = octets_in-changes_of calls (drop c.count octets) (omega (arith, le, length-drop c.count octets)) in
    omega (arith, taken, rest)

pub written_by-push : (calls : List Call) (c : Call) → written_by (calls ++ c ∷ []) ≡ written_by calls + c.count
written_by-push [] c = omega arith
written_by-push (x ∷ calls) c = omega (arith, written_by-push calls c)

pub changes_of-push : (calls : List Call) (octets new : List ℕ) (at : ℕ) (settles : Bool) → written_by calls ≡ length octets
    → changes_of (calls ++ record { at = at; count = length new; settles = settles } ∷ []) (octets ++ new) ≡ changes_of calls octets ++ record { at = at; octets = new; settles = settles } ∷ []
changes_of-push [] octets new at settles total =
    let none : octets ≡ [] = nil_from_length octets (sym total) in
    let whole : take (length new) (octets ++ new) ≡ new = ap (λ (l : List ℕ). take (length new) (l ++ new)) none ∙ take_all (length new) new (omega arith) in
    let P : List ℕ → Change = λ l. record { at = at; octets = l; settles = settles } in
    ap (λ (l : List ℕ). P l ∷ []) whole
changes_of-push (c ∷ calls) octets new at settles total =
    let within : c.count ≤ length octets = omega (arith, total) in
    let front : take c.count (octets ++ new) ≡ take c.count octets = take-append-le c.count octets new within in
    let back : drop c.count (octets ++ new) ≡ drop c.count octets ++ new = drop-append-le c.count octets new within in
    let rest = changes_of-push calls (drop c.count octets) new at settles (omega (arith, total, length-drop c.count octets)) in
    let last : Call = record { at = at; count = length new; settles = settles } in
    let P : List ℕ → Change = λ l. record { at = c.at; octets = l; settles = c.settles } in
    ap (λ (l : List ℕ). P l ∷ changes_of (calls ++ last ∷ []) (drop c.count (octets ++ new))) front
    ∙ ap (λ (l : List ℕ). P (take c.count octets) ∷ changes_of (calls ++ last ∷ []) l) back
    ∙ ap (λ (l : List Change). P (take c.count octets) ∷ l) rest

pub EachWithin-push : (n : ℕ) (calls : List Call) (c : Call) → EachWithin n calls → c.at + c.count ≤ n → EachWithin n (calls ++ c ∷ [])
EachWithin-push n calls c fit last k d below = elim (cases_lt k (length calls)) [
  | inl front ↦
      subst (λ (t : Call). t.at + t.count ≤ n) (sym (get_or_append_left calls (c ∷ []) d k front)) (fit k d front)
  | inr from ↦
      subst (λ (t : Call). t.at + t.count ≤ n) (sym (get_or_push calls c d k (omega (arith, from, below, length-append calls (c ∷ []))))) last
]

-- the room for one call more, where the calls are few
pub room_few : (calls : List Call) (octets : List ℕ) (changes : List Change) (n count : ℕ) → changes_of calls octets ≡ changes → written_by calls ≡ length octets → n ≡ length octets → length calls < most_calls
    → nat_le (n + count) most_octets ≡ (nat_lt (length changes) most_calls && nat_le (octets_in changes + count) most_octets)
room_few calls octets changes n count is total n_is few =
    let same : octets_in changes ≡ n = ap octets_in (sym is) ∙ octets_in-changes_of calls octets (omega (arith, total)) ∙ total ∙ sym n_is in
    let long : length changes ≡ length calls = ap length (sym is) ∙ length-changes_of calls octets in
    let small : nat_lt (length changes) most_calls ≡ true = grind (arith, nat_tests) in
    ap (λ m. nat_le (m + count) most_octets) (sym same) ∙ ap (λ b. b && nat_le (octets_in changes + count) most_octets) (sym small)

-- where they are many, there is none
pub room_many : (calls : List Call) (octets : List ℕ) (changes : List Change) (m count : ℕ) → changes_of calls octets ≡ changes → m ≡ length calls → most_calls ≤ m
    → nat_lt m most_calls ≡ (nat_lt (length changes) most_calls && nat_le (octets_in changes + count) most_octets)
room_many calls octets changes m count is m_is many =
    let long : length changes ≡ m = ap length (sym is) ∙ length-changes_of calls octets ∙ sym m_is in
    let large : nat_lt m most_calls ≡ false = grind (arith, nat_tests) in
    let large' : nat_lt (length changes) most_calls ≡ false = ap (λ k. nat_lt k most_calls) long ∙ large in
    large ∙ ap (λ b. b && nat_le (octets_in changes + count) most_octets) (sym large')

abbrev pub past_of : ℕ → List ℕ → List Stretch → List Change → Past
past_of first image unsynced changes = record { first = first; image = image; unsynced = unsynced; changes = changes }

pub same_past : (f g : ℕ) (i j : List ℕ) (u v : List Stretch) (c d : List Change) → f ≡ g → i ≡ j → u ≡ v → c ≡ d → past_of f i u c ≡ past_of g j v d
same_past f g i j u v c d f_is i_is u_is c_is = λ k. record { first = f_is k; image = i_is k; unsynced = u_is k; changes = c_is k }

-- so many octets stand in a past
pub octets_total : (calls : List Call) (octets : List ℕ) (changes : List Change) → changes_of calls octets ≡ changes → written_by calls ≡ length octets → octets_in changes ≡ length octets
octets_total calls octets changes is total = ap octets_in (sym is) ∙ octets_in-changes_of calls octets (omega (arith, total)) ∙ total

pub calls_total : (calls : List Call) (octets : List ℕ) (changes : List Change) → changes_of calls octets ≡ changes → length changes ≡ length calls
calls_total calls octets changes is = ap length (sym is) ∙ length-changes_of calls octets

-- there is room after one call more
pub IsKept-push : (n : ℕ) (calls : List Call) (octets new : List ℕ) (at calls_capacity octets_capacity unsynced_capacity calls_later octets_later : ℕ) (settles : Bool)
    → IsKept n calls octets calls_capacity octets_capacity unsynced_capacity → at + length new ≤ n → length calls < most_calls → length octets + length new ≤ most_octets
    → calls_capacity ≤ calls_later → octets_capacity ≤ octets_later
    → IsKept n (calls ++ record { at = at; count = length new; settles = settles } ∷ []) (octets ++ new) calls_later octets_later unsynced_capacity
IsKept-push n calls octets new at calls_capacity octets_capacity unsynced_capacity calls_later octets_later settles kept fits few small calls_grow octets_grow =
    let last : Call = record { at = at; count = length new; settles = settles } in
    let longer : length (octets ++ new) ≡ length octets + length new = length-append octets new in
    let more : length (calls ++ last ∷ []) ≡ length calls + 1 = length_push calls last in
    record {
      total = omega (arith, written_by-push calls last, kept.total, longer);
      fit = EachWithin-push n calls last kept.fit fits;
      few_calls = omega (arith, more, few);
      few_octets = omega (arith, longer, small);
      calls_room = omega (arith, kept.calls_room, calls_grow);
      octets_room = omega (arith, kept.octets_room, octets_grow);
      unsynced_room = kept.unsynced_room;
    }

-- a past that begins anew after one change more
pub passed_is : (c : Change) (p : Past) (first : ℕ) (image : List ℕ) (unsynced : List Stretch) (changes : List Change)
    → first ≡ min (min (p.first + length p.changes) last_count + 1) last_count → image ≡ overwritten (image_after p.changes p.image) c.at c.octets
    → unsynced ≡ unsynced_with c.settles (unsynced_after p.changes p.unsynced) (record { at = c.at; count = length c.octets }) → changes ≡ []
    → past_of first image unsynced changes ≡ anew (pushed c p)
passed_is c p first image unsynced changes first_is image_is unsynced_is changes_is =
    same_past first (moment_of (pushed c p)) image (image_after (p.changes ++ c ∷ []) p.image) unsynced (unsynced_after (p.changes ++ c ∷ []) p.unsynced) changes []
    (omega (arith, first_is, length_push p.changes c)) (image_is ∙ sym (image_after-push p.changes c p.image)) (unsynced_is ∙ sym (unsynced_after-push p.changes c p.unsynced)) changes_is
