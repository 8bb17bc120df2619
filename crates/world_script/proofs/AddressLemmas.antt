-- Lemmas on addresses, offsets and modes: what a word says is printed as a word that says it, and that is as long.
use Rattle.std.proofs.Common.{◌≡◌, ℕ, ◌+◌, ◌*◌, ◌/◌, ◌%◌, ◌^◌, ◌<◌, ◌≤◌, Bool, true, ◌==◌, if◌then◌else◌, List, [], ◌∷◌, ◌++◌, length, Option, Some, None, option_map, refl, ap, sym, ◌∙◌, subst, arith, append_assoc, length-append, le-leb, ℤ, pos, neg_ℤ, codes, inl, inr}
use Rattle.world_script.proofs.Names.{Addr, address_of, address_text, bytes_eq, bytes_eq-Decides, cut_at, decimal, eqb-true, hours_text, ip_of, is_ascii_digit, leb-true, Mode, mode_of, mode_text, nat_tests, number_up_to, offset_of, offset_text, pair_text, same_Some, signed, two_digits}
use Rattle.world_script.specs.declared.mode.Mode.TheVariants as mode
use Rattle.world_script.proofs.ValueLemmas.{decimal_is_word, number_printed, then_some, where_some, if_cases}
use Rattle.world_script.proofs.WordLemmas.{AllGlyphs, IsWord}

-- Parts of a word.

-- the separator comes first
abbrev at_once : List ℕ → Option (List ℕ × List ℕ)
at_once xs = Some ([], xs)

cut_case : (separator x : ℕ) (xs a b : List ℕ) (found : Bool) (parts : Option (List ℕ × List ℕ)) →
    (x == separator) ≡ found →
    ((c d : List ℕ) → parts ≡ Some (c, d) → xs ≡ c ++ separator ∷ d) →
    (if found then at_once xs else option_map (λ (p : List ℕ × List ℕ). (x ∷ p.0, p.1)) parts) ≡ Some (a, b) →
    x ∷ xs ≡ a ++ separator ∷ b
cut_case separator x xs a b found parts e later h = grind (arith, nat_tests, same_Some, eqb-true)

pub cut_joined : (separator : ℕ) (xs a b : List ℕ) → cut_at separator xs ≡ Some (a, b) → xs ≡ a ++ separator ∷ b
cut_joined separator [] a b h = cc
cut_joined separator (x ∷ xs) a b h =
    cut_case separator x xs a b (x == separator) (cut_at separator xs) refl (λ c d e. cut_joined separator xs c d e) h

-- Addresses.

four_numbers : (ip a b c d : ℕ) → 16777216 * a + 65536 * b + 256 * c + d ≡ ip → a ≤ 255 → b ≤ 255 → c ≤ 255 → d ≤ 255 →
    (ip / 16777216 ≡ a) × (ip / 65536 % 256 ≡ b) × (ip / 256 % 256 ≡ c) × (ip % 256 ≡ d)
four_numbers ip a b c d e ha hb hc hd = omega arith

-- the four numbers with a dot between two
abbrev ip_text : ℕ → List ℕ
ip_text ip = pair_text (ip / 16777216) (ip / 65536 % 256) ++ 46 ∷ pair_text (ip / 256 % 256) (ip % 256)

ip_joined : (ip a b c d : ℕ) → (ip / 16777216 ≡ a) × (ip / 65536 % 256 ≡ b) × (ip / 256 % 256 ≡ c) × (ip % 256 ≡ d) →
    decimal a ++ 46 ∷ (decimal b ++ 46 ∷ (decimal c ++ 46 ∷ decimal d)) ≡ ip_text ip
ip_joined ip a b c d h = search (arith, append_assoc)

ip_printed : (text : List ℕ) (ip : ℕ) → ip_of text ≡ Some ip → (text ≡ ip_text ip) × (ip < 2 ^ 32)
ip_printed text ip h =
    let p = then_some (cut_at 46 text) _ ip h in
    let q = then_some (cut_at 46 p.0.1) _ ip p.2 in
    let r = then_some (cut_at 46 q.0.1) _ ip q.2 in
    let a = then_some (number_up_to 255 p.0.0) _ ip r.2 in
    let b = then_some (number_up_to 255 q.0.0) _ ip a.2 in
    let c = then_some (number_up_to 255 r.0.0) _ ip b.2 in
    let d = then_some (number_up_to 255 r.0.1) _ ip c.2 in
    let na = number_printed 255 p.0.0 a.0 (omega arith) a.1 in
    let nb = number_printed 255 q.0.0 b.0 (omega arith) b.1 in
    let nc = number_printed 255 r.0.0 c.0 (omega arith) c.1 in
    let nd = number_printed 255 r.0.1 d.0 (omega arith) d.1 in
    let sum : 16777216 * a.0 + 65536 * b.0 + 256 * c.0 + d.0 ≡ ip = same_Some _ ip d.2 in (
      cut_joined 46 text p.0.0 p.0.1 p.1 ∙ ap (λ (l : List ℕ). p.0.0 ++ 46 ∷ l) (cut_joined 46 p.0.1 q.0.0 q.0.1 q.1)
          ∙ ap (λ (l : List ℕ). p.0.0 ++ 46 ∷ (q.0.0 ++ 46 ∷ l)) (cut_joined 46 q.0.1 r.0.0 r.0.1 r.1)
          ∙ (λ i. na.1 i ++ 46 ∷ (nb.1 i ++ 46 ∷ (nc.1 i ++ 46 ∷ nd.1 i)))
          ∙ ip_joined ip a.0 b.0 c.0 d.0 (four_numbers ip a.0 b.0 c.0 d.0 sum na.0 nb.0 nc.0 nd.0),
      omega (arith, sum, na.0, nb.0, nc.0, nd.0),
    )

address_joined : (ip port : ℕ) → ip_text ip ++ 58 ∷ decimal port ≡ address_text (record { ip = ip; port = port })
address_joined ip port = simp append_assoc refl

address_parts : (word : List ℕ) (a : Addr) → address_of word ≡ Some a
    → (word ≡ ip_text a.ip ++ 58 ∷ decimal a.port) × (a.ip < 2 ^ 32) × (a.port ≤ 65535)
address_parts word a h =
    let p = then_some (cut_at 58 word) _ a h in
    let ip = then_some (ip_of p.0.0) _ a p.2 in
    let port = then_some (number_up_to 65535 p.0.1) _ a ip.2 in
    let host = ip_printed p.0.0 ip.0 ip.1 in
    let said = number_printed 65535 p.0.1 port.0 (omega arith) port.1 in
    rw (sym (same_Some _ a port.2))
    (cut_joined 58 word p.0.0 p.0.1 p.1 ∙ (λ i. host.0 i ++ 58 ∷ said.1 i), host.1, said.0)

pub address_printed : (word : List ℕ) (a : Addr) → address_of word ≡ Some a → word ≡ address_text a
address_printed word a h = (address_parts word a h).0 ∙ address_joined a.ip a.port

-- They are words.

joined_glyphs : (a b : List ℕ) (x : ℕ) → AllGlyphs a → 32 < x → x ≤ 126 → AllGlyphs b → AllGlyphs (a ++ x ∷ b)
joined_glyphs [] b x ha low high hb = (low, high, hb)
joined_glyphs (y ∷ ys) b x ha low high hb = (ha.0, ha.1, joined_glyphs ys b x ha.2 low high hb)

pair_glyphs : (a b : ℕ) → a < 2 ^ 64 → b < 2 ^ 64 → AllGlyphs (pair_text a b)
pair_glyphs a b h k =
    joined_glyphs (decimal a) (decimal b) 46 (decimal_is_word a h).1 (omega arith) (omega arith) (decimal_is_word b k).1

pub address_word : (word : List ℕ) (a : Addr) → address_of word ≡ Some a → IsWord word
address_word word a h =
    let is = address_parts word a h in
    let first = pair_glyphs (a.ip / 16777216) (a.ip / 65536 % 256) (omega (arith, is.1)) (omega arith) in
    let last = pair_glyphs (a.ip / 256 % 256) (a.ip % 256) (omega arith) (omega arith) in
    let ip = joined_glyphs (pair_text (a.ip / 16777216) (a.ip / 65536 % 256)) (pair_text (a.ip / 256 % 256) (a.ip % 256)) 46
    first (omega arith) (omega arith) last in
    let port = (decimal_is_word a.port (omega (arith, is.2))).1 in
    subst IsWord (sym is.0) (
      omega (arith, length-append (ip_text a.ip) (58 ∷ decimal a.port)),
      joined_glyphs (ip_text a.ip) (decimal a.port) 58 ip (omega arith) (omega arith) port,
    )

-- Offsets.

is_digit : (n : ℕ) → n < 10 → is_ascii_digit (48 + n) ≡ true
is_digit n h = grind (arith, h)

digits_read : (most n : ℕ) → n ≤ most → most < 100 → two_digits most (48 + n / 10) (48 + n % 10) ≡ Some n
digits_read most n h small = search (arith, nat_tests, le-leb, is_digit)

hours_read : (sign minutes : ℕ) → minutes ≤ 959 → offset_of (sign ∷ hours_text minutes) ≡ signed sign minutes
hours_read sign minutes h = search (arith, digits_read)

digits_within : (most tens ones n : ℕ) → two_digits most tens ones ≡ Some n → n ≤ most
digits_within most tens ones n h = search (arith, nat_tests, where_some, same_Some, leb-true)

pub record IsOffset (word : List ℕ) (z : ℤ) : Type 0 where
  pub is : IsWord (offset_text z)
  pub long : length (offset_text z) ≡ length word
  pub again : offset_of (offset_text z) ≡ Some z

hours_glyphs : (minutes : ℕ) → minutes ≤ 959 → AllGlyphs (hours_text minutes)
hours_glyphs minutes h = search arith

plus : (word : List ℕ) (n : ℕ) → length word ≡ 6 → n ≤ 959 → IsOffset word (pos n)
plus word n six h = search (arith, hours_glyphs, hours_read)

minus : (word : List ℕ) (n : ℕ) → length word ≡ 6 → n ≤ 959 → IsOffset word (neg_ℤ (pos n))
minus word n six h = grind (arith, plus, hours_glyphs, hours_read)

pub offset_printed : (word : List ℕ) (z : ℤ) → offset_of word ≡ Some z → IsOffset word z
offset_printed (s ∷ a ∷ b ∷ colon ∷ c ∷ d ∷ []) z h =
    let word : List ℕ = s ∷ a ∷ b ∷ colon ∷ c ∷ d ∷ [] in
    let p = where_some (colon == 58) _ z h in
    let hours = then_some (two_digits 15 a b) _ z p.1 in
    let minutes = then_some (two_digits 59 c d) _ z hours.2 in
    let n : ℕ = hours.0 * 60 + minutes.0 in
    let small : n ≤ 959 = omega (arith, digits_within 15 a b hours.0 hours.1, digits_within 59 c d minutes.0 minutes.1) in
    elim (if_cases (s == 43) (Some (pos n)) _ (Some z) minutes.2) [
      | inl q ↦ rw (sym (same_Some (pos n) z q.1)) (plus word n refl small)
      | inr q ↦
          let r = where_some (s == 45) (Some (neg_ℤ (pos n))) z q.1 in
          rw (sym (same_Some (neg_ℤ (pos n)) z r.1)) (minus word n refl small)
    ]
offset_printed _ z h = absurd (cc)

-- Modes.

pub same_bytes : (a b : List ℕ) → bytes_eq a b ≡ true → a ≡ b
same_bytes a b h = (bytes_eq-Decides a b).0 h

mode_case : (word : List ℕ) (m : Mode) (old new rot : Bool) → bytes_eq word (codes "old") ≡ old →
    bytes_eq word (codes "new") ≡ new → bytes_eq word (codes "rot") ≡ rot →
    (if old then Some mode.Old else if new then Some mode.New else if rot then Some mode.Rot else None) ≡ Some m →
    word ≡ mode_text m
mode_case word m old new rot e f g h = grind (arith, same_bytes, same_Some)

pub mode_printed : (word : List ℕ) (m : Mode) → mode_of word ≡ Some m → word ≡ mode_text m
mode_printed word m h = search (arith, mode_case)
