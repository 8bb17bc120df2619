-- Lemmas on samples: lists that grow by one number at their end.
use Rattle.std.proofs.Common.{◌≡◌, ℕ, zero, suc, ◌+◌, ◌*◌, ◌%◌, ◌≤◌, Bool, if◌then◌else◌, Option, List, [], ◌∷◌, ◌++◌, map, filter, refl, ap, sym, ◌∙◌, arith, append_assoc}
use Rattle.world_script.proofs.Names.{after_words, block, blocks, Extent, flat_map, flat_map_more, Lcg, le-ltb, Line, map-append, map_push, opening, range_with_len, sample_of, seeded, stopped_during, stormy, times, wild_round, word, words_of_block}
use Rattle.std.proofs.lemmas.List.Elements.{filter-append}
use Rattle.rand_core.specs.Pcg32Seed.{pcg32_seed}
use Rattle.rand_pcg.specs.Pcg.{pcg32, pcg32_of_seed}
use Rattle.world_script.specs.declared.line.Line.TheVariants as line

pub range-snoc : (a n : ℕ) → range_with_len a (suc n) ≡ range_with_len a n ++ (a + n) ∷ []
range-snoc a zero = ap (λ (m : ℕ). m ∷ []) (omega arith)
range-snoc a (suc n) = ap (λ (ms : List ℕ). a ∷ ms) (range-snoc (a + 1) n ∙ ap (λ (m : ℕ). range_with_len (a + 1) n ++ m ∷ []) (omega arith))

-- one more of what is built of the numbers from a on
range_grows : {B : Type 0} (build : List ℕ → List B) (one : ℕ → List B) → ((ns : List ℕ) (x : ℕ) → build (ns ++ x ∷ []) ≡ build ns ++ one x) →
    (a n m : ℕ) (old now new : List B) → m ≡ a + n → now ≡ old ++ build (range_with_len a n) → new ≡ now ++ one m →
    new ≡ old ++ build (range_with_len a (n + 1))
range_grows build one snoc a n m old now new is so_far grown = search (arith, append_assoc, range-snoc)

-- one more round
pub flat_range : {B : Type 0} (f : ℕ → List B) (a n m : ℕ) (old now new : List B) → m ≡ a + n →
    now ≡ old ++ flat_map f (range_with_len a n) → new ≡ now ++ f m → new ≡ old ++ flat_map f (range_with_len a (n + 1))
flat_range f = range_grows (flat_map f) f (λ ns x. sym (flat_map_more f [] ns x))

-- one more line
pub map_range : {B : Type 0} (f : ℕ → B) (a n m : ℕ) (old now new : List B) → m ≡ a + n →
    now ≡ old ++ map f (range_with_len a n) → new ≡ now ++ f m ∷ [] → new ≡ old ++ map f (range_with_len a (n + 1))
map_range f = range_grows (map f) (λ m. f m ∷ []) (map_push f)

-- where the number passes or doesn't
filter_one : {B : Type 0} (f : ℕ → B) (p : ℕ → Bool) (x : ℕ) → map f (filter p (x ∷ [])) ≡ (if p x then f x ∷ [] else [])
filter_one f p x = search arith

pub filter_range : {B : Type 0} (f : ℕ → B) (p : ℕ → Bool) (a n m : ℕ) (old now new : List B) → m ≡ a + n →
    now ≡ old ++ map f (filter p (range_with_len a n)) → new ≡ now ++ (if p m then f m ∷ [] else []) →
    new ≡ old ++ map f (filter p (range_with_len a (n + 1)))
filter_range f p = range_grows (λ ns. map f (filter p ns)) (λ m. if p m then f m ∷ [] else []) (λ ns x. ap (map f) (filter-append p ns (x ∷ []))
    ∙ map-append f (filter p ns) (filter p (x ∷ [])) ∙ ap (λ xs. map f (filter p ns) ++ xs) (filter_one f p x))

-- Words.

-- one more word is drawn
pub word_drawn : (g before after : Lcg) (n drawn : ℕ) → before ≡ after_words n g → (drawn, after) ≡ pcg32 before →
    (drawn ≡ word g n) × (after ≡ after_words (n + 1) g)
unfolding word after_words
word_drawn g before after n drawn so_far e = search arith

-- the words of two parts, one after the other
pub words_append : (m n : ℕ) (g : Lcg) → after_words n (after_words m g) ≡ after_words (m + n) g
unfolding after_words
words_append m zero g = let same : m ≡ m + 0 = omega arith in ap (λ (k : ℕ). after_words k g) same
words_append m (suc n) g =
    let same : suc (m + n) ≡ m + suc n = omega arith in
    ap (λ (h : Lcg). (pcg32 h).1) (words_append m n g) ∙ ap (λ (k : ℕ). after_words k g) same

-- the first word is drawn
pub first_drawn : (g after : Lcg) (drawn : ℕ) → (drawn, after) ≡ pcg32 g → (drawn ≡ word g 0) × (after ≡ after_words 1 g)
unfolding word after_words
first_drawn g after drawn e = (ap (λ (p : ℕ × Lcg). p.0) e, ap (λ (p : ℕ × Lcg). p.1) e)

pub no_words : (g : Lcg) → g ≡ after_words 0 g
unfolding after_words
no_words g = refl

pub begins : (e : Extent) (g : Lcg) → g ≡ after_words (words_of_block e * 0) g
begins e g = let none : 0 ≡ words_of_block e * 0 = omega arith in no_words g ∙ ap (λ (m : ℕ). after_words m g) none

-- one more wild round
pub wild_step : (e : Extent) (stopped : Option ℕ) (g before middle after : Lcg) (n first second : ℕ) (old now new : List Line) →
    before ≡ after_words (2 * n) g → (first, middle) ≡ pcg32 before → (second, after) ≡ pcg32 middle →
    now ≡ old ++ flat_map (λ n. wild_round e stopped (word g (2 * n)) (word g (2 * n + 1))) (range_with_len 0 n) →
    new ≡ now ++ wild_round e stopped first second →
    (new ≡ old ++ flat_map (λ n. wild_round e stopped (word g (2 * n)) (word g (2 * n + 1))) (range_with_len 0 (n + 1)))
    × (after ≡ after_words (2 * (n + 1)) g)
wild_step e stopped g before middle after n first second old now new so_far one two lines grown =
    let a = word_drawn g before middle (2 * n) first so_far one in
    let b = word_drawn g middle after (2 * n + 1) second a.1 two in
    let same : 2 * n + 1 + 1 ≡ 2 * (n + 1) = omega arith in
    let round : new ≡ now ++ wild_round e stopped (word g (2 * n)) (word g (2 * n + 1)) =
    grown ∙ (λ i. now ++ wild_round e stopped (a.0 i) (b.0 i)) in (
      flat_range (λ n. wild_round e stopped (word g (2 * n)) (word g (2 * n + 1))) 0 n n old now new (omega arith) lines round,
      b.1 ∙ ap (λ (m : ℕ). after_words m g) same,
    )

-- one more block
pub block_step : (e : Extent) (g before after : Lcg) (n : ℕ) (old now new : List Line) →
    before ≡ after_words (words_of_block e * n) g → after ≡ after_words (words_of_block e) before →
    now ≡ old ++ flat_map (λ n. block e n (after_words (words_of_block e * n) g)) (range_with_len 0 n) →
    new ≡ now ++ block e n before →
    (new ≡ old ++ flat_map (λ n. block e n (after_words (words_of_block e * n) g)) (range_with_len 0 (n + 1)))
    × (after ≡ after_words (words_of_block e * (n + 1)) g)
block_step e g before after n old now new so_far drawn lines grown = search (arith, flat_range, words_append)

pub stormy_stopped : (e : Extent) (g after : Lcg) (drawn : ℕ) (old new : List Line) → 2 ≤ e.gateways → (drawn, after) ≡ pcg32 g →
    new ≡ old ++ stopped_during e (1 + drawn % e.gateways) after → new ≡ old ++ stormy e g
unfolding stormy
stormy_stopped e g after drawn old new h drawing grown =
    let d = first_drawn g after drawn drawing in
    rw (le-ltb e.gateways 2 h) (grown ∙ (λ i. old ++ stopped_during e (1 + d.0 i % e.gateways) (d.1 i)))

pub stormy_words : (e : Extent) (g middle after : Lcg) (drawn : ℕ) → 2 ≤ e.gateways → (drawn, middle) ≡ pcg32 g →
    after ≡ after_words 12 middle → after ≡ after_words (words_of_block e) g
stormy_words e g middle after drawn h drawing later =
    rw (le-ltb e.gateways 2 h) (later ∙ ap (λ (s : Lcg). after_words 12 s) (first_drawn g middle drawn drawing).1
    ∙ words_append 1 12 g)

-- Part after part.

pub five_parts : {A : Type 0} (l0 l1 l2 l3 l4 l5 a b c d e : List A) → l1 ≡ l0 ++ a → l2 ≡ l1 ++ b → l3 ≡ l2 ++ c → l4 ≡ l3 ++ d → l5 ≡ l4 ++ e →
    l5 ≡ l0 ++ (a ++ b ++ c ++ d ++ e)
five_parts l0 l1 l2 l3 l4 l5 a b c d e p q r s t = rw (t, s, r, q, p) (simp append_assoc)

pub block_parts : (l0 l1 l2 l3 l4 l5 a b c e : List Line) (d : Line) → l1 ≡ l0 ++ a → l2 ≡ l1 ++ b → l3 ≡ l2 ++ c → l4 ≡ l3 ++ d ∷ [] → l5 ≡ l4 ++ e →
    l5 ≡ l0 ++ (a ++ b ++ c ++ d ∷ e)
block_parts l0 l1 l2 l3 l4 l5 a b c e d p q r s t = rw (t, s, r, q, p) (simp append_assoc)

pub sample_parts : (seed : ℕ) (e : Extent) (g : Lcg) (l0 l1 l2 l3 : List Line) → g ≡ pcg32_of_seed (pcg32_seed 16 seed) → l0 ≡ [] →
    l1 ≡ l0 ++ opening e → l2 ≡ l1 ++ times (blocks e) (λ n. block e n (after_words (words_of_block e * n) g)) → l3 ≡ l2 ++ line.End ∷ [] →
    l3 ≡ sample_of seed e
unfolding seeded
sample_parts seed e g l0 l1 l2 l3 start none p q r = rw (r, q, p, none, start) refl
