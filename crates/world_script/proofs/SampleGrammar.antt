-- Lemmas on samples: a sample is in the grammar.
use Rattle.std.proofs.Common.{◌≡◌, ℕ, zero, suc, ◌+◌, ◌-◌, ◌*◌, ◌/◌, ◌%◌, ◌^◌, ◌<◌, ◌≤◌, min, nat_lt, Bool, true, false, if◌then◌else◌, List, [], ◌∷◌, ◌++◌, length, map, Option, Some, None, option_and_then, Ok, refl, ap, sym, ◌∙◌, subst, arith, length-append, codes, bit_xor, mod-lt}
use Rattle.world_script.proofs.Names.{after_words, block, block_time, blocks, calm_round, commits, decimal, encode_upper, Extent, first_moment, flat_map-append, is_end_line, IsBytes, Lcg, length-decimal-le, Line, line_text, lines_text, list_any, list_any-append, ltb-false, most_text, opening, or-true, packet_said, packets_from, packets_of, range_with_len, ReadsBack, record_octets, records_of, Replay, runs, sample_of, seeded, stopped_during, stormy, submitted, ticks, times, two_octets, version_of, version_text, wild_round, wild_rounds, word, words_of_block, words_text, writes}
use Rattle.std.proofs.Math.Nat.{div-le_self, mul-div-le}
use Rattle.std.proofs.lemmas.Nat.{or_lt}
use Rattle.rand_pcg.specs.Pcg.{output_xsh_rr}
use Rattle.world_script.specs.declared.keyword.Keyword.TheVariants as keyword
use Rattle.world_script.specs.declared.line.Line.TheVariants as line
use Rattle.world_script.proofs.HexadecimalLemmas.{hex_word, printed_length, printed_octets}
use Rattle.world_script.proofs.PrintedLemmas.{AreSayable, fitting}
use Rattle.world_script.proofs.SampleLines.{IsPlain, Part, at_part, commit_part, done_then_end, flow_part, mark_part, mix_part, one, open_part, part_flat, part_line, part_map, part_most, part_pass, part_then, plain_as, plain_sayable, stop_part, tick_part, write_part}
use Rattle.world_script.proofs.FormLemmas.{packet_again, more_words}
use Rattle.world_script.proofs.SampleTaken.{after_settings}
use Rattle.world_script.proofs.ValueLemmas.{decimal_is_word, printed_between, printed_number}
use Rattle.world_script.proofs.WordLemmas.{AreWords, length_words, span}

-- Rounds.

ticks_part : (n : ℕ) → n ≤ 16 → Part (8 * n) (ticks n)
ticks_part n h = part_map 8 line.Tick 1 n (λ k low high. tick_part k (omega (arith, high, h)))

commits_part : (n : ℕ) (stopped : Option ℕ) → n ≤ 8 → Part 72 (commits n stopped)
commits_part n stopped h =
    part_most (omega (arith, h)) (part_pass 9 line.Commit (runs stopped) 1 n (λ k low high. commit_part k (omega (arith, high, h))))

-- a word has 32 bits
word_small : (g : Lcg) (n : ℕ) → word g n < 10 ^ 10
unfolding word
word_small g n = omega (arith, rotated (after_words n g).state)
  where
    rotated : (state : ℕ) → output_xsh_rr state < 2 ^ 32
    rotated state =
        let half : ℕ = bit_xor (state / 2 ^ 18) state / 2 ^ 27 % 2 ^ 32 in
        let by : ℕ = state / 2 ^ 59 % 32 in
        or_lt 32 (half / 2 ^ by) (half * 2 ^ ((32 - by) % 32) % 2 ^ 32) (omega (arith, div-le_self half (2 ^ by))) (omega arith)

module _ (e : Extent) (hn : e.nodes ≤ 16) (hg : e.gateways ≤ 8) where
  calm_part : Part (8 * e.nodes + 82) (calm_round e)
  calm_part =
      part_most (omega arith) (part_then (part_then (ticks_part e.nodes hn) (part_line flow_part (commits_part e.gateways None hg))) flow_part)

  wild_part : (stopped : Option ℕ) (a b : ℕ) → a < 10 ^ 10 → b < 10 ^ 10 →
      Part (8 * e.nodes + 102) (wild_round e stopped a b)
  wild_part stopped a b ha hb =
      part_most (omega arith)
      (part_then (part_then (ticks_part e.nodes hn) (part_line (mix_part a ha) (commits_part e.gateways stopped hg))) (mix_part b hb))

  wild_rounds_part : (stopped : Option ℕ) (g : Lcg) → Part (48 * e.nodes + 612) (wild_rounds e stopped g)
  unfolding wild_rounds
  wild_rounds_part stopped g =
      part_most (omega arith)
      (part_flat (8 * e.nodes + 102) (λ n. wild_round e stopped (word g (2 * n)) (word g (2 * n + 1))) 0 6
      (λ k low high. wild_part stopped (word g (2 * k)) (word g (2 * k + 1)) (word_small g (2 * k)) (word_small g (2 * k + 1))))

  storm_part : (g : Lcg) (few : Bool) → nat_lt e.gateways 2 ≡ few → Part (48 * e.nodes + 626)
      (if few then wild_rounds e None g else stopped_during e (1 + word g 0 % e.gateways) (after_words 1 g))
  storm_part g true h = part_most (omega arith) (wild_rounds_part None g)
  storm_part g false h =
      let more : 2 ≤ e.gateways = ltb-false e.gateways 2 h in
      let within : word g 0 % e.gateways < e.gateways = mod-lt (word g 0) (omega (arith, more)) in
      let gateway : ℕ = 1 + word g 0 % e.gateways in
      let low : gateway ≤ 8 = omega (arith, within, hg) in
      part_most (omega arith)
      (part_line (stop_part gateway low) (part_then (wild_rounds_part (Some gateway) (after_words 1 g)) (open_part gateway low)))

  stormy_part : (g : Lcg) → Part (48 * e.nodes + 626) (stormy e g)
  unfolding stormy
  stormy_part g = storm_part g (nat_lt e.gateways 2) refl

writes_part : (n : ℕ) → n ≤ 8 → Part 120 (writes n)
writes_part n h =
    part_most (omega (arith, h))
    (part_flat 15 (λ gateway. line.Mark gateway ∷ line.Write gateway ∷ []) 1 n
    (λ k low high. part_line (mark_part k (omega (arith, high, h))) (write_part k (omega (arith, high, h)))))

-- Packets.

record_bytes : (packet n : ℕ) → packet < 2 ^ 32 → n < 256 → IsBytes (record_octets packet n)
record_bytes packet n h k h' = grind arith

record AreRecords (n : ℕ) (records : List (List ℕ)) : Type 0 where
  are : AreWords (map encode_upper records)
  long : span (map encode_upper records) ≡ 15 * n
  again : records_of (map encode_upper records) ≡ Some records

records_plain : (packet a n : ℕ) → packet < 2 ^ 32 → a + n ≤ 256 →
    AreRecords n (map (record_octets packet) (range_with_len a n))
records_plain packet a zero h k = record { are = tt; long = omega arith; again = refl }
records_plain packet a (suc n) h k =
    let later = records_plain packet (a + 1) n h (omega (arith, k)) in
    let octets = record_octets packet a in
    let bytes = record_bytes packet a h (omega (arith, k)) in
    record {
      are = (hex_word octets (omega arith) bytes, later.are);
      long = omega (arith, printed_length octets, later.long);
      again = rw (printed_octets octets bytes, later.again) refl;
    }

version_bytes : IsBytes (6 ∷ 0 ∷ [])
version_bytes h = grind arith

version_back : version_of (version_text 0x0600) ≡ Some 0x0600
version_back = ap (λ (o : Option (List ℕ)). option_and_then two_octets o) (printed_octets (6 ∷ 0 ∷ []) version_bytes)

submit_part : (node packet : ℕ) → node ≤ 16 → packet < 2 ^ 32 → Part 92 (submitted node packet ∷ [])
submit_part node packet h k =
    let count : ℕ = 1 + packet % 5 in
    let few : count ≤ 5 = omega arith in
    let records = map (record_octets packet) (range_with_len 0 count) in
    let rs = records_plain packet 0 count k (omega (arith, few)) in
    let small : node < 2 ^ 64 = omega (arith, h) in
    let words = decimal node ∷ decimal 1 ∷ version_text 0x0600 ∷ map encode_upper records in
    let text : line_text Replay (submitted node packet) ≡ codes "submit" ++ words_text words =
    more_words (codes "submit") (decimal node ∷ decimal 1 ∷ []) (version_text 0x0600 ∷ map encode_upper records) in
    let version = hex_word (6 ∷ 0 ∷ []) (omega arith) version_bytes in
    let all : packet_said (decimal node) (decimal 1) (version_text 0x0600) (map encode_upper records) ≡ Ok (submitted node packet) =
    search (arith, printed_number, version_back) in
    one 92 (submitted node packet)
    (record {
      plain = plain_as keyword.Submit (submitted node packet) words
          (decimal_is_word node small, (decimal_is_word 1 (omega arith), (version, rs.are))) refl text
          (packet_again Replay (decimal node) (decimal 1) (version_text 0x0600) records (map encode_upper records)
          (submitted node packet) (omega (arith, rs.long)) all);
      no_setting = refl;
      no_end = refl;
    })
    (omega (
      arith,
      few,
      rs.long,
      ap length text,
      length-append (codes "submit") (words_text words),
      length_words words,
      printed_length (6 ∷ 0 ∷ []),
      length-decimal-le 2 node (omega arith) (omega (arith, h)) small,
      length-decimal-le 1 1 (omega arith) (omega arith) (omega arith),
    ))

packets_from_part : (e : Extent) (node from : ℕ) → node ≤ 16 → e.packets ≤ 20000 → Part 368 (packets_from e node from)
unfolding packets_from
packets_from_part e node from h k =
    let count : ℕ = min 4 (e.packets - from) in
    part_most (omega arith) (part_map 92 (submitted node) from count (λ p low high. submit_part node p h (omega (arith, low, high, k))))

packets_part : (e : Extent) (from : ℕ) → e.nodes ≤ 16 → e.packets ≤ 20000 → Part (368 * e.nodes) (packets_of e from)
unfolding packets_of
packets_part e from h k =
    part_flat 368 (λ n. packets_from e (n + 1) (from + 4 * n)) 0 e.nodes (λ n low high. packets_from_part e (n + 1) (from + 4 * n) (omega (arith, high, h)) k)

-- Blocks.

block_part : (e : Extent) (n : ℕ) (g : Lcg) → e.nodes ≤ 16 → e.gateways ≤ 8 → e.packets ≤ 20000 → n < 20000 →
    Part (512 * e.nodes + 1744) (block e n g)
unfolding block
block_part e n g hn hg hp h =
    let moment : first_moment + block_time * (n + 1) ≤ 4102444799 = omega (arith, h) in
    part_most (omega arith)
    (part_then (part_then (part_then (packets_part e (4 * e.nodes * n) hn hp) (stormy_part e hn hg g))
    (part_flat (8 * e.nodes + 82) (λ _. calm_round e) 0 12 (λ k low high. calm_part e hn hg)))
    (part_line (at_part (first_moment + block_time * (n + 1)) moment) (writes_part e.gateways hg)))

at_least : (n b : ℕ) → 1 ≤ n → b ≤ n * b
at_least n b h = grind arith

many : (n b p : ℕ) → n ≤ 16 → p ≤ 20000 → 4 * n * b ≤ p + (4 * n - 1) → b ≤ n * b →
    ((512 * n + 1744) * b ≤ 12000000) × (b < 20000)
many n b p hn hp blocks least = search arith

blocks_part : (seed : ℕ) (e : Extent) → 1 ≤ e.nodes → e.nodes ≤ 16 → e.gateways ≤ 8 → e.packets ≤ 20000 →
    Part 12000000 (times (blocks e) (λ n. block e n (after_words (words_of_block e * n) (seeded seed))))
blocks_part seed e some hn hg hp =
    let whole : 4 * e.nodes * blocks e ≤ e.packets + (4 * e.nodes - 1) = mul-div-le (e.packets + (4 * e.nodes - 1)) (4 * e.nodes) in
    let bounds = many e.nodes (blocks e) e.packets hn hp whole (at_least e.nodes (blocks e) some) in
    part_most bounds.0
    (part_flat (512 * e.nodes + 1744) (λ n. block e n (after_words (words_of_block e * n) (seeded seed))) 0 (blocks e)
    (λ k low high. block_part e k (after_words (words_of_block e * k) (seeded seed)) hn hg hp (omega (arith, high, bounds.1))))

-- The settings.

gateways_plain : (n : ℕ) → 1 ≤ n → n ≤ 8 → IsPlain (line.Gateways n)
gateways_plain n low high =
    let small : n < 2 ^ 64 = omega (arith, high) in
    plain_as keyword.Gateways (line.Gateways n) (decimal n ∷ []) (decimal_is_word n small, tt) refl refl
    (λ rules content. rw (printed_between 1 8 n low high small) refl)

nodes_plain : (n : ℕ) → 1 ≤ n → n ≤ 16 → IsPlain (line.Nodes n)
nodes_plain n low high =
    let small : n < 2 ^ 64 = omega (arith, high) in
    plain_as keyword.Nodes (line.Nodes n) (decimal n ∷ []) (decimal_is_word n small, tt) refl refl
    (λ rules content. rw (printed_between 1 16 n low high small) refl)

-- The sample.

after_part : (seed : ℕ) (e : Extent) → 1 ≤ e.nodes → e.nodes ≤ 16 → e.gateways ≤ 8 → e.packets ≤ 20000 →
    Part 12001000 (after_settings seed e)
after_part seed e some hn hg hp =
    part_most (omega (arith, hn))
    (part_then (part_line (at_part first_moment (omega arith)) (part_flat (8 * e.nodes + 82) (λ _. calm_round e) 0 4 (λ k low high. calm_part e hn hg)))
    (blocks_part seed e some hn hg hp))

sample_is : (seed : ℕ) (e : Extent) →
    sample_of seed e ≡ line.Gateways e.gateways ∷ line.Nodes e.nodes ∷ (after_settings seed e ++ line.End ∷ [])
unfolding opening
sample_is seed e = refl

number_long : (first : List ℕ) (n : ℕ) → n ≤ 16 → length (first ++ words_text (decimal n ∷ [])) ≤ length first + 3
number_long first n h =
    omega (
      arith,
      length-append first (words_text (decimal n ∷ [])),
      length_words (decimal n ∷ []),
      length-decimal-le 2 n (omega arith) (omega (arith, h)) (omega (arith, h)),
    )

whole_long : (e : Extent) (lines : List Line) → e.nodes ≤ 16 → e.gateways ≤ 8 →
    length (lines_text Replay lines) ≤ 12001000 →
    length (lines_text Replay (line.Gateways e.gateways ∷ line.Nodes e.nodes ∷ (lines ++ line.End ∷ []))) ≤ most_text
whole_long e lines hn hg short =
    let first = line_text Replay (line.Gateways e.gateways) in
    let second = line_text Replay (line.Nodes e.nodes) in
    let rest = lines_text Replay (lines ++ line.End ∷ []) in
    let last : length rest ≡ length (lines_text Replay lines) + 4 =
    ap length (flat_map-append (λ (said : Line). line_text Replay said ++ 10 ∷ []) lines (line.End ∷ [])) ∙ length-append (lines_text Replay lines) (101 ∷ 110 ∷ 100 ∷ 10 ∷ []) in
    omega (
      arith,
      short,
      last,
      number_long (codes "gateways") e.gateways (omega (arith, hg)),
      number_long (codes "nodes") e.nodes hn,
      length-append (first ++ 10 ∷ []) ((second ++ 10 ∷ []) ++ rest),
      length-append (second ++ 10 ∷ []) rest,
      length-append first (10 ∷ []),
      length-append second (10 ∷ []),
    )

-- a sample is in the grammar
pub sample_reads : (seed : ℕ) (e : Extent) → 1 ≤ e.nodes → e.nodes ≤ 16 → 1 ≤ e.gateways → e.gateways ≤ 8 →
    e.packets ≤ 20000 → ReadsBack Replay (sample_of seed e)
unfolding gateways_plain nodes_plain
sample_reads seed e some hn more hg hp =
    let part = after_part seed e some hn hg hp in
    let lines = after_settings seed e in
    let gateways = gateways_plain e.gateways more hg in
    let nodes = nodes_plain e.nodes some hn in
    let ends = list_any-append is_end_line lines (line.End ∷ []) ∙ or-true (list_any is_end_line lines) in
    let are : AreSayable Replay [] (line.Gateways e.gateways ∷ line.Nodes e.nodes ∷ (lines ++ line.End ∷ [])) = (
      plain_sayable [] (line.Gateways e.gateways) gateways refl refl,
      (
        plain_sayable (line.Gateways e.gateways ∷ []) (line.Nodes e.nodes) nodes refl refl,
        done_then_end (line.Gateways e.gateways ∷ line.Nodes e.nodes ∷ []) lines part.done refl,
      ),
    ) in
    subst (λ (ls : List Line). ReadsBack Replay ls) (sym (sample_is seed e))
    (fitting Replay (line.Gateways e.gateways ∷ line.Nodes e.nodes ∷ (lines ++ line.End ∷ [])) are ends (whole_long e lines hn hg part.short))
