-- The script that a number gives: nodes submit packets, messages are lost and repeated, and gateways stop.
use Rattle.std.specs.Prelude.{ℕ, zero, suc, ◌+◌, ◌-◌, ◌*◌, ◌/◌, ◌%◌, min, not, ◌==◌, Bool, false, nat_lt, if◌then◌else◌, List, [], ◌∷◌, ◌++◌, map, filter, Option, Some, None}
use Rattle.std.specs.List.{flat_map, range_with_len}
use Rattle.std.specs.Option.{option_map_or}
use Rattle.rand_core.specs.Pcg32Seed.{pcg32_seed}
use Rattle.rand_pcg.specs.Lcg.{Lcg}
use Rattle.rand_pcg.specs.Pcg.{pcg32, pcg32_of_seed}
use Rattle.world_script.specs.declared.line.Line.{Line}
use Rattle.world_script.specs.declared.line.Line.TheVariants as line
use Rattle.world_script.specs.declared.extent.Extent.{Extent}

-- Words of the generator Pcg32.

-- the generator of a seed
unfoldable pub seeded : ℕ → Lcg
seeded seed = pcg32_of_seed (pcg32_seed 16 seed)

-- the generator after so many words
unfoldable pub after_words : ℕ → Lcg → Lcg
after_words zero g = g
after_words (suc n) g = (pcg32 (after_words n g)).1

-- the n-th word from here on, counted from 0
unfoldable pub word : Lcg → ℕ → ℕ
word g n = (pcg32 (after_words n g)).0

-- Rounds.

-- the numbers of nodes or gateways, from 1
abbrev pub numbers : ℕ → List ℕ
numbers count = range_with_len 1 count

-- so many times, by their numbers from 0
abbrev pub times : ℕ → (ℕ → List Line) → List Line
times count lines = flat_map lines (range_with_len 0 count)

abbrev pub ticks : ℕ → List Line
ticks nodes = map line.Tick (numbers nodes)

-- whether a gateway runs, where this one is stopped
abbrev pub runs : Option ℕ → ℕ → Bool
runs stopped gateway = not (option_map_or (λ g. g == gateway) stopped false)

-- a commit of each gateway that runs
abbrev pub commits : ℕ → Option ℕ → List Line
commits gateways stopped = map line.Commit (filter (runs stopped) (numbers gateways))

-- all messages come
abbrev pub calm_round : Extent → List Line
calm_round e = ticks e.nodes ++ line.Flow ∷ commits e.gateways None ++ line.Flow ∷ []

-- messages come as two words say
abbrev pub wild_round : Extent → Option ℕ → ℕ → ℕ → List Line
wild_round e stopped first second = ticks e.nodes ++ line.Mix first ∷ commits e.gateways stopped ++ line.Mix second ∷ []

-- six wild rounds, with the words from here on
unfoldable pub wild_rounds : Extent → Option ℕ → Lcg → List Line
wild_rounds e stopped g = times 6 (λ n. wild_round e stopped (word g (2 * n)) (word g (2 * n + 1)))

-- Packets, which are counted from 0 in the order of their lines.

-- one BER value: the number of the packet in four octets, and that of the record
abbrev pub record_octets : ℕ → ℕ → List ℕ
record_octets packet n = 0x85 ∷ 5 ∷ packet / 16777216 ∷ packet / 65536 % 256 ∷ packet / 256 % 256 ∷ packet % 256 ∷ n ∷ []

-- a packet has from one record to five, of format 1 and version 0600
abbrev pub submitted : ℕ → ℕ → Line
submitted node packet = line.Submit node 1 0x0600 (map (record_octets packet) (range_with_len 0 (1 + packet % 5)))

-- up to four packets of a node, from this one on
unfoldable pub packets_from : Extent → ℕ → ℕ → List Line
packets_from e node first = map (submitted node) (range_with_len first (min 4 (e.packets - first)))

-- up to four packets of each node, the first of all in the order of the nodes
unfoldable pub packets_of : Extent → ℕ → List Line
packets_of e first = flat_map (λ n. packets_from e (n + 1) (first + 4 * n)) (range_with_len 0 e.nodes)

-- Blocks, which are counted from 0.

-- a gateway is stopped during the wild rounds
abbrev pub stopped_during : Extent → ℕ → Lcg → List Line
stopped_during e gateway g = line.Stop gateway ∷ wild_rounds e (Some gateway) g ++ line.Open gateway ∷ []

-- where there are two gateways or more, the first word says which is stopped
unfoldable pub stormy : Extent → Lcg → List Line
stormy e g =
    if nat_lt e.gateways 2 then wild_rounds e None g else stopped_during e (1 + word g 0 % e.gateways) (after_words 1 g)

-- the words of a block
abbrev pub words_of_block : Extent → ℕ
words_of_block e = if nat_lt e.gateways 2 then 12 else 13

-- the files of each gateway are closed where they are open for long, and written
abbrev pub writes : ℕ → List Line
writes gateways = flat_map (λ gateway. line.Mark gateway ∷ line.Write gateway ∷ []) (numbers gateways)

-- the moment at which a script begins, and how many seconds each block takes
abbrev pub first_moment : ℕ
first_moment = 1700000000

abbrev pub block_time : ℕ
block_time = 60

-- a block, with the words from here on
unfoldable pub block : Extent → ℕ → Lcg → List Line
block e n g =
    packets_of e (4 * e.nodes * n) ++ stormy e g ++ times 12 (λ _. calm_round e)
    ++ line.At (first_moment + block_time * (n + 1)) ∷ writes e.gateways

-- as many as packets are left for
abbrev pub blocks : Extent → ℕ
blocks e = (e.packets + (4 * e.nodes - 1)) / (4 * e.nodes)

-- The script.

unfoldable pub opening : Extent → List Line
opening e = line.Gateways e.gateways ∷ line.Nodes e.nodes ∷ line.At first_moment ∷ times 4 (λ _. calm_round e)

abbrev pub sample_of : ℕ → Extent → List Line
sample_of seed e =
    opening e ++ times (blocks e) (λ n. block e n (after_words (words_of_block e * n) (seeded seed))) ++ line.End ∷ []
