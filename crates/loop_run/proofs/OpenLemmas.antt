-- Packets that aren't done, found one after the other.
use Rattle.std.proofs.Common.{◌≡◌, ◌∙◌, ℕ, zero, suc, ◌+◌, ◌<◌, ◌≤◌, Bool, true, false, not, if◌then◌else◌, List, [], ◌∷◌, ◌++◌, length, map, get_or, take, Option, None, Some, sym, ap, arith}
use Rattle.loop_run.proofs.Names.{append-nil, filter, is_done, map-append, NodeValue, open_at, open_numbers, open_of, open_packets, PacketId, packets_open, phase_of, range_with_len, slice_get, take_more, UpTo}
use Rattle.std.proofs.lemmas.Grind.{flat_map-append}
use Rattle.loop_audit.specs.Audit.{id_of}
use Rattle.loop_run.specs.declared.ending.Open.{Open}

-- of one node, by number

-- the packets among the first ones of a node
abbrev pub open_upto : NodeValue → ℕ → List PacketId
open_upto node n = packets_open n node

filter_more : (test : ℕ → Bool) (xs : List ℕ) (x : ℕ) (b : Bool) → test x ≡ b
    → filter test (xs ++ x ∷ []) ≡ filter test xs ++ (if b then x ∷ [] else [])
filter_more test [] x true is = cc
filter_more test [] x false is = cc
filter_more test (y ∷ xs) x b is = by_first (test y) (filter_more test xs x b is)
  where
    by_first : (t : Bool) → filter test (xs ++ x ∷ []) ≡ filter test xs ++ (if b then x ∷ [] else [])
        → (if t then y ∷ filter test (xs ++ x ∷ []) else filter test (xs ++ x ∷ []))
        ≡ (if t then y ∷ filter test xs else filter test xs) ++ (if b then x ∷ [] else [])
    by_first true rest = cc
    by_first false rest = rest

range_more : (a n k : ℕ) → k ≡ a + n → range_with_len a (suc n) ≡ range_with_len a n ++ k ∷ []
range_more a zero k e = ap (λ m. m ∷ []) (omega arith)
range_more a (suc n) k e = cc (range_more (a + 1) n k (omega arith))

module _ (node : NodeValue) (n : ℕ) where
  abbrev is_open : ℕ → Bool
  is_open number = not (is_done (phase_of node number))

  numbers_more : {b : _} → is_open (n + 1) ≡ b
      → open_numbers (suc n) node ≡ open_numbers n node ++ (if b then (n + 1) ∷ [] else [])
  numbers_more {b} is = cc (range_more 1 n (n + 1) (omega arith), filter_more is_open (range_with_len 1 n) _ b is)

  -- the next one is open, or isn't
  pub upto_open : is_open (n + 1) ≡ true
      → open_upto node (suc n) ≡ open_upto node n ++ record { node = id_of node; number = n + 1 } ∷ []
  upto_open is = ap (map (λ number. record { node = id_of node; number = number })) (numbers_more is)
      ∙ map-append (λ number. record { node = id_of node; number = number }) (open_numbers n node) ((n + 1) ∷ [])

  pub upto_done : is_open (n + 1) ≡ false → open_upto node (suc n) ≡ open_upto node n
  upto_done is = cc (numbers_more is, append-nil (open_numbers n node))

-- of all

pub open_any : (all : List PacketId) (one : Open) → Some one ≡ open_of all
    → (slice_get all 0 ≡ Some one.first) × (one.count ≡ length all)
open_any [] one e = cc
open_any (p ∷ all) one e = (
  cc,
  cc,
)
  where
    first_or : Option Open → Option PacketId
    first_or None = None
    first_or (Some o) = Some o.first

    count_or : Option Open → ℕ
    count_or None = 0
    count_or (Some o) = o.count

-- with the next number
pub upto_more : (node : NodeValue) (n : ℕ) → open_upto node (n + 1) ≡ open_upto node n ++ open_at node (n + 1)
upto_more node n = grind (arith, append-nil, upto_done, upto_open)

-- with the next node
pub nodes_more : (packets : ℕ) (nodes : List NodeValue) (k : ℕ) (node : NodeValue) → k < length nodes
    → node ≡ get_or nodes k node
    → open_packets packets (take (k + 1) nodes) ≡ open_packets packets (take k nodes) ++ packets_open packets node
nodes_more packets nodes k node less is =
    ap (open_packets packets) (take_more nodes k node less ∙ ap (λ n. take k nodes ++ n ∷ []) (sym is))
    ∙ flat_map-append (packets_open packets) (take k nodes) (node ∷ [])
    ∙ ap (λ l. open_packets packets (take k nodes) ++ l) (append-nil (packets_open packets node))

pub up_to_more : (n m : ℕ) (found : Option Open) → n ≤ m → UpTo n found → UpTo m found
up_to_more n m found le up = grind arith
