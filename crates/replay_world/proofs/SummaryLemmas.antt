-- Sums of what gateways and nodes count.
use Rattle.std.proofs.Common.{◌≡◌, ◌∙◌, refl, ap, ℕ, zero, suc, ◌+◌, ◌-◌, ◌*◌, ◌<◌, ◌^◌, List, [], ◌∷◌, ◌++◌, take, sum_by, Option, Some, None, slice_get, arith, sym, ◌%◌, ◌≤◌, length, set, append_assoc, append-nil, length-set}
use Rattle.replay_world.proofs.Names.{AreGatewaySums, AreNodeSums, counts_at, counts_of, enumerate_from, filed_of, flat_map, flat_map-append, Gateway, gateway_lines, gateway_sums, gateway_text, held_of, LogEntry, MachineStands, node_line, node_sums, node_text, node_value, option_map_or, range_with_len, Replay, ReplayValue, report_of, Stands, stranded_of, sum_by-append, sum_by-cons, TalliesIf}
use Rattle.node_core.specs.declared.counts.NodeCounts.{NodeCounts}
use Rattle.gateway_book.specs.declared.outcome.GatewayCounts.{GatewayCounts}
use Rattle.replay_world.specs.declared.summary.GatewaySums.{GatewaySums}
use Rattle.replay_world.specs.declared.summary.NodeSums.{NodeSums}
use Rattle.replay_world.proofs.NodeEventLemmas.{set_same}
use Rattle.replay_world.proofs.StandsLemmas.{each_set}

-- The first elements of a list, and the next one.

take_next : {A : Type 0} (xs : List A) (k : ℕ) (x : A) → slice_get xs k ≡ Some x → take (suc k) xs ≡ take k xs ++ x ∷ []
take_next [] k x is = cc
take_next (y ∷ xs) zero x is = let same : y ≡ x = cc in cc
take_next (y ∷ xs) (suc k) x is = cc (take_next xs k x is)

sum_next : {A : Type 0} (f : A → ℕ) (xs : List A) (k : ℕ) {x : _} → slice_get xs k ≡ Some x →
    sum_by f (take k xs) + f x ≡ sum_by f (take (suc k) xs)
sum_next f xs k {x} is =
    let one : f x ≡ sum_by f (x ∷ []) = omega (arith, sum_by-cons f x []) in
    cc (sum_by-append f (take k xs) (x ∷ []), take_next xs k x is)

-- Gateways.
module _ (gs : List Gateway) (k : ℕ) (tally : GatewayCounts) (sums more : GatewaySums) where
  pub sums_next : TalliesIf (slice_get gs k) tally →
      sums ≡ gateway_sums (take k gs) →
      more ≡ record {
        records = sums.records + tally.records;
        held = sums.held + tally.held;
        stranded = sums.stranded + tally.stranded;
      } → more ≡ gateway_sums (take (k + 1) gs)
  sums_next tallied so_far added = by (slice_get gs k) refl tallied
    where
      by : (o : Option Gateway) → slice_get gs k ≡ o → TalliesIf o tally →
          more ≡ gateway_sums (take (k + 1) gs)
      by None is told = absurd told
      by (Some g) is told =
          let next : suc k ≡ k + 1 = omega arith in
          let records : sums.records + tally.records ≡ sum_by filed_of (take (suc k) gs) =
          cc (told, sum_next filed_of gs k is) in
          let held : sums.held + tally.held ≡ sum_by held_of (take (suc k) gs) =
          cc (told, sum_next held_of gs k is) in
          let stranded : sums.stranded + tally.stranded ≡ sum_by stranded_of (take (suc k) gs) =
          cc (told, sum_next stranded_of gs k is) in
          added ∙ (λ i. record { records = records i; held = held i; stranded = stranded i })
          ∙ ap (λ n. gateway_sums (take n gs)) next

-- The sums of k gateways are no more than k times what a number of 64 bits may be.
pub gateways_few : (k : ℕ) {sums : _} → AreGatewaySums (k * 18446744073709551615 + 18446744073709551615) sums →
    AreGatewaySums ((k + 1) * 18446744073709551615) sums
gateways_few k few = record { records = omega arith; held = omega arith; stranded = omega arith }

pub gateways_more : (k : ℕ) {sums : _} → k < 2 ^ 64 - 1 → AreGatewaySums (k * 18446744073709551615) sums →
    AreGatewaySums (2 ^ 128 - 2 ^ 64) sums
gateways_more k small few = record { records = omega arith; held = omega arith; stranded = omega arith }

-- Nodes.

pub nodes_few : (k : ℕ) {sums : _} → AreNodeSums (k * 18446744073709551615 + 18446744073709551615) sums →
    AreNodeSums ((k + 1) * 18446744073709551615) sums
nodes_few k few = record { packets = omega arith; resolved = omega arith; done = omega arith }

pub nodes_more : (k : ℕ) {sums : _} → k < 2 ^ 64 - 1 → AreNodeSums (k * 18446744073709551615) sums →
    AreNodeSums (2 ^ 128 - 2 ^ 64) sums
nodes_more k small few = record { packets = omega arith; resolved = omega arith; done = omega arith }

-- the k-th of a list with its place
numbered : {A : Type 0} (a : ℕ) (xs : List A) (k : ℕ) (x : A) → slice_get xs k ≡ Some x →
    slice_get (enumerate_from a xs) k ≡ Some (a + k, x)
numbered a [] k x is = cc
numbered a (y ∷ xs) zero x is =
    let same : y ≡ x = cc in
    let here : a ≡ a + 0 = omega arith in
    cc
numbered a (y ∷ xs) (suc k) x is =
    let next : a + 1 + k ≡ a + suc k = omega arith in
    cc (numbered (a + 1) xs k x is)

module _ (gateways : ℕ) (logs : List (List LogEntry)) (k : ℕ) (log : List LogEntry) (counts : NodeCounts)
    (sums more : NodeSums) where
  abbrev all : List (ℕ × List LogEntry)
  all = enumerate_from 0 logs

  here : slice_get logs k ≡ Some log → slice_get all k ≡ Some (k, log)
  here is = let same : 0 + k ≡ k = omega arith in cc (numbered 0 _ k log is)

  pub nodes_next : slice_get logs k ≡ Some log → counts ≡ counts_of (node_value gateways k log) →
      sums ≡ node_sums gateways (take k all) →
      more ≡ record {
        packets = sums.packets + counts.packets;
        resolved = sums.resolved + counts.resolved;
        done = sums.done + counts.done;
      } → more ≡ node_sums gateways (take (k + 1) all)
  nodes_next is counted so_far added =
      let next : suc k ≡ k + 1 = omega arith in
      let packets : sums.packets + counts.packets ≡ sum_by (λ n. (counts_at gateways n).packets) (take (suc k) all) =
      cc (sum_next (λ n. (counts_at gateways n).packets) all k (here is)) in
      let resolved : sums.resolved + counts.resolved
      ≡ sum_by (λ n. (counts_at gateways n).resolved) (take (suc k) all) =
      cc (sum_next (λ n. (counts_at gateways n).resolved) all k (here is)) in
      let done : sums.done + counts.done ≡ sum_by (λ n. (counts_at gateways n).done) (take (suc k) all) =
      cc (sum_next (λ n. (counts_at gateways n).done) all k (here is)) in
      added ∙ (λ i. record { packets = packets i; resolved = resolved i; done = done i })
      ∙ ap (λ n. node_sums gateways (take n all)) next

-- The lines of all gateways and of all nodes.

-- Places, one after the other.

range_more : (a k : ℕ) → range_with_len a (suc k) ≡ range_with_len a k ++ (a + k) ∷ []
range_more a zero = let same : a ≡ a + 0 = omega arith in cc
range_more a (suc k) =
    let same : a + 1 + k ≡ a + suc k = omega arith in
    cc (range_more (a + 1) k)

pub lines_next : (f : ℕ → List ℕ) (k : ℕ) (before : List ℕ) {middle after : _} →
    middle ≡ before ++ flat_map f (range_with_len 0 k) → after ≡ middle ++ f k →
    after ≡ before ++ flat_map f (range_with_len 0 (k + 1))
lines_next f k before first later =
    let next : suc k ≡ k + 1 = omega arith in
    let here : k ≡ 0 + k = omega arith in
    later ∙ ap (λ text. text ++ f k) first ∙ append_assoc before (flat_map f (range_with_len 0 k)) (f k)
    ∙ ap (λ text. before ++ (flat_map f (range_with_len 0 k) ++ text)) (sym (append-nil (f k)))
    ∙ ap (λ n. before ++ (flat_map f (range_with_len 0 k) ++ flat_map f (n ∷ []))) here
    ∙ ap (λ text. before ++ text) (sym (flat_map-append f (range_with_len 0 k) ((0 + k) ∷ [])))
    ∙ ap (λ l. before ++ flat_map f l) (sym (range_more 0 k)) ∙ ap (λ n. before ++ flat_map f (range_with_len 0 n)) next

pub small_place : (k n : ℕ) → k < n → n ≤ 255 → k % 256 ≡ k
small_place k n less few = let small : k < 256 = omega arith in grind arith

places_only : {A : Type 0} (f : ℕ → List ℕ) (a : ℕ) (xs : List A) →
    flat_map f (range_with_len a (length xs)) ≡ flat_map (λ (e : ℕ × A). f e.0) (enumerate_from a xs)
places_only f a [] = refl
places_only f a (x ∷ xs) = cc (places_only f (a + 1) xs)

by_places : {A : Type 0} (f : ℕ → A → List ℕ) (a : ℕ) (xs : List A) (get : ℕ → Option A) →
    ((k : ℕ) → get (a + k) ≡ slice_get xs k) →
    flat_map (λ n. option_map_or (f n) (get n) []) (range_with_len a (length xs))
    ≡ flat_map (λ (e : ℕ × A). f e.0 e.1) (enumerate_from a xs)
by_places f a [] get is = refl
by_places {A = A} f a (x ∷ xs) get is =
    let here : a ≡ a + 0 = omega arith in
    ap (λ o. option_map_or (f a) o []
    ++ flat_map (λ n. option_map_or (f n) (get n) []) (range_with_len (a + 1) (length xs))) (ap get here ∙ is 0)
    ∙ ap (λ l. f a x ++ l) (by_places f (a + 1) xs get (λ k.
    (let next : a + 1 + k ≡ a + suc k = omega arith in ap get next) ∙ is (suc k)))

-- Gateways.

pub lines_there : (v : ReplayValue) (k : ℕ) {g m : _} → slice_get v.world.gateways k ≡ Some g →
    slice_get v.machines k ≡ Some m → gateway_lines v k ≡ gateway_text v.setup k g m
lines_there v k has_gateway has_machine = cc

-- a gateway that stands for the same was set
pub stands_same : {v k g m old : _} (new : Replay) {r : _} → Stands v old → MachineStands v.setup k g m r →
    slice_get v.world.gateways k ≡ Some g → slice_get v.machines k ≡ Some m →
    new ≡ record old { gateways = new.gateways } → new.gateways.items ≡ set old.gateways.items k r → Stands v new
stands_same {k} {old} new {r} stands stood has_gateway has_machine rest gateways =
    let here : k ≡ 0 + k = omega arith in
    let each = each_set _ 0 _ _ _ stands.gateways k r (rw here at stood) in
    let many : length new.gateways.items ≡ length old.gateways.items = cc (length-set old.gateways.items k r) in
    let stood_there = rw (set_same _ k has_gateway) at (rw (set_same _ k has_machine) at (rw (← gateways) at each)) in
    let areas = rw (← many) at stands.room.areas in
    let shelves = rw (← many) at stands.room.shelves in
    rw rest assumption

-- Nodes.

abbrev pub node_lines : ReplayValue → ℕ → List ℕ
node_lines v k = option_map_or (node_line (length v.world.gateways) k) (slice_get v.world.nodes k) []

pub node_there : (v : ReplayValue) (k : ℕ) {log : _} → slice_get v.world.nodes k ≡ Some log →
    node_text k (counts_of (node_value (length v.world.gateways) k log)) ≡ node_lines v k
node_there v k has = cc

pub all_nodes : (v : ReplayValue) →
    flat_map (node_lines v) (range_with_len 0 (length v.world.nodes))
    ≡ flat_map (λ (n : ℕ × List LogEntry). node_line (length v.world.gateways) n.0 n.1) (enumerate_from 0 v.world.nodes)
all_nodes v =
    by_places (node_line (length v.world.gateways)) 0 _ (λ k. slice_get v.world.nodes k) (λ k.
    (let same : 0 + k ≡ k = omega arith in cc))

-- Together they are the report.
pub reports : (v : ReplayValue) (before : List ℕ) {middle after : _} →
    middle ≡ before ++ flat_map (gateway_lines v) (range_with_len 0 (length v.world.gateways)) →
    after ≡ middle ++ flat_map (λ (n : ℕ × List LogEntry). node_line (length v.world.gateways) n.0 n.1)
    (enumerate_from 0 v.world.nodes) → after ≡ before ++ report_of v
reports v before first later =
    let nodes : List ℕ = flat_map (λ (n : ℕ × List LogEntry). node_line (length v.world.gateways) n.0 n.1)
    (enumerate_from 0 v.world.nodes) in
    later ∙ ap (λ text. text ++ nodes) first
    ∙ append_assoc before (flat_map (gateway_lines v) (range_with_len 0 (length v.world.gateways))) nodes
    ∙ ap (λ text. before ++ (text ++ nodes)) (places_only (gateway_lines v) 0 v.world.gateways)
