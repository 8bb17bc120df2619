-- The windows of a node on the firm side and on the live side, and those of all places.
use Rattle.std.specs.Prelude.{◌≡◌, ℕ, zero, suc, ◌≤◌, ◌==◌, ◌&&◌, nat_le, nat_lt, Bool, true, false, if◌then◌else◌, List, [], ◌∷◌, length}
use Rattle.seq_window.specs.Seen.{Seen, nothing_seen}
use Rattle.seq_window.specs.Stored.{seen_of}
use Rattle.gateway_index.specs.Limits.{half, most_nodes}
use Rattle.gateway_index.specs.declared.window_pair.WindowPair.{WindowPair}

-- what the window of the firm side knows, or else that of the live side
unfoldable pub seen_in : Bool → WindowPair → Seen
seen_in firm pair = if firm then seen_of half pair.firm else seen_of half pair.live

-- what the window at a place knows: no number where there is none
unfoldable pub seen_at : Bool → List WindowPair → ℕ → Seen
seen_at firm [] place = nothing_seen
seen_at firm (pair ∷ pairs) zero = seen_in firm pair
seen_at firm (pair ∷ pairs) (suc place) = seen_at firm pairs place

-- The window of the live side took a step, and that of the firm side stays.
pub record IsPairStep (step : Seen → Seen) (old new : WindowPair) : Type 0 where
  pub live : seen_in false new ≡ step (seen_in false old)
  pub firm : seen_in true new ≡ seen_in true old

-- The windows at one place took a step, and all others stay.
pub record IsStepAt (place : ℕ) (step : Seen → Seen) (old new : List WindowPair) : Type 0 where
  pub count : length new ≡ length old
  pub live : (k : ℕ) → seen_at false new k ≡ (if place == k then step (seen_at false old k) else seen_at false old k)
  pub firm : (k : ℕ) → seen_at true new k ≡ seen_at true old k

-- Both windows of the first places are what one of them was.
pub record AreKeptTo (places : ℕ) (firm : Bool) (old new : List WindowPair) : Type 0 where
  pub count : length new ≡ length old
  pub kept : (side : Bool) (k : ℕ) → seen_at side new k ≡ (if nat_lt k places then seen_at firm old k else seen_at side old k)

-- Both windows of these places are what one of them was.
pub record AreKeptIn (from end : ℕ) (firm : Bool) (old new : List WindowPair) : Type 0 where
  pub count : length new ≡ length old
  pub kept : (side : Bool) (k : ℕ) → seen_at side new k ≡ (if nat_le from k && nat_lt k end then seen_at firm old k else seen_at side old k)

-- There are so many pairs of windows, which know no number.
pub record AreBlank (places : ℕ) (pairs : List WindowPair) : Type 0 where
  pub count : length pairs ≡ places
  pub blank : (firm : Bool) (k : ℕ) → seen_at firm pairs k ≡ nothing_seen

-- There are 64 of them, of which those behind the nodes of the firm side know no firm number, and those behind all
-- nodes none.
pub record AreBeside (firm nodes : ℕ) (pairs : List WindowPair) : Type 0 where
  pub count : length pairs ≡ most_nodes
  pub firm_behind : (k : ℕ) → firm ≤ k → seen_at true pairs k ≡ nothing_seen
  pub live_behind : (k : ℕ) → nodes ≤ k → seen_at false pairs k ≡ nothing_seen
