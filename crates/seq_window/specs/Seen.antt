-- What a window knows of a node's request numbers: the greatest one, and a state for each. It holds the numbers from
-- `half` below the greatest one up to it, and every other number is fresh.
use Rattle.std.specs.Prelude.{ℕ, ◌+◌, ◌==◌, ◌&&◌, Bool, false, if◌then◌else◌, nat_le, List, Option, Some, None}
use Rattle.std.specs.List.{list_any}
use Rattle.gw_base.specs.Lists.{raised}
use Rattle.gw_base.specs.declared.key_state.KeyState.{KeyState}
use Rattle.gw_base.specs.declared.key_state.KeyState.TheVariants.{Fresh}

pub record Seen : Type 0 where
  pub top : Option ℕ
  pub state : ℕ → KeyState

-- whether a window whose greatest number is this one holds a number
abbrev pub is_within : ℕ → Option ℕ → ℕ → Bool
is_within half None number = false
is_within half (Some top) number = nat_le top (number + half) && nat_le number top

-- these states of the numbers that a window with this greatest number holds
abbrev pub within : ℕ → Option ℕ → (ℕ → KeyState) → Seen
within half top state = record { top = top; state = λ n. if is_within half top n then state n else Fresh }

-- no number
abbrev pub nothing_seen : Seen
nothing_seen = record { top = None; state = λ n. Fresh }

-- with a state for one number, which may be the greatest
abbrev pub with_state : ℕ → ℕ → KeyState → Seen → Seen
with_state half number state seen = within half (raised seen.top number) (λ n. if number == n then state else seen.state n)

-- with a state for those of these numbers that the window holds
abbrev pub with_states : ℕ → List ℕ → KeyState → Seen → Seen
with_states half numbers state seen = within half seen.top (λ n. if list_any (λ x. x == n) numbers then state else seen.state n)

-- moved up, so that a number isn't above the greatest one
abbrev pub moved_to : ℕ → ℕ → Seen → Seen
moved_to half number seen = within half (raised seen.top number) seen.state
