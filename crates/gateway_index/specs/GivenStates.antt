-- What a window knows once some of its numbers were given states, one behind the other.
use Rattle.std.specs.Prelude.{ℕ, ◌+◌, ◌^◌, ◌<◌, ◌≤◌, List, [], ◌∷◌, IfSome, ⊤}
use Rattle.std.specs.Coded.{×_prop, Unit-prop}
use Rattle.std.proofs.Props.{props}
use Rattle.seq_window.specs.Seen.{Seen, with_state}
use Rattle.gateway_index.specs.Limits.{half}
use Rattle.gateway_index.specs.declared.window_pair.StateGiven.{StateGiven}

-- with all these states, in order
abbrev pub with_each : List StateGiven → Seen → Seen
with_each [] seen = seen
with_each (given ∷ all) seen = with_each all (with_state half given.number given.state seen)

-- a number may be given a state
abbrev pub MaySet : ℕ → Seen → Type 0
MaySet number seen = IfSome seen.top (λ top. top ≤ number + half) × (number < 2 ^ 63)

-- all these may be given, in order
abbrev pub MaySetEach : List StateGiven → Seen → Type 0
MaySetEach [] seen = ⊤
MaySetEach (given ∷ all) seen = MaySet given.number seen × MaySetEach all (with_state half given.number given.state seen)

-- that they may be is one fact: there are no two proofs of it
MaySet-prop : (number : ℕ) (seen : Seen) → IsProp (MaySet number seen)
MaySet-prop number seen = hlevel props

pub MaySetEach-prop : (all : List StateGiven) (seen : Seen) → IsProp (MaySetEach all seen)
MaySetEach-prop [] seen = Unit-prop
MaySetEach-prop (given ∷ all) seen = ×_prop (MaySet-prop given.number seen) (MaySetEach-prop all (with_state half given.number given.state seen))
