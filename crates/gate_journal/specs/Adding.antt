-- What a crash leaves of an area to which a batch is being added.
use Rattle.std.specs.Prelude.{◌≡◌, ℕ, ◌+◌, List, ◌∷◌, ◌++◌, length, take, drop}
use Rattle.gate_journal.specs.Format.{open_gate, gate_at}

-- the octets with this frame behind the gate at this place, and the gate open
abbrev pub added : ℕ → List ℕ → List ℕ → List ℕ
added gate framed octets = take gate octets ++ open_gate ∷ (framed ++ drop (gate + 1 + length framed) octets)

-- new is old before the gate, and where the gate is open the frame stands behind it
pub record IsAdding (gate : ℕ) (framed old new : List ℕ) : Type 0 where
  pub size : length new ≡ length old
  pub front : take gate new ≡ take gate old
  pub behind : gate_at new gate ≡ open_gate → take (length framed) (drop (gate + 1) new) ≡ framed
