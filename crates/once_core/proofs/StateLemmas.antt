-- States of keys move forward.
use Rattle.std.proofs.Common.{◌≡◌, true, arith}
use Rattle.once_core.proofs.Names.{Cancelled, is_fresh, is_held, KeyState, moves_on, Released}

pub stays : (s : KeyState) → moves_on s s ≡ true
stays s = grind arith

pub fresh_moves : (s t : KeyState) → is_fresh s ≡ true → moves_on s t ≡ true
fresh_moves s t e = grind arith

pub held_is_released : (s : KeyState) → is_held s ≡ true → moves_on s Released ≡ true
held_is_released s e = grind arith

pub held_is_cancelled : (s : KeyState) → is_held s ≡ true → moves_on s Cancelled ≡ true
held_is_cancelled s e = grind arith

pub moves_further : (s t u : KeyState) → moves_on s t ≡ true → moves_on t u ≡ true → moves_on s u ≡ true
moves_further s t u a b = grind arith
