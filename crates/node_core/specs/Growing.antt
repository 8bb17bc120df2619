-- What a node knows within a start only grows.
use Rattle.std.specs.Prelude.{◌≡◌, Bool, true, false, List, [], ◌∷◌, Option, Some, None}
use Rattle.node_core.specs.declared.copy.Command.{Command}
use Rattle.node_core.specs.declared.copy.PacketCopy.{PacketCopy}
use Rattle.node_core.specs.Copies.{is_unknown}
use Rattle.node_core.specs.Log.{LogEntry, Began, Halted, Submitted, Appointed, Ticked, Heard}
use Rattle.node_core.specs.Packets.{PacketState, is_done, is_resolved}

-- neither a start nor a halt
abbrev pub is_within_start : LogEntry → Bool
is_within_start Began = false
is_within_start Halted = false
is_within_start (Submitted form) = true
is_within_start (Appointed gateway) = true
is_within_start (Ticked sendings) = true
is_within_start (Heard port gateway saying) = true

-- each of these has its like at the same place in the others, which may be more
abbrev pub Extends : {A : Type 0} → (A → A → Type 0) → List A → List A → Type 0
Extends R [] ys = Unit {0}
Extends R (x ∷ xs) [] = ⊥
Extends R (x ∷ xs) (y ∷ ys) = R x y × Extends R xs ys

-- a release or a cancel stays, and stays answered
abbrev pub CommandGrows : Option Command → Option Command → Type 0
CommandGrows None after = Unit {0}
CommandGrows (Some command) None = ⊥
CommandGrows (Some command) (Some after) =
    (after.order ≡ command.order) × (after.number ≡ command.number) × (command.is_answered ≡ true → after.is_answered ≡ true)

-- a copy stays, with what is known of it
pub record CopyGrows (copy after : PacketCopy) : Type 0 where
  pub gateway : after.gateway ≡ copy.gateway
  pub number : after.number ≡ copy.number
  pub is_plain : after.is_plain ≡ copy.is_plain
  pub verdict : is_unknown copy.verdict ≡ false → after.verdict ≡ copy.verdict
  pub command : CommandGrows copy.command after.command

-- a packet stays, with its copies, and resolved and done where it was
pub record PacketGrows (packet after : PacketState) : Type 0 where
  pub number : after.number ≡ packet.number
  pub copies : Extends CopyGrows packet.copies after.copies
  pub resolved : is_resolved packet.copies ≡ true → is_resolved after.copies ≡ true
  pub done : is_done packet.copies ≡ true → is_done after.copies ≡ true
