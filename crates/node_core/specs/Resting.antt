-- What a node's knowledge rests on: each verdict and each answered command has a response that was heard since the start.
use Rattle.std.specs.Prelude.{◌≡◌, ℕ, true, false, All, Contains, IfSome, List, [], ◌∷◌}
use Rattle.node_core.specs.declared.copy.Command.{Command}
use Rattle.node_core.specs.declared.copy.PacketCopy.{PacketCopy}
use Rattle.node_core.specs.declared.port.Port.{Port}
use Rattle.node_core.specs.Copies.{is_fulfilled, is_unknown, names, told}
use Rattle.node_core.specs.Log.{LogEntry, Began, Halted, Submitted, Appointed, Ticked, Heard, Responds}
use Rattle.node_core.specs.Packets.{PacketState}

-- what befell a node since its latest start or halt
abbrev pub since_start : List LogEntry → List LogEntry
since_start [] = []
since_start (Began ∷ log) = []
since_start (Halted ∷ log) = []
since_start (Submitted form ∷ log) = Submitted form ∷ since_start log
since_start (Appointed gateway ∷ log) = Appointed gateway ∷ since_start log
since_start (Ticked sendings ∷ log) = Ticked sendings ∷ since_start log
since_start (Heard port gateway saying ∷ log) = Heard port gateway saying ∷ since_start log

-- a response from the copy's gateway that names its number was heard, and tells of it what is known
pub record IsTold (entries : List LogEntry) (copy : PacketCopy) : Type 0 where
  pub port : Port
  pub cause : ℕ
  pub numbers : List ℕ
  pub heard : Contains entries (Heard port copy.gateway (Responds cause numbers))
  pub named : names numbers copy.number ≡ true
  pub tells : told port copy.is_plain cause ≡ copy.verdict

-- a response from this gateway that names this number was heard, and tells that a release or a cancel is fulfilled
pub record IsFulfilled (entries : List LogEntry) (gateway number : ℕ) : Type 0 where
  pub port : Port
  pub cause : ℕ
  pub numbers : List ℕ
  pub heard : Contains entries (Heard port gateway (Responds cause numbers))
  pub named : names numbers number ≡ true
  pub tells : is_fulfilled cause ≡ true

-- what is known of a copy rests on what was heard
pub record RestsOn (entries : List LogEntry) (copy : PacketCopy) : Type 0 where
  pub verdict : is_unknown copy.verdict ≡ false → IsTold entries copy
  pub command : IfSome copy.command (λ (command : Command). command.is_answered ≡ true → IsFulfilled entries copy.gateway command.number)

-- the same of all copies of a packet
abbrev pub AllRestOn : List LogEntry → PacketState → Type 0
AllRestOn entries packet = All (RestsOn entries) packet.copies
