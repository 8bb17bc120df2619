-- Where messages go that are delivered.
use Rattle.std.specs.Prelude.{◌≤◌, ℕ, true, false, if◌then◌else◌, All, List, length, Option, Some, None}
use Rattle.once_core.specs.declared.message.Message.{Message}
use Rattle.replay_world.specs.Sending.{IsTo}
use Rattle.replay_world.specs.Value.{ReplayValue}
use Rattle.replay_world.specs.declared.delivering.Receiver.{Receiver}
use Rattle.replay_world.specs.declared.delivering.Receiver.TheVariants as to

abbrev pub receiver_of : Message → Receiver
receiver_of m = if m.to_gateway then to.Gateway m.gateway else to.Node m.node

-- the message with this number goes there
abbrev pub IsReceiver : ReplayValue → ℕ → Option Receiver → Type 0
IsReceiver v number None = ⊥
IsReceiver v number (Some (to.Gateway place)) = IsTo v number true place
IsReceiver v number (Some (to.Node place)) = IsTo v number false place

-- all messages with these numbers were sent
pub record WereSent (v : ReplayValue) (numbers : List ℕ) : Type 0 where
  pub from_one : All (λ number. 1 ≤ number) numbers
  pub most : All (λ number. number ≤ length v.world.messages) numbers
