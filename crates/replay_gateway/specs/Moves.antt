-- What a call makes of a gateway by what is armed for its area, and what is seen of that.
use Rattle.std.specs.Prelude.{◌≡◌, ℕ, List}
use Rattle.gateway_book.specs.Comes.{Asked}
use Rattle.gateway_book.specs.Up.{Sequel, GoesOn, Breaks, Stops, fortune_by}
use Rattle.gateway_answer.specs.Value.{Fortune}
use Rattle.once_core.specs.Gateway.{Gateway, Moved, cut, still}
use Rattle.once_core.specs.declared.message.Message.{Message}
use Rattle.replay_gateway.specs.Device.{entries_kept, machine_after, sequel_on}
use Rattle.replay_gateway.specs.Setup.{Setup}
use Rattle.replay_gateway.specs.Standing.{MachineStands}
use Rattle.replay_gateway.specs.Machine.{Machine}
use Rattle.replay_gateway.specs.declared.machine.Came.{Came}
use Rattle.replay_gateway.specs.declared.machine.Came.TheVariants.{Went, Failed, Stopped}
use Rattle.replay_gateway.specs.declared.machine.Machine as real
use Rattle.replay_gateway.specs.declared.machine.Sent.{Sent}

-- what is seen of what came
abbrev pub came_of : Sequel → Came
came_of (GoesOn armed) = Went
came_of (Breaks last) = Failed
came_of (Stops stands) = Stopped

-- a move, which a stop cuts
abbrev pub moved_by : Sequel → (Fortune → Gateway → Moved) → Machine → Gateway → Moved
moved_by (GoesOn armed) move m g = move (fortune_by m.at_last (GoesOn armed)) g
moved_by (Breaks last) move m g = move (fortune_by m.at_last (Breaks last)) g
moved_by (Stops stands) move m g = still (cut (entries_kept stands g) g)

module _ (setup : Setup) (place : ℕ) where
  -- A gateway stands for what a move made of it, and sent these messages.
  pub record HasMoved (moved : Moved) (m : Machine) (messages : List Message) (r : real.Machine) : Type 0 where
    pub stands : MachineStands setup place moved.gateway m r
    pub sends : messages ≡ moved.sends

  -- A gateway was called, and its area was asked this. What is armed there decided what came of it.
  pub record GoesAsArmed (asked : Asked) (move : Fortune → Gateway → Moved) (g : Gateway) (m : Machine) (sent : Sent)
      (r : real.Machine) : Type 0 where
    pub moved : HasMoved (moved_by (sequel_on m asked) move m g) (machine_after asked m) sent.messages.items r
    pub came : sent.came ≡ came_of (sequel_on m asked)
