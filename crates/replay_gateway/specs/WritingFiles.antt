-- What a write makes of a gateway, and what is seen of that.
use Rattle.std.specs.Prelude.{◌≡◌, ℕ}
use Rattle.gateway_answer.specs.Items.{items_of}
use Rattle.once_core.specs.Gateway.{Gateway}
use Rattle.replay_gateway.specs.Filing.{filing_then, shelf_came}
use Rattle.replay_gateway.specs.Setup.{Setup, files_in}
use Rattle.replay_gateway.specs.Standing.{MachineStands}
use Rattle.replay_gateway.specs.Machine.{Machine}
use Rattle.replay_gateway.specs.Written.{wrote_by}
use Rattle.replay_gateway.specs.declared.files.Wrote.{Wrote}
use Rattle.replay_gateway.specs.declared.machine.Machine as real

-- The files of a gateway were written as was armed for its shelf.
pub record WritesFiles (setup : Setup) (place : ℕ) (g : Gateway) (m : Machine) (ended : Wrote) (r : real.Machine)
    : Type 0 where
  pub came : ended ≡ wrote_by (shelf_came (files_in setup place) (items_of g.book.firm) m.filing)
  pub stands : MachineStands setup place g
      (record m { filing = filing_then (files_in setup place) (items_of g.book.firm) m.filing }) r
