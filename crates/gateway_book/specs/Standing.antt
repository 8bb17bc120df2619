-- What is true of a book at rest beside what its index says: its cursor stands among its firm entries, and it counts no
-- more failures than its area does.
use Rattle.std.specs.Prelude.{ℕ, ◌≤◌}
use Rattle.area_disk.specs.declared.area.Area.{Ghosts}
use Rattle.gate_journal.specs.Moments.{Told}
use Rattle.cgf_journal.specs.Trail.{area_of, firm_entries, firm_length}
use Rattle.cgf_journal.specs.declared.trail.Trail.{Trail}
use Rattle.gateway_book.specs.Cursor.{IsAt, IsWithin}
use Rattle.gateway_book.specs.declared.cursor.Cursor.{Cursor}

pub record HasCursor {A : Type 0} {tells : Ghosts A} (trail : Trail A tells) (cursor : Cursor) : Type 0 where
  pub within : IsWithin (firm_length trail) cursor
  pub at : Told tells → IsAt (firm_entries trail) cursor

pub record IsCounting {A : Type 0} {tells : Ghosts A} (trail : Trail A tells) (cuts kept : ℕ) : Type 0 where
  pub fewer : cuts ≤ tells.faults (area_of trail)
  pub within : kept ≤ firm_length trail
