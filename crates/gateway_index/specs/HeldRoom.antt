-- Room for as many copies as a gateway may hold.
use Rattle.std.specs.Prelude.{◌+◌, ◌≤◌}
use Rattle.dup_buffer.specs.Copies.{most_copies}
use Rattle.dup_buffer.specs.Stored.{Stored, copies_of}

-- no more than the most copies need memory
abbrev pub HasRoom : Stored → Type 0
HasRoom held = most_copies ≤ (copies_of held).count + held.spare
