-- What a crash leaves at any moment of a call on an area: words of area_disk; and what is counted of a call.
use Rattle.std.specs.Prelude.{◌≡◌, ℕ, IsTrue, Result}
use Rattle.area_disk.specs.Disk.{HasCause, counted}
use Rattle.area_disk.specs.declared.area.Area.{Ghosts}
pub use Rattle.area_disk.specs.Moments.{Told, Leaves, RoseUpTo, Calls, Kept}

-- what is counted of a call that makes n counted calls, and of one that makes one
pub record Counts {A T E : Type 0} (n : ℕ) (area : Ghosts A) (old new : A) (result : Result T E) : Type 0 where
  pub calls : IsTrue area.tells_calls → Calls n (area.calls old) (area.calls new) result
  pub cause : HasCause (area.faults old) (area.faults new) result

pub record CountsOne {A T E : Type 0} (area : Ghosts A) (old new : A) (result : Result T E) : Type 0 where
  pub calls : IsTrue area.tells_calls → area.calls new ≡ counted 1 (area.calls old)
  pub cause : HasCause (area.faults old) (area.faults new) result
