-- What is true of each writer.
use Rattle.std.specs.Prelude.{◌≡◌, ℕ, ◌+◌, ◌-◌, ◌^◌, ◌<◌, Bool, false, List}
use Rattle.cdr_shelf.specs.declared.shelf.Shelf.{Ghosts}
use Rattle.cdr_file.specs.Profile.{IsProfile}
use Rattle.file_rotate.specs.Items.{AreLimits}
use Rattle.file_rotate.specs.declared.limits.Limits.{Limits}
use Rattle.file_writer.specs.AllStreams.{EachBelow, EachSafe}
use Rattle.file_writer.specs.declared.stream.Stream.{Stream}

pub record IsSound {A : Type 0} (tells : Ghosts A) (shelf : A) (limits : Limits) (profile : ℕ) (streams : List Stream)
    (taken : ℕ) (is_broken : Bool) : Type 0 where
  pub are_limits : AreLimits limits
  pub is_profile : IsProfile profile
  pub few : taken < 2 ^ 31
  pub safe : is_broken ≡ false → EachSafe tells streams shelf
  pub below : is_broken ≡ false → EachBelow (2 ^ 31 - 1 + taken) streams
