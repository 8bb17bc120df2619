-- What the fields of a walk mean.
-- A step of proofs: no public contract cites it.
use Rattle.std.specs.Prelude.{◌≡◌, ◌+◌, ◌<◌, ◌≤◌, ◌^◌, length, drop, map}
use Rattle.ber_frame.specs.declared.walk.Level.{Level}
use Rattle.ber_frame.specs.declared.walk.Walk.TheInside.{Inside}
use Rattle.ber_frame.specs.Walk.{Opened, Place, place, open_with, octets_left}

abbrev pub opened_of : Level → Opened
opened_of level = open_with level.endless level.after.now

abbrev pub place_of : Inside → Place
place_of walk = place walk.at walk.window.now (map opened_of (drop walk.left walk.levels))

pub record IsInBounds (walk : Inside) : Type 0 where
  pub levels : length walk.levels ≡ 32
  pub left : walk.left ≤ 32
  pub octets : walk.at + octets_left (place_of walk) < 2 ^ 63
