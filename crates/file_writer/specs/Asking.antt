-- What a writer learns of a shelf when it recovers.
use Rattle.std.specs.Prelude.{◌≡◌, ℕ, ◌<◌, ◌≤◌, Bool, true, false, IsTrue, List, length, slice_index, slice_index_or, None}
use Rattle.area_disk.specs.Armed.{Armed, IsArmed}
use Rattle.area_disk.specs.Disk.{Rose}
use Rattle.cdr_shelf.specs.Files.{greatest_in}
use Rattle.cdr_shelf.specs.declared.shelf.Shelf.{Ghosts}
use Rattle.file_rotate.specs.declared.limits.Limits.{Limits}
use Rattle.file_writer.specs.Streams.{stream_count}
use Rattle.file_writer.specs.declared.stream.Stream.{Stream}

-- A shelf was asked, and nothing else: what it holds stays, and no counted call was made.
pub record IsAsked {A : Type 0} (tells : Ghosts A) (failed : Bool) (old new : A) : Type 0 where
  pub files : tells.files new ≡ tells.files old
  pub unsealed : (s : ℕ) → tells.unsealed new s ≡ tells.unsealed old s
  pub calls : IsTrue tells.tells_calls → tells.calls new ≡ tells.calls old
  pub later : tells.faults old ≤ tells.faults new
  pub rose : failed ≡ true → Rose (tells.faults old) (tells.faults new)
  pub still : failed ≡ false → tells.faults new ≡ tells.faults old
  pub planned : IsTrue tells.tells_plan → (a : Armed) → IsArmed a (tells.plan old)
      → (failed ≡ false) × IsArmed a (tells.plan new)

-- A stream has no open file, and so many closed ones.
pub record IsFreshStream (limits : Limits) (profile closed : ℕ) (stream : Stream) : Type 0 where
  pub cutter : stream.cutter ≡ record { limits = limits; profile = profile; file = None }
  pub growing : stream.file.growing ≡ None
  pub has_closed : stream.file.closed ≡ closed

-- So many streams are fresh, and know what is sealed.
pub record HasAsked {A : Type 0} (tells : Ghosts A) (limits : Limits) (profile : ℕ) (sequences : List ℕ) (n : ℕ)
    (streams : List Stream) (old new : A) : Type 0 where
  pub asked : IsAsked tells false old new
  pub sixteen : length streams ≡ stream_count
  pub fresh : (s : ℕ) (d : Stream) → s < n
      → IsFreshStream limits profile (slice_index sequences s) (slice_index_or streams s d)
  pub greatest : IsTrue tells.tells_files → (s : ℕ) (d : Stream) → s < n
      → (slice_index_or streams s d).file.sealed ≡ greatest_in s (tells.files old)
