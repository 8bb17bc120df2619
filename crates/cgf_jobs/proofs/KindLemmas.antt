-- Which kinds are those of a line that is run.
use Rattle.std.proofs.Common.{◌≡◌, true, false, refl}
use Rattle.cgf_jobs.proofs.Names.{FileKind, is_of_run, LineKind, of_file, of_line, of_world, WorldKind}
use Rattle.cdr_file.specs.declared.fault.FileKind.TheVariants as file
use Rattle.once_core.specs.declared.event.WorldKind.TheVariants as world
use Rattle.world_script.specs.declared.fault.InputKind.TheVariants as line

pub line_not_of_run : (kind : LineKind) → is_of_run (of_line kind) ≡ false
line_not_of_run line.TooLong = refl
line_not_of_run _ = refl

pub world_of_run : (kind : WorldKind) → is_of_run (of_world kind) ≡ true
world_of_run world.Earlier = refl
world_of_run _ = refl

pub file_not_of_run : (kind : FileKind) → is_of_run (of_file kind) ≡ false
file_not_of_run file.Short = refl
file_not_of_run _ = refl
