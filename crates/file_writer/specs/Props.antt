-- What is said of a stream is a proposition.
use Rattle.std.specs.Prelude.{ℕ, Bool, true, false, Option, None, Some}
use Rattle.std.proofs.Props.{props}
use Rattle.cdr_file.specs.Profile.{MayExtend}
use Rattle.cdr_file.specs.declared.filed_kind.FiledKind.{FiledKind}
use Rattle.cdr_file.specs.declared.run.RunFacts.{RunFacts}
use Rattle.cdr_shelf.specs.Files.{UnsealedFile}
use Rattle.cdr_shelf.specs.declared.file_name.FileName.{FileName}
use Rattle.file_rotate.specs.declared.open_file.OpenFile.{OpenFile}
use Rattle.file_writer.specs.Following.{Pairs}
use Rattle.file_writer.specs.Writing.{IsOpenAt, ReadyWhere}

extension_prop : (release : ℕ) (extension : Option ℕ) → IsProp (MayExtend release extension)
extension_prop release None = hlevel props
extension_prop release (Some extension) = hlevel props

pub Pairs-prop : (kept : Option OpenFile) (growing : Option RunFacts) → IsProp (Pairs kept growing)
Pairs-prop None None = hlevel props
Pairs-prop None (Some run) = hlevel props
Pairs-prop (Some file) None = hlevel props
Pairs-prop (Some file) (Some run) = hlevel (extension_prop, props)

open_prop : (name : FileName) (kind : FiledKind) (n : ℕ) (u : Option UnsealedFile) → IsProp (IsOpenAt name kind n u)
open_prop name kind n None = hlevel props
open_prop name kind n (Some f) = hlevel props

pub ReadyWhere-prop : (b : Bool) (name : FileName) (growing : Option RunFacts) (u : Option UnsealedFile)
    → IsProp (ReadyWhere b name growing u)
ReadyWhere-prop true name growing u = hlevel props
ReadyWhere-prop false name None u = hlevel props
ReadyWhere-prop false name (Some run) u = open_prop name run.kind run.octets u

-- the set for what is true of each writer
pub ruleset sound_props = (Pairs-prop, ReadyWhere-prop, props)
