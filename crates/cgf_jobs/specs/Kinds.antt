-- The kinds of refusal: those of a script's grammar, those of a line that is run, those of a CDR file, and those of a stream.
use Rattle.std.specs.Prelude.{Bool, true, false}
use Rattle.cdr_file.specs.declared.fault.FileKind.{FileKind}
use Rattle.cdr_file.specs.declared.fault.FileKind.TheVariants as file
use Rattle.gtpp_stream.specs.declared.frame.FrameKind.{FrameKind}
use Rattle.gtpp_stream.specs.declared.frame.FrameKind.TheVariants as frame
use Rattle.once_core.specs.declared.event.WorldKind.{WorldKind}
use Rattle.once_core.specs.declared.event.WorldKind.TheVariants as world
use Rattle.world_script.specs.declared.fault.InputKind.{InputKind as LineKind}
use Rattle.world_script.specs.declared.fault.InputKind.TheVariants as line
use Rattle.cgf_jobs.specs.declared.input_kind.InputKind.{InputKind}
use Rattle.cgf_jobs.specs.declared.input_kind.InputKind.TheVariants as input

-- why the grammar of scripts refuses a line
abbrev pub of_line : LineKind → InputKind
of_line line.TooLong = input.TooLong
of_line line.Word = input.Word
of_line line.NotBuilt = input.NotBuilt
of_line line.After = input.After
of_line line.Late = input.Late
of_line line.Arity = input.Arity
of_line line.Number = input.Number
of_line line.Hex = input.Hex
of_line line.Rule = input.Rule
of_line line.NoEnd = input.NoEnd

-- why a line can't be run
abbrev pub of_world : WorldKind → InputKind
of_world world.Earlier = input.Earlier
of_world world.NoGateway = input.NoGateway
of_world world.NoNode = input.NoNode
of_world world.NoMessage = input.NoMessage
of_world world.Halted = input.Halted
of_world world.Stopped = input.Stopped
of_world world.Running = input.Running
of_world world.Restarts = input.Restarts

-- why octets are no CDR file
abbrev pub of_file : FileKind → InputKind
of_file file.Short = input.Short
of_file file.FileLength = input.FileLength
of_file file.HeaderLength = input.HeaderLength
of_file file.Filter = input.Filter
of_file file.Extension = input.Extension
of_file file.CdrHeader = input.CdrHeader
of_file file.CdrCut = input.CdrCut
of_file file.Count = input.Count

-- why a stream is bad
abbrev pub of_frame : FrameKind → InputKind
of_frame frame.NotPrime = input.NotPrime
of_frame frame.Version = input.Version

-- whether a line is refused for what was run before it, and not by the grammar
abbrev pub is_of_run : InputKind → Bool
is_of_run input.TooLong = false
is_of_run input.Word = false
is_of_run input.NotBuilt = false
is_of_run input.After = false
is_of_run input.Late = false
is_of_run input.Arity = false
is_of_run input.Number = false
is_of_run input.Hex = false
is_of_run input.Rule = false
is_of_run input.NoEnd = false
is_of_run input.Earlier = true
is_of_run input.NoGateway = true
is_of_run input.NoNode = true
is_of_run input.NoMessage = true
is_of_run input.Halted = true
is_of_run input.Stopped = true
is_of_run input.Running = true
is_of_run input.Restarts = true
is_of_run input.Short = false
is_of_run input.FileLength = false
is_of_run input.HeaderLength = false
is_of_run input.Filter = false
is_of_run input.Extension = false
is_of_run input.CdrHeader = false
is_of_run input.CdrCut = false
is_of_run input.Count = false
is_of_run input.NotPrime = false
is_of_run input.Version = false
is_of_run input.Rest = false
