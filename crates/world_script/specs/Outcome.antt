-- What calls answer where memory may run out: what the definition says, unless it did.
use Rattle.std.specs.Prelude.{◌≡◌, ◌+◌, ◌||◌, ℕ, if◌then◌else◌, Result, Ok, Err}
use Rattle.world_script.specs.Script.{is_action_line, is_end_line, is_rule_line}
use Rattle.world_script.specs.declared.fault.InputKind.{InputKind}
use Rattle.world_script.specs.declared.fault.LineFault.{LineFault}
use Rattle.world_script.specs.declared.fault.LineFault.TheVariants.{Refused, NoMemory}
use Rattle.world_script.specs.declared.fault.InputFault.{InputFault}
use Rattle.world_script.specs.declared.fault.InputFault.TheVariants as input
use Rattle.world_script.specs.declared.line.Line.{Line}
use Rattle.world_script.specs.declared.progress.Progress.{Progress}

-- a line is what the definition says, or is refused so
abbrev pub Says : Result Line InputKind → Result Line LineFault → Type 0
Says said (Ok line) = said ≡ Ok line
Says said (Err (Refused kind)) = said ≡ Err kind
Says said (Err NoMemory) = Unit {0}

-- the progress after one more line of so many octets
abbrev pub progress_after : Progress → Line → ℕ → Progress
progress_after p said size = record {
  kind = p.kind;
  size = p.size + size;
  place = p.place + 1;
  has_end = p.has_end || is_end_line said;
  has_action = p.has_action || is_action_line said;
  rules = p.rules + (if is_rule_line said then 1 else 0);
}

-- the fault of the line with this number
abbrev pub fault_at : ℕ → LineFault → InputFault
fault_at place (Refused kind) = input.Bad place kind
fault_at place NoMemory = input.NoMemory
