use Rattle.std.proofs.Common.{◌≡◌, ◌+◌, ◌≤◌, length}
use Rattle.world_script.proofs.Names.{progress_of, raw_lines, script_after, script_in}
use Rattle.world_script.proofs.script.read.Given as goal

-- the lines up to the rest were read
abbrev pub invariant-loop-raw : goal.invariant-loop-raw
invariant-loop-raw l = record {
  follows : l.progress ≡ progress_of l.fn.kind l.progress.size l.lines.items;
  so_far : script_after l.fn.kind l.progress.size l.lines.items (raw_lines l.rest) ≡ script_in l.fn.kind l.fn.text;
  octets : l.progress.size + length l.rest ≡ length l.fn.text;
  place : l.progress.place ≤ l.progress.size + 1;
  rules : l.progress.rules ≤ l.progress.size;
}

abbrev pub decreases-loop-raw : goal.decreases-loop-raw
decreases-loop-raw l = length l.rest
