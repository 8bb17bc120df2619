use Rattle.std.proofs.Common.{◌≡◌, ◌+◌, ◌≤◌, Some, false, sym, rules, arith}
use denote.Enum.Bare.{same_true}
use Rattle.world_script.proofs.Names.{Feed, lent_line, line_content, line_size, most_text, one_datagram}
use Rattle.world_script.specs.contracts.kind.ScriptKind.{the_type}
use Rattle.world_script.proofs.ScriptLemmas.{is_read}
use Rattle.world_script.proofs.progress.Progress.read.Goals as goal

pub returns-in-Some : goal.returns-in-Some
returns-in-Some c =
    let short : c.args.self.size + line_size (lent_line c.args.line.now) ≤ most_text =
    omega (arith, c.if-self-size-gt-MOST_TEXT.false, c.size.ensures) in
    let feed : c.args.self.kind ≡ Feed = same_true the_type (search rules) _ _ (sym c.if-eq.ensures) in
    let going : c.args.self.has_end ≡ false = search rules in
    let said : Some c.in-Some.line ≡ one_datagram (line_content (lent_line c.args.line.now)) = search rules in
    is_read c.args.self (lent_line c.args.line.now) c.in-Some.line short feed going said
