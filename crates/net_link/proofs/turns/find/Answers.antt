use Rattle.std.proofs.Common.{◌<◌, ◌∙◌, arith, length, sym}
use Rattle.std.proofs.lemmas.List.{get_or-map, length-map}
use Rattle.net_link.specs.declared.turns.Tally.{Tally}
use Rattle.net_link.specs.Turns.{place_of}
use Rattle.net_link.proofs.turns.find.Goals as goal

pub unreachable-requires : goal.unreachable-requires
unreachable-requires c =
    let tallies = c.args.tallies.now in
    let k = c.requires.0 in
    let tally : Tally = record { at = c.args.at; turns = 0 } in
    let within : k < length tallies = omega (arith, length-map tallies place_of, c.requires.1) in
    c.loop-i.invariant k tally (omega arith) (omega arith)
    (sym (get_or-map place_of tallies k tally c.args.at within) ∙ c.requires.2)
