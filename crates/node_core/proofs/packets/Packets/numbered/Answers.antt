use Rattle.std.proofs.Common.{◌≡◌, ◌-◌, suc, length, sym, arith, rules}
use Rattle.node_core.proofs.NodeLemmas.{none_numbered, place_numbered}
use Rattle.node_core.proofs.packets.Packets.numbered.Goals as goal

pub returns-then-number-before : goal.returns-then-number-before
returns-then-number-before c =
    let kept = c.args.self.now in
    let size : c.len.result ≡ length kept.packets = search rules in
    sym (none_numbered (c.args.last - length kept.packets) c.args.number kept.packets c.requires.numbered (omega (arith, size)))

pub returns : goal.returns
returns c =
    let kept = c.args.self.now in
    let size : c.len.result ≡ length kept.packets = search rules in
    let place : c.args.number - (c.args.last - c.len.result) - 1 ≡ c.args.number - suc (c.args.last - length kept.packets) = omega (arith, size) in
    search (arith, place_numbered)
