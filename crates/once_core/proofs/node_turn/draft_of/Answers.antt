use Rattle.std.proofs.Common.{◌≡◌, ap, subst, ◌∙◌, Option, IfOk, option_and_then}
use Rattle.once_core.proofs.Names.{draft_of_packet, PacketForm}
use Rattle.once_core.proofs.NodeTurnLemmas.{draft_reading}
use Rattle.once_core.proofs.node_turn.draft_of.Goals as goal

pub returns-in-Some : goal.returns-in-Some
returns-in-Some c =
    subst (λ (d : Option PacketForm). IfOk c.draft_of_packet.result (λ found. found ≡ d))
    (ap (option_and_then draft_of_packet) c.in-Some.ensures.reading ∙ draft_reading c.args.octets.now)
    c.draft_of_packet.ensures
