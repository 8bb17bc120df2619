use Rattle.std.proofs.Common.{◌≡◌, ℕ, [], count_by, Option, sym, ap, ◌∙◌}
use Rattle.std.specs.Option.{option_map_or}
use Rattle.node_core.specs.Counting.{phase_of_copies}
use Rattle.node_core.specs.Packets.{PacketState, is_resolved}
use Rattle.node_core.specs.declared.counts.Phase.{Phase}
use Rattle.node_core.specs.declared.counts.Phase.TheVariants.{Unknown}
use Rattle.loop_audit.specs.Audit.{places_of, stands_at}
use Rattle.loop_audit.specs.Standing.{histories_of}
use Rattle.loop_audit.specs.Steps.{is_resolved_by}
use Rattle.loop_audit.proofs.NumberLemmas.{numbered_is}
use Rattle.loop_audit.proofs.StandLemmas.{id_at, phase_tells, told_right, told_wrong, wrong_is}
use Rattle.loop_audit.proofs.auditing.wrong_packet.Goals as goal

pub returns-then-is_wrong : goal.returns-then-is_wrong
returns-then-is_wrong g c = λ told packet is.
    let copies : c.count_places-places.result ≡ places_of (histories_of c.args.books.now) c.args.node.now packet =
    c.count_places-places.ensures told
    ∙ ap (λ (o : Option PacketState). count_by (stands_at (histories_of c.args.books.now) c.args.node.now)
    (option_map_or (λ (p : PacketState). p.copies) o [])) is in
    let resolved : c.is_resolved.result ≡ is_resolved packet.copies =
    c.is_resolved.ensures ∙ ap (λ (p : Phase). is_resolved_by p) c.phase.ensures
    ∙ ap (λ (o : Option PacketState). is_resolved_by
    (option_map_or (λ (p : PacketState). phase_of_copies p.copies) o Unknown)) is
    ∙ phase_tells packet.copies in
    told_wrong (histories_of c.args.books.now) c.args.node.now packet c.id.result c.args.number
    c.count_places-places.result (ap (λ (a : ℕ). id_at a) c.id.ensures)
    (sym (numbered_is c.args.node.now.packets c.args.number packet is)) copies
    (sym (wrong_is (histories_of c.args.books.now) c.args.node.now packet c.count_places-places.result
    c.is_resolved.result
    c.is_wrong.result copies resolved c.is_wrong.ensures) ∙ c.if-is_wrong.true)

pub returns : goal.returns
returns g c = λ told packet is.
    let copies : c.count_places-places.result ≡ places_of (histories_of c.args.books.now) c.args.node.now packet =
    c.count_places-places.ensures told
    ∙ ap (λ (o : Option PacketState). count_by (stands_at (histories_of c.args.books.now) c.args.node.now)
    (option_map_or (λ (p : PacketState). p.copies) o [])) is in
    let resolved : c.is_resolved.result ≡ is_resolved packet.copies =
    c.is_resolved.ensures ∙ ap (λ (p : Phase). is_resolved_by p) c.phase.ensures
    ∙ ap (λ (o : Option PacketState). is_resolved_by
    (option_map_or (λ (p : PacketState). phase_of_copies p.copies) o Unknown)) is
    ∙ phase_tells packet.copies in
    told_right (histories_of c.args.books.now) c.args.node.now packet
    (sym (wrong_is (histories_of c.args.books.now) c.args.node.now packet c.count_places-places.result
    c.is_resolved.result
    c.is_wrong.result copies resolved c.is_wrong.ensures) ∙ c.if-is_wrong.false)
