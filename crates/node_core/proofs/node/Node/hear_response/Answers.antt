use Rattle.std.proofs.Common.{◌≡◌, ℕ, Bool, ◌==◌, ◌&&◌, if◌then◌else◌, Some, None, Option, List, map, length, ap, ◌∙◌}
use Rattle.node_core.proofs.Names.{appointing, befallen, id_of, is_done, is_refusal, is_resolved, last_number, made_by, nearest, next_place, NodeValue, PacketCopy, packets_hearing, Responds}
use Rattle.node_core.proofs.node.Node.hear_response.Goals as goal

pub returns-clause-heeds : goal.returns-clause-heeds
returns-clause-heeds c =
    let at : (List PacketCopy → Bool) → NodeValue → Option ℕ = λ test v. made_by test v c.args.port c.args.gateway
    (Responds c.args.cause (map (nearest (Some (last_number v.gateways c.args.gateway))) c.args.responded)) in
    let address : c.self.inside.address ≡ c.args.self.now.address = ap (λ (v : NodeValue). v.address) c.self.view_is in
    let resolved = c.learn-made.ensures.resolved ∙ ap (at is_resolved) c.end_quiet.ensures in
    let done = c.learn-made.ensures.done ∙ ap (at is_done) c.end_quiet.ensures in
    c.telling.ensures ∙ (λ i. record { reply = None; drop = None; resolved = id_of (address i) (resolved i); done = id_of (address i) (done i) })

pub returns-clause-node : goal.returns-clause-node
returns-clause-node c =
    let moved : Option ℕ =
    if (c.args.gateway == c.args.self.now.favourite_place) && is_refusal c.args.port c.args.cause
    then next_place (length c.args.self.now.gateways) c.args.gateway else None in
    let learnt : NodeValue → NodeValue = λ v. record v {
      packets = packets_hearing c.args.port c.args.gateway
          (Responds c.args.cause (map (nearest (Some (last_number v.gateways c.args.gateway))) c.args.responded)) v.packets;
    } in
    c.appoint.ensures
    ∙ ap (λ (o : Option ℕ). befallen (appointing o) c.learn-made.new.self) c.refused-moved.ensures.moved
    ∙ ap (befallen (appointing moved)) (c.learn-made.ensures.packets ∙ ap learnt c.end_quiet.ensures)
