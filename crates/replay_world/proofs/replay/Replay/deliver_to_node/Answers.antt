use Rattle.std.proofs.Common.{◌≡◌, ◌∙◌, refl, sym, ap, ◌-◌, ◌<◌, true, false, length, Some, None, slice_get, arith, set}
use Rattle.replay_world.proofs.Names.{gateway_address, is_expired_at_node, Message, on_ok_weaker, passed, slice_get_past, slice_get_read}
use Rattle.replay_gateway.specs.Ends.{ends_kept}
use Rattle.replay_gateway.specs.declared.messages.Ends.{Ends}
use Rattle.replay_world.proofs.NodeEventLemmas.{message_is, at_world, counter_there, down_told, expired_told, hears}
use Rattle.replay_world.proofs.RefusalLemmas.{no_node_runs, node_at, node_runs, read_at}
use Rattle.replay_world.proofs.replay.Replay.deliver_to_node.Goals as goal

-- its message was sent, so it is there
pub returns-then-at-len : goal.returns-then-at-len
returns-then-at-len c = λ v stands to.
    let gone : slice_get c.args.self.now.messages.items (c.args.number - 1) ≡ None =
    slice_get_past c.args.self.now.messages.items (c.args.number - 1)
    (omega (arith, c.if-at-len.true, c.index_of-at.ensures, c.args.self.now.messages.ok.0)) in
    let there : slice_get c.args.self.now.messages.items (c.args.number - 1) ≡ Some to.message =
    cc (stands.messages, to.sent) in
    cc

pub returns-then-index-len : goal.returns-then-index-len
returns-then-index-len c = λ v stands to.
    let old = c.args.self.now in
    let gone : slice_get old.nodes.items c.args.place ≡ None =
    slice_get_past old.nodes.items c.args.place
    (omega (arith, c.if-index-len.true, c.len-2.ensures, c.from-index.ensures)) in
    on_ok_weaker _ (λ told. down_told v _ _ to _ stands (no_node_runs _ old stands _ gone) told) c.print_down.ensures

pub returns-then-not-runs : goal.returns-then-not-runs
returns-then-not-runs c = λ v stands to.
    let old = c.args.self.now in
    let has = read_at _ c.from-index.ensures (omega (arith, c.if-index-len.false, c.len-2.ensures)) c.index.ensures in
    on_ok_weaker _ (λ told. down_told v _ _ to _ stands
    (sym (node_runs _ old stands _ _ has) ∙ sym c.runs.ensures
    ∙ c.if-not-runs.true) told) c.print_down-then-not-runs.ensures

pub returns-then-is_expired_at_node : goal.returns-then-is_expired_at_node
returns-then-is_expired_at_node c = λ v stands to.
    let old = c.args.self.now in
    let u = passed c.args.number v in
    let within : c.from-index.result < length old.nodes.items = omega (arith, c.if-index-len.false, c.len-2.ensures) in
    let has = read_at _ c.from-index.ensures within c.index.ensures in
    let has_tested = read_at _ c.from-index.ensures within c.index-3.ensures in
    let sent = read_at _ c.index_of-at.ensures (omega (arith, c.if-at-len.false, c.len.ensures)) c.index-4.ensures in
    let message = message_is to stands sent in
    let there = at_world v _ (node_at u old stands _ has_tested) in
    let running : c.index-3.result.now.is_running ≡ true =
    node_runs u old stands _ _ has_tested ∙ sym (node_runs u old stands _ _ has) ∙ sym c.runs.ensures
    ∙ c.if-not-runs.false in
    on_ok_weaker _
    (λ told. expired_told v _ _ to there _ stands running
    (cc (c.is_expired_at_node.ensures there.log (counter_there there), c.if-is_expired_at_node.true)) told)
    c.print_expired.ensures

pub returns : goal.returns
returns c = λ v stands to.
    let old = c.args.self.now in
    let u = passed c.args.number v in
    let n = c.index_mut.result.now in
    let tested = c.index-3.result.now in
    let within : c.from-index.result < length old.nodes.items = omega (arith, c.if-index-len.false, c.len-2.ensures) in
    let has_first = read_at _ c.from-index.ensures within c.index.ensures in
    let has_tested = read_at _ c.from-index.ensures within c.index-3.ensures in
    let has = read_at _ c.from-index.ensures within c.index_mut.ensures.value in
    let within_messages : c.index_of-at.result < length old.messages.items =
    omega (arith, c.if-at-len.false, c.len.ensures) in
    let sent : (m : Message) → slice_get old.messages.items c.index_of-at.result ≡ Some m → m ≡ to.message =
    λ m is. message_is to stands (ap (slice_get old.messages.items) (sym c.index_of-at.ensures) ∙ is) in
    let first = sent c.index-2.result.now
    (slice_get_read old.messages.items (length old.messages.items) c.index_of-at.result c.index-2.result.now refl
    within_messages c.index-2.ensures) in
    let second = sent c.index-4.result.now
    (slice_get_read old.messages.items (length old.messages.items) c.index_of-at.result c.index-4.result.now refl
    within_messages c.index-4.ensures) in
    let third = sent c.index-5.result.now
    (slice_get_read old.messages.items (length old.messages.items) c.index_of-at.result c.index-5.result.now refl
    within_messages c.index-5.ensures) in
    let one : tested ≡ n = cc in
    let there = at_world v _ (node_at u old stands _ has) in
    let running : n.is_running ≡ true =
    node_runs u old stands _ n has ∙ sym (node_runs u old stands _ _ has_first) ∙ sym c.runs.ensures
    ∙ c.if-not-runs.false in
    let fresh : is_expired_at_node there.log n to.message ≡ false =
    sym (ap (is_expired_at_node there.log n) second)
    ∙ sym (ap (λ k. is_expired_at_node there.log k c.index-4.result.now) one)
    ∙ sym (c.is_expired_at_node.ensures there.log (cc (counter_there there))) ∙ c.if-is_expired_at_node.false in
    let ends : c.of-ends.result ≡ ends_kept to.message = c.of-ends.ensures ∙ ap ends_kept first in
    on_ok_weaker c.print_heeded.result
    (λ told. hears v _ _ to c.a_node_stands_for_its_log.ensures n there _ _ _ _ (ap (λ (e : Ends). e.port) ends)
    (c.gateway_address.ensures ∙ ap (λ (e : Ends). gateway_address e.gateway) ends)
    (c.octets.ensures ∙ ap (λ (m : Message). m.octets) third) running fresh stands refl
    (ap (λ k. set old.nodes.items k c.hear-heeded.new.self) c.from-index.ensures) c.hear-heeded.ensures.node
    c.hear-heeded.ensures.heeds (c.in_ok-send_reply.ensures to.message ends) told) c.print_heeded.ensures
