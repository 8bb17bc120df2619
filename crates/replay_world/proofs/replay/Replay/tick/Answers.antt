use Rattle.std.proofs.Common.{◌≡◌, ◌∙◌, refl, ap, ◌<◌, length, map, arith, set}
use Rattle.replay_world.proofs.Names.{get_or_from_slice_get, message_kept, NodeValue, on_ok_weaker, slice_get_read}
use Rattle.replay_world.proofs.NodeEventLemmas.{no_node_beyond}
use Rattle.replay_world.proofs.NodeSubmitLemmas.{node_running, ticked}
use Rattle.replay_world.proofs.RefusalLemmas.{read_at}
use Rattle.replay_world.proofs.replay.Replay.tick.Goals as goal

pub returns-then-index-len : goal.returns-then-index-len
returns-then-index-len c = λ v number stands is none.
    no_node_beyond _ stands is none
    (omega (arith, c.if-index-len.true, c.len.ensures, c.from-index.ensures, c.args.self.now.nodes.ok.0))

pub returns-then-not-runs : goal.returns-then-not-runs
returns-then-not-runs c = λ v number stands is none.
    let has = read_at _ c.from-index.ensures
    (omega (arith, c.if-index-len.false, c.len.ensures, c.args.self.now.nodes.ok.0)) c.index.ensures in
    cc (node_running v _ _ _ _ stands is none has, c.runs.ensures, c.if-not-runs.true)

pub returns : goal.returns
returns c = λ v number stands is none.
    let within : c.from-index.result < length c.args.self.now.nodes.items =
    omega (arith, c.if-index-len.false, c.len.ensures, c.args.self.now.nodes.ok.0) in
    let has = read_at _ c.from-index.ensures within c.index_mut.ensures.value in
    let one : c.index-2.result.now ≡ c.index_mut.result.now =
    c.index-2.ensures
    ∙ get_or_from_slice_get c.args.self.now.nodes.items c.from-index.result c.index_mut.result.now _
    (slice_get_read c.args.self.now.nodes.items (length c.args.self.now.nodes.items) c.from-index.result
    c.index_mut.result.now refl within c.index_mut.ensures.value) in
    on_ok_weaker c.send_all.result
    (λ sends. ticked c.a_node_stands_for_its_log.ensures v _ _ _ _ _ _ _ _ _ stands is none has refl
    (ap (λ k. set c.args.self.now.nodes.items k c.tick.new.self) c.from-index.ensures
    ∙ ap (set c.args.self.now.nodes.items c.args.place) c.in_ok-sent.ensures.node)
    (c.in_ok-messages.ensures
    ∙ ap (λ k. map (message_kept c.args.place k) c.in_ok-sent.sent.items)
    (c.counter-start.ensures ∙ ap (λ (n : NodeValue). n.paths.counter) one)
    ∙ ap (map (message_kept c.args.place c.index_mut.result.now.paths.counter)) c.in_ok-sent.ensures.sent) sends)
    c.send_all.ensures
