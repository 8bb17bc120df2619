use Rattle.std.proofs.Common.{refl, arith}
use Rattle.replay_world.proofs.NodeEventLemmas.{no_start_beyond, start_halted, started}
use Rattle.replay_world.proofs.RefusalLemmas.{read_at}
use Rattle.replay_world.proofs.replay.Replay.start.Goals as goal

pub returns-then-index-len : goal.returns-then-index-len
returns-then-index-len c = λ v number stands is none.
    no_start_beyond v _ stands is none
    (omega (arith, c.if-index-len.true, c.len.ensures, c.from-index.ensures, c.args.self.now.nodes.ok.0))

pub returns-then-runs : goal.returns-then-runs
returns-then-runs c = λ v number stands is none.
    let has = read_at _ c.from-index.ensures
    (omega (arith, c.if-index-len.false, c.len.ensures, c.args.self.now.nodes.ok.0)) c.index.ensures in
    cc (c.if-runs.true, c.runs.ensures, start_halted v _ _ _ _ stands is none has)

pub returns : goal.returns
returns c = λ v number stands is none.
    let has = read_at _ c.from-index.ensures
    (omega (arith, c.if-index-len.false, c.len.ensures, c.args.self.now.nodes.ok.0)) c.index_mut.ensures.value in
    started c.a_node_stands_for_its_log.ensures v _ _ _ _ _ stands is none has refl
    (cc (c.from-index.ensures, c.start.ensures))
