use Rattle.std.proofs.Common.{◌≡◌, ◌∙◌, sym, ◌-◌, length, arith}
use Rattle.std.proofs.lemmas.Option.{slice_get_past}
use Rattle.replay_world.proofs.RefusalLemmas.{no_node_runs, node_runs, read_in}
use Rattle.replay_world.proofs.replay.Replay.runs.Goals as goal

pub returns-in-Some : goal.returns-in-Some
returns-in-Some c = λ v stands.
    c.runs.ensures ∙ node_runs v _ stands _ _
    (read_in c.deref.ensures.value c.index_of.ensures c.in-Some.ensures.lookup.3.0 c.in-Some.ensures.lookup.1)

pub returns-in-None : goal.returns-in-None
returns-in-None c = λ v stands.
    let count : length c.deref.result.now ≡ length c.args.self.now.nodes.items = cc c.deref.ensures.value in
    sym
    (no_node_runs v _ stands _
    (slice_get_past c.args.self.now.nodes.items (c.args.node - 1)
    (omega (arith, c.in-None.ensures.lookup.3, c.index_of.ensures))))
