use Rattle.std.proofs.Common.{◌≡◌, ◌∙◌, sym, ap, [], ◌∷◌, rules}
use Rattle.replay_world.proofs.Names.{Began, nodes_from, rules_in, setup_of, times_of}
use Rattle.replay_world.proofs.BeginningLemmas.{begun_stands}
use Rattle.replay_world.proofs.replay.Replay.new.Goals as goal

pub returns-clause-stands : goal.returns-clause-stands
returns-clause-stands c =
    let s = setup_of c.args.script.now.lines in
    let set = c.of-settings.ensures.set in
    let each = rw (← set.gateways) at (c.in_ok-gateways.ensures set) in
    let nodes : c.in_ok-nodes.nodes.items ≡ nodes_from s.gateways 0 (times_of s.nodes (Began ∷ [])) =
    c.in_ok-nodes.ensures c.of-settings.result.gateways (c.deref.ensures.value ∙ c.in_ok-addresses.ensures.addresses)
    ∙ ap (λ n. nodes_from n 0 (times_of c.of-settings.result.nodes (Began ∷ []))) (sym set.gateways)
    ∙ ap (λ n. nodes_from s.gateways 0 (times_of n (Began ∷ []))) (sym set.nodes) in
    let reached = c.turns_reach_worlds.ensures.alike (rules_in s) s.gateways s.nodes []
    (rw set.gateways c.of-settings.ensures.sound.some) in
    begun_stands s _ reached each (search rules) (search rules) nodes (search rules) (search rules) (search rules)
    (search rules) (search rules) (search rules) (search rules) (search rules)

pub returns-clause-gateways : goal.returns-clause-gateways
returns-clause-gateways c = rw c.of-settings.ensures.set.gateways c.of-settings.ensures.sound.some
