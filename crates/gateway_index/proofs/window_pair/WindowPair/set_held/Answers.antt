use Rattle.std.proofs.Common.{sym, ◌∙◌, rules}
use Rattle.gateway_index.specs.WindowPairs.{seen_in}
use Rattle.gateway_index.proofs.PairLemmas.{held_stepped, may_set_held, other_stayed}
use Rattle.gateway_index.proofs.window_pair.WindowPair.set_held.Goals as goal

pub set-requires : goal.set-requires
unfolding seen_in
set-requires c = search (rules, may_set_held)

pub returns-then-not-holds : goal.returns-then-not-holds
returns-then-not-holds c = other_stayed c.args.number c.args.state c.args.self.now (sym c.holds.ensures ∙ c.if-not-holds.true)

pub returns : goal.returns
returns c = held_stepped c.args.number c.args.state (sym c.holds.ensures ∙ c.if-not-holds.false) c.set.ensures
