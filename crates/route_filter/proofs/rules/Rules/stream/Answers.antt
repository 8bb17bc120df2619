use Rattle.std.proofs.Common.{Some, None}
use Rattle.route_filter.proofs.StartLemmas.{found_stream}
use Rattle.route_filter.proofs.rules.Rules.stream.Goals as goal

pub returns-in-Some-clause-stream : goal.returns-in-Some-clause-stream
returns-in-Some-clause-stream c =
    found_stream c.self.inside.starts c.self.inside.rules.items c.deref.result.now c.split_at.result.1.now c.args.self.now c.start_of.result
    c.args.format c.args.tag c.first_match.result (Some c.in-Some.rule) c.self.invariant.1 c.start_of.ensures c.deref.ensures.value
    c.split_at.ensures.back c.first_match.ensures.first c.self.view_is c.in-Some.is

pub returns-in-None-clause-stream : goal.returns-in-None-clause-stream
returns-in-None-clause-stream c =
    found_stream c.self.inside.starts c.self.inside.rules.items c.deref.result.now c.split_at.result.1.now c.args.self.now c.start_of.result
    c.args.format c.args.tag c.first_match.result None c.self.invariant.1 c.start_of.ensures c.deref.ensures.value
    c.split_at.ensures.back c.first_match.ensures.first c.self.view_is c.in-None.is
