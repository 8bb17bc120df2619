use Rattle.std.proofs.Common.{ℕ, subst}
use Rattle.once_core.proofs.Names.{log_of, MaySend, packets_in}
use Rattle.once_core.proofs.FollowSentLemmas.{all_known, all_sent}
use Rattle.once_core.proofs.once_laws.a_node_follows_the_procedure.Goals as goal

pub returns : goal.returns
returns c = λ setup calls node start values some.
    let known = all_known setup node values (λ before. c.a_node_knows_what_it_was_told.ensures setup before node values some) calls start in
    let sent = all_sent c.knowledge_grows.ensures node values setup (λ before running. c.requests_are_of_copies.ensures setup before some running) calls in
    record {
      roles = known.roles;
      plain = known.plain;
      choice = known.choice;
      rests = known.rests;
      sends = λ letter there at. subst (λ (s : ℕ). MaySend (packets_in s (log_of setup calls)) values letter letter.says) at (sent letter there);
    }
