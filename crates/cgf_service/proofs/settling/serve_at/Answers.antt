use Rattle.std.proofs.Common.{rules}
use Rattle.cgf_service.specs.Serving.{address_in}
use Rattle.cgf_service.proofs.ServingLemmas.{served, unserved}
use Rattle.cgf_service.proofs.settling.serve_at.Goals as goal

pub returns-in-Some : goal.returns-in-Some
returns-in-Some g c =
    unserved _ _ _ _ _ _ _ c.what_links_sent.ensures _ _ _ _ _ _ c.in-Some.is c.requires.broken
    (c.requires.turns (address_in c.args.serving)) c.length-length.ensures.sound c.make_links-made.ensures.made
    c.give_back.ensures

pub returns : goal.returns
returns g c =
    served _ _ _ _ _ _ _ c.what_links_sent.ensures c.what_is_in_turn_stays_so.ensures.heard c.what_is_in_turn_stays_so.ensures.replies
    _ _ _ _ _ _ _ _ _ _ _ c.make_links-made.ensures.made (search rules)
    (record {
      history = c.run-gateway.ensures.history;
      replies = c.run-gateway.ensures.replies;
      stays = c.run-gateway.ensures.book;
      five = c.run-gateway.ensures.links;
      turns = c.run-gateway.ensures.turns;
      kept = c.run-gateway.ensures.writer;
      later = c.run-gateway.ensures.clock;
      cause = c.run-gateway.ensures.cause;
    })
    c.give_back-2.ensures (c.requires.turns (address_in c.args.serving)) c.requires.within.most
