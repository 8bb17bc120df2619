use Rattle.std.proofs.Common.{refl, subst}
use Rattle.loop_run.proofs.Names.{Addr, AreFiveOf}
use Rattle.loop_run.proofs.running.run_gateway.Goals as goal

pub returns : goal.returns
returns g c = (
  c.requires.0,
  record {
    start = c.args.gateway.book;
    begun = c.requires.1.book;
    address = c.requires.1.address;
    last = c.run-gateway.result.last;
    history = c.run-gateway.ensures.history refl;
    replies = c.run-gateway.ensures.replies refl;
    stays = c.run-gateway.ensures.book;
    links = subst (λ (a : Addr). AreFiveOf g.L.Link a c.run-gateway.result.gateway.links.items) c.requires.1.address
        c.run-gateway.ensures.links;
    cause = c.run-gateway.ensures.cause;
  },
)
