use Rattle.std.proofs.Common.{None, [], refl, ap}
use Rattle.node_session.proofs.Names.{and_parts, BookValue, drops_of, fortune_of, value_of}
use Rattle.node_session.proofs.listing.ListingTurnBook.run.Goals as goal

pub returns-clause-owes : goal.returns-clause-owes
returns-clause-owes g c =
    (c.a_turn_owes.ensures.items c.args.value.now c.items.new.self None c.items.ensures.unchanged c.items.ensures.cause.later).owes

pub returns-clause-does : goal.returns-clause-does
returns-clause-does g c =
    let old = c.args.value.now in let new = c.items.new.self in (
      drops_of (fortune_of old new) (value_of old),
      [],
      (c.a_turn_owes.ensures.items old new None c.items.ensures.unchanged c.items.ensures.cause.later).adds,
      record {
        listed = λ told. c.items.ensures.items (and_parts _ _ told);
        writable = c.items.ensures.writable;
        firm = λ told. ap (λ (v : BookValue). v.firm) (c.items.ensures.unchanged.value (and_parts _ _ told));
        device = c.items.ensures.cause.device;
        still = c.items.ensures.cause.still;
        adds = refl;
      },
    )
