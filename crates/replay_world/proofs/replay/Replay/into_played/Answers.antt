use Rattle.replay_world.proofs.HandedLemmas.{all_at_rest}
use Rattle.replay_world.proofs.replay.Replay.into_played.Goals as goal

pub returns-clause-played : goal.returns-clause-played
returns-clause-played c = λ v stands. record {
  gateways = c.hand_out-areas.ensures v.setup v.world.gateways v.machines stands.gateways (record {
    no_areas = stands.room.no_areas;
    no_shelves = stands.room.no_shelves;
    many_areas = stands.room.areas;
    many_shelves = stands.room.shelves;
  });
  nodes = stands.nodes;
}

pub returns-clause-at_rest : goal.returns-clause-at_rest
returns-clause-at_rest c = λ v stands are. record {
  gateways = all_at_rest c.a_gateway_that_wrote_all_rests.ensures.rests _ _ _ _ _
      (c.hand_out-areas.ensures v.setup v.world.gateways v.machines stands.gateways (record {
        no_areas = stands.room.no_areas;
        no_shelves = stands.room.no_shelves;
        many_areas = stands.room.areas;
        many_shelves = stands.room.shelves;
      }))
      (λ place g m has is. are place g m has is);
  nodes = stands.nodes;
}
