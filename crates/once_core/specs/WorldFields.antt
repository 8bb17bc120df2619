-- What the fields of a world that runs mean, and what holds of them.
use Rattle.once_core.specs.Standing.{WorldKept}
use Rattle.once_core.specs.declared.world.World.TheInside.{Inside}

abbrev pub world_value : Inside → WorldKept
world_value w = record {
  gateways = w.gateways.items;
  nodes = w.nodes.items;
  moment = w.moment;
  messages = w.messages.items;
  is_spent = w.is_spent;
}
