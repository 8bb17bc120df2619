use Rattle.std.proofs.Common.{◌≡◌, length, vec_capacity}
use Rattle.loop_run.proofs.Names.{HasMadeSeats, Keeps}
use Rattle.loop_run.proofs.seating.seat_nodes.Given as goal

-- the nodes in front were made
abbrev pub invariant-loop-place : goal.invariant-loop-place
invariant-loop-place g l = record {
  has : HasMadeSeats g.L.Link.Link l.fn.setup (g.L.Links.state l.initial.links) (g.L.Links.state l.links) l.seats.items;
  count : length l.seats.items ≡ l.place;
  keeps : Keeps (g.L.Links.state l.initial.links) (g.L.Links.state l.links);
  room : vec_capacity l.seats ≡ vec_capacity l.initial.seats;
}
