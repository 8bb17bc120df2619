use Rattle.std.proofs.Common.{◌≡◌, ◌-◌}
use Rattle.turn_cell.proofs.Names.{AreNew, AreResting, newcomers_from, vec_capacity, vec_len}
use Rattle.turn_cell.proofs.making.make.Given as goal

abbrev pub invariant-loop : goal.invariant-loop
invariant-loop g l = record {
  table : l.place.table_id ≡ l.initial.place.table_id;
  rests : AreResting l.place (newcomers_from (g.V.Counted.facts l.words.key.value.value) l.counter (l.count - l.counter));
  count : vec_len l.all ≡ l.counter;
  room : vec_capacity l.all ≡ vec_capacity l.initial.all;
  all : AreNew l.words.table_id (g.V.Counted.facts l.words.key.value.value) l.counter l.all.items;
}
