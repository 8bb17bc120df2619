use Rattle.std.proofs.Common.{◌≡◌, refl, subst₂, ◌+◌, [], ◌∷◌, length, take, take_all, Some, slice_get, arith, rules, length-append, vec_capacity}
use Rattle.replay_world.proofs.Names.{EachHandedOut, slice_get_read, YieldsList-end, YieldsList-from_vec, YieldsList-turn}
use Rattle.replay_world.proofs.HandedLemmas.{area_there, handed_lengths, handed_next, room_left}
use Rattle.replay_world.proofs.StandsLemmas.{each_at, each_lengths}
use Rattle.replay_world.proofs.replay.hand_out.Goals as goal

pub loop-machine-init : goal.loop-machine-init
loop-machine-init c = λ setup gs ms each room. (
  rw room.no_shelves (rw room.no_areas tt),
  room.many_areas,
  room.many_shelves,
)

pub loop-machine-preserved : goal.loop-machine-preserved
loop-machine-preserved c = λ setup gs ms each room.
    let so_far = c.loop-machine.invariant setup gs ms each room in
    let n = length c.loop-machine.yielded in
    let most = length c.args.machines.items in
    let turn = YieldsList-turn
    (YieldsList-from_vec {s = c.into_iter-machine-iterator.result} c.args.machines.items (search rules) (search rules))
    c.loop-machine.yielded c.loop-machine.machine-iterator c.loop-machine.yielded_by c.next.result c.next.new.self
    c.in-Some.machine c.in-Some.is c.next.ensures.steps in
    let has : slice_get c.args.machines.items n ≡ Some c.in-Some.machine =
    slice_get_read c.args.machines.items most n c.in-Some.machine refl turn.0 turn.1 in
    let here = each_at _ 0 gs ms _ each n has in
    let there = area_there setup (0 + n) here.gateway here.machine _ c.into_parts-area.result.1
    (c.into_parts-area.ensures setup (0 + n) here.gateway here.machine here.stands) in
    let counts = handed_lengths _ 0 _ _ _ _ so_far.0 in
    let areas = c.keep.ensures.areas there.0 there.1
    (omega (
      arith,
      room_left n most (vec_capacity c.loop-machine.areas) gs _ counts.0 turn.0 so_far.1,
      c.loop-machine.areas.ok.0,
    )) in
    let shelves = c.keep.ensures.shelves
    (omega (
      arith,
      room_left n most (vec_capacity c.loop-machine.shelves) gs _ counts.1 turn.0 so_far.2,
      c.loop-machine.shelves.ok.0,
    )) in (
      handed_next _ gs ms n _ _ _ (omega (arith, length-append c.loop-machine.yielded (c.in-Some.machine ∷ []))) areas.0
          shelves.0 so_far.0 here.has_gateway here.has_machine there.2,
      omega arith,
      omega arith,
    )

pub returns : goal.returns
returns c = λ setup gs ms each room.
    let end = YieldsList-end
    (YieldsList-from_vec {s = c.into_iter-machine-iterator.result} c.args.machines.items (search rules) (search rules))
    c.loop-machine.yielded c.loop-machine.machine-iterator c.loop-machine.yielded_by c.next.result c.next.new.self
    c.in-None.is c.next.ensures.steps in
    let n = length c.loop-machine.yielded in
    let counts = each_lengths _ 0 gs ms _ each in
    let gateways : take n gs ≡ gs = take_all n gs (omega arith) in
    let machines : take n ms ≡ ms = take_all n ms (omega arith) in
    subst₂ (λ xs ys. EachHandedOut setup 0 xs ys c.loop-machine.areas.items c.loop-machine.shelves.items) gateways
    machines (c.loop-machine.invariant setup gs ms each room).0
