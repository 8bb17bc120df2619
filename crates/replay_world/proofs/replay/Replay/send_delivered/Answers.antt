use Rattle.replay_world.proofs.replay.Replay.send_delivered.Goals as goal

pub returns : goal.returns
returns c = record {
  middle = c.send_moved.new.out;
  sent = c.in_ok-goes_on.ensures.sent;
  told = c.in_ok-print_ending.ensures;
  goes = c.in_ok-goes_on.ensures.on;
}
