use Rattle.std.proofs.Common.{◌≡◌, ◌-◌}
use lib.ListN.{replicate}
use Rattle.std.specs.Prelude.{vec_capacity, vec_len}
use Rattle.job_inbox.specs.Inbox.{ArePassesOf, Has, known_by}
use Rattle.job_inbox.specs.Rule.{idle}
use Rattle.job_inbox.proofs.making.deal.Given as goal

-- so many passes have seats of their own, and the others are in one
abbrev pub invariant-loop : goal.invariant-loop
invariant-loop l = record {
  seat : Has l.inbox l.seat (replicate (l.inbox.made - l.counter) idle);
  count : vec_len l.all ≡ l.counter;
  room : vec_capacity l.all ≡ vec_capacity l.initial.all;
  own : ArePassesOf l.inbox l.all.items;
  idle : known_by l.all.items ≡ replicate l.counter idle;
}
