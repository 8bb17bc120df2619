use Rattle.std.proofs.Common.{◌≡◌, ◌+◌, ◌-◌, ◌<◌, ◌≤◌, ◌^◌, count_by, false, length, take}
use Rattle.cgf_jobs.proofs.Names.{HasAdvanced, is_broken, is_part, items_of, settings_in, shelf_tells, taken_of}
use Rattle.cgf_jobs.proofs.files.give_all.Given as goal

-- the items of the parts that were given are taken, and their records counted
abbrev pub invariant-loop-count : goal.invariant-loop-count
invariant-loop-count l = record {
  ready : is_broken l.writer ≡ false;
  taken : taken_of l.writer ≡ l.taken;
  short : l.count ≤ 4096;
  settings : settings_in l.writer ≡ settings_in l.fn.writer;
  same : l.gateway ≡ l.fn.gateway;
  given : HasAdvanced shelf_tells (λ s. 0) (take l.taken (items_of l.fn.gateway.history)) l.fn.writer l.writer;
  records : l.records ≡ count_by is_part (take l.taken (items_of l.fn.gateway.history));
  some : l.taken ≤ length (items_of l.fn.gateway.history);
  few : l.taken < 2 ^ 31;
  all : l.count < 4096 → l.taken ≡ length (items_of l.fn.gateway.history);
}

abbrev pub decreases-loop-count : goal.decreases-loop-count
decreases-loop-count l = 2 ^ 31 + l.count - l.taken
