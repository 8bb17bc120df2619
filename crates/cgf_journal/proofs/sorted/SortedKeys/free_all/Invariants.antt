use Rattle.std.proofs.Common.{◌≡◌, filter, take}
use Rattle.cgf_journal.proofs.Names.{GrowsBy, HeldKey, live_keys, Release, stays_held}
use Rattle.cgf_journal.proofs.sorted.SortedKeys.free_all.Given as goal

-- the numbers so far are let go
abbrev pub invariant-loop-number : goal.invariant-loop-number
invariant-loop-number l = record {
  grows : GrowsBy 0 l.fn.self l.self;
  live : live_keys l.self ≡ filter (λ (key : HeldKey). stays_held (Release l.fn.node (take l.number-index l.numbers)) key) (live_keys l.fn.self);
}
