use Rattle.std.proofs.Common.{◌≡◌, ◌+◌, length, filter, take}
use Rattle.cgf_journal.proofs.Names.{HeldKey, keys_of, Release, stays_held}
use Rattle.cgf_journal.proofs.Changes.{AreBelow}
use Rattle.cgf_journal.proofs.sorted.SortedKeys.count_listed.Given as goal

-- the numbers so far are counted, and each is below the least that may follow
abbrev pub invariant-loop-number : goal.invariant-loop-number
invariant-loop-number l = record {
  counted : l.gone + length (filter (λ (key : HeldKey). stays_held (Release l.node (take l.number-index l.numbers)) key) (keys_of l.firm l.self)) ≡ length (keys_of l.firm l.self);
  below : AreBelow l.least (take l.number-index l.numbers);
}
