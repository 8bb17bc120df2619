use Rattle.std.proofs.Common.{◌≡◌, ◌++◌, take, drop, map}
use Rattle.cgf_journal.proofs.Names.{KeptKey, settled_key}
use Rattle.cgf_journal.proofs.sorted.settle_keys.Given as goal

-- the keys so far are settled, and the others are as they were
abbrev pub invariant-loop-key : goal.invariant-loop-key
invariant-loop-key l = l.keys ≡ map (λ (kept : KeptKey). settled_key l.firm l.round kept) (take l.key-index l.initial.keys) ++ drop l.key-index l.initial.keys
