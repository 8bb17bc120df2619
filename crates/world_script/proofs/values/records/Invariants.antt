use Rattle.std.proofs.Common.{◌≡◌, drop, map}
use Rattle.world_script.specs.Values.{records_of}
use Rattle.world_script.proofs.ArityLemmas.{after_records}
use Rattle.world_script.proofs.values.records.Given as goal

-- the records so far, and those of the words that are left, are all of them
abbrev pub invariant-loop-word : goal.invariant-loop-word
invariant-loop-word l =
    after_records l.records.items (records_of (map (λ word. word.now) (drop l.word-index l.words))) ≡ records_of (map (λ word. word.now) l.words)
