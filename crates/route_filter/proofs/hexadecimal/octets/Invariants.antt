use Rattle.std.proofs.Common.{◌≡◌, map}
use Rattle.route_filter.specs.Words.{octets_of}
use Rattle.route_filter.proofs.HexadecimalLemmas.{after_octets, from_place}
use Rattle.route_filter.proofs.hexadecimal.octets.Given as goal

-- the octets so far, and those of the words that are left, are all of them
abbrev pub invariant-loop-word : goal.invariant-loop-word
invariant-loop-word l =
    after_octets l.octets.items (octets_of (from_place l.words l.word-index)) ≡ octets_of (map (λ word. word.now) l.words)
