-- Two lists of kept keys as one.
use Rattle.std.specs.Prelude.{ℕ, ◌||◌, true, if◌then◌else◌, nat_lt, List, [], ◌∷◌, map}
use Rattle.cgf_journal.specs.Keys.{counts, rank}
use Rattle.cgf_journal.specs.declared.key.KeptKey.{KeptKey}

-- a key of one round, as it is kept in another
abbrev pub moved_key : ℕ → ℕ → KeptKey → KeptKey
moved_key from to kept = record kept { was_held = counts true from kept; round = to }

abbrev pub moved_keys : ℕ → ℕ → List KeptKey → List KeptKey
moved_keys from to keys = map (λ kept. moved_key from to kept) keys

-- one key that is kept twice, as it is kept once in this round
abbrev pub joined_key : ℕ → KeptKey → KeptKey → KeptKey
joined_key round kept other = record kept {
  was_held = counts true round kept || counts true round other;
  is_held = kept.is_held || other.is_held;
  round = round;
}

-- a key and those after it with others, where it is known of those after it
abbrev pub merged_from : ℕ → KeptKey → List KeptKey → (List KeptKey → List KeptKey) → List KeptKey → List KeptKey
merged_from round kept keys rest [] = kept ∷ keys
merged_from round kept keys rest (other ∷ others) =
    if nat_lt (rank kept) (rank other) then kept ∷ rest (other ∷ others)
    else (if nat_lt (rank other) (rank kept) then other ∷ merged_from round kept keys rest others else joined_key round kept other ∷ rest others)

-- two lists of keys in order as one
abbrev pub merged : ℕ → List KeptKey → List KeptKey → List KeptKey
merged round [] others = others
merged round (kept ∷ keys) others = merged_from round kept keys (λ rest. merged round keys rest) others
