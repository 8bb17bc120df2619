-- An area that stands for batches, or is none of ours, isn't made anew.
use Rattle.std.proofs.Common.{◌≡◌, ⊎_elim, ℕ, List, length, get_or}
use Rattle.gate_journal.specs.Agreeing.{front_before, same_not_starts, stands_before}
use Rattle.gate_journal.specs.Before.{AreBefore}
use Rattle.gate_journal.specs.Format.{Differs, IsBroken, IsForeign, Stands, Starts, end_of}

module _ (header : List ℕ) (long : length header ≡ 32) (begins : get_or header 0 0 ≡ 67) (octets : List ℕ) where
  pub stands_not_starts : (bs : List (List ℕ)) → Stands header octets bs → Starts header octets → ⊥
  stands_not_starts bs stands =
      same_not_starts header long
      octets (front_before header long octets (end_of bs) bs (stands_before header long octets bs stands)) begins

  pub broken_not_starts : (at : ℕ) → IsBroken header octets at → Starts header octets → ⊥
  broken_not_starts at broken =
      let before : AreBefore header octets at broken.batches =
      record { front = broken.front; small = broken.small; inside = broken.inside } in
      same_not_starts header long octets (front_before header long octets at broken.batches before) begins

  pub foreign_not_starts : (at : ℕ) → IsForeign header octets at → Starts header octets → ⊥
  foreign_not_starts at foreign =
      ⊎_elim (λ (d : Differs header octets at). d.begun) (λ b. broken_not_starts at b) foreign
