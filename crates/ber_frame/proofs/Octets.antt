-- Octets are below 256.
use Rattle.std.proofs.Common.{ℕ, suc, ◌<◌, List, [], ◌∷◌, All, arith, get_or}
use Rattle.ber_frame.proofs.Heads.{IsOctets}

pub are_octets : (octets : List ℕ) → ((i : ℕ) → get_or octets i 0 < 256) → IsOctets octets
are_octets [] small = tt
are_octets (a ∷ octets) small = (small 0, are_octets octets (λ i. small (suc i)))

pub all_octets : (octets : List ℕ) → All (λ octet. octet < 256) octets → IsOctets octets
all_octets [] small = tt
all_octets (a ∷ octets) small = (small 0 0 (omega arith), all_octets octets (λ k d below. small (suc k) d (omega arith)))
