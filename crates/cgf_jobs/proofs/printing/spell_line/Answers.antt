use Rattle.std.proofs.Common.{ℕ, slice_index, refl, ap, arith}
use Rattle.std.proofs.lemmas.Nat.{and_mask}
use Rattle.hex.proofs.Pairs.{encode_step}
use Rattle.hex.specs.Hex.{upper_digits}
use Rattle.cgf_jobs.proofs.PrintLemmas.{line_spelt}
use Rattle.cgf_jobs.proofs.printing.spell_line.Goals as goal

pub octets-preserved : goal.octets-preserved
octets-preserved c =
    let octet : ℕ = slice_index c.args.octets.now c.octets.k in
    encode_step upper_digits c.args.octets.now c.octets.line c.octets.k _ _ (omega arith) (omega arith) refl (ap (λ (n : ℕ). slice_index upper_digits n) (and_mask octet 4)) c.octets.invariant

pub returns : goal.returns
returns c =
    line_spelt c.args.octets.now c.octets.line c.octets.k (omega arith) (omega arith) c.octets.invariant (omega arith)
