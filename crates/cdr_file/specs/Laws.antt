-- How many octets CDRs have, and kinds in the form of a profile, for proofs above.
use Rattle.std.proofs.Common.{◌≡◌, ℕ, ◌+◌, List, [], ◌∷◌, length, length-append, sum_by, ap, refl, arith}
use Rattle.std.specs.Prelude.{◌==◌, ◌&&◌, ◌||◌, Bool, true, false, Option, None, Some, is_some}
use Rattle.std.proofs.lemmas.Bool.{eqb-true}
use Rattle.std.proofs.lemmas.List.Sums.{sum_by-cons}
use Rattle.gw_base.specs.CdrKind.{IsCdrKind}
use Rattle.gw_base.specs.declared.kind.CdrKind.{CdrKind}
use Rattle.cdr_file.specs.CdrFile.{FiledRecord, cdr_length, cdr_octets, run_octets}
use Rattle.cdr_file.specs.CdrHeader.{cdr_header_octets}
use Rattle.cdr_file.specs.Profile.{IsExtension, IsFiledKind, MayExtend, extension_if, extension_octets, in_profile}
use Rattle.cdr_file.specs.declared.cdr_header.CdrHeader.{CdrHeader}

-- a CDR's header has four octets, and that of an extension
pub length-cdr_header_octets : (header : CdrHeader)
    → length (cdr_header_octets header) ≡ 4 + length (extension_octets header.extension)
unfolding cdr_header_octets
length-cdr_header_octets header = omega arith

-- a CDR has as many octets as its length says
pub length-cdr_octets : (filed : FiledRecord) → length (cdr_octets filed) ≡ cdr_length filed
length-cdr_octets filed =
    omega (arith, length-append {A = ℕ}, length-cdr_header_octets)

-- and so have the CDRs of a run
pub length-run_octets : (run : List FiledRecord) → length (run_octets run) ≡ sum_by cdr_length run
length-run_octets [] = refl
length-run_octets (first ∷ later) =
    omega (arith, length-append (cdr_octets first) (run_octets later), length-cdr_octets first, length-run_octets later, sum_by-cons cdr_length first later)

-- a kind that a header can say is one in the form of each profile
pub in_profile-fits : (profile : ℕ) (kind : CdrKind) → IsCdrKind kind → IsFiledKind (in_profile profile kind)
in_profile-fits profile kind is = record {
  release = is.release;
  version = is.version;
  format = is.format;
  extension = by (profile == 2) (kind.release == 7) refl;
}
  where
    by : (extends seven : Bool) → (kind.release == 7) ≡ seven
        → MayExtend kind.release (extension_if (extends && seven) kind.extension)
    by true true e = (eqb-true kind.release 7 e, omega (arith, is.extension))
    by true false e = tt
    by false seven e = tt

-- where both releases of a header are one, it extends releases where this one has an extension
pub extends_one : (release : ℕ) (extension : Option ℕ) → MayExtend release extension
    → IsExtension ((is_some extension || is_some extension) && (release == 7)) extension
extends_one release None may = refl
extends_one release (Some extension) may = (ap (λ (n : ℕ). n == 7) may.0, may.1)
