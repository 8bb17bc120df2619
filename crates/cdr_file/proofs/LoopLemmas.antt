-- Reading CDRs one after the other.
use Rattle.std.proofs.Common.{◌≡◌, ℕ, suc, ◌+◌, ◌-◌, ◌<◌, ◌≤◌, Bool, true, false, List, [], ◌∷◌, ◌++◌, length, drop, Option, Some, None, Result, Ok, Err, refl, ap, sym, ◌∙◌, arith, append_assoc}
use Rattle.std.specs.Prelude.{◌==◌}
use Rattle.std.proofs.lemmas.Bool.{eqb-true}
use Rattle.std.proofs.lemmas.List.{append-nil, length-drop}
use Rattle.cdr_file.specs.Reading.{cdr_end, cdr_fault, cdr_in, cdrs_from, cdrs_up_to, in_front, unless}
use Rattle.cdr_file.specs.declared.fault.FileFault.{FileFault}
use Rattle.cdr_file.specs.declared.file.Cdr.{Cdr}
use Rattle.cdr_file.proofs.CdrLemmas.{none_is, step_is}

-- CDRs in front of others, where these can be read
abbrev pub all_in_front : List Cdr → Result (List Cdr) FileFault → Result (List Cdr) FileFault
all_in_front cdrs (Ok others) = Ok (cdrs ++ others)
all_in_front cdrs (Err fault) = Err fault

pub none_in_front : (read : Result (List Cdr) FileFault) → all_in_front [] read ≡ read
none_in_front (Ok others) = refl
none_in_front (Err fault) = refl

one_more : (cdrs : List Cdr) (cdr : Cdr) (read : Result (List Cdr) FileFault) → all_in_front (cdrs ++ cdr ∷ []) read ≡ all_in_front cdrs (in_front cdr read)
one_more cdrs cdr (Ok others) = ap (λ (all : List Cdr). Ok all) (append_assoc cdrs (cdr ∷ []) others)
one_more cdrs cdr (Err fault) = refl

-- more CDRs than as many as octets need not be looked for
enough : (extends : Bool) (m n place : ℕ) (octets : List ℕ) → length octets ≤ m → length octets ≤ n → cdrs_up_to extends m place octets ≡ cdrs_up_to extends n place octets
enough extends m n place [] in_m in_n = none_is extends m place ∙ sym (none_is extends n place)
enough extends (suc m) (suc n) place (octet ∷ octets) in_m in_n =
    let all : List ℕ = octet ∷ octets in
    let less : length (drop (cdr_end extends all) all) ≤ length octets = omega (arith, length-drop (cdr_end extends all) all) in
    step_is extends m place all (omega arith)
    ∙ ap (λ (read : Result (List Cdr) FileFault). unless (cdr_fault extends place all) (in_front (cdr_in extends all) read))
    (enough extends m n (place + cdr_end extends all) (drop (cdr_end extends all) all) (omega arith) (omega arith))
    ∙ sym (step_is extends n place all (omega arith))
enough extends _ _ place (octet ∷ octets) in_m in_n = absurd (omega arith)

from_step : (extends : Bool) (place : ℕ) (octets : List ℕ) → 0 < length octets →
    cdrs_from extends place octets ≡ unless (cdr_fault extends place octets) (in_front (cdr_in extends octets) (cdrs_from extends (place + cdr_end extends octets) (drop (cdr_end extends octets) octets)))
from_step extends place [] some = absurd (omega arith)
from_step extends place (octet ∷ octets) some =
    let all : List ℕ = octet ∷ octets in
    let less : length (drop (cdr_end extends all) all) ≤ length octets = omega (arith, length-drop (cdr_end extends all) all) in
    step_is extends (length octets) place all (omega arith)
    ∙ ap (λ (read : Result (List Cdr) FileFault). unless (cdr_fault extends place all) (in_front (cdr_in extends all) read))
    (enough extends (length octets) (length (drop (cdr_end extends all) all)) (place + cdr_end extends all) (drop (cdr_end extends all) all) less (omega arith))

-- whether octets are left
pub some_left : (octets : List ℕ) → (length octets == 0) ≡ false → 0 < length octets
some_left [] e = absurd cc
some_left (octet ∷ octets) e = omega arith

pub none_left : (octets : List ℕ) → (length octets == 0) ≡ true → length octets ≡ 0
none_left octets e = eqb-true (length octets) 0 e

-- where no octets are left, the CDRs so far are all
pub all_read : (extends : Bool) (place : ℕ) (cdrs : List Cdr) (octets : List ℕ) → length octets ≡ 0 → all_in_front cdrs (cdrs_from extends place octets) ≡ Ok cdrs
all_read extends place cdrs [] none = ap (all_in_front cdrs) (none_is extends 0 place) ∙ ap (λ (all : List Cdr). Ok all) (append-nil cdrs)
all_read extends place cdrs (octet ∷ octets) none = absurd (omega arith)

-- a fault is that of the whole
pub fault_read : (extends : Bool) (place : ℕ) (cdrs : List Cdr) (octets : List ℕ) (fault : FileFault) → 0 < length octets → cdr_fault extends place octets ≡ Some fault →
    all_in_front cdrs (cdrs_from extends place octets) ≡ Err fault
fault_read extends place cdrs octets fault some is =
    ap (all_in_front cdrs) (from_step extends place octets some
    ∙ ap (λ (f : Option FileFault). unless f (in_front (cdr_in extends octets) (cdrs_from extends (place + cdr_end extends octets) (drop (cdr_end extends octets) octets)))) is)

-- one more CDR was read
pub cdr_read : (extends : Bool) (whole place next : ℕ) (octets after : List ℕ) (cdrs : List Cdr) (cdr : Cdr) → 0 < length octets → length octets ≤ whole →
    place ≡ whole - length octets → cdr_fault extends place octets ≡ None → cdr_end extends octets ≤ length octets → cdr ≡ cdr_in extends octets → after ≡ drop (cdr_end extends octets) octets →
    next ≡ whole - length after →
    all_in_front (cdrs ++ cdr ∷ []) (cdrs_from extends next after) ≡ all_in_front cdrs (cdrs_from extends place octets)
cdr_read extends whole place next octets after cdrs cdr some within at no_fault end is rest then =
    let reached : next ≡ place + cdr_end extends octets = omega (arith, ap length rest, length-drop (cdr_end extends octets) octets) in
    one_more cdrs cdr (cdrs_from extends next after)
    ∙ ap (λ (n : ℕ). all_in_front cdrs (in_front cdr (cdrs_from extends n after))) reached
    ∙ ap (λ (o : List ℕ). all_in_front cdrs (in_front cdr (cdrs_from extends (place + cdr_end extends octets) o))) rest
    ∙ ap (λ (c : Cdr). all_in_front cdrs (in_front c (cdrs_from extends (place + cdr_end extends octets) (drop (cdr_end extends octets) octets)))) is
    ∙ ap (all_in_front cdrs) (sym (from_step extends place octets some
    ∙ ap (λ (f : Option FileFault). unless f (in_front (cdr_in extends octets) (cdrs_from extends (place + cdr_end extends octets) (drop (cdr_end extends octets) octets)))) no_fault))
