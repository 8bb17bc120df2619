-- CDRs are read exactly where octets spell them.
use Rattle.std.proofs.Common.{◌≡◌, ℕ, zero, suc, ◌+◌, ◌<◌, ◌≤◌, Bool, true, false, cond, List, [], ◌∷◌, ◌++◌, length, take, drop, Option, Some, None, Result, Ok, Err, refl, ap, sym, ◌∙◌, arith, append_assoc}
use Rattle.std.specs.List.{flat_map}
use Rattle.std.specs.Prelude.{◌==◌, ◌&&◌, slice_index}
use Rattle.std.proofs.lemmas.Bool.{eqb-true, le-ltb, ltb-false}
use Rattle.std.proofs.lemmas.List.{take_at, drop_at, length-append, length-take, length-drop}
use Rattle.byteorder.specs.Endian.{big_bytes, big_number}
use Rattle.byteorder.specs.Numbers.{big_number-reads_back}
use Rattle.cdr_file.specs.Laws.{length-cdr_header_octets}
use Rattle.cdr_file.specs.CdrHeader.{AreCdrs, IsCdr, IsCdrHeader, cdr_header_octets, is_extended_cdr, spelled_cdr}
use Rattle.cdr_file.specs.Profile.{IsExtension, MayExtend, extension_if, extension_octets}
use Rattle.cdr_file.specs.Reading.{cdr_end, cdr_fault, cdr_head, cdr_header_in, cdr_in, cdrs_up_to, has_extension, high_at, in_front, low_at, one_if, unless}
use Rattle.cdr_file.specs.SharedOctet.{shared_octet}
use Rattle.cdr_file.specs.Spelling.{AreOctets}
use Rattle.cdr_file.specs.declared.cdr_header.CdrHeader.{CdrHeader}
use Rattle.cdr_file.specs.declared.fault.FileFault.{FileFault}
use Rattle.cdr_file.specs.declared.file.Cdr.{Cdr}
use Rattle.cdr_file.proofs.NumberLemmas.{AreOctets-drop, high_again, low_again, number_fits, number_front_2, octet_from, part_from, shared_from}

-- Faults.

-- where no fault is found, the first condition doesn't hold, and none of the others
pub no_fault : (holds : Bool) (fault : FileFault) (others : Option FileFault) → cond holds (Some fault) others ≡ None → (holds ≡ false) × (others ≡ None)
no_fault true fault others none = absurd cc
no_fault false fault others none = (refl, none)

-- what is read has no fault
pub read_is : {A : Type 0} (fault : Option FileFault) (read : Result A FileFault) (x : A) → unless fault read ≡ Ok x → (fault ≡ None) × (read ≡ Ok x)
read_is None read x e = (refl, e)
read_is (Some fault) read x e = absurd cc

pub front_is : (cdr : Cdr) (read : Result (List Cdr) FileFault) (cdrs : List Cdr) → in_front cdr read ≡ Ok cdrs →
    (others : List Cdr) × (read ≡ Ok others) × (cdrs ≡ cdr ∷ others)
front_is cdr (Ok others) cdrs e = (others, refl, cc)
front_is cdr (Err fault) cdrs e = absurd cc

-- What is spelled is read.

-- an extension that is there where this holds
pub extension_again : (holds : Bool) (extension : Option ℕ) (octet : ℕ) (rest : List ℕ) → IsExtension holds extension →
    (holds ≡ true → octet ≡ slice_index (extension_octets extension ++ rest) 0) → extension_if holds octet ≡ extension
extension_again true None octet rest is there = absurd cc
extension_again true (Some extension) octet rest is there = ap (λ (o : ℕ). Some o) (there refl)
extension_again false None octet rest is there = refl
extension_again false (Some extension) octet rest is there = absurd cc

-- as many octets as there should be
pub count_again : (holds : Bool) (extension : Option ℕ) → IsExtension holds extension → length (extension_octets extension) ≡ one_if holds
count_again true None is = absurd cc
count_again true (Some extension) is = refl
count_again false None is = refl
count_again false (Some extension) is = absurd cc

-- the header of a CDR that has an extension where it should
record Head (extends : Bool) (header : CdrHeader) (octets rest : List ℕ) : Type 0 where
  again : cdr_header_in extends octets ≡ header
  head : cdr_head extends octets ≡ length (cdr_header_octets header)

header_again : (extends : Bool) (header : CdrHeader) (rest : List ℕ) → IsCdrHeader header →
    IsExtension (is_extended_cdr extends header) header.extension → Head extends header (cdr_header_octets header ++ rest) rest
unfolding cdr_header_octets
header_again extends header rest fits is =
    let octets : List ℕ = cdr_header_octets header ++ rest in
    let long : big_number 2 octets ≡ header.length = big_number-reads_back 2 header.length (drop 2 octets) fits.length in
    let release : high_at 2 octets ≡ header.release = high_again header.release header.version fits.version in
    let has : has_extension extends octets ≡ is_extended_cdr extends header = ap (λ (n : ℕ). extends && (n == 7)) release in
    let extension : extension_if (has_extension extends octets) (slice_index octets 4) ≡ header.extension =
    ap (λ (b : Bool). extension_if b (slice_index octets 4)) has
    ∙ extension_again (is_extended_cdr extends header) header.extension (slice_index octets 4) rest is (λ holds. refl) in
    record {
      again = λ i. record {
        length = long i;
        release = release i;
        version = low_again header.release header.version fits.version i;
        format = high_again header.format header.ts fits.ts i;
        ts = low_again header.format header.ts fits.ts i;
        extension = extension i;
      };
      head = ap (λ (b : Bool). 4 + one_if b) has
          ∙ ap (λ (n : ℕ). 4 + n) (sym (count_again (is_extended_cdr extends header) header.extension is))
          ∙ sym (length-cdr_header_octets header);
    }

-- a CDR in front of other octets is read
record Front (extends : Bool) (cdr : Cdr) (octets rest : List ℕ) : Type 0 where
  again : cdr_in extends octets ≡ cdr
  end : cdr_end extends octets ≡ length (spelled_cdr cdr)
  head : cdr_head extends octets ≡ length (cdr_header_octets cdr.header)

front_again : (extends : Bool) (cdr : Cdr) (rest : List ℕ) → IsCdr extends cdr → Front extends cdr (spelled_cdr cdr ++ rest) rest
unfolding cdr_in
front_again extends cdr rest is =
    let octets : List ℕ = spelled_cdr cdr ++ rest in
    let front : List ℕ = cdr_header_octets cdr.header in
    let whole : octets ≡ front ++ (cdr.octets ++ rest) = append_assoc front cdr.octets rest in
    let header : Head extends cdr.header (front ++ (cdr.octets ++ rest)) (cdr.octets ++ rest) =
    header_again extends cdr.header (cdr.octets ++ rest) is.header is.extension in
    let again : cdr_header_in extends octets ≡ cdr.header = ap (cdr_header_in extends) whole ∙ header.again in
    let head : cdr_head extends octets ≡ length front = ap (cdr_head extends) whole ∙ header.head in
    let count : big_number 2 octets ≡ length cdr.octets = ap (λ (h : CdrHeader). h.length) again ∙ is.stated in
    let past : drop (cdr_head extends octets) octets ≡ cdr.octets ++ rest =
    ap (λ (o : List ℕ). drop (cdr_head extends octets) o) whole ∙ drop_at front (cdr.octets ++ rest) (cdr_head extends octets) (sym head) in
    let octets_again : take (big_number 2 octets) (drop (cdr_head extends octets) octets) ≡ cdr.octets =
    ap (λ (n : ℕ). take n (drop (cdr_head extends octets) octets)) count ∙ ap (λ (o : List ℕ). take (length cdr.octets) o) past
    ∙ take_at cdr.octets rest (length cdr.octets) refl in
    record {
      again = λ i. record { header = again i; octets = octets_again i };
      end = omega (arith, head, count, length-append front cdr.octets);
      head = head;
    }

no_fault_again : (extends : Bool) (place : ℕ) (cdr : Cdr) (rest : List ℕ) → IsCdr extends cdr → cdr_fault extends place (spelled_cdr cdr ++ rest) ≡ None
unfolding cdr_fault
no_fault_again extends place cdr rest is =
    let octets : List ℕ = spelled_cdr cdr ++ rest in
    let front : Front extends cdr octets rest = front_again extends cdr rest is in
    let long : length octets ≡ length (spelled_cdr cdr) + length rest = length-append (spelled_cdr cdr) rest in
    let parts : length (spelled_cdr cdr) ≡ length (cdr_header_octets cdr.header) + length cdr.octets = length-append (cdr_header_octets cdr.header) cdr.octets in
    rw (
      le-ltb (length octets) (cdr_head extends octets) (omega (arith, front.head, long, parts)),
      le-ltb (length octets) (cdr_end extends octets) (omega (arith, front.end, long)),
    ) refl

-- one step of reading, where octets aren't empty
pub step_is : (extends : Bool) (most place : ℕ) (octets : List ℕ) → 0 < length octets →
    cdrs_up_to extends (suc most) place octets
    ≡ unless (cdr_fault extends place octets) (in_front (cdr_in extends octets) (cdrs_up_to extends most (place + cdr_end extends octets) (drop (cdr_end extends octets) octets)))
unfolding cdrs_up_to
step_is extends most place [] some = absurd (omega arith)
step_is extends most place (octet ∷ octets) some = refl

pub none_is : (extends : Bool) (most place : ℕ) → cdrs_up_to extends most place [] ≡ Ok []
unfolding cdrs_up_to
none_is extends zero place = refl
none_is extends (suc most) place = refl

least_cdr : (cdr : Cdr) → 4 ≤ length (spelled_cdr cdr)
least_cdr cdr = omega (arith, length-append (cdr_header_octets cdr.header) cdr.octets, length-cdr_header_octets cdr.header)

-- CDRs one after the other are read
pub cdrs_again : (extends : Bool) (most place : ℕ) (cdrs : List Cdr) → AreCdrs extends cdrs → length (flat_map spelled_cdr cdrs) ≤ most →
    cdrs_up_to extends most place (flat_map spelled_cdr cdrs) ≡ Ok cdrs
cdrs_again extends most place [] are long = none_is extends most place
cdrs_again extends zero place (cdr ∷ cdrs) are long =
    absurd (omega (arith, length-append (spelled_cdr cdr) (flat_map spelled_cdr cdrs), least_cdr cdr))
cdrs_again extends (suc most) place (cdr ∷ cdrs) are long =
    let rest : List ℕ = flat_map spelled_cdr cdrs in
    let octets : List ℕ = spelled_cdr cdr ++ rest in
    let front : Front extends cdr octets rest = front_again extends cdr rest are.0 in
    let end : ℕ = cdr_end extends octets in
    let least : 4 ≤ length (spelled_cdr cdr) = least_cdr cdr in
    let sum : length octets ≡ length (spelled_cdr cdr) + length rest = length-append (spelled_cdr cdr) rest in
    let past : drop end octets ≡ rest = drop_at (spelled_cdr cdr) rest end (sym front.end) in
    step_is extends most place octets (omega arith)
    ∙ ap (λ (fault : Option FileFault). unless fault (in_front (cdr_in extends octets) (cdrs_up_to extends most (place + end) (drop end octets)))) (no_fault_again extends place cdr rest are.0)
    ∙ ap (λ (o : List ℕ). in_front (cdr_in extends octets) (cdrs_up_to extends most (place + end) o)) past
    ∙ ap (in_front (cdr_in extends octets)) (cdrs_again extends most (place + end) cdrs are.1 (omega arith))
    ∙ ap (λ (c : Cdr). Ok (c ∷ cdrs)) front.again

-- What is read is spelled.

-- where no fault is found the CDR is whole
pub whole_cdr : (extends : Bool) (place : ℕ) (octets : List ℕ) → cdr_fault extends place octets ≡ None →
    (cdr_head extends octets ≤ length octets) × (cdr_end extends octets ≤ length octets)
unfolding cdr_fault
whole_cdr extends place octets none =
    let header = no_fault _ _ _ none in
    let cut = no_fault _ _ _ header.1 in
    (ltb-false _ _ header.0, ltb-false _ _ cut.0)

-- an extension of an octet fits
pub extension_fits : (holds : Bool) (octet : ℕ) → octet < 256 → IsExtension holds (extension_if holds octet)
extension_fits true octet fits = (refl, fits)
extension_fits false octet fits = refl

-- an extension that is read where this holds
pub extension_is : (holds : Bool) (place : ℕ) (octets : List ℕ) → AreOctets octets → place + one_if holds ≤ length octets →
    IsExtension holds (extension_if holds (slice_index octets place))
    × (drop place octets ≡ extension_octets (extension_if holds (slice_index octets place)) ++ drop (place + one_if holds) octets)
extension_is true place octets fit long =
    let next : place + 1 ≡ suc place = omega arith in
    ((refl, fit place), octet_from place octets (omega (arith, long)) ∙ ap (λ (n : ℕ). slice_index octets place ∷ drop n octets) (sym next))
extension_is false place octets fit long =
    let same : place + 0 ≡ place = omega arith in
    (refl, ap (λ (n : ℕ). drop n octets) (sym same))

may_extend : (extends : Bool) (release octet : ℕ) → octet < 256 → MayExtend release (extension_if (extends && (release == 7)) octet)
may_extend extends release octet fits = by extends (release == 7) refl
  where
    by : (extends is : Bool) → (release == 7) ≡ is → MayExtend release (extension_if (extends && is) octet)
    by true true e = (eqb-true release 7 e, fits)
    by true false e = tt
    by false is e = tt

pub cdr_is : (extends : Bool) (octets : List ℕ) → AreOctets octets → cdr_head extends octets ≤ length octets → cdr_end extends octets ≤ length octets →
    IsCdr extends (cdr_in extends octets) × (octets ≡ spelled_cdr (cdr_in extends octets) ++ drop (cdr_end extends octets) octets)
unfolding cdr_in cdr_header_octets
cdr_is extends octets fit header whole =
    let n : ℕ = big_number 2 octets in
    let has : Bool = has_extension extends octets in
    let head : ℕ = cdr_head extends octets in
    let value : List ℕ = take n (drop head octets) in
    let rest : List ℕ = drop (head + n) octets in
    let mark : List ℕ = extension_octets (extension_if has (slice_index octets 4)) in
    let count : octets ≡ big_bytes 2 n ++ drop 2 octets = number_front_2 octets fit (omega (arith, header)) in
    let third = shared_from 2 octets (omega (arith, header)) in
    let fourth = shared_from 3 octets (omega (arith, header)) in
    let fifth = extension_is has 4 octets fit header in
    let body : drop head octets ≡ value ++ rest = part_from head n octets in
    let behind : drop 4 octets ≡ (mark ++ value) ++ rest =
    fifth.1 ∙ ap (λ (o : List ℕ). mark ++ o) body ∙ sym (append_assoc mark value rest) in
    let stated : length value ≡ n = omega (arith, length-take n (drop head octets), length-drop head octets, whole) in
    let bound : n < 65536 = number_fits 2 0 octets fit in (
      record {
        header = record {
          length = bound;
          release = omega (arith, fit 2);
          version = omega arith;
          format = omega (arith, fit 3);
          ts = omega arith;
          extension = may_extend extends (high_at 2 octets) (slice_index octets 4) (fit 4);
        };
        extension = fifth.0;
        stated = sym stated;
      },
      count
          ∙ ap (λ (o : List ℕ). big_bytes 2 n ++ o) (third ∙ ap (λ (o : List ℕ). shared_octet (high_at 2 octets) (low_at 2 octets) ∷ o) (fourth ∙ ap (λ (o : List ℕ). shared_octet (high_at 3 octets) (low_at 3 octets) ∷ o) behind)),
    )

pub cdrs_are : (extends : Bool) (most place : ℕ) (octets : List ℕ) (cdrs : List Cdr) → AreOctets octets → cdrs_up_to extends most place octets ≡ Ok cdrs →
    AreCdrs extends cdrs × (octets ≡ flat_map spelled_cdr cdrs)
unfolding cdrs_up_to
cdrs_are extends most place [] [] fit e = (tt, refl)
cdrs_are extends zero place [] (cdr ∷ cdrs) fit e = absurd cc
cdrs_are extends (suc most) place [] (cdr ∷ cdrs) fit e = absurd cc
cdrs_are extends zero place (octet ∷ octets) cdrs fit e = absurd cc
cdrs_are extends (suc most) place (octet ∷ octets) cdrs fit e =
    let all : List ℕ = octet ∷ octets in
    let end : ℕ = cdr_end extends all in
    let read = read_is (cdr_fault extends place all) (in_front (cdr_in extends all) (cdrs_up_to extends most (place + end) (drop end all))) cdrs e in
    let front = front_is (cdr_in extends all) (cdrs_up_to extends most (place + end) (drop end all)) cdrs read.1 in
    let whole = whole_cdr extends place all read.0 in
    let first = cdr_is extends all fit whole.0 whole.1 in
    let others = cdrs_are extends most (place + end) (drop end all) front.0 (AreOctets-drop end all fit) front.1 in
    rw (front.2) ((first.0, others.0), first.1 ∙ ap (λ (rest : List ℕ). spelled_cdr (cdr_in extends all) ++ rest) others.1)
