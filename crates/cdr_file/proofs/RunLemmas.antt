-- What the header of a file says of its records.
use Rattle.std.proofs.Common.{◌≡◌, ◌≢◌, ℕ, ◌+◌, ◌%◌, ◌^◌, List, [], ◌∷◌, ◌++◌, length, length-append, sum_by, refl, arith}
use Rattle.std.proofs.lemmas.List.Sums.{sum_by-cons, sum_by_push}
use Rattle.std.specs.Int.{byte_at}
use Rattle.cdr_file.specs.CdrFile.{FiledRecord, cdr_length, facts_of, facts_of_one, facts_with, last_moment, opening_moment, run_kind}
use Rattle.cdr_file.specs.FileHeader.{field_octets, header_octets}
use Rattle.cdr_file.specs.declared.file_header.FileHeader.{FileHeader}
use Rattle.cdr_file.proofs.FileLemmas.{last_moment-append}

same_kind : (run : List FiledRecord) (last : FiledRecord) → run ≢ [] → run_kind (run ++ last ∷ []) ≡ run_kind run
same_kind [] last some = absurd (some refl)
same_kind (first ∷ later) last some = refl

same_opening : (run : List FiledRecord) (last : FiledRecord) → run ≢ [] → opening_moment (run ++ last ∷ []) ≡ opening_moment run
same_opening [] last some = absurd (some refl)
same_opening (first ∷ later) last some = refl

pub facts_one : (filed : FiledRecord) → facts_of (filed ∷ []) ≡ facts_of_one filed
facts_one filed =
    let octets : sum_by cdr_length (filed ∷ []) ≡ cdr_length filed = omega (arith, sum_by-cons cdr_length filed []) in
    λ i. record { kind = filed.kind; opened = filed.moment; appended = filed.moment; count = 1; octets = octets i }

pub facts_more : (run : List FiledRecord) (last : FiledRecord) → run ≢ [] → facts_of (run ++ last ∷ []) ≡ facts_with (facts_of run) last
facts_more run last some =
    let kind : run_kind (run ++ last ∷ []) ≡ run_kind run = same_kind run last some in
    let opened : opening_moment (run ++ last ∷ []) ≡ opening_moment run = same_opening run last some in
    let appended : last_moment (run ++ last ∷ []) ≡ last.moment = last_moment-append run last in
    let count : length (run ++ last ∷ []) ≡ length run + 1 = length-append run (last ∷ []) in
    let octets : sum_by cdr_length (run ++ last ∷ []) ≡ sum_by cdr_length run + cdr_length last = sum_by_push cdr_length run last in
    λ i. record { kind = kind i; opened = opened i; appended = appended i; count = count i; octets = octets i }

-- the low 32 bits of a number have its four low octets
third_octet : (x : ℕ) → byte_at 3 (x % 2 ^ 32) ≡ byte_at 3 x
third_octet x = omega arith

second_octet : (x : ℕ) → byte_at 2 (x % 2 ^ 32) ≡ byte_at 2 x
second_octet x = omega arith

first_octet : (x : ℕ) → byte_at 1 (x % 2 ^ 32) ≡ byte_at 1 x
first_octet x = omega arith

last_octet : (x : ℕ) → byte_at 0 (x % 2 ^ 32) ≡ byte_at 0 x
last_octet x = omega arith

-- so a header says the low 32 bits of its length and its count
low_fields : (header : FileHeader) (long count : ℕ) →
    header_octets (record header { length = long % 2 ^ 32; count = count % 2 ^ 32 }) ≡ header_octets (record header { length = long; count = count })
unfolding header_octets field_octets
low_fields header long count =
    rw (third_octet long, second_octet long, first_octet long, last_octet long, third_octet count, second_octet count, first_octet count, last_octet count) refl

pub low_header : (header : FileHeader) (head octets count : ℕ) →
    header_octets (record header { length = (head + octets % 2 ^ 32) % 2 ^ 32; count = count % 2 ^ 32 })
    ≡ header_octets (record header { length = head + octets; count = count })
low_header header head octets count =
    let low : (head + octets % 2 ^ 32) % 2 ^ 32 ≡ (head + octets) % 2 ^ 32 = omega arith in
    rw low (low_fields header (head + octets) count)
