-- What holds of every list of sealed files.
use Rattle.std.proofs.Common.{◌≡◌, ◌==◌, ℕ, max, Bool, true, false, if◌then◌else◌, List, [], ◌∷◌, ◌++◌, Option, Some, None, arith}
use Rattle.std.proofs.lemmas.List.Elements.{filter-append}
use Rattle.cdr_shelf.specs.declared.file_name.FileName.{FileName}
use Rattle.cdr_shelf.specs.Files.{SealedFile, file_named, greatest_in, in_stream, same_name}

either_found : (t : Bool) (here : List ℕ) (before after : Option (List ℕ)) (octets : List ℕ) →
    (before ≡ Some octets → after ≡ Some octets) →
    (if t then Some here else before) ≡ Some octets → (if t then Some here else after) ≡ Some octets
either_found true here before after octets rest found = found
either_found false here before after octets rest found = rest found

-- what is found among some files is found with more files behind them
pub file_named-append : (files more : List SealedFile) (name : FileName) (octets : List ℕ) →
    file_named name files ≡ Some octets → file_named name (files ++ more) ≡ Some octets
file_named-append [] more name octets found = absurd (none_is_not_some found)
  where
    none_is_not_some : None ≡ Some octets → ⊥
    none_is_not_some e = cc
file_named-append (f ∷ files) more name octets found =
    either_found (same_name f.name name) f.octets (file_named name files) (file_named name (files ++ more)) octets
    (file_named-append files more name octets) found

-- the greatest number of files and more files
pub greatest_in-append : (stream : ℕ) (files more : List SealedFile) →
    greatest_in stream (files ++ more) ≡ max (greatest_in stream files) (greatest_in stream more)
greatest_in-append stream [] more = omega arith
greatest_in-append stream (f ∷ files) more = omega (arith, greatest_in-append stream files more)

-- a stream's files among files and more files
pub in_stream-append : (stream : ℕ) (files more : List SealedFile) →
    in_stream stream (files ++ more) ≡ in_stream stream files ++ in_stream stream more
in_stream-append stream files more = filter-append (λ (f : SealedFile). f.name.stream == stream) files more
