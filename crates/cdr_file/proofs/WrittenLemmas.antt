-- What is written of a run of records is read back.
use Rattle.std.proofs.Common.{◌≡◌, ℕ, List, [], ◌∷◌, ◌++◌, length, map, Ok, refl, ap, sym, ◌∙◌, arith}
use Rattle.std.specs.List.{flat_map}
use Rattle.std.proofs.lemmas.List.{length-map}
use Rattle.cdr_file.specs.CdrFile.{FiledRecord, FileSettings, cdr_of, file_header, file_octets, header_length, read_file, run_kind, run_octets}
use Rattle.cdr_file.specs.CdrHeader.{AreCdrs, spelled_cdr}
use Rattle.cdr_file.specs.FileHeader.{IsFileHeader, extends, header_octets, header_with}
use Rattle.cdr_file.specs.Reading.{file_in}
use Rattle.cdr_file.specs.Spelling.{IsFile, spelled_file}
use Rattle.cdr_file.specs.declared.closure.ClosureReason.{ClosureReason}
use Rattle.cdr_file.proofs.FileLemmas.{length-file_octets, length-header_octets, length-node_address}
use Rattle.cdr_file.proofs.SpellingLemmas.{file_again}

run_is : (run : List FiledRecord) → run_octets run ≡ flat_map spelled_cdr (map cdr_of run)
run_is [] = refl
run_is (first ∷ later) = ap (λ (rest : List ℕ). spelled_cdr (cdr_of first) ++ rest) (run_is later)

file_is : (run : List FiledRecord) (sequence : ℕ) (reason : ClosureReason) (settings : FileSettings) →
    file_octets run sequence reason settings ≡ spelled_file (read_file run sequence reason settings)
unfolding header_octets
file_is run sequence reason settings =
    ap (λ (rest : List ℕ). header_with (file_header run sequence reason settings) [] [] ++ rest) (run_is run)

length_is : (run : List FiledRecord) (sequence : ℕ) (reason : ClosureReason) (settings : FileSettings) →
    length (header_with (file_header run sequence reason settings) [] []) ≡ header_length (run_kind run)
unfolding header_octets
length_is run sequence reason settings = length-header_octets (file_header run sequence reason settings) (length-node_address settings.address)

pub written_again : (run : List FiledRecord) (sequence : ℕ) (reason : ClosureReason) (settings : FileSettings) →
    IsFileHeader (file_header run sequence reason settings) → AreCdrs (extends (file_header run sequence reason settings)) (read_file run sequence reason settings).cdrs →
    file_in (file_octets run sequence reason settings) ≡ Ok (read_file run sequence reason settings)
written_again run sequence reason settings fits are =
    let file = read_file run sequence reason settings in
    let is : IsFile (read_file run sequence reason settings) = record {
      header = fits;
      cdrs = are;
      filter = omega arith;
      extension = omega arith;
      file_length = sym (length-file_octets run sequence reason settings) ∙ ap length (file_is run sequence reason settings);
      header_length = sym (length_is run sequence reason settings);
      count = sym (length-map run cdr_of);
    } in
    ap file_in (file_is run sequence reason settings) ∙ file_again file is
