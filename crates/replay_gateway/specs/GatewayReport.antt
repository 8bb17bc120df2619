-- What is reported of a gateway: its sealed files and its counts.
use Rattle.std.specs.Prelude.{ℕ, zero, suc, ◌/◌, ◌%◌, ◌+◌, if◌then◌else◌, List, [], ◌∷◌, ◌++◌, take, codes}
use Rattle.std.specs.Fmt.{decimal}
use Rattle.std.specs.List.{flat_map}
use Rattle.cdr_shelf.specs.Files.{SealedFile}
use Rattle.cdr_shelf.specs.declared.file_name.FileName.{FileName}
use Rattle.file_writer.specs.Files.{files_of, stream_files}
use Rattle.file_writer.specs.Streams.{Settings, stream_count}
use Rattle.gateway_answer.specs.Items.{items_of}
use Rattle.gateway_answer.specs.Value.{BookValue, history_of, standing_for}
use Rattle.gateway_book.specs.Calls.{gateway_counts_of}
use Rattle.gateway_book.specs.declared.outcome.GatewayCounts.{GatewayCounts}
use Rattle.gw_base.specs.declared.item.Item.{Item}
use Rattle.hex.specs.Hex.{encode_upper}
use Rattle.once_core.specs.Gateway.{Gateway}
use Rattle.replay_gateway.specs.Machine.{Machine}
use Rattle.replay_gateway.specs.Setup.{Setup, files_in}

-- Its files.

-- the last so many decimal digits of a number
abbrev pub digits : ℕ → ℕ → List ℕ
digits zero n = []
digits (suc k) n = digits k (n / 10) ++ (48 + n % 10) ∷ []

-- the stream in two digits, and the file's number in ten
abbrev pub file_name : FileName → List ℕ
file_name name = digits 2 name.stream ++ codes "-" ++ digits 10 name.sequence ++ codes ".cdr"

abbrev pub file_line : ℕ → SealedFile → List ℕ
file_line place file =
    codes "file " ++ decimal (suc place) ++ codes " " ++ file_name file.name ++ codes " " ++ encode_upper file.octets
    ++ 10 ∷ []

-- the files that items close, stream after stream and by their numbers
abbrev pub file_lines : Setup → ℕ → List Item → List ℕ
file_lines setup place items = flat_map (file_line place) (files_of (files_in setup place) items)

-- Its counts.

-- the book, or of a gateway that is down the one that it would be opened with, but for its Start
abbrev pub book_of : Gateway → BookValue
book_of g = if g.is_down then standing_for (history_of g.book) else g.book

abbrev pub counts_text : ℕ → GatewayCounts → List ℕ
counts_text place tally =
    codes "gateway " ++ decimal (suc place) ++ codes " entries " ++ decimal tally.entries ++ codes " records "
    ++ decimal tally.records ++ codes " held " ++ decimal tally.held ++ codes " stranded " ++ decimal tally.stranded
    ++ 10 ∷ []

abbrev pub counts_line : ℕ → BookValue → List ℕ
counts_line place book = counts_text place (gateway_counts_of book)

-- What is reported of the gateway in a place: the files that these items close, and what this book counts. A feed
-- reports its gateway as the first of a network, too.
abbrev pub gateway_report : Setup → ℕ → List Item → BookValue → List ℕ
gateway_report setup place items book = file_lines setup place items ++ counts_line place book

-- its sealed files: of each of the first streams so many of those that its items close, stream after stream
abbrev pub sealed_below : ℕ → Settings → List Item → (ℕ → ℕ) → List SealedFile
sealed_below zero settings items sealed = []
sealed_below (suc s) settings items sealed =
    sealed_below s settings items sealed ++ take (sealed s) (stream_files settings s items)

abbrev pub sealed_lines : Setup → ℕ → Gateway → Machine → List ℕ
sealed_lines setup place g m =
    flat_map (file_line place)
    (sealed_below stream_count (files_in setup place) (items_of g.book.firm) m.filing.sealed)

abbrev pub gateway_text : Setup → ℕ → Gateway → Machine → List ℕ
gateway_text setup place g m = sealed_lines setup place g m ++ counts_line place (book_of g)
