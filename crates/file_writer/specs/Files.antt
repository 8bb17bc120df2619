-- The CDR files that items are divided into, each with its name and its octets (3GPP TS 32.297, clause 6.1).
use Rattle.std.specs.Prelude.{◌≡◌, ℕ, zero, suc, ◌+◌, ◌<◌, All, List, [], ◌∷◌, ◌++◌, map}
use Rattle.cdr_file.specs.CdrFile.{FileSettings, FiledRecord, file_octets}
use Rattle.file_rotate.specs.Division.{ClosedRun, Division, divided_from}
use Rattle.file_rotate.specs.Items.{Filed}
use Rattle.gw_base.specs.declared.item.Item.{Item}
use Rattle.cdr_shelf.specs.Files.{SealedFile, in_stream}
use Rattle.file_writer.specs.Streams.{Settings, stream_count, closed_of, stream_division, stream_items}

abbrev pub record_of : Filed (List ℕ) → FiledRecord
record_of filed = record { kind = filed.kind; octets = filed.payload; moment = filed.moment }

-- the records of a run, as its CDR file has them
abbrev pub run_records : List (Filed (List ℕ)) → List FiledRecord
run_records run = map record_of run

-- the file of a closed run, with this number in the sequence of its stream
abbrev pub sealed_file : FileSettings → ℕ → ℕ → ClosedRun (List ℕ) → SealedFile
sealed_file settings s sequence closed = record {
  name = record { stream = s; sequence = sequence };
  octets = file_octets (run_records closed.run) sequence closed.reason settings;
}

-- the files of closed runs, numbered one after the other
abbrev pub files_from : FileSettings → ℕ → ℕ → List (ClosedRun (List ℕ)) → List SealedFile
files_from settings s sequence [] = []
files_from settings s sequence (closed ∷ later) =
    sealed_file settings s sequence closed ∷ files_from settings s (sequence + 1) later

-- the files of a stream, numbered from 1
abbrev pub stream_files : Settings → ℕ → List Item → List SealedFile
stream_files settings s items = files_from settings.file s 1 (stream_division settings s items).closed

-- the files of the first streams
abbrev pub files_below : ℕ → Settings → List Item → List SealedFile
files_below zero settings items = []
files_below (suc s) settings items = files_below s settings items ++ stream_files settings s items

-- all files, stream after stream
abbrev pub files_of : Settings → List Item → List SealedFile
files_of settings items = files_below stream_count settings items

-- each of these files is of one of the streams that there are
abbrev pub AreOfStreams : List SealedFile → Type 0
AreOfStreams files = All (λ (file : SealedFile). file.name.stream < stream_count) files

-- these files are, of each stream in their order, the files that items are divided into, and there are no others
pub record AreFilesOf (settings : Settings) (items : List Item) (files : List SealedFile) : Type 0 where
  pub each : (s : ℕ) → s < stream_count → in_stream s files ≡ stream_files settings s items
  pub only : AreOfStreams files

-- how the run that items leave open is divided with more of them
abbrev pub later_division : Settings → ℕ → List Item → List Item → Division (List ℕ)
later_division settings s items more =
    divided_from settings.limits (stream_division settings s items).left_open
    (stream_items settings.profile settings.rules s more)

-- the files of a stream that more items close behind those that the first ones close
abbrev pub later_files : Settings → ℕ → List Item → List Item → List SealedFile
later_files settings s items more =
    files_from settings.file s (closed_of settings s items + 1) (later_division settings s items more).closed
