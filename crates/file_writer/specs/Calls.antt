-- The counted calls that a writer makes of its shelf for items, and what they seal.
use Rattle.std.specs.Prelude.{ℕ, zero, suc, ◌+◌, nat_le, if◌then◌else◌, List, [], ◌∷◌, ◌++◌, Option, None, Some}
use Rattle.cdr_file.specs.CdrFile.{FileSettings}
use Rattle.cdr_file.specs.declared.closure.ClosureReason.{ClosureReason}
use Rattle.cdr_shelf.specs.Files.{SealedFile}
use Rattle.file_rotate.specs.Division.{Cuts, cuts_at, joined, run_after, still}
use Rattle.file_rotate.specs.Items.{Filed, Record, Tick, Close}
use Rattle.file_rotate.specs.Items as stream
use Rattle.gw_base.specs.declared.item.Item.{Item}
use Rattle.file_writer.specs.Files.{sealed_file}
use Rattle.file_writer.specs.Streams.{Settings, closed_of, stream_count, stream_division, stream_items}

-- a call that begins, writes or syncs a file, or one that seals this file
pub data Call : Type 0 where
  Writes : Call
  Seals : SealedFile → Call

-- the files that calls seal, in order
abbrev pub seals : List Call → List SealedFile
seals [] = []
seals (Writes ∷ calls) = seals calls
seals (Seals file ∷ calls) = file ∷ seals calls

-- One stream.

-- the calls for the file with this number, where those up to the first number are sealed already: these get none
abbrev pub unless_sealed : ℕ → ℕ → List Call → List Call
unless_sealed sealed sequence calls = if nat_le sequence sealed then [] else calls

-- where a file is begun: a begin, and a write of a header
abbrev pub beginning : List (Filed (List ℕ)) → List Call
beginning [] = Writes ∷ Writes ∷ []
beginning (first ∷ later) = []

-- a record more in the file of a run: a write of the CDR's header, and one of its octets
abbrev pub appending : ℕ → ℕ → List (Filed (List ℕ)) → stream.Item (List ℕ) → List Call
appending sealed sequence run (Record filed) = unless_sealed sealed sequence (beginning run ++ Writes ∷ Writes ∷ [])
appending sealed sequence run (Tick moment) = []
appending sealed sequence run (Close moment) = []

-- where the file of a run is closed: a write of the header, a sync and a seal
abbrev pub closing : FileSettings → ℕ → ℕ → ℕ → Option ClosureReason → List (Filed (List ℕ)) → List Call
closing settings s sealed sequence None run = []
closing settings s sealed sequence (Some reason) run =
    unless_sealed sealed sequence
    (Writes ∷ Writes ∷ Seals (sealed_file settings s sequence (record { run = run; reason = reason })) ∷ [])

-- a number, and one more where a file was closed
abbrev pub closed_by : Option ClosureReason → ℕ → ℕ
closed_by reason closed = still reason closed (closed + 1)

-- the calls for an item, which comes in after so many closed files and an open run
abbrev pub calls_at : FileSettings → ℕ → ℕ → Cuts → ℕ → List (Filed (List ℕ)) → stream.Item (List ℕ) → List Call
calls_at settings s sealed cuts closed run item =
    closing settings s sealed (closed + 1) cuts.before run
    ++ (appending sealed (closed_by cuts.before closed + 1) (still cuts.before run []) item
    ++ closing settings s sealed (closed_by cuts.before closed + 1) cuts.after (joined cuts.before run item))

abbrev pub calls_from : Settings → ℕ → ℕ → ℕ → List (Filed (List ℕ)) → List (stream.Item (List ℕ)) → List Call
calls_from settings s sealed closed run [] = []
calls_from settings s sealed closed run (item ∷ items) =
    let cuts = cuts_at settings.limits run item in
    calls_at settings.file s sealed cuts closed run item
    ++ calls_from settings s sealed (closed_by cuts.after (closed_by cuts.before closed))
    (run_after cuts run item) items

-- All streams, each of which had so many files closed before the first item, and has files sealed up to a number.

-- the calls of one stream for items that come in after others
abbrev pub stream_calls : Settings → (ℕ → ℕ) → (ℕ → ℕ) → List Item → List Item → ℕ → List Call
stream_calls settings closed sealed before items s =
    calls_from settings s (sealed s) (closed s + closed_of settings s before)
    (stream_division settings s before).left_open (stream_items settings.profile settings.rules s items)

-- those of the first streams for one item, stream after stream
unfoldable pub calls_below : ℕ → Settings → (ℕ → ℕ) → (ℕ → ℕ) → List Item → Item → List Call
calls_below zero settings closed sealed before item = []
calls_below (suc s) settings closed sealed before item =
    calls_below s settings closed sealed before item ++ stream_calls settings closed sealed before (item ∷ []) s

-- those for items, one item after the other
abbrev pub calls_of : Settings → (ℕ → ℕ) → (ℕ → ℕ) → List Item → List Item → List Call
calls_of settings closed sealed before [] = []
calls_of settings closed sealed before (item ∷ items) =
    calls_below stream_count settings closed sealed before item
    ++ calls_of settings closed sealed (before ++ item ∷ []) items
