-- The files of a gateway with the records as it filed them, so that the key of the record at each place can be told. What
-- a division into files carries of its records is free: these are the files of the history's items, in which each record
-- has all that it was filed with.
use Rattle.std.specs.Prelude.{ℕ, ◌==◌, Bool, true, List, [], ◌∷◌, length, map, filter}
use Rattle.std.specs.List.{enumerate_from, flat_map}
use Rattle.cdr_file.specs.Profile.{in_profile}
use Rattle.file_rotate.specs.Division.{division_of}
use Rattle.file_rotate.specs.Items.{Filed, Item, Record, Tick, Close}
use Rattle.file_writer.specs.Places.{FilePlace, runs_of}
use Rattle.file_writer.specs.Streams.{Settings}
use Rattle.gateway_answer.specs.Filed.{along, filed_by_act}
use Rattle.gateway_answer.specs.declared.filing.FiledRecord.{FiledRecord}
use Rattle.gw_base.specs.Lists.{once}
use Rattle.gw_base.specs.declared.history.HistoryAct.{HistoryAct}
use Rattle.gw_base.specs.declared.history.HistoryAct.TheVariants as act
use Rattle.gw_base.specs.declared.history.HistoryEntry.{HistoryEntry}
use Rattle.route_filter.specs.Rules.{stream_of}

-- a record as its stream has it, its kind in the form of a profile
abbrev pub as_filed : ℕ → FiledRecord → Filed FiledRecord
as_filed profile r =
    record { kind = in_profile profile r.kind; octets = length r.octets; moment = r.moment; payload = r }

abbrev pub filed_item : ℕ → FiledRecord → Item FiledRecord
filed_item profile r = Record (as_filed profile r)

-- what an act gives to the files: the records that it files, or a mark
abbrev pub filed_items_by : ℕ → List HistoryEntry → ℕ → HistoryAct → List (Item FiledRecord)
filed_items_by profile before moment act.Tick = Tick moment ∷ []
filed_items_by profile before moment act.Close = Close moment ∷ []
filed_items_by profile before moment a = map (filed_item profile) (filed_by_act before moment a)

abbrev pub filed_items : ℕ → List HistoryEntry → List (Item FiledRecord)
filed_items profile h = along (λ before e. filed_items_by profile before e.moment e.act) [] h

-- a record goes to the stream that the rules choose, and a mark to each
abbrev pub goes_to : Settings → ℕ → Item FiledRecord → Bool
goes_to settings s (Record r) = stream_of settings.rules r.payload.tag r.kind.format == s
goes_to settings s (Tick moment) = true
goes_to settings s (Close moment) = true

-- the files of a stream, each with its records in order, and last the one that is still open
abbrev pub filed_runs : Settings → ℕ → List HistoryEntry → List (List (Filed FiledRecord))
filed_runs settings s h =
    runs_of (division_of settings.limits (filter (goes_to settings s) (filed_items settings.profile h)))

-- the streams that the rules may choose, each once
abbrev pub streams_of : Settings → List ℕ
streams_of settings = once (λ s t. s == t) (0 ∷ map (λ rule. rule.stream) settings.rules)

-- a record of the file with this number in the sequence of a stream, at its place: so many records stand before it
abbrev pub at_place : ℕ → ℕ → ℕ × Filed FiledRecord → FilePlace × FiledRecord
at_place s sequence x = (record { stream = s; sequence = sequence; index = x.0 }, x.1.payload)

-- Each record in the files of a history, at its place: its stream, the number of its file there, which counts from 1, and
-- how many records stand before it in the file.
abbrev pub placed : Settings → List HistoryEntry → List (FilePlace × FiledRecord)
placed settings h =
    flat_map (λ s. flat_map (λ file. map (at_place s file.0) (enumerate_from 0 file.1)) (enumerate_from 1 (filed_runs settings s h)))
    (streams_of settings)
