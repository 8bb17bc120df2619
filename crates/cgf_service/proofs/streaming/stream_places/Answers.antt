use Rattle.std.proofs.Common.{sym, ap, arith, map, option_map, string_bytes, Option}
use Rattle.cgf_service.proofs.Names.{stream_places_in, Streaming}
use Rattle.cgf_service.proofs.StreamWords.{other_words, places_there}
use Rattle.cgf_service.proofs.streaming.stream_places.Goals as goal

pub returns-in_default-clause-seen : goal.returns-in_default-clause-seen
returns-in_default-clause-seen c =
    sym (ap (λ (o : Option Streaming). option_map (stream_places_in (map string_bytes c.args.words.now)) o)
    (other_words string_bytes c.args.words.now (λ seven. omega (arith, seven, c.in_default.len_below))))

pub returns-clause-seen : goal.returns-clause-seen
returns-clause-seen c =
    places_there string_bytes c.args.words.now c.in_ok-streaming.streaming c.area-item.result c.folder-item.result c.file-item.result
    c.as_str.result.now c.as_str-2.result.now c.as_str-3.result.now c.in_ok-streaming.ensures.asked c.area-item.is c.folder-item.is c.file-item.is
    c.as_str.ensures.value c.as_str-2.ensures.value c.as_str-3.ensures.value
