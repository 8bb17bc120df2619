use Rattle.std.proofs.Common.{sym, ap, arith, map, option_map, string_bytes, Option}
use Rattle.cgf_service.proofs.Names.{serve_places_in, Serving}
use Rattle.cgf_service.proofs.ServingWords.{other_words, places_there}
use Rattle.cgf_service.proofs.serving.serve_places.Goals as goal

pub returns-in_default-clause-seen : goal.returns-in_default-clause-seen
returns-in_default-clause-seen c =
    sym (ap (λ (o : Option Serving). option_map (serve_places_in (map string_bytes c.args.words.now)) o)
    (other_words string_bytes c.args.words.now (λ seven. omega (arith, seven, c.in_default.len_below))))

pub returns-clause-seen : goal.returns-clause-seen
returns-clause-seen c =
    places_there string_bytes c.args.words.now c.in_ok-serving.serving c.area-item.result c.folder-item.result c.as_str.result.now c.as_str-2.result.now
    c.in_ok-serving.ensures.asked c.area-item.is c.folder-item.is c.as_str.ensures.value c.as_str-2.ensures.value
