use Rattle.std.proofs.Common.{◌∙◌, ap, map, option_map, string_bytes, Option}
use Rattle.cgf_top.specs.Looping.{looping_of}
use Rattle.cgf_service.specs.Serving.{serve_places_in, serving_of}
use Rattle.cgf_service.specs.Streaming.{stream_places_in, streaming_of}
use Rattle.cgf_service.specs.declared.serving.Serving.{Serving}
use Rattle.cgf_service.specs.declared.streaming.Streaming.{Streaming}
use Rattle.cgf.proofs.Asked.{no_serve, no_stream, not_both}
use Rattle.cgf.proofs.run.Goals as goal

-- where there are places, the words are those of a gateway that serves
pub returns-in-Some-clause-told : goal.returns-in-Some-clause-told
returns-in-Some-clause-told g c asked files =
    absurd (not_both _ (c.in-Some.ensures.seen ∙ ap (λ (o : Option Serving). option_map (serve_places_in (map string_bytes c.args.words.now)) o)
    (no_serve (serving_of (map string_bytes c.args.words.now)) (streaming_of (map string_bytes c.args.words.now))
    (looping_of (map string_bytes c.args.words.now)) files)))

-- or of one that answers a stream
pub returns-in-Some-stream_places-clause-told : goal.returns-in-Some-stream_places-clause-told
returns-in-Some-stream_places-clause-told g c asked files =
    absurd (not_both _ (c.in-Some-stream_places.ensures.seen ∙ ap (λ (o : Option Streaming). option_map (stream_places_in (map string_bytes c.args.words.now)) o)
    (no_stream (serving_of (map string_bytes c.args.words.now)) (streaming_of (map string_bytes c.args.words.now))
    (looping_of (map string_bytes c.args.words.now)) files)))
