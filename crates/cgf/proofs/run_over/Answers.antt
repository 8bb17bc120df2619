use Rattle.std.proofs.Common.{map, string_bytes, subst}
use Rattle.cgf_top.specs.LoopEnds.{IsLoopEnd}
use Rattle.cgf_top.specs.Looping.{looping_of}
use Rattle.cgf_service.specs.ServeEnds.{IsGatewayEnd}
use Rattle.cgf_service.specs.Serving.{serving_of}
use Rattle.cgf_service.specs.Streaming.{streaming_of}
use Rattle.cgf.proofs.Asked.{either, over_files}
use Rattle.cgf.proofs.run_over.Goals as goal

-- what was read and written is what the job's clause tells of a report
pub returns-clause-report : goal.returns-clause-report
returns-clause-report g c files reported =
    (((c.run_watched-ended.ensures.job files).report reported).input, ((c.run_watched-ended.ensures.job files).report reported).written)

pub returns-clause-known : goal.returns-clause-known
returns-clause-known g c words =
    either (serving_of (map string_bytes c.args.words.now))
    (λ none. either (streaming_of (map string_bytes c.args.words.now))
    (λ none_streams. either (looping_of (map string_bytes c.args.words.now))
    (λ none_loops. over_files (serving_of (map string_bytes c.args.words.now))
    (streaming_of (map string_bytes c.args.words.now)) (looping_of (map string_bytes c.args.words.now)) none none_streams
    none_loops)
    (λ of is. absurd (subst IsLoopEnd words (c.run_watched-ended.ensures.loops.loops of is).known)))
    (λ of is. absurd (subst IsGatewayEnd words (c.run_watched-ended.ensures.streams of is).1.known)))
    (λ of is. absurd (subst IsGatewayEnd words (c.run_watched-ended.ensures.serves of is).known))

pub returns-clause-cause : goal.returns-clause-cause
returns-clause-cause g c =
    either (serving_of (map string_bytes c.args.words.now))
    (λ none. either (streaming_of (map string_bytes c.args.words.now))
    (λ none_streams. either (looping_of (map string_bytes c.args.words.now))
    (λ none_loops. (c.run_watched-ended.ensures.job (over_files (serving_of (map string_bytes c.args.words.now))
    (streaming_of (map string_bytes c.args.words.now)) (looping_of (map string_bytes c.args.words.now)) none none_streams
    none_loops)).cause)
    (λ of is. (c.run_watched-ended.ensures.loops.loops of is).cause))
    (λ of is. (c.run_watched-ended.ensures.streams of is).1.cause))
    (λ of is. (c.run_watched-ended.ensures.serves of is).cause)

pub returns-clause-serves : goal.returns-clause-serves
returns-clause-serves g c of is = (c.run_watched-ended.ensures.serves of is).known

pub returns-clause-streams : goal.returns-clause-streams
returns-clause-streams g c of is = (c.run_watched-ended.ensures.streams of is).1.known
