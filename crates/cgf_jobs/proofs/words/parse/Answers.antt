use Rattle.std.proofs.Common.{◌∙◌, ap, map, string_bytes}
use Rattle.std.proofs.lemmas.Result.{IfErr-weaker, IfOk-weaker}
use Rattle.clap.specs.Words.{App, is_simple, matches_of, takes}
use Rattle.cgf_jobs.proofs.WordLemmas.{any_of_map, said_by_words, simple, takes_words}
use Rattle.cgf_jobs.proofs.words.parse.Goals as goal

pub returns : goal.returns
returns c =
    let parse = c.try_get_matches_from in
    let texts = map string_bytes c.args.words.now in
    let none = any_of_map string_bytes c.args.words.now ∙ c.requires in
    let app = c.in_ok-parser.ensures in
    record {
      found = IfOk-weaker parse.result _ _
          (λ m has. (has (ap is_simple app ∙ simple)).0 ∙ ap (λ (a : App). matches_of a texts) app ∙ said_by_words texts none)
          parse.ensures.matches;
      memory = IfErr-weaker parse.result _ _ (λ e passes. passes (ap (λ (a : App). takes a texts) app ∙ takes_words texts none))
          parse.ensures.passes;
    }
