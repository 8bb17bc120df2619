use Rattle.std.proofs.Common.{◌∙◌, sym, ap, arith, string_bytes}
use Rattle.cgf_service.proofs.Names.{is_option, serving_of}
use Rattle.cgf_service.proofs.ServingWords.{other_words, seven_words}
use Rattle.cgf_service.proofs.serving.Serving.of.Goals as goal

pub returns-in_default-clause-asked : goal.returns-in_default-clause-asked
returns-in_default-clause-asked c = sym (other_words string_bytes c.args.words.now (λ seven. omega (arith, seven, c.in_default.len_below)))

pub returns-in_default-2-clause-asked : goal.returns-in_default-2-clause-asked
returns-in_default-2-clause-asked c = sym (other_words string_bytes c.args.words.now (λ seven. omega (arith, seven, c.in_default.len_at_least)))

pub returns-clause-asked : goal.returns-clause-asked
returns-clause-asked c =
    c.by_name.ensures.asked (string_bytes c.area-item.result) (string_bytes c.folder-item.result)
    (ap is_option (sym c.as_bytes.ensures.value) ∙ sym c.is_option.ensures ∙ c.if-is_option.false)
    (ap is_option (sym c.as_bytes-2.ensures.value) ∙ sym c.is_option-2.ensures ∙ c.if-is_option-2.false)
    ∙ sym (ap serving_of (seven_words string_bytes c.args.words.now c.name-item.result c.ip-item.result c.port-item.result c.turns-item.result
    c.length-item.result c.area-item.result c.folder-item.result (omega (arith, c.in-len7.len_at_least, c.in-len7.len_below)) c.name-item.is c.ip-item.is
    c.port-item.is c.turns-item.is c.length-item.is c.area-item.is c.folder-item.is))
