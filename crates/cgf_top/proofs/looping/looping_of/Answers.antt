use Rattle.std.proofs.Common.{◌∙◌, sym, ap, arith, string_bytes}
use Rattle.cgf_top.specs.Looping.{looping_of}
use Rattle.cgf_top.proofs.LoopWords.{five_words, other_words}
use Rattle.cgf_top.proofs.looping.looping_of.Goals as goal

pub returns-in_default-clause-asked : goal.returns-in_default-clause-asked
returns-in_default-clause-asked c =
    sym (other_words string_bytes c.args.words.now (λ five. omega (arith, five, c.in_default.len_below)))

pub returns-in_default-2-clause-asked : goal.returns-in_default-2-clause-asked
returns-in_default-2-clause-asked c =
    sym (other_words string_bytes c.args.words.now (λ five. omega (arith, five, c.in_default.len_at_least)))

pub returns-clause-asked : goal.returns-clause-asked
returns-clause-asked c =
    c.by_name.ensures.asked
    ∙ sym (ap looping_of (five_words string_bytes c.args.words.now c.name-item.result c.gateways-item.result
    c.nodes-item.result c.packets-item.result c.turns-item.result
    (omega (arith, c.in-len5.len_at_least, c.in-len5.len_below)) c.name-item.is c.gateways-item.is c.nodes-item.is
    c.packets-item.is c.turns-item.is))
