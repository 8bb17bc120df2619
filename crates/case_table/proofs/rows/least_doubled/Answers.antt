use Rattle.std.proofs.Common.{rules, tests, ◌∙◌, sym}
use Rattle.std.proofs.lemmas.Iterator.{YieldsList-from_map, YieldsList-from_slice}
use Rattle.std.proofs.lemmas.Iterator.Adapters.{option_map_id}
use Rattle.std.proofs.lemmas.Iterator.Consumers.{YieldsList-at, YieldsList-from_filter, min_from_yields_List}
use Rattle.case_table.specs.Rows.{is_doubled}
use Rattle.case_table.proofs.rows.least_doubled.Goals as goal

-- the least of the keys that the chain yields
pub returns : goal.returns
returns c =
    sym (option_map_id _)
    ∙ min_from_yields_List c.filter.result _ c.min.ensures.ran
    (YieldsList-from_filter _ (is_doubled c.args.rows.now) (YieldsList-at c.filter.ensures.source (YieldsList-from_map _ (λ row. row.key) (YieldsList-at c.map.ensures.source (YieldsList-from_slice c.args.rows.now (cc))) c.map.ensures.closure (λ x r q k. search rules))) c.filter.ensures.closure (λ x b q k. search (rules, tests)))
