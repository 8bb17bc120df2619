use Rattle.std.proofs.Common.{rules, tests}
use Rattle.std.proofs.lemmas.Iterator.{YieldsList-from_slice}
use Rattle.std.proofs.lemmas.Iterator.Search.{find_from_yields_List}
use Rattle.case_table.specs.Rows.{has_key}
use Rattle.case_table.proofs.rows.find.Goals as goal

pub returns-clause-first : goal.returns-clause-first
returns-clause-first c =
    let found = find_from_yields_List (has_key c.args.key) _ _ c.find.result c.find.ensures.ran (YieldsList-from_slice c.args.rows.now (cc)) (λ x b q k. search (rules, tests)) in
    cc (found, c.copied.ensures)
