use Rattle.std.proofs.Common.{rules, tests, ◌∙◌}
use Rattle.std.proofs.lemmas.Iterator.{YieldsList-from_slice}
use Rattle.std.proofs.lemmas.Iterator.Consumers.{YieldsList-from_filter, count_from_yields_List}
use Rattle.toml.specs.View.{view}
use Rattle.board_tables.specs.Fields.{is_table}
use Rattle.board_file.proofs.CountLaws.{tables_counted}
use Rattle.board_file.proofs.wiring.count_tables.Goals as goal

pub returns : goal.returns
returns c =
    let items = c.args.items.now in
    count_from_yields_List c.filter.result _ c.count.ensures.ran
    (YieldsList-from_filter _ (λ v. is_table (view v)) (YieldsList-from_slice items (cc)) c.filter.ensures.closure (λ x r q k. search (rules, tests)))
    ∙ tables_counted items
