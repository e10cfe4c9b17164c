use Rattle.std.proofs.Common.{rules, tests}
use Rattle.workshop.proofs.Printing.{columns_each}
use Rattle.workshop.specs.Rows.{row_numbers}
use Rattle.workshop.proofs.rows.Row.columns.Goals as goal

pub returns : goal.returns
returns c =
    columns_each (row_numbers c.args.self.now) c.map.result c.map.ensures.items.long
    (λ k d lt. let h = c.map.ensures.items.at k 0 d lt in search (rules, tests))
