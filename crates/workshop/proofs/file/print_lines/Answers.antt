use Rattle.std.proofs.Common.{◌++◌, length, ap, ◌∙◌, rules, tests}
use Rattle.std.proofs.lemmas.List.{length_push}
use Rattle.std.proofs.lemmas.Iterator.Consumers.{YieldsList-turn, YieldsList-end}
use Rattle.workshop.specs.Stages.{state_of}
use Rattle.workshop.proofs.Reports.{lines_counted, row_more, rows_end, rows_all, rows_left}
use Rattle.workshop.proofs.file.print_lines.Goals as goal

pub loop-i-preserved : goal.loop-i-preserved
loop-i-preserved c =
    let text = c.args.text.now in
    let turn = YieldsList-turn
    (lines_counted _ text c.into_iter-i-iterator.ensures.into_iter_gives c.enumerate-i-items.ensures.source c.enumerate-i-items.ensures.count
    c.split.ensures.rest c.split.ensures.done c.split.ensures.closure (λ x b q k. search (rules, tests)))
    c.loop-i.yielded _ c.loop-i.yielded_by _ _ (c.in-Some.i, c.in-Some.line) c.in-Some.is c.next.ensures.steps in
    ap (λ k. c.print.new.report.items ++ rows_left text k (state_of c.act-answer.new.self)) (length_push c.loop-i.yielded (c.in-Some.i, c.in-Some.line))
    ∙ row_more text (length c.loop-i.yielded) (state_of c.loop-i.stage) c.loop-i.report.items _ c.loop-i.invariant
    c.in-Some.i c.in-Some.line.now (state_of c.act-answer.new.self) c.act-answer.result c.print.new.report.items turn
    c.act-answer.ensures c.in_ok-print.ensures

pub returns : goal.returns
returns c =
    let text = c.args.text.now in
    let all = YieldsList-end
    (lines_counted _ text c.into_iter-i-iterator.ensures.into_iter_gives c.enumerate-i-items.ensures.source c.enumerate-i-items.ensures.count
    c.split.ensures.rest c.split.ensures.done c.split.ensures.closure (λ x b q k. search (rules, tests)))
    c.loop-i.yielded _ c.loop-i.yielded_by _ _ c.in-None.is c.next.ensures.steps in
    rows_end text (length c.loop-i.yielded) (state_of c.loop-i.stage) c.loop-i.report.items _ c.loop-i.invariant all.1
    ∙ ap (λ l. c.args.report.now.items ++ l) (rows_all text)
