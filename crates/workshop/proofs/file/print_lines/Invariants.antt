use Rattle.std.proofs.Common.{◌≡◌, ◌++◌, length}
use Rattle.workshop.specs.Stages.{start, state_of}
use Rattle.workshop.proofs.Reports.{rows_left}
use Rattle.workshop.proofs.file.print_lines.Given as goal

-- the rows printed and those of the lines left are those of the text
abbrev pub invariant-loop-i : goal.invariant-loop-i
invariant-loop-i l =
    l.report.items ++ rows_left l.text (length l.yielded) (state_of l.stage) ≡ l.initial.report.items ++ rows_left l.text 0 start
