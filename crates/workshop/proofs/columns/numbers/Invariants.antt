use Rattle.std.proofs.Common.{◌≡◌, length}
use Rattle.workshop.specs.Columns.{numbers_of}
use Rattle.workshop.proofs.Reading.{left_after}
use Rattle.workshop.proofs.columns.numbers.Given as goal

abbrev pub invariant-loop-i : goal.invariant-loop-i
invariant-loop-i g l =
    (left_after l.fields l.i l.numbers ≡ numbers_of l.fields)
    × (length l.numbers ≡ g.row.N)
