use Rattle.std.proofs.Common.{◌≡◌, ◌≤◌, length}
use Rattle.workshop.specs.Columns.{behind_spaces}
use Rattle.workshop.proofs.columns.skip_spaces.Given as goal

abbrev pub invariant-loop-rest : goal.invariant-loop-rest
invariant-loop-rest l = (behind_spaces l.rest ≡ behind_spaces l.field) × (length l.rest ≤ length l.field)

abbrev pub decreases-loop-rest : goal.decreases-loop-rest
decreases-loop-rest l = length l.rest
