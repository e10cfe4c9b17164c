use Rattle.std.proofs.Common.{arith}
use Rattle.workshop.proofs.Reading.{digits_room}
use Rattle.workshop.proofs.columns.value.Goals as goal

pub returns-clause-small : goal.returns-clause-small
returns-clause-small c = digits_room c.loop-digit.value c.loop-digit.digit-index c.loop-digit.invariant.1 (omega arith)
