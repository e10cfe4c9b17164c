use Rattle.std.proofs.Common.{◌≡◌, ◌^◌, ◌<◌, drop}
use Rattle.workshop.specs.Columns.{digits-after}
use Rattle.workshop.proofs.columns.value.Given as goal

abbrev pub invariant-loop-digit : goal.invariant-loop-digit
invariant-loop-digit l =
    (digits-after l.value (drop l.digit-index l.digits) ≡ digits-after 0 l.digits)
    × (l.value < 10 ^ l.digit-index)
