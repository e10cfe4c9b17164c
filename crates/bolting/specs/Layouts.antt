-- What a bolt layout measures.
use Rattle.std.specs.Prelude.{ℕ, ◌+◌, ◌-◌, ◌*◌, Bool, nat_le}
use Rattle.bolting.specs.declared.bolt_groups.BoltLayout.{BoltLayout}
use Rattle.bolting.specs.declared.bolt_groups.Direction.{Direction}
use Rattle.bolting.specs.declared.bolt_groups.Direction.TheVariants.{Along, Across}
use Rattle.bolting.specs.declared.bolt_groups.Spacing.{Spacing}

-- the number of bolts n
abbrev pub bolt_count : BoltLayout → ℕ
bolt_count g = g.rows * g.columns

-- the width b of a plate, mm: the edge distance on both sides and a spacing between neighbouring columns
abbrev pub plate_width : BoltLayout → ℕ
plate_width g = 2 * g.e2 + (g.columns - 1) * g.p2

-- the layout in one direction: rows, e1 and p1 along it; columns, e2 and p2 across it
abbrev pub spacing_in : Direction → BoltLayout → Spacing
spacing_in Along g = record { lines = g.rows; end = g.e1; pitch = g.p1 }
spacing_in Across g = record { lines = g.columns; end = g.e2; pitch = g.p2 }

-- one row (column) alone has no pitch
abbrev pub single : Spacing → Bool
single s = nat_le s.lines 1

abbrev pub other_direction : Direction → Direction
other_direction Along = Across
other_direction Across = Along
