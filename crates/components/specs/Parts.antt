-- What is read off a component's plates, and off the sizes of its forces.
use Rattle.std.specs.Prelude.{ℕ, min, cond, nat_lt}
use Rattle.stock.specs.declared.makes.Make.{Make}
use Rattle.stock.specs.declared.steel.Grade.{Grade}
use Rattle.stock.specs.Tables.{ultimate_strength}
use Rattle.parts.specs.declared.plates.Plate.{Plate}
use Rattle.bolting.specs.declared.bolt_groups.Direction.{Direction}
use Rattle.bolting.specs.declared.bolt_groups.Direction.TheVariants.{Along, Across}
use Rattle.components.specs.declared.Side.{Side}
use Rattle.components.specs.declared.Side.TheVariants.{A, B}
use Rattle.components.specs.declared.Plates.{Plates}
use Rattle.components.specs.declared.Sizes.{Sizes}

abbrev pub plate_on : Side → Plates → Plate
plate_on A p = p.plate_a
plate_on B p = p.plate_b

-- the thickness of the thinner plate, mm
abbrev pub thinner : Plates → ℕ
thinner p = min p.plate_a.thickness p.plate_b.thickness

-- the steel with the lower fu
abbrev pub weaker_grade : Make → Plates → Grade
weaker_grade m p =
    cond (nat_lt (ultimate_strength m p.plate_b.grade) (ultimate_strength m p.plate_a.grade)) p.plate_b.grade p.plate_a.grade

-- force 1 acts along the rows' pitch, force 2 across it
abbrev pub size_in : Direction → Sizes → ℕ
size_in Along s = s.s1
size_in Across s = s.s2
