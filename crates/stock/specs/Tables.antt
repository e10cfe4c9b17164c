-- The closed lists and their tables.
use Rattle.std.specs.Prelude.{◌≡◌, ℕ, ◌-◌, cond, ℤ, pos, negsuc, Some, None, Option, Result, MatchResult, ◌==◌, nat_lt}
use Rattle.stock.specs.declared.listed.NotListed.{NotListed}
use Rattle.stock.specs.declared.makes.Make.{Make}
use Rattle.stock.specs.declared.makes.Make.TheVariants.{En, SeA}
use Rattle.stock.specs.declared.steel.Grade.{Grade}
use Rattle.stock.specs.declared.steel.Grade.TheVariants.{S235, S275, S355}
use Rattle.stock.specs.declared.bolts.BoltSize.{BoltSize}
use Rattle.stock.specs.declared.bolts.BoltSize.TheVariants.{M16, M20, M24, M27, M30}
use Rattle.stock.specs.declared.bolts.BoltClass.{BoltClass}
use Rattle.stock.specs.declared.bolts.BoltClass.TheVariants.{C46, C56, C68, C88, C109}

-- nominal yield strength, N/mm²
abbrev pub nominal_yield : Grade → ℕ
nominal_yield S235 = 235
nominal_yield S275 = 275
nominal_yield S355 = 355

-- fy, N/mm², by the thickness of the plate: under SE-A it is 10 lower above 16 mm
abbrev pub yield_strength : Make → Grade → ℕ → ℕ
yield_strength En grade t = nominal_yield grade
yield_strength SeA grade t = cond (nat_lt 16 t) (nominal_yield grade - 10) (nominal_yield grade)

-- fu, N/mm²
abbrev pub ultimate_strength : Make → Grade → ℕ
ultimate_strength En S235 = 360
ultimate_strength En S275 = 430
ultimate_strength En S355 = 490
ultimate_strength SeA S235 = 360
ultimate_strength SeA S275 = 410
ultimate_strength SeA S355 = 470

-- correlation factor of fillet welds, hundredths
abbrev pub weld_correlation : Grade → ℕ
weld_correlation S235 = 80
weld_correlation S275 = 85
weld_correlation S355 = 90

-- nominal diameter d, mm
abbrev pub bolt_diameter : BoltSize → ℕ
bolt_diameter M16 = 16
bolt_diameter M20 = 20
bolt_diameter M24 = 24
bolt_diameter M27 = 27
bolt_diameter M30 = 30

-- diameter of the hole d0, mm
abbrev pub hole_diameter : BoltSize → ℕ
hole_diameter M16 = 18
hole_diameter M20 = 22
hole_diameter M24 = 26
hole_diameter M27 = 30
hole_diameter M30 = 33

-- tensile stress area, mm²
abbrev pub tensile_area : BoltSize → ℕ
tensile_area M16 = 157
tensile_area M20 = 245
tensile_area M24 = 353
tensile_area M27 = 459
tensile_area M30 = 561

-- the number of a property class as a file writes it: 8.8 is 88
abbrev pub class_number : BoltClass → ℕ
class_number C46 = 46
class_number C56 = 56
class_number C68 = 68
class_number C88 = 88
class_number C109 = 109

-- ultimate tensile strength, N/mm²
abbrev pub bolt_strength : BoltClass → ℕ
bolt_strength C46 = 400
bolt_strength C56 = 500
bolt_strength C68 = 600
bolt_strength C88 = 800
bolt_strength C109 = 1000

-- αv, tenths: the share of its tensile strength that a bolt has in shear through its threads
abbrev pub shear_factor : Make → BoltClass → ℕ
shear_factor En C46 = 6
shear_factor En C56 = 6
shear_factor En C68 = 5
shear_factor En C88 = 6
shear_factor En C109 = 5
shear_factor SeA class = 5

-- the number of a make as a file writes it
abbrev pub make_number : Make → ℕ
make_number En = 1
make_number SeA = 2

-- a number that comes from a file, where it is that of the item
module _ {X : Type 0} where
  abbrev pub item_or : (X → ℕ) → X → ℤ → Option X → Option X
  item_or number x (pos n) rest = cond (n == number x) (Some x) rest
  item_or number x (negsuc n) rest = rest

  -- the item of that number, or the number that names none
  abbrev pub Names : (ℤ → Option X) → ℤ → Result X NotListed → Type 0
  Names numbered z r = MatchResult r (λ x. numbered z ≡ Some x) (λ e. (numbered z ≡ None) × (e.number ≡ z))

abbrev pub make_numbered : ℤ → Option Make
make_numbered z = item_or make_number En z (item_or make_number SeA z None)

abbrev pub grade_numbered : ℤ → Option Grade
grade_numbered z = item_or nominal_yield S235 z (item_or nominal_yield S275 z (item_or nominal_yield S355 z None))

abbrev pub size_numbered : ℤ → Option BoltSize
size_numbered z =
    item_or bolt_diameter M16 z (item_or bolt_diameter M20 z (item_or bolt_diameter M24 z (item_or bolt_diameter M27 z (item_or bolt_diameter M30 z None))))

abbrev pub class_numbered : ℤ → Option BoltClass
class_numbered z =
    item_or class_number C46 z (item_or class_number C56 z (item_or class_number C68 z (item_or class_number C88 z (item_or class_number C109 z None))))
