-- Strength clauses by their numbers. They are judged on the component and three sizes.
use Rattle.std.specs.Prelude.{ℕ, Bool, ◌&&◌, None, Option, nat_le}
use Rattle.stock.specs.declared.makes.Make.{Make}
use Rattle.stock.specs.declared.makes.Make.TheVariants.{En, SeA}
use Rattle.parts.specs.declared.welds.Weld.{Weld}
use Rattle.bolting.specs.declared.bolt_groups.BoltLayout.{BoltLayout}
use Rattle.bolting.specs.declared.bolt_groups.Direction.TheVariants.{Along, Across}
use Rattle.components.specs.declared.Component.{Component}
use Rattle.components.specs.declared.Component.TheVariants.{Bolted, Welded}
use Rattle.components.specs.declared.Plates.{Plates}
use Rattle.components.specs.declared.Side.TheVariants.{A, B}
use Rattle.components.specs.declared.Sizes.{Sizes}
use Rattle.components.specs.Parts.{plate_on}
use Rattle.parts.specs.declared.annexes.Rules.{Rules}
use Rattle.strength.specs.declared.BoltClause.{BoltClause}
use Rattle.strength.specs.declared.BoltClause.TheVariants.{Shear, Tension, Combined, Bearing, Gross, Net}
use Rattle.strength.specs.declared.WeldClause.{WeldClause}
use Rattle.strength.specs.declared.WeldClause.TheVariants.{CombinedStress, NormalStress}
use Rattle.components.specs.Numbered.{at_number, met_if_any}
use Rattle.strength.specs.Bolts.{shear_met, tension_met, combined_met}
use Rattle.strength.specs.Bearing.{bearing_met}
use Rattle.strength.specs.Sections.{gross_met, net_met}
use Rattle.strength.specs.Welds.{combined_stress_met, normal_stress_met}

abbrev pub bolt_clause_numbered : ℕ → Option BoltClause
bolt_clause_numbered k =
    at_number k 31 Shear (at_number k 32 Tension (at_number k 33 Combined
    (at_number k 34 (Bearing Along A) (at_number k 35 (Bearing Along B)
    (at_number k 36 (Bearing Across A) (at_number k 37 (Bearing Across B)
    (at_number k 38 (Gross A) (at_number k 39 (Gross B)
    (at_number k 40 (Net A) (at_number k 41 (Net B) None))))))))))

-- 52 is of EN alone
abbrev pub weld_clause_numbered : Make → ℕ → Option WeldClause
weld_clause_numbered En k = at_number k 51 CombinedStress (at_number k 52 NormalStress None)
weld_clause_numbered SeA k = at_number k 51 CombinedStress None

-- the rules cover forces of up to 2,000 kN
abbrev pub in_range : Sizes → Bool
in_range s = nat_le s.s1 20000 && nat_le s.s2 20000 && nat_le s.s3 20000

abbrev pub bolts_hold : Rules → BoltLayout → Plates → Sizes → BoltClause → Bool
bolts_hold r g p s Shear = shear_met r g s
bolts_hold r g p s Tension = tension_met r g s
bolts_hold r g p s Combined = combined_met r g s
bolts_hold r g p s (Bearing d side) = bearing_met r g (plate_on side p) d s
bolts_hold r g p s (Gross side) = gross_met r g (plate_on side p) s
bolts_hold r g p s (Net side) = net_met r g (plate_on side p) s

abbrev pub welds_hold : Rules → Weld → Plates → Sizes → WeldClause → Bool
welds_hold r w p s CombinedStress = combined_stress_met r w p s
welds_hold r w p s NormalStress = normal_stress_met r w p s

abbrev pub strength_met : Rules → Component → ℕ → Sizes → Bool
strength_met r (Bolted g p) k s = met_if_any (bolt_clause_numbered k) (λ clause. in_range s && bolts_hold r g.layout p s clause)
strength_met r (Welded w p) k s = met_if_any (weld_clause_numbered r.make k) (λ clause. in_range s && welds_hold r w p s clause)
