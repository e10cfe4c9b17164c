-- Under smaller factors and smaller sizes every clause stays met. With the same factors this is a fact of each annex,
-- with the same sizes it says how factors make an annex stricter.
use Rattle.std.specs.Prelude.{◌≡◌, ℕ, ◌+◌, ◌*◌, ◌≤◌, true}
use Rattle.std.proofs.Common.{arith}
use Rattle.std.proofs.lemmas.Nat.{mul-le}
use Rattle.std.proofs.lemmas.Bool.Decides.{nat_tests}
use Rattle.stock.specs.declared.makes.Make.{Make}
use Rattle.parts.specs.declared.plates.Plate.{Plate}
use Rattle.parts.specs.declared.welds.Weld.{Weld}
use Rattle.bolting.specs.declared.bolt_groups.BoltLayout.{BoltLayout}
use Rattle.bolting.specs.declared.bolt_groups.Direction.{Direction}
use Rattle.components.specs.declared.Component.{Component}
use Rattle.components.specs.declared.Component.TheVariants.{Bolted, Welded}
use Rattle.components.specs.declared.Plates.{Plates}
use Rattle.components.specs.declared.Sizes.{Sizes}
use Rattle.components.specs.Parts.{plate_on, size_in}
use Rattle.parts.specs.declared.annexes.Factors.{Factors}
use Rattle.strength.specs.declared.BoltClause.{BoltClause}
use Rattle.strength.specs.declared.BoltClause.TheVariants.{Shear, Tension, Combined, Bearing, Gross, Net}
use Rattle.strength.specs.declared.WeldClause.{WeldClause}
use Rattle.strength.specs.declared.WeldClause.TheVariants.{CombinedStress, NormalStress}
use Rattle.strength.specs.Bolts.{shear_square, shear_met, tension_met, combined_met, tension_share}
use Rattle.strength.specs.Bearing.{bearing_met}
use Rattle.strength.specs.Sections.{gross_met, net_met}
use Rattle.strength.specs.Welds.{combined_stress_met, normal_stress_met, stress_square, weld_factor}
use Rattle.strength.specs.Strength.{bolt_clause_numbered, weld_clause_numbered, in_range, bolts_hold, welds_hold, strength_met}
use Rattle.annex.specs.Facts.{NoLarger}
use Rattle.annex.specs.Makes.{ruled, NoSmaller}
use Rattle.annex.specs.Forms.{within_lower, root_lower, signed_lower, both_lower, any_lower}

-- f and s are no larger than g and t
module _ (m : Make) (f g : Factors) (less : NoSmaller g f) (s t : Sizes) (no : NoLarger s t) where
  weighted : (w : ℕ) → w * f.gamma_m2 ≤ w * g.gamma_m2
  weighted w = mul-le w f.gamma_m2 w g.gamma_m2 (omega arith) less.1

  shear_square_lower : shear_square s ≤ shear_square t
  shear_square_lower =
      omega (arith, mul-le s.s1 s.s1 t.s1 t.s1 no.0 no.0, mul-le s.s2 s.s2 t.s2 t.s2 no.1 no.1)

  stress_square_lower : stress_square s ≤ stress_square t
  stress_square_lower =
      let mixed = mul-le s.s1 s.s2 t.s1 t.s2 no.0 no.1 in
      let third = mul-le s.s3 s.s3 t.s3 t.s3 no.2 no.2 in
      let rest = shear_square_lower in
      omega arith

  shear_lower : (l : BoltLayout) → shear_met (ruled m g) l t ≡ true → shear_met (ruled m f) l s ≡ true
  shear_lower l = root_lower _ _ _ _ _ _ (weighted 10) shear_square_lower (omega arith)

  tension_lower : (l : BoltLayout) → tension_met (ruled m g) l t ≡ true → tension_met (ruled m f) l s ≡ true
  tension_lower l = within_lower _ _ _ _ (mul-le _ _ _ _ (weighted 10) no.2) (omega arith)

  share_lower : (l : BoltLayout) → tension_share (ruled m f) l s ≤ tension_share (ruled m g) l t
  share_lower l = mul-le _ _ _ _ (mul-le _ _ _ _ (weighted 50) (omega arith)) no.2

  combined_lower : (l : BoltLayout) → combined_met (ruled m g) l t ≡ true → combined_met (ruled m f) l s ≡ true
  combined_lower l =
      let share = share_lower l in
      both_lower _ _ _ _
      (within_lower _ _ _ _ share (omega arith))
      (root_lower _ _ _ _ _ _ (weighted 630) shear_square_lower (omega arith))

  size_lower : (d : Direction) → size_in d s ≤ size_in d t
  size_lower d = grind arith

  bearing_lower : (l : BoltLayout) (p : Plate) (d : Direction) → bearing_met (ruled m g) l p d t ≡ true → bearing_met (ruled m f) l p d s ≡ true
  bearing_lower l p d = signed_lower _ _ _ (mul-le _ _ _ _ (mul-le _ _ _ _ (weighted 120) (omega arith)) (size_lower d))

  gross_lower : (l : BoltLayout) (p : Plate) → gross_met (ruled m g) l p t ≡ true → gross_met (ruled m f) l p s ≡ true
  gross_lower l p = within_lower _ _ _ _ (mul-le _ _ _ _ less.0 no.0) (omega arith)

  net_lower : (l : BoltLayout) (p : Plate) → net_met (ruled m g) l p t ≡ true → net_met (ruled m f) l p s ≡ true
  net_lower l p = both_lower _ _ _ _ (λ e. e) (within_lower _ _ _ _ (mul-le _ _ _ _ (weighted 10) no.0) (omega arith))

  combined_stress_lower : (w : Weld) (p : Plates) → combined_stress_met (ruled m g) w p t ≡ true → combined_stress_met (ruled m f) w p s ≡ true
  combined_stress_lower w p = root_lower _ _ _ _ _ _ (weighted (weld_factor (ruled m f) p)) stress_square_lower (omega arith)

  normal_stress_lower : (w : Weld) (p : Plates) → normal_stress_met (ruled m g) w p t ≡ true → normal_stress_met (ruled m f) w p s ≡ true
  normal_stress_lower w p =
      let sum : s.s1 + s.s2 ≤ t.s1 + t.s2 = omega (arith, no.0, no.1) in
      within_lower _ _ _ _ (mul-le _ _ _ _ (mul-le _ _ _ _ (weighted 50) (weighted 50)) (mul-le _ _ _ _ sum sum)) (omega arith)

  range_lower : in_range t ≡ true → in_range s ≡ true
  range_lower e = grind (arith, nat_tests)

  bolts_lower : (l : BoltLayout) (p : Plates) (clause : BoltClause) → bolts_hold (ruled m g) l p t clause ≡ true → bolts_hold (ruled m f) l p s clause ≡ true
  bolts_lower l p Shear = shear_lower l
  bolts_lower l p Tension = tension_lower l
  bolts_lower l p Combined = combined_lower l
  bolts_lower l p (Bearing d side) = bearing_lower l (plate_on side p) d
  bolts_lower l p (Gross side) = gross_lower l (plate_on side p)
  bolts_lower l p (Net side) = net_lower l (plate_on side p)

  welds_lower : (w : Weld) (p : Plates) (clause : WeldClause) → welds_hold (ruled m g) w p t clause ≡ true → welds_hold (ruled m f) w p s clause ≡ true
  welds_lower w p CombinedStress = combined_stress_lower w p
  welds_lower w p NormalStress = normal_stress_lower w p

  pub strength_lower : (c : Component) (k : ℕ) → strength_met (ruled m g) c k t ≡ true → strength_met (ruled m f) c k s ≡ true
  strength_lower (Bolted b p) k =
      any_lower (bolt_clause_numbered k) _ _ (λ clause. both_lower _ _ _ _ range_lower (bolts_lower b.layout p clause))
  strength_lower (Welded w p) k =
      any_lower (weld_clause_numbered m k) _ _ (λ clause. both_lower _ _ _ _ range_lower (welds_lower w p clause))
