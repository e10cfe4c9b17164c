-- A component that meets every layout clause meets every strength clause without force: no right side is negative.
use Rattle.std.specs.Prelude.{◌≡◌, ℕ, zero, suc, ◌+◌, ◌-◌, ◌*◌, ◌≤◌, true, false, ℤ, pos, ◌*ℤ◌, int_le, nat_le}
use Rattle.std.proofs.Common.{mul-zero, zero-mul, suc-mul, one-mul, arith, lit≤}
use Rattle.std.specs.Int.{int_min}
use Rattle.std.proofs.lemmas.Nat.{mul-le}
use Rattle.std.proofs.lemmas.Bool.Decides.{nat_tests}
use Rattle.std.proofs.lemmas.Bool.{le-leb, lt-leb, and_from}
use Rattle.stock.specs.Tables.{hole_diameter}
use Rattle.stock.specs.declared.makes.Make.{Make}
use Rattle.parts.specs.declared.plates.Plate.{Plate}
use Rattle.parts.specs.declared.welds.Weld.{Weld}
use Rattle.bolting.specs.declared.bolt_groups.BoltGroup.{BoltGroup}
use Rattle.bolting.specs.declared.bolt_groups.BoltLayout.{BoltLayout}
use Rattle.bolting.specs.declared.bolt_groups.Direction.{Direction}
use Rattle.bolting.specs.declared.bolt_groups.Direction.TheVariants.{Along, Across}
use Rattle.bolting.specs.declared.bolt_groups.Spacing.{Spacing}
use Rattle.bolting.specs.Layouts.{other_direction, plate_width, spacing_in, single}
use Rattle.components.specs.declared.Component.TheVariants.{Bolted, Welded}
use Rattle.components.specs.declared.Plates.{Plates}
use Rattle.components.specs.Parts.{plate_on, size_in, thinner}
use Rattle.layout.specs.declared.BoltClause.TheVariants.{MinEnd, MinPitch}
use Rattle.parts.specs.declared.annexes.Rules.{Rules}
use Rattle.strength.specs.declared.BoltClause.{BoltClause}
use Rattle.strength.specs.declared.BoltClause.TheVariants.{Shear, Tension, Combined, Bearing, Gross, Net}
use Rattle.strength.specs.declared.WeldClause.{WeldClause}
use Rattle.layout.specs.Layout.{bolts_laid_out}
use Rattle.strength.specs.Bearing.{bearing_stress, edge_ratio, bearing_met}
use Rattle.strength.specs.Sections.{holes_width}
use Rattle.strength.specs.Strength.{bolt_clause_numbered, weld_clause_numbered, bolts_hold, welds_hold}
use Rattle.annex.specs.Facts.{LaidOut, no_force, UnloadedMet}
use Rattle.annex.specs.Makes.{rules_meaning}
use Rattle.annex.specs.Forms.{signed_lower, any_met}

-- nothing is within any limit
zero_within : (w r : ℕ) → nat_le (w * 0) r ≡ true
zero_within w r = grind (arith, mul-zero)

-- a signed number that is not negative
record Above (z : ℤ) : Type 0 where
  sign : int_le (pos 0) z ≡ true

above_number : (n : ℕ) → Above (pos n)
above_number n = record { sign = le-leb 0 n (omega arith) }

above_least : (x y : ℤ) → Above x → Above y → Above (int_min x y)
above_least x y p q = grind (arith, nat_tests)

above_product : (x y : ℤ) → Above x → Above y → Above (x *ℤ y)
above_product x y p q = grind (arith, nat_tests)

-- What the layout clauses leave of a direction, for both makes: e is at least 1.2 d0, and p at least 2.2 d0.
abbrev Spread : Spacing → ℕ → Type 0
Spread s d0 = (12 * d0 ≤ 10 * s.end) × (single s ≡ false → 22 * d0 ≤ 10 * s.pitch)

spread : (m : Make) (l : BoltLayout) (t : ℕ) (d : Direction) → bolts_laid_out m l t (MinEnd d) ≡ true → bolts_laid_out m l t (MinPitch d) ≡ true → Spread (spacing_in d l) (hole_diameter l.size)
spread m l t d e p = grind (arith, nat_tests)

stress_above : (s : Spacing) (d0 fub fu : ℕ) → Spread s d0 → Above (bearing_stress s d0 fub fu)
stress_above s d0 fub fu h = grind (arith, nat_tests, above_product, above_least)

edge_above : (m : Make) (s : Spacing) (d0 : ℕ) → Spread s d0 → Above (edge_ratio m s d0)
edge_above m s d0 h = grind (arith, nat_tests)

-- the holes of a row leave some of the width
holes_fit : (c d0 e p : ℕ) → 12 * d0 ≤ 10 * e → (nat_le c 1 ≡ false → 22 * d0 ≤ 10 * p) → c * d0 ≤ 2 * e + (c - 1) * p
holes_fit zero d0 e p h k = omega (arith, zero-mul d0)
holes_fit (suc zero) d0 e p h k = omega (arith, one-mul d0, zero-mul p)
holes_fit (suc (suc n)) d0 e p h k =
    let apart = k (lt-leb (suc (suc n)) 1 (omega arith)) in
    let rest : suc (suc n) - 1 ≡ suc n = omega arith in
    rw rest (omega (arith, suc-mul (suc n) d0, mul-le (suc n) d0 (suc n) p (omega arith) (omega arith)))

module _ (r : Rules) (l : BoltLayout) (p : Plates) (laid : (d : Direction) → Spread (spacing_in d l) (hole_diameter l.size)) where
  no_force_weighs : (w : ℕ) (d : Direction) → w * size_in d no_force ≤ 0
  no_force_weighs w d = grind (arith, mul-zero)

  bearing_unloaded : (q : Plate) (d : Direction) → bearing_met r l q d no_force ≡ true
  bearing_unloaded q d =
      signed_lower _ 0 _ (no_force_weighs _ d)
      (above_product _ _ (stress_above (spacing_in d l) (hole_diameter l.size) _ _ (laid d))
      (above_product _ _ (above_number _) (edge_above r.make (spacing_in (other_direction d) l) (hole_diameter l.size) (laid (other_direction d))))).sign

  bolts_unloaded : (clause : BoltClause) → bolts_hold r l p no_force clause ≡ true
  bolts_unloaded Shear = zero_within _ _
  bolts_unloaded Tension = zero_within _ _
  bolts_unloaded Combined = grind (arith, nat_tests, mul-zero)
  bolts_unloaded (Bearing d side) = bearing_unloaded (plate_on side p) d
  bolts_unloaded (Gross side) = zero_within _ _
  bolts_unloaded (Net side) =
      and_from (nat_le (holes_width l) (plate_width l)) _
      (le-leb _ _ (holes_fit l.columns (hole_diameter l.size) l.e2 l.p2 (laid Across).0 (laid Across).1))
      (zero_within (10 * r.factors.gamma_m2) _)

welds_unloaded : (r : Rules) (w : Weld) (p : Plates) (clause : WeldClause) → welds_hold r w p no_force clause ≡ true
welds_unloaded r w p clause = grind (arith, mul-zero)

-- the layout clauses 11 to 14 are what counts here
laid_spread : (r : Rules) (g : BoltGroup) (p : Plates) → LaidOut (rules_meaning r) (Bolted g p) → (d : Direction) → Spread (spacing_in d g.layout) (hole_diameter g.layout.size)
laid_spread r g p h Along = spread r.make g.layout (thinner p) Along (h 11 (lit≤ tt, lit≤ tt)) (h 13 (lit≤ tt, lit≤ tt))
laid_spread r g p h Across = spread r.make g.layout (thinner p) Across (h 12 (lit≤ tt, lit≤ tt)) (h 14 (lit≤ tt, lit≤ tt))

pub rules_unloaded : (r : Rules) → UnloadedMet (rules_meaning r)
rules_unloaded r (Bolted g p) h k n = any_met (bolt_clause_numbered k) _ (bolts_unloaded r g.layout p (laid_spread r g p h))
rules_unloaded r (Welded w p) h k n = any_met (weld_clause_numbered r.make k) _ (welds_unloaded r w p)
