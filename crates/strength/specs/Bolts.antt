-- Shear and tension of the bolts. The bolts of a group share each force equally.
-- Forces are tenths of a kN, factors hundredths, areas mm², strengths N/mm².
use Rattle.std.specs.Prelude.{ℕ, ◌+◌, ◌-◌, ◌*◌, Bool, ◌&&◌, nat_le}
use Rattle.stock.specs.Tables.{bolt_strength, tensile_area, shear_factor}
use Rattle.bolting.specs.declared.bolt_groups.BoltLayout.{BoltLayout}
use Rattle.bolting.specs.Layouts.{bolt_count}
use Rattle.components.specs.declared.Sizes.{Sizes}
use Rattle.parts.specs.declared.annexes.Rules.{Rules}

-- w·√q ≤ r, squared
abbrev pub root_within : ℕ → ℕ → ℕ → Bool
root_within w q r = nat_le (w * w * q) (r * r)

-- the ultimate tensile force of a bolt fub·As, N
abbrev pub bolt_force : BoltLayout → ℕ
bolt_force g = bolt_strength g.class * tensile_area g.size

abbrev pub group_shear_factor : Rules → BoltLayout → ℕ
group_shear_factor r g = shear_factor r.make g.class

-- the square of the resultant of forces 1 and 2
abbrev pub shear_square : Sizes → ℕ
shear_square s = s.s1 * s.s1 + s.s2 * s.s2

-- shear, Fv,Ed ≤ Fv,Rd = n·αv·fub·As/γM2:  10·γM2·√(s1² + s2²) ≤ n·αv·fub·As
abbrev pub shear_met : Rules → BoltLayout → Sizes → Bool
shear_met r g s = root_within (10 * r.factors.gamma_m2) (shear_square s) (bolt_count g * group_shear_factor r g * bolt_force g)

-- tension, Ft,Ed ≤ Ft,Rd = n·0.9·fub·As/γM2:  10·γM2·s3 ≤ 9·n·fub·As
abbrev pub tension_met : Rules → BoltLayout → Sizes → Bool
tension_met r g s = nat_le (10 * r.factors.gamma_m2 * s.s3) (9 * bolt_count g * bolt_force g)

-- Both, Fv,Ed/Fv,Rd + Ft,Ed/(1.4·Ft,Rd) ≤ 1:  630·γM2·√(s1² + s2²) ≤ 63·αv·n·fub·As − 50·γM2·αv·s3,
-- where the right side is not negative.
abbrev pub shear_limit : Rules → BoltLayout → ℕ
shear_limit r g = 63 * group_shear_factor r g * bolt_count g * bolt_force g

abbrev pub tension_share : Rules → BoltLayout → Sizes → ℕ
tension_share r g s = 50 * r.factors.gamma_m2 * group_shear_factor r g * s.s3

abbrev pub combined_met : Rules → BoltLayout → Sizes → Bool
combined_met r g s =
    nat_le (tension_share r g s) (shear_limit r g)
    && root_within (630 * r.factors.gamma_m2) (shear_square s) (shear_limit r g - tension_share r g s)
