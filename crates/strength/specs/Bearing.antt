-- Bearing of the bolts on a plate, in the direction of one of the forces.
-- Fb,Ed ≤ Fb,Rd = n·αb·k1·fu·d·t/γM2:  γM2·s ≤ n·αb·k1·fu·d·t.
-- αb·fu and k1 are each the least of a few quotients; here they are multiplied by 12·d0 and by 10·d0, which makes
-- whole numbers of them. They are negative where distances are far too small.
use Rattle.std.specs.Prelude.{ℕ, ◌*◌, min, Bool, cond, ℤ, pos, ◌-ℤ◌, ◌*ℤ◌, int_le}
use Rattle.std.specs.Int.{int_min}
use Rattle.stock.specs.Tables.{bolt_diameter, hole_diameter, bolt_strength, ultimate_strength}
use Rattle.stock.specs.declared.makes.Make.{Make}
use Rattle.stock.specs.declared.makes.Make.TheVariants.{En, SeA}
use Rattle.parts.specs.declared.plates.Plate.{Plate}
use Rattle.bolting.specs.declared.bolt_groups.BoltLayout.{BoltLayout}
use Rattle.bolting.specs.declared.bolt_groups.Direction.{Direction}
use Rattle.bolting.specs.declared.bolt_groups.Spacing.{Spacing}
use Rattle.bolting.specs.Layouts.{bolt_count, other_direction, spacing_in, single}
use Rattle.components.specs.declared.Sizes.{Sizes}
use Rattle.components.specs.Parts.{size_in}
use Rattle.parts.specs.declared.annexes.Rules.{Rules}

-- the least of x and of the pitch's term; a line alone has no pitch
abbrev pub least_with_pitch : Spacing → ℤ → ℤ → ℤ
least_with_pitch s term x = cond (single s) x (int_min term x)

-- the least of e/(3·d0), p/(3·d0) − 1/4 and 1, in the direction of the force; times 12·d0
abbrev pub end_ratio : Spacing → ℕ → ℤ
end_ratio s d0 =
    least_with_pitch s (pos (4 * s.pitch) -ℤ pos (3 * d0)) (pos (min (4 * s.end) (12 * d0)))

-- αb·fu, where αb is the least of these and of fub/fu; times 12·d0
abbrev pub bearing_stress : Spacing → ℕ → ℕ → ℕ → ℤ
bearing_stress s d0 fub fu = int_min (pos fu *ℤ end_ratio s d0) (pos (12 * d0 * fub))

-- k1 is 2.5 at most; times 10·d0
abbrev pub full_edge_ratio : ℕ → ℤ
full_edge_ratio d0 = pos (25 * d0)

-- k1: the least of 2.8·e/d0 − 1.7, 1.4·p/d0 − 1.7 and 2.5, across the force; times 10·d0
abbrev pub en_edge_ratio : Spacing → ℕ → ℤ
en_edge_ratio s d0 =
    least_with_pitch s (pos (14 * s.pitch) -ℤ pos (17 * d0)) (int_min (pos (28 * s.end) -ℤ pos (17 * d0)) (full_edge_ratio d0))

-- under SE-A k1 is 2.5
abbrev pub edge_ratio : Make → Spacing → ℕ → ℤ
edge_ratio En s d0 = en_edge_ratio s d0
edge_ratio SeA s d0 = full_edge_ratio d0

-- γM2, times 120·d0²
abbrev pub bearing_weight : ℕ → ℕ → ℕ
bearing_weight gamma2 d0 = 120 * gamma2 * (d0 * d0)

-- n·d·t, mm²
abbrev pub bearing_area : BoltLayout → Plate → ℕ
bearing_area g p = bolt_count g * bolt_diameter g.size * p.thickness

-- 120·γM2·d0²·s ≤ (12·d0·αb·fu)·(10·d0·k1)·n·d·t
abbrev pub bearing_met : Rules → BoltLayout → Plate → Direction → Sizes → Bool
bearing_met r g p d s =
    int_le
    (pos (bearing_weight r.factors.gamma_m2 (hole_diameter g.size) * size_in d s))
    (bearing_stress (spacing_in d g) (hole_diameter g.size) (bolt_strength g.class) (ultimate_strength r.make p.grade)
    *ℤ (pos (bearing_area g p) *ℤ edge_ratio r.make (spacing_in (other_direction d) g) (hole_diameter g.size)))
