-- The sections of a plate under force 1: the whole width b, and what the holes of a row leave of it.
use Rattle.std.specs.Prelude.{ℕ, ◌-◌, ◌*◌, Bool, ◌&&◌, nat_le}
use Rattle.stock.specs.Tables.{hole_diameter, yield_strength, ultimate_strength}
use Rattle.parts.specs.declared.plates.Plate.{Plate}
use Rattle.bolting.specs.declared.bolt_groups.BoltLayout.{BoltLayout}
use Rattle.bolting.specs.Layouts.{plate_width}
use Rattle.components.specs.declared.Sizes.{Sizes}
use Rattle.parts.specs.declared.annexes.Rules.{Rules}

-- gross section, NEd ≤ Npl,Rd = A·fy/γM0:  γM0·s1 ≤ b·t·fy
abbrev pub gross_met : Rules → BoltLayout → Plate → Sizes → Bool
gross_met r g p s = nat_le (r.factors.gamma_m0 * s.s1) (plate_width g * (p.thickness * yield_strength r.make p.grade p.thickness))

-- the holes of a row, mm
abbrev pub holes_width : BoltLayout → ℕ
holes_width g = g.columns * hole_diameter g.size

-- Net section, NEd ≤ Nu,Rd = 0.9·Anet·fu/γM2:  10·γM2·s1 ≤ 9·(b − columns·d0)·t·fu.
-- Holes that are wider than the plate leave none: it is not met at any size.
abbrev pub net_met : Rules → BoltLayout → Plate → Sizes → Bool
net_met r g p s =
    nat_le (holes_width g) (plate_width g)
    && nat_le (10 * r.factors.gamma_m2 * s.s1) ((plate_width g - holes_width g) * (9 * p.thickness * ultimate_strength r.make p.grade))
