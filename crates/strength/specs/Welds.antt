-- A pair of fillet welds by the directional method: stresses in the throats, of which each bead has a·L.
-- Throats are tenths of a mm, lengths mm; fu and βw are those of the steel with the lower fu.
use Rattle.std.specs.Prelude.{ℕ, ◌+◌, ◌*◌, Bool, nat_le}
use Rattle.stock.specs.Tables.{weld_correlation, ultimate_strength}
use Rattle.parts.specs.declared.welds.Weld.{Weld}
use Rattle.components.specs.declared.Plates.{Plates}
use Rattle.components.specs.declared.Sizes.{Sizes}
use Rattle.components.specs.Parts.{weaker_grade}
use Rattle.parts.specs.declared.annexes.Rules.{Rules}
use Rattle.strength.specs.Bolts.{root_within}

abbrev pub weld_ultimate : Rules → Plates → ℕ
weld_ultimate r p = ultimate_strength r.make (weaker_grade r.make p)

abbrev pub weld_factor : Rules → Plates → ℕ
weld_factor r p = weld_correlation (weaker_grade r.make p)

-- σ⊥² + 3·(τ⊥² + τ∥²) of the bead that has more of it, times (2·a·L)². With its signs the product s1·s2 would be
-- less in one of the two beads; the other has the sum.
abbrev pub stress_square : Sizes → ℕ
stress_square s = 2 * (s.s1 * s.s1 + s.s2 * s.s2 + s.s1 * s.s2) + 3 * (s.s3 * s.s3)

-- √(σ⊥² + 3·(τ⊥² + τ∥²)) ≤ fu/(βw·γM2):  βw·γM2·√(stress square) ≤ 20·a·L·fu
abbrev pub combined_stress_met : Rules → Weld → Plates → Sizes → Bool
combined_stress_met r w p s =
    root_within (weld_factor r p * r.factors.gamma_m2) (stress_square s) (20 * w.throat * (w.length * weld_ultimate r p))

-- σ⊥ ≤ 0.9·fu/γM2:  50·γM2·(s1 + s2) ≤ √2·9·a·L·fu, squared
abbrev pub normal_stress_met : Rules → Weld → Plates → Sizes → Bool
normal_stress_met r w p s =
    let root : ℕ = 9 * w.throat * (w.length * weld_ultimate r p) in
    nat_le (50 * r.factors.gamma_m2 * (50 * r.factors.gamma_m2) * ((s.s1 + s.s2) * (s.s1 + s.s2))) (2 * (root * root))
