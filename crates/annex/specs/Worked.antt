-- Worked joints: the last force that meets a clause, and the first that does not.
use Rattle.std.specs.Prelude.{◌≡◌, ℕ, Bool, true, false}
use Rattle.stock.specs.declared.bolts.BoltClass.TheVariants.{C88}
use Rattle.stock.specs.declared.bolts.BoltSize.TheVariants.{M20}
use Rattle.stock.specs.declared.steel.Grade.TheVariants.{S275}
use Rattle.parts.specs.declared.marks.ComponentMarks.{ComponentMarks}
use Rattle.parts.specs.declared.plates.Plate.{Plate}
use Rattle.parts.specs.declared.welds.Weld.{Weld}
use Rattle.bolting.specs.declared.bolt_groups.BoltLayout.{BoltLayout}
use Rattle.components.specs.declared.Component.{Component}
use Rattle.components.specs.declared.Component.TheVariants.{Bolted, Welded}
use Rattle.components.specs.declared.Plates.{Plates}
use Rattle.components.specs.declared.Sizes.{Sizes}
use Rattle.stock.specs.declared.makes.Make.TheVariants.{En, SeA}
use Rattle.parts.specs.declared.annexes.Factors.{Factors}
use Rattle.annex.specs.Meaning.{Meaning}
use Rattle.annex.specs.Facts.{LaidOut, Withstands}
use Rattle.annex.specs.Makes.{ruled, rules_meaning}

-- two plates of 10 mm, S275
abbrev plate : ℕ → Plate
plate n = record { mark = n; thickness = 10; grade = S275 }

abbrev pub plate_pair : Plates
plate_pair = record { plate_a = plate 1; plate_b = plate 2 }

-- the mark of a component that joins them
abbrev marked : ℕ → ComponentMarks
marked n = record { mark = n; plate_a = 1; plate_b = 2 }

-- bolts M20 of class 8.8: rows, columns, e1, p1, e2, p2
abbrev layout_of : ℕ → ℕ → ℕ → ℕ → ℕ → ℕ → BoltLayout
layout_of n m a1 b1 a2 b2 = record { size = M20; class = C88; rows = n; columns = m; e1 = a1; p1 = b1; e2 = a2; p2 = b2 }

abbrev bolted : BoltLayout → Component
bolted l = Bolted (record { marks = marked 7; layout = l }) plate_pair

-- four of them, by their end and edge distances
abbrev joint : ℕ → ℕ → Component
joint a1 a2 = bolted (layout_of 2 2 a1 70 a2 70)

abbrev pub layout_j : BoltLayout
layout_j = layout_of 2 2 40 70 40 70

abbrev pub joint_j : Component
joint_j = bolted layout_j

-- one of them
abbrev single_bolt : Component
single_bolt = bolted (layout_of 1 1 40 0 40 0)

-- throats of 5.0 mm, 200 mm long
abbrev pub throats_k : Weld
throats_k = record { marks = marked 8; throat = 50; length = 200 }

abbrev pub weld_k : Component
weld_k = Welded throats_k plate_pair

abbrev pub factors_en : Factors
factors_en = record { gamma_m0 = 100; gamma_m2 = 125 }

abbrev pub en : Meaning
en = rules_meaning (ruled En factors_en)

abbrev pub sea : Meaning
sea = rules_meaning (ruled SeA (record { gamma_m0 = 105; gamma_m2 = 125 }))

abbrev pub force_1_alone : ℕ → Sizes
force_1_alone n = record { s1 = n; s2 = 0; s3 = 0 }

abbrev force_3_alone : ℕ → Sizes
force_3_alone n = record { s1 = 0; s2 = 0; s3 = n }

-- force 1 beside a tension of 200 kN
abbrev with_tension : ℕ → Sizes
with_tension n = record { s1 = n; s2 = 0; s3 = 2000 }

-- met by the first number, and not by the second
abbrev Edge : (ℕ → Bool) → ℕ → ℕ → Type 0
Edge met last next = (met last ≡ true) × (met next ≡ false)

-- The joint and the weld meet every layout clause of both makes, and every strength clause of EN under forces of some
-- hundred kN. Then the edges of single clauses, by their numbers.
unfoldable pub WorkedJoints : Type 0
WorkedJoints =
    (LaidOut en joint_j × LaidOut sea joint_j × LaidOut en weld_k × LaidOut sea weld_k)
    × (Withstands en joint_j (force_1_alone 3000) × Withstands en weld_k (record { s1 = 3000; s2 = 2000; s3 = 0 }))
    × (Edge (λ n. en.layout (joint n 40) 11) 27 26 × Edge (λ n. sea.layout (joint n 40) 11) 27 26)
    × ((en.layout (joint 40 32) 12 ≡ true) × (sea.layout (joint 40 32) 12 ≡ false))
    × (Edge (λ n. en.strength joint_j 31 (force_1_alone n)) 3763 3764 × Edge (λ n. sea.strength joint_j 31 (force_1_alone n)) 3136 3137)
    × (Edge (λ n. en.strength joint_j 32 (force_3_alone n)) 5644 5645 × Edge (λ n. sea.strength joint_j 32 (force_3_alone n)) 5644 5645)
    × Edge (λ n. en.strength joint_j 33 (with_tension n)) 2810 2811
    × Edge (λ n. en.strength joint_j 34 (force_1_alone n)) 4169 4170
    × (Edge (λ n. en.strength joint_j 40 (force_1_alone n)) 3281 3282 × Edge (λ n. sea.strength joint_j 40 (force_1_alone n)) 3129 3130)
    × Edge (λ n. en.strength single_bolt 34 (force_1_alone n)) 1042 1043
    × Edge (λ n. en.strength weld_k 51 (force_3_alone n)) 4673 4674
