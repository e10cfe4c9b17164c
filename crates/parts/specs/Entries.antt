-- The record that an entry makes, or its first field outside the limits.
use Rattle.std.specs.Prelude.{ℕ, List, ℤ, pos, Ok, Result, slice_index_or}
use Rattle.parts.specs.declared.limits.OutOfLimits.{OutOfLimits}
use Rattle.parts.specs.declared.marks.ComponentMarks.{ComponentMarks}
use Rattle.parts.specs.declared.plates.Plate.{Plate}
use Rattle.parts.specs.declared.welds.Weld.{Weld}
use Rattle.parts.specs.declared.annexes.Factors.{Factors}
use Rattle.parts.specs.declared.annexes.Rules.{Rules}
use Rattle.parts.specs.declared.annexes.AnnexEntry.{AnnexEntry}
use Rattle.parts.specs.declared.plates.PlateEntry.{PlateEntry}
use Rattle.parts.specs.declared.welds.WeldEntry.{WeldEntry}
use Rattle.parts.specs.Limits.{within, mark_in, other_mark, at_field, and_then}
use Rattle.stock.specs.Tables.{make_numbered, grade_numbered}

-- each factor is 1.00 to 2.00; in the entry of an annex they are the second and the third field
abbrev pub factors_checked : ℤ → ℤ → Result Factors OutOfLimits
factors_checked gamma0 gamma2 =
    at_field 2 (within 100 200 gamma0) (λ g0.
    at_field 3 (within 100 200 gamma2) (λ g2.
    Ok (record { gamma_m0 = g0; gamma_m2 = g2 })))

abbrev pub annex_checked : AnnexEntry → Result Rules OutOfLimits
annex_checked x =
    at_field 1 (make_numbered x.make) (λ m.
    and_then (factors_checked x.gamma_m0 x.gamma_m2) (λ f.
    Ok (record { make = m; factors = f })))

abbrev pub plate_checked : PlateEntry → Result Plate OutOfLimits
plate_checked x =
    at_field 1 (mark_in x.mark) (λ m.
    at_field 2 (within 4 40 x.thickness) (λ t.
    at_field 3 (grade_numbered x.grade) (λ g.
    Ok (record { mark = m; thickness = t; grade = g }))))

-- the marks of a component and of its plates, which are the first fields of its entry
abbrev pub marks_checked : ℤ → ℤ → ℤ → Result ComponentMarks OutOfLimits
marks_checked own a b =
    at_field 1 (mark_in own) (λ m.
    at_field 2 (mark_in a) (λ pa.
    at_field 3 (other_mark pa b) (λ pb.
    Ok (record { mark = m; plate_a = pa; plate_b = pb }))))

abbrev pub weld_checked : WeldEntry → Result Weld OutOfLimits
weld_checked x =
    and_then (marks_checked x.mark x.plate_a x.plate_b) (λ ms.
    at_field 4 (within 1 400 x.throat) (λ a.
    at_field 5 (within 1 1000 x.length) (λ l.
    Ok (record { marks = ms; throat = a; length = l }))))

-- An entry by the numbers of its fields, in their order.

-- the k-th field, from 0
abbrev pub nth : ℕ → List ℤ → ℤ
nth k zs = slice_index_or zs k (pos 0)

abbrev pub annex_fields : List ℤ → AnnexEntry
annex_fields zs = record { make = nth 0 zs; gamma_m0 = nth 1 zs; gamma_m2 = nth 2 zs }

abbrev pub plate_fields : List ℤ → PlateEntry
plate_fields zs = record { mark = nth 0 zs; thickness = nth 1 zs; grade = nth 2 zs }

abbrev pub weld_fields : List ℤ → WeldEntry
weld_fields zs = record { mark = nth 0 zs; plate_a = nth 1 zs; plate_b = nth 2 zs; throat = nth 3 zs; length = nth 4 zs }
