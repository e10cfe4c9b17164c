-- The bolt group that an entry makes, or its first field outside the limits.
use Rattle.std.specs.Prelude.{ℕ, List, ℤ, Ok, Result}
use Rattle.stock.specs.Tables.{size_numbered, class_numbered}
use Rattle.parts.specs.declared.limits.OutOfLimits.{OutOfLimits}
use Rattle.parts.specs.Limits.{within, pitch_in, at_field, and_then}
use Rattle.parts.specs.Entries.{nth, marks_checked}
use Rattle.bolting.specs.declared.bolt_groups.BoltGroup.{BoltGroup}
use Rattle.bolting.specs.declared.bolt_groups.BoltLayout.{BoltLayout}
use Rattle.bolting.specs.declared.bolt_groups.BoltGroupEntry.{BoltGroupEntry}

-- the number that it bears
abbrev pub group_mark : BoltGroup → ℕ
group_mark g = g.marks.mark

abbrev pub layout_checked : BoltGroupEntry → Result BoltLayout OutOfLimits
layout_checked x =
    at_field 4 (size_numbered x.size) (λ d.
    at_field 5 (class_numbered x.class) (λ k.
    at_field 6 (within 1 10 x.rows) (λ r.
    at_field 7 (within 1 4 x.columns) (λ c.
    at_field 8 (within 1 400 x.e1) (λ a1.
    at_field 9 (pitch_in r x.p1) (λ b1.
    at_field 10 (within 1 400 x.e2) (λ a2.
    at_field 11 (pitch_in c x.p2) (λ b2.
    Ok (record { size = d; class = k; rows = r; columns = c; e1 = a1; p1 = b1; e2 = a2; p2 = b2 })))))))))

abbrev pub group_checked : BoltGroupEntry → Result BoltGroup OutOfLimits
group_checked x =
    and_then (marks_checked x.mark x.plate_a x.plate_b) (λ ms.
    and_then (layout_checked x) (λ l.
    Ok (record { marks = ms; layout = l })))

-- an entry by the numbers of its fields, in their order
abbrev pub group_fields : List ℤ → BoltGroupEntry
group_fields zs = record {
  mark = nth 0 zs;
  plate_a = nth 1 zs;
  plate_b = nth 2 zs;
  size = nth 3 zs;
  class = nth 4 zs;
  rows = nth 5 zs;
  columns = nth 6 zs;
  e1 = nth 7 zs;
  p1 = nth 8 zs;
  e2 = nth 9 zs;
  p2 = nth 10 zs;
}
