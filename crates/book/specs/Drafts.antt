-- The acts on a book that is drafted: what each answers, and what the book then holds.
use Rattle.std.specs.Prelude.{ℕ, Bool, cond, not, ℤ, is_some, is_ok, Ok, Err, Option, Result}
use Rattle.register.specs.declared.Full.{Full as NoPlace}
use Rattle.parts.specs.declared.limits.OutOfLimits.{OutOfLimits as LimitFault}
use Rattle.parts.specs.declared.marks.ComponentMarks.{ComponentMarks}
use Rattle.parts.specs.declared.plates.Plate.{Plate}
use Rattle.bolting.specs.declared.bolt_groups.BoltGroup.{BoltGroup}
use Rattle.parts.specs.declared.welds.Weld.{Weld}
use Rattle.parts.specs.declared.plates.PlateEntry.{PlateEntry}
use Rattle.bolting.specs.declared.bolt_groups.BoltGroupEntry.{BoltGroupEntry}
use Rattle.parts.specs.declared.welds.WeldEntry.{WeldEntry}
use Rattle.parts.specs.Limits.{mark_in, at_field}
use Rattle.parts.specs.Entries.{plate_checked, weld_checked}
use Rattle.bolting.specs.Groups.{group_checked, group_mark}
use Rattle.parts.specs.Numbers.{plate_mark, weld_mark}
use Rattle.book.specs.declared.tables.Tables.{Tables}
use Rattle.book.specs.declared.refusals.Refusal.{Refusal}
use Rattle.book.specs.declared.refusals.Refusal.TheVariants.{InUse, Unknown}
use Rattle.book.specs.Refusals.{of_limits, of_full}
use Rattle.book.specs.declared.tables.Table.{Table}
use Rattle.book.specs.Tabled.{records_in, room_in, table_added, table_struck}
use Rattle.register.specs.Held.{record_of}
use Rattle.book.specs.Tables.{plate_named, group_named, mark_used}

abbrev pub Answer : Type 0
Answer = Result (Unit {0}) Refusal

-- a gate: it refuses, or the gates behind it decide
abbrev pub refuse_if : Bool → Refusal → Answer → Answer
refuse_if b r behind = cond b (Err r) behind

-- the last gate: a free place
abbrev pub full_or : Result (Unit {0}) NoPlace → Answer
full_or (Ok x) = Ok tt
full_or (Err e) = Err (of_full e)

-- the first refusal of the two
abbrev pub and_then : Answer → Answer → Answer
and_then (Ok x) behind = behind
and_then (Err r) behind = Err r

-- the mark is free, and both plates are known
abbrev pub component_gates : Tables → ComponentMarks → Answer
component_gates t c =
    refuse_if (mark_used t c.mark) InUse
    (refuse_if (not (is_some (plate_named t c.plate_a))) (Unknown 2)
    (refuse_if (not (is_some (plate_named t c.plate_b))) (Unknown 3)
    (Ok tt)))

module _ {X : Type 0} where
  -- an entry within its limits goes on to the other gates
  abbrev pub entry_answer : (X → Answer) → Result X LimitFault → Answer
  entry_answer gates (Ok x) = gates x
  entry_answer gates (Err o) = Err (of_limits o)

  -- outside them it changes nothing
  abbrev pub entry_stored : Tables → (X → Tables) → Result X LimitFault → Tables
  entry_stored t store (Ok x) = store x
  entry_stored t store (Err o) = t

-- A kind of records that a book takes: the mark that a record bears, the table that it stands in, the
-- book with another such table, and what is asked of a record before it is asked for a free place.
pub record Kind (X : Type 0) : Type 0 where
  pub mark : X → ℕ
  pub table : Tables → Table X 50
  pub with_table : Table X 50 → Tables → Tables
  pub fits : Tables → X → Answer

abbrev pub plate_kind : Kind Plate
plate_kind = record {
  mark = plate_mark;
  table = λ t. t.plates;
  with_table = λ ps t. record t { plates = ps };
  fits = λ t p. refuse_if (is_some (plate_named t p.mark)) InUse (Ok tt);
}

abbrev pub group_kind : Kind BoltGroup
group_kind = record {
  mark = group_mark;
  table = λ t. t.bolt_groups;
  with_table = λ gs t. record t { bolt_groups = gs };
  fits = λ t g. component_gates t g.marks;
}

abbrev pub weld_kind : Kind Weld
weld_kind = record {
  mark = weld_mark;
  table = λ t. t.welds;
  with_table = λ ws t. record t { welds = ws };
  fits = λ t w. component_gates t w.marks;
}

module _ {X : Type 0} (k : Kind X) where
  -- the record that a mark names
  abbrev pub named : Tables → ℕ → Option X
  named t n = record_of k.mark n (records_in (k.table t))

  -- with one record more, last in its table
  abbrev pub with_record : X → Tables → Tables
  with_record x t = k.with_table (table_added x (k.table t)) t

  abbrev pub gates : Tables → X → Answer
  gates t x = and_then (k.fits t x) (full_or (room_in (k.table t)))

  -- a record that no gate refuses is stored; a refusal changes nothing
  abbrev pub stored : Tables → X → Tables
  stored t x = cond (is_ok (gates t x)) (with_record x t) t

  -- the same of an entry, by what it makes: the record, or its first field outside the limits
  abbrev pub answer_to_entry : Tables → Result X LimitFault → Answer
  answer_to_entry t made = entry_answer (gates t) made

  abbrev pub after_entry : Tables → Result X LimitFault → Tables
  after_entry t made = entry_stored t (stored t) made

-- striking: a component bears the mark, and leaves its table
abbrev pub strike_gates : Tables → ℕ → Answer
strike_gates t m = refuse_if (not (mark_used t m)) (Unknown 1) (Ok tt)

abbrev pub component_struck : Tables → ℕ → Tables
component_struck t m =
    cond (is_some (group_named t m))
    (record t { bolt_groups = table_struck group_mark m t.bolt_groups })
    (record t { welds = table_struck weld_mark m t.welds })

abbrev pub plate_answer : Tables → PlateEntry → Answer
plate_answer t e = answer_to_entry plate_kind t (plate_checked e)

abbrev pub plate_entered : Tables → PlateEntry → Tables
plate_entered t e = after_entry plate_kind t (plate_checked e)

abbrev pub group_answer : Tables → BoltGroupEntry → Answer
group_answer t e = answer_to_entry group_kind t (group_checked e)

abbrev pub group_entered : Tables → BoltGroupEntry → Tables
group_entered t e = after_entry group_kind t (group_checked e)

abbrev pub weld_answer : Tables → WeldEntry → Answer
weld_answer t e = answer_to_entry weld_kind t (weld_checked e)

abbrev pub weld_entered : Tables → WeldEntry → Tables
weld_entered t e = after_entry weld_kind t (weld_checked e)

-- a mark to strike has one field
abbrev pub mark_checked : ℤ → Result ℕ LimitFault
mark_checked z = at_field 1 (mark_in z) (λ m. Ok m)

abbrev pub strike_answer : Tables → ℤ → Answer
strike_answer t z = entry_answer (strike_gates t) (mark_checked z)

abbrev pub struck_out : Tables → ℤ → Tables
struck_out t z = entry_stored t (component_struck t) (mark_checked z)
