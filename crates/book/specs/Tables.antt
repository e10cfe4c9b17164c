-- What a book holds, and how its records are named.
use Rattle.std.specs.Prelude.{ℕ, Bool, ◌||◌, pos, is_some, Option}
use Rattle.register.specs.Held.{record_of}
use Rattle.parts.specs.Numbers.{plate_mark, weld_mark}
use Rattle.bolting.specs.Groups.{group_mark}
use Rattle.stock.specs.declared.bolts.BoltClass.TheVariants.{C46}
use Rattle.stock.specs.declared.bolts.BoltSize.TheVariants.{M16}
use Rattle.stock.specs.declared.steel.Grade.TheVariants.{S235}
use Rattle.parts.specs.declared.marks.ComponentMarks.{ComponentMarks}
use Rattle.parts.specs.declared.plates.Plate.{Plate}
use Rattle.bolting.specs.declared.bolt_groups.BoltGroup.{BoltGroup}
use Rattle.parts.specs.declared.welds.Weld.{Weld}
use Rattle.parts.specs.declared.loads.Load.{Load}
use Rattle.book.specs.declared.tables.Tables.{Tables}
use Rattle.book.specs.declared.tables.Places.{Places}
use Rattle.book.specs.Tabled.{empty_table, records_in}

-- what a place has before its first record
abbrev pub blank_plate : Plate
blank_plate = record { mark = 0; thickness = 0; grade = S235 }

abbrev pub blank_marks : ComponentMarks
blank_marks = record { mark = 0; plate_a = 0; plate_b = 0 }

abbrev pub blank_group : BoltGroup
blank_group = record {
  marks = blank_marks;
  layout = record { size = M16; class = C46; rows = 0; columns = 0; e1 = 0; p1 = 0; e2 = 0; p2 = 0 };
}

abbrev pub blank_weld : Weld
blank_weld = record { marks = blank_marks; throat = 0; length = 0 }

abbrev pub blank_load : Load
blank_load = record { number = 0; component = 0; force_1 = pos 0; force_2 = pos 0; force_3 = pos 0 }

abbrev pub empty_tables : Places → Tables
empty_tables p = record {
  plates = empty_table 50 blank_plate p.plates;
  bolt_groups = empty_table 50 blank_group p.bolt_groups;
  welds = empty_table 50 blank_weld p.welds;
  loads = empty_table 200 blank_load p.loads;
}

-- the record that a mark names
abbrev pub plate_named : Tables → ℕ → Option Plate
plate_named t n = record_of plate_mark n (records_in t.plates)

abbrev pub group_named : Tables → ℕ → Option BoltGroup
group_named t n = record_of group_mark n (records_in t.bolt_groups)

abbrev pub weld_named : Tables → ℕ → Option Weld
weld_named t n = record_of weld_mark n (records_in t.welds)

-- bolt groups and welds share one range of marks
abbrev pub mark_used : Tables → ℕ → Bool
mark_used t n = is_some (group_named t n) || is_some (weld_named t n)
