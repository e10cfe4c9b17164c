-- The number that a record bears.
use Rattle.std.specs.Prelude.{ℕ}
use Rattle.parts.specs.declared.plates.Plate.{Plate}
use Rattle.parts.specs.declared.welds.Weld.{Weld}
use Rattle.parts.specs.declared.loads.Load.{Load}

abbrev pub plate_mark : Plate → ℕ
plate_mark p = p.mark

abbrev pub weld_mark : Weld → ℕ
weld_mark w = w.marks.mark

abbrev pub load_number : Load → ℕ
load_number l = l.number
