-- A book in order: no mark is repeated, and each component joins plates of the book.
use Rattle.std.specs.Prelude.{ℕ, Bool, ◌&&◌, List, [], ◌∷◌, ◌++◌, map, is_some}
use Rattle.std.specs.List.{flat_map, list_all}
use Rattle.register.specs.Held.{record_of, unrepeated}
use Rattle.parts.specs.Numbers.{plate_mark, weld_mark}
use Rattle.bolting.specs.Groups.{group_mark}
use Rattle.parts.specs.declared.marks.ComponentMarks.{ComponentMarks}
use Rattle.parts.specs.declared.plates.Plate.{Plate}
use Rattle.bolting.specs.declared.bolt_groups.BoltGroup.{BoltGroup}
use Rattle.parts.specs.declared.welds.Weld.{Weld}
use Rattle.book.specs.declared.tables.Tables.{Tables}
use Rattle.book.specs.Tabled.{records_in}

-- bolt groups and welds share one range of marks
abbrev pub component_marks : List BoltGroup → List Weld → List ℕ
component_marks gs ws = map group_mark gs ++ map weld_mark ws

-- the two plates of each record
module _ {X : Type 0} where
  abbrev pub both_plates : (X → ComponentMarks) → List X → List ℕ
  both_plates marks xs = flat_map (λ x. (marks x).plate_a ∷ (marks x).plate_b ∷ []) xs

-- the plates that the components name
abbrev pub named_plates : List BoltGroup → List Weld → List ℕ
named_plates gs ws = both_plates (λ g. g.marks) gs ++ both_plates (λ w. w.marks) ws

-- each of the marks is that of a plate
abbrev pub all_known : List Plate → List ℕ → Bool
all_known ps ns = list_all (λ n. is_some (record_of plate_mark n ps)) ns

abbrev pub in_order : List Plate → List BoltGroup → List Weld → Bool
in_order ps gs ws = unrepeated plate_mark ps && unrepeated (λ n. n) (component_marks gs ws) && all_known ps (named_plates gs ws)

abbrev pub orderly : Tables → Bool
orderly t = in_order (records_in t.plates) (records_in t.bolt_groups) (records_in t.welds)
