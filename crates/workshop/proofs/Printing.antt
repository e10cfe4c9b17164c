-- Columns and rows printed.
use Rattle.std.proofs.Common.{◌≡◌, ℕ, ◌<◌, List, [], ◌∷◌, ◌++◌, map, length, get_or, refl, arith}
use Rattle.std.specs.List.{flat_map}
use Rattle.std.proofs.lemmas.Grind.{common_steps}
use Rattle.std.proofs.lemmas.List.{get_or-map, length-map, same_lists}
use Rattle.std.proofs.lemmas.List.Folds.{flat_map-map}
use Rattle.workshop.proofs.Splitting.{lines_first}
use Rattle.workshop.specs.declared.rows.Row.{Row}
use Rattle.workshop.specs.Columns.{column_of}
use Rattle.workshop.specs.Lines.{line_feeds, lines_in}
use Rattle.workshop.specs.Rows.{row_bytes, row_numbers}

columns_no_feed : (ns : List ℕ) → line_feeds (flat_map column_of ns) ≡ 0
columns_no_feed [] = refl
columns_no_feed (n ∷ ns) = grind (arith, common_steps, columns_no_feed ns)

-- a row is one line
pub row_line : (r : Row) (rest : List ℕ) → lines_in (row_bytes r ++ rest) ≡ flat_map column_of (row_numbers r) ∷ lines_in rest
unfolding row_bytes
row_line r rest = lines_first (flat_map column_of (row_numbers r)) rest (columns_no_feed (row_numbers r))

-- numbers printed one by one
pub columns_each : (ns : List ℕ) (columns : List (List ℕ)) → length columns ≡ length ns →
    ((k : ℕ) (d : List ℕ) → k < length ns → get_or columns k d ≡ column_of (get_or ns k 0)) → columns ≡ map column_of ns
columns_each ns columns long each = grind (arith, common_steps, same_lists, get_or-map, length-map)

-- a row's columns and a line feed behind them
pub row_printed : (r : Row) (columns : List (List ℕ)) (front : List ℕ) → columns ≡ map column_of (row_numbers r) →
    front ≡ flat_map (λ x. x) columns → front ++ 10 ∷ [] ≡ row_bytes r
unfolding row_bytes
row_printed r columns front are first =
    let flat = flat_map-map (λ (x : List ℕ). x) column_of (row_numbers r) in
    cc
