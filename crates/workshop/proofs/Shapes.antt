-- The shape of a report.
use Rattle.std.proofs.Common.{◌≡◌, ℕ, suc, ◌+◌, List, [], ◌∷◌, map, length, Ok, Err, refl, ap, ◌∙◌, arith}
use Rattle.std.specs.List.{flat_map, AllByRecursion}
use Rattle.std.proofs.lemmas.List.{length-map}
use Rattle.std.proofs.lemmas.List.Folds.{flat_map-map}
use Rattle.std.proofs.lemmas.Grind.{common_steps}
use Rattle.workshop.specs.declared.rows.Row.{Row}
use Rattle.workshop.specs.Acts.{Done}
use Rattle.workshop.specs.Columns.{column_of}
use Rattle.workshop.specs.Lines.{lines_in, line_feeds, ended}
use Rattle.workshop.specs.Rows.{row_numbers, row_bytes}
use Rattle.workshop.specs.Report.{file_gate, rows_from, gated_rows, report_rows}
use Rattle.workshop.specs.Shape.{Answerable, NumberedFrom, ReportsShaped}
use Rattle.workshop.specs.Stages.{State, start, step}
use Rattle.workshop.proofs.Printing.{row_line}
use Rattle.workshop.proofs.Splitting.{lines_count}

abbrev columns_of : Row → List ℕ
columns_of r = flat_map column_of (row_numbers r)

-- the lines of a report are its rows
report_lines : (rs : List Row) → lines_in (flat_map row_bytes rs) ≡ map columns_of rs
report_lines [] = refl
report_lines (r ∷ rs) = row_line r (flat_map row_bytes rs) ∙ ap (λ ls. columns_of r ∷ ls) (report_lines rs)

ended_rows : (rs : List Row) → flat_map ended (map columns_of rs) ≡ flat_map row_bytes rs
unfolding row_bytes
ended_rows rs = flat_map-map ended columns_of rs

rows_wide : (rs : List Row) → AllByRecursion (λ row. length row ≡ 36) (map columns_of rs)
rows_wide [] = tt
rows_wide (r ∷ rs) = (refl, rows_wide rs)

rows_per_line : (n : ℕ) (s : State) (ls : List (List ℕ)) → length (rows_from n s ls) ≡ length ls
rows_per_line n s [] = refl
rows_per_line n s (l ∷ ls) = ap suc (rows_per_line (n + 1) (step s l).0 ls)

rows_numbered : (n : ℕ) (s : State) (ls : List (List ℕ)) → NumberedFrom n (map columns_of (rows_from n s ls))
rows_numbered n s [] = tt
rows_numbered n s (l ∷ ls) = (refl, rows_numbered (n + 1) (step s l).0 ls)

answered : (file : List ℕ) → Answerable file → file_gate file ≡ Ok tt
answered file (few, whole) = grind (arith, common_steps)

passed : (file : List ℕ) → file_gate file ≡ Ok tt → Answerable file
passed file is = grind (arith, common_steps)

module _ (file : List ℕ) where
  -- what holds of the rows of either kind of file
  by_gate : (d : Done) → (d ≡ Ok tt → Answerable file) → (Answerable file → d ≡ Ok tt) →
      (Answerable file → (length (map columns_of (gated_rows d file)) ≡ line_feeds file) × NumberedFrom 1 (map columns_of (gated_rows d file)))
      × ((Answerable file → ⊥) → (length (map columns_of (gated_rows d file)) ≡ 1) × NumberedFrom 0 (map columns_of (gated_rows d file)))
  by_gate (Ok x) to from = (
    λ _. (length-map (rows_from 1 start (lines_in file)) columns_of ∙ rows_per_line 1 start (lines_in file) ∙ lines_count file, rows_numbered 1 start (lines_in file)),
    λ none. absurd (none (to refl)),
  )
  by_gate (Err f) to from = (
    λ yes. let e = from yes in cc,
    λ _. (refl, (refl, tt)),
  )

pub reports_shaped : ReportsShaped
unfolding ReportsShaped
reports_shaped file =
    let rs = report_rows file in
    let both = by_gate file (file_gate file) (passed file) (answered file) in
    rw (report_lines rs) (ended_rows rs, rows_wide rs, both.0, both.1)
