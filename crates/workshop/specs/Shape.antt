-- What every report looks like, told of its lines.
use Rattle.std.specs.Prelude.{◌≡◌, ℕ, ◌+◌, ◌≤◌, true, List, [], ◌∷◌, length, take}
use Rattle.std.specs.List.{flat_map, AllByRecursion}
use Rattle.workshop.specs.Columns.{column_of}
use Rattle.workshop.specs.Lines.{lines_in, line_feeds, ends_line, ended}
use Rattle.workshop.specs.Report.{report_of}

-- a file that is answered line by line
abbrev pub Answerable : List ℕ → Type 0
Answerable file = (length file ≤ 65536) × (ends_line file ≡ true)

-- the first column of each row has its line's number
abbrev pub NumberedFrom : ℕ → List (List ℕ) → Type 0
NumberedFrom n [] = Unit {0}
NumberedFrom n (row ∷ more) = (take 6 row ≡ column_of n) × NumberedFrom (n + 1) more

-- The report is whole lines of 36 columns. A file that is answered line by line has a row for each of
-- its lines, numbered from 1; any other file has one row, of line 0.
abbrev pub ShapedFor : List ℕ → List ℕ → Type 0
ShapedFor file report =
    (flat_map ended (lines_in report) ≡ report)
    × AllByRecursion (λ row. length row ≡ 36) (lines_in report)
    × (Answerable file → (length (lines_in report) ≡ line_feeds file) × NumberedFrom 1 (lines_in report))
    × ((Answerable file → ⊥) → (length (lines_in report) ≡ 1) × NumberedFrom 0 (lines_in report))

unfoldable pub ReportsShaped : Type 0
ReportsShaped = (file : List ℕ) → ShapedFor file (report_of file)
