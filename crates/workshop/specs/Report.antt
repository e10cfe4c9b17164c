-- The report of a file: from its bytes to the bytes of the report.
use Rattle.std.specs.Prelude.{ℕ, ◌+◌, cond, List, [], ◌∷◌, length, Ok, Err, nat_lt}
use Rattle.std.specs.List.{flat_map}
use Rattle.workshop.specs.declared.faults.Fault.TheVariants.{TooLong, Unfinished}
use Rattle.workshop.specs.declared.rows.Row.{Row}
use Rattle.workshop.specs.Acts.{Done}
use Rattle.workshop.specs.Lines.{lines_in, ends_line}
use Rattle.workshop.specs.Rows.{row_bytes}
use Rattle.workshop.specs.Stages.{State, start, step}

-- at most 65,536 bytes, and a line feed behind the last line
abbrev pub file_gate : List ℕ → Done
file_gate bytes = cond (nat_lt 65536 (length bytes)) (Err TooLong) (cond (ends_line bytes) (Ok tt) (Err Unfinished))

-- the row of a line
abbrev pub row_of : ℕ → Done → Row
row_of n d = record { line = n; answer = d }

-- the rows of lines that are numbered from n on
abbrev pub rows_from : ℕ → State → List (List ℕ) → List Row
rows_from n s [] = []
rows_from n s (line ∷ more) = row_of n (step s line).1 ∷ rows_from (n + 1) (step s line).0 more

-- the rows of a file: one for each line, or one of line 0 that says why none is read
abbrev pub gated_rows : Done → List ℕ → List Row
gated_rows (Ok x) bytes = rows_from 1 start (lines_in bytes)
gated_rows (Err f) bytes = row_of 0 (Err f) ∷ []

abbrev pub report_rows : List ℕ → List Row
report_rows bytes = gated_rows (file_gate bytes) bytes

abbrev pub report_of : List ℕ → List ℕ
report_of bytes = flat_map row_bytes (report_rows bytes)
