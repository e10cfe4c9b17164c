-- The rows of a report, each a line of six columns.
use Rattle.std.specs.Prelude.{ℕ, List, [], ◌∷◌, ◌++◌, Ok, Err, slice_index}
use Rattle.std.specs.List.{flat_map}
use Rattle.workshop.specs.declared.rows.Row.{Row}
use Rattle.workshop.specs.Acts.{Done}
use Rattle.workshop.specs.Columns.{column_of}
use Rattle.workshop.specs.Faults.{fault_number, fault_details, no_details}

-- the number and the details of an answer
abbrev pub answer_number : Done → ℕ
answer_number (Ok x) = 0
answer_number (Err f) = fault_number f

abbrev pub answer_details : Done → List ℕ
answer_details (Ok x) = no_details
answer_details (Err f) = fault_details f

-- a row's numbers; no answer has a sheet yet
abbrev pub answer_numbers : ℕ → List ℕ → List ℕ
answer_numbers n details = n ∷ slice_index details 0 ∷ slice_index details 1 ∷ slice_index details 2 ∷ 0 ∷ []

-- what stands in a row's columns
abbrev pub row_numbers : Row → List ℕ
row_numbers r = r.line ∷ answer_numbers (answer_number r.answer) (answer_details r.answer)

-- a row printed: its columns and a line feed
unfoldable pub row_bytes : Row → List ℕ
row_bytes r = flat_map column_of (row_numbers r) ++ 10 ∷ []
