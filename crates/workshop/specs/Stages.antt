-- What a line does: the stage that the file has come to, and the letter, decide together.
use Rattle.std.specs.Prelude.{ℕ, List, ℤ, Ok, Err, Result}
use Rattle.parts.specs.declared.annexes.Rules.{Rules}
use Rattle.book.specs.declared.tables.Tables.{Tables}
use Rattle.book.specs.declared.tables.Places.{Places}
use Rattle.book.specs.Tables.{empty_tables}
use Rattle.book.specs.Drafts.{Answer, plate_answer, plate_entered, group_answer, group_entered, weld_answer, weld_entered, strike_answer, struck_out}
use Rattle.parts.specs.Entries.{nth, plate_fields, weld_fields}
use Rattle.bolting.specs.Groups.{group_fields}
use Rattle.workshop.specs.declared.faults.Fault.{Fault}
use Rattle.workshop.specs.declared.faults.Fault.TheVariants.{WrongStage}
use Rattle.workshop.specs.declared.stages.Stage.{Stage}
use Rattle.workshop.specs.declared.stages.Stage.TheVariants.{Start, Drafting}
use Rattle.workshop.specs.Columns.{numbers_of}
use Rattle.workshop.specs.Letters.{Letter, annex, plate, bolt_group, weld, strike, Asked, line_read}
use Rattle.workshop.specs.Acts.{Done, Fields, beginning, from_book}
use Rattle.workshop.specs.Faults.{of_column}

-- how far a file has come, and what its book then holds
pub data State : Type 0 where
  start : State
  draft : Rules → Tables → State

abbrev pub state_of : Stage → State
state_of Start = start
state_of (Drafting d) = draft d.annex d.tables

-- the program gives its books all the places there are
abbrev pub all_places : Places
all_places = record { plates = 50; bolt_groups = 50; welds = 50; loads = 200 }

abbrev pub Step : Type 0
Step = State × Done

-- an A that is done begins a book
abbrev pub begin_step : Result Rules Fault → Step
begin_step (Ok a) = (draft a (empty_tables all_places), Ok tt)
begin_step (Err f) = (start, Err f)

-- an act on the book, by what the numbers of its fields are answered and what the book then holds; nothing changes
-- where a field is ill-formed
abbrev pub book_step : Rules → Tables → (List ℤ → Answer) → (List ℤ → Tables) → Fields → Step
book_step a t answer after (Err e) = (draft a t, Err (of_column e))
book_step a t answer after (Ok zs) = (draft a (after zs), from_book (answer zs))

-- until an A is done only A does something, then P, B, W and X; any other letter is misplaced
abbrev pub act_step : State → Letter → List (List ℕ) → Step
act_step start annex fs = begin_step (beginning (numbers_of fs))
act_step (draft a t) plate fs =
    book_step a t (λ zs. plate_answer t (plate_fields zs)) (λ zs. plate_entered t (plate_fields zs)) (numbers_of fs)
act_step (draft a t) bolt_group fs =
    book_step a t (λ zs. group_answer t (group_fields zs)) (λ zs. group_entered t (group_fields zs)) (numbers_of fs)
act_step (draft a t) weld fs =
    book_step a t (λ zs. weld_answer t (weld_fields zs)) (λ zs. weld_entered t (weld_fields zs)) (numbers_of fs)
act_step (draft a t) strike fs = book_step a t (λ zs. strike_answer t (nth 0 zs)) (λ zs. struck_out t (nth 0 zs)) (numbers_of fs)
act_step s l fs = (s, Err WrongStage)

-- a line that is not read is answered with its fault
abbrev pub asked_step : State → Result Asked Fault → Step
asked_step s (Err f) = (s, Err f)
asked_step s (Ok asked) = act_step s asked.0 asked.1

abbrev pub step : State → List ℕ → Step
step s line = asked_step s (line_read line)
