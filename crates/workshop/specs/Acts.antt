-- The annex that a line chooses, and what the book answers to an act.
use Rattle.std.specs.Prelude.{List, ℤ, Ok, Err, Result}
use Rattle.parts.specs.declared.limits.OutOfLimits.{OutOfLimits as LimitFault}
use Rattle.parts.specs.declared.annexes.Rules.{Rules}
use Rattle.parts.specs.Entries.{annex_checked, annex_fields}
use Rattle.book.specs.Drafts.{Answer}
use Rattle.workshop.specs.declared.columns.IllFormed.{IllFormed as FieldFault}
use Rattle.workshop.specs.declared.faults.Fault.{Fault}
use Rattle.workshop.specs.Faults.{of_column, of_book, of_choice}

abbrev pub Fields : Type 0
Fields = Result (List ℤ) FieldFault

abbrev pub Done : Type 0
Done = Result (Unit {0}) Fault

-- the annex that an A chooses
abbrev pub in_limits : Result Rules LimitFault → Result Rules Fault
in_limits (Ok a) = Ok a
in_limits (Err o) = Err (of_choice o)

abbrev pub beginning : Fields → Result Rules Fault
beginning (Err e) = Err (of_column e)
beginning (Ok zs) = in_limits (annex_checked (annex_fields zs))

-- the book's answer
abbrev pub from_book : Answer → Done
from_book (Ok x) = Ok tt
from_book (Err r) = Err (of_book r)
