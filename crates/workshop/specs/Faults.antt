-- The number and the details that the report gives to a fault.
use Rattle.std.specs.Prelude.{ℕ, List, [], ◌∷◌}
use Rattle.book.specs.declared.refusals.Refusal.{Refusal}
use Rattle.book.specs.Refusals.{refusal_number, refusal_details, of_limits}
use Rattle.parts.specs.declared.limits.OutOfLimits.{OutOfLimits as LimitFault}
use Rattle.workshop.specs.declared.columns.IllFormed.{IllFormed as FieldFault}
use Rattle.workshop.specs.declared.faults.Fault.{Fault}
use Rattle.workshop.specs.declared.faults.Fault.TheVariants.{NoLetter, WrongLength, WrongStage, IllFormed, TooLong, Unfinished, Refused}

abbrev pub fault_number : Fault → ℕ
fault_number NoLetter = 11
fault_number WrongLength = 12
fault_number WrongStage = 13
fault_number (IllFormed field) = 14
fault_number TooLong = 15
fault_number Unfinished = 16
fault_number (Refused r) = refusal_number r

abbrev pub no_details : List ℕ
no_details = 0 ∷ 0 ∷ 0 ∷ []

abbrev pub fault_details : Fault → List ℕ
fault_details (IllFormed field) = field ∷ 0 ∷ 0 ∷ []
fault_details (Refused r) = refusal_details r
fault_details f = no_details

abbrev pub of_column : FieldFault → Fault
of_column e = IllFormed e.field

abbrev pub of_book : Refusal → Fault
of_book r = Refused r

abbrev pub of_choice : LimitFault → Fault
of_choice o = of_book (of_limits o)
