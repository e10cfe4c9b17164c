-- A line read: its letter, and how many fields follow it.
use Rattle.std.specs.Prelude.{ℕ, ◌*◌, cond, List, [], ◌∷◌, length, Some, None, Option, Ok, Err, Result, ◌==◌}
use Rattle.workshop.specs.declared.faults.Fault.{Fault}
use Rattle.workshop.specs.declared.faults.Fault.TheVariants.{NoLetter, WrongLength}
use Rattle.workshop.specs.declared.line.Line.{Line}
use Rattle.workshop.specs.declared.line.Line.TheVariants.{Annex, Plate, BoltGroup, Weld, Strike, SetOut, Load, Withdraw, Verdict}
use Rattle.workshop.specs.Columns.{fields_in}

-- what a line asks for
pub data Letter : Type 0 where
  annex : Letter
  plate : Letter
  bolt_group : Letter
  weld : Letter
  strike : Letter
  set_out : Letter
  load : Letter
  withdraw : Letter
  verdict : Letter

-- A, P, B, W, X, S, L, D, V
abbrev pub letter_of : ℕ → Option Letter
letter_of b =
    cond (b == 65) (Some annex)
    (cond (b == 80) (Some plate)
    (cond (b == 66) (Some bolt_group)
    (cond (b == 87) (Some weld)
    (cond (b == 88) (Some strike)
    (cond (b == 83) (Some set_out)
    (cond (b == 76) (Some load)
    (cond (b == 68) (Some withdraw)
    (cond (b == 86) (Some verdict)
    None))))))))

abbrev pub fields_of : Letter → ℕ
fields_of annex = 3
fields_of plate = 3
fields_of bolt_group = 11
fields_of weld = 5
fields_of strike = 1
fields_of set_out = 0
fields_of load = 5
fields_of withdraw = 1
fields_of verdict = 0

-- a letter and its fields
abbrev pub Asked : Type 0
Asked = Letter × List (List ℕ)

-- n fields have six columns each
abbrev pub fields_read : ℕ → List ℕ → Result (List (List ℕ)) Fault
fields_read n columns = cond (length columns == 6 * n) (Ok (fields_in n columns)) (Err WrongLength)

abbrev pub behind_letter : Letter → Result (List (List ℕ)) Fault → Result Asked Fault
behind_letter l (Ok fs) = Ok (l, fs)
behind_letter l (Err f) = Err f

-- a letter that is known asks for its number of fields
abbrev pub letter_read : Option Letter → List ℕ → Result Asked Fault
letter_read None columns = Err NoLetter
letter_read (Some l) columns = behind_letter l (fields_read (fields_of l) columns)

-- a line is its letter and the columns behind it
abbrev pub line_read : List ℕ → Result Asked Fault
line_read [] = Err NoLetter
line_read (b ∷ columns) = letter_read (letter_of b) columns

-- what the program's lines ask for
abbrev pub asked : Line → Asked
asked (Annex fs) = (annex, fs.now)
asked (Plate fs) = (plate, fs.now)
asked (BoltGroup fs) = (bolt_group, fs.now)
asked (Weld fs) = (weld, fs.now)
asked (Strike fs) = (strike, fs.now)
asked SetOut = (set_out, [])
asked (Load fs) = (load, fs.now)
asked (Withdraw fs) = (withdraw, fs.now)
asked Verdict = (verdict, [])
