-- Fields that hold a number and fields that hold none; small files and their reports.
use Rattle.std.proofs.Common.{◌≡◌, [], ◌∷◌, ◌++◌, pos, negsuc, Some, None, Ok, Err, codes, refl, lit≤}
use Rattle.workshop.specs.Columns.{column_of, number_in, numbers_in}
use Rattle.workshop.specs.Lines.{lines_in}
use Rattle.workshop.specs.Report.{report_of}
use Rattle.workshop.specs.Rows.{row_bytes}
use Rattle.workshop.specs.Shape.{Answerable}

zero_alone : number_in (codes "     0") ≡ Some (pos 0)
zero_alone = refl

below_zero : number_in (codes "   -12") ≡ Some (negsuc 11)
below_zero = refl

greatest : number_in (codes "999999") ≡ Some (pos 999999)
greatest = refl

least : number_in (codes "-99999") ≡ Some (negsuc 99998)
least = refl

blank : number_in (codes "      ") ≡ None
blank = refl

lone_minus : number_in (codes "     -") ≡ None
lone_minus = refl

minus_zero : number_in (codes "    -0") ≡ None
minus_zero = refl

leading_zero : number_in (codes "   012") ≡ None
leading_zero = refl

plus : number_in (codes "    +1") ≡ None
plus = refl

at_the_left : number_in (codes "1     ") ≡ None
at_the_left = refl

parted_minus : number_in (codes "   - 1") ≡ None
parted_minus = refl

three_fields : numbers_in 3 (codes "     7    -1   120") ≡ Ok (pos 7 ∷ negsuc 0 ∷ pos 120 ∷ [])
three_fields = refl

second_field : numbers_in 3 (codes "     7    01    +2") ≡ Err (record { field = 2 })
second_field = refl

printed : column_of 1024 ≡ codes "  1024"
printed = refl

two_lines : lines_in (65 ∷ 66 ∷ 10 ∷ 10 ∷ 67 ∷ []) ≡ (65 ∷ 66 ∷ []) ∷ [] ∷ []
two_lines = refl

-- a file that is answered line by line
answerable : Answerable (10 ∷ [])
answerable = (lit≤ tt, refl)

empty_line : report_of (10 ∷ []) ≡ codes "     1    11     0     0     0     0" ++ 10 ∷ []
unfolding row_bytes
empty_line = refl

no_line : report_of [] ≡ codes "     0    16     0     0     0     0" ++ 10 ∷ []
unfolding row_bytes
no_line = refl
