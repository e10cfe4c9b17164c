-- Numbers in columns: a field is six bytes, a number stands at its right behind spaces.
use Rattle.std.specs.Prelude.{◌≡◌, ℕ, ◌+◌, ◌-◌, ◌*◌, ◌/◌, ◌%◌, ◌≤◌, Bool, cond, ◌&&◌, List, [], ◌∷◌, map, length, ℤ, pos, neg_ℤ, Some, None, Ok, Err, Option, Result, ◌==◌, nat_le, nat_lt}
use Rattle.std.specs.Option.{option_map, ok_or}
use Rattle.std.specs.List.{flat_map, AllByRecursion}
use Rattle.std.specs.Simd.{first_chunks}
use Rattle.workshop.specs.declared.columns.IllFormed.{IllFormed}

-- the bytes behind the spaces in front
abbrev pub behind_spaces : List ℕ → List ℕ
behind_spaces [] = []
behind_spaces (b ∷ bs) = cond (b == 32) (behind_spaces bs) (b ∷ bs)

abbrev pub is_digit : ℕ → Bool
is_digit b = nat_le 48 b && nat_le b 57

-- the number of the digits of n and those that follow
abbrev pub digits_after : ℕ → List ℕ → Option ℕ
digits_after n [] = Some n
digits_after n (b ∷ bs) = cond (is_digit b) (digits_after (10 * n + (b - 48)) bs) None

-- what follows a leading zero: nothing, and the number is zero
abbrev pub zero_then : List ℕ → Option ℕ
zero_then [] = Some 0
zero_then (b ∷ bs) = None

-- digits, at least one, the first of several no zero
abbrev pub natural_in : List ℕ → Option ℕ
natural_in [] = None
natural_in (b ∷ bs) = cond (b == 48) (zero_then bs) (digits_after 0 (b ∷ bs))

-- the number behind a minus, which is not zero
abbrev pub negative : Option ℕ → Option ℤ
negative None = None
negative (Some n) = cond (n == 0) None (Some (neg_ℤ (pos n)))

-- a minus, directly before its digits, or digits alone
abbrev pub signed_in : List ℕ → Option ℤ
signed_in [] = None
signed_in (b ∷ bs) = cond (b == 45) (negative (natural_in bs)) (option_map pos (natural_in (b ∷ bs)))

-- the number that a field holds, none where it is ill-formed
abbrev pub number_in : List ℕ → Option ℤ
number_in bytes = signed_in (behind_spaces bytes)

-- so many fields side by side, six bytes each
abbrev pub fields_in : ℕ → List ℕ → List (List ℕ)
fields_in n bytes = first_chunks 6 n bytes

-- the number of field i; or that the field is ill-formed
abbrev pub field_read : ℕ → List ℕ → Result ℤ IllFormed
field_read i field = ok_or (number_in field) (record { field = i })

-- a number before those behind it
abbrev pub number_then : Result ℤ IllFormed → Result (List ℤ) IllFormed → Result (List ℤ) IllFormed
number_then (Err e) rest = Err e
number_then (Ok n) (Err e) = Err e
number_then (Ok n) (Ok ns) = Ok (n ∷ ns)

-- the numbers of fields that are counted from i on; or the first field that is ill-formed
abbrev pub numbers_from : ℕ → List (List ℕ) → Result (List ℤ) IllFormed
numbers_from i [] = Ok []
numbers_from i (field ∷ fields) = number_then (field_read i field) (numbers_from (i + 1) fields)

abbrev pub numbers_of : List (List ℕ) → Result (List ℤ) IllFormed
numbers_of fields = numbers_from 1 fields

abbrev pub numbers_in : ℕ → List ℕ → Result (List ℤ) IllFormed
numbers_in n bytes = numbers_of (fields_in n bytes)

-- the digit of a weight, a space where the number does not reach it
abbrev pub digit_at : ℕ → ℕ → ℕ
digit_at n weight = cond (nat_lt n weight) 32 (48 + n / weight % 10)

-- a number printed: decimal, at the right behind spaces
abbrev pub column_of : ℕ → List ℕ
column_of n =
    digit_at n 100000 ∷ digit_at n 10000 ∷ digit_at n 1000 ∷ digit_at n 100 ∷ digit_at n 10 ∷ (48 + n % 10) ∷ []

-- Printing and reading agree: what is printed is read again, and nothing else is read as that number.
unfoldable pub ColumnsAgree : Type 0
ColumnsAgree = (n : ℕ) → n ≤ 999999 →
    (number_in (column_of n) ≡ Some (pos n))
    × ((bytes : List ℕ) → length bytes ≡ 6 → number_in bytes ≡ Some (pos n) → bytes ≡ column_of n)

-- So do columns side by side, in their order.
unfoldable pub ColumnsSideBySide : Type 0
ColumnsSideBySide = (ns : List ℕ) → AllByRecursion (λ n. n ≤ 999999) ns → numbers_in (length ns) (flat_map column_of ns) ≡ Ok (map pos ns)
