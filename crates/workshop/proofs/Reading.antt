-- Numbers read from columns, a byte and a field at a time.
use Rattle.std.proofs.Common.{ℕ, ◌+◌, ◌^◌, ◌<◌, ◌≤◌, List, ◌++◌, take, drop, ℤ, Ok, Err, Result, arith, lit<}
use native.Mathlib.Nat.{pow-le-pow_right}
use Rattle.workshop.specs.declared.columns.IllFormed.{IllFormed}
use Rattle.workshop.specs.Columns.{numbers_from}

-- what is read so far leaves room for six digits
pub digits_room : (n i : ℕ) → n < 10 ^ i → i ≤ 6 → n < 1000000
digits_room n i small few =
    let le : 10 ^ i ≤ 10 ^ 6 = pow-le-pow_right {n = 10} (lit< tt) few in
    omega arith

-- numbers read before those of the fields behind them
abbrev pub before : List ℤ → Result (List ℤ) IllFormed → Result (List ℤ) IllFormed
before ns (Ok ms) = Ok (ns ++ ms)
before ns (Err e) = Err e

-- what is left to read behind i fields, after the numbers of those
abbrev pub left_after : List (List ℕ) → ℕ → List ℤ → Result (List ℤ) IllFormed
left_after fs i ns = before (take i ns) (numbers_from (i + 1) (drop i fs))
