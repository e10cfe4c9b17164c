-- What is printed in a column is read again, and nothing else is read as that number.
use Rattle.std.proofs.Common.{◌≡◌, ℕ, zero, suc, ◌+◌, ◌-◌, ◌*◌, ◌/◌, ◌%◌, ◌^◌, ◌<◌, ◌≤◌, eqb, ◌≢◌, List, [], ◌∷◌, map, length, pos, Some, Ok, Option, sym, refl, ap, ◌∙◌, inl, inr, div-lt_iff_lt-mul, pow-suc, le-div_iff_mul-le, div-one, arith, lit<}
use native.Mathlib.Nat.{div-div-eq-div-mul, one-le-pow}
use Rattle.std.proofs.lemmas.Grind.{common_steps}
use Rattle.std.proofs.lemmas.Bool.{cases_Bool, cases_lt, eqb-true, eqb-false, lt-ltb, le-ltb}
use Rattle.std.specs.Option.{option_map, ok_or}
use Rattle.std.specs.List.{flat_map, AllByRecursion}
use Rattle.workshop.specs.Columns.{ColumnsAgree, ColumnsSideBySide, column_of, digit_at, digits_after, fields_in, natural_in, negative, number_in, number_then, numbers_from, signed_in, zero_then}

-- a number printed at the right of k places and one
wide : ℕ → ℕ → List ℕ
wide zero n = (48 + n % 10) ∷ []
wide (suc k) n = digit_at n (10 ^ suc k) ∷ wide k n

ten_div : (n k : ℕ) → n / 10 ^ suc k ≡ n / 10 ^ k / 10
ten_div n k = rw pow-suc (sym (div-div-eq-div-mul n (10 ^ k) 10))

ten_pos : (k : ℕ) → 0 < 10 ^ k
ten_pos k = one-le-pow k 10 (lit< tt)

reached : (n k : ℕ) → 10 ^ k ≤ n → 1 ≤ n / 10 ^ k
reached n k low = grind (arith, common_steps, one-le-pow, le-div_iff_mul-le)

reaches : (n k : ℕ) → 1 ≤ n / 10 ^ k → 10 ^ k ≤ n
reaches n k some = grind (arith, common_steps, one-le-pow, le-div_iff_mul-le)

digit_next : (m d : ℕ) (bs : List ℕ) → d < 10 → digits_after m ((48 + d) ∷ bs) ≡ digits_after (10 * m + d) bs
digit_next m d bs small = grind (arith, common_steps)

tail_read : (k n : ℕ) → 10 ^ k ≤ n → digits_after (n / 10 ^ suc k) (wide k n) ≡ Some n
unfolding wide
tail_read zero n low = digit_next (n / 10) (n % 10) [] (omega arith) ∙ ap Some (omega arith)
tail_read (suc k) n low =
    let shown : digit_at n (10 ^ suc k) ≡ 48 + n / 10 ^ suc k % 10 = rw (le-ltb n (10 ^ suc k) low) in
    let lower : 10 ^ k ≤ n = omega (arith, pow-suc 10 k) in
    ap (λ b. digits_after (n / 10 ^ suc (suc k)) (b ∷ wide k n)) shown
    ∙ digit_next (n / 10 ^ suc (suc k)) (n / 10 ^ suc k % 10) (wide k n) (omega arith)
    ∙ ap (λ m. digits_after m (wide k n)) (omega (arith, ten_div n (suc k)))
    ∙ tail_read k n lower

-- a first digit is no space, no minus and no zero
first_digit : (b : ℕ) (bs : List ℕ) → 49 ≤ b → number_in (b ∷ bs) ≡ option_map pos (digits_after 0 (b ∷ bs))
first_digit b bs high = grind (arith, common_steps)

number_read : (k n : ℕ) → n < 10 ^ suc k → number_in (wide k n) ≡ Some (pos n)
unfolding wide
number_read zero n small = grind (arith, common_steps)
number_read (suc k) n small =
    elim (cases_lt n (10 ^ suc k)) [
      | inl under ↦ rw (lt-ltb n (10 ^ suc k) under) (number_read k n under)
      | inr over ↦
          let low : 1 ≤ n / 10 ^ suc k = reached n (suc k) over in
          let high : n / 10 ^ suc k < 10 = (div-lt_iff_lt-mul (ten_pos (suc k))).1 (omega (arith, pow-suc 10 (suc k))) in
          let digit : n / 10 ^ suc k % 10 ≡ n / 10 ^ suc k = omega arith in
          let shown : digit_at n (10 ^ suc k) ≡ 48 + n / 10 ^ suc k = rw (le-ltb n (10 ^ suc k) over, digit) in
          ap (λ b. number_in (b ∷ wide k n)) shown
          ∙ first_digit (48 + n / 10 ^ suc k) (wide k n) (omega arith)
          ∙ ap (option_map pos) (digit_next 0 (n / 10 ^ suc k) (wide k n) high ∙ ap (λ m. digits_after m (wide k n)) (omega arith)
          ∙ tail_read k n (omega (arith, pow-suc 10 k)))
    ]

digit_split : (b : ℕ) (bs : List ℕ) (m n : ℕ) → digits_after m (b ∷ bs) ≡ Some n →
    (48 ≤ b) × (b ≤ 57) × (digits_after (10 * m + (b - 48)) bs ≡ Some n)
digit_split b bs m n is = grind (arith, common_steps)

-- in front of the digits read last stand those of m
digits_back : (bs : List ℕ) (m n : ℕ) → digits_after m bs ≡ Some n → n / 10 ^ length bs ≡ m
digits_back [] m n is = grind (arith, common_steps, div-one)
digits_back (b ∷ bs) m n is =
    let split = digit_split b bs m n is in
    ten_div n (length bs) ∙ omega (arith, digits_back bs (10 * m + (b - 48)) n split.2)

digits_wide : (b : ℕ) (bs : List ℕ) (m n : ℕ) → digits_after m (b ∷ bs) ≡ Some n → 10 ^ length bs ≤ n → b ∷ bs ≡ wide (length bs) n
unfolding wide
digits_wide b [] m n is low = grind (arith, common_steps)
digits_wide b (c ∷ cs) m n is low =
    let split = digit_split b (c ∷ cs) m n is in
    let front = digits_back (c ∷ cs) (10 * m + (b - 48)) n split.2 in
    let shown : b ≡ digit_at n (10 ^ suc (length cs)) = rw (le-ltb n (10 ^ suc (length cs)) low) (omega arith) in
    ap (λ d. d ∷ c ∷ cs) shown
    ∙ ap (λ ds. digit_at n (10 ^ suc (length cs)) ∷ ds)
    (digits_wide c cs (10 * m + (b - 48)) n split.2 (omega (arith, pow-suc 10 (length cs))))

negative_never : (o : Option ℕ) (n : ℕ) → negative o ≡ Some (pos n) → ⊥
negative_never o n is = grind (arith, common_steps)

mapped_pos : (o : Option ℕ) (n : ℕ) → option_map pos o ≡ Some (pos n) → o ≡ Some n
mapped_pos o n is = grind (arith, common_steps)

-- a text of these bytes is how the number is printed at that width
abbrev Printed : List ℕ → ℕ → ℕ → Type 0
Printed bytes k n = (bytes ≡ wide k n) × (n < 10 ^ suc k)

zero_back : (bs : List ℕ) (n : ℕ) → zero_then bs ≡ Some n → Printed (48 ∷ bs) (length bs) n
unfolding wide
zero_back bs n is = grind (arith, common_steps)

natural_back : (b : ℕ) (bs : List ℕ) (n : ℕ) → natural_in (b ∷ bs) ≡ Some n → Printed (b ∷ bs) (length bs) n
natural_back b bs n is =
    elim (cases_Bool (eqb b 48)) [
      | inl nought ↦
          let back = zero_back bs n (rw nought at is) in
          (ap (λ d. d ∷ bs) (eqb-true b 48 nought) ∙ back.0, back.1)
      | inr other ↦
          let digits : digits_after 0 (b ∷ bs) ≡ Some n = rw other at is in
          let split = digit_split b bs 0 n digits in
          let some : b ≢ 48 = eqb-false b 48 other in
          let low : 10 ^ length bs ≤ n = reaches n (length bs) (omega (arith, digits_back bs (10 * 0 + (b - 48)) n split.2)) in
          let high : n < 1 * 10 ^ suc (length bs) = (div-lt_iff_lt-mul (ten_pos (suc (length bs)))).0 (omega (arith, digits_back (b ∷ bs) 0 n digits)) in
          (digits_wide b bs 0 n digits low, omega arith)
    ]

unspaced_back : (b : ℕ) (bs : List ℕ) (n : ℕ) → signed_in (b ∷ bs) ≡ Some (pos n) → Printed (b ∷ bs) (length bs) n
unspaced_back b bs n is =
    elim (cases_Bool (eqb b 45)) [
      | inl minus ↦ absurd (negative_never (natural_in bs) n (rw minus at is))
      | inr plain ↦ natural_back b bs n (mapped_pos (natural_in (b ∷ bs)) n (rw plain at is))
    ]

number_back : (b : ℕ) (bs : List ℕ) (n : ℕ) → number_in (b ∷ bs) ≡ Some (pos n) → Printed (b ∷ bs) (length bs) n
unfolding wide
number_back b [] n is = grind (arith, common_steps, unspaced_back)
number_back b (c ∷ cs) n is =
    elim (cases_Bool (eqb b 32)) [
      | inl space ↦
          let back = number_back c cs n (rw space at is) in
          let blank : b ≡ digit_at n (10 ^ suc (length cs)) = eqb-true b 32 space ∙ rw (lt-ltb n (10 ^ suc (length cs)) back.1) in (
            ap (λ d. d ∷ c ∷ cs) blank ∙ ap (λ ds. digit_at n (10 ^ suc (length cs)) ∷ ds) back.0,
            omega (arith, back.1, pow-suc 10 (suc (length cs))),
          )
      | inr other ↦ unspaced_back b (c ∷ cs) n (rw other at is)
    ]

only_column : (n : ℕ) (bytes : List ℕ) → length bytes ≡ 6 → number_in bytes ≡ Some (pos n) → bytes ≡ column_of n
unfolding wide
only_column n [] long is = absurd (omega arith)
only_column n (b ∷ bs) long is =
    let five : length bs ≡ 5 = omega arith in
    (number_back b bs n is).0 ∙ ap (λ k. wide k n) five

pub columns_agree : ColumnsAgree
unfolding ColumnsAgree wide
columns_agree n small = (number_read 5 n (omega arith), only_column n)

-- columns side by side are read again, in their order
columns_behind : (i : ℕ) (ns : List ℕ) → AllByRecursion (λ n. n ≤ 999999) ns →
    numbers_from i (fields_in (length ns) (flat_map column_of ns)) ≡ Ok (map pos ns)
unfolding ColumnsAgree
columns_behind i [] small = refl
columns_behind i (n ∷ ns) (first, small) =
    ap (λ o. number_then (ok_or o (record { field = i })) (numbers_from (i + 1) (fields_in (length ns) (flat_map column_of ns)))) (columns_agree n first).0
    ∙ ap (number_then (Ok (pos n))) (columns_behind (i + 1) ns small)

pub columns_side_by_side : ColumnsSideBySide
unfolding ColumnsSideBySide
columns_side_by_side ns small = columns_behind 1 ns small
