-- What a register holds in the places lent to it, and what each call makes of them.
-- `f` tells a record's number, `n` is how many places are in use, `xs` is what the places contain.
use Rattle.std.specs.Prelude.{ℕ, ◌+◌, ◌-◌, Bool, true, cond, not, ◌&&◌, List, [], ◌∷◌, ◌++◌, length, take, drop, is_some, Some, None, Ok, Err, Option, Result, ◌==◌, nat_lt, slice_set, find, position}
use Rattle.std.specs.List.{remove}
use Rattle.register.specs.declared.Full.{Full}

-- the one refusal
abbrev pub all_taken : Full
all_taken = record {}

module _ {R : Type 0} where
  -- the records in use: those in the first n places, or all where there are fewer places
  abbrev pub held : ℕ → List R → List R
  held n xs = take n xs

  -- the place of the first record with the number
  abbrev pub place_of : (R → ℕ) → ℕ → List R → Option ℕ
  place_of f k xs = position (λ x. f x == k) xs

  -- the first record with the number
  abbrev pub record_of : (R → ℕ) → ℕ → List R → Option R
  record_of f k xs = find (λ x. f x == k) xs

  -- the records without the first that has the number
  abbrev pub without : (R → ℕ) → ℕ → List R → List R
  without f k [] = []
  without f k (x ∷ xs) = cond (f x == k) xs (x ∷ without f k xs)

  -- no number stands on two of the records
  abbrev pub unrepeated : (R → ℕ) → List R → Bool
  unrepeated f [] = true
  unrepeated f (x ∷ xs) = not (is_some (record_of f (f x) xs)) && unrepeated f xs

  -- adding: the answer, the count and the places afterwards
  abbrev pub adding : ℕ → List R → Result (Unit {0}) Full
  adding n xs = cond (nat_lt n (length xs)) (Ok tt) (Err all_taken)

  abbrev pub count_added : ℕ → List R → ℕ
  count_added n xs = cond (nat_lt n (length xs)) (n + 1) n

  abbrev pub places_added : R → ℕ → List R → List R
  places_added x n xs = cond (nat_lt n (length xs)) (slice_set xs n x) xs

  -- of the first n places, what stands behind `at` moves down by one; the last of them and all places behind keep what they have
  abbrev pub struck : ℕ → ℕ → List R → List R
  struck at n xs = remove (take n xs) at ++ drop (n - 1) xs

  abbrev pub struck_at : Option ℕ → ℕ → List R → List R
  struck_at None n xs = xs
  struck_at (Some at) n xs = struck at n xs

  -- striking by number: the count and the places afterwards
  abbrev pub count_struck : (R → ℕ) → ℕ → ℕ → List R → ℕ
  count_struck f k n xs = cond (is_some (record_of f k (held n xs))) (length (held n xs) - 1) n

  abbrev pub places_struck : (R → ℕ) → ℕ → ℕ → List R → List R
  places_struck f k n xs = struck_at (place_of f k (held n xs)) (length (held n xs)) xs
