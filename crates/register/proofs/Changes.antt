-- What a record added last and a record taken out mean for looking up by number.
use Rattle.std.proofs.Common.{◌≡◌, ℕ, ◌+◌, append-nil, true, List, [], ◌∷◌, ◌++◌, length, is_some, Some, None, refl, arith}
use Rattle.std.proofs.lemmas.List.Folds.{find-append}
use Rattle.register.specs.Held.{record_of, without, unrepeated}
use Rattle.register.specs.Laws.{OthersAsBefore, Added, StaysUnrepeated, Struck}

module _ {R : Type 0} (f : R → ℕ) where
  pub record_added : (x : R) (xs : List R) → record_of f (f x) xs ≡ None → record_of f (f x) (xs ++ (x ∷ [])) ≡ Some x
  record_added x xs e = grind (arith, find-append {X = R})

  -- a record under another number, between two lists
  record_between : (k : ℕ) (x : R) (xs ys : List R) → (k ≡ f x → ⊥) → record_of f k (xs ++ (x ∷ ys)) ≡ record_of f k (xs ++ ys)
  record_between k x xs ys ne = grind (arith, find-append {X = R})

  pub record_others : (k : ℕ) (x : R) (xs : List R) → (k ≡ f x → ⊥) → record_of f k (xs ++ (x ∷ [])) ≡ record_of f k xs
  record_others k x xs ne = grind (arith, find-append {X = R})

  pub without_unknown : (k : ℕ) (xs : List R) → record_of f k xs ≡ None → without f k xs ≡ xs
  without_unknown k [] e = refl
  without_unknown k (x ∷ xs) e = grind (arith, without_unknown k xs)

  pub length_without : (k : ℕ) (xs : List R) → is_some (record_of f k xs) ≡ true → length (without f k xs) + 1 ≡ length xs
  length_without k [] e = cc
  length_without k (x ∷ xs) e = grind (arith, length_without k xs)

  pub record_without_others : (k : ℕ) (xs : List R) → OthersAsBefore f k xs (without f k xs)
  record_without_others k [] m ne = refl
  record_without_others k (x ∷ xs) m ne = grind (arith, record_without_others k xs m ne)

  pub record_without : (k : ℕ) (xs : List R) → unrepeated f xs ≡ true → record_of f k (without f k xs) ≡ None
  record_without k [] u = refl
  record_without k (x ∷ xs) u = grind (arith, record_without k xs)

  pub unrepeated_without : (k : ℕ) (xs : List R) → unrepeated f xs ≡ true → unrepeated f (without f k xs) ≡ true
  unrepeated_without k [] u = refl
  unrepeated_without k (x ∷ xs) u = grind (arith, unrepeated_without k xs, record_without_others k xs (f x))

  -- a record under a free number, between two lists
  pub unrepeated_between : (x : R) (xs ys : List R) → unrepeated f (xs ++ ys) ≡ true → record_of f (f x) (xs ++ ys) ≡ None → unrepeated f (xs ++ (x ∷ ys)) ≡ true
  unrepeated_between x [] ys u e = grind arith
  unrepeated_between x (y ∷ xs) ys u e = grind (arith, unrepeated_between x xs ys, record_between (f y) x xs ys)

  pub unrepeated_added : (x : R) (xs : List R) → StaysUnrepeated f x xs (xs ++ (x ∷ []))
  unrepeated_added x xs u e = grind (arith, unrepeated_between x xs [], append-nil xs)

  -- the laws, of the lists themselves
  pub added_last : (x : R) (xs : List R) → Added f x xs (xs ++ (x ∷ []))
  added_last x xs = grind (arith, record_added, record_others)

  pub struck_without : (k : ℕ) (xs : List R) → Struck f k xs (without f k xs)
  struck_without k xs = search (arith, record_without, unrepeated_without, record_without_others)
