-- Looking a record up by its number, and the place where it stands.
use Rattle.std.proofs.Common.{◌≡◌, ℕ, suc, ◌<◌, List, [], ◌∷◌, length, is_some, Some, zero, arith}
use Rattle.std.specs.List.{remove}
use Rattle.std.proofs.lemmas.List.Folds.{find_at}
use Rattle.std.proofs.lemmas.Option.{gets}
use Rattle.register.specs.Held.{place_of, record_of, without}

module _ {R : Type 0} (f : R → ℕ) (k : ℕ) where
  pub place_within : (xs : List R) (i : ℕ) → place_of f k xs ≡ Some i → i < length xs
  place_within xs i e = grind arith

  -- a place is found where a record is
  pub place_known : (xs : List R) → is_some (place_of f k xs) ≡ is_some (record_of f k xs)
  place_known xs = grind (arith, find_at, gets)

  -- taking out the record at the place found
  pub removed_without : (xs : List R) (i : ℕ) → place_of f k xs ≡ Some i → remove xs i ≡ without f k xs
  removed_without [] i e = cc
  removed_without (x ∷ xs) zero e = grind arith
  removed_without (x ∷ xs) (suc i) e = grind (arith, removed_without xs i)

  -- the record found bears the number
  pub record_number : (xs : List R) (x : R) → record_of f k xs ≡ Some x → f x ≡ k
  record_number [] x e = cc
  record_number (y ∷ xs) x e = grind (arith, record_number xs x)
