-- The places after a record is added or struck.
use Rattle.std.proofs.Common.{◌≡◌, ℕ, ◌+◌, ◌-◌, ◌<◌, ◌≤◌, List, length, take, drop, set, Some, arith, length-take, take-take, take_at}
use Rattle.std.specs.List.{remove, copy_within}
use Rattle.std.proofs.lemmas.List.Edits.{length-remove}
use Rattle.std.proofs.lemmas.Grind.{common_steps}
use Rattle.std.proofs.lemmas.List.{take_more_set, take_min}
use Rattle.std.proofs.lemmas.Slice.{between_is}
use Rattle.register.specs.Held.{held, place_of, without, struck, count_struck, places_struck}
use Rattle.register.specs.Laws.{Added, StaysUnrepeated, Struck}
use Rattle.register.proofs.Search.{place_within, place_known, removed_without}
use Rattle.register.proofs.Changes.{without_unknown, added_last, unrepeated_added, struck_without}

-- the records behind `at` moved down by one
module _ {R : Type 0} (xs : List R) (at : ℕ) where
  pub gap_closed : (n : ℕ) → at < n → copy_within xs (at + 1) n at ≡ struck at n xs
  gap_closed n lt = grind (arith, between_is xs (at + 1) n, take-take at n xs)

  -- what the first n places hold then
  module _ (n : ℕ) (lt : at < n) (le : n ≤ length xs) where
    one_fewer : length (remove (take n xs) at) ≡ n - 1
    one_fewer = grind (arith, length-take n xs, length-remove (take n xs) at)

    pub held_removed : held (n - 1) (struck at n xs) ≡ remove (held n xs) at
    held_removed = take_at (remove (take n xs) at) (drop (n - 1) xs) (n - 1) one_fewer

    pub length_struck : length (struck at n xs) ≡ length xs
    length_struck = grind (arith, common_steps, one_fewer)

module _ {R : Type 0} (n : ℕ) (xs : List R) where
  -- a count past the last place
  pub held_used : held (length (held n xs)) xs ≡ held n xs
  held_used = rw length-take (take_min n xs)

  pub used_within : length (held n xs) ≤ length xs
  used_within = grind (arith, length-take n xs)

  module _ (f : R → ℕ) (k : ℕ) where
    -- the records in use, with one fewer
    pub held_found : (at : ℕ) → place_of f k (held n xs) ≡ Some at → held (length (held n xs) - 1) (struck at (length (held n xs)) xs) ≡ without f k (held n xs)
    held_found at e =
        grind (arith, place_within f k (held n xs) at, held_removed xs at (length (held n xs)), used_within, held_used, removed_without f k (held n xs) at)

    -- the law of a strike, for the places that it leaves
    pub struck_found : (at m : ℕ) (ys : List R) → m ≡ length (held n xs) → ys ≡ copy_within xs (at + 1) m at → place_of f k (held n xs) ≡ Some at → Struck f k (held n xs) (held (m - 1) ys)
    struck_found at m ys used is e =
        let lt : at < m = omega (arith, place_within f k (held n xs) at e) in
        rw (is, gap_closed xs at m lt, used, held_found at e) (struck_without f k (held n xs))

    pub held_struck : held (count_struck f k n xs) (places_struck f k n xs) ≡ without f k (held n xs)
    held_struck =
        grind (arith, place_known f k (held n xs), held_found, without_unknown f k (held n xs))

    pub length_places_struck : length (places_struck f k n xs) ≡ length xs
    length_places_struck =
        grind (arith, place_within f k (held n xs), length_struck xs, used_within)

  module _ (f : R → ℕ) (x : R) (lt : n < length xs) where
    pub added_found : Added f x (held n xs) (held (n + 1) (set xs n x))
    added_found = rw (take_more_set xs n x lt) (added_last f x (held n xs))

    pub added_unrepeated : StaysUnrepeated f x (held n xs) (held (n + 1) (set xs n x))
    added_unrepeated = rw (take_more_set xs n x lt) (unrepeated_added f x (held n xs))
