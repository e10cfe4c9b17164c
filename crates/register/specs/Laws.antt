-- What adding and striking mean for those who look records up by number.
-- `f` tells a record's number; `before` and `after` are the records in use, n and xs the count and the places before a call, m and ys those after it.
use Rattle.std.specs.Prelude.{◌≡◌, ℕ, ◌≤◌, Bool, true, false, List, [], ◌∷◌, ◌++◌, length, Some, None, Ok, Err, Result, ◌≢◌}
use Rattle.register.specs.declared.Full.{Full}
use Rattle.register.specs.Held.{all_taken, held, record_of, without, unrepeated}

module _ {R : Type 0} where
  -- nothing changed
  abbrev pub Kept : ℕ → List R → ℕ → List R → Type 0
  Kept n xs m ys = (m ≡ n) × (ys ≡ xs)

  -- every other number finds what it found before
  abbrev pub OthersAsBefore : (R → ℕ) → ℕ → List R → List R → Type 0
  OthersAsBefore f k before after = (j : ℕ) → (j ≢ k) → record_of f j after ≡ record_of f j before

  -- the record stands last, behind those before in their order, and is found under its number if that was free
  abbrev pub Added : (R → ℕ) → R → List R → List R → Type 0
  Added f x before after =
      (after ≡ before ++ (x ∷ []))
      × (record_of f (f x) before ≡ None → record_of f (f x) after ≡ Some x)
      × OthersAsBefore f (f x) before after

  -- a record under a free number repeats none
  abbrev pub StaysUnrepeated : (R → ℕ) → R → List R → List R → Type 0
  StaysUnrepeated f x before after = unrepeated f before ≡ true → record_of f (f x) before ≡ None → unrepeated f after ≡ true

  abbrev pub AddedOrKept : (R → ℕ) → R → Result (Unit {0}) Full → ℕ → List R → ℕ → List R → Type 0
  AddedOrKept f x (Ok u) n xs m ys = Added f x (held n xs) (held m ys)
  AddedOrKept f x (Err e) n xs m ys = Kept n xs m ys

  -- refused when every place is taken, and only then
  abbrev pub RefusedWhenFull : Result (Unit {0}) Full → ℕ → List R → Type 0
  RefusedWhenFull r n xs = (r ≡ Err all_taken → length xs ≤ n) × (length xs ≤ n → r ≡ Err all_taken)

  -- the others stay in their order; if no number was repeated, this one is found no more and none is repeated now
  abbrev pub Struck : (R → ℕ) → ℕ → List R → List R → Type 0
  Struck f k before after =
      (after ≡ without f k before)
      × (unrepeated f before ≡ true → (record_of f k after ≡ None) × (unrepeated f after ≡ true))
      × OthersAsBefore f k before after

  abbrev pub StruckOrKept : (R → ℕ) → ℕ → Bool → ℕ → List R → ℕ → List R → Type 0
  StruckOrKept f k true n xs m ys = Struck f k (held n xs) (held m ys)
  StruckOrKept f k false n xs m ys = Kept n xs m ys
