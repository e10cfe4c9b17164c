-- Clauses go by their numbers.
use Rattle.std.specs.Prelude.{ℕ, Bool, true, cond, Some, None, Option, ◌==◌}

module _ {X : Type 0} where
  -- a list of clauses with their numbers: the clause of that number, or one of the rest
  abbrev pub at_number : ℕ → ℕ → X → Option X → Option X
  at_number k n x rest = cond (k == n) (Some x) rest

  -- a clause that is lacking is met
  abbrev pub met_if_any : Option X → (X → Bool) → Bool
  met_if_any None met = true
  met_if_any (Some x) met = met x
