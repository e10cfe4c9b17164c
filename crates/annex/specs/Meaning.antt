-- What an annex means.
use Rattle.std.specs.Prelude.{ℕ, Bool}
use Rattle.components.specs.declared.Component.{Component}
use Rattle.components.specs.declared.Sizes.{Sizes}

-- The yes or no to every question that can be put to an annex: is a layout clause met by a component, is a strength
-- clause met by it under forces of three sizes. Clauses go by their numbers; one that the annex lacks is met.
pub record Meaning : Type 0 where
  pub layout : Component → ℕ → Bool
  pub strength : Component → ℕ → Sizes → Bool
