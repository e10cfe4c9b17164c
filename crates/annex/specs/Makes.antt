-- What the rules of a make, with its partial factors, mean as an annex.
use Rattle.std.specs.Prelude.{◌≤◌, Ok, Result}
use Rattle.stock.specs.declared.makes.Make.{Make}
use Rattle.parts.specs.declared.limits.OutOfLimits.{OutOfLimits}
use Rattle.parts.specs.declared.annexes.AnnexEntry.{AnnexEntry}
use Rattle.parts.specs.declared.annexes.Factors.{Factors}
use Rattle.parts.specs.declared.annexes.Rules.{Rules}
use Rattle.parts.specs.Limits.{and_then}
use Rattle.parts.specs.Entries.{annex_checked}
use Rattle.components.specs.declared.Component.{Component}
use Rattle.layout.specs.Layout.{layout_met}
use Rattle.strength.specs.Strength.{strength_met}
use Rattle.annex.specs.declared.Standard.{Standard}
use Rattle.annex.specs.Meaning.{Meaning}
use Rattle.annex.specs.Facts.{AtLeastAsStrict}

abbrev pub ruled : Make → Factors → Rules
ruled m f = record { make = m; factors = f }

abbrev pub rules_meaning : Rules → Meaning
rules_meaning r = record { layout = layout_met r.make; strength = strength_met r }

-- the standard that an entry chooses, or its first field outside the limits
abbrev pub standard_made : AnnexEntry → Result Standard OutOfLimits
standard_made x = and_then (annex_checked x) (λ r. Ok (record { rules = r }))

-- no factor of the first is smaller than the second's
abbrev pub NoSmaller : Factors → Factors → Type 0
NoSmaller f g = (g.gamma_m0 ≤ f.gamma_m0) × (g.gamma_m2 ≤ f.gamma_m2)

-- with no smaller factors a make is at least as strict, whatever the component
unfoldable pub Stricter : Type 0
Stricter =
    (m : Make) (f g : Factors) → NoSmaller f g → (c : Component) → AtLeastAsStrict (rules_meaning (ruled m f)) (rules_meaning (ruled m g)) c
