-- The number and the details that the report gives to a refusal of the book.
use Rattle.std.specs.Prelude.{ℕ, List, [], ◌∷◌}
use Rattle.parts.specs.declared.limits.OutOfLimits.{OutOfLimits as LimitFault}
use Rattle.register.specs.declared.Full.{Full as NoPlace}
use Rattle.book.specs.declared.refusals.Refusal.{Refusal}
use Rattle.book.specs.declared.refusals.Refusal.TheVariants.{OutOfLimits, InUse, Unknown, Full}

abbrev pub refusal_number : Refusal → ℕ
refusal_number (OutOfLimits field) = 21
refusal_number InUse = 22
refusal_number (Unknown field) = 23
refusal_number Full = 25

abbrev pub refusal_details : Refusal → List ℕ
refusal_details (OutOfLimits field) = field ∷ 0 ∷ 0 ∷ []
refusal_details InUse = 1 ∷ 0 ∷ 0 ∷ []
refusal_details (Unknown field) = field ∷ 0 ∷ 0 ∷ []
refusal_details Full = 0 ∷ 0 ∷ 0 ∷ []

abbrev pub of_limits : LimitFault → Refusal
of_limits o = OutOfLimits o.field

abbrev pub of_full : NoPlace → Refusal
of_full f = Full
