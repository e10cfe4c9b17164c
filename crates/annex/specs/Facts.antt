-- What every annex has to show, and when one annex is at least as strict as another.
use Rattle.std.specs.Prelude.{◌≡◌, ℕ, ◌≤◌, true}
use Rattle.components.specs.declared.Component.{Component}
use Rattle.components.specs.declared.Sizes.{Sizes}
use Rattle.annex.specs.Meaning.{Meaning}

-- the numbers of the layout clauses, and of the strength clauses
abbrev pub IsLayout : ℕ → Type 0
IsLayout k = (11 ≤ k) × (k ≤ 29)

abbrev pub IsStrength : ℕ → Type 0
IsStrength k = (31 ≤ k) × (k ≤ 69)

-- the component meets every layout clause
abbrev pub LaidOut : Meaning → Component → Type 0
LaidOut m c = (k : ℕ) → IsLayout k → m.layout c k ≡ true

-- the component meets every strength clause under these sizes
abbrev pub Withstands : Meaning → Component → Sizes → Type 0
Withstands m c s = (k : ℕ) → IsStrength k → m.strength c k s ≡ true

-- each size is no larger than the one it replaces
abbrev pub NoLarger : Sizes → Sizes → Type 0
NoLarger s t = (s.s1 ≤ t.s1) × (s.s2 ≤ t.s2) × (s.s3 ≤ t.s3)

abbrev pub no_force : Sizes
no_force = record { s1 = 0; s2 = 0; s3 = 0 }

-- The first fact: a strength clause met under three sizes is met under any three, each no larger.
abbrev pub SmallerMet : Meaning → Type 0
SmallerMet m =
    (c : Component) (k : ℕ) → IsStrength k → (s t : Sizes) → NoLarger s t → m.strength c k t ≡ true → m.strength c k s ≡ true

-- The second fact: a component that meets every layout clause meets every strength clause without force.
abbrev pub UnloadedMet : Meaning → Type 0
UnloadedMet m = (c : Component) → LaidOut m c → Withstands m c no_force

-- The first annex is at least as strict as the second for the component: sizes that it withstands under the first it
-- withstands under the second.
abbrev pub AtLeastAsStrict : Meaning → Meaning → Component → Type 0
AtLeastAsStrict m n c = (s : Sizes) → Withstands m c s → Withstands n c s
