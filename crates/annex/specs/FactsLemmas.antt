-- The facts of every make.
use Rattle.std.proofs.Common.{arith}
use Rattle.parts.specs.declared.annexes.Rules.{Rules}
use Rattle.annex.specs.Facts.{SmallerMet}
use Rattle.annex.specs.Makes.{rules_meaning, Stricter}
use Rattle.annex.specs.Lighter.{strength_lower}

pub rules_lighter : (r : Rules) → SmallerMet (rules_meaning r)
rules_lighter r c k n s t less = strength_lower r.make r.factors r.factors (omega arith, omega arith) s t less c k

pub stricter : Stricter
unfolding Stricter
stricter m f g less c s holds k n = strength_lower m g f less s s (omega arith, omega arith, omega arith) c k (holds k n)
