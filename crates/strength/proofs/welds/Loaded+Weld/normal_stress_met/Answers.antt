use Rattle.std.proofs.Common.{◌^◌, ◌<◌, arith, rules}
use Rattle.std.proofs.lemmas.Nat.{mul-le}
use Rattle.strength.proofs.welds.Loaded+Weld.normal_stress_met.Goals as goal

-- twice the square of a root below 2 to the 63rd is below 2 to the 128th
pub overflow_mul-result-3 : goal.overflow_mul-result-3
overflow_mul-result-3 c =
    let root : c.from-root.result < 2 ^ 63 = search rules in
    omega (arith, mul-le c.from-root.result c.from-root.result (2 ^ 63) (2 ^ 63) (omega arith) (omega arith))
