-- The worked joints, computed.
use Rattle.std.proofs.Common.{◌≡◌, true, refl, arith}
use Rattle.stock.specs.declared.makes.Make.{Make}
use Rattle.stock.specs.declared.makes.Make.TheVariants.{En, SeA}
use Rattle.layout.specs.declared.BoltClause.{BoltClause}
use Rattle.layout.specs.declared.WeldClause.{WeldClause}
use Rattle.layout.specs.Layout.{bolt_clause_numbered, weld_clause_numbered, bolts_laid_out, weld_laid_out}
use Rattle.strength.specs.declared.BoltClause.{BoltClause as BoltStrength}
use Rattle.strength.specs.declared.WeldClause.{WeldClause as WeldStrength}
use Rattle.strength.specs.Strength.{bolt_clause_numbered as bolt_strength_numbered, weld_clause_numbered as weld_strength_numbered, bolts_hold, welds_hold}
use Rattle.annex.specs.Makes.{ruled}
use Rattle.annex.specs.Worked.{plate_pair, factors_en, layout_j, throats_k, force_1_alone, WorkedJoints}
use Rattle.annex.specs.Forms.{any_met}

joint_laid_out : (m : Make) (clause : BoltClause) → bolts_laid_out m layout_j 10 clause ≡ true
joint_laid_out m clause = grind arith

welds_laid_out : (m : Make) (clause : WeldClause) → weld_laid_out m throats_k 10 clause ≡ true
welds_laid_out m clause = grind arith

joint_holds : (clause : BoltStrength) → bolts_hold (ruled En factors_en) layout_j plate_pair (force_1_alone 3000) clause ≡ true
joint_holds clause = grind arith

weld_holds : (clause : WeldStrength) → welds_hold (ruled En factors_en) throats_k plate_pair (record { s1 = 3000; s2 = 2000; s3 = 0 }) clause ≡ true
weld_holds clause = grind arith

pub worked_joints : WorkedJoints
unfolding WorkedJoints
worked_joints = (
  (
    λ k n. any_met (bolt_clause_numbered k) _ (joint_laid_out En),
    λ k n. any_met (bolt_clause_numbered k) _ (joint_laid_out SeA),
    λ k n. any_met (weld_clause_numbered k) _ (welds_laid_out En),
    λ k n. any_met (weld_clause_numbered k) _ (welds_laid_out SeA),
  ),
  (λ k n. any_met (bolt_strength_numbered k) _ joint_holds, λ k n. any_met (weld_strength_numbered En k) _ weld_holds),
  ((refl, refl), (refl, refl)),
  (refl, refl),
  ((refl, refl), (refl, refl)),
  ((refl, refl), (refl, refl)),
  (refl, refl),
  (refl, refl),
  ((refl, refl), (refl, refl)),
  (refl, refl),
  (refl, refl),
)
