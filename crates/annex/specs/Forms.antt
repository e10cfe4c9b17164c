-- One lemma for each form of a clause: a smaller left side, or a larger right side, keeps it met.
use Rattle.std.specs.Prelude.{◌≡◌, ℕ, ◌*◌, ◌≤◌, Bool, true, ◌&&◌, ℤ, pos, Option, int_le, nat_le}
use Rattle.std.proofs.Common.{arith}
use Rattle.std.proofs.lemmas.Nat.{mul-le}
use Rattle.std.proofs.lemmas.Bool.Decides.{nat_tests}
use Rattle.components.specs.Numbered.{met_if_any}
use Rattle.strength.specs.Bolts.{root_within}

-- a number against a limit
pub within_lower : (a b l u : ℕ) → a ≤ b → u ≤ l → nat_le b u ≡ true → nat_le a l ≡ true
within_lower a b l u p q e = grind (arith, nat_tests)

-- a weighted root against a limit
pub root_lower : (w v a b l u : ℕ) → w ≤ v → a ≤ b → u ≤ l → root_within v b u ≡ true → root_within w a l ≡ true
root_lower w v a b l u p q r =
    within_lower (w * w * a) (v * v * b) (l * l) (u * u) (mul-le (w * w) a (v * v) b (mul-le w w v v p p) q) (mul-le u u l l r r)

-- a number against a signed limit
pub signed_lower : (a b : ℕ) (z : ℤ) → a ≤ b → int_le (pos b) z ≡ true → int_le (pos a) z ≡ true
signed_lower a b z p e = grind (arith, nat_tests)

-- two tests, each kept
pub both_lower : (a b x y : Bool) → (a ≡ true → x ≡ true) → (b ≡ true → y ≡ true) → (a && b) ≡ true → (x && y) ≡ true
both_lower a b x y p q e = grind arith

-- a clause that may be lacking
pub any_lower : {X : Type 0} (o : Option X) (p q : X → Bool) → ((x : X) → p x ≡ true → q x ≡ true) → met_if_any o p ≡ true → met_if_any o q ≡ true
any_lower o p q h e = grind arith

pub any_met : {X : Type 0} (o : Option X) (p : X → Bool) → ((x : X) → p x ≡ true) → met_if_any o p ≡ true
any_met o p h = grind arith
