-- Text split at its line feeds.
use Rattle.std.proofs.Common.{◌≡◌, ℕ, ◌+◌, ◌≤◌, eqb, List, [], ◌∷◌, ◌++◌, length, refl, arith}
use Rattle.std.specs.List.{slice_split, onto_first}
use Rattle.std.proofs.lemmas.Grind.{common_steps}
use Rattle.std.proofs.lemmas.List.{nil_from_length}
use Rattle.std.proofs.lemmas.List.Splits.{length-slice_split}
use Rattle.workshop.specs.Lines.{ended, line_feeds, line_with, lines_in}

-- each line has one line feed
pub lines_count : (bs : List ℕ) → length (lines_in bs) ≡ line_feeds bs
lines_count [] = refl
lines_count (b ∷ bs) = grind (arith, common_steps, lines_count bs)

pub no_lines : (bs : List ℕ) → line_feeds bs ≡ 0 → lines_in bs ≡ []
no_lines bs none = nil_from_length (lines_in bs) (omega (arith, lines_count bs))

pub feeds_append : (fs bs : List ℕ) → line_feeds (fs ++ bs) ≡ line_feeds fs + line_feeds bs
feeds_append [] bs = omega arith
feeds_append (a ∷ fs) bs = grind (arith, common_steps, feeds_append fs bs)

pub lines_first : (line rest : List ℕ) → line_feeds line ≡ 0 → lines_in (line ++ (10 ∷ rest)) ≡ line ∷ lines_in rest
lines_first [] rest none = refl
lines_first (b ∷ bs) rest none = let more = lines_first bs rest in grind (arith, common_steps)

line_onto : (b : ℕ) (ls : List (List ℕ)) → 1 ≤ length ls → line_with b ls ≡ onto_first b ls
line_onto b ls some = grind (arith, common_steps)

-- the parts between line feeds are the lines, where one more line feed ends the last
pub lines_split : (bs : List ℕ) → lines_in (ended bs) ≡ slice_split (λ b. eqb b 10) bs
lines_split [] = refl
lines_split (b ∷ bs) =
    let parts = slice_split (λ c. eqb c 10) bs in
    let onto = line_onto b parts (omega (arith, length-slice_split (λ c. eqb c 10) bs)) in
    grind (arith, common_steps, lines_split bs)
