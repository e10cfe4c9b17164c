-- Text split into lines, each of which a line feed ends.
use Rattle.std.specs.Prelude.{ℕ, suc, ◌-◌, Bool, cond, ◌&&◌, List, [], ◌∷◌, ◌++◌, length, ◌==◌, nat_lt, slice_index}

-- a byte in front of the first line
abbrev pub line_with : ℕ → List (List ℕ) → List (List ℕ)
line_with b [] = []
line_with b (line ∷ more) = (b ∷ line) ∷ more

-- the lines, without their line feeds; what stands behind the last line feed is no line
abbrev pub lines_in : List ℕ → List (List ℕ)
lines_in [] = []
lines_in (b ∷ bs) = cond (b == 10) ([] ∷ lines_in bs) (line_with b (lines_in bs))

-- how many line feeds there are
abbrev pub line_feeds : List ℕ → ℕ
line_feeds [] = 0
line_feeds (b ∷ bs) = cond (b == 10) (suc (line_feeds bs)) (line_feeds bs)

-- there are bytes, and the last is a line feed
abbrev pub ends_line : List ℕ → Bool
ends_line bytes = nat_lt 0 (length bytes) && slice_index bytes (length bytes - 1) == 10

-- a line with its line feed
abbrev pub ended : List ℕ → List ℕ
ended line = line ++ 10 ∷ []
