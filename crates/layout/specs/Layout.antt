-- Layout clauses: distances of bolts, proportions of welds. They are judged on the component alone.
use Rattle.std.specs.Prelude.{ℕ, ◌+◌, ◌*◌, Bool, ◌&&◌, ◌||◌, None, Option, nat_le}
use Rattle.stock.specs.Tables.{hole_diameter}
use Rattle.stock.specs.declared.makes.Make.{Make}
use Rattle.stock.specs.declared.makes.Make.TheVariants.{En, SeA}
use Rattle.parts.specs.declared.welds.Weld.{Weld}
use Rattle.bolting.specs.declared.bolt_groups.BoltLayout.{BoltLayout}
use Rattle.bolting.specs.declared.bolt_groups.Direction.{Direction}
use Rattle.bolting.specs.declared.bolt_groups.Direction.TheVariants.{Along, Across}
use Rattle.bolting.specs.Layouts.{spacing_in, single}
use Rattle.components.specs.declared.Component.{Component}
use Rattle.components.specs.declared.Component.TheVariants.{Bolted, Welded}
use Rattle.components.specs.Numbered.{at_number, met_if_any}
use Rattle.components.specs.Parts.{thinner}
use Rattle.layout.specs.declared.BoltClause.{BoltClause}
use Rattle.layout.specs.declared.BoltClause.TheVariants.{MinEnd, MinPitch, MaxEnd, MaxPitch}
use Rattle.layout.specs.declared.WeldClause.{WeldClause}
use Rattle.layout.specs.declared.WeldClause.TheVariants.{MinThroat, MaxThroat, MinLength, MinSlenderness, MaxSlenderness}

abbrev pub bolt_clause_numbered : ℕ → Option BoltClause
bolt_clause_numbered k =
    at_number k 11 (MinEnd Along) (at_number k 12 (MinEnd Across)
    (at_number k 13 (MinPitch Along) (at_number k 14 (MinPitch Across)
    (at_number k 15 (MaxEnd Along) (at_number k 16 (MaxEnd Across)
    (at_number k 17 (MaxPitch Along) (at_number k 18 (MaxPitch Across) None)))))))

abbrev pub weld_clause_numbered : ℕ → Option WeldClause
weld_clause_numbered k =
    at_number k 21 MinThroat (at_number k 22 MaxThroat (at_number k 23 MinLength
    (at_number k 24 MinSlenderness (at_number k 25 MaxSlenderness None))))

-- least e1 and e2, tenths of d0
abbrev pub min_end : Make → Direction → ℕ
min_end m Along = 12
min_end En Across = 12
min_end SeA Across = 15

-- least p1 and p2, tenths of d0
abbrev pub min_pitch : Make → Direction → ℕ
min_pitch m Along = 22
min_pitch En Across = 24
min_pitch SeA Across = 30

-- least length of a weld, mm
abbrev pub min_length : Make → ℕ
min_length En = 30
min_length SeA = 40

-- a distance in mm is at least so many tenths of d0
abbrev pub in_holes : ℕ → ℕ → ℕ → Bool
in_holes distance tenths d0 = nat_le (tenths * d0) (10 * distance)

-- t is the thickness of the thinner plate; a pitch is judged only where there are two lines or more
abbrev pub bolts_laid_out : Make → BoltLayout → ℕ → BoltClause → Bool
bolts_laid_out m g t (MinEnd d) = in_holes (spacing_in d g).end (min_end m d) (hole_diameter g.size)
bolts_laid_out m g t (MinPitch d) = single (spacing_in d g) || in_holes (spacing_in d g).pitch (min_pitch m d) (hole_diameter g.size)
bolts_laid_out m g t (MaxEnd d) = nat_le (spacing_in d g).end (4 * t + 40)
bolts_laid_out m g t (MaxPitch d) = single (spacing_in d g) || (nat_le (spacing_in d g).pitch (14 * t) && nat_le (spacing_in d g).pitch 200)

-- a throat is in tenths of a mm, t and L in mm: 3 mm ≤ a ≤ 0.7 t, and 6 a ≤ L ≤ 150 a
abbrev pub weld_laid_out : Make → Weld → ℕ → WeldClause → Bool
weld_laid_out m w t MinThroat = nat_le 30 w.throat
weld_laid_out m w t MaxThroat = nat_le w.throat (7 * t)
weld_laid_out m w t MinLength = nat_le (min_length m) w.length
weld_laid_out m w t MinSlenderness = nat_le (6 * w.throat) (10 * w.length)
weld_laid_out m w t MaxSlenderness = nat_le w.length (15 * w.throat)

abbrev pub layout_met : Make → Component → ℕ → Bool
layout_met m (Bolted g p) k = met_if_any (bolt_clause_numbered k) (bolts_laid_out m g.layout (thinner p))
layout_met m (Welded w p) k = met_if_any (weld_clause_numbered k) (weld_laid_out m w (thinner p))
